-- Laws of locks and posts: what they have to do with a journal and its control.
use Rattle.std.specs.Prelude.{ℕ, ◌≡◌, ◌<◌, ◌≤◌, ◌==◌, ◌+◌, true, false, ◌&&◌, cond, List, [], ◌∷◌, ◌++◌, length, map}
use Rattle.std.specs.List.{count_by}
use Rattle.loom_trace.specs.declared.entry.Entry.{Entry}
use Rattle.loom_trace.specs.declared.entry.What.{What}
use Rattle.loom_trace.specs.declared.entry.What.TheVariants as w
use Rattle.loom_trace.specs.declared.entry.Entry.TheVariants as e
use Rattle.loom_command.specs.FilterFault.{most_events}
use Rattle.loom_law.specs.Filter.{Plan, is_alone, before_in, waits}
use Rattle.loom_law.specs.Walk.{Version, Plans}
use Rattle.loom_law.specs.Control.{Command, have_one_name, Control, first_control, after_entry, is_post}
use Rattle.loom_law.specs.Lawful.{Setting, Front, plans, Lacks, HasPosts, IsHeldOff, is_held_by, is_installed}
use Rattle.loom_ops.specs.declared.answer.OpAnswer.{OpAnswer}
use Rattle.loom_ops.specs.Ops.{Ops, has_filter, has_alone, is_holder, owns, no_filters, locks_in, with_filter, without_filter, with_holder, free_clause, with_post, order_before, posts_at, KeepsLocks}
use Rattle.loom_ops.specs.Answer.{AnswersWait, is_short}

-- These filters are installed, with their plans, and these threads hold clauses.
pub record IsOpsOf (plans : Plans) (c : Control) (o : Ops) : Type 0 where
  pub filters : o.filters ≡ map (λ (k : ℕ). locks_in k (plans k)) c.version.active
  pub holders : o.holders ≡ c.holders

-- The posts of the installed filters are those that the journal has. In a lawful journal an event isn't posted before its filter is installed.
abbrev pub HasPostsOf : List Entry → Control → Ops → Type 0
HasPostsOf es c o = (k n : ℕ) → is_installed c k ≡ true → posts_at o.posts k n ≡ count_by (is_post k n) es

-- What is told of the thing that a thread asks for is what the front says: who holds clauses, or which event stands before this one, and how often
-- the filter's events were posted.
abbrev pub IsToldOf : Setting → Front → Ops → What → Type 0
IsToldOf s f o (w.Enter k c) = f.control.holders ≡ o.holders
IsToldOf s f o (w.Wait k n) = (order_before o.filters k n ≡ before_in n (Plan.rulings (plans s k))) × ((m : ℕ) → posts_at o.posts k m ≡ count_by (is_post k m) f.entries)
IsToldOf s f o _ = ⊥

-- Replay

-- What an entry does to the control, the calls do to the locks.
pub record HasReplay : Type 0 where
  pub first : (plans : Plans) → IsOpsOf plans first_control no_filters
  pub enter : (plans : Plans) (cs : List Command) (c : Control) (o : Ops) (t l k n : ℕ) → IsOpsOf plans c o
      → IsOpsOf plans (after_entry cs c (e.Enter t l k n)) (with_holder o k n t)
  pub leave : (plans : Plans) (cs : List Command) (c : Control) (o : Ops) (t l k n : ℕ) → IsOpsOf plans c o
      → IsOpsOf plans (after_entry cs c (e.Leave t l k n)) (free_clause o k n)
  pub install : (plans : Plans) (cs : List Command) (c : Control) (o : Ops) (k v : ℕ) (row : List ℕ) → IsOpsOf plans c o
      → IsOpsOf plans (after_entry cs c (e.Installed k v row)) (with_filter o k (plans k))
  -- command j removes the filter of its name, which command k installed
  pub remove : (plans : Plans) (cs : List Command) (c : Control) (o : Ops) (j v k : ℕ) (row : List ℕ) → IsOpsOf plans c o → KeepsLocks o
      → ((i : ℕ) → is_installed c i ≡ true → have_one_name cs i j ≡ (i == k))
      → IsOpsOf plans (after_entry cs c (e.Removed j v row)) (without_filter o k)

-- So it is with posts. An install begins at 0, where none of its events was posted before; a removal forgets.
pub record HasPostReplay : Type 0 where
  pub first : HasPostsOf [] first_control no_filters
  pub post : (cs : List Command) (es : List Entry) (c : Control) (o : Ops) (t l k n : ℕ) → HasPostsOf es c o → KeepsLocks o → has_filter o.filters k ≡ true → 0 < n
      → n ≤ most_events → HasPostsOf (es ++ e.Post t l k n ∷ []) (after_entry cs c (e.Post t l k n)) (with_post o k n)
  pub install : (cs : List Command) (es : List Entry) (c : Control) (o : Ops) (k v : ℕ) (row : List ℕ) (f : Plan) → HasPostsOf es c o → KeepsLocks o
      → has_filter o.filters k ≡ false → ((n : ℕ) → count_by (is_post k n) es ≡ 0)
      → HasPostsOf (es ++ e.Installed k v row ∷ []) (after_entry cs c (e.Installed k v row)) (with_filter o k f)
  -- command j removes the filter of its name, which command k installed
  pub remove : (cs : List Command) (es : List Entry) (c : Control) (o : Ops) (j v k : ℕ) (row : List ℕ) → HasPostsOf es c o
      → ((i : ℕ) → is_installed c i ≡ true → have_one_name cs i j ≡ (i == k))
      → HasPostsOf (es ++ e.Removed j v row ∷ []) (after_entry cs c (e.Removed j v row)) (without_filter o k)
  -- an entry that is no post, and changes no filter
  pub other : (cs : List Command) (es : List Entry) (c : Control) (o p : Ops) (x : Entry) → HasPostsOf es c o → p.posts ≡ o.posts
      → Version.active (Control.version (after_entry cs c x)) ≡ Version.active c.version → ((k n : ℕ) → is_post k n x ≡ false) → HasPostsOf (es ++ x ∷ []) (after_entry cs c x) p

-- Counts of posts

-- A post counts once for its event, and for no other one. An install begins at none, a removal leaves none, and both leave the other filters' alone.
pub record HasPostCounts : Type 0 where
  pub post : (o : Ops) (k n j m : ℕ) → KeepsLocks o → has_filter o.filters k ≡ true → 0 < n → n ≤ most_events
      → posts_at (Ops.posts (with_post o k n)) j m ≡ posts_at o.posts j m + cond ((k == j) && (n == m)) 1 0
  pub install : (o : Ops) (k n : ℕ) (f : Plan) → KeepsLocks o → has_filter o.filters k ≡ false → posts_at (Ops.posts (with_filter o k f)) k n ≡ 0
  pub installed_beside : (o : Ops) (k j n : ℕ) (f : Plan) → (j == k) ≡ false → posts_at (Ops.posts (with_filter o k f)) j n ≡ posts_at o.posts j n
  pub remove : (o : Ops) (k n : ℕ) → posts_at (Ops.posts (without_filter o k)) k n ≡ 0
  pub removed_beside : (o : Ops) (k j n : ℕ) → (j == k) ≡ false → posts_at (Ops.posts (without_filter o k)) j n ≡ posts_at o.posts j n

-- Waits

-- What is told of what a thread asks for is what the front says, where filters, holders and posts are those of the front; and a wait is over exactly
-- where the journal has the posts of the event before.
pub record HasOrderWaits : Type 0 where
  pub clause : (s : Setting) (f : Front) (o : Ops) (k n : ℕ) → IsOpsOf (plans s) f.control o → IsToldOf s f o (w.Enter k n)
  pub event : (s : Setting) (f : Front) (o : Ops) (k n : ℕ) → IsOpsOf (plans s) f.control o → HasPostsOf f.entries f.control o → is_installed f.control k ≡ true → 0 < n
      → n ≤ length (Plan.watches (plans s k)) → IsToldOf s f o (w.Wait k n)
  pub short : (s : Setting) (f : Front) (o : Ops) (k n : ℕ) (r : OpAnswer) → IsToldOf s f o (w.Wait k n) → AnswersWait (order_before o.filters k n) (posts_at o.posts k) r
      → is_short r ≡ true → Lacks f k (before_in n (Plan.rulings (plans s k)))
  pub enough : (s : Setting) (f : Front) (o : Ops) (k n : ℕ) (r : OpAnswer) → IsToldOf s f o (w.Wait k n) → AnswersWait (order_before o.filters k n) (posts_at o.posts k) r
      → is_short r ≡ false → waits (plans s k) n ≡ true → HasPosts f.entries k (before_in n (Plan.rulings (plans s k)))
  pub over : (s : Setting) (f : Front) (o : Ops) (k n : ℕ) (r : OpAnswer) → IsToldOf s f o (w.Wait k n) → AnswersWait (order_before o.filters k n) (posts_at o.posts k) r
      → HasPosts f.entries k (before_in n (Plan.rulings (plans s k))) → is_short r ≡ false

-- What is told

-- What the locks say of filters and clauses the control says.
pub record HasSameWords : Type 0 where
  pub installed : (plans : Plans) (c : Control) (o : Ops) (k : ℕ) → IsOpsOf plans c o → has_filter o.filters k ≡ is_installed c k
  pub count : (plans : Plans) (c : Control) (o : Ops) → IsOpsOf plans c o → length o.filters ≡ length (Version.active c.version)
  pub holds : (plans : Plans) (c : Control) (o : Ops) (k n t : ℕ) → IsOpsOf plans c o → is_holder o.holders k n t ≡ is_held_by c k n t
  pub alone : (plans : Plans) (c : Control) (o : Ops) (k n : ℕ) → IsOpsOf plans c o → has_alone o.filters k n ≡ (is_installed c k && is_alone (plans k) n)
  -- an event of the filter
  pub before : (plans : Plans) (c : Control) (o : Ops) (k n : ℕ) → IsOpsOf plans c o → is_installed c k ≡ true → 0 < n → n ≤ length (Plan.watches (plans k))
      → order_before o.filters k n ≡ before_in n (Plan.rulings (plans k))

-- A thread is held off exactly where another one owns something.
pub record HasOwners : Type 0 where
  pub off : (s : Setting) (f : Front) (o : Ops) (t u : ℕ) → IsOpsOf (plans s) f.control o → owns o u ≡ true → (u == t) ≡ false → IsHeldOff s f t
  pub on : (s : Setting) (f : Front) (o : Ops) (t : ℕ) → IsOpsOf (plans s) f.control o → KeepsLocks o → IsHeldOff s f t
      → (u : ℕ) × ((owns o u ≡ true) × ((u == t) ≡ false))

-- At most one thread holds a clause, and its filter is installed; at most one thread owns something.
pub record HasOneHolderEach : Type 0 where
  pub one : (o : Ops) (k n t u : ℕ) → KeepsLocks o → is_holder o.holders k n t ≡ true → is_holder o.holders k n u ≡ true → t ≡ u
  pub there : (o : Ops) (k n t : ℕ) → KeepsLocks o → is_holder o.holders k n t ≡ true → has_filter o.filters k ≡ true
  pub frees : (o : Ops) (k n t : ℕ) → is_holder (Ops.holders (without_filter o k)) k n t ≡ false
