-- The installed filters: their clauses and who holds them, their orders and how often each event was posted.
use Rattle.std.specs.Prelude.{ℕ, zero, suc, ◌≡◌, ◌≤◌, ◌==◌, Bool, true, false, not, ◌&&◌, List, [], ◌∷◌, ◌++◌, length, map, replicate, slice_get, slice_index_or, slice_set, if◌then◌else◌, Option, Some, None}
use Rattle.std.specs.List.{AllByRecursion, IsDistinct, filter, list_any}
use Rattle.loom_command.specs.FilterFault.{most_clauses, most_events}
use Rattle.loom_law.specs.Filter.{Plan, is_some, is_unilateral, numbers, before_in}
use Rattle.loom_law.specs.Control.{Holder, without_holder}
use Rattle.loom_law.specs.Lawful.{filter_limit}

-- A filter: of each of its clauses, whether it is `r <> *`, and of each of its events the one before it in its order, with its count.
pub record FilterLocks : Type 0 where
  pub number : ℕ
  pub alone : List Bool
  pub befores : List (Option (ℕ × ℕ))

-- how often each event of a filter was posted
pub record PostTable : Type 0 where
  pub number : ℕ
  pub counts : List ℕ

pub record Ops : Type 0 where
  -- as they were installed, one behind the other
  pub filters : List FilterLocks
  -- the newest one first
  pub holders : List Holder
  -- one for each filter, in the same order
  pub posts : List PostTable

-- What there is

-- what is said of a clause, counted from 1
abbrev pub flag_of : List Bool → ℕ → Option Bool
flag_of bs zero = None
flag_of bs (suc n) = slice_get bs n

abbrev pub is_yes : Option Bool → Bool
is_yes None = false
is_yes (Some b) = b

abbrev pub has_filter : List FilterLocks → ℕ → Bool
has_filter fs k = list_any (λ (f : FilterLocks). f.number == k) fs

-- filter k is there, and has the clause
abbrev pub has_lock : List FilterLocks → ℕ → ℕ → Bool
has_lock fs k c = list_any (λ (f : FilterLocks). (f.number == k) && is_some (flag_of f.alone c)) fs

-- filter k is there, and its clause is `r <> *`
abbrev pub has_alone : List FilterLocks → ℕ → ℕ → Bool
has_alone fs k c = list_any (λ (f : FilterLocks). (f.number == k) && is_yes (flag_of f.alone c)) fs

-- Orders and posts

-- how often an event may be posted
abbrev pub most_posts : ℕ
most_posts = 1000000

abbrev pub flat_option : Option (Option (ℕ × ℕ)) → Option (ℕ × ℕ)
flat_option None = None
flat_option (Some x) = x

-- the event before this one, counted from 1
abbrev pub before_of : List (Option (ℕ × ℕ)) → ℕ → Option (ℕ × ℕ)
before_of bs zero = None
before_of bs (suc n) = flat_option (slice_get bs n)

-- the event of filter k before this one in its order, and how often it must be posted before a wait for this one is over
abbrev pub order_before : List FilterLocks → ℕ → ℕ → Option (ℕ × ℕ)
order_before [] k n = None
order_before (f ∷ fs) k n = if f.number == k then before_of f.befores n else order_before fs k n

-- how often an event was posted, counted from 1
abbrev pub posts_of : List ℕ → ℕ → ℕ
posts_of cs zero = 0
posts_of cs (suc n) = slice_index_or cs n 0

-- how often an event of filter k was posted
abbrev pub posts_at : List PostTable → ℕ → ℕ → ℕ
posts_at [] k n = 0
posts_at (t ∷ ts) k n = if t.number == k then posts_of t.counts n else posts_at ts k n

-- the table of filter k with these counts
abbrev pub table_in : ℕ → List ℕ → PostTable
table_in k cs = record { number = k; counts = cs }

-- an event was posted once more
abbrev pub table_with : PostTable → ℕ → PostTable
table_with t zero = t
table_with t (suc n) = table_in t.number (slice_set t.counts n (suc (slice_index_or t.counts n 0)))

-- an event of filter k was posted once more
abbrev pub tables_with : List PostTable → ℕ → ℕ → List PostTable
tables_with [] k n = []
tables_with (t ∷ ts) k n = if t.number == k then table_with t n ∷ ts else t ∷ tables_with ts k n

abbrev pub empty_table : ℕ → PostTable
empty_table k = table_in k (replicate most_events 0)

-- Who holds what

-- some thread holds the clause
abbrev pub has_holder : List Holder → ℕ → ℕ → Bool
has_holder hs k c = list_any (λ (h : Holder). (h.filter == k) && (h.clause == c)) hs

-- thread t holds the clause
abbrev pub is_holder : List Holder → ℕ → ℕ → ℕ → Bool
is_holder hs k c t = list_any (λ (h : Holder). (h.filter == k) && ((h.clause == c) && (h.thread == t))) hs

-- thread t holds a clause that is `r <> *`
abbrev pub owns : Ops → ℕ → Bool
owns o t = list_any (λ (h : Holder). has_alone o.filters h.filter h.clause && (h.thread == t)) o.holders

-- What changes

abbrev pub no_filters : Ops
no_filters = record { filters = []; holders = []; posts = [] }

-- of each event of a filter, the one before it in its order, with its count
abbrev pub befores_in : Plan → List (Option (ℕ × ℕ))
befores_in f = map (λ (n : ℕ). before_in n f.rulings) (numbers 1 f.watches)

abbrev pub locks_in : ℕ → Plan → FilterLocks
locks_in k f = record { number = k; alone = map is_unilateral f.rulings; befores = befores_in f }

-- none of its events was posted yet
abbrev pub with_filter : Ops → ℕ → Plan → Ops
with_filter o k f = record o { filters = o.filters ++ locks_in k f ∷ []; posts = o.posts ++ empty_table k ∷ [] }

-- its clauses are free, and its posts forgotten
abbrev pub without_filter : Ops → ℕ → Ops
without_filter o k = record {
  filters = filter (λ (f : FilterLocks). not (f.number == k)) o.filters;
  holders = filter (λ (h : Holder). not (h.filter == k)) o.holders;
  posts = filter (λ (t : PostTable). not (t.number == k)) o.posts;
}

abbrev pub with_holder : Ops → ℕ → ℕ → ℕ → Ops
with_holder o k c t = record o { holders = record { filter = k; clause = c; thread = t } ∷ o.holders }

abbrev pub free_clause : Ops → ℕ → ℕ → Ops
free_clause o k c = record o { holders = without_holder k c o.holders }

abbrev pub with_post : Ops → ℕ → ℕ → Ops
with_post o k n = record o { posts = tables_with o.posts k n }

-- What holds always

-- both hold the same clause
abbrev pub have_one_clause : Holder → Holder → Bool
have_one_clause g h = (h.filter == g.filter) && (h.clause == g.clause)

-- the numbers of the filters whose posts are counted
abbrev pub table_numbers : List PostTable → List ℕ
table_numbers ts = map (λ (t : PostTable). t.number) ts

abbrev pub filter_numbers : List FilterLocks → List ℕ
filter_numbers fs = map (λ (f : FilterLocks). f.number) fs

-- There are no more filters and clauses than there may be; who holds a clause holds one that is there, and no other thread holds it; at most one thread
-- holds clauses that are `r <> *`. The posts of each filter are counted, for as many events as there may be.
pub record KeepsLocks (o : Ops) : Type 0 where
  pub few : length o.filters ≤ filter_limit
  pub small : AllByRecursion (λ (f : FilterLocks). length f.alone ≤ most_clauses) o.filters
  pub there : AllByRecursion (λ (h : Holder). has_lock o.filters h.filter h.clause ≡ true) o.holders
  pub one : IsDistinct have_one_clause o.holders
  pub owner : (t u : ℕ) → owns o t ≡ true → owns o u ≡ true → t ≡ u
  pub tables : table_numbers o.posts ≡ filter_numbers o.filters
  pub wide : AllByRecursion (λ (t : PostTable). length t.counts ≡ most_events) o.posts
