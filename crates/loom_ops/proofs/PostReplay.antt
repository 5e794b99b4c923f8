-- The posts of a journal, and what the calls count.
use Rattle.std.proofs.Common.{ℕ, zero, suc, ◌+◌, ◌≡◌, ◌==◌, if◌then◌else◌, Bool, true, false, not, ◌&&◌, ◌||◌, cond, List, [], ◌∷◌, ◌++◌, replicate, slice_index_or, refl, sym, ap, ◌∙◌, subst, zero-add, add-zero}
use Rattle.std.specs.List.{filter, count_by}
use Rattle.std.proofs.lemmas.Bool.{and_parts}
use Rattle.std.proofs.lemmas.List.Sums.{sum_by-append}
use Rattle.std.proofs.lemmas.List.Folds.{list_any-append}
use Rattle.std.proofs.lemmas.Map.Views.{any-filter_same}
use Rattle.loom_trace.specs.declared.entry.Entry.{Entry}
use Rattle.loom_trace.specs.declared.entry.Entry.TheVariants as d
use Rattle.loom_command.specs.FilterFault.{most_events}
use Rattle.loom_law.specs.Filter.{has}
use Rattle.loom_law.specs.Walk.{Version}
use Rattle.loom_law.specs.Control.{Command, have_one_name, left_by, is_post}
use Rattle.loom_law.proofs.Holdings.{same_number}
use Rattle.loom_ops.specs.Ops.{FilterLocks, PostTable, has_filter, posts_of, posts_at, empty_table, table_numbers, filter_numbers}
use Rattle.loom_ops.specs.Laws.{HasPostReplay, HasPostCounts}
use Rattle.loom_ops.proofs.PostTables.{swap, post_told}

-- One entry more

count_more : (p : Entry → Bool) (es : List Entry) (x : Entry) → count_by p (es ++ x ∷ []) ≡ count_by p es + cond (p x) 1 0
count_more p es x = sum_by-append (λ y. cond (p y) 1 0) es (x ∷ []) ∙ ap (λ z. count_by p es + z) (zero-add (cond (p x) 1 0))

same_count : (p : Entry → Bool) (es : List Entry) (x : Entry) → p x ≡ false → count_by p (es ++ x ∷ []) ≡ count_by p es
same_count p es x out = count_more p es x ∙ (ap (λ (b : Bool). count_by p es + cond b 1 0) out ∙ add-zero (count_by p es))

-- Which filters have tables

same_numbers : (fs : List FilterLocks) (k : ℕ) → has (filter_numbers fs) k ≡ has_filter fs k
same_numbers [] k = refl
same_numbers (f ∷ fs) k = ap (λ z. (f.number == k) || z) (same_numbers fs k)

pub has_table : (ts : List PostTable) (fs : List FilterLocks) (k : ℕ) → table_numbers ts ≡ filter_numbers fs → has (table_numbers ts) k ≡ has_filter fs k
has_table ts fs k are = ap (λ (z : List ℕ). has z k) are ∙ same_numbers fs k

-- A table more

zeros : (m i : ℕ) → slice_index_or (replicate m zero) i zero ≡ zero
zeros zero zero = refl
zeros zero (suc i) = refl
zeros (suc m) zero = refl
zeros (suc m) (suc i) = zeros m i

no_posts : (n : ℕ) → posts_of (replicate most_events 0) n ≡ 0
no_posts zero = refl
no_posts (suc i) = zeros most_events i

pub new_posts : (ts : List PostTable) (k n : ℕ) → has (table_numbers ts) k ≡ false → posts_at (ts ++ empty_table k ∷ []) k n ≡ 0
new_posts [] k n h = either (k == k) (posts_of (replicate most_events 0) n) (no_posts n)
  where
    either : (b : Bool) (x : ℕ) → x ≡ 0 → (if b then x else 0) ≡ 0
    either true x e = e
    either false x e = refl
new_posts (t ∷ ts) k n h = step (t.number == k) h (λ g. new_posts ts k n g)
  where
    step : (b : Bool) → (b || has (table_numbers ts) k) ≡ false → (has (table_numbers ts) k ≡ false → posts_at (ts ++ empty_table k ∷ []) k n ≡ 0)
        → (if b then posts_of t.counts n else posts_at (ts ++ empty_table k ∷ []) k n) ≡ 0
    step true h g = absurd cc
    step false h g = g h

old_posts : (ts : List PostTable) (k j n : ℕ) → (k == j) ≡ false → posts_at (ts ++ empty_table k ∷ []) j n ≡ posts_at ts j n
old_posts [] k j n h = ap (λ (b : Bool). if b then posts_of (replicate most_events 0) n else 0) h
old_posts (t ∷ ts) k j n h = ap (λ z. if t.number == j then posts_of t.counts n else z) (old_posts ts k j n h)

install_posts : (es : List Entry) (ks : List ℕ) (ts : List PostTable) (k v j m : ℕ) (row : List ℕ) → ((i n : ℕ) → has ks i ≡ true → posts_at ts i n ≡ count_by (is_post i n) es)
    → has (table_numbers ts) k ≡ false → ((n : ℕ) → count_by (is_post k n) es ≡ 0) → has (ks ++ k ∷ []) j ≡ true
    → posts_at (ts ++ empty_table k ∷ []) j m ≡ count_by (is_post j m) (es ++ d.Installed k v row ∷ [])
install_posts es ks ts k v j m row are fresh none here =
    step (k == j) (λ e. same_number k j e) (λ e. e) (λ e. only (has ks j) (k == j) e (sym (list_any-append (λ z. z == j) ks (k ∷ [])) ∙ here))
    ∙ sym (same_count (is_post j m) es (d.Installed k v row) refl)
  where
    only : (a b : Bool) → b ≡ false → (a || (b || false)) ≡ true → a ≡ true
    only true b e h = refl
    only false true e h = absurd cc
    only false false e h = h

    step : (b : Bool) → (b ≡ true → k ≡ j) → (b ≡ false → (k == j) ≡ false) → (b ≡ false → has ks j ≡ true)
        → posts_at (ts ++ empty_table k ∷ []) j m ≡ count_by (is_post j m) es
    step true f g h = subst (λ z. posts_at (ts ++ empty_table k ∷ []) z m ≡ count_by (is_post z m) es) (f refl) (new_posts ts k m fresh ∙ sym (none m))
    step false f g h = old_posts ts k j m (g refl) ∙ are j m (h refl)

-- A table less

left_posts : (ts : List PostTable) (k j n : ℕ) → (j == k) ≡ false → posts_at (filter (λ (t : PostTable). not (t.number == k)) ts) j n ≡ posts_at ts j n
left_posts [] k j n h = refl
left_posts (t ∷ ts) k j n h =
    step (t.number == k) (filter (λ (t : PostTable). not (t.number == k)) ts) (λ e. ap (λ z. z == j) (same_number t.number k e) ∙ (swap k j ∙ h)) (left_posts ts k j n h)
  where
    step : (a : Bool) (rest : List PostTable) → (a ≡ true → (t.number == j) ≡ false) → posts_at rest j n ≡ posts_at ts j n
        → posts_at (cond (not a) (t ∷ rest) rest) j n ≡ (if t.number == j then posts_of t.counts n else posts_at ts j n)
    step true rest f ih = ih ∙ sym (ap (λ (b : Bool). if b then posts_of t.counts n else posts_at ts j n) (f refl))
    step false rest f ih = ap (λ z. if t.number == j then posts_of t.counts n else z) ih

gone_posts : (ts : List PostTable) (k n : ℕ) → posts_at (filter (λ (t : PostTable). not (t.number == k)) ts) k n ≡ 0
gone_posts [] k n = refl
gone_posts (t ∷ ts) k n = step (t.number == k) (filter (λ (t : PostTable). not (t.number == k)) ts) (λ e. e) (gone_posts ts k n)
  where
    step : (a : Bool) (rest : List PostTable) → (a ≡ false → (t.number == k) ≡ false) → posts_at rest k n ≡ 0 → posts_at (cond (not a) (t ∷ rest) rest) k n ≡ 0
    step true rest f ih = ih
    step false rest f ih = ap (λ (b : Bool). if b then posts_of t.counts n else posts_at rest k n) (f refl) ∙ ih

-- a filter that stays was there, and has another name
stays : (cs : List Command) (j : ℕ) (ks : List ℕ) (i : ℕ) → has (left_by cs j ks) i ≡ true → (has ks i ≡ true) × (have_one_name cs i j ≡ false)
stays cs j ks i h =
    let cut : has (left_by cs j ks) i ≡ (not (have_one_name cs i j) && has ks i)
    = any-filter_same (λ (m : ℕ). m == i) (λ (m : ℕ). not (have_one_name cs m j)) (not (have_one_name cs i j)) (λ m e. ap (λ z. not (have_one_name cs z j)) (same_number m i e)) ks in
    let both = and_parts (not (have_one_name cs i j)) (has ks i) (sym cut ∙ h) in
    (both.1, other (have_one_name cs i j) both.0)
  where
    other : (b : Bool) → not b ≡ true → b ≡ false
    other true e = absurd cc
    other false e = refl

-- Counts

pub post_counts : HasPostCounts
post_counts = record {
  post = λ o k n j m keeps there low high. post_told o.posts k n j m (has_table o.posts o.filters k keeps.tables ∙ there) keeps.wide low high;
  install = λ o k n f keeps new. new_posts o.posts k n (has_table o.posts o.filters k keeps.tables ∙ new);
  installed_beside = λ o k j n f apart. old_posts o.posts k j n (swap k j ∙ apart);
  remove = λ o k n. gone_posts o.posts k n;
  removed_beside = λ o k j n apart. left_posts o.posts k j n apart;
}

-- Replay

pub post_replay : HasPostReplay
post_replay = record {
  first = λ k n there. absurd cc;
  post = λ cs es c o t l k n are keeps there low high j m here.
      post_told o.posts k n j m (has_table o.posts o.filters k keeps.tables ∙ there) keeps.wide low high
      ∙ (ap (λ z. z + cond ((k == j) && (n == m)) 1 0) (are j m here) ∙ sym (count_more (is_post j m) es (d.Post t l k n)));
  install = λ cs es c o k v row f are keeps new none j m here.
      install_posts es (Version.active c.version) o.posts k v j m row are (has_table o.posts o.filters k keeps.tables ∙ new) none here;
  remove = λ cs es c o j v k row are names i m here.
      let both = stays cs j (Version.active c.version) i here in
      left_posts o.posts k i m (sym (names i both.0) ∙ both.1) ∙ (are i m both.0 ∙ sym (same_count (is_post i m) es (d.Removed j v row) refl));
  other = λ cs es c o p x are same unchanged out k n here.
      ap (λ (z : List PostTable). posts_at z k n) same
      ∙ (are k n (subst (λ (z : List ℕ). has z k ≡ true) unchanged here) ∙ sym (same_count (is_post k n) es x (out k n)));
}
