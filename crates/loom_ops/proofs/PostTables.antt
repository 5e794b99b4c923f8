-- Counts of posts.
use Rattle.std.proofs.Common.{ℕ, zero, suc, ◌+◌, ◌<◌, ◌≤◌, ◌≡◌, ◌==◌, Bool, true, false, ◌&&◌, ◌||◌, cond, if◌then◌else◌, List, [], ◌∷◌, length, get_or, slice_index_or, refl, sym, ap, ◌∙◌, subst, arith, add-one, ne_eqb}
use Rattle.std.specs.Prelude.{slice_set}
use Rattle.std.specs.List.{AllByRecursion}
use Rattle.std.proofs.lemmas.List.{length-map, length-set}
use Rattle.loom_command.specs.FilterFault.{most_events}
use Rattle.loom_law.specs.Filter.{has}
use Rattle.loom_law.proofs.Holdings.{same_number}
use Rattle.loom_ops.specs.declared.rows.FilterRow.{FilterRow}
use Rattle.loom_ops.specs.declared.rows.HolderRow.{HolderRow}
use Rattle.loom_ops.specs.declared.rows.PostRow.{PostRow}
use Rattle.loom_ops.specs.Ops.{FilterLocks, PostTable, Ops, most_posts, posts_of, posts_at, table_in, table_with, tables_with, table_numbers, with_post, KeepsLocks}
use Rattle.loom_ops.specs.Rows.{locks_of, filters_of_rows, table_of, tables_of, ops_of, table_index}

-- Where a table stands

-- what the table at the place of a filter tells
pub posts_there : (rs : List PostRow) (k n i : ℕ) (d : PostRow) → i ≡ table_index (tables_of rs) k → i < length rs
    → posts_of (PostRow.counts (get_or rs i d)) n ≡ posts_at (tables_of rs) k n
posts_there [] k n i d e low = absurd (omega (arith, low))
posts_there (r ∷ rs) k n i d e low = step (r.number == k) i e low (λ j f l. posts_there rs k n j d f l)
  where
    step : (b : Bool) (i : ℕ) → i ≡ (if b then 0 else suc (table_index (tables_of rs) k)) → i < suc (length rs)
        → ((j : ℕ) → j ≡ table_index (tables_of rs) k → j < length rs → posts_of (PostRow.counts (get_or rs j d)) n ≡ posts_at (tables_of rs) k n)
        → posts_of (PostRow.counts (get_or (r ∷ rs) i d)) n ≡ (if b then posts_of r.counts n else posts_at (tables_of rs) k n)
    step true zero e low ih = refl
    step true (suc i) e low ih = absurd (omega (arith, e))
    step false zero e low ih = absurd (omega (arith, e))
    step false (suc i) e low ih = ih i (omega (arith, e)) (omega (arith, low))

pub tables_set : (rs : List PostRow) (k n i : ℕ) (d new : PostRow) → i ≡ table_index (tables_of rs) k → i < length rs
    → table_of new ≡ table_with (table_of (get_or rs i d)) n → tables_of (slice_set rs i new) ≡ tables_with (tables_of rs) k n
tables_set [] k n i d new e low is = absurd (omega (arith, low))
tables_set (r ∷ rs) k n i d new e low is = step (r.number == k) i e low is (λ j f l g. tables_set rs k n j d new f l g)
  where
    step : (b : Bool) (i : ℕ) → i ≡ (if b then 0 else suc (table_index (tables_of rs) k)) → i < suc (length rs) → table_of new ≡ table_with (table_of (get_or (r ∷ rs) i d)) n
        → ((j : ℕ) → j ≡ table_index (tables_of rs) k → j < length rs → table_of new ≡ table_with (table_of (get_or rs j d)) n
        → tables_of (slice_set rs j new) ≡ tables_with (tables_of rs) k n)
        → tables_of (slice_set (r ∷ rs) i new) ≡ (if b then table_with (table_of r) n ∷ tables_of rs else table_of r ∷ tables_with (tables_of rs) k n)
    step true zero e low is ih = ap (λ (z : PostTable). z ∷ tables_of rs) is
    step true (suc i) e low is ih = absurd (omega (arith, e))
    step false zero e low is ih = absurd (omega (arith, e))
    step false (suc i) e low is ih = ap (λ (z : List PostTable). table_of r ∷ z) (ih i (omega (arith, e)) (omega (arith, low)) is)

pub tables_stay : (rs : List PostRow) (k n : ℕ) → length rs ≤ table_index (tables_of rs) k → tables_of rs ≡ tables_with (tables_of rs) k n
tables_stay [] k n high = refl
tables_stay (r ∷ rs) k n high = step (r.number == k) high (λ h. tables_stay rs k n h)
  where
    step : (b : Bool) → suc (length rs) ≤ (if b then 0 else suc (table_index (tables_of rs) k)) → (length rs ≤ table_index (tables_of rs) k → tables_of rs ≡ tables_with (tables_of rs) k n)
        → (table_of r ∷ tables_of rs) ≡ (if b then table_with (table_of r) n ∷ tables_of rs else table_of r ∷ tables_with (tables_of rs) k n)
    step true h ih = absurd (omega (arith, h))
    step false h ih = ap (λ (z : List PostTable). table_of r ∷ z) (ih (omega (arith, h)))

-- One table

pub counts_more : (k : ℕ) (cs : List ℕ) (n i : ℕ) → n ≡ suc i → table_in k (slice_set cs i (slice_index_or cs i 0 + 1)) ≡ table_with (table_in k cs) n
counts_more k cs n i e =
    subst (λ z. table_in k (slice_set cs i (slice_index_or cs i 0 + 1)) ≡ table_with (table_in k cs) z) (sym e)
    (ap (λ v. table_in k (slice_set cs i v)) (add-one (slice_index_or cs i 0)))

pub few_there : (cs : List ℕ) (n i : ℕ) → n ≡ suc i → posts_of cs n < most_posts → slice_index_or cs i 0 < most_posts
few_there cs n i e few = subst (λ z. posts_of cs z < most_posts) e few

pub posts_past : (cs : List ℕ) (n : ℕ) → (0 < n → n ≤ length cs → ⊥) → posts_of cs n ≡ 0
posts_past cs zero h = refl
posts_past cs (suc i) h = past cs i (λ low. h (omega arith) (omega (arith, low)))
  where
    past : (cs : List ℕ) (i : ℕ) → (i < length cs → ⊥) → slice_index_or cs i 0 ≡ 0
    past [] i h = refl
    past (c ∷ cs) zero h = absurd (h (omega arith))
    past (c ∷ cs) (suc i) h = past cs i (λ low. h (omega (arith, low)))

pub posts_row : (cs : List ℕ) (n i : ℕ) → n ≡ suc i → slice_index_or cs i 0 ≡ posts_of cs n
posts_row cs n i e = ap (posts_of cs) (sym e)

-- What is kept

number_stays : (t : PostTable) (n : ℕ) → PostTable.number (table_with t n) ≡ t.number
number_stays t zero = refl
number_stays t (suc n) = refl

width_stays : (t : PostTable) (n : ℕ) → length t.counts ≡ most_events → length (PostTable.counts (table_with t n)) ≡ most_events
width_stays t zero h = h
width_stays t (suc n) h = length-set t.counts n _ ∙ h

numbers_stay : (ts : List PostTable) (k n : ℕ) → table_numbers (tables_with ts k n) ≡ table_numbers ts
numbers_stay [] k n = refl
numbers_stay (t ∷ ts) k n = step (t.number == k) (numbers_stay ts k n)
  where
    step : (b : Bool) → table_numbers (tables_with ts k n) ≡ table_numbers ts
        → table_numbers (if b then table_with t n ∷ ts else t ∷ tables_with ts k n) ≡ t.number ∷ table_numbers ts
    step true ih = ap (λ z. z ∷ table_numbers ts) (number_stays t n)
    step false ih = ap (λ (z : List ℕ). t.number ∷ z) ih

stays_wide : (ts : List PostTable) (k n : ℕ) → AllByRecursion (λ (t : PostTable). length t.counts ≡ most_events) ts
    → AllByRecursion (λ (t : PostTable). length t.counts ≡ most_events) (tables_with ts k n)
stays_wide [] k n h = tt
stays_wide (t ∷ ts) k n h = step (t.number == k) (stays_wide ts k n h.1)
  where
    step : (b : Bool) → AllByRecursion (λ (t : PostTable). length t.counts ≡ most_events) (tables_with ts k n)
        → AllByRecursion (λ (t : PostTable). length t.counts ≡ most_events) (if b then table_with t n ∷ ts else t ∷ tables_with ts k n)
    step true ih = (width_stays t n h.0, h.1)
    step false ih = (h.0, ih)

count_stays : (ts : List PostTable) (k n : ℕ) → length (tables_with ts k n) ≡ length ts
count_stays [] k n = refl
count_stays (t ∷ ts) k n = step (t.number == k) (count_stays ts k n)
  where
    step : (b : Bool) → length (tables_with ts k n) ≡ length ts → length (if b then table_with t n ∷ ts else t ∷ tables_with ts k n) ≡ suc (length ts)
    step true ih = refl
    step false ih = ap suc ih

pub rows_stay : (rs new : List PostRow) (k n : ℕ) → tables_of new ≡ tables_with (tables_of rs) k n → length new ≡ length rs
rows_stay rs new k n e = omega (arith, ap length e, count_stays (tables_of rs) k n, length-map new table_of, length-map rs table_of)

pub post_keeps : (o : Ops) (k n : ℕ) → KeepsLocks o → KeepsLocks (with_post o k n)
post_keeps o k n s = record {
  few = s.few;
  small = s.small;
  there = s.there;
  one = s.one;
  owner = s.owner;
  tables = numbers_stay o.posts k n ∙ s.tables;
  wide = stays_wide o.posts k n s.wide;
}

-- there are as many tables as filters
pub table_count : (fs : List FilterRow) (hs : List HolderRow) (ps : List PostRow) → KeepsLocks (ops_of fs hs ps) → length ps ≡ length fs
table_count fs hs ps s =
    omega (
      arith,
      ap length s.tables,
      length-map (tables_of ps) (λ (t : PostTable). t.number),
      length-map ps table_of,
      length-map (filters_of_rows fs) (λ (f : FilterLocks). f.number),
      length-map fs locks_of,
    )

-- What a post adds

pub swap : (a b : ℕ) → (a == b) ≡ (b == a)
swap a b = grind arith

no_more : (x : ℕ) (b : Bool) → b ≡ false → x ≡ x + cond b 1 0
no_more x false e = omega arith
no_more x true e = absurd cc

same_suc : (i l : ℕ) → (i == l) ≡ (suc i == suc l)
same_suc i l = grind arith

at_set : (cs : List ℕ) (i l : ℕ) → i < length cs → slice_index_or (slice_set cs i (suc (slice_index_or cs i 0))) l 0 ≡ slice_index_or cs l 0 + cond (suc i == suc l) 1 0
at_set [] i l low = absurd (omega (arith, low))
at_set (c ∷ cs) zero zero low = omega arith
at_set (c ∷ cs) zero (suc l) low = no_more (slice_index_or cs l 0) (1 == suc (suc l)) (ne_eqb 1 (suc (suc l)) (λ e. omega (arith, e)))
at_set (c ∷ cs) (suc i) zero low = no_more c (suc (suc i) == 1) (ne_eqb (suc (suc i)) 1 (λ e. omega (arith, e)))
at_set (c ∷ cs) (suc i) (suc l) low = at_set cs i l (omega (arith, low)) ∙ ap (λ (b : Bool). slice_index_or cs l 0 + cond b 1 0) (same_suc (suc i) (suc l))

set_told : (cs : List ℕ) (i m : ℕ) → i < length cs → posts_of (slice_set cs i (suc (slice_index_or cs i 0))) m ≡ posts_of cs m + cond (suc i == m) 1 0
set_told cs i zero low = no_more 0 (suc i == 0) (ne_eqb (suc i) 0 (λ e. omega (arith, e)))
set_told cs i (suc l) low = at_set cs i l low

pub post_told : (ts : List PostTable) (k n j m : ℕ) → has (table_numbers ts) k ≡ true → AllByRecursion (λ (t : PostTable). length t.counts ≡ most_events) ts → 0 < n → n ≤ most_events
    → posts_at (tables_with ts k n) j m ≡ posts_at ts j m + cond ((k == j) && (n == m)) 1 0
post_told [] k n j m there wide low high = absurd cc
post_told (t ∷ ts) k zero j m there wide low high = absurd (omega (arith, low))
post_told (t ∷ ts) k (suc i) j m there wide low high =
    step (t.number == k) there (λ e. ap (λ z. z == j) (same_number t.number k e)) (λ e. e) (λ h. post_told ts k (suc i) j m h wide.1 low high)
  where
    at : (b d : Bool) (x y z : ℕ) → b ≡ d → x ≡ y + cond (suc i == m) 1 0 → (if b then x else z) ≡ (if b then y else z) + cond (d && (suc i == m)) 1 0
    at true true x y z e h = h
    at true false x y z e h = absurd cc
    at false true x y z e h = absurd cc
    at false false x y z e h = omega arith

    behind : (b d : Bool) (x y z : ℕ) → (b ≡ true → d ≡ false) → z ≡ y + cond (d && (suc i == m)) 1 0 → (if b then x else z) ≡ (if b then x else y) + cond (d && (suc i == m)) 1 0
    behind true true x y z f h = let no : true ≡ false = f refl in absurd cc
    behind true false x y z f h = omega arith
    behind false d x y z f h = h

    apart : (t.number == k) ≡ false → (t.number == j) ≡ true → (k == j) ≡ false
    apart h e = let same : t.number ≡ j = same_number t.number j e in swap k j ∙ subst (λ z. (z == k) ≡ false) same h

    step : (a : Bool) → (a || has (table_numbers ts) k) ≡ true → (a ≡ true → (t.number == j) ≡ (k == j)) → (a ≡ false → (t.number == k) ≡ false)
        → (has (table_numbers ts) k ≡ true → posts_at (tables_with ts k (suc i)) j m ≡ posts_at ts j m + cond ((k == j) && (suc i == m)) 1 0)
        → posts_at (if a then table_with t (suc i) ∷ ts else t ∷ tables_with ts k (suc i)) j m ≡ posts_at (t ∷ ts) j m + cond ((k == j) && (suc i == m)) 1 0
    step true h f g ih =
        at (t.number == j) (k == j) (posts_of (PostTable.counts (table_with t (suc i))) m) (posts_of t.counts m) (posts_at ts j m) (f refl)
        (set_told t.counts i m (omega (arith, wide.0, high)))
    step false h f g ih = behind (t.number == j) (k == j) (posts_of t.counts m) (posts_at ts j m) (posts_at (tables_with ts k (suc i)) j m) (λ e. apart (g refl) e) (ih h)
