-- What changes, and the locks are still kept.
use Rattle.std.proofs.Common.{ℕ, ◌≤◌, ◌<◌, ◌≡◌, ◌==◌, Bool, true, false, not, ◌&&◌, ◌||◌, List, [], ◌∷◌, ◌++◌, length, refl, sym, ap, ◌∙◌, subst, arith}
use Rattle.std.specs.List.{AllByRecursion, IsDistinct, filter, list_any}
use Rattle.std.proofs.lemmas.Bool.{and_parts}
use Rattle.std.proofs.lemmas.List.{length-append, length-map, length-replicate, map-append}
use Rattle.std.proofs.lemmas.List.Folds.{list_any-append}
use Rattle.std.proofs.lemmas.Map.Views.{any-filter_same}
use Rattle.loom_command.specs.FilterFault.{most_clauses, most_events}
use Rattle.loom_law.specs.Filter.{Plan, is_some, is_unilateral}
use Rattle.loom_law.specs.Control.{Holder}
use Rattle.loom_law.specs.Lawful.{filter_limit}
use Rattle.loom_law.proofs.Holdings.{or_cases, or_left, either_of, same_number}
use Rattle.loom_ops.specs.Ops.{FilterLocks, PostTable, Ops, empty_table, flag_of, is_yes, has_filter, has_lock, has_alone, has_holder, owns, no_filters, locks_in, with_filter, without_filter, with_holder, free_clause, have_one_clause, KeepsLocks}
use Rattle.loom_ops.proofs.ListCuts.{all_weaker, all_more, any_within, any_weaker, any_whole, all_cut, distinct_cut, length_cut, map_cut}

pub none_keeps : KeepsLocks no_filters
unfolding IsDistinct
none_keeps = record { few = omega arith; small = tt; there = tt; one = tt; owner = λ t u a b. cc; tables = refl; wide = tt }

-- One filter more

pub filter_there : (fs : List FilterLocks) (k c : ℕ) → has_lock fs k c ≡ true → has_filter fs k ≡ true
filter_there fs k c h =
    any_weaker (λ (f : FilterLocks). (f.number == k) && is_some (flag_of f.alone c)) (λ (f : FilterLocks). f.number == k) fs
    (λ f g. (and_parts (f.number == k) (is_some (flag_of f.alone c)) g).0) h

clause_stays : (fs : List FilterLocks) (f : FilterLocks) (k c : ℕ) → has_lock fs k c ≡ true → has_lock (fs ++ f ∷ []) k c ≡ true
clause_stays fs f k c h =
    list_any-append (λ (g : FilterLocks). (g.number == k) && is_some (flag_of g.alone c)) fs (f ∷ []) ∙ or_left (has_lock fs k c) (has_lock (f ∷ []) k c) h

alone_before : (fs : List FilterLocks) (f : FilterLocks) (j c : ℕ) → has_filter fs f.number ≡ false → has_filter fs j ≡ true
    → has_alone (fs ++ f ∷ []) j c ≡ true → has_alone fs j c ≡ true
alone_before fs f j c new there h =
    either_of (or_cases (has_alone fs j c) (has_alone (f ∷ []) j c) (sym (list_any-append (λ (g : FilterLocks). (g.number == j) && is_yes (flag_of g.alone c)) fs (f ∷ [])) ∙ h))
    (λ m. m) (λ m. absurd (clash (either_of (or_cases ((f.number == j) && is_yes (flag_of f.alone c)) false m) (λ g. same_number f.number j (and_parts (f.number == j) (is_yes (flag_of f.alone c)) g).0) (λ g. cc))))
  where
    clash : f.number ≡ j → ⊥
    clash e = let no : false ≡ true = sym new ∙ (ap (has_filter fs) e ∙ there) in cc

pub install_keeps : (o : Ops) (k : ℕ) (f : Plan) → KeepsLocks o → has_filter o.filters k ≡ false → length o.filters < filter_limit
    → length f.rulings ≤ most_clauses → KeepsLocks (with_filter o k f)
install_keeps o k f s new room small = record {
  few = omega (arith, room, length-append o.filters (locks_in k f ∷ []));
  small = all_more (λ (g : FilterLocks). length g.alone ≤ most_clauses) o.filters (locks_in k f) s.small (omega (arith, small, length-map f.rulings is_unilateral));
  there = all_weaker (λ (h : Holder). has_lock o.filters h.filter h.clause ≡ true) (λ (h : Holder). has_lock (o.filters ++ locks_in k f ∷ []) h.filter h.clause ≡ true)
      o.holders (λ h g. clause_stays o.filters (locks_in k f) h.filter h.clause g) s.there;
  one = s.one;
  owner = λ t u a b. s.owner t u (before t a) (before u b);
  tables = map-append (λ (t : PostTable). t.number) o.posts (empty_table k ∷ [])
      ∙ (ap (λ (z : List ℕ). z ++ k ∷ []) s.tables ∙ sym (map-append (λ (g : FilterLocks). g.number) o.filters (locks_in k f ∷ [])));
  wide = all_more (λ (t : PostTable). length t.counts ≡ most_events) o.posts (empty_table k) s.wide (length-replicate {A = ℕ} most_events 0);
}
  where
    before : (t : ℕ) → owns (with_filter o k f) t ≡ true → owns o t ≡ true
    before t a =
        any_within (λ (h : Holder). has_lock o.filters h.filter h.clause ≡ true)
        (λ (h : Holder). has_alone (o.filters ++ locks_in k f ∷ []) h.filter h.clause && (h.thread == t))
        (λ (h : Holder). has_alone o.filters h.filter h.clause && (h.thread == t)) o.holders s.there
        (λ h there g. both (has_alone (o.filters ++ locks_in k f ∷ []) h.filter h.clause) (has_alone o.filters h.filter h.clause) (h.thread == t)
        (λ m. alone_before o.filters (locks_in k f) h.filter h.clause new (filter_there o.filters h.filter h.clause there) m) g) a
      where
        both : (a b c : Bool) → (a ≡ true → b ≡ true) → (a && c) ≡ true → (b && c) ≡ true
        both true true c f h = h
        both true false c f h = let no : false ≡ true = f refl in cc
        both false b c f h = cc

-- A filter less

clause_left : (fs : List FilterLocks) (k j c : ℕ) → not (j == k) ≡ true → has_lock fs j c ≡ true
    → has_lock (filter (λ (f : FilterLocks). not (f.number == k)) fs) j c ≡ true
clause_left fs k j c other h =
    any-filter_same (λ (f : FilterLocks). (f.number == j) && is_some (flag_of f.alone c)) (λ (f : FilterLocks). not (f.number == k)) (not (j == k))
    (λ f g. ap (λ z. not (z == k)) (same_number f.number j (and_parts (f.number == j) (is_some (flag_of f.alone c)) g).0)) fs
    ∙ both (not (j == k)) (has_lock fs j c) other h
  where
    both : (a b : Bool) → a ≡ true → b ≡ true → (a && b) ≡ true
    both true b e g = g
    both false b e g = cc

-- who owns something in a part owns it in the whole
owns_whole : (fs : List FilterLocks) (hs : List Holder) (cut : FilterLocks → Bool) (test : Holder → Bool) (t : ℕ)
    → owns (record { filters = filter cut fs; holders = filter test hs; posts = [] }) t ≡ true → owns (record { filters = fs; holders = hs; posts = [] }) t ≡ true
owns_whole fs hs cut test t a =
    any_whole (λ (h : Holder). has_alone fs h.filter h.clause && (h.thread == t)) test hs
    (any_weaker (λ (h : Holder). has_alone (filter cut fs) h.filter h.clause && (h.thread == t)) (λ (h : Holder). has_alone fs h.filter h.clause && (h.thread == t)) (filter test hs)
    (λ h g. both (has_alone (filter cut fs) h.filter h.clause) (has_alone fs h.filter h.clause) (h.thread == t)
    (λ m. any_whole (λ (f : FilterLocks). (f.number == h.filter) && is_yes (flag_of f.alone h.clause)) cut fs m) g) a)
  where
    both : (a b c : Bool) → (a ≡ true → b ≡ true) → (a && c) ≡ true → (b && c) ≡ true
    both true true c f h = h
    both true false c f h = let no : false ≡ true = f refl in cc
    both false b c f h = cc

pub remove_keeps : (o : Ops) (k : ℕ) → KeepsLocks o → KeepsLocks (without_filter o k)
remove_keeps o k s = record {
  few = omega (arith, s.few, length_cut (λ (f : FilterLocks). not (f.number == k)) o.filters);
  small = all_cut (λ (f : FilterLocks). length f.alone ≤ most_clauses) (λ (f : FilterLocks). length f.alone ≤ most_clauses) (λ (f : FilterLocks). not (f.number == k)) o.filters (λ f m g. g) s.small;
  there = all_cut (λ (h : Holder). has_lock o.filters h.filter h.clause ≡ true) (λ (h : Holder). has_lock (filter (λ (f : FilterLocks). not (f.number == k)) o.filters) h.filter h.clause ≡ true)
      (λ (h : Holder). not (h.filter == k)) o.holders (λ h m g. clause_left o.filters k h.filter h.clause m g) s.there;
  one = distinct_cut have_one_clause (λ (h : Holder). not (h.filter == k)) o.holders s.one;
  owner = λ t u a b. s.owner t u (before t a) (before u b);
  tables = map_cut (λ (t : PostTable). t.number) (λ (n : ℕ). not (n == k)) o.posts
      ∙ (ap (filter (λ (n : ℕ). not (n == k))) s.tables ∙ sym (map_cut (λ (f : FilterLocks). f.number) (λ (n : ℕ). not (n == k)) o.filters));
  wide = all_cut (λ (t : PostTable). length t.counts ≡ most_events) (λ (t : PostTable). length t.counts ≡ most_events) (λ (t : PostTable). not (t.number == k)) o.posts
      (λ t m g. g) s.wide;
}
  where
    before : (t : ℕ) → owns (without_filter o k) t ≡ true → owns o t ≡ true
    before t a = owns_whole o.filters o.holders (λ (f : FilterLocks). not (f.number == k)) (λ (h : Holder). not (h.filter == k)) t a

-- A clause is entered, or left

no_holder : (hs : List Holder) (k c : ℕ) → has_holder hs k c ≡ false → AllByRecursion (λ (h : Holder). ((h.filter == k) && (h.clause == c)) ≡ false) hs
no_holder [] k c h = tt
no_holder (x ∷ hs) k c h = let two = parts ((x.filter == k) && (x.clause == c)) (has_holder hs k c) h in (two.0, no_holder hs k c two.1)
  where
    parts : (a b : Bool) → (a || b) ≡ false → (a ≡ false) × (b ≡ false)
    parts true b h = absurd cc
    parts false b h = (refl, h)

pub enter_keeps : (o : Ops) (k c t : ℕ) → KeepsLocks o → has_lock o.filters k c ≡ true → has_holder o.holders k c ≡ false
    → ((u : ℕ) → owns o u ≡ true → u ≡ t) → KeepsLocks (with_holder o k c t)
unfolding IsDistinct
enter_keeps o k c t s there free alone = record {
  few = s.few;
  small = s.small;
  there = (there, s.there);
  one = (no_holder o.holders k c free, s.one);
  owner = λ u v a b. is_own u a ∙ sym (is_own v b);
  tables = s.tables;
  wide = s.wide;
}
  where
    is_own : (u : ℕ) → owns (with_holder o k c t) u ≡ true → u ≡ t
    is_own u a =
        either_of (or_cases (has_alone o.filters k c && (t == u)) (owns o u) a)
        (λ m. sym (same_number t u (and_parts (has_alone o.filters k c) (t == u) m).1)) (λ m. alone u m)

pub leave_keeps : (o : Ops) (k c : ℕ) → KeepsLocks o → KeepsLocks (free_clause o k c)
leave_keeps o k c s = record {
  few = s.few;
  small = s.small;
  there = all_cut (λ (h : Holder). has_lock o.filters h.filter h.clause ≡ true) (λ (h : Holder). has_lock o.filters h.filter h.clause ≡ true)
      (λ (h : Holder). not ((h.filter == k) && (h.clause == c))) o.holders (λ h m g. g) s.there;
  one = distinct_cut have_one_clause (λ (h : Holder). not ((h.filter == k) && (h.clause == c))) o.holders s.one;
  owner = λ t u a b. s.owner t u (before t a) (before u b);
  tables = s.tables;
  wide = s.wide;
}
  where
    before : (t : ℕ) → owns (free_clause o k c) t ≡ true → owns o t ≡ true
    before t a = any_whole (λ (h : Holder). has_alone o.filters h.filter h.clause && (h.thread == t)) (λ (h : Holder). not ((h.filter == k) && (h.clause == c))) o.holders a

-- nobody holds a clause of a filter that isn't there
pub nobody_holds : (o : Ops) (k c t : ℕ) → KeepsLocks o → has_filter o.filters k ≡ false
    → list_any (λ (h : Holder). (h.filter == k) && ((h.clause == c) && (h.thread == t))) o.holders ≡ false
nobody_holds o k c t s new = none (list_any (λ (h : Holder). (h.filter == k) && ((h.clause == c) && (h.thread == t))) o.holders) (λ m. held o.holders s.there m)
  where
    none : (b : Bool) → (b ≡ true → has_filter o.filters k ≡ true) → b ≡ false
    none false f = refl
    none true f = let no : false ≡ true = sym new ∙ f refl in cc

    held : (hs : List Holder) → AllByRecursion (λ (h : Holder). has_lock o.filters h.filter h.clause ≡ true) hs
        → list_any (λ (h : Holder). (h.filter == k) && ((h.clause == c) && (h.thread == t))) hs ≡ true → has_filter o.filters k ≡ true
    held [] g m = absurd cc
    held (x ∷ hs) g m =
        either_of (or_cases ((x.filter == k) && ((x.clause == c) && (x.thread == t))) (list_any (λ (h : Holder). (h.filter == k) && ((h.clause == c) && (h.thread == t))) hs) m)
        (λ n. subst (λ z. has_filter o.filters z ≡ true) (same_number x.filter k (and_parts (x.filter == k) ((x.clause == c) && (x.thread == t)) n).0) (filter_there o.filters x.filter x.clause g.0))
        (λ n. held hs g.1 n)
