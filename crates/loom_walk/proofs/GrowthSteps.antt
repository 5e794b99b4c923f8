-- What is owed grows, filter by filter, from the last one down.
use Rattle.std.proofs.Common.{ℕ, zero, suc, ◌≤◌, ◌<◌, ◌≡◌, inl, Bool, true, false, List, [], ◌∷◌, length, get_or, drop, Option, None, refl, sym, ap, subst, ◌∙◌, arith, drop-cons, length-drop}
use Rattle.std.specs.List.{AllByRecursion}
use Rattle.std.proofs.Math.Seq.{drop-length}
use Rattle.std.proofs.lemmas.List.{length-map}
use Rattle.loom_law.specs.Filter.{has}
use Rattle.loom_law.specs.Walk.{Queue}
use Rattle.loom_walk.specs.declared.owed.OwedRow.{OwedRow}
use Rattle.loom_walk.specs.declared.owed.OwedTick.{OwedTick}
use Rattle.loom_walk.specs.Owed.{Owed, HasOperations, rows_queue, back_queue, tick_queue, queue, filters_owed, IsOrHasMore}
use Rattle.loom_walk.specs.Growth.{HaveNoMore, GrowsBy, GrowsByAll}
use Rattle.loom_walk.proofs.FilterCounts.{none_more, one_more, no_longer}
use Rattle.loom_walk.proofs.NewFilters.{has_first, has_rest}

pub same_grows : (k : ℕ) (x : Owed) → GrowsBy k x x
same_grows k x = record {
  line = refl;
  tick = refl;
  back = refl;
  rows = λ h. h;
  filters = λ ks h. one_more (filters_owed x.rows) (filters_owed x.rows) k ks (inl refl) h;
}

pub row_grows : (k : ℕ) (old new : Owed) → new ≡ record old { rows = new.rows } → (AllByRecursion HasOperations old.rows → AllByRecursion HasOperations new.rows)
    → IsOrHasMore (filters_owed old.rows) k (filters_owed new.rows) → GrowsBy k old new
row_grows k old new same rows more = record {
  line = ap (λ (x : Owed). x.line) same;
  tick = ap (λ (x : Owed). x.tick) same;
  back = ap (λ (x : Owed). x.back) same;
  rows = rows;
  filters = λ ks h. one_more (filters_owed old.rows) (filters_owed new.rows) k ks more h;
}

no_rows : (rs : List OwedRow) → rs ≡ [] → AllByRecursion HasOperations rs
no_rows rs e = subst (AllByRecursion HasOperations) (sym e) tt

no_filters_owed : (rs : List OwedRow) (ks : List ℕ) → rs ≡ [] → HaveNoMore (filters_owed rs) ks
no_filters_owed rs ks e = subst (λ (xs : List OwedRow). HaveNoMore (filters_owed xs) ks) (sym e) (none_more ks)

pub nothing_grows : (ks : List ℕ) (x : Owed) → x.rows ≡ [] → GrowsByAll ks x x
nothing_grows ks x e = record { line = refl; tick = refl; back = refl; rows = no_rows x.rows e; filters = no_filters_owed x.rows ks e }

grows_more : (ks : List ℕ) (k : ℕ) (a b c : Owed) → GrowsByAll ks a b → GrowsBy k b c → GrowsByAll (k ∷ ks) a c
grows_more ks k a b c g h = record {
  line = h.line ∙ g.line;
  tick = h.tick ∙ g.tick;
  back = h.back ∙ g.back;
  rows = h.rows g.rows;
  filters = h.filters ks g.filters;
}

-- one number more of a list

front_at : (ks : List ℕ) (n m k : ℕ) → n ≡ suc m → m < length ks → k ≡ get_or ks m 0 → drop m ks ≡ k ∷ drop n ks
front_at ks n m k e low is = drop-cons ks m 0 low ∙ (ap (λ (j : ℕ). j ∷ drop (suc m) ks) (sym is) ∙ ap (λ (i : ℕ). k ∷ drop i ks) (sym e))

pub has_at : (ks : List ℕ) (m : ℕ) → m < length ks → has ks (get_or ks m 0) ≡ true
has_at [] m low = absurd (omega arith)
has_at (k ∷ ks) zero low = has_first k ks
has_at (k ∷ ks) (suc m) low = has_rest k (get_or ks m 0) ks (has_at ks m (omega arith))

pub grows_down : (ks : List ℕ) (n m k : ℕ) (a b c : Owed) → n ≡ suc m → m < length ks → k ≡ get_or ks m 0 → GrowsByAll (drop n ks) a b → GrowsBy k b c
    → GrowsByAll (drop m ks) a c
grows_down ks n m k a b c e low is g h = subst (λ (js : List ℕ). GrowsByAll js a c) (sym (front_at ks n m k e low is)) (grows_more (drop n ks) k a b c g h)

-- and what is owed by it, before what is owed by those behind
pub owed_down : (f : List ℕ → Queue) (add : ℕ → Queue → Queue) → ((k : ℕ) (ks : List ℕ) → f (k ∷ ks) ≡ add k (f ks)) → (ks : List ℕ) (n m k : ℕ) (old new : Queue) → n ≡ suc m
    → m < length ks → k ≡ get_or ks m 0 → new ≡ add k old → old ≡ f (drop n ks) → new ≡ f (drop m ks)
owed_down f add law ks n m k old new e low is here rest =
    here ∙ (ap (add k) rest ∙ (sym (law k (drop n ks)) ∙ ap f (sym (front_at ks n m k e low is))))

pub drop_whole : (ks : List ℕ) (n : ℕ) → n ≡ length ks → drop n ks ≡ []
drop_whole ks n e = ap (λ (i : ℕ). drop i ks) e ∙ drop-length ks

pub room_left : (ks : List ℕ) (n limit : ℕ) (a b : Owed) → GrowsByAll (drop n ks) a b → 0 < n → n ≤ length ks → length ks ≤ limit → length b.rows < limit
room_left ks n limit a b g low high few =
    let most = no_longer (filters_owed b.rows) (drop n ks) g.filters in
    omega (arith, most, length-map b.rows (λ (r : OwedRow). r.filter), length-drop {A = ℕ} n ks)

-- From nothing

abbrev pub nothing_on : ℕ → Owed
nothing_on l = record { line = l; tick = None; back = false; rows = [] }

pub rows_none : (l : ℕ) (a : Owed) → a ≡ nothing_on l → a.rows ≡ []
rows_none l a e = ap (λ (y : Owed). y.rows) e

pub grown_line : (ks : List ℕ) (l : ℕ) (a x : Owed) → a ≡ nothing_on l → GrowsByAll ks a x → x.line ≡ l
grown_line ks l a x e g = g.line ∙ ap (λ (y : Owed). y.line) e

pub grown_tick : (ks : List ℕ) (l : ℕ) (a x : Owed) → a ≡ nothing_on l → GrowsByAll ks a x → x.tick ≡ None
grown_tick ks l a x e g = g.tick ∙ ap (λ (y : Owed). y.tick) e

pub grown_back : (ks : List ℕ) (l : ℕ) (a x : Owed) → a ≡ nothing_on l → GrowsByAll ks a x → x.back ≡ false
grown_back ks l a x e g = g.back ∙ ap (λ (y : Owed). y.back) e

pub grown_queue : (ks : List ℕ) (l : ℕ) (a x : Owed) → a ≡ nothing_on l → GrowsByAll ks a x → queue x ≡ rows_queue l x.rows []
grown_queue ks l a x e g =
    ap (λ (t : Option OwedTick). tick_queue t (back_queue x.back x.line (rows_queue x.line x.rows []))) (grown_tick ks l a x e g)
    ∙ (ap (λ (b : Bool). back_queue b x.line (rows_queue x.line x.rows [])) (grown_back ks l a x e g)
    ∙ ap (λ (i : ℕ). rows_queue i x.rows []) (grown_line ks l a x e g))

-- At the beginning and at the end of the list

pub queue_of_none : (f : List ℕ → Queue) → f [] ≡ [] → (ks : List ℕ) (n : ℕ) → n ≡ length ks → (rs : List OwedRow) (i : ℕ) → rs ≡ [] → rows_queue i rs [] ≡ f (drop n ks)
queue_of_none f none ks n e rs i g = ap (λ (xs : List OwedRow). rows_queue i xs []) g ∙ (sym none ∙ ap f (sym (drop_whole ks n e)))

pub drop_none : (ks : List ℕ) (n : ℕ) → n ≤ 0 → drop n ks ≡ ks
drop_none ks n low = let e : n ≡ 0 = omega arith in ap (λ (i : ℕ). drop i ks) e

pub from_nothing : (ks : List ℕ) (l : ℕ) (a : Owed) → a ≡ nothing_on l → GrowsByAll ks (nothing_on l) a
from_nothing ks l a e = subst (GrowsByAll ks (nothing_on l)) (sym e) (nothing_grows ks (nothing_on l) refl)
