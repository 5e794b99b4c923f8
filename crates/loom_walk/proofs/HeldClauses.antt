-- Rows of clauses, and what a thread holds.
use Rattle.std.proofs.Common.{ℕ, suc, ◌≡◌, ◌≢◌, ◌<◌, ◌≤◌, ◌==◌, ◌⊎◌, inl, inr, Bool, true, false, not, ◌&&◌, ◌||◌, if◌then◌else◌, List, [], ◌∷◌, map, length, refl, sym, ap, ◌∙◌, true≢false, eqb-true, eq-eqb, ne_eqb, arith}
use Rattle.std.specs.Prelude.{slice_set}
use Rattle.std.specs.List.{filter, list_any}
use Rattle.std.proofs.lemmas.Bool.{and_parts, cases_eq}
use Rattle.loom_law.specs.Filter.{has}
use Rattle.loom_law.specs.Walk.{holds, without_clause}
use Rattle.loom_law.proofs.Holdings.{pick}
use Rattle.loom_plan.specs.declared.sets.ClauseSet.{ClauseSet}
use Rattle.loom_plan.specs.Sets.{clause_numbers}
use Rattle.loom_walk.specs.declared.clause_rows.ClauseRow.{ClauseRow}
use Rattle.loom_walk.specs.ClauseRows.{filters_of, clauses_at, AreHoldings, holdings_of, row_index, with_clauses, numbers_in, numbers_for, AreRowsFor}

-- Changes of one row

set_step : (b : Bool) (r x : ClauseRow) (rs ws : List ClauseRow) (i : ℕ) → (if b then 0 else suc i) < suc (length rs) → (i < length rs → slice_set rs i x ≡ ws)
    → slice_set (r ∷ rs) (if b then 0 else suc i) x ≡ (if b then x ∷ rs else r ∷ ws)
set_step true r x rs ws i low h = refl
set_step false r x rs ws i low h = ap (λ (z : List ClauseRow). r ∷ z) (h (omega arith))

pub set_some : (rs : List ClauseRow) (k : ℕ) (cs : ClauseSet) → row_index rs k < length rs
    → slice_set rs (row_index rs k) (record { filter = k; clauses = cs }) ≡ with_clauses rs k cs
set_some [] k cs low = absurd (omega arith)
set_some (r ∷ rs) k cs low = set_step (r.filter == k) r (record { filter = k; clauses = cs }) rs (with_clauses rs k cs) (row_index rs k) low (set_some rs k cs)

none_step : (b : Bool) (r x : ClauseRow) (rs ws : List ClauseRow) (i : ℕ) → suc (length rs) ≤ (if b then 0 else suc i) → (length rs ≤ i → rs ≡ ws)
    → r ∷ rs ≡ (if b then x ∷ rs else r ∷ ws)
none_step true r x rs ws i low h = absurd (omega arith)
none_step false r x rs ws i low h = ap (λ (z : List ClauseRow). r ∷ z) (h (omega arith))

pub set_none : (rs : List ClauseRow) (k : ℕ) (cs : ClauseSet) → length rs ≤ row_index rs k → rs ≡ with_clauses rs k cs
set_none [] k cs low = refl
set_none (r ∷ rs) k cs low = none_step (r.filter == k) r (record { filter = k; clauses = cs }) rs (with_clauses rs k cs) (row_index rs k) low (set_none rs k cs)

-- the rows have the same filters
pub filters_stay : (rs : List ClauseRow) (k : ℕ) (cs : ClauseSet) → filters_of (with_clauses rs k cs) ≡ filters_of rs
filters_stay [] k cs = refl
filters_stay (r ∷ rs) k cs =
    pick (λ (z : List ClauseRow). filters_of z ≡ r.filter ∷ filters_of rs) (r.filter == k) (record { filter = k; clauses = cs } ∷ rs) (r ∷ with_clauses rs k cs)
    (λ e. ap (λ (n : ℕ). n ∷ filters_of rs) (sym (eqb-true r.filter k e))) (λ e. ap (λ (z : List ℕ). r.filter ∷ z) (filters_stay rs k cs))

pub length_stays : (rs : List ClauseRow) (k : ℕ) (cs : ClauseSet) → length (with_clauses rs k cs) ≡ length rs
length_stays [] k cs = refl
length_stays (r ∷ rs) k cs =
    let ih : length (with_clauses rs k cs) ≡ length rs = length_stays rs k cs in
    pick (λ (z : List ClauseRow). length z ≡ suc (length rs)) (r.filter == k) (record { filter = k; clauses = cs } ∷ rs) (r ∷ with_clauses rs k cs)
    (λ e. refl) (λ e. ap suc ih)

-- filter k has those clauses, and other ones have what they had

at_same : (rs : List ClauseRow) (k : ℕ) (cs : ClauseSet) → has (filters_of rs) k ≡ true → clauses_at (with_clauses rs k cs) k ≡ clause_numbers cs
at_same [] k cs h = absurd (true≢false (sym h))
at_same (r ∷ rs) k cs h =
    pick (λ (z : List ClauseRow). clauses_at z k ≡ clause_numbers cs) (r.filter == k) (record { filter = k; clauses = cs } ∷ rs) (r ∷ with_clauses rs k cs)
    (λ e. ap (λ (b : Bool). if b then clause_numbers cs else clauses_at rs k) (eq-eqb k k refl))
    (λ e.
    ap (λ (b : Bool). if b then clause_numbers r.clauses else clauses_at (with_clauses rs k cs) k) e
    ∙ at_same rs k cs (sym (ap (λ (b : Bool). b || has (filters_of rs) k) e) ∙ h))

at_other : (rs : List ClauseRow) (k j : ℕ) (cs : ClauseSet) → (j ≡ k → ⊥) → clauses_at (with_clauses rs k cs) j ≡ clauses_at rs j
at_other [] k j cs ne = refl
at_other (r ∷ rs) k j cs ne =
    pick (λ (z : List ClauseRow). clauses_at z j ≡ clauses_at (r ∷ rs) j) (r.filter == k) (record { filter = k; clauses = cs } ∷ rs) (r ∷ with_clauses rs k cs)
    (λ e.
    ap (λ (b : Bool). if b then clause_numbers cs else clauses_at rs j) (ne_eqb k j (λ g. ne (sym g)))
    ∙ sym (ap (λ (b : Bool). if b then clause_numbers r.clauses else clauses_at rs j) (ne_eqb r.filter j (λ g. ne (sym g ∙ eqb-true r.filter k e)))))
    (λ e. ap (λ (z : List ℕ). if r.filter == j then clause_numbers r.clauses else z) (at_other rs k j cs ne))

-- where filter k has no row, nothing changes

no_row : (rs : List ClauseRow) (k : ℕ) → has (filters_of rs) k ≡ false → clauses_at rs k ≡ []
no_row [] k h = refl
no_row (r ∷ rs) k h =
    pick (λ (z : List ℕ). z ≡ []) (r.filter == k) (clause_numbers r.clauses) (clauses_at rs k)
    (λ e. absurd (true≢false (sym (ap (λ (b : Bool). b || has (filters_of rs) k) e) ∙ h)))
    (λ e. no_row rs k (sym (ap (λ (b : Bool). b || has (filters_of rs) k) e) ∙ h))

same_rows : (rs : List ClauseRow) (k : ℕ) (cs : ClauseSet) → has (filters_of rs) k ≡ false → with_clauses rs k cs ≡ rs
same_rows [] k cs h = refl
same_rows (r ∷ rs) k cs h =
    pick (λ (z : List ClauseRow). z ≡ r ∷ rs) (r.filter == k) (record { filter = k; clauses = cs } ∷ rs) (r ∷ with_clauses rs k cs)
    (λ e. absurd (true≢false (sym (ap (λ (b : Bool). b || has (filters_of rs) k) e) ∙ h)))
    (λ e. ap (λ (z : List ClauseRow). r ∷ z) (same_rows rs k cs (sym (ap (λ (b : Bool). b || has (filters_of rs) k) e) ∙ h)))

-- Holdings that a test leaves

and_true : (a : Bool) → (a && true) ≡ a
and_true true = refl
and_true false = refl

stays : (t q x : Bool) → (t ≡ true → true ≡ q) → (t || (q && x)) ≡ (q && (t || x))
stays true true x f = refl
stays true false x f = f refl
stays false q x f = refl

goes : (t q x : Bool) → (t ≡ true → false ≡ q) → (q && x) ≡ (q && (t || x))
goes true true x f = absurd (true≢false (sym (f refl)))
goes true false x f = refl
goes false q x f = refl

any_step : (p : ℕ × ℕ → Bool) (b q x : Bool) (h : ℕ × ℕ) (f : List (ℕ × ℕ)) → (p h ≡ true → b ≡ q) → list_any p f ≡ (q && x)
    → list_any p (if b then h ∷ f else f) ≡ (q && (p h || x))
any_step p true q x h f e g = ap (λ (z : Bool). p h || z) g ∙ stays (p h) q x e
any_step p false q x h f e g = g ∙ goes (p h) q x e

pair_is : (q : ℕ × ℕ → Bool) (h : ℕ × ℕ) (j d : ℕ) → ((h.0 == j) && (h.1 == d)) ≡ true → q h ≡ q (j, d)
pair_is q h j d t =
    let e = and_parts (h.0 == j) (h.1 == d) t in
    ap (λ (n : ℕ). q (n, h.1)) (eqb-true h.0 j e.0) ∙ ap (λ (n : ℕ). q (j, n)) (eqb-true h.1 d e.1)

holds_of : (q : ℕ × ℕ → Bool) (hs : List (ℕ × ℕ)) (j d : ℕ) → holds (filter q hs) j d ≡ (q (j, d) && holds hs j d)
holds_of q [] j d = by (q (j, d))
  where
    by : (b : Bool) → false ≡ (b && false)
    by true = refl
    by false = refl
holds_of q (h ∷ hs) j d =
    any_step (λ (g : ℕ × ℕ). (g.0 == j) && (g.1 == d)) (q h) (q (j, d)) (holds hs j d) h (filter q hs) (pair_is q h j d) (holds_of q hs j d)

-- What a thread holds

same_test : (a b : ℕ) → (a == b) ≡ (b == a)
same_test a b = by (cases_eq a b)
  where
    by : (a ≡ b) ⊎ (a ≢ b) → (a == b) ≡ (b == a)
    by (inl e) = eq-eqb a b e ∙ sym (eq-eqb b a (sym e))
    by (inr ne) = ne_eqb a b ne ∙ sym (ne_eqb b a (λ e. ne (sym e)))

entered : (b x : Bool) → (b || x) ≡ (if b then true else x)
entered true x = refl
entered false x = refl

pub enter_holds : (rs new : List ClauseRow) (k c : ℕ) (cs : ClauseSet) (hs : List (ℕ × ℕ)) → has (filters_of rs) k ≡ true
    → ((d : ℕ) → has (clause_numbers cs) d ≡ (if d == c then true else has (clauses_at rs k) d)) → new ≡ with_clauses rs k cs → AreHoldings rs hs → AreHoldings new ((k, c) ∷ hs)
enter_holds rs new k c cs hs there put e h j d = by (cases_eq j k)
  where
    by : (j ≡ k) ⊎ (j ≢ k) → (((k == j) && (c == d)) || holds hs j d) ≡ has (clauses_at new j) d
    by (inl g) =
        ap (λ (b : Bool). (b && (c == d)) || holds hs j d) (eq-eqb k j (sym g))
        ∙ (entered (c == d) (holds hs j d)
        ∙ (ap (λ (b : Bool). if b then true else holds hs j d) (same_test c d)
        ∙ (ap (λ (b : Bool). if d == c then true else b) (h j d ∙ ap (λ (n : ℕ). has (clauses_at rs n) d) g)
        ∙ (sym (put d)
        ∙ ap (λ (ns : List ℕ). has ns d) (sym (at_same rs k cs there) ∙ (ap (λ (z : List ClauseRow). clauses_at z k) (sym e) ∙ ap (clauses_at new) (sym g)))))))
    by (inr ne) =
        ap (λ (b : Bool). (b && (c == d)) || holds hs j d) (ne_eqb k j (λ g. ne (sym g)))
        ∙ (h j d ∙ ap (λ (ns : List ℕ). has ns d) (sym (at_other rs k j cs ne) ∙ ap (λ (z : List ClauseRow). clauses_at z j) (sym e)))

turned : (a b : Bool) → (not b && a) ≡ (a && not b)
turned true true = refl
turned true false = refl
turned false true = refl
turned false false = refl

-- of filter k all clauses but c are held
left_same : (rs new : List ClauseRow) (k c : ℕ) (cs : ClauseSet) → ((d : ℕ) → has (clause_numbers cs) d ≡ (has (clauses_at rs k) d && not (d == c))) → new ≡ with_clauses rs k cs
    → (d : ℕ) → (has (clauses_at rs k) d && not (d == c)) ≡ has (clauses_at new k) d
left_same rs new k c cs put e d = by (has (filters_of rs) k) refl
  where
    by : (b : Bool) → has (filters_of rs) k ≡ b → (has (clauses_at rs k) d && not (d == c)) ≡ has (clauses_at new k) d
    by true there = sym (put d) ∙ ap (λ (ns : List ℕ). has ns d) (sym (at_same rs k cs there) ∙ ap (λ (z : List ClauseRow). clauses_at z k) (sym e))
    by false gone =
        ap (λ (ns : List ℕ). has ns d && not (d == c)) (no_row rs k gone)
        ∙ ap (λ (ns : List ℕ). has ns d) (sym (no_row rs k gone) ∙ ap (λ (z : List ClauseRow). clauses_at z k) (sym (same_rows rs k cs gone) ∙ sym e))

pub leave_holds : (rs new : List ClauseRow) (k c : ℕ) (cs : ClauseSet) (hs : List (ℕ × ℕ))
    → ((d : ℕ) → has (clause_numbers cs) d ≡ (has (clauses_at rs k) d && not (d == c))) → new ≡ with_clauses rs k cs → AreHoldings rs hs → AreHoldings new (without_clause k c hs)
leave_holds rs new k c cs hs put e h j d =
    holds_of (λ (g : ℕ × ℕ). not ((g.0 == k) && (g.1 == c))) hs j d ∙ by (cases_eq j k)
  where
    by : (j ≡ k) ⊎ (j ≢ k) → (not ((j == k) && (d == c)) && holds hs j d) ≡ has (clauses_at new j) d
    by (inl g) =
        ap (λ (b : Bool). not (b && (d == c)) && holds hs j d) (eq-eqb j k g)
        ∙ (turned (holds hs j d) (d == c)
        ∙ (ap (λ (b : Bool). b && not (d == c)) (h j d ∙ ap (λ (n : ℕ). has (clauses_at rs n) d) g)
        ∙ (left_same rs new k c cs put e d ∙ ap (λ (n : ℕ). has (clauses_at new n) d) (sym g))))
    by (inr ne) =
        ap (λ (b : Bool). not (b && (d == c)) && holds hs j d) (ne_eqb j k ne)
        ∙ (h j d ∙ ap (λ (ns : List ℕ). has ns d) (sym (at_other rs k j cs ne) ∙ ap (λ (z : List ClauseRow). clauses_at z j) (sym e)))

-- Another version

abbrev numbers_at : List (ℕ × List ℕ) → ℕ → List ℕ
numbers_at [] k = []
numbers_at (p ∷ ps) k = if p.0 == k then p.1 else numbers_at ps k

rows_numbers : (rs : List ClauseRow) (k : ℕ) → clauses_at rs k ≡ numbers_at (map numbers_in rs) k
rows_numbers [] k = refl
rows_numbers (r ∷ rs) k = ap (λ (z : List ℕ). if r.filter == k then clause_numbers r.clauses else z) (rows_numbers rs k)

for_numbers : (old : List ClauseRow) (ks : List ℕ) (k c : ℕ) → has (numbers_at (map (numbers_for old) ks) k) c ≡ (has ks k && has (clauses_at old k) c)
for_numbers old [] k c = refl
for_numbers old (j ∷ ks) k c = by (j == k) (eqb-true j k) (for_numbers old ks k c)
  where
    by : (b : Bool) → (b ≡ true → j ≡ k) → has (numbers_at (map (numbers_for old) ks) k) c ≡ (has ks k && has (clauses_at old k) c)
        → has (if b then clauses_at old j else numbers_at (map (numbers_for old) ks) k) c ≡ ((b || has ks k) && has (clauses_at old k) c)
    by true e ih = ap (λ (n : ℕ). has (clauses_at old n) c) (e refl)
    by false e ih = ih

pub gone_over : (old new : List ClauseRow) (ks : List ℕ) (hs : List (ℕ × ℕ)) → AreRowsFor old ks new → AreHoldings old hs → AreHoldings new (holdings_of ks hs)
gone_over old new ks hs e h k c =
    holds_of (λ (g : ℕ × ℕ). has ks g.0) hs k c
    ∙ (ap (λ (b : Bool). has ks k && b) (h k c)
    ∙ (sym (for_numbers old ks k c)
    ∙ ap (λ (ns : List ℕ). has ns c) (ap (λ (ps : List (ℕ × List ℕ)). numbers_at ps k) (sym e) ∙ sym (rows_numbers new k))))

firsts_in : (rs : List ClauseRow) → filters_of rs ≡ map (λ (p : ℕ × List ℕ). p.0) (map numbers_in rs)
firsts_in [] = refl
firsts_in (r ∷ rs) = ap (λ (z : List ℕ). r.filter ∷ z) (firsts_in rs)

firsts_for : (old : List ClauseRow) (ks : List ℕ) → map (λ (p : ℕ × List ℕ). p.0) (map (numbers_for old) ks) ≡ ks
firsts_for old [] = refl
firsts_for old (k ∷ ks) = ap (λ (z : List ℕ). k ∷ z) (firsts_for old ks)

pub gone_filters : (old new : List ClauseRow) (ks : List ℕ) → AreRowsFor old ks new → filters_of new ≡ ks
gone_filters old new ks e = firsts_in new ∙ (ap (λ (ps : List (ℕ × List ℕ)). map (λ (p : ℕ × List ℕ). p.0) ps) e ∙ firsts_for old ks)

-- A clause is left out of a set, number by number.

pub out_step : (all : Bool) (n m c : ℕ) (rest left : List ℕ) (new : List ℕ) (old : List ℕ)
    → ((d : ℕ) → has new d ≡ (if not (n == m) && (d == n) then true else has left d))
    → old ≡ n ∷ rest
    → (has left c || (has old c && not (c == m))) ≡ all
    → (has new c || (has rest c && not (c == m))) ≡ all
out_step all n m c rest left new old put e h =
    ap (λ (b : Bool). b || (has rest c && not (c == m))) (put c)
    ∙ (by (cases_eq n c) ∙ (ap (λ (ns : List ℕ). has left c || (has ns c && not (c == m))) (sym e) ∙ h))
  where
    same : (d a r l : Bool) → a ≡ d → ((if not a && true then true else l) || (r && not d)) ≡ (l || ((true || r) && not d))
    same true true true l g = refl
    same true true false l g = refl
    same true false r l g = absurd (true≢false (sym g))
    same false true r l g = absurd (true≢false g)
    same false false r true g = refl
    same false false r false g = refl

    by : (n ≡ c) ⊎ (n ≢ c) → ((if not (n == m) && (c == n) then true else has left c) || (has rest c && not (c == m))) ≡ (has left c || (((n == c) || has rest c) && not (c == m)))
    by (inl g) =
        ap (λ (b : Bool). (if not (n == m) && b then true else has left c) || (has rest c && not (c == m))) (eq-eqb c n (sym g))
        ∙ (same (c == m) (n == m) (has rest c) (has left c) (ap (λ (x : ℕ). x == m) g)
        ∙ ap (λ (b : Bool). has left c || ((b || has rest c) && not (c == m))) (sym (eq-eqb n c g)))
    by (inr ne) =
        ap (λ (b : Bool). (if not (n == m) && b then true else has left c) || (has rest c && not (c == m))) (ne_eqb c n (λ g. ne (sym g)))
        ∙ (other (not (n == m)) (has left c) (has rest c && not (c == m))
        ∙ ap (λ (b : Bool). has left c || ((b || has rest c) && not (c == m))) (sym (ne_eqb n c ne)))
      where
        other : (a l x : Bool) → ((if a && false then true else l) || x) ≡ (l || x)
        other true l x = refl
        other false l x = refl

pub out_end : (all : Bool) (m c : ℕ) (rest left : List ℕ) → rest ≡ [] → (has left c || (has rest c && not (c == m))) ≡ all → has left c ≡ all
out_end all m c rest left e h = or_false (has left c) ∙ (ap (λ (ns : List ℕ). has left c || (has ns c && not (c == m))) (sym e) ∙ h)
  where
    or_false : (x : Bool) → x ≡ (x || false)
    or_false true = refl
    or_false false = refl
