-- The machine's steps keep its facts. No table here.
use Rattle.std.proofs.Common.{◌≡◌, ◌≢◌, ℕ, zero, suc, ◌+◌, ◌<◌, ◌≤◌, ◌==◌, ◌/◌, eq-eqb, ne_eqb, Bool, true, if◌then◌else◌, List, [], ◌∷◌, ◌++◌, length, get_or, set, replicate, sym, refl, ap, ◌∙◌, subst, ◌⊎◌, inl, inr, ⊎_elim, arith, Option, Some, None, length-set, get_or-set_same, get_or-set_other, All}
use Rattle.std.proofs.lemmas.List.{length-replicate}
use mathlib.Core.Logic.{dite}
use native.Mathlib.Decide.{ℕ_discrete}
use Rattle.loom_trace.specs.Places.{has_bit, has_place}
use Rattle.loom_gate.specs.declared.log.PassRow.{PassRow}
use Rattle.loom_gate.specs.declared.view.Stage.{Stage}
use Rattle.loom_gate.specs.declared.view.Stage.TheVariants.{Stands, Tries, Clear, Inside}
use Rattle.loom_gate.specs.declared.view.PassView.{PassView}
use Rattle.loom_gate.specs.declared.view.Look.{Look}
use Rattle.loom_gate.specs.declared.view.Look.TheVariants.{Unknown, SawInside, SawPlace}
use Rattle.loom_gate.specs.View.{mark, stand_word, look_of, place_of, place_seen, with_row, switch_rows}
use Rattle.loom_gate.specs.Record.{place_from, IsBefore}
use Rattle.loom_gate.specs.GateMachine.{IsThread, GateMachine, StageFits, LookFits, LatestFits, RowsFit, SwitchFits, Lawful, WasRaised, AllStood}
use Rattle.loom_gate.proofs.Rows.{all_snoc, all_append, all_map, length_snoc, from_snoc, from_none, from_some, is_here, version_last, order_snoc}

abbrev pub upd : (ℕ → PassView) → ℕ → PassView → ℕ → PassView
upd ps t q j = if j == t then q else ps j

pub upd_same : (ps : ℕ → PassView) (t : ℕ) (q : PassView) → upd ps t q t ≡ q
upd_same ps t q = ap (λ (b : Bool). if b then q else ps t) (eq-eqb t t refl)

pub upd_other : (ps : ℕ → PassView) (t j : ℕ) (q : PassView) → j ≢ t → upd ps t q j ≡ ps j
upd_other ps t j q n = ap (λ (b : Bool). if b then q else ps j) (ne_eqb j t n)

pub upd_all : (F : ℕ → PassView → Type 0) (ps : ℕ → PassView) (t : ℕ) (q : PassView) → F t q → ((j : ℕ) → j ≢ t → F j (ps j)) → (j : ℕ) → F j (upd ps t q j)
upd_all F ps t q mine others j = dite (ℕ_discrete j t)
    (λ e. subst (F j) (ap (λ (b : Bool). if b then q else ps j) (sym (eq-eqb j t e))) (subst (λ (i : ℕ). F i q) (sym e) mine))
    (λ n. subst (F j) (sym (upd_other ps t j q n)) (others j n))

stage_place : Stage → ℕ
stage_place (Stands p) = p
stage_place (Tries p) = p
stage_place (Clear p) = p
stage_place (Inside v) = v

is_stands : Stage → Type 0
is_stands (Stands p) = Unit {0}
is_stands (Tries p) = ⊥
is_stands (Clear p) = ⊥
is_stands (Inside v) = ⊥

pub stands_tries : (a b : ℕ) → Stands a ≡ Tries b → ⊥
unfolding is_stands
stands_tries a b e = subst is_stands e tt

tries_same : (a b : ℕ) → Tries a ≡ Tries b → a ≡ b
unfolding stage_place
tries_same a b e = ap stage_place e

stands_same : (a b : ℕ) → Stands a ≡ Stands b → a ≡ b
unfolding stage_place
stands_same a b e = ap stage_place e

is_clear : Stage → Type 0
is_clear (Stands p) = ⊥
is_clear (Tries p) = ⊥
is_clear (Clear p) = Unit {0}
is_clear (Inside v) = Unit {0}

pub clear_not_found : (st : Stage) (v x : ℕ) → (st ≡ Inside v) ⊎ ((p : ℕ) × (st ≡ Clear p)) → (st ≡ Stands x) ⊎ (st ≡ Tries x) → ⊥
unfolding is_clear
clear_not_found st v x a b =
    let clear : is_clear st = ⊎_elim (λ (e : st ≡ Inside v). subst is_clear (sym e) tt) (λ (e : (p : ℕ) × (st ≡ Clear p)). subst is_clear (sym e.1) tt) a in
    ⊎_elim (λ (e : st ≡ Stands x). subst is_clear e clear) (λ (e : st ≡ Tries x). subst is_clear e clear) b

-- what a look says of a pass stays, where what it says of a raised place stays
look_stays : (up : List ℕ) (look : Look) (p q : PassView) → p.tries ≤ q.tries
    → ((place : ℕ) → has_place up place ≡ true → (p.stage ≡ Stands place) ⊎ (p.stage ≡ Tries place) → (q.stage ≡ Stands place) ⊎ (q.stage ≡ Tries place))
    → LookFits up look p → LookFits up look q
look_stays up Unknown p q more still h = tt
look_stays up SawInside p q more still h = omega arith
look_stays up (SawPlace place) p q more still h = λ on. still place on (h on)

-- a pass's rows and its place tell the same of each switch so far
abbrev pub Tells : ℕ → ℕ → PassView → PassView → Type 0
Tells t version p q = (w : ℕ) → w ≤ version → place_from t w (place_of q.stage) q.rows ≡ place_from t w (place_of p.stage) p.rows

-- one pass says q, where it said p
pub pass_lawful : (n : ℕ) (m : GateMachine) (t : ℕ) (q : PassView) → Lawful n m → StageFits m.key.places m.key.version q.tries q.fresh q.stage → LookFits m.key.up (get_or m.key.looks t Unknown) q → LatestFits n m.key.ever q.latest
    → RowsFit t m.key.version q → Tells t m.key.version (m.passes t) q
    → Lawful n record { passes = upd m.passes t q; key = m.key }
pass_lawful n m t q l a b c r same = record {
  stages = λ j h. upd_all (λ (j : ℕ) (p : PassView). IsThread n j → StageFits m.key.places m.key.version p.tries p.fresh p.stage) m.passes t q (λ _. a) (λ j _ h. l.stages j h) j h;
  looks = λ j h. upd_all (λ (j : ℕ) (p : PassView). IsThread n j → LookFits m.key.up (get_or m.key.looks j Unknown) p) m.passes t q (λ _. b) (λ j _ h. l.looks j h) j h;
  latest = λ j h. upd_all (λ (j : ℕ) (p : PassView). IsThread n j → LatestFits n m.key.ever p.latest) m.passes t q (λ _. c) (λ j _ h. l.latest j h) j h;
  raised = l.raised;
  rows = λ j h. upd_all (λ (j : ℕ) (p : PassView). IsThread n j → RowsFit j m.key.version p) m.passes t q (λ _. r) (λ j _ h. l.rows j h) j h;
  switches = all_map (SwitchFits n m) (SwitchFits n record { passes = upd m.passes t q; key = m.key }) m.key.switches
      (λ w h. (
        h.0,
        h.1,
        upd_all (λ (j : ℕ) (p : PassView). (w.thread ≡ j) → place_from w.thread w.version (place_of p.stage) p.rows ≡ w.place) m.passes t q
            (λ e. subst (λ (j : ℕ). place_from j w.version (place_of q.stage) q.rows ≡ w.place) (sym e)
            (same w.version h.1 ∙ subst (λ (j : ℕ). place_from j w.version (place_of (m.passes j).stage) (m.passes j).rows ≡ w.place) e h.2))
            (λ j _ e. subst (λ (i : ℕ). place_from w.thread w.version (place_of (m.passes i).stage) (m.passes i).rows ≡ w.place) e h.2)
            w.thread refl,
      ))
      l.switches;
  threads = l.threads;
  wide = l.wide;
  most = l.most;
  small = l.small;
}

-- kind 1
pub tries_lawful : (n : ℕ) (m : GateMachine) (t place : ℕ) → IsThread n t → (m.passes t).stage ≡ Stands place → Lawful n m
    → Lawful n record { passes = upd m.passes t (record (m.passes t) { stage = Tries place; tries = (m.passes t).tries + 1 }); key = m.key }
tries_lawful n m t place is at l =
    let p : PassView = m.passes t in
    let fits : StageFits m.key.places m.key.version p.tries p.fresh (Stands place) = subst (λ (s : Stage). StageFits m.key.places m.key.version p.tries p.fresh s) at (l.stages t is) in
    let rows = l.rows t is in
    pass_lawful n m t (record p { stage = Tries place; tries = p.tries + 1 }) l (fits, omega arith)
    (look_stays m.key.up (get_or m.key.looks t Unknown) p (record p { stage = Tries place; tries = p.tries + 1 }) (omega arith)
    (λ q on h. ⊎_elim (λ (e : p.stage ≡ Stands q). inr (ap Tries (stands_same place q (sym at ∙ e)))) (λ (e : p.stage ≡ Tries q). absurd (stands_tries place q (sym at ∙ e))) h)
    (l.looks t is))
    (l.latest t is)
    record { count = rows.count; fresh = rows.fresh; below = rows.below; newest = rows.newest; order = rows.order }
    (λ w low. ap (λ (s : Stage). place_from t w (place_of s) p.rows) (sym at))

-- kind 2, flagged
pub flagged_lawful : (n : ℕ) (m : GateMachine) (t place : ℕ) → IsThread n t → (m.passes t).stage ≡ Tries place → (i word : ℕ) → ((q : ℕ) → (n + 1) + q / 64 ≡ i → has_bit word q ≡ true → WasRaised m.key.ever q) → Lawful n m
    → Lawful n record { passes = upd m.passes t (record (m.passes t) { stage = Tries place; checks = (m.passes t).checks + 1; latest = Some (i, word) }); key = m.key }
flagged_lawful n m t place is at i word on l =
    let p : PassView = m.passes t in
    let q : PassView = record p { stage = Tries place; checks = p.checks + 1; latest = Some (i, word) } in
    let rows = l.rows t is in
    pass_lawful n m t q l (subst (λ (s : Stage). StageFits m.key.places m.key.version p.tries p.fresh s) at (l.stages t is))
    (look_stays m.key.up (get_or m.key.looks t Unknown) p q (omega arith) (λ x on h. ⊎_elim (λ (e : p.stage ≡ Stands x). inl (sym at ∙ e)) (λ (e : p.stage ≡ Tries x). inr (sym at ∙ e)) h) (l.looks t is))
    on
    record { count = rows.count; fresh = rows.fresh; below = rows.below; newest = rows.newest; order = rows.order }
    (λ w low. ap (λ (s : Stage). place_from t w (place_of s) p.rows) (sym at))

-- kind 2, clear
pub clear_lawful : (n : ℕ) (m : GateMachine) (t place : ℕ) → IsThread n t → (m.passes t).stage ≡ Tries place → (has_place m.key.up place ≡ true → ⊥) → (i word : ℕ) → ((q : ℕ) → (n + 1) + q / 64 ≡ i → has_bit word q ≡ true → WasRaised m.key.ever q) → Lawful n m
    → Lawful n record { passes = upd m.passes t (record (m.passes t) { stage = Clear place; checks = (m.passes t).checks + 1; latest = Some (i, word) }); key = m.key }
clear_lawful n m t place is at off i word on l =
    let p : PassView = m.passes t in
    let q : PassView = record p { stage = Clear place; checks = p.checks + 1; latest = Some (i, word) } in
    let rows = l.rows t is in
    pass_lawful n m t q l (subst (λ (s : Stage). StageFits m.key.places m.key.version p.tries p.fresh s) at (l.stages t is))
    (look_stays m.key.up (get_or m.key.looks t Unknown) p q (omega arith)
    (λ x on h. ⊎_elim (λ (e : p.stage ≡ Stands x). absurd (stands_tries x place (sym e ∙ at))) (λ (e : p.stage ≡ Tries x). absurd (off (subst (λ (y : ℕ). has_place m.key.up y ≡ true) (tries_same x place (sym e ∙ at)) on))) h)
    (l.looks t is))
    on
    record { count = rows.count; fresh = rows.fresh; below = rows.below; newest = rows.newest; order = rows.order }
    (λ w low. ap (λ (s : Stage). place_from t w (place_of s) p.rows) (sym at))

-- kind 2, inside
pub polls_lawful : (n : ℕ) (m : GateMachine) (t : ℕ) → IsThread n t → (i word : ℕ) → ((q : ℕ) → (n + 1) + q / 64 ≡ i → has_bit word q ≡ true → WasRaised m.key.ever q) → Lawful n m
    → Lawful n record { passes = upd m.passes t (record (m.passes t) { checks = (m.passes t).checks + 1; latest = Some (i, word) }); key = m.key }
polls_lawful n m t is i word on l =
    let p : PassView = m.passes t in
    let q : PassView = record p { checks = p.checks + 1; latest = Some (i, word) } in
    let rows = l.rows t is in
    pass_lawful n m t q l (l.stages t is) (look_stays m.key.up (get_or m.key.looks t Unknown) p q (omega arith) (λ x on h. h) (l.looks t is)) on
    record { count = rows.count; fresh = rows.fresh; below = rows.below; newest = rows.newest; order = rows.order }
    (λ w low. refl)

-- the rows after an entering with version v, which is the machine's
abbrev in_rows : ℕ → ℕ → ℕ → PassView → PassView
in_rows t v place p = record p { stage = Inside v; fresh = v + 1; rows = with_row p.fresh t v place p.rows }

rows_fit : (t v place : ℕ) (p : PassView) → RowsFit t v p → RowsFit t v (in_rows t v place p)
rows_fit t v place p r = dite (ℕ_discrete p.fresh (v + 1))
    (λ e. subst (λ (b : Bool). RowsFit t v record p { stage = Inside v; fresh = v + 1; rows = (if b then p.rows else p.rows ++ record { thread = t; version = v; place = place } ∷ []) }) (sym (eq-eqb p.fresh (v + 1) e))
    (let c = r.count in record {
      count = omega arith;
      fresh = omega arith;
      below = all_map (λ (x : PassRow). (x.thread ≡ t) × (x.version < p.fresh)) (λ (x : PassRow). (x.thread ≡ t) × (x.version < v + 1)) p.rows (λ x h. let a = h.1 in (h.0, omega arith)) r.below;
      newest = λ k d. r.newest k (e ∙ d);
      order = r.order;
    }))
    (λ other. subst (λ (b : Bool). RowsFit t v record p { stage = Inside v; fresh = v + 1; rows = (if b then p.rows else p.rows ++ record { thread = t; version = v; place = place } ∷ []) }) (sym (ne_eqb p.fresh (v + 1) other))
    (let c = r.count in let f = r.fresh in let s = length_snoc p.rows record { thread = t; version = v; place = place } in record {
      count = omega arith;
      fresh = omega arith;
      below = all_snoc (λ (x : PassRow). (x.thread ≡ t) × (x.version < v + 1)) p.rows record { thread = t; version = v; place = place }
          (all_map (λ (x : PassRow). (x.thread ≡ t) × (x.version < p.fresh)) (λ (x : PassRow). (x.thread ≡ t) × (x.version < v + 1)) p.rows (λ x h. let a = h.1 in (h.0, omega arith)) r.below)
          (refl, omega arith);
      newest = λ k d. version_last k p.rows record { thread = t; version = v; place = place } (omega arith);
      order = order_snoc p.rows record { thread = t; version = v; place = place } r.order
          (all_map (λ (x : PassRow). (x.thread ≡ t) × (x.version < p.fresh)) (λ (x : PassRow). IsBefore x record { thread = t; version = v; place = place }) p.rows (λ x h. let a = h.1 in inr (h.0, omega arith)) r.below);
    }))

threads_of : (t f : ℕ) (rows : List PassRow) → All (λ (r : PassRow). (r.thread ≡ t) × (r.version < f)) rows → All (λ (r : PassRow). r.thread ≡ t) rows
threads_of t f rows h = all_map (λ (r : PassRow). (r.thread ≡ t) × (r.version < f)) (λ (r : PassRow). r.thread ≡ t) rows (λ r h. h.0) h

rows_tell : (t v place : ℕ) (p : PassView) → RowsFit t v p → (w x : ℕ) → w ≤ v → place_from t w x (with_row p.fresh t v place p.rows) ≡ place_from t w place p.rows
rows_tell t v place p r w x low =
    let row : PassRow = record { thread = t; version = v; place = place } in
    dite (ℕ_discrete p.fresh (v + 1))
    (λ e. ap (λ (b : Bool). place_from t w x (if b then p.rows else p.rows ++ row ∷ [])) (eq-eqb p.fresh (v + 1) e)
    ∙ from_some t w v x place p.rows (threads_of t p.fresh p.rows r.below) (r.newest v e) low)
    (λ other. ap (λ (b : Bool). place_from t w x (if b then p.rows else p.rows ++ row ∷ [])) (ne_eqb p.fresh (v + 1) other)
    ∙ (from_snoc t w x p.rows row
    ∙ ap (λ (b : Bool). place_from t w (if b then place else x) p.rows) (is_here t w row refl low)))

-- kind 3
pub reads_lawful : (n : ℕ) (m : GateMachine) (t place : ℕ) → IsThread n t → (m.passes t).stage ≡ Clear place → Lawful n m
    → Lawful n record { passes = upd m.passes t (record (m.passes t) { stage = Inside m.key.version; fresh = m.key.version + 1; rows = with_row (m.passes t).fresh t m.key.version place (m.passes t).rows }); key = m.key }
reads_lawful n m t place is at l =
    let p : PassView = m.passes t in
    let q : PassView = in_rows t m.key.version place p in
    let fits : StageFits m.key.places m.key.version p.tries p.fresh (Clear place) = subst (λ (s : Stage). StageFits m.key.places m.key.version p.tries p.fresh s) at (l.stages t is) in
    pass_lawful n m t q l (refl, fits.1, refl)
    (look_stays m.key.up (get_or m.key.looks t Unknown) p q (omega arith) (λ x on h. absurd (clear_not_found p.stage 0 x (inr (place, at)) h)) (l.looks t is))
    (l.latest t is)
    (rows_fit t m.key.version place p (l.rows t is))
    (λ w low. rows_tell t m.key.version place p (l.rows t is) w 0 low ∙ ap (λ (s : Stage). place_from t w (place_of s) p.rows) (sym at))

-- kind 4: from the place that was tried, or from inside
pub leaves_lawful : (n : ℕ) (m : GateMachine) (t place : ℕ) → IsThread n t → place < m.key.places → ((m.passes t).stage ≡ Tries place) ⊎ ((v : ℕ) × ((m.passes t).stage ≡ Inside v)) → Lawful n m
    → Lawful n record { passes = upd m.passes t (record (m.passes t) { stage = Stands place }); key = m.key }
leaves_lawful n m t place is low from l =
    let p : PassView = m.passes t in
    let q : PassView = record p { stage = Stands place } in
    let rows = l.rows t is in
    pass_lawful n m t q l low
    (look_stays m.key.up (get_or m.key.looks t Unknown) p q (omega arith)
    (λ x on h. ⊎_elim
    (λ (at : p.stage ≡ Tries place). ⊎_elim (λ (e : p.stage ≡ Stands x). absurd (stands_tries x place (sym e ∙ at))) (λ (e : p.stage ≡ Tries x). inl (ap Stands (tries_same place x (sym at ∙ e)))) h)
    (λ (at : (v : ℕ) × (p.stage ≡ Inside v)). absurd (clear_not_found p.stage at.0 x (inl at.1) h))
    from)
    (l.looks t is))
    (l.latest t is)
    record { count = rows.count; fresh = rows.fresh; below = rows.below; newest = rows.newest; order = rows.order }
    (λ w early. ⊎_elim
    (λ (at : p.stage ≡ Tries place). ap (λ (s : Stage). place_from t w (place_of s) p.rows) (sym at))
    (λ (at : (v : ℕ) × (p.stage ≡ Inside v)).
    let f : StageFits m.key.places m.key.version p.tries p.fresh (Inside at.0) = subst (λ (s : Stage). StageFits m.key.places m.key.version p.tries p.fresh s) at.1 (l.stages t is) in
    let f0 = f.0 in
    from_some t w at.0 place (place_of p.stage) p.rows (threads_of t p.fresh p.rows rows.below) (rows.newest at.0 f.2) (omega arith))
    from)

unknown : (k t : ℕ) → get_or (replicate k Unknown) t Unknown ≡ Unknown
unknown zero t = refl
unknown (suc k) zero = refl
unknown (suc k) (suc t) = unknown k t

latest_more : (n : ℕ) (xs ys : List (ℕ × ℕ)) → ((p : ℕ) → WasRaised xs p → WasRaised ys p) → (o : Option (ℕ × ℕ)) → LatestFits n xs o → LatestFits n ys o
latest_more n xs ys more None h = tt
latest_more n xs ys more (Some l) h = λ place i e. more place (h place i e)

-- kinds 5 and 8: a word of flags is stored, and the looks are forgotten
pub flags_lawful : (n : ℕ) (m : GateMachine) (up : List ℕ) (ever : List (ℕ × ℕ)) → ((p : ℕ) → has_place up p ≡ true → WasRaised ever p) → ((p : ℕ) → WasRaised m.key.ever p → WasRaised ever p) → Lawful n m
    → Lawful n record { passes = m.passes; key = record m.key { up = up; ever = ever; looks = replicate (length m.key.looks) Unknown } }
flags_lawful n m up ever on more l = record {
  stages = l.stages;
  looks = λ t is. subst (λ (x : Look). LookFits up x (m.passes t)) (sym (unknown (length m.key.looks) t)) tt;
  latest = λ t is. latest_more n m.key.ever ever more (m.passes t).latest (l.latest t is);
  raised = on;
  rows = l.rows;
  switches = l.switches;
  threads = l.threads;
  wide = length-replicate (length m.key.looks) Unknown ∙ l.wide;
  most = l.most;
  small = l.small;
}

look_fits : (up : List ℕ) (places version : ℕ) → places ≤ mark → (p : PassView) (st : Stage) → p.stage ≡ st → StageFits places version p.tries p.fresh st → LookFits up (look_of (stand_word st)) p
look_fits up places version small p (Stands q) e h =
    let low : q ≢ mark = λ x. omega arith in
    subst (λ (b : Bool). LookFits up (if b then SawInside else SawPlace q) p) (sym (ne_eqb q mark low)) (λ _. inl e)
look_fits up places version small p (Tries q) e h = h.1
look_fits up places version small p (Clear q) e h = h.1
look_fits up places version small p (Inside q) e h = h.1

-- kind 6
pub looks_lawful : (n : ℕ) (m : GateMachine) (t : ℕ) → IsThread n t → Lawful n m
    → Lawful n record { passes = m.passes; key = record m.key { looks = set m.key.looks t (look_of (stand_word (m.passes t).stage)); count = m.key.count + 1 } }
looks_lawful n m t is l =
    let new : Look = look_of (stand_word (m.passes t).stage) in
    let wide = l.wide in let a = is.1 in
    record {
      stages = l.stages;
      looks = λ j h. dite (ℕ_discrete j t)
          (λ e. subst (λ (x : ℕ). LookFits m.key.up (get_or (set m.key.looks t new) x Unknown) (m.passes x)) (sym e)
          (subst (λ (x : Look). LookFits m.key.up x (m.passes t)) (sym (get_or-set_same m.key.looks t new Unknown (omega arith)))
          (look_fits m.key.up m.key.places m.key.version l.small (m.passes t) (m.passes t).stage refl (l.stages t is))))
          (λ other. subst (λ (x : Look). LookFits m.key.up x (m.passes j)) (sym (get_or-set_other m.key.looks t j new Unknown other)) (l.looks j h));
      latest = l.latest;
      raised = l.raised;
      rows = l.rows;
      switches = l.switches;
      threads = l.threads;
      wide = length-set m.key.looks t new ∙ l.wide;
      most = l.most;
      small = l.small;
    }

outside : (places version tries fresh : ℕ) (st : Stage) (place : ℕ) → (st ≡ Stands place) ⊎ (st ≡ Tries place) → StageFits places version tries fresh st → StageFits places (version + 1) tries fresh st
outside places version tries fresh (Stands p) place e h = h
outside places version tries fresh (Tries p) place e h = h
outside places version tries fresh (Clear p) place e h = h
outside places version tries fresh (Inside v) place e h = absurd (clear_not_found (Inside v) v place (inl refl) e)

-- a pass found at a raised place stands there, or tries from there
pub found_there : (n : ℕ) (m : GateMachine) (t place : ℕ) → IsThread n t → get_or m.key.looks t Unknown ≡ SawPlace place → has_place m.key.up place ≡ true → Lawful n m → ((m.passes t).stage ≡ Stands place) ⊎ ((m.passes t).stage ≡ Tries place)
found_there n m t place is at on l = let f : LookFits m.key.up (SawPlace place) (m.passes t) = subst (λ (x : Look). LookFits m.key.up x (m.passes t)) at (l.looks t is) in f on

-- where that holds of each, nobody is inside
pub nobody_inside : (n : ℕ) (m : GateMachine) → AllStood n m.key → Lawful n m → (t : ℕ) → IsThread n t → (place : ℕ) × (((m.passes t).stage ≡ Stands place) ⊎ ((m.passes t).stage ≡ Tries place))
nobody_inside n m all l t is = let a = all t is in (a.0, found_there n m t a.0 is a.1 a.2 l)

later_rows : (t version : ℕ) (p : PassView) → RowsFit t version p → RowsFit t (version + 1) p
later_rows t version p r = let f = r.fresh in record { count = r.count; fresh = omega arith; below = r.below; newest = r.newest; order = r.order }

-- the rows of a switch tell where each pass stands, or from where it tries
new_rows : (n : ℕ) (m : GateMachine) (k : ℕ) → k ≤ n → AllStood n m.key → Lawful n m → (m' : GateMachine) → m'.passes ≡ m.passes → m'.key.version ≡ m.key.version + 1
    → All (SwitchFits n m') (switch_rows (m.key.version + 1) m.key.looks k)
new_rows n m zero low all l m' ps v = λ k d h. absurd (omega arith)
new_rows n m (suc t) low all l m' ps v =
    let is : IsThread n (suc t) = (omega arith, low) in
    let p : PassView = m.passes (suc t) in
    let a = all (suc t) is in
    let place : ℕ = a.0 in
    let seen : place_seen (get_or m.key.looks (suc t) Unknown) ≡ place = ap place_seen a.1 in
    let stands : place_of p.stage ≡ place = ⊎_elim (λ (e : p.stage ≡ Stands place). ap place_of e) (λ (e : p.stage ≡ Tries place). ap place_of e) (found_there n m (suc t) place is a.1 a.2 l) in
    let rows = l.rows (suc t) is in
    let fresh = rows.fresh in
    let old : All (λ (r : PassRow). (r.thread ≡ suc t) × (r.version < m.key.version + 1)) p.rows =
    all_map (λ (r : PassRow). (r.thread ≡ suc t) × (r.version < p.fresh)) (λ (r : PassRow). (r.thread ≡ suc t) × (r.version < m.key.version + 1)) p.rows (λ r h. let a = h.1 in (h.0, omega arith)) rows.below in
    all_snoc (SwitchFits n m') (switch_rows (m.key.version + 1) m.key.looks t) record { version = m.key.version + 1; thread = suc t; place = place_seen (get_or m.key.looks (suc t) Unknown) }
    (new_rows n m t (omega arith) all l m' ps v) (
      is,
      omega arith,
      ap (λ (f : ℕ → PassView). place_from (suc t) (m.key.version + 1) (place_of (f (suc t)).stage) (f (suc t)).rows) ps
          ∙ (from_none (suc t) (m.key.version + 1) (place_of p.stage) p.rows old ∙ (stands ∙ sym seen)),
    )

-- kind 7
pub switches_lawful : (n : ℕ) (m : GateMachine) → AllStood n m.key → m.key.version < 128 → Lawful n m
    → Lawful n record { passes = m.passes; key = record m.key { version = m.key.version + 1; switches = m.key.switches ++ switch_rows (m.key.version + 1) m.key.looks m.key.threads } }
switches_lawful n m all low l =
    let threads = l.threads in
    let m' : GateMachine = record { passes = m.passes; key = record m.key { version = m.key.version + 1; switches = m.key.switches ++ switch_rows (m.key.version + 1) m.key.looks m.key.threads } } in
    record {
      stages = λ t is. let a = nobody_inside n m all l t is in outside m.key.places m.key.version (m.passes t).tries (m.passes t).fresh (m.passes t).stage a.0 a.1 (l.stages t is);
      looks = l.looks;
      latest = l.latest;
      raised = l.raised;
      rows = λ t is. later_rows t m.key.version (m.passes t) (l.rows t is);
      switches = all_append (SwitchFits n m') m.key.switches (switch_rows (m.key.version + 1) m.key.looks m.key.threads)
          (all_map (SwitchFits n m) (SwitchFits n m') m.key.switches (λ w h. let a = h.1 in (h.0, omega arith, h.2)) l.switches)
          (new_rows n m m.key.threads (omega arith) all l m' refl refl);
      threads = l.threads;
      wide = l.wide;
      most = omega arith;
      small = l.small;
    }

-- a thread's word is the mark, or a place of the gate
pub word_low : (places version tries fresh : ℕ) (st : Stage) → places ≤ mark → StageFits places version tries fresh st → (stand_word st ≤ mark) × (stand_word st < mark → stand_word st < places)
word_low places version tries fresh (Stands p) small h = (omega arith, λ _. h)
word_low places version tries fresh (Tries p) small h = (omega arith, λ low. absurd (omega arith))
word_low places version tries fresh (Clear p) small h = (omega arith, λ low. absurd (omega arith))
word_low places version tries fresh (Inside v) small h = (omega arith, λ low. absurd (omega arith))
