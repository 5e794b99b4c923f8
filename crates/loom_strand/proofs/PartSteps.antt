-- A thread in its part, one mark farther.
use Rattle.std.proofs.Common.{ℕ, suc, ◌≡◌, ◌==◌, ◌<◌, ◌≤◌, ◌⊎◌, Bool, true, false, List, [], ◌∷◌, ◌++◌, length, map, ℤ, Option, Some, None, refl, inl, inr, sym, ap, subst, ◌∙◌, append_assoc, append-nil, arith, rules, if◌then◌else◌}
use Rattle.loom_tree.specs.Tree.{Source}
use Rattle.loom_lang.specs.Rules.{KeepsRules}
use Rattle.loom_lang.specs.Places.{Place, place_at, line_of_place}
use Rattle.loom_lang.specs.Places as site
use Rattle.loom_lang.specs.Trace.{Item, Outcome, Open, made, begins, done, edge, enter, out, end, IsTrace, frame_limit}
use Rattle.loom_flow.specs.Flow.{Flow}
use Rattle.loom_flow.specs.FlatTrace.{IsFlatTrace}
use Rattle.loom_flow.specs.Code.{IsLowered}
use Rattle.loom_flow.specs.State.{State, named}
use Rattle.loom_flow.specs.Position.{Position}
use Rattle.loom_flow.specs.Progress.{Progress, goes, ends, progress}
use Rattle.loom_flow.proofs.Traces.{lowered_traces}
use Rattle.loom_trace.specs.Places.{has_place}
use Rattle.loom_law.specs.Filter.{function}
use Rattle.loom_law.specs.OpenStatements.{frame_lines, StandsIn}
use Rattle.loom_law.specs.Walk.{Version, Plans, PartStep, items, Queue, OpenStatement, OpenFrame, Spot, beginning, entered, complete, left, trapped, elsewhere, Walk, tick_after, tick, place_number, with_tick, request_place, place_of_request, place_in_top, after_item, walk_from, unborn}
use Rattle.loom_law.specs.Walk as walk
use Rattle.loom_law.specs.ThreadPart.{Own, walk_of}
use Rattle.loom_law.proofs.PlaceNumbers.{one_number}
use Rattle.loom_plan.specs.Compiled.{Compiled}
use Rattle.loom_plan.specs.PlaceEvents.{names_at}
use Rattle.loom_version.specs.Plans.{plans_in}
use Rattle.loom_walk.specs.declared.spot.Spot.{Spot as ShortSpot}
use Rattle.loom_walk.specs.declared.spot.Spot.TheVariants as s
use Rattle.loom_walk.specs.FilterWalk.{FilterWalk, IsSpot, IsAt, HasFilters, HasLocalsAt}
use Rattle.loom_walk.specs.Growth.{AreThere}
use Rattle.loom_strand.specs.declared.execution.Execution.{Execution}
use Rattle.loom_strand.specs.declared.stage.Birth.{Birth}
use Rattle.loom_strand.specs.declared.step_result.Mark.{Mark}
use Rattle.loom_strand.specs.declared.step_result.Mark.TheVariants as m
use Rattle.loom_strand.specs.StepResult.{place_passed}
use Rattle.loom_strand.specs.Way.{end_line, MayCome, Look, looks_nowhere, next_step, IsWay}
use Rattle.loom_strand.specs.InPart.{IsThere, IsInPart, IsNoneOf, AreIn, ArePassedBy, PassesUnflagged, HasGone, GoesOn, IsMarkOf, place_behind, CanPass}
use Rattle.loom_strand.proofs.Steps.{items_append, walk_append, IsMark, mark_active}
use Rattle.loom_strand.proofs.Ways.{one_mark_comes, way_past, way_by}
use Rattle.loom_strand.proofs.PartLaws.{nested, few_frames, end_frames}

-- Traces

pub flat_tree : (c : Flow) → IsLowered c → (f : ℕ) (vs : List ℤ) (is : List Item) (q : Outcome) → IsFlatTrace c f vs is q → IsTrace c.program f vs is q
flat_tree c l f vs is q h = (lowered_traces c.program l.lawful f vs is q).0 (subst (λ d. IsFlatTrace d f vs is q) l.is h)

-- the next mark of a way
pub mark_trace : (c : Flow) (plans : Plans) (x : Own) (w : Progress) (i : Item) (y : Position) (look : Look) (steps : List PartStep) → IsLowered c → w ≡ goes (Some i) y → IsWay c plans x w look steps
    → IsTrace c.program x.func x.args (items steps ++ i ∷ []) Open
mark_trace c plans x w i y look steps l is h =
    flat_tree c l x.func x.args (items steps ++ i ∷ []) Open (h.trace (i ∷ []) Open 0 (subst (λ v. MayCome c x.func v 0 (i ∷ []) Open) (sym is) (one_mark_comes c x.func i y)))

pub mark_nests : (c : Flow) (plans : Plans) (x : Own) (w : Progress) (i : Item) (y : Position) (look : Look) (steps : List PartStep) → IsLowered c → w ≡ goes (Some i) y → IsWay c plans x w look steps
    → StandsIn (frame_lines (walk_of c.program plans x steps).frames) i
mark_nests c plans x w i y look steps l is h = nested c.program l.lawful plans x steps i [] Open (mark_trace c plans x w i y look steps l is h)

-- Ticks

no_more : {A : Type 0} (b : Bool) (x : A) (xs : List A) → (if b then x ∷ xs else xs) ≡ [] → b ≡ false
no_more true x xs h = cc
no_more false x xs h = refl

not_thousandth : (k : ℕ) → k < tick_after → (suc k == tick_after) ≡ false → suc k < tick_after
not_thousandth k h e = let differs : suc k == tick_after ≡ false = e in let less : k < tick_after = h in let goal : suc k < tick_after = search (rules, arith) in goal

few_more : (p : Source) (x : Place) (n : ℕ) (os : Queue) → n < tick_after → with_tick p x (suc n) os ≡ [] → suc n < tick_after
few_more p x n os few none = not_thousandth n few (no_more (suc n == tick_after) (line_of_place p x, tick (place_number p x)) os none)

pub mark_few : (p : Source) (plans : Plans) (z : Walk) (i : Item) → IsMark i → length z.passed < tick_after → Walk.owed (after_item p plans z i) ≡ [] → length (Walk.passed (after_item p plans z i)) < tick_after
mark_few p plans z (made l a) h few none = absurd h
mark_few p plans z (begins l env) h few none = few
mark_few p plans z (done l) h few none = few
mark_few p plans z (edge l) h few none = few_more p (site.back_edge l) (length z.passed) [] few none
mark_few p plans z (enter f env) h few none = few_more p (site.entry f) (length z.passed) (walk.owed_at plans z.held (walk.function_line p f) (function (Some f)) env z.active) few none
mark_few p plans z (out f) h few none = few

-- Places

innermost_place : (l : ℕ) (fs : List OpenFrame) → StandsIn (frame_lines fs) (edge l) → place_in_top fs ≡ site.inside l
innermost_place l [] h = absurd h
innermost_place l (x ∷ xs) h = by_statements x.statements h
  where
    by_statements : (ss : List OpenStatement) → StandsIn (map (λ (y : OpenStatement). y.line) ss ∷ frame_lines xs) (edge l) → walk.innermost x.func ss ≡ site.inside l
    by_statements [] g = absurd g
    by_statements (y ∷ ys) g = ap site.inside g.0

-- where a thread is behind a mark, if it owes something there, or has left its last frame
mark_place : (p : Source) (plans : Plans) (z : Walk) (i : Item) → IsMark i → StandsIn (frame_lines z.frames) i
    → ((Walk.owed (after_item p plans z i) ≡ [] → ⊥) ⊎ (Walk.frames (after_item p plans z i) ≡ [])) → request_place (after_item p plans z i) ≡ place_behind i site.nowhere
mark_place p plans z (made l a) h stands needs = absurd h
mark_place p plans z (begins l env) h stands needs = by_frames z.frames stands
  where
    by_frames : (fs : List OpenFrame) → StandsIn (frame_lines fs) (begins l env) → place_in_top (walk.in_frame (walk.open_statement l) fs) ≡ site.inside l
    by_frames [] g = absurd g
    by_frames (x ∷ xs) g = refl
mark_place p plans z (done l) h stands needs = refl
mark_place p plans z (edge l) h stands needs = innermost_place l z.frames stands
mark_place p plans z (enter f env) h stands needs = refl
mark_place p plans z (out f) h stands (inl owing) = by_owed (Walk.owed (after_item p plans z (out f))) owing
  where
    by_owed : (os : Queue) → (os ≡ [] → ⊥) → place_of_request (left f (walk.inside_first z.frames)) os (walk.without_first z.frames) ≡ site.out f
    by_owed [] g = absurd (g refl)
    by_owed (o ∷ os) g = refl
mark_place p plans z (out f) h stands (inr none) =
    subst (λ fs. place_of_request (left f (walk.inside_first z.frames)) (Walk.owed (after_item p plans z (out f))) fs ≡ site.out f) (sym none) (by_owed (Walk.owed (after_item p plans z (out f))))
  where
    by_owed : (os : Queue) → place_of_request (left f (walk.inside_first z.frames)) os [] ≡ site.out f
    by_owed [] = refl
    by_owed (o ∷ os) = refl

-- Locals

locals_at_begin : (p : Source) → KeepsRules p → (k l : ℕ) (vs : List ℤ) (sp : ShortSpot) → place_at p k ≡ Some (site.inside l) → IsSpot p sp (beginning l (named (names_at p k) vs))
    → HasLocalsAt p sp vs (beginning l (named (names_at p k) vs))
locals_at_begin p r k l vs (s.Beginning line at) e g = ap (λ n. named (names_at p n) vs) (sym (one_number p r k (site.inside l) e) ∙ one_number p r at (site.inside l) g.1)
locals_at_begin p r k l vs _ e g = absurd g

locals_at_entry : (p : Source) → KeepsRules p → (k f : ℕ) (vs : List ℤ) (sp : ShortSpot) → place_at p k ≡ Some (site.entry f) → IsSpot p sp (entered f (named (names_at p k) vs))
    → HasLocalsAt p sp vs (entered f (named (names_at p k) vs))
locals_at_entry p r k f vs (s.Entered at) e g = ap (λ n. named (names_at p n) vs) (sym (one_number p r k (site.entry f) e) ∙ one_number p r at (site.entry f) g)
locals_at_entry p r k f vs _ e g = absurd g

locals_at_done : (p : Source) (l : ℕ) (vs : List ℤ) (sp : ShortSpot) → IsSpot p sp (complete l) → HasLocalsAt p sp vs (complete l)
locals_at_done p l vs (s.Beginning line at) g = tt
locals_at_done p l vs (s.Entered at) g = tt
locals_at_done p l vs _ g = tt

locals_at_edge : (p : Source) (vs : List ℤ) (sp : ShortSpot) → IsSpot p sp elsewhere → HasLocalsAt p sp vs elsewhere
locals_at_edge p vs (s.Beginning line at) g = tt
locals_at_edge p vs (s.Entered at) g = tt
locals_at_edge p vs _ g = tt

locals_at_out : (p : Source) (f : ℕ) (is : List walk.Inside) (vs : List ℤ) (sp : ShortSpot) → IsSpot p sp (left f is) → HasLocalsAt p sp vs (left f is)
locals_at_out p f is vs (s.Beginning line at) g = tt
locals_at_out p f is vs (s.Entered at) g = tt
locals_at_out p f is vs _ g = tt

mark_locals : (c : Flow) (plans : Plans) (z : Walk) (y : State) (mark : Mark) (i : Item) (sp : ShortSpot) → KeepsRules c.program → IsMarkOf c y mark i → IsSpot c.program sp (Walk.spot (after_item c.program plans z i))
    → HasLocalsAt c.program sp y.locals (Walk.spot (after_item c.program plans z i))
mark_locals c plans z y (m.Begins k) (begins l env) sp r h g =
    subst (λ e. HasLocalsAt c.program sp y.locals (beginning l e)) (sym h.1) (locals_at_begin c.program r k l y.locals sp h.0 (subst (λ e. IsSpot c.program sp (beginning l e)) h.1 g))
mark_locals c plans z y (m.Done n k) (done l) sp r h g = locals_at_done c.program l y.locals sp g
mark_locals c plans z y (m.Edge k) (edge l) sp r h g = locals_at_edge c.program y.locals sp g
mark_locals c plans z y (m.Enter n k) (enter f env) sp r h g =
    subst (λ e. HasLocalsAt c.program sp y.locals (entered f e)) (sym h.1.1) (locals_at_entry c.program r k f y.locals sp h.1.0 (subst (λ e. IsSpot c.program sp (entered f e)) h.1.1 g))
mark_locals c plans z y (m.Out n) (out f) sp r h g = locals_at_out c.program f (walk.inside_first z.frames) y.locals sp g
mark_locals c plans z y _ _ sp r h g = absurd h

pub is_mark : (c : Flow) (y : State) (mark : Mark) (i : Item) → IsMarkOf c y mark i → IsMark i
is_mark c y mark (made l a) h = no_entry mark h
  where
    no_entry : (n : Mark) → IsMarkOf c y n (made l a) → ⊥
    no_entry (m.Begins k) g = g
    no_entry (m.Done n k) g = g
    no_entry (m.Edge k) g = g
    no_entry (m.Enter n k) g = g
    no_entry (m.Out n) g = g
is_mark c y mark (begins l env) h = tt
is_mark c y mark (done l) h = tt
is_mark c y mark (edge l) h = tt
is_mark c y mark (enter f env) h = tt
is_mark c y mark (out f) h = tt

-- A mark is passed: by the machine, by the walk, and by the place.
pub record PassesMark (c : Flow) (cs : List (Option Compiled)) (b : Birth) (old new : Execution) (mark : Mark) (i : Item) (y : Position) : Type 0 where
  pub step : next_step c b old.stage old.machine ≡ goes (Some i) y
  pub next : next_step c b new.stage new.machine ≡ progress c y
  pub is : IsMarkOf c new.machine.state mark i
  pub place : place_at c.program new.place ≡ Some (place_behind i site.nowhere)
  pub walks : (z : Walk) → StandsIn (frame_lines z.frames) i → IsAt c.program (plans_in cs) old.walk z → IsAt c.program (plans_in cs) new.walk (after_item c.program (plans_in cs) z i)

-- where the thread is to end no frame is open
abbrev EndsBare : Flow → Plans → Walk → Item → Position → Type 0
EndsBare c plans z i y = progress c y ≡ ends → Walk.frames (after_item c.program plans z i) ≡ []

there_past : (c : Flow) (cs : List (Option Compiled)) (b : Birth) (vs : List Version) (old new : Execution) (mark : Mark) (i : Item) (y : Position) (look : Look) (z : Walk) → IsLowered c
    → PassesMark c cs b old new mark i y → StandsIn (frame_lines z.frames) i → z.owed ≡ [] → EndsBare c (plans_in cs) z i y → IsThere c cs b vs old look z
    → IsThere c cs b vs new looks_nowhere (after_item c.program (plans_in cs) z i)
there_past c cs b vs old new mark i y look z l p stands none bare h =
    let marks : IsMark i = is_mark c new.machine.state mark i p.is in
    let same : Walk.active (after_item c.program (plans_in cs) z i) ≡ z.active = mark_active c.program (plans_in cs) z i marks in
    let at : IsAt c.program (plans_in cs) new.walk (after_item c.program (plans_in cs) z i) = p.walks z stands h.at in
    let place : ((Walk.owed (after_item c.program (plans_in cs) z i) ≡ [] → ⊥) ⊎ (Walk.frames (after_item c.program (plans_in cs) z i) ≡ []))
    → place_at c.program new.place ≡ Some (request_place (after_item c.program (plans_in cs) z i)) = λ needs.
    p.place ∙ ap {B = Option Place} Some (sym (mark_place c.program (plans_in cs) z i marks stands needs)) in
    record {
      at = at;
      active = same ∙ h.active;
      filters = record { all = subst (AreThere c.program cs) (sym h.at.active ∙ (sym same ∙ at.active)) old_filters };
      rests = inl refl;
      few = mark_few c.program (plans_in cs) z i marks (h.few none);
      place = record { owing = λ owes. place (inl owes); ending = λ over. place (inr (bare (sym p.next ∙ over))) };
      locals = inr (mark_locals c (plans_in cs) z new.machine.state mark i new.walk.spot l.lawful p.is at.spot);
    }
  where
    old_filters : AreThere c.program cs old.walk.version.active
    old_filters = h.filters.all

-- the same of the steps
pub part_past : (c : Flow) (cs : List (Option Compiled)) (b : Birth) (x : Own) (old new : Execution) (mark : Mark) (i : Item) (y : Position) (look : Look) (steps : List PartStep) → IsLowered c
    → PassesMark c cs b old new mark i y → (walk_of c.program (plans_in cs) x steps).owed ≡ [] → IsInPart c cs b x old look steps → IsInPart c cs b x new looks_nowhere (steps ++ walk.goes i ∷ [])
part_past c cs b x old new mark i y look steps l p none h =
    let way : IsWay c (plans_in cs) x (goes (Some i) y) look steps = subst (λ w. IsWay c (plans_in cs) x w look steps) p.step h.way in
    let longer : IsWay c (plans_in cs) x (progress c y) looks_nowhere (steps ++ walk.goes i ∷ []) = way_past c (plans_in cs) x i y look steps (is_mark c new.machine.state mark i p.is) none way in
    let behind : walk_of c.program (plans_in cs) x (steps ++ walk.goes i ∷ []) ≡ after_item c.program (plans_in cs) (walk_of c.program (plans_in cs) x steps) i =
    walk_append c.program (plans_in cs) (unborn x.versions) steps (walk.goes i ∷ []) in
    record {
      way = subst (λ w. IsWay c (plans_in cs) x w looks_nowhere (steps ++ walk.goes i ∷ [])) (sym p.next) longer;
      there = subst (IsThere c cs b x.versions new looks_nowhere) (sym behind)
          (there_past c cs b x.versions old new mark i y look (walk_of c.program (plans_in cs) x steps) l p (mark_nests c (plans_in cs) x (goes (Some i) y) i y look steps l refl way) none
          (λ over. sym (ap (λ (z : Walk). z.frames) behind) ∙ bare longer over) h.there);
    }
  where
    bare : IsWay c (plans_in cs) x (progress c y) looks_nowhere (steps ++ walk.goes i ∷ []) → progress c y ≡ ends → (walk_of c.program (plans_in cs) x (steps ++ walk.goes i ∷ [])).frames ≡ []
    bare g over =
        let line : ℕ = end_line c.program x.func in
        end_frames c.program (plans_in cs) x (steps ++ walk.goes i ∷ []) line [] Open
        (flat_tree c l x.func x.args (items (steps ++ walk.goes i ∷ []) ++ made line end ∷ []) Open
        (g.trace (made line end ∷ []) Open 0 (subst (λ w. MayCome c x.func w 0 (made line end ∷ []) Open) (sym over) (inr ([], refl, (refl, inr refl))))))

-- past no mark
pub part_by : (c : Flow) (cs : List (Option Compiled)) (b : Birth) (x : Own) (old new : Execution) (y : Position) (look : Look) (steps : List PartStep) → next_step c b old.stage old.machine ≡ goes None y
    → next_step c b new.stage new.machine ≡ progress c y → new.walk ≡ old.walk → new.place ≡ old.place → (walk_of c.program (plans_in cs) x steps).owed ≡ []
    → (progress c y ≡ ends → ⊥) → IsInPart c cs b x old look steps → IsInPart c cs b x new look steps
part_by c cs b x old new y look steps step next same place none lives h = record {
  way = subst (λ w. IsWay c (plans_in cs) x w look steps) (sym next) (way_by c (plans_in cs) x y look steps (subst (λ w. IsWay c (plans_in cs) x w look steps) step h.way));
  there = record {
    at = subst (λ w. IsAt c.program (plans_in cs) w (walk_of c.program (plans_in cs) x steps)) (sym same) h.there.at;
    active = h.there.active;
    filters = subst (λ (w : FilterWalk). HasFilters c.program cs w.version) (sym same) h.there.filters;
    rests = h.there.rests;
    few = h.there.few;
    place = record { owing = λ owes. absurd (owes none); ending = λ over. absurd (lives (sym next ∙ over)) };
    locals = inl none;
  };
}

-- Places that are passed

none_of : (p : Source) (flags places : List ℕ) (x : Place) → AreIn places flags → IsNoneOf p flags x → IsNoneOf p places x
none_of p flags places x within h = (h.0, (h.1.0, by_flag (has_place places h.0) refl))
  where
    by_flag : (o : Bool) → has_place places h.0 ≡ o → has_place places h.0 ≡ false
    by_flag true e = let no : true ≡ false = sym (within h.0 e) ∙ h.1.1 in cc
    by_flag false e = e

none_in : (p : Source) (flags places : List ℕ) (xs ys : List Place) → AreIn places flags → ArePassedBy p flags xs → ArePassedBy p places ys → ArePassedBy p places (xs ++ ys)
none_in p flags places [] ys within f g = g
none_in p flags places (x ∷ xs) ys within f g = (none_of p flags places x within f.0, none_in p flags places xs ys within f.1 g)

-- What keeps away from a set of flagged places does so still.
pub passed_by : (p : Source) (flags places : List ℕ) (old new : Walk) → PassesUnflagged p flags old new → AreIn places flags → ArePassedBy p places old.passed → ArePassedBy p places new.passed
passed_by p flags places old new h within g = subst (ArePassedBy p places) (sym h.adds) (none_in p flags places h.places old.passed within h.unflagged g)

pub passes_none : (p : Source) (flags : List ℕ) (old new : Walk) → new.passed ≡ old.passed → PassesUnflagged p flags old new
passes_none p flags old new same = record { places = []; unflagged = tt; adds = same }

-- one way behind another
pub passes_both : (p : Source) (flags : List ℕ) (old mid new : Walk) → PassesUnflagged p flags old mid → PassesUnflagged p flags mid new → PassesUnflagged p flags old new
passes_both p flags old mid new f g = record {
  places = g.places ++ f.places;
  unflagged = none_in p flags flags g.places f.places (λ k is. is) g.unflagged f.unflagged;
  adds = g.adds ∙ (ap (λ (xs : List Place). g.places ++ xs) f.adds ∙ sym (append_assoc g.places f.places old.passed));
}

-- A mark passes the one place that it names, if any.
mark_passed : (c : Flow) (plans : Plans) (z : Walk) (y : State) (mark : Mark) (i : Item) (flags : List ℕ) → IsMarkOf c y mark i → ((k : ℕ) → place_passed (Some mark) ≡ Some k → has_place flags k ≡ false)
    → PassesUnflagged c.program flags z (after_item c.program plans z i)
mark_passed c plans z y (m.Begins k) (begins l env) flags h free = record { places = []; unflagged = tt; adds = refl }
mark_passed c plans z y (m.Done n k) (done l) flags h free = record { places = []; unflagged = tt; adds = refl }
mark_passed c plans z y (m.Edge k) (edge l) flags h free = record { places = site.back_edge l ∷ []; unflagged = ((k, (h, free k refl)), tt); adds = refl }
mark_passed c plans z y (m.Enter n k) (enter f env) flags h free = record { places = site.entry f ∷ []; unflagged = ((k, (h.1.0, free k refl)), tt); adds = refl }
mark_passed c plans z y (m.Out n) (out f) flags h free = record { places = []; unflagged = tt; adds = refl }
mark_passed c plans z y _ _ flags h free = absurd h

-- Runs

pub gone_nowhere : (c : Flow) (cs : List (Option Compiled)) (b : Birth) (flags : List ℕ) (e : Execution) → GoesOn c cs b flags e e
gone_nowhere c cs b flags e x look steps h = record {
  look = look;
  looks = λ e. e;
  marks = [];
  there = subst (IsInPart c cs b x e look) (sym (append-nil steps)) h;
  passes = passes_none c.program flags (walk_of c.program (plans_in cs) x steps) (walk_of c.program (plans_in cs) x (steps ++ [])) (ap (λ ss. (walk_of c.program (plans_in cs) x ss).passed) (append-nil steps));
}

pub gone_past : (c : Flow) (cs : List (Option Compiled)) (b : Birth) (flags : List ℕ) (first old new : Execution) (mark : Mark) (i : Item) (y : Position) → IsLowered c → PassesMark c cs b old new mark i y
    → ((z : Walk) → IsAt c.program (plans_in cs) old.walk z → z.owed ≡ []) → ((k : ℕ) → place_passed (Some mark) ≡ Some k → has_place flags k ≡ false) → GoesOn c cs b flags first old
    → GoesOn c cs b flags first new
gone_past c cs b flags first old new mark i y l p rests free g x look steps h =
    let d : HasGone c cs b flags old x look steps = g x look steps h in
    let none : (walk_of c.program (plans_in cs) x (steps ++ d.marks)).owed ≡ [] = rests (walk_of c.program (plans_in cs) x (steps ++ d.marks)) d.there.there.at in
    let same : (steps ++ d.marks) ++ walk.goes i ∷ [] ≡ steps ++ (d.marks ++ walk.goes i ∷ []) = append_assoc steps d.marks (walk.goes i ∷ []) in
    record {
      look = looks_nowhere;
      looks = λ e. cc;
      marks = d.marks ++ walk.goes i ∷ [];
      there = subst (IsInPart c cs b x new looks_nowhere) same (part_past c cs b x old new mark i y d.look (steps ++ d.marks) l p none d.there);
      passes = subst (λ ss. PassesUnflagged c.program flags (walk_of c.program (plans_in cs) x steps) (walk_of c.program (plans_in cs) x ss)) same
          (subst (PassesUnflagged c.program flags (walk_of c.program (plans_in cs) x steps)) (sym (walk_append c.program (plans_in cs) (unborn x.versions) (steps ++ d.marks) (walk.goes i ∷ [])))
          (passes_both c.program flags (walk_of c.program (plans_in cs) x steps) (walk_of c.program (plans_in cs) x (steps ++ d.marks)) (after_item c.program (plans_in cs) (walk_of c.program (plans_in cs) x (steps ++ d.marks)) i)
          d.passes (mark_passed c (plans_in cs) (walk_of c.program (plans_in cs) x (steps ++ d.marks)) new.machine.state mark i flags p.is free)));
    }

pub gone_by : (c : Flow) (cs : List (Option Compiled)) (b : Birth) (flags : List ℕ) (first old new : Execution) (y : Position) → next_step c b old.stage old.machine ≡ goes None y
    → next_step c b new.stage new.machine ≡ progress c y → new.walk ≡ old.walk → new.place ≡ old.place → ((z : Walk) → IsAt c.program (plans_in cs) old.walk z → z.owed ≡ [])
    → (progress c y ≡ ends → ⊥) → GoesOn c cs b flags first old → GoesOn c cs b flags first new
gone_by c cs b flags first old new y step next same place rests lives g x look steps h =
    let d : HasGone c cs b flags old x look steps = g x look steps h in
    let none : (walk_of c.program (plans_in cs) x (steps ++ d.marks)).owed ≡ [] = rests (walk_of c.program (plans_in cs) x (steps ++ d.marks)) d.there.there.at in
    record { look = d.look; looks = d.looks; marks = d.marks; there = part_by c cs b x old new y d.look (steps ++ d.marks) step next same place none lives d.there; passes = d.passes }

-- What the walk wants of a mark that comes.
pub can_pass : (c : Flow) (cs : List (Option Compiled)) (b : Birth) (x : Own) (e : Execution) (y : State) (mark : Mark) (i : Item) (v : Position) (look : Look) (steps : List PartStep) → IsLowered c
    → next_step c b e.stage e.machine ≡ goes (Some i) v → IsMarkOf c y mark i → (walk_of c.program (plans_in cs) x steps).owed ≡ [] → IsInPart c cs b x e look steps → CanPass c cs e.walk y mark
can_pass c cs b x e y mark i v look steps l step is none h =
    let way : IsWay c (plans_in cs) x (goes (Some i) v) look steps = subst (λ w. IsWay c (plans_in cs) x w look steps) step h.way in
    let longer : IsWay c (plans_in cs) x (progress c v) looks_nowhere (steps ++ walk.goes i ∷ []) = way_past c (plans_in cs) x i v look steps (is_mark c y mark i is) none way in
    record {
      walk = walk_of c.program (plans_in cs) x steps;
      item = i;
      is = is;
      stands = mark_nests c (plans_in cs) x (goes (Some i) v) i v look steps l refl way;
      at = h.there.at;
      filters = h.there.filters;
      few = h.there.few none;
      frames = subst (λ (z : Walk). length z.frames ≤ frame_limit) (walk_append c.program (plans_in cs) (unborn x.versions) steps (walk.goes i ∷ []))
          (few_frames c.program (plans_in cs) x (steps ++ walk.goes i ∷ []) [] Open
          (subst (λ us. IsTrace c.program x.func x.args us Open) (sym (append-nil (items (steps ++ walk.goes i ∷ [])) ∙ items_last steps i)) (mark_trace c (plans_in cs) x (goes (Some i) v) i v look steps l refl way)));
    }
  where
    items_last : (ss : List PartStep) (j : Item) → items (ss ++ walk.goes j ∷ []) ≡ items ss ++ j ∷ []
    items_last ss j = items_append ss (walk.goes j ∷ [])
