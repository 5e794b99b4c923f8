-- What the walk wants of a mark, and where it is behind it.
use Rattle.std.proofs.Common.{ℕ, ◌+◌, ◌≡◌, ◌≤◌, ◌<◌, ◌-◌, List, [], ◌∷◌, ℤ, Option, Some, slice_get, get_or, length, map, sym, subst, ◌∙◌, ap, arith}
use Rattle.std.proofs.lemmas.Option.{slice_get-get_or}
use Rattle.loom_tree.specs.Tree.{Source}
use Rattle.loom_lang.specs.Places.{place_at}
use Rattle.loom_lang.specs.Places as site
use Rattle.loom_lang.specs.Trace.{Item, made, begins, done, edge, enter, out, frame_limit}
use Rattle.loom_flow.specs.declared.code.Entrance.{Entrance}
use Rattle.loom_flow.specs.Flow.{Flow}
use Rattle.loom_flow.specs.State.{State, named}
use Rattle.loom_flow.specs.Code.{IsLowered}
use Rattle.loom_law.specs.OpenStatements.{frame_lines, HasInnermost, StandsIn}
use Rattle.loom_law.specs.Walk.{Plans, OpenStatement, OpenFrame, Walk, tick_after, after_item}
use Rattle.loom_plan.specs.Compiled.{Compiled}
use Rattle.loom_plan.specs.PlaceEvents.{names_at}
use Rattle.loom_version.specs.Plans.{plans_in}
use Rattle.loom_walk.specs.Notes.{IsFirstAlone, IsInnermost}
use Rattle.loom_walk.specs.FilterWalk.{FilterWalk, IsAt}
use Rattle.loom_strand.specs.declared.step_result.Mark.{Mark}
use Rattle.loom_strand.specs.declared.step_result.Mark.TheVariants as m
use Rattle.loom_strand.specs.InPart.{IsMarkOf, place_behind, CanPass}
use Rattle.loom_strand.proofs.Entrances.{as_many_entrances}
use Rattle.loom_strand.proofs.PlaceLaws.{loop_place, out_place_before, out_place_last}

-- A mark of a statement, and the end of a frame, stand where a frame is open.
abbrev IsInFrame : Item → Type 0
IsInFrame (made l a) = ⊥
IsInFrame (enter f env) = ⊥
IsInFrame _ = Unit {0}

open_frame : (i : Item) (fs : List OpenFrame) → IsInFrame i → StandsIn (frame_lines fs) i → 1 ≤ length fs
open_frame (made l a) fs g h = absurd g
open_frame (enter f env) fs g h = absurd g
open_frame (begins l env) [] g h = absurd h
open_frame (done l) [] g h = absurd h
open_frame (edge l) [] g h = absurd h
open_frame (out f) [] g h = absurd h
open_frame _ (x ∷ xs) g h = omega arith

in_frame : (c : Flow) (y : State) (k : ℕ) (i : Item) → IsMarkOf c y (m.Begins k) i → IsInFrame i
in_frame c y k (begins l env) h = tt
in_frame c y k _ h = absurd h

out_frame : (c : Flow) (y : State) (k : ℕ) (i : Item) → IsMarkOf c y (m.Out k) i → IsInFrame i
out_frame c y k (out f) h = tt
out_frame c y k _ h = absurd h

pub begin_depth : (c : Flow) (cs : List (Option Compiled)) (w : FilterWalk) (y : State) (k : ℕ) → CanPass c cs w y (m.Begins k) → 1 ≤ w.depth
begin_depth c cs w y k h = subst (λ n. 1 ≤ n) h.at.depth (open_frame h.item h.walk.frames (in_frame c y k h.item h.is) h.stands)

pub out_depth : (c : Flow) (cs : List (Option Compiled)) (w : FilterWalk) (y : State) (k : ℕ) → CanPass c cs w y (m.Out k) → 1 ≤ w.depth
out_depth c cs w y k h = subst (λ n. 1 ≤ n) h.at.depth (open_frame h.item h.walk.frames (out_frame c y k h.item h.is) h.stands)

pub few_passed : (c : Flow) (cs : List (Option Compiled)) (w : FilterWalk) (y : State) (mark : Mark) → CanPass c cs w y mark → w.passed < tick_after
few_passed c cs w y mark h = subst (λ n. n < tick_after) h.at.passed h.few

-- places
pub begin_place : (c : Flow) (y : State) (k : ℕ) (i : Item) → IsMarkOf c y (m.Begins k) i → (l : ℕ) × (place_at c.program k ≡ Some (site.inside l))
begin_place c y k (begins l env) h = (l, h.0)
begin_place c y k _ h = absurd h

pub edge_place : (c : Flow) (y : State) (k : ℕ) (i : Item) → IsMarkOf c y (m.Edge k) i → (l : ℕ) × (place_at c.program k ≡ Some (site.back_edge l))
edge_place c y k (edge l) h = (l, h)
edge_place c y k _ h = absurd h

pub enter_place : (c : Flow) (y : State) (g k : ℕ) (i : Item) → IsMarkOf c y (m.Enter g k) i → (f : ℕ) × (place_at c.program k ≡ Some (site.entry f))
enter_place c y g k (enter f env) h = (f, h.1.0)
enter_place c y g k _ h = absurd h

-- one frame more is within the limit
enter_frames : (c : Flow) (cs : List (Option Compiled)) (y : State) (g k : ℕ) (i : Item) (z : Walk) → IsMarkOf c y (m.Enter g k) i → length (Walk.frames (after_item c.program (plans_in cs) z i)) ≤ frame_limit → length z.frames < frame_limit
enter_frames c cs y g k (enter f env) z h few = omega arith
enter_frames c cs y g k _ z h few = absurd h

pub enter_depth : (c : Flow) (cs : List (Option Compiled)) (w : FilterWalk) (y : State) (g k : ℕ) → CanPass c cs w y (m.Enter g k) → w.depth < frame_limit
enter_depth c cs w y g k h = subst (λ n. n < frame_limit) h.at.depth (enter_frames c cs y g k h.item h.walk h.is h.frames)

-- What the walk says of each mark is what is asked of it.

abbrev Moves : Flow → List (Option Compiled) → FilterWalk → FilterWalk → Walk → Item → Type 0
Moves c cs old new z i = IsAt c.program (plans_in cs) old z → IsAt c.program (plans_in cs) new (after_item c.program (plans_in cs) z i)

abbrev pub Passes : Flow → List (Option Compiled) → FilterWalk → FilterWalk → State → Mark → Type 0
Passes c cs old new y mark = (z : Walk) (i : Item) → IsMarkOf c y mark i → StandsIn (frame_lines z.frames) i → Moves c cs old new z i

pub passes_begin : (c : Flow) (cs : List (Option Compiled)) (old new : FilterWalk) (y : State) (k : ℕ) (vs : List ℤ) → vs ≡ y.locals
    → ((z : Walk) (l : ℕ) → place_at c.program k ≡ Some (site.inside l) → Moves c cs old new z (begins l (named (names_at c.program k) vs))) → Passes c cs old new y (m.Begins k)
passes_begin c cs old new y k vs is f z (begins l env) h stands at =
    subst (λ e. IsAt c.program (plans_in cs) new (after_item c.program (plans_in cs) z (begins l e))) (ap (named (names_at c.program k)) is ∙ sym h.1) (f z l h.0 at)
passes_begin c cs old new y k vs is f z _ h stands at = absurd h

innermost_of : (l : ℕ) (fs : List OpenFrame) → HasInnermost (frame_lines fs) l → IsInnermost l fs
innermost_of l [] h = absurd h
innermost_of l (x ∷ xs) h = by_statements x.statements h
  where
    by_statements : (ss : List OpenStatement) → HasInnermost (map (λ (y : OpenStatement). y.line) ss ∷ frame_lines xs) l → IsFirstAlone l ss
    by_statements [] g = absurd g
    by_statements (y ∷ ys) g = (g.0, g.1)

pub passes_done : (c : Flow) (cs : List (Option Compiled)) (old new : FilterWalk) (y : State) (n k : ℕ)
    → ((p : Source) (z : Walk) → IsInnermost n z.frames → IsAt p (plans_in cs) old z → IsAt p (plans_in cs) new (after_item p (plans_in cs) z (done n))) → Passes c cs old new y (m.Done n k)
passes_done c cs old new y n k f z (done l) h stands at =
    subst (λ j. IsAt c.program (plans_in cs) new (after_item c.program (plans_in cs) z (done j))) h.0
    (f c.program z (subst (λ j. IsInnermost j z.frames) (sym h.0) (innermost_of l z.frames stands)) at)
passes_done c cs old new y n k f z _ h stands at = absurd h

pub passes_edge : (c : Flow) (cs : List (Option Compiled)) (old new : FilterWalk) (y : State) (k : ℕ)
    → ((plans : Plans) (z : Walk) (l : ℕ) → place_at c.program k ≡ Some (site.back_edge l) → IsAt c.program plans old z → IsAt c.program plans new (after_item c.program plans z (edge l))) → Passes c cs old new y (m.Edge k)
passes_edge c cs old new y k f z (edge l) h stands at = f (plans_in cs) z l h at
passes_edge c cs old new y k f z _ h stands at = absurd h

pub passes_enter : (c : Flow) (cs : List (Option Compiled)) (old new : FilterWalk) (y : State) (g k : ℕ) (vs : List ℤ) → vs ≡ y.locals
    → ((z : Walk) (f : ℕ) → place_at c.program k ≡ Some (site.entry f) → Moves c cs old new z (enter f (named (names_at c.program k) vs))) → Passes c cs old new y (m.Enter g k)
passes_enter c cs old new y g k vs is f z (enter n env) h stands at =
    subst (λ e. IsAt c.program (plans_in cs) new (after_item c.program (plans_in cs) z (enter n e))) (ap (named (names_at c.program k)) is ∙ sym h.1.1) (f z n h.1.0 at)
passes_enter c cs old new y g k vs is f z _ h stands at = absurd h

pub passes_out : (c : Flow) (cs : List (Option Compiled)) (old new : FilterWalk) (y : State) (g : ℕ)
    → ((z : Walk) → Moves c cs old new z (out g)) → Passes c cs old new y (m.Out g)
passes_out c cs old new y g f z (out n) h stands at = subst (λ j. IsAt c.program (plans_in cs) new (after_item c.program (plans_in cs) z (out j))) h.0 (f z at)
passes_out c cs old new y g f z _ h stands at = absurd h

-- Behind a back edge the thread is at the place of its loop.
pub edge_behind : (c : Flow) (y : State) (k : ℕ) (i : Item) → IsLowered c → IsMarkOf c y (m.Edge k) i → place_at c.program (k - 1) ≡ Some (place_behind i site.nowhere)
edge_behind c y k (edge l) low h = (loop_place c.program low.lawful k l h).1
edge_behind c y k _ low h = absurd h

-- The out place of a function, by the entrances: where there is a next function, and where there is none.

pub out_by_next : (c : Flow) (es : List Entrance) (f : ℕ) (d : Entrance) → IsLowered c → es ≡ c.entrances → f + 1 < length es
    → (0 < (get_or es (f + 1) d).place) × (place_at c.program ((get_or es (f + 1) d).place - 1) ≡ Some (site.out f))
out_by_next c es f d l is h = out_place_before c l f (get_or es (f + 1) d) (ap (λ xs. slice_get xs (f + 1)) (sym is) ∙ slice_get-get_or es (f + 1) d h)

pub out_by_end : (c : Flow) (es : List Entrance) (f n : ℕ) → IsLowered c → es ≡ c.entrances → f < length c.program.funcs → length es ≤ f + 1 → n ≡ length c.sites
    → (0 < n) × (place_at c.program (n - 1) ≡ Some (site.out f))
out_by_end c es f n l is low past many =
    let all : length es ≡ length c.program.funcs = ap length is ∙ as_many_entrances c l in
    let last : f + 1 ≡ length es = omega (arith, all, low, past) in
    subst (λ k. (0 < k) × (place_at c.program (k - 1) ≡ Some (site.out f))) (sym many) (out_place_last c l f (last ∙ ap length is))
