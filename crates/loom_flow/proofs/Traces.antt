-- Flat code has the traces of the tree.
use Rattle.std.proofs.Common.{ℕ, ◌≡◌, List, [], ℤ, true, false, Option, Some, None, refl, sym, ap, subst, ◌∙◌, slice_get, arith}
use Rattle.loom_tree.specs.Tree.{Function, Source}
use Rattle.loom_lang.specs.Rules.{KeepsRules}
use Rattle.loom_lang.specs.Trace as trace
use Rattle.loom_lang.specs.Trace.{Item, Outcome, Lists, Thread, made, enter, broken, emit, any, calls_to, frame_limit, thread_end, finished, IsTrace}
use Rattle.loom_flow.specs.declared.code.Entrance.{Entrance}
use Rattle.loom_flow.specs.Flow.{Flow}
use Rattle.loom_flow.specs.State.{State, at_start, locals_now}
use Rattle.loom_flow.specs.FlatTrace.{flat_start, IsFlatTrace}
use Rattle.loom_flow.specs.FlatTrace as flat
use Rattle.loom_flow.specs.FlatCode.{lowered}
use Rattle.loom_flow.specs.Laws.{HasTraces}
use Rattle.loom_flow.proofs.Relations.{Within, meets_emit, meets_same, meets_on, emit_open}
use Rattle.loom_flow.proofs.Runs.{runs_from, ever_from}
use Rattle.loom_flow.proofs.BodyTraces.{runs_runner, ever_runner}
use Rattle.loom_flow.proofs.Frames.{IsFunctionPlaced, ArePlaced, first_frame, ever_behind}
use Rattle.loom_flow.proofs.Placement.{are_placed}

abbrev thread_of : Flow → Function → Thread
thread_of c g = record { program = c.program; stopped = thread_end g.line }

-- by so many steps, within as many turns
to_tree : (c : Flow) → ArePlaced c → (f : ℕ) (vs : List ℤ) (n : ℕ) (o : Option Function) → slice_get c.program.funcs f ≡ o → (q : Option Entrance) → IsFunctionPlaced c o q → slice_get c.entrances f ≡ q
    → Within (flat.flat_thread c o f vs n) (trace.thread c.program o f vs n)
to_tree c placed f vs n None found q h e = λ es r g. g
to_tree c placed f vs n (Some g) found q h e =
    meets_emit true (made g.line trace.begin) _ _
    (meets_on true (flat_start c (thread_of c g) f vs n (slice_get c.entrances f)) (flat_start c (thread_of c g) f vs n (Some h.0)) _
    (meets_same true _ _ (ap {B = Lists} (flat_start c (thread_of c g) f vs n) (e ∙ h.1)))
    (first_frame true c (thread_of c g) (runs_from c (thread_of c g)) (runs_runner c (thread_of c g) (emit_open (made g.line trace.end) finished)) refl placed n n (omega arith) f g.line vs g h.0 found h.2))

to_code : (c : Flow) → ArePlaced c → (f : ℕ) (vs : List ℤ) (n : ℕ) (o : Option Function) → slice_get c.program.funcs f ≡ o → (q : Option Entrance) → IsFunctionPlaced c o q → slice_get c.entrances f ≡ q
    → Within (trace.thread c.program o f vs n) (any (λ (k : ℕ). flat.flat_thread c o f vs k))
to_code c placed f vs n None found q h e = λ es r g. (0, g)
to_code c placed f vs n (Some g) found q h e =
    let t : Thread = thread_of c g in
    let z : State = at_start f h.0 vs [] [] in
    let first : Item = made g.line trace.begin in
    let second : Item = enter f (locals_now c z) in
    let tree : Within (trace.thread c.program (Some g) f vs n) (emit first (emit second (ever_from c t z))) =
    meets_emit false first (emit second (ever_from c t z)) (calls_to t n frame_limit g.line f vs (λ v. thread_end g.line))
    (first_frame false c t (λ j. ever_from c t) (ever_runner c t) refl placed n 0 (omega arith) f g.line vs g h.0 found h.2) in
    λ es r i.
    let some : any (λ (k : ℕ). emit first (emit second (runs_from c t k z))) es r = ever_behind first second (λ k. runs_from c t k z) es r (tree es r i) in
    (some.0, subst (λ (m : Lists). emit first m es r) (sym (ap {B = Lists} (flat_start c t f vs some.0) (e ∙ h.1))) some.1)

pub lowered_traces : (p : Source) → KeepsRules p → HasTraces (lowered p) p
lowered_traces p l f vs items r =
    let c : Flow = lowered p in
    let placed : ArePlaced c = are_placed p l in (
      λ (h : IsFlatTrace c f vs items r). record {
        most_turns = h.most_steps;
        gives = to_tree c placed f vs h.most_steps (slice_get p.funcs f) refl (slice_get c.entrances f) (placed f) refl items r h.gives;
      },
      λ (h : IsTrace p f vs items r).
          let some : any (λ (k : ℕ). flat.flat_thread c (slice_get p.funcs f) f vs k) items r = to_code c placed f vs h.most_turns (slice_get p.funcs f) refl (slice_get c.entrances f) (placed f) refl items r h.gives in
          record { most_steps = some.0; gives = some.1 },
    )
