use Rattle.std.proofs.Common.{ℕ, ◌≡◌, ◌||◌, List, length, refl, ap, subst, ◌∙◌}
use Rattle.std.specs.Prelude.{Option}
use Rattle.std.specs.Int.RustNames.{bit_or}
use Rattle.loom_tree.specs.Tree.{Source}
use Rattle.loom_trace.specs.Places.{has_place}
use Rattle.loom_law.specs.Filter.{Plan}
use Rattle.loom_law.specs.FilterRefusal.{IsPathFault}
use Rattle.loom_filter.specs.declared.parse.FilterRefusal.{FilterRefusal}
use Rattle.loom_filter.specs.FilterError.{fault_if}
use Rattle.loom_plan.specs.Fault.{TellsFirst}
use Rattle.loom_sites.specs.declared.links.PlaceLinks.{PlaceLinks}
use Rattle.loom_sites.specs.declared.area.Area.{Area}
use Rattle.loom_sites.specs.Links.{program_rows}
use Rattle.loom_sites.specs.Rows.{meets_at, any_meets}
use Rattle.loom_sites.specs.Functions.{has_function, is_of}
use Rattle.loom_sites.specs.Events.{makes_unsafe, calls_by_event}
use Rattle.loom_sites.specs.Areas.{any_calls}
use Rattle.loom_sites.specs.Faults.{first_among}
use Rattle.loom_sites.proofs.RegionFacts.{all_rows, is_table}
use Rattle.loom_sites.proofs.PathFaults.{path_fault_told}
use Rattle.loom_sites.proofs.UnsafeFacts.{event_calls_within, unsafe_facts}
use Rattle.loom_sites.proofs.unsafe_places.unsafe_places.Goals as goal

pub returns-in-Some : goal.returns-in-Some
returns-in-Some c =
    let p : Source = c.args.flow.now.program in
    let f : Plan = c.args.c.now.plan in
    let xs : List Area = c.in_ok-areas.areas.items in
    let fault : fault_if c.first_fault.result ≡ first_among xs 1 (length f.rulings)
    = c.first_fault.ensures ∙ (ap (λ (ys : List Area). first_among ys 1 c.clauses.result) c.deref-2.ensures.value ∙ ap (λ (n : ℕ). first_among xs 1 n) c.clauses.ensures.is) in
    let P : Option FilterRefusal → Type 0 = λ z. TellsFirst (IsPathFault p f) (fault_if z) in
    subst P c.in-Some.is (path_fault_told p f xs (fault_if c.first_fault.result) c.clauses.ensures.small c.in_ok-areas.ensures.areas fault)

pub put_events-calls-requires-clause-table : goal.put_events-calls-requires-clause-table
put_events-calls-requires-clause-table c =
    let p : Source = c.args.flow.now.program in
    let table : c.in_ok-links.links.items ≡ program_rows p = c.in_ok-links.ensures ∙ ap program_rows c.program.ensures.program in
    is_table p c.deref-3.result.now c.program.ensures.lowered.lawful (c.deref-3.ensures.value ∙ table)

pub put_events-calls-requires-clause-all : goal.put_events-calls-requires-clause-all
put_events-calls-requires-clause-all c =
    let p : Source = c.args.flow.now.program in
    let table : c.in_ok-links.links.items ≡ program_rows p = c.in_ok-links.ensures ∙ ap program_rows c.program.ensures.program in
    all_rows p c.args.c.now.program c.deref-3.result.now c.requires (c.deref-3.ensures.value ∙ table)

pub reached_functions-requires : goal.reached_functions-requires
reached_functions-requires c =
    let p : Source = c.args.flow.now.program in
    let table : c.in_ok-links.links.items ≡ program_rows p = c.in_ok-links.ensures ∙ ap program_rows c.program.ensures.program in
    event_calls_within p c.args.c.now.program c.args.c.now.plan c.put_events-calls.result c.deref-3.result.now c.requires (c.deref-3.ensures.value ∙ table) c.put_events-calls.ensures.calls

pub put_functions-requires : goal.put_functions-requires
put_functions-requires c =
    let p : Source = c.args.flow.now.program in
    let table : c.in_ok-links.links.items ≡ program_rows p = c.in_ok-links.ensures ∙ ap program_rows c.program.ensures.program in
    is_table p c.deref-5.result.now c.program.ensures.lowered.lawful (c.deref-5.ensures.value ∙ table)

pub returns : goal.returns
returns c =
    let p : Source = c.args.flow.now.program in
    let q : Source = c.args.c.now.program in
    let f : Plan = c.args.c.now.plan in
    let xs : List Area = c.in_ok-areas.areas.items in
    let rows : List PlaceLinks = c.in_ok-links.links.items in
    let own : List ℕ = c.areas.new.places in
    let events : List ℕ = c.put_events-calls.new.places in
    let set : List ℕ = c.put_functions.new.places in
    let calls : ℕ = c.put_events-calls.result in
    let one : ℕ = c.reached_functions.result in
    let other : ℕ = c.all_calls.result in
    let fault : fault_if c.first_fault.result ≡ first_among xs 1 (length f.rulings)
    = c.first_fault.ensures ∙ (ap (λ (ys : List Area). first_among ys 1 c.clauses.result) c.deref-2.ensures.value ∙ ap (λ (n : ℕ). first_among xs 1 n) c.clauses.ensures.is) in
    let P : Option FilterRefusal → Type 0 = λ z. TellsFirst (IsPathFault p f) (fault_if z) in
    let Q : List PlaceLinks → Type 0 = λ z. (k : ℕ) → has_place events k ≡ (has_place own k || any_meets (makes_unsafe q f z k) 0 z) in
    let R : List PlaceLinks → Type 0 = λ z. (g : ℕ) → has_function calls g ≡ any_meets (calls_by_event q f z g) 0 z in
    let S : List PlaceLinks → Type 0 = λ z. (k : ℕ) → has_place set k ≡ (has_place events k || meets_at (is_of (bit_or one other)) z k) in
    let T : List Area → Type 0 = λ z. (g : ℕ) → has_function other g ≡ any_calls z g in (
      subst P c.in_default.is (path_fault_told p f xs (fault_if c.first_fault.result) c.clauses.ensures.small c.in_ok-areas.ensures.areas fault),
      unsafe_facts p q f xs c.none-places.result own events set calls one other (bit_or one other) rows c.program.ensures.lowered.lawful c.requires (c.in_ok-links.ensures ∙ ap program_rows c.program.ensures.program) c.in_ok-areas.ensures.areas
          c.none-places.ensures c.in_ok-areas.ensures.places (subst Q c.deref-3.ensures.value c.put_events-calls.ensures.places) (subst R c.deref-3.ensures.value c.put_events-calls.ensures.calls) c.reached_functions.ensures.is
          (subst T c.deref-4.ensures.value c.all_calls.ensures) refl (subst S c.deref-5.ensures.value c.put_functions.ensures),
    )
