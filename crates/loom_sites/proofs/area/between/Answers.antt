use Rattle.std.proofs.Common.{ℕ, List}
use Rattle.loom_tree.specs.Tree.{Source}
use Rattle.loom_law.specs.Filter.{Plan}
use Rattle.loom_plan.specs.Sets.{event_numbers}
use Rattle.loom_sites.specs.declared.links.PlaceLinks.{PlaceLinks}
use Rattle.loom_sites.specs.declared.reach.NodeSet.{NodeSet}
use Rattle.loom_sites.proofs.Regions.{between_told}
use Rattle.loom_sites.proofs.OwnPlaces.{IsReachedSet}
use Rattle.loom_sites.proofs.RegionFacts.{all_rows, is_table, calls_within, between_set, between_facts, between_own}
use Rattle.loom_sites.proofs.area.between.Goals as goal

pub event_places-starts-requires-clause-table : goal.event_places-starts-requires-clause-table
event_places-starts-requires-clause-table c = is_table c.args.flow.now.program c.args.links.now c.program-program.ensures.lowered.lawful c.requires.table

pub event_places-starts-requires-clause-all : goal.event_places-starts-requires-clause-all
event_places-starts-requires-clause-all c = all_rows c.args.flow.now.program c.args.c.now.program c.args.links.now c.requires.program c.requires.table

pub event_places-halts-requires-clause-table : goal.event_places-halts-requires-clause-table
event_places-halts-requires-clause-table c = is_table c.args.flow.now.program c.args.links.now c.program-program.ensures.lowered.lawful c.requires.table

pub event_places-halts-requires-clause-all : goal.event_places-halts-requires-clause-all
event_places-halts-requires-clause-all c = all_rows c.args.flow.now.program c.args.c.now.program c.args.links.now c.requires.program c.requires.table

pub reach-requires : goal.reach-requires
reach-requires c = is_table c.args.flow.now.program c.args.links.now c.program-program.ensures.lowered.lawful c.requires.table

pub put_nodes-requires : goal.put_nodes-requires
put_nodes-requires c = is_table c.args.flow.now.program c.args.links.now c.program-program.ensures.lowered.lawful c.requires.table

pub put_turns-requires : goal.put_turns-requires
put_turns-requires c = is_table c.args.flow.now.program c.args.links.now c.program-program.ensures.lowered.lawful c.requires.table

pub calls_at-requires : goal.calls_at-requires
calls_at-requires c = is_table c.args.flow.now.program c.args.links.now c.program-program.ensures.lowered.lawful c.requires.table

pub reached_functions-calls-requires : goal.reached_functions-calls-requires
reached_functions-calls-requires c = calls_within c.args.flow.now.program c.args.links.now c.in_ok-reached.reached.starts c.calls_at.result c.requires.table c.calls_at.ensures

pub functions_at-requires : goal.functions_at-requires
functions_at-requires c = is_table c.args.flow.now.program c.args.links.now c.program-program.ensures.lowered.lawful c.requires.table

pub events_at-requires-clause-table : goal.events_at-requires-clause-table
events_at-requires-clause-table c = is_table c.args.flow.now.program c.args.links.now c.program-program.ensures.lowered.lawful c.requires.table

pub events_at-requires-clause-all : goal.events_at-requires-clause-all
events_at-requires-clause-all c = all_rows c.args.flow.now.program c.args.c.now.program c.args.links.now c.requires.program c.requires.table

pub returns-clause-contents : goal.returns-clause-contents
returns-clause-contents c =
    let p : Source = c.args.flow.now.program in
    let f : Plan = c.args.c.now.plan in
    let es : List ℕ = event_numbers c.args.entries in
    let xs : List ℕ = event_numbers c.args.exits in
    let rows : List PlaceLinks = c.args.links.now in
    let r : NodeSet = c.in_ok-reached.reached in
    let z : IsReachedSet p f es xs c.event_places-starts.result c.event_places-halts.result r
    = between_set p c.args.c.now.program f es xs (event_numbers c.bare_events.result) (event_numbers c.both.result) c.event_places-starts.result c.event_places-halts.result rows r c.program-program.ensures.lowered.lawful c.requires.program
    c.requires.table c.event_places-starts.ensures c.bare_events.ensures c.both.ensures c.event_places-halts.ensures c.in_ok-reached.ensures in
    between_told p f es xs c.event_places-starts.result c.event_places-halts.result r c.calls_at.result _
    (between_facts p c.args.c.now.program f es xs c.event_places-starts.result c.event_places-halts.result rows r c.calls_at.result _ c.requires.program c.requires.table z c.calls_at.ensures c.reached_functions-calls.ensures.is
    c.functions_at.ensures c.events_at.ensures)

pub returns-clause-places : goal.returns-clause-places
returns-clause-places c =
    let p : Source = c.args.flow.now.program in
    let f : Plan = c.args.c.now.plan in
    let es : List ℕ = event_numbers c.args.entries in
    let xs : List ℕ = event_numbers c.args.exits in
    let rows : List PlaceLinks = c.args.links.now in
    let r : NodeSet = c.in_ok-reached.reached in
    let z : IsReachedSet p f es xs c.event_places-starts.result c.event_places-halts.result r
    = between_set p c.args.c.now.program f es xs (event_numbers c.bare_events.result) (event_numbers c.both.result) c.event_places-starts.result c.event_places-halts.result rows r c.program-program.ensures.lowered.lawful c.requires.program
    c.requires.table c.event_places-starts.ensures c.bare_events.ensures c.both.ensures c.event_places-halts.ensures c.in_ok-reached.ensures in
    between_own p f es xs c.event_places-starts.result c.event_places-halts.result c.args.places.now c.put_nodes.new.places c.put_turns.new.places rows r c.requires.table z c.put_nodes.ensures c.put_turns.ensures
