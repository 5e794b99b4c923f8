use Rattle.std.proofs.Common.{ℕ, ◌<◌, ◌≤◌, ◌≡◌, length, rules, ap, ◌∙◌, arith}
use Rattle.std.proofs.lemmas.List.{length-map}
use Rattle.loom_tree.specs.Tree.{Source, function_of, functions_of}
use Rattle.loom_law.specs.Filter.{Plan}
use Rattle.loom_plan.specs.Sets.{event_numbers}
use Rattle.loom_sites.specs.Functions.{has_function}
use Rattle.loom_sites.proofs.Bits.{has_one}
use Rattle.loom_sites.proofs.Callers.{tells_calls, few_calls}
use Rattle.loom_sites.proofs.Closure.{TellsCalls}
use Rattle.loom_sites.proofs.Wholes.{frame_contents}
use Rattle.loom_sites.proofs.Frames.{frame_own, nothing_own, nothing_inside, frame_same, all_past}
use Rattle.loom_sites.proofs.RegionFacts.{all_rows, is_table, frame_facts, own_at}
use Rattle.loom_sites.proofs.area.frame.Goals as goal

pub own_places-own-requires : goal.own_places-own-requires
own_places-own-requires c = is_table c.args.flow.now.program c.args.links.now c.program.ensures.lowered.lawful c.requires.table

pub overflow_cast-links : goal.overflow_cast-links
overflow_cast-links c = let few = (is_table c.args.flow.now.program c.args.links.now c.program.ensures.lowered.lawful c.requires.table).few in omega arith

pub put_all-requires : goal.put_all-requires
put_all-requires c = (is_table c.args.flow.now.program c.args.links.now c.program.ensures.lowered.lawful c.requires.table).few

pub calls_of-requires : goal.calls_of-requires
calls_of-requires c =
    let long : c.len.result ≡ length c.behind-program.inside.0.items = search rules in
    let view : length c.behind-program.inside.0.items ≡ length c.funcs.result.now = ap length c.behind-program.view_is in
    let same : length (functions_of c.funcs.result.now) ≡ length c.args.flow.now.program.funcs = ap length (c.funcs.ensures.funcs ∙ ap (λ (q : Source). q.funcs) c.program.ensures.program) in
    let many = length-map c.funcs.result.now function_of in
    let low = c.if-f-len.false in
    omega arith

pub reached_functions-calls-requires : goal.reached_functions-calls-requires
reached_functions-calls-requires c g e =
    let p : Source = c.args.flow.now.program in
    let long : c.len.result ≡ length c.behind-program.inside.0.items = search rules in
    let view : length c.behind-program.inside.0.items ≡ length c.funcs.result.now = ap length c.behind-program.view_is in
    let same : length (functions_of c.funcs.result.now) ≡ length p.funcs = ap length (c.funcs.ensures.funcs ∙ ap (λ (q : Source). q.funcs) c.program.ensures.program) in
    let many = length-map c.funcs.result.now function_of in
    let less = c.if-f-len.false in
    let low : c.args.f < length p.funcs = omega arith in
    let tells : TellsCalls p c.args.f c.calls_of.result = tells_calls p c.args.f c.calls_of.result c.program.ensures.lowered.lawful low c.calls_of.ensures in
    few_calls p c.args.f c.calls_of.result g (tells g).0 e

pub bit-requires : goal.bit-requires
bit-requires c =
    let long : c.len.result ≡ length c.behind-program.inside.0.items = search rules in
    let view : length c.behind-program.inside.0.items ≡ length c.funcs.result.now = ap length c.behind-program.view_is in
    let same : length (functions_of c.funcs.result.now) ≡ length c.args.flow.now.program.funcs = ap length (c.funcs.ensures.funcs ∙ ap (λ (q : Source). q.funcs) c.program.ensures.program) in
    let many = length-map c.funcs.result.now function_of in
    let less = c.if-f-len.false in
    let few = c.program.ensures.lowered.lawful.function_count in
    omega arith

pub events_at-requires-clause-table : goal.events_at-requires-clause-table
events_at-requires-clause-table c = is_table c.args.flow.now.program c.args.links.now c.program.ensures.lowered.lawful c.requires.table

pub events_at-requires-clause-all : goal.events_at-requires-clause-all
events_at-requires-clause-all c = all_rows c.args.flow.now.program c.args.c.now.program c.args.links.now c.requires.program c.requires.table

pub returns-clause-contents : goal.returns-clause-contents
returns-clause-contents c n w =
    let p : Source = c.args.flow.now.program in
    let f : Plan = c.args.c.now.plan in
    let g : ℕ = c.args.f in
    let long : c.len.result ≡ length c.behind-program.inside.0.items = search rules in
    let view : length c.behind-program.inside.0.items ≡ length c.funcs.result.now = ap length c.behind-program.view_is in
    let same : length (functions_of c.funcs.result.now) ≡ length p.funcs = ap length (c.funcs.ensures.funcs ∙ ap (λ (q : Source). q.funcs) c.program.ensures.program) in
    let many = length-map c.funcs.result.now function_of in
    let less = c.if-f-len.false in
    let low : g < length p.funcs = omega arith in
    let tells : TellsCalls p g c.calls_of.result = tells_calls p g c.calls_of.result c.program.ensures.lowered.lawful low c.calls_of.ensures in
    frame_contents p f n g c.own_places-own.result c.calls_of.result _
    (frame_facts p c.args.c.now.program f n g c.own_places-own.result (event_numbers c.frame_events-own_events.result) (event_numbers c.events_at.result) c.calls_of.result c.args.links.now _ c.program.ensures.lowered.lawful c.requires.program
    c.requires.table w low c.own_places-own.ensures tells c.reached_functions-calls.ensures.is (λ h. ap (λ (z : ℕ). has_function z h) c.bit.ensures ∙ has_one g h) c.frame_events-own_events.ensures c.events_at.ensures c.with.ensures)

pub returns-clause-places : goal.returns-clause-places
returns-clause-places c n w =
    frame_own c.args.flow.now.program c.args.c.now.plan n c.args.f (length c.args.links.now) c.own_places-own.result c.args.places.now c.put_all.new.places c.program.ensures.lowered.lawful w (ap length c.requires.table)
    (own_at c.args.flow.now.program c.args.f c.own_places-own.result c.args.links.now c.requires.table c.own_places-own.ensures) c.put_all.ensures

pub returns-then-f-len-clause-contents : goal.returns-then-f-len-clause-contents
returns-then-f-len-clause-contents c n w =
    let p : Source = c.args.flow.now.program in
    let f : Plan = c.args.c.now.plan in
    let long : c.len.result ≡ length c.behind-program.inside.0.items = search rules in
    let view : length c.behind-program.inside.0.items ≡ length c.funcs.result.now = ap length c.behind-program.view_is in
    let same : length (functions_of c.funcs.result.now) ≡ length p.funcs = ap length (c.funcs.ensures.funcs ∙ ap (λ (q : Source). q.funcs) c.program.ensures.program) in
    let many = length-map c.funcs.result.now function_of in
    let high = c.if-f-len.true in
    let past : length p.funcs ≤ c.args.f = omega arith in
    let own : event_numbers c.nothing.result.events ≡ event_numbers c.frame_events-own_events.result = cc in
    nothing_inside p f n c.nothing.result (all_past p f n c.args.f w past) (cc) (cc) (λ m. rw own (rw (c.frame_events-own_events.ensures m) (frame_same f n c.args.f w m)))

pub returns-then-f-len-clause-places : goal.returns-then-f-len-clause-places
returns-then-f-len-clause-places c n w =
    let p : Source = c.args.flow.now.program in
    let f : Plan = c.args.c.now.plan in
    let long : c.len.result ≡ length c.behind-program.inside.0.items = search rules in
    let view : length c.behind-program.inside.0.items ≡ length c.funcs.result.now = ap length c.behind-program.view_is in
    let same : length (functions_of c.funcs.result.now) ≡ length p.funcs = ap length (c.funcs.ensures.funcs ∙ ap (λ (q : Source). q.funcs) c.program.ensures.program) in
    let many = length-map c.funcs.result.now function_of in
    let high = c.if-f-len.true in
    let past : length p.funcs ≤ c.args.f = omega arith in
    nothing_own p f n c.args.places.now (all_past p f n c.args.f w past)
