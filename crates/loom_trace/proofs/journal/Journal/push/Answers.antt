use Rattle.std.proofs.Common.{ℕ, ◌≡◌, ◌+◌, ◌-◌, ◌<◌, List, [], ◌∷◌, ◌++◌, length, map, vec_len, vec_capacity, ap, ◌∙◌, arith}
use Rattle.loom_trace.specs.declared.entry.Entry.{Entry}
use Rattle.loom_trace.specs.Journal.{Contents}
use Rattle.loom_trace.proofs.Shortening.{room_short, entries_long, room_long}
use Rattle.loom_trace.proofs.journal.Journal.push.Goals as goal

pub invariant_of-self : goal.invariant_of-self
invariant_of-self c =
    let room : vec_capacity c.self.inside.shorts - vec_len c.self.inside.shorts ≡ c.args.self.now.room = ap (λ (z : Contents). z.room) c.self.view_is in
    rw c.push_reserved.ensures.items
    (room_short c.self.inside.shorts.items c.in-Some.short c.self.inside.longs.items _ _ _ c.self.invariant (c.in-Some.ensures.alone (length c.self.inside.longs.items))
    (omega (arith, room, c.requires, c.push_reserved.ensures.len, c.push_reserved.ensures.capacity)))

pub invariant_of-self-in-None : goal.invariant_of-self-in-None
invariant_of-self-in-None c =
    let room : vec_capacity c.self.inside.shorts - vec_len c.self.inside.shorts ≡ c.args.self.now.room = ap (λ (z : Contents). z.room) c.self.view_is in
    let short = c.push_reserved-in-None-2.ensures in
    let long = c.push_reserved-in-None.ensures in
    rw (c.push_reserved-in-None-2.ensures.items, c.push_reserved-in-None.ensures.items)
    (room_long c.self.inside.shorts.items c.len-index.result c.self.inside.longs.items c.args.e _ _ _ _ c.self.invariant (omega arith)
    (omega (arith, room, c.requires, short.len, short.capacity))
    (omega (arith, room, c.requires, c.self.invariant.enough, long.len, long.capacity)))

pub returns-in-None-clause-appended : goal.returns-in-None-clause-appended
returns-in-None-clause-appended c =
    rw (c.push_reserved-in-None-2.ensures.items, c.push_reserved-in-None.ensures.items)
    (entries_long c.self.inside.longs.items c.self.inside.shorts.items c.args.e c.len-index.result (omega arith) c.self.invariant.within
    ∙ ap (λ (z : Contents). z.entries ++ c.args.e ∷ []) c.self.view_is)
