use Rattle.std.proofs.Common.{◌≡◌, ◌++◌, List, Ok, Err, length, ap, sym, ◌∙◌, true≢false, arith}
use Rattle.std.specs.Prelude.{Result, IsOk, OnOk}
use Rattle.loom_walk.specs.declared.owed.OwedRow.{OwedRow}
use Rattle.loom_walk.specs.Owed.{Owed, queue}
use Rattle.loom_walk.specs.contracts.owed.Owed.{the_view}
use Rattle.loom_walk.proofs.OwedParts.{append_owed}
use Rattle.loom_walk.proofs.owed.Owed.append.Goals as goal

on_ok : {A E : Type 0} (P : Type 0) (r : Result A E) → IsOk r → OnOk r P → P
on_ok P (Ok x) i h = h
on_ok P (Err e) i h = absurd (true≢false (sym i))

pub returns-clause-same : goal.returns-clause-same
returns-clause-same c =
    let f : List OwedRow → Owed = λ rs. record { line = c.self.inside.line; tick = c.self.inside.tick; back = c.self.inside.back; rows = rs } in
    let a : length c.more.inside.rows.items ≡ length (Owed.rows c.args.more) = ap (λ (z : Owed). length z.rows) c.more.view_is in
    let b : length c.as_slice.result.now ≡ length (Owed.rows c.args.self.now) = ap length (c.as_slice.ensures.value ∙ ap (λ (z : Owed). z.rows) c.self.view_is) in
    let room = c.requires.room in
    let e : c.try_extend_from_slice.new.self.items ≡ c.more.inside.rows.items ++ c.as_slice.result.now
    = on_ok _ c.try_extend_from_slice.result (c.try_extend_from_slice.ensures.variant.1 (omega (arith, a, b, room))) c.try_extend_from_slice.ensures.ok in
    ap f (e ∙ ap (λ (z : List OwedRow). c.more.inside.rows.items ++ z) c.as_slice.ensures.value)
    ∙ (ap (λ (z : Owed). f (z.rows ++ c.self.inside.rows.items)) c.more.view_is ∙ ap (λ (z : Owed). record z { rows = c.args.more.rows ++ z.rows }) c.self.view_is)

pub returns-clause-queue : goal.returns-clause-queue
returns-clause-queue c =
    let a : length c.more.inside.rows.items ≡ length (Owed.rows c.args.more) = ap (λ (z : Owed). length z.rows) c.more.view_is in
    let b : length c.as_slice.result.now ≡ length (Owed.rows c.args.self.now) = ap length (c.as_slice.ensures.value ∙ ap (λ (z : Owed). z.rows) c.self.view_is) in
    let room = c.requires.room in
    let e : c.try_extend_from_slice.new.self.items ≡ c.more.inside.rows.items ++ c.as_slice.result.now
    = on_ok _ c.try_extend_from_slice.result (c.try_extend_from_slice.ensures.variant.1 (omega (arith, a, b, room))) c.try_extend_from_slice.ensures.ok in
    append_owed (the_view c.self.inside) c.args.more c.try_extend_from_slice.new.self.items c.requires.tick c.requires.back (c.requires.line ∙ ap (λ (z : Owed). z.line) (sym c.self.view_is))
    (e ∙ (ap (λ (z : List OwedRow). c.more.inside.rows.items ++ z) c.as_slice.ensures.value ∙ ap (λ (z : Owed). z.rows ++ c.self.inside.rows.items) c.more.view_is))
    ∙ ap (λ (z : Owed). queue z ++ queue c.args.more) c.self.view_is
