use Rattle.std.proofs.Common.{◌++◌, List, ℕ, codes, subst}
use Rattle.std.specs.Io.KnownBytes.{Appends}
use Rattle.loom_io.specs.Sink.{TookFront}
use Rattle.loom_io.proofs.Pages.{front_longer}
use Rattle.loom_top.proofs.Top.{front_after, on_err, on_err_then}
use Rattle.loom_top.proofs.put.put_named_text.Goals as goal

pub returns-in_err-put_all-2-clause-part : goal.returns-in_err-put_all-2-clause-part
returns-in_err-put_all-2-clause-part g c =
    let t0 = g.K.Sink.taken c.args.sink.now in
    let t1 = g.K.Sink.taken c.put_all.new.sink in
    let t2 = g.K.Sink.taken c.put_all-2.new.sink in
    let P : List ℕ → Type 0 = λ z. TookFront t1 t2 z in
    let part : TookFront t1 t2 c.args.name.now = subst P c.as_bytes.ensures.value c.in_err-put_all-2.ensures.part in
    on_err c.from_residual-in_err-put_all-2.result
    (front_after t0 t1 t2 c.args.before.now (c.args.name.now ++ codes "\n") c.in_ok-put_all.ensures.ok (front_longer t1 t2 c.args.name.now (codes "\n") part))

pub returns-clause-part : goal.returns-clause-part
returns-clause-part g c =
    let t0 = g.K.Sink.taken c.args.sink.now in
    let t1 = g.K.Sink.taken c.put_all.new.sink in
    let t2 = g.K.Sink.taken c.put_all-2.new.sink in
    let t3 = g.K.Sink.taken c.put_all-3.new.sink in
    let P : List ℕ → Type 0 = λ z. Appends t1 t2 z in
    let name : Appends t1 t2 c.args.name.now = subst P c.as_bytes.ensures.value c.in_ok-put_all-2.ensures.ok in
    on_err_then c.put_all-3.result c.put_all-3.ensures.part
    (λ (h : TookFront t2 t3 (codes "\n")). front_after t0 t1 t3 c.args.before.now (c.args.name.now ++ codes "\n") c.in_ok-put_all.ensures.ok (front_after t1 t2 t3 c.args.name.now (codes "\n") name h))
