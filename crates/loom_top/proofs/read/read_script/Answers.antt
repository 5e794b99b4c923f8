use Rattle.std.proofs.Common.{ℕ, List, subst}
use Rattle.loom_script.specs.ScriptError.{IsRefusedWithoutStall}
use Rattle.loom_script.proofs.OneReading.{no_refusal_without_stall}
use Rattle.loom_top.proofs.read.read_script.Goals as goal

pub returns-in-Err-Refused : goal.returns-in-Err-Refused
returns-in-Err-Refused g c =
    let read = c.in-Ok.ensures.read in
    let r = c.in-Err-Refused.refusal in
    let P : List ℕ → Type 0 = λ z. IsRefusedWithoutStall z r.line in
    let told : IsRefusedWithoutStall c.bytes.result.now r.line = rw c.in-Err-Refused.field-0-is at c.in-Err-Refused.ensures in
    let refused : IsRefusedWithoutStall c.in-Ok.file r.line = subst P c.bytes.ensures told in
    (c.in-Ok.file, (read.0, (read.1, record { refused = refused; none = λ ss is. no_refusal_without_stall c.in-Ok.file ss r.line is refused })))
