use Rattle.loom_trace.specs.Places.{has_place}
use Rattle.loom_law.specs.Control.{means, refused}
use Rattle.loom_top.proofs.ShowLines.{then_if_ok}
use Rattle.loom_top.proofs.show_filter.filter_text.Goals as goal

pub returns-in-Ok : goal.returns-in-Ok
returns-in-Ok c =
    let x = c.in-Ok.found in
    let told = c.in-Ok.ensures in
    then_if_ok c.plan_text.result (λ out e. (means x.filter.plan, (told.judged, (has_place x.unsafe_places, (told.places.exactly, e))))) c.plan_text.ensures

pub returns-in-Err-Refused : goal.returns-in-Err-Refused
returns-in-Err-Refused c =
    let r = c.in-Err-Refused.refusal in
    then_if_ok c.fault_text.result (λ out e. (refused r.number r.clause, (c.in-Err-Refused.ensures.refused r (cc (c.in-Err-Refused.field-0-is)), e))) c.fault_text.ensures
