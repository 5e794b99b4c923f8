-- A run whose stop test always says no is never stopped.
use Rattle.std.proofs.Common.{Bool, true, false, ◌≡◌, List, [], ◌∷◌, ◌++◌, refl, sym, subst, if◌then◌else◌}
use Rattle.loom_trace.specs.declared.entry.Entry.{Entry}
use Rattle.loom_event.specs.Entries.{thread_of, is_some_thread, stops_behind, is_stopped}

-- the stop test of a run that isn't to be stopped
abbrev pub never : List Entry → Bool
never es = false

either : (b : Bool) → (if b then false else false) ≡ false
either true = refl
either false = refl

never_from : (so_far es : List Entry) → stops_behind never so_far false es ≡ false
never_from so_far [] = refl
never_from so_far (x ∷ es) =
    subst (λ b. stops_behind never (so_far ++ x ∷ []) b es ≡ false) (sym (either (is_some_thread (thread_of x)))) (never_from (so_far ++ x ∷ []) es)

pub never_stopped : (es : List Entry) → is_stopped never es ≡ false
never_stopped es = never_from [] es
