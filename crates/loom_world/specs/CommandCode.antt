-- How the commands of a run are stored.
use Rattle.std.specs.Prelude.{ℕ, List, Option, Some, None, ◌⊎◌, ◌≡◌, refl}
use Rattle.std.proofs.Common.{inl, inr}
use Rattle.std.specs.Coded.{Coded, code_by, coded×, coded⊎, coded_ℕ, coded_list, coded_option}
use Rattle.loom_command.specs.Script.{Trigger, at, stall}
use Rattle.loom_law.specs.Filter.{Watch, Ruling}
use Rattle.loom_law.specs.Control.{Judgement, refused, means, Action, install, remove, Command}
use Rattle.loom_plan.specs.Compiled.{watch_code, ruling_code}

abbrev pub trigger_stored : Trigger → Option ℕ
trigger_stored (at n) = Some n
trigger_stored stall = None

abbrev pub stored_trigger : Option ℕ → Trigger
stored_trigger (Some n) = at n
stored_trigger None = stall

pub trigger_back : (x : Trigger) → stored_trigger (trigger_stored x) ≡ x
trigger_back (at n) = refl
trigger_back stall = refl

abbrev pub trigger_code : Coded Trigger
trigger_code = code_by (Option ℕ) (coded_option coded_ℕ) trigger_stored stored_trigger trigger_back

abbrev pub StoredJudgement : Type 0
StoredJudgement = (ℕ × ℕ) ⊎ (List Watch × List Ruling)

abbrev pub judgement_stored : Judgement → StoredJudgement
judgement_stored (refused n c) = inl (n, c)
judgement_stored (means f) = inr (f.watches, f.rulings)

abbrev pub stored_judgement : StoredJudgement → Judgement
stored_judgement (inl p) = refused p.0 p.1
stored_judgement (inr p) = means (record { watches = p.0; rulings = p.1 })

pub judgement_back : (x : Judgement) → stored_judgement (judgement_stored x) ≡ x
judgement_back (refused n c) = refl
judgement_back (means f) = refl

abbrev pub judgement_code : Coded Judgement
judgement_code =
    code_by StoredJudgement (coded⊎ (coded× coded_ℕ coded_ℕ) (coded× (coded_list watch_code) (coded_list ruling_code))) judgement_stored stored_judgement judgement_back

abbrev pub action_stored : Action → Option Judgement
action_stored (install j) = Some j
action_stored remove = None

abbrev pub stored_action : Option Judgement → Action
stored_action (Some j) = install j
stored_action None = remove

pub action_back : (x : Action) → stored_action (action_stored x) ≡ x
action_back (install j) = refl
action_back remove = refl

abbrev pub action_code : Coded Action
action_code = code_by (Option Judgement) (coded_option judgement_code) action_stored stored_action action_back

abbrev pub command_code : Coded Command
command_code =
    code_by (Trigger × (List ℕ × Action)) (coded× trigger_code (coded× (coded_list coded_ℕ) action_code)) (λ c. (c.trigger, (c.name, c.action)))
    (λ p. record { trigger = p.0; name = p.1.0; action = p.1.1 }) (λ _. refl)
