-- What a filter's text is for a program is determined, and so are the commands of a script.
use Rattle.std.proofs.Common.{ℕ, ◌≡◌, ◌⊎◌, inl, inr, List, [], ◌∷◌, refl, sym, ap, subst, ◌∙◌}
use Rattle.loom_tree.specs.Tree.{Source}
use Rattle.loom_command.specs.Filter.{Filter}
use Rattle.loom_command.specs.FilterFault.{FilterFault, IsRefusedText}
use Rattle.loom_command.specs.Script.{Trigger, ScriptAction, ScriptCommand}
use Rattle.loom_command.specs.Script as script
use Rattle.loom_command.proofs.OneScript.{one_script}
use Rattle.loom_command.proofs.OneForm.{one_filter}
use Rattle.loom_command.proofs.OneFault.{one_least, one_fault, no_faulty_filter}
use Rattle.loom_law.specs.Filter.{Plan, plan_of}
use Rattle.loom_law.specs.FilterRefusal.{IsNameFault, IsPathFault}
use Rattle.loom_law.specs.Control.{Judgement, refused, means, Action, install, remove, Command}
use Rattle.loom_law.specs.Judgement.{IsFirst, HasNone, IsRefusedFilter, IsPlanned, IsActionOf, IsCommandOf, AreCommandsOf, file_name}
use Rattle.loom_law.specs.Laws.{HasOneJudgement, HasOneCommandList}

one_first : (Q : FilterFault → Type 0) (x y : FilterFault) → IsFirst Q x → IsFirst Q y → x ≡ y
one_first Q x y h k = one_least x y (h.least y k.is) (k.least x h.is)

-- Refusals of a filter

abbrev IsFaultOf : Source → List ℕ → Filter → FilterFault → Type 0
IsFaultOf p file f x = IsFirst (IsNameFault p file f) x ⊎ (HasNone (IsNameFault p file f) × IsFirst (IsPathFault p (plan_of p f)) x)

one_fault_of : (p : Source) (file : List ℕ) (f : Filter) (x y : FilterFault) → IsFaultOf p file f x → IsFaultOf p file f y → x ≡ y
one_fault_of p file f x y (inl h) (inl k) = one_first (IsNameFault p file f) x y h k
one_fault_of p file f x y (inl h) (inr k) = absurd (k.0 x h.is)
one_fault_of p file f x y (inr h) (inl k) = absurd (h.0 y k.is)
one_fault_of p file f x y (inr h) (inr k) = one_first (IsPathFault p (plan_of p f)) x y h.1 k.1

one_refused : (p : Source) (file text : List ℕ) (x y : FilterFault) → IsRefusedFilter p file text x → IsRefusedFilter p file text y → x ≡ y
one_refused p file text x y h k =
    let same : h.filter ≡ k.filter = one_filter text h.filter k.filter h.is k.is in
    one_fault_of p file k.filter x y (subst (λ f. IsFaultOf p file f x) same h.fault) k.fault

none_of : (p : Source) (file : List ℕ) (f : Filter) (x : FilterFault) → HasNone (IsNameFault p file f) → HasNone (IsPathFault p (plan_of p f)) → IsFaultOf p file f x → ⊥
none_of p file f x names paths (inl h) = names x h.is
none_of p file f x names paths (inr h) = paths x h.1.is

not_planned : (p : Source) (file text : List ℕ) (x : FilterFault) (g : Plan) → IsRefusedText text x ⊎ IsRefusedFilter p file text x → IsPlanned p file text g → ⊥
not_planned p file text x g (inl h) k = no_faulty_filter text k.filter x k.is h
not_planned p file text x g (inr h) k =
    let same : h.filter ≡ k.filter = one_filter text h.filter k.filter h.is k.is in
    none_of p file k.filter x k.names k.paths (subst (λ f. IsFaultOf p file f x) same h.fault)

one_refusal : (p : Source) (file text : List ℕ) (x y : FilterFault) → IsRefusedText text x ⊎ IsRefusedFilter p file text x → IsRefusedText text y ⊎ IsRefusedFilter p file text y → x ≡ y
one_refusal p file text x y (inl h) (inl k) = one_fault text x y h k
one_refusal p file text x y (inl h) (inr k) = absurd (no_faulty_filter text k.filter x k.is h)
one_refusal p file text x y (inr h) (inl k) = absurd (no_faulty_filter text h.filter y h.is k)
one_refusal p file text x y (inr h) (inr k) = one_refused p file text x y h k

-- Judgements

abbrev judgement_of : FilterFault → Judgement
judgement_of x = refused x.number x.clause

pub one_judgement : HasOneJudgement
one_judgement p file text (refused n c) (refused m d) h k = ap judgement_of (one_refusal p file text (record { clause = c; number = n }) (record { clause = d; number = m }) h k)
one_judgement p file text (refused n c) (means g) h k = absurd (not_planned p file text (record { clause = c; number = n }) g h k)
one_judgement p file text (means f) (refused m d) h k = absurd (not_planned p file text (record { clause = d; number = m }) f k h)
one_judgement p file text (means f) (means g) h k = ap means (h.plan ∙ ap (plan_of p) (one_filter text h.filter k.filter h.is k.is) ∙ sym k.plan)

-- Commands

one_action : (p : Source) (file : List ℕ) (s : ScriptAction) (x y : Action) → IsActionOf p file s x → IsActionOf p file s y → x ≡ y
one_action p file (script.install text) (install i) (install j) h k = ap install (one_judgement p file text i j h k)
one_action p file (script.install text) (install i) remove h k = absurd k
one_action p file (script.install text) remove y h k = absurd h
one_action p file script.remove remove remove h k = refl
one_action p file script.remove remove (install j) h k = absurd k
one_action p file script.remove (install i) y h k = absurd h

same_command : (s t : Trigger) (f g : List ℕ) (x y : Action) → s ≡ t → f ≡ g → x ≡ y
    → ◌≡◌ {A = Command} (record { trigger = s; name = f; action = x }) (record { trigger = t; name = g; action = y })
same_command s t f g x y d e h = rw (d, e, h) refl

one_command : (p : Source) (file : List ℕ) (s : ScriptCommand) (c d : Command) → IsCommandOf p file s c → IsCommandOf p file s d → c ≡ d
one_command p file s c d h k =
    same_command c.trigger d.trigger c.name d.name c.action d.action (h.trigger ∙ sym k.trigger) (h.name ∙ sym k.name) (one_action p file s.action c.action d.action h.action k.action)

one_list : (p : Source) (file : List ℕ) (ss : List ScriptCommand) (cs ds : List Command) → AreCommandsOf p file ss cs → AreCommandsOf p file ss ds → cs ≡ ds
one_list p file [] cs ds h k = h ∙ sym k
one_list p file (s ∷ ss) [] ds h k = absurd h
one_list p file (s ∷ ss) (c ∷ cs) [] h k = absurd k
one_list p file (s ∷ ss) (c ∷ cs) (d ∷ ds) h k =
    let first : c ≡ d = one_command p file s c d h.0 k.0 in
    let others : cs ≡ ds = one_list p file ss cs ds h.1 k.1 in
    cc

pub one_command_list : HasOneCommandList
one_command_list p word bytes cs ds h k =
    let same : h.script ≡ k.script = one_script bytes h.script k.script h.is k.is in
    one_list p (file_name word) k.script cs ds (subst (λ s. AreCommandsOf p (file_name word) s cs) same h.are) k.are
