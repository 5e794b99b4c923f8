-- The commands of a script, one behind another.
use Rattle.std.proofs.Common.{ℕ, zero, suc, ◌+◌, ◌<◌, ◌≤◌, ◌≡◌, Bool, false, if◌then◌else◌, List, [], ◌∷◌, ◌++◌, length, drop, get_or, slice_get, Option, Some, None, refl, sym, ap, ◌∙◌, subst, arith}
use Rattle.std.specs.Prelude.{◌==◌}
use Rattle.std.proofs.lemmas.Bool.{eq-eqb, ne_eqb}
use Rattle.std.proofs.lemmas.List.{length-append, at_drop_more, at_drop_all}
use Rattle.loom_tree.specs.Tree.{Source}
use Rattle.loom_command.specs.Script.{Trigger, at, ScriptAction, ScriptCommand}
use Rattle.loom_command.specs.Script as words
use Rattle.loom_law.specs.Filter.{Plan}
use Rattle.loom_law.specs.Walk.{Plans}
use Rattle.loom_law.specs.Control.{plan_in, plans_of}
use Rattle.loom_plan.specs.Compiled.{Compiled}
use Rattle.loom_version.specs.Plans.{compiled_at, compiled_plan, plans_in, AreFiltersOf}
use Rattle.loom_law.specs.Control as law
use Rattle.loom_script.specs.View.{command_of, commands_of}
use Rattle.loom_script.specs.declared.script.Command as script
use Rattle.loom_law.proofs.OnePart.{append_none}
use Rattle.loom_world.specs.declared.command.Command.{Command}
use Rattle.loom_world.specs.declared.command.Action.{Action}
use Rattle.loom_world.specs.declared.command.Action.TheVariants as a
use Rattle.loom_world.specs.declared.command.Judged.TheVariants as j
use Rattle.loom_world.specs.Commands.{IsExclusionPlan, HaveExclusions, IsJudgedSoFar, IsActionSoFar, IsCommandSoFar, AreCommandsSoFar}
use Rattle.loom_world.specs.CommandView.{law_action, law_command, law_commands_from, law_commands}
use Rattle.loom_world.specs.CommandFilters.{HasFlagsFor, PutsOnly, HaveFlagsFrom, HaveFilters}

-- As many as the script has.
pub as_many : (p : Source) (file : List ℕ) (ss : List ScriptCommand) (cs : List law.Command) → AreCommandsSoFar p file ss cs → length cs ≡ length ss
as_many p file [] cs h = ap (λ (ds : List law.Command). length ds) h
as_many p file (s ∷ ss) [] h = absurd h
as_many p file (s ∷ ss) (c ∷ cs) h = ap suc (as_many p file ss cs h.1)

command_count : (ps : Plans) (n : ℕ) (cs : List Command) → length (law_commands_from ps n cs) ≡ length cs
command_count ps n [] = refl
command_count ps n (c ∷ cs) = ap suc (command_count ps (suc n) cs)

pub no_more : (p : Source) (file : List ℕ) (ss : List ScriptCommand) (ps : Plans) (cs : List Command) (n : ℕ) → AreCommandsSoFar p file ss (law_commands ps cs) → length ss ≤ n
    → length cs ≤ n
no_more p file ss ps cs n h few = omega (arith, few, as_many p file ss (law_commands ps cs) h, command_count ps 1 cs)

-- Over a script

-- what is left of it begins with the command at this place
pub rest_is : (ss : List script.Command) (i : ℕ) (s : script.Command) → i < length ss → s ≡ get_or ss i s → drop i ss ≡ s ∷ drop (i + 1) ss
rest_is ss i s within is = at_drop_more (λ xs. xs) ss i s within ∙ ap (λ z. z ∷ drop (i + 1) ss) (sym is)

pub none_left : (ss : List script.Command) (i : ℕ) → length ss ≤ i → drop i ss ≡ []
none_left ss i beyond = at_drop_all (λ xs. xs) ss i beyond

-- Commands by their numbers

with_command : (ps : Plans) (n : ℕ) (cs : List Command) (c : Command) (ds : List law.Command)
    → law_commands_from ps n cs ++ law_command (ps (length cs + n)) c ∷ ds ≡ law_commands_from ps n (cs ++ c ∷ []) ++ ds
with_command ps n [] c ds = ap (λ k. law_command (ps k) c ∷ ds) (omega arith)
with_command ps n (x ∷ cs) c ds =
    ap (λ k. law_command (ps n) x ∷ (law_commands_from ps (suc n) cs ++ law_command (ps k) c ∷ ds)) (omega arith)
    ∙ ap (λ zs. law_command (ps n) x ∷ zs) (with_command ps (suc n) cs c ds)

-- The filters of other commands are of no account.
pub same_commands : (ps qs : Plans) (n : ℕ) (cs : List Command) → ((i : ℕ) → n ≤ i → i < length cs + n → ps i ≡ qs i) → law_commands_from ps n cs ≡ law_commands_from qs n cs
same_commands ps qs n [] h = refl
same_commands ps qs n (c ∷ cs) h =
    ap (λ f. law_command f c ∷ law_commands_from ps (suc n) cs) (h n (omega arith) (omega arith))
    ∙ ap (λ zs. law_command (qs n) c ∷ zs) (same_commands ps qs (suc n) cs (λ i first last. h i (omega (arith, first)) (omega (arith, last))))

-- So far these are the commands: with those of the rest behind them they are all.
abbrev pub AreSoFar : Source → List ℕ → List script.Command → ℕ → Plans → List Command → Type 0
AreSoFar p file ss i ps cs =
    (ds : List law.Command) → AreCommandsSoFar p file (commands_of (drop i ss)) ds → AreCommandsSoFar p file (commands_of ss) (law_commands ps cs ++ ds)

-- with the filter of one more command the others are what they were
pub still_so_far : (p : Source) (file : List ℕ) (ss : List script.Command) (i : ℕ) (ps qs : Plans) (cs : List Command) → ((k : ℕ) → 1 ≤ k → k < length cs + 1 → ps k ≡ qs k)
    → AreSoFar p file ss i ps cs → AreSoFar p file ss i qs cs
still_so_far p file ss i ps qs cs same so_far ds h =
    subst (λ zs. AreCommandsSoFar p file (commands_of ss) (zs ++ ds)) (same_commands ps qs 1 cs same) (so_far ds h)

pub are_more : (p : Source) (file : List ℕ) (ss : List script.Command) (i : ℕ) (ps : Plans) (cs new : List Command) (s : script.Command) (c : Command) (k : ℕ)
    → AreSoFar p file ss i ps cs → k ≡ length cs + 1 → drop i ss ≡ s ∷ drop (i + 1) ss → IsCommandSoFar p file (command_of s) (law_command (ps k) c) → new ≡ cs ++ c ∷ []
    → AreSoFar p file ss (i + 1) ps new
are_more p file ss i ps cs new s c k so_far number rest one more ds h =
    let numbered : IsCommandSoFar p file (command_of s) (law_command (ps (length cs + 1)) c) =
    subst (λ m. IsCommandSoFar p file (command_of s) (law_command (ps m) c)) number one in
    let here : AreCommandsSoFar p file (commands_of (drop i ss)) (law_command (ps (length cs + 1)) c ∷ ds) =
    subst (λ zs. AreCommandsSoFar p file (commands_of zs) (law_command (ps (length cs + 1)) c ∷ ds)) (sym rest) (numbered, h) in
    subst (λ zs. AreCommandsSoFar p file (commands_of ss) (law_commands ps zs ++ ds)) (sym more)
    (subst (λ zs. AreCommandsSoFar p file (commands_of ss) zs) (with_command ps 1 cs c ds) (so_far (law_command (ps (length cs + 1)) c ∷ ds) here))

pub are_all : (p : Source) (file : List ℕ) (ss : List script.Command) (i : ℕ) (ps : Plans) (cs : List Command) → AreSoFar p file ss i ps cs → drop i ss ≡ []
    → AreCommandsSoFar p file (commands_of ss) (law_commands ps cs)
are_all p file ss i ps cs so_far none =
    let here : AreCommandsSoFar p file (commands_of (drop i ss)) [] = subst (λ zs. AreCommandsSoFar p file (commands_of zs) []) (sym none) refl in
    subst (λ zs. AreCommandsSoFar p file (commands_of ss) zs) (append_none (law_commands ps cs)) (so_far [] here)

-- Their filters

-- so far the filters are those of these commands
pub record AreFilled (p : Source) (fs : List (Option Compiled)) (cs : List Command) : Type 0 where
  pub filters : AreFiltersOf p fs
  pub flags : HaveFlagsFrom p fs 1 cs
  pub beyond : (k : ℕ) → length cs < k → compiled_at fs k ≡ None

plan_of_action : (p : Source) (o : Option Compiled) (x : Action) (t : Trigger) (name : List ℕ) → HasFlagsFor p o x
    → compiled_plan o ≡ plan_in (Some (record { trigger = t; name = name; action = law_action (compiled_plan o) x }))
plan_of_action p o (a.Install (j.Flags set)) t name h = refl
plan_of_action p o (a.Install (j.Refused r)) t name h = ap compiled_plan h
plan_of_action p o a.Remove t name h = ap compiled_plan h

plans_from : (p : Source) (fs : List (Option Compiled)) (n : ℕ) (cs : List Command) → HaveFlagsFrom p fs n cs → ((k : ℕ) → length cs + n ≤ k → compiled_at fs k ≡ None)
    → (i : ℕ) → plans_in fs (i + n) ≡ plan_in (slice_get (law_commands_from (plans_in fs) n cs) i)
plans_from p fs n [] flags beyond i = ap compiled_plan (beyond (i + n) (omega arith))
plans_from p fs n (c ∷ cs) flags beyond zero =
    ap (plans_in fs) (omega arith) ∙ plan_of_action p (compiled_at fs n) c.action (at c.at) c.name flags.0
plans_from p fs n (c ∷ cs) flags beyond (suc i) =
    ap (plans_in fs) (omega arith) ∙ plans_from p fs (suc n) cs flags.1 (λ k less. beyond k (omega (arith, less))) i

pub have_filters : (p : Source) (fs : List (Option Compiled)) (cs : List Command) → AreFilled p fs cs → HaveFilters p fs cs
have_filters p fs cs h = record { filters = h.filters; same = same; flags = h.flags }
  where
    same : (k : ℕ) → plans_in fs k ≡ plans_of (law_commands (plans_in fs) cs) k
    same zero = refl
    same (suc i) =
        let next : suc i ≡ i + 1 = omega arith in
        ap (plans_in fs) next ∙ plans_from p fs 1 cs h.flags (λ k less. h.beyond k (omega (arith, less))) i

-- what was put there is there
pub put_here : (old new : List (Option Compiled)) (k : ℕ) (c : Compiled) → ((j : ℕ) → compiled_at new j ≡ (if j == k then Some c else compiled_at old j)) → compiled_at new k ≡ Some c
put_here old new k c h = h k ∙ ap (λ (b : Bool). if b then Some c else compiled_at old k) (eq-eqb k k refl)

-- with a command and its filter more

flags_stay : (p : Source) (fs gs : List (Option Compiled)) (n : ℕ) (cs : List Command) → ((i : ℕ) → n ≤ i → i < length cs + n → compiled_at fs i ≡ compiled_at gs i) → HaveFlagsFrom p fs n cs
    → HaveFlagsFrom p gs n cs
flags_stay p fs gs n [] same h = tt
flags_stay p fs gs n (c ∷ cs) same h = (
  subst (λ o. HasFlagsFor p o c.action) (same n (omega arith) (omega arith)) h.0,
  flags_stay p fs gs (suc n) cs (λ i first last. same i (omega (arith, first)) (omega (arith, last))) h.1,
)

flags_append : (p : Source) (gs : List (Option Compiled)) (n : ℕ) (cs : List Command) (c : Command) → HaveFlagsFrom p gs n cs → HasFlagsFor p (compiled_at gs (length cs + n)) c.action
    → HaveFlagsFrom p gs n (cs ++ c ∷ [])
flags_append p gs n [] c h one = (subst (λ k. HasFlagsFor p (compiled_at gs k) c.action) (omega arith) one, tt)
flags_append p gs n (x ∷ cs) c h one = (
  h.0,
  flags_append p gs (suc n) cs c h.1 (subst (λ k. HasFlagsFor p (compiled_at gs k) c.action) (omega arith) one),
)

differs : (i k : ℕ) → (i ≡ k → ⊥) → (i == k) ≡ false
differs i k ne = ne_eqb i k ne

pub filled_more : (p : Source) (fs gs : List (Option Compiled)) (cs new : List Command) (c : Command) (k : ℕ) → AreFilled p fs cs → PutsOnly p fs k gs → k ≡ length cs + 1
    → HasFlagsFor p (compiled_at gs k) c.action → new ≡ cs ++ c ∷ [] → AreFilled p gs new
filled_more p fs gs cs new c k h puts number one more =
    let stay : HaveFlagsFrom p gs 1 cs =
    flags_stay p fs gs 1 cs (λ i first last. sym (puts.others i (differs i k (λ same. omega (arith, same, last, number))))) h.flags in
    let all : HaveFlagsFrom p gs 1 (cs ++ c ∷ []) = flags_append p gs 1 cs c stay (subst (λ m. HasFlagsFor p (compiled_at gs m) c.action) number one) in
    let many : length (cs ++ c ∷ []) ≡ length cs + 1 = length-append cs (c ∷ []) in
    subst (AreFilled p gs) (sym more)
    (record {
      filters = puts.filters;
      flags = all;
      beyond = λ i less. puts.others i (differs i k (λ same. omega (arith, same, less, many, number))) ∙ h.beyond i (omega (arith, less, many));
    })

pub none_filled : (p : Source) (fs : List (Option Compiled)) → ((k : ℕ) → compiled_at fs k ≡ None) → AreFilled p fs []
none_filled p fs none = record { filters = λ k c is. (let no : None ≡ Some c = sym (none k) ∙ is in cc); flags = tt; beyond = λ k less. none k }

-- the plans of other commands stay
pub plans_stay : (p : Source) (fs gs : List (Option Compiled)) (k : ℕ) → PutsOnly p fs k gs → (i : ℕ) → (i ≡ k → ⊥) → plans_in fs i ≡ plans_in gs i
plans_stay p fs gs k puts i ne = ap compiled_plan (sym (puts.others i (differs i k ne)))

pub one_more : (cs new : List Command) (c : Command) (k : ℕ) → k ≡ length cs + 1 → new ≡ cs ++ c ∷ [] → k ≡ length new
one_more cs new c k number more = number ∙ (sym (length-append cs (c ∷ [])) ∙ sym (ap (λ (xs : List Command). length xs) more))

-- Each filter that they put in is one of exclusions.

judged_plan : (p : Source) (file text : List ℕ) (f : Plan) → IsJudgedSoFar p file text (law.means f) → IsExclusionPlan p f
judged_plan p file text f h = record { filter = h.0.filter; plan = h.0.plan; exclusions = h.1 }

action_plan : (p : Source) (file : List ℕ) (x : ScriptAction) (y : law.Action) (f : Plan) → IsActionSoFar p file x y → y ≡ law.install (law.means f) → IsExclusionPlan p f
action_plan p file (words.install t) y f h is = judged_plan p file t f (subst (λ z. IsActionSoFar p file (words.install t) z) is h)
action_plan p file words.remove y f h is = absurd (subst (λ z. IsActionSoFar p file words.remove z) is h)

pub exclusions : (p : Source) (file : List ℕ) (ss : List ScriptCommand) (cs : List law.Command) → AreCommandsSoFar p file ss cs → HaveExclusions p cs
exclusions p file ss cs h zero c f is installs = cc
exclusions p file [] cs h (suc i) c f is installs =
    let none : slice_get cs i ≡ None = ap (λ (zs : List law.Command). slice_get zs i) h in
    let no : None ≡ Some c = sym none ∙ is in cc
exclusions p file (s ∷ ss) [] h (suc i) c f is installs = absurd h
exclusions p file (s ∷ ss) (d ∷ cs) h (suc zero) c f is installs =
    let same : d ≡ c = cc in
    action_plan p file s.action c.action f (subst (λ (z : law.Command). IsActionSoFar p file s.action z.action) same h.0.action) installs
exclusions p file (s ∷ ss) (d ∷ cs) h (suc (suc i)) c f is installs = exclusions p file ss cs h.1 (suc i) c f is installs
