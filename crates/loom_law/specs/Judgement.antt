-- From the bytes of a script to commands: what each filter's text is in the program.
use Rattle.std.specs.Prelude.{ℕ, ◌≡◌, ◌==◌, ◌⊎◌, List, [], ◌∷◌, if◌then◌else◌}
use Rattle.loom_tree.specs.Tree.{Source}
use Rattle.loom_command.specs.Filter.{Filter}
use Rattle.loom_command.specs.FilterFault.{FilterFault, IsNoLater, IsRefusedText, IsFilter}
use Rattle.loom_command.specs.Script.{ScriptAction, ScriptCommand, IsScript}
use Rattle.loom_command.specs.Script as script
use Rattle.loom_law.specs.Filter.{Plan, plan_of}
use Rattle.loom_law.specs.FilterRefusal.{IsNameFault, IsPathFault}
use Rattle.loom_law.specs.Control.{Judgement, refused, means, Action, install, remove, Command}

-- It is the first of such faults: the least clause counts, and in it the least number.
pub record IsFirst (Q : FilterFault → Type 0) (x : FilterFault) : Type 0 where
  pub is : Q x
  pub least : (y : FilterFault) → Q y → IsNoLater x y

abbrev pub HasNone : (FilterFault → Type 0) → Type 0
HasNone Q = (x : FilterFault) → Q x → ⊥

-- The text is a filter that is refused for what it names, and if not for that, for its paths.
pub record IsRefusedFilter (p : Source) (file text : List ℕ) (x : FilterFault) : Type 0 where
  pub filter : Filter
  pub is : IsFilter text filter
  pub fault : IsFirst (IsNameFault p file filter) x ⊎ (HasNone (IsNameFault p file filter) × IsFirst (IsPathFault p (plan_of p filter)) x)

-- Nothing refuses it.
pub record IsPlanned (p : Source) (file text : List ℕ) (f : Plan) : Type 0 where
  pub filter : Filter
  pub is : IsFilter text filter
  pub names : HasNone (IsNameFault p file filter)
  pub paths : HasNone (IsPathFault p (plan_of p filter))
  pub plan : f ≡ plan_of p filter

-- What a filter's text is for a program in the file of this name: the text itself goes first, then what it names, then its paths.
abbrev pub IsJudged : Source → List ℕ → List ℕ → Judgement → Type 0
IsJudged p file text (refused n c) =
    IsRefusedText text (record { clause = c; number = n }) ⊎ IsRefusedFilter p file text (record { clause = c; number = n })
IsJudged p file text (means f) = IsPlanned p file text f

abbrev pub IsActionOf : Source → List ℕ → ScriptAction → Action → Type 0
IsActionOf p file (script.install text) (install j) = IsJudged p file text j
IsActionOf p file script.remove remove = Unit {0}
IsActionOf p file _ _ = ⊥

pub record IsCommandOf (p : Source) (file : List ℕ) (s : ScriptCommand) (c : Command) : Type 0 where
  pub trigger : c.trigger ≡ s.trigger
  pub name : c.name ≡ s.name
  pub action : IsActionOf p file s.action c.action

abbrev pub AreCommandsOf : Source → List ℕ → List ScriptCommand → List Command → Type 0
AreCommandsOf p file [] cs = cs ≡ []
AreCommandsOf p file (s ∷ ss) [] = ⊥
AreCommandsOf p file (s ∷ ss) (c ∷ cs) = IsCommandOf p file s c × AreCommandsOf p file ss cs

-- The name of a file, of the word that names it: what stands behind the last `/` (byte 47), or the whole word where there is none.
abbrev pub behind_last_slash : List ℕ → List ℕ → List ℕ
behind_last_slash so_far [] = so_far
behind_last_slash so_far (b ∷ bs) = if b == 47 then behind_last_slash bs bs else behind_last_slash so_far bs

abbrev pub file_name : List ℕ → List ℕ
file_name word = behind_last_slash word word

-- The bytes are a script of these commands, for a program in the file that the word names.
pub record IsCommandList (p : Source) (word bytes : List ℕ) (cs : List Command) : Type 0 where
  pub script : List ScriptCommand
  pub is : IsScript bytes script
  pub are : AreCommandsOf p (file_name word) script cs
