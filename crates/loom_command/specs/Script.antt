-- Scripts: lines of an operator, each a command.
use Rattle.std.specs.Prelude.{ℕ, suc, ◌-◌, ◌≤◌, ◌≡◌, ◌⊎◌, Bool, true, false, not, nat_eq, List, [], ◌∷◌, ◌++◌, length, take, slice_get, Some, codes, if◌then◌else◌}
use Rattle.loom_lexer.specs.Lexeme.{Each, BeginsWithout, is_letter, is_part}
use Rattle.loom_tree.specs.Decimal.{decimal}
use Rattle.loom_command.specs.FilterText.{is_blank}

pub data Trigger : Type 0 where
  -- where threads have made at least so many entries
  at : ℕ → Trigger
  -- where no thread can go on
  stall : Trigger

pub data ScriptAction : Type 0 where
  -- the text of a filter
  install : List ℕ → ScriptAction
  remove : ScriptAction

pub record ScriptCommand : Type 0 where
  pub line : ℕ
  pub trigger : Trigger
  -- the name of the filter
  pub name : List ℕ
  pub action : ScriptAction

-- Lines: each ends with LF, or with CR and LF; the last may have no end

abbrev pub without_return : List ℕ → List ℕ
without_return [] = []
without_return (b ∷ []) = if nat_eq b 13 then [] else b ∷ []
without_return (b ∷ c ∷ bs) = b ∷ without_return (c ∷ bs)

-- the lines, where these bytes are those of the first one so far
abbrev pub lines_from : List ℕ → List ℕ → List (List ℕ)
lines_from so_far [] = so_far ∷ []
lines_from so_far (b ∷ bs) = if nat_eq b 10 then without_return so_far ∷ lines_from [] bs else lines_from (so_far ++ b ∷ []) bs

abbrev pub script_lines : List ℕ → List (List ℕ)
script_lines bytes = lines_from [] bytes

-- Fields: what stands between blanks

abbrev pub is_dark : ℕ → Bool
is_dark b = not (is_blank b)

abbrev pub IsField : List ℕ → Type 0
IsField [] = ⊥
IsField (b ∷ bs) = Each is_dark (b ∷ bs)

-- the bytes are these fields and then the rest, which goes on none of them
abbrev pub HasFields : List (List ℕ) → List ℕ → List ℕ → Type 0
HasFields [] rest bytes = bytes ≡ rest
HasFields (f ∷ fs) rest bytes =
    (blanks : List ℕ) × (more : List ℕ) × (bytes ≡ blanks ++ (f ++ more)) × Each is_blank blanks × IsField f × BeginsWithout is_dark more × HasFields fs rest more

-- A line without a field, or of which the first begins with `#`
-- (35 is `#`)
abbrev pub IsSkipped : List ℕ → Type 0
IsSkipped line = Each is_blank line ⊎ ((f : List ℕ) × (rest : List ℕ) × HasFields ((35 ∷ f) ∷ []) rest line)

-- Commands

abbrev pub latest : ℕ
latest = 1000000

abbrev pub longest_name : ℕ
longest_name = 32

-- letters, digits and `_`, with no digit first; words of the language may stand here
abbrev pub IsWord : List ℕ → Type 0
IsWord [] = ⊥
IsWord (b ∷ bs) = (is_letter b ≡ true) × Each is_part bs

pub record IsFilterName (name : List ℕ) : Type 0 where
  pub form : IsWord name
  pub short : length name ≤ longest_name

-- the fields that tell when: a number has no leading zeros
abbrev pub WhenFields : Trigger → List ℕ → List ℕ → Type 0
WhenFields (at n) a b = (a ≡ codes "at") × (b ≡ decimal n) × (n ≤ latest)
WhenFields stall a b = (a ≡ codes "on") × (b ≡ codes "stall")

abbrev pub EndsDark : List ℕ → Type 0
EndsDark [] = Unit {0}
EndsDark (b ∷ []) = is_blank b ≡ false
EndsDark (b ∷ c ∷ bs) = EndsDark (c ∷ bs)

-- the filter is the rest of the line, without the blanks at its ends
pub record IsTrimmed (rest text : List ℕ) : Type 0 where
  pub before : List ℕ
  pub behind : List ℕ
  pub is : rest ≡ before ++ (text ++ behind)
  pub blank_before : Each is_blank before
  pub blank_behind : Each is_blank behind
  pub begins : BeginsWithout is_blank text
  pub ends : EndsDark text

abbrev pub ActionFields : ScriptAction → List ℕ → List ℕ → Type 0
ActionFields (install text) a rest = (a ≡ codes "install") × IsTrimmed rest text
ActionFields remove a rest = (a ≡ codes "remove") × Each is_blank rest

-- The line, of this number, is the command.
pub record IsCommandLine (number : ℕ) (line : List ℕ) (c : ScriptCommand) : Type 0 where
  pub number_is : c.line ≡ number
  pub when : List ℕ
  pub which : List ℕ
  pub verb : List ℕ
  pub rest : List ℕ
  pub fields : HasFields (when ∷ which ∷ verb ∷ c.name ∷ []) rest line
  pub trigger : WhenFields c.trigger when which
  pub action : ActionFields c.action verb rest
  pub name : IsFilterName c.name

-- Scripts

abbrev pub most_commands : ℕ
most_commands = 64

-- The lines, the first of which has this number, are these commands, some lines being skipped.
abbrev pub AreCommands : ℕ → List (List ℕ) → List ScriptCommand → Type 0
AreCommands n [] cs = cs ≡ []
AreCommands n (l ∷ ls) cs =
    (IsSkipped l × AreCommands (suc n) ls cs)
    ⊎ ((c : ScriptCommand) × (rest : List ScriptCommand) × (cs ≡ c ∷ rest) × IsCommandLine n l c × AreCommands (suc n) ls rest)

pub record IsScript (bytes : List ℕ) (cs : List ScriptCommand) : Type 0 where
  pub commands : AreCommands 1 (script_lines bytes) cs
  pub few : length cs ≤ most_commands

-- The line can't stand behind so many commands: it is no command and isn't skipped, or it is one too many.
pub record IsBadLine (number : ℕ) (line : List ℕ) (before : ℕ) : Type 0 where
  pub not_skipped : IsSkipped line → ⊥
  pub bad : ((c : ScriptCommand) → IsCommandLine number line c → ⊥) ⊎ (most_commands ≤ before)

-- Where a script leaves its rules: the first such line, counted from 1.
pub record IsRefusedScript (bytes : List ℕ) (number : ℕ) : Type 0 where
  pub commands : List ScriptCommand
  pub before : AreCommands 1 (take (number - 1) (script_lines bytes)) commands
  pub few : length commands ≤ most_commands
  pub line : List ℕ
  pub there : slice_get (script_lines bytes) (number - 1) ≡ Some line
  pub counted : 1 ≤ number
  pub bad : IsBadLine number line (length commands)
