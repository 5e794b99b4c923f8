-- Laws of scripts.
use Rattle.std.specs.Prelude.{ℕ, ◌≤◌, List, [], length}
use Rattle.std.specs.List.{AllByRecursion}
use Rattle.loom_command.specs.Script.{ScriptAction, install, remove, ScriptCommand, IsScript}
use Rattle.loom_script.specs.ScriptError.{IsScriptWithoutStall, IsRefusedWithoutStall}

-- A script of which no command waits for a stall isn't refused.
abbrev pub HasNoRefusalWithoutStall : Type 0
HasNoRefusalWithoutStall = (bytes : List ℕ) (cs : List ScriptCommand) (n : ℕ) → IsScriptWithoutStall bytes cs → IsRefusedWithoutStall bytes n → ⊥

-- the text of a filter that is put in
abbrev pub text_in : ScriptAction → List ℕ
text_in (install text) = text
text_in remove = []

-- none of these texts has more than so many bytes
abbrev pub HaveShortTexts : ℕ → List ScriptCommand → Type 0
HaveShortTexts n cs = AllByRecursion (λ (c : ScriptCommand). length (text_in c.action) ≤ n) cs

-- The text of a filter in a script has no more bytes than the script.
abbrev pub HasShortTexts : Type 0
HasShortTexts = (bytes : List ℕ) (cs : List ScriptCommand) → IsScript bytes cs → HaveShortTexts (length bytes) cs
