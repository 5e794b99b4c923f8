-- Laws of texts.
use Rattle.std.specs.Prelude.{ℕ, ◌≡◌, List, ◌∷◌}
use Rattle.loom_command.specs.Filter.{Filter}
use Rattle.loom_command.specs.FilterFault.{FilterFault, IsRefusedText, IsFilter}
use Rattle.loom_command.specs.FilterForm.{ClauseForm}
use Rattle.loom_command.specs.FilterText.{IsForm}
use Rattle.loom_command.specs.Script.{ScriptCommand, IsScript, IsRefusedScript}

-- The same bytes are at most one script.
abbrev pub HasOneScript : Type 0
HasOneScript = (bytes : List ℕ) (cs ds : List ScriptCommand) → IsScript bytes cs → IsScript bytes ds → cs ≡ ds

-- They are refused at one line at most.
abbrev pub HasOneRefusedLine : Type 0
HasOneRefusedLine = (bytes : List ℕ) (n m : ℕ) → IsRefusedScript bytes n → IsRefusedScript bytes m → n ≡ m

-- What is refused is no script.
abbrev pub HasNoRefusedScript : Type 0
HasNoRefusedScript = (bytes : List ℕ) (cs : List ScriptCommand) (n : ℕ) → IsScript bytes cs → IsRefusedScript bytes n → ⊥

-- The same bytes are the text of at most one list of clauses as they are written, digits and the bytes of tests included.
abbrev pub HasOneForm : Type 0
HasOneForm = (bytes : List ℕ) (c d : ClauseForm) (cs ds : List ClauseForm) → IsForm bytes c cs → IsForm bytes d ds → c ∷ cs ≡ d ∷ ds

-- They are the text of at most one filter.
abbrev pub HasOneFilter : Type 0
HasOneFilter = (bytes : List ℕ) (f g : Filter) → IsFilter bytes f → IsFilter bytes g → f ≡ g

-- They are refused in at most one way.
abbrev pub HasOneFault : Type 0
HasOneFault = (bytes : List ℕ) (x y : FilterFault) → IsRefusedText bytes x → IsRefusedText bytes y → x ≡ y

-- What is refused is the text of no filter.
abbrev pub HasNoFaultyFilter : Type 0
HasNoFaultyFilter = (bytes : List ℕ) (f : Filter) (x : FilterFault) → IsFilter bytes f → IsRefusedText bytes x → ⊥
