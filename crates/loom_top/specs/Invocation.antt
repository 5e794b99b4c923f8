-- The invocation: what the words of a call ask for.
use Rattle.std.specs.Prelude.{ℕ, ◌≡◌, ◌≢◌, ◌≤◌, ◌⊎◌, List, [], ◌∷◌, ◌++◌, Option, Some, None, codes, length}
use Rattle.loom_tree.specs.Decimal.{decimal}
use Rattle.loom_trace.specs.Limits.{entry_limit}
use Rattle.loom_filter.specs.FilterError.{text_limit}

-- what is done with a program's file
pub data Task : Type 0 where
  -- it is run, with the commands of the script in the file of this name, if there is one, and threads make at most so many entries
  run : Option (List ℕ) → ℕ → Task
  -- its canonical text is written
  show : Task
  -- what the filter of this text is for it is written
  show_filter : List ℕ → Task

pub record Invocation : Type 0 where
  -- the name of the program's file
  pub name : List ℕ
  pub task : Task

-- the name of the script's file
abbrev pub script_in : Task → Option (List ℕ)
script_in (run script limit) = script
script_in show = None
script_in (show_filter text) = None

-- the limit where the words give none
abbrev pub default_limit : ℕ
default_limit = 100000

-- A file's name isn't empty and doesn't begin with `-`.
abbrev pub IsFileName : List ℕ → Type 0
IsFileName [] = ⊥
IsFileName (b ∷ bs) = b ≢ 45

abbrev pub IsScriptName : Option (List ℕ) → Type 0
IsScriptName None = Unit {0}
IsScriptName (Some name) = IsFileName name

-- no words, with the limit of such, or `--steps B`, with B in decimal

pub record IsWithoutLimit (words : List (List ℕ)) (limit : ℕ) : Type 0 where
  pub is : words ≡ []
  pub default : limit ≡ default_limit

pub record IsWithLimit (words : List (List ℕ)) (limit : ℕ) : Type 0 where
  pub is : words ≡ codes "--steps" ∷ decimal limit ∷ []
  pub least : 1 ≤ limit
  pub most : limit ≤ entry_limit

abbrev pub AreLimitWords : List (List ℕ) → ℕ → Type 0
AreLimitWords words limit = IsWithoutLimit words limit ⊎ IsWithLimit words limit

-- the word of a script, if there is one
abbrev pub script_words : Option (List ℕ) → List (List ℕ)
script_words None = []
script_words (Some name) = name ∷ []

-- nothing or SCRIPT, and then the words of the limit
pub record AreRunWords (words : List (List ℕ)) (script : Option (List ℕ)) (limit : ℕ) : Type 0 where
  pub behind : List (List ℕ)
  pub is : words ≡ script_words script ++ behind
  pub file : IsScriptName script
  pub steps : AreLimitWords behind limit

-- The word before PROG and those behind it. Those of a run are `run PROG`, and behind it maybe SCRIPT, and then maybe `--steps B`; those of showing
-- are `show PROG`, or `show PROG FILTER` with a text of at most 65,536 bytes.
abbrev pub AreTaskWords : List ℕ → List (List ℕ) → Task → Type 0
AreTaskWords first behind (run script limit) = (first ≡ codes "run") × AreRunWords behind script limit
AreTaskWords first behind show = (first ≡ codes "show") × (behind ≡ [])
AreTaskWords first behind (show_filter text) = (first ≡ codes "show") × ((behind ≡ text ∷ []) × (length text ≤ text_limit))

-- What the words give a task is in its bounds: the limit of a run, and the bytes of a filter's text.
abbrev pub HasBounds : Task → Type 0
HasBounds (run script limit) = (1 ≤ limit) × (limit ≤ entry_limit)
HasBounds show = Unit {0}
HasBounds (show_filter text) = length text ≤ text_limit

-- the words ask for this
pub record IsInvocation (words : List (List ℕ)) (c : Invocation) : Type 0 where
  pub first : List ℕ
  pub behind : List (List ℕ)
  pub are : words ≡ first ∷ c.name ∷ behind
  pub file : IsFileName c.name
  pub task : AreTaskWords first behind c.task
