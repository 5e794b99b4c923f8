-- What is written where a file is no program, and where one is no script.
use Rattle.std.specs.Prelude.{ℕ, List, ◌++◌, codes}
use Rattle.loom_tree.specs.Decimal.{decimal}
use Rattle.loom_lang.specs.declared.refusal.Reason.{Reason}
use Rattle.loom_lang.specs.declared.refusal.Reason.TheVariants as reason

-- a reason's number and its name; what there is too much of isn't told
abbrev pub reason_words : Reason → List ℕ
reason_words reason.Syntax = codes "1 Syntax"
reason_words reason.SecondOnLine = codes "2 SecondOnLine"
reason_words reason.UnknownName = codes "3 UnknownName"
reason_words reason.NameTwice = codes "4 NameTwice"
reason_words reason.WrongCount = codes "5 WrongCount"
reason_words reason.NoMain = codes "6 NoMain"
reason_words (reason.TooMany which) = codes "7 TooMany"

-- the line, with its LF
abbrev pub refusal_line : ℕ → Reason → List ℕ
refusal_line line why = codes "program: line " ++ (decimal line ++ (codes ": " ++ (reason_words why ++ codes "\n")))

-- that of a script
abbrev pub script_line : ℕ → List ℕ
script_line line = codes "script: line " ++ (decimal line ++ codes "\n")
