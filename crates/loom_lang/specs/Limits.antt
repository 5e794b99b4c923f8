-- How much a program may have of what it declares.
use Rattle.std.specs.Prelude.{ℕ}
use Rattle.loom_lang.specs.declared.limits.TheConstants.{FUNCTION_LIMIT, PARAM_LIMIT, LOCAL_LIMIT, NAME_LIMIT, CELL_LIMIT, STATEMENT_LIMIT, FILE_LIMIT}

-- bytes of its text
abbrev pub file_limit : ℕ
file_limit = FILE_LIMIT

-- functions
abbrev pub function_limit : ℕ
function_limit = FUNCTION_LIMIT

-- parameters of a function
abbrev pub param_limit : ℕ
param_limit = PARAM_LIMIT

-- locals of a function, its parameters among them
abbrev pub local_limit : ℕ
local_limit = LOCAL_LIMIT

-- words, arrays, mutexes and semaphores
abbrev pub name_limit : ℕ
name_limit = NAME_LIMIT

-- cells, a plain word counting one
abbrev pub cell_limit : ℕ
cell_limit = CELL_LIMIT

-- statements
abbrev pub statement_limit : ℕ
statement_limit = STATEMENT_LIMIT
