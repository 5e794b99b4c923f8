-- How much there is at most of what entries tell.
use Rattle.std.specs.Prelude.{ℕ}
use Rattle.loom_trace.specs.declared.limits.TheConstants.{THREAD_LIMIT, ARGUMENT_LIMIT, EVENT_LIMIT, PLACE_LIMIT, ENTRY_LIMIT, CONTROL_LIMIT, LINE_LIMIT}

-- threads of a run
abbrev pub thread_limit : ℕ
thread_limit = THREAD_LIMIT

-- arguments of a thread's first function
abbrev pub argument_limit : ℕ
argument_limit = ARGUMENT_LIMIT

-- events that a filter watches
abbrev pub event_limit : ℕ
event_limit = EVENT_LIMIT

-- places of a program
abbrev pub place_limit : ℕ
place_limit = PLACE_LIMIT

-- entries of threads that a run may be allowed
abbrev pub entry_limit : ℕ
entry_limit = ENTRY_LIMIT

-- control entries of a run
abbrev pub control_limit : ℕ
control_limit = CONTROL_LIMIT

-- bytes of an entry's line, without what ends it
abbrev pub line_limit : ℕ
line_limit = LINE_LIMIT

-- bytes of the fields of an entry, each behind a space: before them stand 24 bytes at most, its thread, its line and its word
abbrev pub fields_limit : ℕ
fields_limit = 136
