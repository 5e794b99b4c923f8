-- What passes and the key know, and how each kind of step changes it.
use Rattle.std.specs.Prelude.{ℕ, zero, suc, ◌+◌, ◌-◌, ◌/◌, ◌==◌, if◌then◌else◌, List, [], ◌∷◌, ◌++◌, length, slice_index_or, slice_set, replicate, Some, None}
use Rattle.loom_trace.specs.Places.{has_bit}
use Rattle.loom_gate.specs.declared.log.PassRow.{PassRow}
use Rattle.loom_gate.specs.declared.log.SwitchRow.{SwitchRow}
use Rattle.loom_gate.specs.declared.view.Stage.{Stage}
use Rattle.loom_gate.specs.declared.view.Stage.TheVariants.{Stands, Tries, Clear, Inside}
use Rattle.loom_gate.specs.declared.view.PassView.{PassView}
use Rattle.loom_gate.specs.declared.view.Look.{Look}
use Rattle.loom_gate.specs.declared.view.Look.TheVariants.{Unknown, SawInside, SawPlace}
use Rattle.loom_gate.specs.declared.view.KeyView.{KeyView}
use Rattle.loom_gate.specs.declared.view.View.{View}
use Rattle.loom_gate.specs.declared.view.View.TheVariants.{Pass, Key, Nobody}

-- how many switches a gate is made for at most
abbrev pub switch_limit : ℕ
switch_limit = 128

-- how many rows a pass may come to have: one for each version
abbrev pub row_limit : ℕ
row_limit = switch_limit + 1

-- the mark of a pass that is inside: above every place
abbrev pub mark : ℕ
mark = 65536

-- the word of a pass
abbrev pub stand_word : Stage → ℕ
stand_word (Stands p) = p
stand_word (Tries p) = mark
stand_word (Clear p) = mark
stand_word (Inside v) = mark

-- what a look at that word finds
abbrev pub look_of : ℕ → Look
look_of word = if word == mark then SawInside else SawPlace word

-- the place where a pass stands, or from which it tries
abbrev pub place_of : Stage → ℕ
place_of (Stands p) = p
place_of (Tries p) = p
place_of (Clear p) = p
place_of (Inside v) = 0

abbrev pub place_seen : Look → ℕ
place_seen Unknown = 0
place_seen SawInside = 0
place_seen (SawPlace p) = p

-- how many words have a bit for each of so many places
abbrev pub flag_words : ℕ → ℕ
flag_words places = (places + 63) / 64

-- a pass, and the key of a gate of n threads and so many places, as they are made
abbrev pub start : PassView
start = record { stage = Stands 0; tries = 0; checks = 0; latest = None; fresh = 0; rows = [] }

abbrev pub first_key : ℕ → ℕ → KeyView
first_key n places = record { up = replicate (flag_words places) 0; looks = replicate (n + 1) Unknown; count = 0; version = 0; ever = []; threads = n; places = places; born = 0; switches = []; finals = [] }

-- the key after it made a pass
abbrev pub more : KeyView → KeyView
more k = record k { born = k.born + 1 }

-- the key after a pass was joined
abbrev pub joined : KeyView → PassView → KeyView
joined k p = record k { finals = k.finals ++ p ∷ [] }

-- a pass stores the inside mark
abbrev pub tried : PassView → PassView
tried p = record p { stage = Tries (place_of p.stage); tries = p.tries + 1 }

-- a pass finds the word of flags of its place
abbrev pub checked : ℕ → ℕ → PassView → PassView
checked i word p = record p { stage = (if has_bit word (place_of p.stage) then Tries (place_of p.stage) else Clear (place_of p.stage)); checks = p.checks + 1; latest = Some (i, word) }

-- a pass that is inside finds a word of flags
abbrev pub polled : ℕ → ℕ → PassView → PassView
polled i word p = record p { checks = p.checks + 1; latest = Some (i, word) }

-- the rows, with one more where the version is new
abbrev pub with_row : ℕ → ℕ → ℕ → ℕ → List PassRow → List PassRow
with_row fresh t v place rows = if fresh == v + 1 then rows else rows ++ record { thread = t; version = v; place = place } ∷ []

-- the pass of thread t reads the version
abbrev pub entered : ℕ → ℕ → PassView → PassView
entered t v p = record p { stage = Inside v; fresh = v + 1; rows = with_row p.fresh t v (place_of p.stage) p.rows }

-- a pass stores a place
abbrev pub left : ℕ → PassView → PassView
left place p = record p { stage = Stands place }

-- the key stores a word of flags, and forgets the looks
abbrev pub flagged : ℕ → ℕ → KeyView → KeyView
flagged i word k = record k { up = slice_set k.up (i - (k.threads + 1)) word; looks = replicate (length k.looks) Unknown; ever = (i - (k.threads + 1), word) ∷ k.ever }

-- the key finds the word of a thread
abbrev pub looked : ℕ → ℕ → KeyView → KeyView
looked i word k = record k { looks = slice_set k.looks i (look_of word); count = k.count + 1 }

-- the rows of a switch to version v, of threads 1 to t
abbrev pub switch_rows : ℕ → List Look → ℕ → List SwitchRow
switch_rows v looks zero = []
switch_rows v looks (suc t) = switch_rows v looks t ++ record { version = v; thread = suc t; place = place_seen (slice_index_or looks (suc t) Unknown) } ∷ []

-- the key stores the next version
abbrev pub switched : KeyView → KeyView
switched k = record k { version = k.version + 1; switches = k.switches ++ switch_rows (k.version + 1) k.looks k.threads }

-- the parts of a view, where it is of that kind
abbrev pub thread_of : View → ℕ
thread_of (Pass t p) = t
thread_of (Key k) = 0
thread_of Nobody = 0

abbrev pub pass_of : View → PassView
pass_of (Pass t p) = p
pass_of (Key k) = start
pass_of Nobody = start

abbrev pub key_of : View → KeyView
key_of (Pass t p) = first_key 0 0
key_of (Key k) = k
key_of Nobody = first_key 0 0

abbrev pub stage_of : View → Stage
stage_of v = (pass_of v).stage
