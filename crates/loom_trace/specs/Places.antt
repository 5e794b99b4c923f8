-- Sets of places, as rows of words: place 64 * i + j is bit j of word i.
use Rattle.std.specs.Prelude.{ℕ, ◌+◌, ◌/◌, ◌%◌, ◌==◌, Bool, List, slice_index_or}
use Rattle.std.specs.Int.{bit_at}
use Rattle.loom_trace.specs.Limits.{place_limit}

-- how many words have a bit for each place
abbrev pub word_count : ℕ
word_count = (place_limit + 63) / 64

-- the bit of a place is set in its word
abbrev pub has_bit : ℕ → ℕ → Bool
has_bit word place = bit_at word (place % 64) == 1

-- the place is in the set
abbrev pub has_place : List ℕ → ℕ → Bool
has_place words place = has_bit (slice_index_or words (place / 64) 0) place
