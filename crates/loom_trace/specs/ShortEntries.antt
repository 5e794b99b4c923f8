-- Entries in 24 bytes: one that doesn't fit stands in a list beside them.
use Rattle.std.specs.Prelude.{ℕ, ◌≡◌, ◌+◌, ◌<◌, ◌≤◌, List, [], ◌∷◌, get_or, length, take}
use Rattle.loom_trace.specs.declared.entry.Entry.{Entry}
use Rattle.loom_trace.specs.declared.entry.Entry.TheVariants as e
use Rattle.loom_trace.specs.declared.short_entry.ShortEntry.{ShortEntry}
use Rattle.loom_trace.specs.declared.short_entry.ShortEntry.TheVariants as short
use Rattle.loom_trace.specs.declared.short_entry.TheConstants.{FEW_EVENTS}
use Rattle.loom_trace.specs.Limits.{entry_limit, control_limit}

-- the entry for which a short one stands, with those beside
abbrev pub full_entry : List Entry → ShortEntry → Entry
full_entry longs (short.Begin t l) = e.Begin t l
full_entry longs (short.End t l) = e.End t l
full_entry longs (short.Trap t l reason) = e.Trap t l reason
full_entry longs (short.Read t l word value) = e.Read t l word value
full_entry longs (short.Write t l word value) = e.Write t l word value
full_entry longs (short.Lock t l m) = e.Lock t l m
full_entry longs (short.Unlock t l m) = e.Unlock t l m
full_entry longs (short.Down t l s) = e.Down t l s
full_entry longs (short.Up t l s) = e.Up t l s
full_entry longs (short.Join t l child) = e.Join t l child
full_entry longs (short.Print t l value) = e.Print t l value
full_entry longs (short.Tick t l place) = e.Tick t l place
full_entry longs (short.Blocked t l what) = e.Blocked t l what
full_entry longs (short.At t k count l cells) = e.At t l k (take count cells)
full_entry longs (short.Past t k count l cells) = e.Past t l k (take count cells)
full_entry longs (short.Back t l) = e.Back t l
full_entry longs (short.Enter t l k clause) = e.Enter t l k clause
full_entry longs (short.Leave t l k clause) = e.Leave t l k clause
full_entry longs (short.Post t l k event) = e.Post t l k event
full_entry longs (short.Wait t l k event) = e.Wait t l k event
full_entry longs (short.Cross t l place version passed) = e.Cross t l place version passed
full_entry longs (short.Asked k) = e.Asked k
full_entry longs (short.Refused k number clause) = e.Refused k number clause
full_entry longs (short.Installed k version places) = e.Installed k version places
full_entry longs (short.Removed k version places) = e.Removed k version places
full_entry longs (short.Stalled k t l) = e.Stalled k t l
full_entry longs (short.Cut k) = e.Cut k
full_entry longs (short.Unreached k) = e.Unreached k
full_entry longs (short.Finish kind) = e.Finish kind
full_entry longs (short.Long i) = get_or longs i (e.Asked 0)

-- the cells of its events are within its own, and what it names stands among so many beside
abbrev pub HasFullEntry : ℕ → ShortEntry → Type 0
HasFullEntry n (short.At t k count l cells) = count ≤ FEW_EVENTS
HasFullEntry n (short.Past t k count l cells) = count ≤ FEW_EVENTS
HasFullEntry n (short.Long i) = i < n
HasFullEntry n _ = Unit {0}

abbrev pub HaveFullEntries : ℕ → List ShortEntry → Type 0
HaveFullEntries n [] = Unit {0}
HaveFullEntries n (s ∷ ss) = HasFullEntry n s × HaveFullEntries n ss

-- it stands for this entry, whatever stands beside
abbrev pub StandsFor : ShortEntry → Entry → Type 0
StandsFor s x = (longs : List Entry) → full_entry longs s ≡ x

-- it names nothing beside
abbrev pub StandsAlone : ShortEntry → Type 0
StandsAlone s = (n : ℕ) → HasFullEntry n s

-- Short entries and those beside them: what is named is there, and there is room beside for each entry that may still come.
pub record HaveRoom (shorts : List ShortEntry) (longs : List Entry) (room long_room : ℕ) : Type 0 where
  pub within : HaveFullEntries (length longs) shorts
  pub enough : room ≤ long_room
  pub few : length shorts + room ≤ entry_limit + control_limit
  pub few_long : length longs + long_room ≤ entry_limit + control_limit
