-- What clauses say of a gate, its passes and its key.
use Rattle.std.specs.Prelude.{◌≡◌, ℕ, ◌+◌, ◌*◌, ◌/◌, ◌<◌, ◌≤◌, Bool, List, [], ◌∷◌, length, slice_index, slice_index_or, flat_map, map, Some}
use Rattle.std.specs.Vec.{vec_capacity}
use Rattle.atomic_table.specs.Seated.{TableId}
use Rattle.loom_trace.specs.Places.{has_bit}
use Rattle.loom_gate.specs.declared.log.PassRow.{PassRow}
use Rattle.loom_gate.specs.declared.log.SwitchRow.{SwitchRow}
use Rattle.loom_gate.specs.declared.gate.Gate as gate
use Rattle.loom_gate.specs.declared.pass.Pass as pass
use Rattle.loom_gate.specs.declared.key.Key as key
use Rattle.loom_gate.specs.declared.view.Stage.TheVariants.{Stands, Inside}
use Rattle.loom_gate.specs.declared.view.PassView.{PassView}
use Rattle.loom_gate.specs.declared.view.Look.{Look}
use Rattle.loom_gate.specs.declared.view.Look.TheVariants.{Unknown, SawInside, SawPlace}
use Rattle.loom_gate.specs.declared.view.KeyView.{KeyView}
use Rattle.loom_gate.specs.declared.view.View.TheVariants.{Pass, Key}
use Rattle.loom_gate.specs.View.{pass_of, key_of, flag_words, switch_limit, row_limit}
use Rattle.loom_gate.specs.GateMachine.{IsThread}

-- how many threads and places a gate has
abbrev pub threads_of : gate.Gate → ℕ
threads_of g = g.table.shared.key.threads

abbrev pub places_of : gate.Gate → ℕ
places_of g = g.table.shared.key.places

-- the index in the table of the word of flags that has the place's bit
abbrev pub flag_index : gate.Gate → ℕ → ℕ
flag_index g place = (threads_of g + 1) + place / 64

-- what a pass knows, and what a key knows
abbrev pub view_of_pass : pass.Pass → PassView
view_of_pass p = pass_of p.seat.me.0

abbrev pub view_of_key : key.Key → KeyView
view_of_key k = key_of k.seat.me.0

-- the thread of a pass, the place where it stands or entered from, and its rows so far
abbrev pub thread_of_pass : pass.Pass → ℕ
thread_of_pass p = p.thread

abbrev pub place_of_pass : pass.Pass → ℕ
place_of_pass p = p.place

abbrev pub rows_of_pass : pass.Pass → List PassRow
rows_of_pass p = p.rows.items

-- the newest version, how many switches are left, whether flags were raised and not lowered, and the rows of switches so far
abbrev pub version_of : key.Key → ℕ
version_of k = k.version

abbrev pub switches_left : key.Key → ℕ
switches_left k = k.left

abbrev pub has_flags_up : key.Key → Bool
has_flags_up k = k.up

abbrev pub rows_of_key : key.Key → List SwitchRow
rows_of_key k = k.rows.items

-- a pass of the table, of a gate of n threads and so many places
abbrev pub IsPassAt : TableId → ℕ → ℕ → pass.Pass → Type 0
IsPassAt id n places p = (p.seat.table_id ≡ id) × IsThread n p.thread × (p.seat.me ≡ (Pass p.thread (view_of_pass p), [])) × (p.place < places)
    × (p.fresh ≡ (view_of_pass p).fresh) × (p.rows.items ≡ (view_of_pass p).rows) × (row_limit ≤ vec_capacity p.rows) × (length p.rows.items ≤ row_limit)

-- the passes of threads t on, in their order
abbrev pub ArePassesFrom : TableId → ℕ → ℕ → ℕ → List pass.Pass → Type 0
ArePassesFrom id n places t [] = Unit {0}
ArePassesFrom id n places t (p ∷ ps) = (p.thread ≡ t) × IsPassAt id n places p × ArePassesFrom id n places (t + 1) ps

-- a pass of this gate
abbrev pub IsPassOf : gate.Gate → pass.Pass → Type 0
IsPassOf g p = IsPassAt g.table.shared.table_id (threads_of g) (places_of g) p

abbrev pub IsStanding : pass.Pass → Type 0
IsStanding p = (view_of_pass p).stage ≡ Stands p.place

-- with this version
abbrev pub IsInsideAt : ℕ → pass.Pass → Type 0
IsInsideAt v p = (view_of_pass p).stage ≡ Inside v

abbrev pub IsInside : pass.Pass → Type 0
IsInside p = (v : ℕ) × IsInsideAt v p

-- all passes of this gate, in their order
abbrev pub ArePassesOf : gate.Gate → List pass.Pass → Type 0
ArePassesOf g ps = (length ps ≡ threads_of g) × ArePassesFrom g.table.shared.table_id (threads_of g) (places_of g) 1 ps

-- the place noted of a thread is what the look found
abbrev pub SeenAs : Look → ℕ → Type 0
SeenAs Unknown place = Unit {0}
SeenAs SawInside place = Unit {0}
SeenAs (SawPlace p) place = p ≡ place

-- the key of this gate
abbrev pub IsKeyOf : gate.Gate → key.Key → Type 0
IsKeyOf g k = (k.seat.table_id ≡ g.table.shared.table_id) × (k.seat.me ≡ (Key (view_of_key k), [])) × ((view_of_key k).threads ≡ threads_of g) × (length (view_of_key k).up ≡ flag_words (places_of g))
    × ((view_of_key k).version ≡ k.version) × (k.version + k.left ≤ switch_limit) × (k.rows.items ≡ (view_of_key k).switches) × (length k.rows.items + k.left * threads_of g ≤ vec_capacity k.rows)
    × (length k.places.items ≡ threads_of g + 1) × ((t : ℕ) → SeenAs (slice_index_or (view_of_key k).looks t Unknown) (slice_index k.places.items t))
    × (length (view_of_key k).looks ≡ threads_of g + 1) × ((view_of_key k).finals ≡ []) × ((view_of_key k).places ≡ places_of g)

-- the rows of these passes, one behind another
abbrev pub rows_of : List pass.Pass → List PassRow
rows_of ps = flat_map (λ (p : pass.Pass). p.rows.items) ps

abbrev pub ends_of : List pass.Pass → List ℕ
ends_of ps = map (λ (p : pass.Pass). p.place) ps

-- the latest check of the pass was of this word of the table, and the answer is the place's bit in what it found
abbrev pub FoundBit : ℕ → ℕ → Bool → pass.Pass → Type 0
FoundBit i place answer p = (word : ℕ) × ((view_of_pass p).latest ≡ Some (i, word)) × (answer ≡ has_bit word place)
