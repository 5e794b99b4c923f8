-- Commands, versions, and who holds which clause: what a journal says of them.
use Rattle.std.specs.Prelude.{ℕ, zero, suc, ◌==◌, Bool, true, false, not, ◌&&◌, List, [], ◌∷◌, ◌++◌, Option, Some, None, if◌then◌else◌, slice_get}
use Rattle.std.specs.List.{filter}
use Rattle.std.specs.Cmp.Lexicographic.{pointwise}
use Rattle.loom_trace.specs.declared.entry.Entry.{Entry}
use Rattle.loom_trace.specs.declared.entry.Entry.TheVariants as e
use Rattle.loom_event.specs.Entries.{thread_of, is_thread}
use Rattle.loom_command.specs.Script.{Trigger}
use Rattle.loom_law.specs.Filter.{Plan, has}
use Rattle.loom_law.specs.Walk.{Version, Plans}

-- Commands

-- what a filter's text is: refused with a number and a clause, or this filter
pub data Judgement : Type 0 where
  refused : ℕ → ℕ → Judgement
  means : Plan → Judgement

pub data Action : Type 0 where
  install : Judgement → Action
  remove : Action

pub record Command : Type 0 where
  pub trigger : Trigger
  pub name : List ℕ
  pub action : Action

-- the command of a number, from 1
abbrev pub command_at : List Command → ℕ → Option Command
command_at cs zero = None
command_at cs (suc n) = slice_get cs n

abbrev pub no_plan : Plan
no_plan = record { watches = []; rulings = [] }

abbrev pub plan_in : Option Command → Plan
plan_in None = no_plan
plan_in (Some c) = of_action c.action
  where
    of_action : Action → Plan
    of_action (install (means f)) = f
    of_action _ = no_plan

abbrev pub plans_of : List Command → Plans
plans_of cs k = plan_in (command_at cs k)

abbrev pub name_in : Option Command → List ℕ
name_in None = []
name_in (Some c) = c.name

abbrev pub have_one_name : List Command → ℕ → ℕ → Bool
have_one_name cs j k = pointwise ◌==◌ (name_in (command_at cs j)) (name_in (command_at cs k))

-- What holds at the end of a journal

pub record Holder : Type 0 where
  pub filter : ℕ
  pub clause : ℕ
  pub thread : ℕ

pub record Control : Type 0 where
  -- the newest version
  pub version : Version
  pub holders : List Holder
  -- the command that is asked and not answered, and the number of the next one
  pub asked : Option ℕ
  pub next : ℕ
  -- a command was cut or not reached
  pub closing : Bool

abbrev pub first_control : Control
first_control = record { version = record { number = 0; active = [] }; holders = []; asked = None; next = 1; closing = false }

abbrev pub without_holder : ℕ → ℕ → List Holder → List Holder
without_holder k c hs = filter (λ (h : Holder). not ((h.filter == k) && (h.clause == c))) hs

-- the filters that stay where the command of number k removes the one of its name
abbrev pub left_by : List Command → ℕ → List ℕ → List ℕ
left_by cs k ks = filter (λ (j : ℕ). not (have_one_name cs j k)) ks

abbrev pub after_entry : List Command → Control → Entry → Control
after_entry cs c (e.Enter t l k n) = record c { holders = record { filter = k; clause = n; thread = t } ∷ c.holders }
after_entry cs c (e.Leave t l k n) = record c { holders = without_holder k n c.holders }
after_entry cs c (e.Asked k) = record c { asked = Some k; next = suc k }
after_entry cs c (e.Refused k n m) = record c { asked = None }
after_entry cs c (e.Installed k v ps) = record c { version = record { number = v; active = c.version.active ++ k ∷ [] }; asked = None }
after_entry cs c (e.Removed k v ps) = record c {
  version = record { number = v; active = left_by cs k c.version.active };
  holders = filter (λ (h : Holder). has (left_by cs k c.version.active) h.filter) c.holders;
  asked = None;
}
after_entry cs c (e.Stalled k t l) = record c { asked = None }
after_entry cs c (e.Cut k) = record c { asked = None; closing = true }
after_entry cs c (e.Unreached k) = record c { next = suc k; closing = true }
after_entry cs c _ = c

abbrev pub control_after : List Command → Control → List Entry → Control
control_after cs c [] = c
control_after cs c (x ∷ xs) = control_after cs (after_entry cs c x) xs

abbrev pub control : List Command → List Entry → Control
control cs es = control_after cs first_control es

-- What the journal says of one thread

-- with this entry the thread goes over to the newest version
abbrev pub takes_version : ℕ → Entry → Bool
takes_version t (e.Begin u l) = u == t
takes_version t (e.Cross u l x v n) = u == t
takes_version t _ = false

abbrev pub versions_from : List Command → ℕ → Control → List Entry → List Version
versions_from cs t c [] = []
versions_from cs t c (x ∷ xs) = if takes_version t x then c.version ∷ versions_from cs t (after_entry cs c x) xs else versions_from cs t (after_entry cs c x) xs

-- each version that it went over to, the first one first
abbrev pub versions_of : List Command → ℕ → List Entry → List Version
versions_of cs t es = versions_from cs t first_control es

abbrev pub entries_of : ℕ → List Entry → List Entry
entries_of t es = filter (λ x. is_thread t (thread_of x)) es

-- the place that a row lists for a thread, counted from 1
abbrev pub row_at : List ℕ → ℕ → List ℕ
row_at [] t = []
row_at (x ∷ xs) zero = []
row_at (x ∷ xs) (suc zero) = x ∷ []
row_at (x ∷ xs) (suc (suc t)) = row_at xs (suc t)

-- the places that `Installed` and `Removed` list for it, those behind its last entry
abbrev pub listed_places_after : ℕ → List ℕ → Entry → List ℕ
listed_places_after t so_far (e.Installed k v ps) = so_far ++ row_at ps t
listed_places_after t so_far (e.Removed k v ps) = so_far ++ row_at ps t
listed_places_after t so_far x = if is_thread t (thread_of x) then [] else so_far

abbrev pub listed_places_from : ℕ → List ℕ → List Entry → List ℕ
listed_places_from t so_far [] = so_far
listed_places_from t so_far (x ∷ xs) = listed_places_from t (listed_places_after t so_far x) xs

abbrev pub listed_places : ℕ → List Entry → List ℕ
listed_places t es = listed_places_from t [] es

-- what stands behind the last `Asked`
abbrev pub since_asked_from : List Entry → List Entry → List Entry
since_asked_from so_far [] = so_far
since_asked_from so_far (e.Asked k ∷ xs) = since_asked_from [] xs
since_asked_from so_far (x ∷ xs) = since_asked_from (so_far ++ x ∷ []) xs

abbrev pub since_asked : List Entry → List Entry
since_asked es = since_asked_from [] es

-- how often an event of a filter was posted, and how often it was complete

abbrev pub is_post : ℕ → ℕ → Entry → Bool
is_post k n (e.Post t l j m) = (j == k) && (m == n)
is_post k n _ = false

abbrev pub is_past : ℕ → ℕ → Entry → Bool
is_past k n (e.Past t l j ms) = (j == k) && has ms n
is_past k n _ = false
