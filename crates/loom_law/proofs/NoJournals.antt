-- Journals that are not lawful: each is a lawful one with one thing turned.
use Rattle.std.proofs.Common.{ℕ, ◌≤◌, ◌<◌, ◌≡◌, ◌⊎◌, inl, inr, sym, true, false, pos, List, [], ◌∷◌, ◌++◌, map, Some, None, refl, ap, subst, ◌∙◌, codes, arith}
use Rattle.loom_trace.specs.declared.entry.Entry.{Entry}
use Rattle.loom_trace.specs.declared.entry.Entry.TheVariants as e
use Rattle.loom_trace.specs.declared.entry.What.TheVariants as w
use Rattle.loom_trace.specs.declared.entry.Ending.{Ending}
use Rattle.loom_trace.specs.declared.entry.Ending.TheVariants as k
use Rattle.loom_lang.specs.Places.{Place, nowhere}
use Rattle.loom_lang.specs.Trace.{begin, spawn, print}
use Rattle.loom_command.specs.Script as script
use Rattle.loom_event.specs.TargetEvent.{TargetEvent}
use Rattle.loom_event.proofs.Runs.{event_of, events_told}
use Rattle.loom_event.proofs.Examples.{event, adds, changed_is_no_run}
use Rattle.loom_law.specs.Filter.{plan_of}
use Rattle.loom_law.specs.Walk.{place_number}
use Rattle.loom_law.specs.Control.{Command, means, install, remove}
use Rattle.loom_law.specs.Lawful.{Setting, Front, IsBlocked, IsHeldOff, IsTriggered, StandsAt, Ends, EndsSo, front_at, IsLawful}
use Rattle.loom_law.proofs.Lawful.{always_balanced}
use Rattle.loom_law.proofs.Examples.{setting, fix}
use Rattle.loom_law.proofs.InsideJournals.{alone_setting, back_setting, caught_setting}
use Rattle.loom_law.proofs.PlainJournals.{lost_setting, stop_setting, limit_setting}
use Rattle.loom_law.proofs.EarlyJournals.{order_setting, nested_setting, unreached_setting, cut_setting, on_stall_setting, before_stall, on_stall_events, stall_due}
use Rattle.loom_law.proofs.RemovalJournal.{removal_program, removal_front, removal_setting}
use Rattle.loom_law.proofs.EvacuationJournal.{evacuation_setting}

same_first : (a b : ℕ × ℕ) → Some a ≡ Some b → a.0 ≡ b.0
same_first a b h = let both : a ≡ b = cc in ap (λ (x : ℕ × ℕ). x.0) both

other_number : ◌≡◌ {A = ℕ} 7 8 → ⊥
other_number h = cc

no_refusal : (a : ℕ × ℕ) → Some a ≡ None → ⊥
no_refusal a h = cc

-- Commands, in their order and where they are due

-- a thread begins where a command is due
abbrev pub entry_when_due : List Entry
entry_when_due =
    e.Begin 1 5 ∷ e.Spawn 1 6 2 0 [] ∷ e.Begin 2 2 ∷ e.Print 1 7 (pos 1) ∷ e.Blocked 2 3 (w.Wait 1 2) ∷ e.At 1 8 1 (1 ∷ []) ∷ e.Write 1 8 0 (pos 5)
    ∷ e.Past 1 8 1 (1 ∷ []) ∷ e.Post 1 8 1 1 ∷ e.Wait 2 3 1 2 ∷ e.Blocked 1 9 (w.Join 2) ∷ e.At 2 3 1 (2 ∷ []) ∷ e.Read 2 3 0 (pos 5)
    ∷ e.Print 2 3 (pos 2) ∷ e.Past 2 3 1 (2 ∷ []) ∷ e.End 2 2 ∷ e.Join 1 9 2 ∷ e.End 1 5 ∷ e.Finish k.Done ∷ []

pub entry_when_due_unlawful : IsLawful order_setting entry_when_due → ⊥
entry_when_due_unlawful h =
    let bad = h.follows [] (e.Begin 1 5) (e.Spawn 1 6 2 0 [] ∷ e.Begin 2 2 ∷ e.Print 1 7 (pos 1) ∷ e.Blocked 2 3 (w.Wait 1 2) ∷ e.At 1 8 1 (1 ∷ []) ∷ e.Write 1 8 0 (pos 5) ∷ e.Past 1 8 1 (1 ∷ []) ∷ e.Post 1 8 1 1 ∷ e.Wait 2 3 1 2 ∷ e.Blocked 1 9 (w.Join 2) ∷ e.At 2 3 1 (2 ∷ []) ∷ e.Read 2 3 0 (pos 5) ∷ e.Print 2 3 (pos 2) ∷ e.Past 2 3 1 (2 ∷ []) ∷ e.End 2 2 ∷ e.Join 1 9 2 ∷ e.End 1 5 ∷ e.Finish k.Done ∷ []) refl in
    bad.0.goes_on.not_due (record { command = _; is = refl; answered = refl; not_closing = refl; runs = refl; triggered = omega arith })

-- the second command is asked where the first is due
abbrev pub second_asked : List Entry
second_asked =
    e.Asked 2 ∷ e.Installed 1 1 (0 ∷ 0 ∷ 0 ∷ 0 ∷ 0 ∷ 0 ∷ 0 ∷ 0 ∷ []) ∷ e.Begin 1 5 ∷ e.Spawn 1 6 2 0 [] ∷ e.Begin 2 2 ∷ e.Print 1 7 (pos 1)
    ∷ e.Blocked 2 3 (w.Wait 1 2) ∷ e.At 1 8 1 (1 ∷ []) ∷ e.Write 1 8 0 (pos 5) ∷ e.Past 1 8 1 (1 ∷ []) ∷ e.Post 1 8 1 1 ∷ e.Wait 2 3 1 2
    ∷ e.Blocked 1 9 (w.Join 2) ∷ e.At 2 3 1 (2 ∷ []) ∷ e.Read 2 3 0 (pos 5) ∷ e.Print 2 3 (pos 2) ∷ e.Past 2 3 1 (2 ∷ []) ∷ e.End 2 2 ∷ e.Join 1 9 2
    ∷ e.End 1 5 ∷ e.Finish k.Done ∷ []

pub second_asked_unlawful : IsLawful order_setting second_asked → ⊥
second_asked_unlawful h =
    let bad = h.follows [] (e.Asked 2) (e.Installed 1 1 (0 ∷ 0 ∷ 0 ∷ 0 ∷ 0 ∷ 0 ∷ 0 ∷ 0 ∷ []) ∷ e.Begin 1 5 ∷ e.Spawn 1 6 2 0 [] ∷ e.Begin 2 2 ∷ e.Print 1 7 (pos 1) ∷ e.Blocked 2 3 (w.Wait 1 2) ∷ e.At 1 8 1 (1 ∷ []) ∷ e.Write 1 8 0 (pos 5) ∷ e.Past 1 8 1 (1 ∷ []) ∷ e.Post 1 8 1 1 ∷ e.Wait 2 3 1 2 ∷ e.Blocked 1 9 (w.Join 2) ∷ e.At 2 3 1 (2 ∷ []) ∷ e.Read 2 3 0 (pos 5) ∷ e.Print 2 3 (pos 2) ∷ e.Past 2 3 1 (2 ∷ []) ∷ e.End 2 2 ∷ e.Join 1 9 2 ∷ e.End 1 5 ∷ e.Finish k.Done ∷ []) refl in
    let no : 2 ≡ 1 = bad.1 in cc

-- a filter is installed that wasn't asked for
abbrev pub unasked : List Entry
unasked =
    e.Installed 1 1 (0 ∷ 0 ∷ 0 ∷ 0 ∷ 0 ∷ 0 ∷ 0 ∷ 0 ∷ []) ∷ e.Begin 1 5 ∷ e.Spawn 1 6 2 0 [] ∷ e.Begin 2 2 ∷ e.Print 1 7 (pos 1)
    ∷ e.Blocked 2 3 (w.Wait 1 2) ∷ e.At 1 8 1 (1 ∷ []) ∷ e.Write 1 8 0 (pos 5) ∷ e.Past 1 8 1 (1 ∷ []) ∷ e.Post 1 8 1 1 ∷ e.Wait 2 3 1 2
    ∷ e.Blocked 1 9 (w.Join 2) ∷ e.At 2 3 1 (2 ∷ []) ∷ e.Read 2 3 0 (pos 5) ∷ e.Print 2 3 (pos 2) ∷ e.Past 2 3 1 (2 ∷ []) ∷ e.End 2 2 ∷ e.Join 1 9 2
    ∷ e.End 1 5 ∷ e.Finish k.Done ∷ []

pub unasked_unlawful : IsLawful order_setting unasked → ⊥
unasked_unlawful h =
    let bad = h.follows [] (e.Installed 1 1 (0 ∷ 0 ∷ 0 ∷ 0 ∷ 0 ∷ 0 ∷ 0 ∷ 0 ∷ [])) (e.Begin 1 5 ∷ e.Spawn 1 6 2 0 [] ∷ e.Begin 2 2 ∷ e.Print 1 7 (pos 1) ∷ e.Blocked 2 3 (w.Wait 1 2) ∷ e.At 1 8 1 (1 ∷ []) ∷ e.Write 1 8 0 (pos 5) ∷ e.Past 1 8 1 (1 ∷ []) ∷ e.Post 1 8 1 1 ∷ e.Wait 2 3 1 2 ∷ e.Blocked 1 9 (w.Join 2) ∷ e.At 2 3 1 (2 ∷ []) ∷ e.Read 2 3 0 (pos 5) ∷ e.Print 2 3 (pos 2) ∷ e.Past 2 3 1 (2 ∷ []) ∷ e.End 2 2 ∷ e.Join 1 9 2 ∷ e.End 1 5 ∷ e.Finish k.Done ∷ []) refl in
    let no : None ≡ Some 1 = bad.1.asked in cc

-- the version is the second
abbrev pub installed_early : List Entry
installed_early =
    e.Asked 1 ∷ e.Installed 1 2 (0 ∷ 0 ∷ 0 ∷ 0 ∷ 0 ∷ 0 ∷ 0 ∷ 0 ∷ []) ∷ e.Begin 1 5 ∷ e.Spawn 1 6 2 0 [] ∷ e.Begin 2 2 ∷ e.Print 1 7 (pos 1)
    ∷ e.Blocked 2 3 (w.Wait 1 2) ∷ e.At 1 8 1 (1 ∷ []) ∷ e.Write 1 8 0 (pos 5) ∷ e.Past 1 8 1 (1 ∷ []) ∷ e.Post 1 8 1 1 ∷ e.Wait 2 3 1 2
    ∷ e.Blocked 1 9 (w.Join 2) ∷ e.At 2 3 1 (2 ∷ []) ∷ e.Read 2 3 0 (pos 5) ∷ e.Print 2 3 (pos 2) ∷ e.Past 2 3 1 (2 ∷ []) ∷ e.End 2 2 ∷ e.Join 1 9 2
    ∷ e.End 1 5 ∷ e.Finish k.Done ∷ []

pub installed_early_unlawful : IsLawful order_setting installed_early → ⊥
installed_early_unlawful h =
    let bad = h.follows (e.Asked 1 ∷ []) (e.Installed 1 2 (0 ∷ 0 ∷ 0 ∷ 0 ∷ 0 ∷ 0 ∷ 0 ∷ 0 ∷ [])) (e.Begin 1 5 ∷ e.Spawn 1 6 2 0 [] ∷ e.Begin 2 2 ∷ e.Print 1 7 (pos 1) ∷ e.Blocked 2 3 (w.Wait 1 2) ∷ e.At 1 8 1 (1 ∷ []) ∷ e.Write 1 8 0 (pos 5) ∷ e.Past 1 8 1 (1 ∷ []) ∷ e.Post 1 8 1 1 ∷ e.Wait 2 3 1 2 ∷ e.Blocked 1 9 (w.Join 2) ∷ e.At 2 3 1 (2 ∷ []) ∷ e.Read 2 3 0 (pos 5) ∷ e.Print 2 3 (pos 2) ∷ e.Past 2 3 1 (2 ∷ []) ∷ e.End 2 2 ∷ e.Join 1 9 2 ∷ e.End 1 5 ∷ e.Finish k.Done ∷ []) refl in
    let no : 2 ≡ 1 = bad.1.version in cc

-- a filter is refused with another number
abbrev pub wrong_refusal : List Entry
wrong_refusal =
    e.Asked 1 ∷ e.Refused 1 8 1 ∷ e.Begin 1 6 ∷ e.Print 1 8 (pos 0) ∷ e.End 1 6 ∷ e.Finish k.Done ∷ []

pub wrong_refusal_unlawful : IsLawful nested_setting wrong_refusal → ⊥
wrong_refusal_unlawful h =
    let bad = h.follows (e.Asked 1 ∷ []) (e.Refused 1 8 1) (e.Begin 1 6 ∷ e.Print 1 8 (pos 0) ∷ e.End 1 6 ∷ e.Finish k.Done ∷ []) refl in
    other_number (same_first (7, 1) (8, 1) bad.1)

-- a thread begins before a filter is refused
abbrev pub unrefused : List Entry
unrefused =
    e.Asked 1 ∷ e.Begin 1 6 ∷ e.Refused 1 7 1 ∷ e.Print 1 8 (pos 0) ∷ e.End 1 6 ∷ e.Finish k.Done ∷ []

pub unrefused_unlawful : IsLawful nested_setting unrefused → ⊥
unrefused_unlawful h =
    let bad = h.follows (e.Asked 1 ∷ []) (e.Begin 1 6) (e.Refused 1 7 1 ∷ e.Print 1 8 (pos 0) ∷ e.End 1 6 ∷ e.Finish k.Done ∷ []) refl in
    no_refusal (7, 1) (bad.0.goes_on.not_refused 1 refl)

-- a filter that was refused acts
abbrev pub refused_acts : List Entry
refused_acts =
    e.Asked 1 ∷ e.Refused 1 7 1 ∷ e.Begin 1 6 ∷ e.Enter 1 1 1 1 ∷ e.At 1 1 1 (1 ∷ []) ∷ e.Leave 1 1 1 1 ∷ e.Print 1 8 (pos 0) ∷ e.End 1 6
    ∷ e.Finish k.Done ∷ []

pub refused_acts_unlawful : IsLawful nested_setting refused_acts → ⊥
refused_acts_unlawful h =
    let bad = always_balanced nested_setting refused_acts h (e.Asked 1 ∷ e.Refused 1 7 1 ∷ e.Begin 1 6 ∷ []) (e.Enter 1 1 1 1) (e.At 1 1 1 (1 ∷ []) ∷ e.Leave 1 1 1 1 ∷ e.Print 1 8 (pos 0) ∷ e.End 1 6 ∷ e.Finish k.Done ∷ []) refl in
    let no : false ≡ true = bad in cc

-- with one more command
abbrev pub two_setting : Setting
two_setting = record unreached_setting {
  commands = record { trigger = script.at 9; name = codes "a"; action = remove } ∷ record { trigger = script.at 9; name = codes "b"; action = remove } ∷ [];
}

-- commands that aren't reached are told in another order
abbrev pub unreached_order : List Entry
unreached_order =
    e.Begin 1 5 ∷ e.Read 1 3 0 (pos 0) ∷ e.Unreached 2 ∷ e.Unreached 1 ∷ e.Finish k.Limit ∷ []

pub unreached_order_unlawful : IsLawful two_setting unreached_order → ⊥
unreached_order_unlawful h =
    let bad = h.follows (e.Begin 1 5 ∷ e.Read 1 3 0 (pos 0) ∷ []) (e.Unreached 2) (e.Unreached 1 ∷ e.Finish k.Limit ∷ []) refl in
    let no : 2 ≡ 1 = bad.1.0 in cc

-- one of them isn't told
abbrev pub unreached_forgotten : List Entry
unreached_forgotten =
    e.Begin 1 5 ∷ e.Read 1 3 0 (pos 0) ∷ e.Unreached 1 ∷ e.Finish k.Limit ∷ []

pub unreached_forgotten_unlawful : IsLawful two_setting unreached_forgotten → ⊥
unreached_forgotten_unlawful h =
    let bad = h.follows (e.Begin 1 5 ∷ e.Read 1 3 0 (pos 0) ∷ e.Unreached 1 ∷ []) (e.Finish k.Limit) [] refl in
    let most : 2 < 2 = bad.1.1.0 in let no : ⊥ = omega arith in no

-- a command is asked before as many entries stand as it waits for
abbrev pub asked_early : List Entry
asked_early = e.Asked 1 ∷ e.Refused 1 12 0 ∷ []

trigger_of : (x : Command) → Some (record { trigger = script.at 9; name = codes "a"; action = remove }) ≡ Some x → script.at 9 ≡ x.trigger
trigger_of x is = let command : record { trigger = script.at 9; name = codes "a"; action = remove } ≡ x = cc in ap (λ (y : Command). y.trigger) command

pub asked_early_unlawful : IsLawful two_setting asked_early → ⊥
asked_early_unlawful h =
    let bad = h.follows [] (e.Asked 1) (e.Refused 1 12 0 ∷ []) refl in
    let many : 9 ≤ 0 = subst (IsTriggered two_setting (front_at two_setting h.events [])) (sym (trigger_of bad.0.command bad.0.is)) bad.0.triggered in
    let no : ⊥ = omega (arith, many) in no

-- a command is cut though the run isn't over
abbrev pub cut_early : List Entry
cut_early =
    e.Begin 1 5 ∷ e.Read 1 3 0 (pos 0) ∷ e.Asked 1 ∷ e.Cut 1 ∷ e.Finish k.Limit ∷ []

pub cut_early_unlawful : IsLawful cut_setting cut_early → ⊥
cut_early_unlawful h =
    let bad = h.follows (e.Begin 1 5 ∷ e.Read 1 3 0 (pos 0) ∷ e.Asked 1 ∷ []) (e.Cut 1) (e.Finish k.Limit ∷ []) refl in
    let no : false ≡ true = bad.0 in cc

-- a thread that was spawned behind `Asked` begins before the answer
abbrev pub early_setting : Setting
early_setting = record setting { commands = record { trigger = script.at 1; name = codes "fix"; action = install (means (plan_of adds fix)) } ∷ [] }

abbrev pub begun_when_asked : List Entry
begun_when_asked = e.Begin 1 5 ∷ e.Asked 1 ∷ e.Spawn 1 6 2 0 [] ∷ e.Begin 2 2 ∷ []

pub begun_when_asked_unlawful : IsLawful early_setting begun_when_asked → ⊥
begun_when_asked_unlawful h =
    let bad = h.follows (e.Begin 1 5 ∷ e.Asked 1 ∷ e.Spawn 1 6 2 0 [] ∷ []) (e.Begin 2 2) [] refl in
    let no : true ≡ false = bad.0.parked.1 refl in cc

-- Removals

abbrev unasked_front : List Entry
unasked_front =
    e.Asked 1 ∷ e.Installed 1 1 (0 ∷ 0 ∷ 0 ∷ 0 ∷ 0 ∷ 0 ∷ 0 ∷ 0 ∷ []) ∷ e.Begin 1 9 ∷ e.Spawn 1 10 2 0 [] ∷ e.Begin 2 2 ∷ e.Spawn 1 11 3 0 []
    ∷ e.Enter 2 3 1 1 ∷ e.Begin 3 2 ∷ e.Print 1 12 (pos 1) ∷ e.At 2 3 1 (1 ∷ 2 ∷ []) ∷ e.Blocked 3 3 (w.Enter 1 1) ∷ []

-- a filter is removed by a command that wasn't asked
abbrev pub removed_unasked : List Entry
removed_unasked = unasked_front ++ e.Removed 2 2 (4 ∷ 2 ∷ 2 ∷ 0 ∷ 0 ∷ 0 ∷ 0 ∷ 0 ∷ []) ∷ []

pub removed_unasked_unlawful : IsLawful removal_setting removed_unasked → ⊥
removed_unasked_unlawful h =
    let bad = h.follows unasked_front (e.Removed 2 2 (4 ∷ 2 ∷ 2 ∷ 0 ∷ 0 ∷ 0 ∷ 0 ∷ 0 ∷ [])) [] refl in
    let no : None ≡ Some 2 = bad.1.asked in cc

-- a version is left out
abbrev pub removed_early : List Entry
removed_early = removal_front ++ e.Removed 2 3 (4 ∷ 2 ∷ 2 ∷ 0 ∷ 0 ∷ 0 ∷ 0 ∷ 0 ∷ []) ∷ []

pub removed_early_unlawful : IsLawful removal_setting removed_early → ⊥
removed_early_unlawful h =
    let bad = h.follows removal_front (e.Removed 2 3 (4 ∷ 2 ∷ 2 ∷ 0 ∷ 0 ∷ 0 ∷ 0 ∷ 0 ∷ [])) [] refl in
    let no : 3 ≡ 2 = bad.1.version in cc

-- a place is listed for a thread that wasn't spawned
abbrev pub removed_elsewhere : List Entry
removed_elsewhere = removal_front ++ e.Removed 2 2 (4 ∷ 2 ∷ 2 ∷ 1 ∷ 0 ∷ 0 ∷ 0 ∷ 0 ∷ []) ∷ []

abbrev fourth : List ℕ → ℕ
fourth (a ∷ b ∷ c ∷ d ∷ ns) = d
fourth _ = 0

none_there : ◌≡◌ {A = ℕ} 1 0 → ⊥
none_there h = cc

pub removed_elsewhere_unlawful : IsLawful removal_setting removed_elsewhere → ⊥
removed_elsewhere_unlawful h =
    let xs : List TargetEvent = (event 1 9 begin ∷ event 1 10 (spawn 2 0 []) ∷ event 2 2 begin ∷ event 1 11 (spawn 3 0 []) ∷ event 3 2 begin ∷ event 1 12 (print (pos 1)) ∷ []) in
    let same : h.events ≡ xs = events_told h.events xs (ap (map event_of) h.tells) in
    let bad = h.follows removal_front (e.Removed 2 2 (4 ∷ 2 ∷ 2 ∷ 1 ∷ 0 ∷ 0 ∷ 0 ∷ 0 ∷ [])) [] refl in
    let x : Place = bad.1.lists.place 4 in
    let P : List TargetEvent → Type 0 = λ ys. StandsAt removal_setting (front_at removal_setting ys removal_front) 4 x in
    let stands : x ≡ nowhere = subst P same (bad.1.lists.stands 4) in
    let listed_places : 1 ≡ place_number removal_program x = ap fourth bad.1.lists.are in
    none_there (listed_places ∙ ap (place_number removal_program) stands)

-- The end

-- a thread goes on behind the limit
abbrev pub entry_behind_limit : List Entry
entry_behind_limit =
    e.Begin 1 5 ∷ e.Read 1 3 0 (pos 0) ∷ e.Write 1 3 0 (pos 1) ∷ e.Unreached 1 ∷ e.Finish k.Limit ∷ []

pub entry_behind_limit_unlawful : IsLawful unreached_setting entry_behind_limit → ⊥
entry_behind_limit_unlawful h =
    let bad = h.follows (e.Begin 1 5 ∷ e.Read 1 3 0 (pos 0) ∷ []) (e.Write 1 3 0 (pos 1)) (e.Unreached 1 ∷ e.Finish k.Limit ∷ []) refl in
    let no : true ≡ false = bad.0.goes_on.runs in cc

-- the limit is told before it is reached
abbrev pub limit_early : List Entry
limit_early = e.Begin 1 5 ∷ e.Spawn 1 6 2 0 [] ∷ e.Finish k.Limit ∷ []

pub limit_early_unlawful : IsLawful limit_setting limit_early → ⊥
limit_early_unlawful h =
    let bad = h.follows (e.Begin 1 5 ∷ e.Spawn 1 6 2 0 [] ∷ []) (e.Finish k.Limit) [] refl in
    let no : false ≡ true = bad.1.1.1.1 in cc

-- the run is stopped before the stop test is met
abbrev pub stopped_early : List Entry
stopped_early =
    e.Begin 1 5 ∷ e.Spawn 1 6 2 0 [] ∷ e.Begin 2 2 ∷ e.Read 1 7 0 (pos 0) ∷ e.Read 2 3 0 (pos 0) ∷ e.Write 1 7 0 (pos 1) ∷ e.Write 2 3 0 (pos 1)
    ∷ e.Blocked 1 8 (w.Join 2) ∷ e.End 2 2 ∷ e.Join 1 8 2 ∷ e.Read 1 9 0 (pos 1) ∷ e.Finish k.Stopped ∷ []

pub stopped_early_unlawful : IsLawful stop_setting stopped_early → ⊥
stopped_early_unlawful h =
    let bad = h.follows (e.Begin 1 5 ∷ e.Spawn 1 6 2 0 [] ∷ e.Begin 2 2 ∷ e.Read 1 7 0 (pos 0) ∷ e.Read 2 3 0 (pos 0) ∷ e.Write 1 7 0 (pos 1) ∷ e.Write 2 3 0 (pos 1) ∷ e.Blocked 1 8 (w.Join 2) ∷ e.End 2 2 ∷ e.Join 1 8 2 ∷ e.Read 1 9 0 (pos 1) ∷ []) (e.Finish k.Stopped) [] refl in
    let no : false ≡ true = bad.1.1.1 in cc

-- the stop test is met, and a thread goes on
abbrev pub entry_behind_stop : List Entry
entry_behind_stop =
    e.Begin 1 5 ∷ e.Spawn 1 6 2 0 [] ∷ e.Begin 2 2 ∷ e.Read 1 7 0 (pos 0) ∷ e.Read 2 3 0 (pos 0) ∷ e.Write 1 7 0 (pos 1) ∷ e.Write 2 3 0 (pos 1)
    ∷ e.Blocked 1 8 (w.Join 2) ∷ e.End 2 2 ∷ e.Join 1 8 2 ∷ e.Read 1 9 0 (pos 1) ∷ e.Print 1 9 (pos 1) ∷ e.End 1 5 ∷ e.Finish k.Done ∷ []

pub entry_behind_stop_unlawful : IsLawful stop_setting entry_behind_stop → ⊥
entry_behind_stop_unlawful h =
    let bad = h.follows (e.Begin 1 5 ∷ e.Spawn 1 6 2 0 [] ∷ e.Begin 2 2 ∷ e.Read 1 7 0 (pos 0) ∷ e.Read 2 3 0 (pos 0) ∷ e.Write 1 7 0 (pos 1) ∷ e.Write 2 3 0 (pos 1) ∷ e.Blocked 1 8 (w.Join 2) ∷ e.End 2 2 ∷ e.Join 1 8 2 ∷ e.Read 1 9 0 (pos 1) ∷ e.Print 1 9 (pos 1) ∷ []) (e.End 1 5) (e.Finish k.Done ∷ []) refl in
    let no : true ≡ false = bad.0.goes_on.runs in cc

-- an entry stands behind the end
abbrev pub entry_behind_finish : List Entry
entry_behind_finish =
    e.Begin 1 5 ∷ e.Spawn 1 6 2 0 [] ∷ e.Begin 2 2 ∷ e.Read 1 7 0 (pos 0) ∷ e.Read 2 3 0 (pos 0) ∷ e.Write 1 7 0 (pos 1) ∷ e.Write 2 3 0 (pos 1)
    ∷ e.Blocked 1 8 (w.Join 2) ∷ e.End 2 2 ∷ e.Join 1 8 2 ∷ e.Read 1 9 0 (pos 1) ∷ e.Print 1 9 (pos 1) ∷ e.End 1 5 ∷ e.Finish k.Done
    ∷ e.Print 1 9 (pos 1) ∷ []

pub entry_behind_finish_unlawful : IsLawful lost_setting entry_behind_finish → ⊥
entry_behind_finish_unlawful h =
    let bad = h.follows (e.Begin 1 5 ∷ e.Spawn 1 6 2 0 [] ∷ e.Begin 2 2 ∷ e.Read 1 7 0 (pos 0) ∷ e.Read 2 3 0 (pos 0) ∷ e.Write 1 7 0 (pos 1) ∷ e.Write 2 3 0 (pos 1) ∷ e.Blocked 1 8 (w.Join 2) ∷ e.End 2 2 ∷ e.Join 1 8 2 ∷ e.Read 1 9 0 (pos 1) ∷ e.Print 1 9 (pos 1) ∷ e.End 1 5 ∷ []) (e.Finish k.Done) (e.Print 1 9 (pos 1) ∷ []) refl in
    let no : e.Print 1 9 (pos 1) ∷ [] ≡ [] = bad.0 in cc

-- the run is done though a thread lives
abbrev pub done_early : List Entry
done_early = e.Begin 1 5 ∷ e.Finish k.Done ∷ []

pub done_early_unlawful : IsLawful lost_setting done_early → ⊥
done_early_unlawful h =
    let same : h.events ≡ event 1 5 begin ∷ [] = events_told h.events (event 1 5 begin ∷ []) (ap (map event_of) h.tells) in
    let P : List TargetEvent → Type 0 = λ xs. Ends lost_setting (front_at lost_setting xs (e.Begin 1 5 ∷ [])) k.Done in
    let bad = h.follows (e.Begin 1 5 ∷ []) (e.Finish k.Done) [] refl in
    let ends : Ends lost_setting (front_at lost_setting (event 1 5 begin ∷ []) (e.Begin 1 5 ∷ [])) k.Done = subst P same bad.1.1.1 in
    let no : false ≡ true = ends.1.0 1 _ refl in
    cc

-- the run is done at its limit, which is told first
abbrev pub full_setting : Setting
full_setting = record lost_setting { limit = 13 }

abbrev pub done_at_limit : List Entry
done_at_limit =
    e.Begin 1 5 ∷ e.Spawn 1 6 2 0 [] ∷ e.Begin 2 2 ∷ e.Read 1 7 0 (pos 0) ∷ e.Read 2 3 0 (pos 0) ∷ e.Write 1 7 0 (pos 1) ∷ e.Write 2 3 0 (pos 1)
    ∷ e.Blocked 1 8 (w.Join 2) ∷ e.End 2 2 ∷ e.Join 1 8 2 ∷ e.Read 1 9 0 (pos 1) ∷ e.Print 1 9 (pos 1) ∷ e.End 1 5 ∷ e.Finish k.Done ∷ []

pub done_at_limit_unlawful : IsLawful full_setting done_at_limit → ⊥
done_at_limit_unlawful h =
    let bad = h.follows (e.Begin 1 5 ∷ e.Spawn 1 6 2 0 [] ∷ e.Begin 2 2 ∷ e.Read 1 7 0 (pos 0) ∷ e.Read 2 3 0 (pos 0) ∷ e.Write 1 7 0 (pos 1) ∷ e.Write 2 3 0 (pos 1) ∷ e.Blocked 1 8 (w.Join 2) ∷ e.End 2 2 ∷ e.Join 1 8 2 ∷ e.Read 1 9 0 (pos 1) ∷ e.Print 1 9 (pos 1) ∷ e.End 1 5 ∷ []) (e.Finish k.Done) [] refl in
    let no : true ≡ false = bad.1.1.1.0 in cc

-- the run is stuck though a thread can go on
abbrev pub stuck_early : List Entry
stuck_early = e.Begin 1 5 ∷ e.Finish k.Stuck ∷ []

abbrev lost_front : Front
lost_front = front_at lost_setting (event 1 5 begin ∷ []) (e.Begin 1 5 ∷ [])

goes_on : IsBlocked lost_setting lost_front 1 ⊎ IsHeldOff lost_setting lost_front 1 → ⊥
goes_on (inl h) = h
goes_on (inr h) = let no : false ≡ true = h.held.holds in cc

pub stuck_early_unlawful : IsLawful lost_setting stuck_early → ⊥
stuck_early_unlawful h =
    let same : h.events ≡ event 1 5 begin ∷ [] = events_told h.events (event 1 5 begin ∷ []) (ap (map event_of) h.tells) in
    let P : List TargetEvent → Type 0 = λ xs. Ends lost_setting (front_at lost_setting xs (e.Begin 1 5 ∷ [])) k.Stuck in
    let bad = h.follows (e.Begin 1 5 ∷ []) (e.Finish k.Stuck) [] refl in
    let ends : Ends lost_setting lost_front k.Stuck = subst P same bad.1.1.1 in
    goes_on (ends.1.0.stuck 1 (record { state = _; is = refl; not_ended = refl }))

-- The run is stuck though a command is due.
abbrev pub stuck_when_due : List Entry
stuck_when_due = before_stall ++ e.Unreached 1 ∷ e.Finish k.Stuck ∷ []

no_end : (kind : Ending) → Ends on_stall_setting (front_at on_stall_setting on_stall_events before_stall) kind → ⊥
no_end k.Stopped h = cc
no_end k.Limit h = let no : false ≡ true = h.1 in cc
no_end k.Done h = let no : false ≡ true = h.1.0 1 _ refl in cc
no_end k.Stuck h = h.1.1 stall_due

pub stuck_when_due_unlawful : IsLawful on_stall_setting stuck_when_due → ⊥
stuck_when_due_unlawful h =
    let same : h.events ≡ on_stall_events = events_told h.events on_stall_events (ap (map event_of) h.tells) in
    let bad = h.follows before_stall (e.Unreached 1) (e.Finish k.Stuck ∷ []) refl in
    let P : List TargetEvent → Type 0 = λ xs. EndsSo on_stall_setting (front_at on_stall_setting xs before_stall) in
    let ends : EndsSo on_stall_setting (front_at on_stall_setting on_stall_events before_stall) = subst P same bad.1.1.1 in
    no_end ends.0 ends.1

-- Orders and exclusion

-- a wait is over, and what it is for begins, before anything was posted
abbrev pub early_order : List Entry
early_order =
    e.Asked 1 ∷ e.Installed 1 1 (0 ∷ 0 ∷ 0 ∷ 0 ∷ 0 ∷ 0 ∷ 0 ∷ 0 ∷ []) ∷ e.Begin 1 5 ∷ e.Spawn 1 6 2 0 [] ∷ e.Begin 2 2 ∷ e.Print 1 7 (pos 1)
    ∷ e.Blocked 2 3 (w.Wait 1 2) ∷ e.Wait 2 3 1 2 ∷ e.At 2 3 1 (2 ∷ []) ∷ e.At 1 8 1 (1 ∷ []) ∷ e.Write 1 8 0 (pos 5) ∷ e.Past 1 8 1 (1 ∷ [])
    ∷ e.Post 1 8 1 1 ∷ e.Blocked 1 9 (w.Join 2) ∷ e.Read 2 3 0 (pos 5) ∷ e.Print 2 3 (pos 2) ∷ e.Past 2 3 1 (2 ∷ []) ∷ e.End 2 2 ∷ e.Join 1 9 2
    ∷ e.End 1 5 ∷ e.Finish k.Done ∷ []

pub early_order_unlawful : IsLawful order_setting early_order → ⊥
early_order_unlawful h =
    let bad = h.follows (e.Asked 1 ∷ e.Installed 1 1 (0 ∷ 0 ∷ 0 ∷ 0 ∷ 0 ∷ 0 ∷ 0 ∷ 0 ∷ []) ∷ e.Begin 1 5 ∷ e.Spawn 1 6 2 0 [] ∷ e.Begin 2 2 ∷ e.Print 1 7 (pos 1) ∷ e.Blocked 2 3 (w.Wait 1 2) ∷ []) (e.Wait 2 3 1 2) (e.At 2 3 1 (2 ∷ []) ∷ e.At 1 8 1 (1 ∷ []) ∷ e.Write 1 8 0 (pos 5) ∷ e.Past 1 8 1 (1 ∷ []) ∷ e.Post 1 8 1 1 ∷ e.Blocked 1 9 (w.Join 2) ∷ e.Read 2 3 0 (pos 5) ∷ e.Print 2 3 (pos 2) ∷ e.Past 2 3 1 (2 ∷ []) ∷ e.End 2 2 ∷ e.Join 1 9 2 ∷ e.End 1 5 ∷ e.Finish k.Done ∷ []) refl in
    let there : 1 ≤ 0 = bad.1 in let no : ⊥ = omega arith in no

pub early_order_event : IsLawful order_setting early_order → ⊥
early_order_event h =
    let bad = h.follows (e.Asked 1 ∷ e.Installed 1 1 (0 ∷ 0 ∷ 0 ∷ 0 ∷ 0 ∷ 0 ∷ 0 ∷ 0 ∷ []) ∷ e.Begin 1 5 ∷ e.Spawn 1 6 2 0 [] ∷ e.Begin 2 2 ∷ e.Print 1 7 (pos 1) ∷ e.Blocked 2 3 (w.Wait 1 2) ∷ e.Wait 2 3 1 2 ∷ []) (e.At 2 3 1 (2 ∷ [])) (e.At 1 8 1 (1 ∷ []) ∷ e.Write 1 8 0 (pos 5) ∷ e.Past 1 8 1 (1 ∷ []) ∷ e.Post 1 8 1 1 ∷ e.Blocked 1 9 (w.Join 2) ∷ e.Read 2 3 0 (pos 5) ∷ e.Print 2 3 (pos 2) ∷ e.Past 2 3 1 (2 ∷ []) ∷ e.End 2 2 ∷ e.Join 1 9 2 ∷ e.End 1 5 ∷ e.Finish k.Done ∷ []) refl in
    let there : 1 ≤ 0 = bad.1.0 in
    let no : ⊥ = omega arith in
    no

-- a clause that another thread holds is entered
abbrev pub both_inside : List Entry
both_inside =
    e.Asked 1 ∷ e.Installed 1 1 (0 ∷ 0 ∷ 0 ∷ 0 ∷ 0 ∷ 0 ∷ 0 ∷ 0 ∷ []) ∷ e.Begin 1 5 ∷ e.Spawn 1 6 2 0 [] ∷ e.Begin 2 2 ∷ e.Enter 1 7 1 1 ∷ e.Enter 2 3 1 1
    ∷ e.Blocked 2 3 (w.Enter 1 1) ∷ e.At 1 7 1 (3 ∷ 4 ∷ []) ∷ e.Read 1 7 0 (pos 0) ∷ e.Write 1 7 0 (pos 1) ∷ e.Past 1 7 1 (3 ∷ 4 ∷ []) ∷ e.Leave 1 7 1 1
    ∷ e.Blocked 1 8 (w.Join 2) ∷ e.At 2 3 1 (1 ∷ 2 ∷ []) ∷ e.Read 2 3 0 (pos 1) ∷ e.Write 2 3 0 (pos 2) ∷ e.Past 2 3 1 (1 ∷ 2 ∷ []) ∷ e.Leave 2 3 1 1
    ∷ e.End 2 2 ∷ e.Join 1 8 2 ∷ e.Read 1 9 0 (pos 2) ∷ e.Print 1 9 (pos 2) ∷ e.End 1 5 ∷ e.Finish k.Done ∷ []

pub both_inside_unlawful : IsLawful setting both_inside → ⊥
both_inside_unlawful h =
    let bad = h.follows (e.Asked 1 ∷ e.Installed 1 1 (0 ∷ 0 ∷ 0 ∷ 0 ∷ 0 ∷ 0 ∷ 0 ∷ 0 ∷ []) ∷ e.Begin 1 5 ∷ e.Spawn 1 6 2 0 [] ∷ e.Begin 2 2 ∷ e.Enter 1 7 1 1 ∷ []) (e.Enter 2 3 1 1) (e.Blocked 2 3 (w.Enter 1 1) ∷ e.At 1 7 1 (3 ∷ 4 ∷ []) ∷ e.Read 1 7 0 (pos 0) ∷ e.Write 1 7 0 (pos 1) ∷ e.Past 1 7 1 (3 ∷ 4 ∷ []) ∷ e.Leave 1 7 1 1 ∷ e.Blocked 1 8 (w.Join 2) ∷ e.At 2 3 1 (1 ∷ 2 ∷ []) ∷ e.Read 2 3 0 (pos 1) ∷ e.Write 2 3 0 (pos 2) ∷ e.Past 2 3 1 (1 ∷ 2 ∷ []) ∷ e.Leave 2 3 1 1 ∷ e.End 2 2 ∷ e.Join 1 8 2 ∷ e.Read 1 9 0 (pos 2) ∷ e.Print 1 9 (pos 2) ∷ e.End 1 5 ∷ e.Finish k.Done ∷ []) refl in
    let no : true ≡ false = bad.1 in cc

-- a thread is blocked at a clause that nobody holds
abbrev pub blocked_by_nobody : List Entry
blocked_by_nobody =
    e.Asked 1 ∷ e.Installed 1 1 (0 ∷ 0 ∷ 0 ∷ 0 ∷ 0 ∷ 0 ∷ 0 ∷ 0 ∷ []) ∷ e.Begin 1 5 ∷ e.Spawn 1 6 2 0 [] ∷ e.Begin 2 2 ∷ e.Blocked 2 3 (w.Enter 1 1)
    ∷ e.Enter 1 7 1 1 ∷ e.At 1 7 1 (3 ∷ 4 ∷ []) ∷ e.Read 1 7 0 (pos 0) ∷ e.Write 1 7 0 (pos 1) ∷ e.Past 1 7 1 (3 ∷ 4 ∷ []) ∷ e.Leave 1 7 1 1
    ∷ e.Enter 2 3 1 1 ∷ e.Blocked 1 8 (w.Join 2) ∷ e.At 2 3 1 (1 ∷ 2 ∷ []) ∷ e.Read 2 3 0 (pos 1) ∷ e.Write 2 3 0 (pos 2) ∷ e.Past 2 3 1 (1 ∷ 2 ∷ [])
    ∷ e.Leave 2 3 1 1 ∷ e.End 2 2 ∷ e.Join 1 8 2 ∷ e.Read 1 9 0 (pos 2) ∷ e.Print 1 9 (pos 2) ∷ e.End 1 5 ∷ e.Finish k.Done ∷ []

pub blocked_by_nobody_unlawful : IsLawful setting blocked_by_nobody → ⊥
blocked_by_nobody_unlawful h =
    let bad = h.follows (e.Asked 1 ∷ e.Installed 1 1 (0 ∷ 0 ∷ 0 ∷ 0 ∷ 0 ∷ 0 ∷ 0 ∷ 0 ∷ []) ∷ e.Begin 1 5 ∷ e.Spawn 1 6 2 0 [] ∷ e.Begin 2 2 ∷ []) (e.Blocked 2 3 (w.Enter 1 1)) (e.Enter 1 7 1 1 ∷ e.At 1 7 1 (3 ∷ 4 ∷ []) ∷ e.Read 1 7 0 (pos 0) ∷ e.Write 1 7 0 (pos 1) ∷ e.Past 1 7 1 (3 ∷ 4 ∷ []) ∷ e.Leave 1 7 1 1 ∷ e.Enter 2 3 1 1 ∷ e.Blocked 1 8 (w.Join 2) ∷ e.At 2 3 1 (1 ∷ 2 ∷ []) ∷ e.Read 2 3 0 (pos 1) ∷ e.Write 2 3 0 (pos 2) ∷ e.Past 2 3 1 (1 ∷ 2 ∷ []) ∷ e.Leave 2 3 1 1 ∷ e.End 2 2 ∷ e.Join 1 8 2 ∷ e.Read 1 9 0 (pos 2) ∷ e.Print 1 9 (pos 2) ∷ e.End 1 5 ∷ e.Finish k.Done ∷ []) refl in
    let no : false ≡ true = bad.1.holds in cc

-- a thread writes while another is inside
abbrev pub not_alone : List Entry
not_alone =
    e.Asked 1 ∷ e.Installed 1 1 (0 ∷ 0 ∷ 0 ∷ 0 ∷ 0 ∷ 0 ∷ 0 ∷ 0 ∷ []) ∷ e.Begin 1 5 ∷ e.Spawn 1 6 2 0 [] ∷ e.Begin 2 2 ∷ e.Read 1 7 0 (pos 0)
    ∷ e.Enter 2 3 1 1 ∷ e.Write 1 7 0 (pos 1) ∷ e.At 2 3 1 (1 ∷ 2 ∷ []) ∷ e.Read 2 3 0 (pos 1) ∷ e.Write 2 3 0 (pos 2) ∷ e.Past 2 3 1 (1 ∷ 2 ∷ [])
    ∷ e.Leave 2 3 1 1 ∷ e.End 2 2 ∷ e.Join 1 8 2 ∷ e.Read 1 9 0 (pos 2) ∷ e.Print 1 9 (pos 2) ∷ e.End 1 5 ∷ e.Finish k.Done ∷ []

pub not_alone_unlawful : IsLawful alone_setting not_alone → ⊥
not_alone_unlawful h =
    let bad = h.follows (e.Asked 1 ∷ e.Installed 1 1 (0 ∷ 0 ∷ 0 ∷ 0 ∷ 0 ∷ 0 ∷ 0 ∷ 0 ∷ []) ∷ e.Begin 1 5 ∷ e.Spawn 1 6 2 0 [] ∷ e.Begin 2 2 ∷ e.Read 1 7 0 (pos 0) ∷ e.Enter 2 3 1 1 ∷ []) (e.Write 1 7 0 (pos 1)) (e.At 2 3 1 (1 ∷ 2 ∷ []) ∷ e.Read 2 3 0 (pos 1) ∷ e.Write 2 3 0 (pos 2) ∷ e.Past 2 3 1 (1 ∷ 2 ∷ []) ∷ e.Leave 2 3 1 1 ∷ e.End 2 2 ∷ e.Join 1 8 2 ∷ e.Read 1 9 0 (pos 2) ∷ e.Print 1 9 (pos 2) ∷ e.End 1 5 ∷ e.Finish k.Done ∷ []) refl in
    bad.0.not_held_off (record { filter = 1; clause = 1; alone = refl; held = record { by = 2; other = refl; holds = refl } })

-- a return keeps the clause of the region that it leaves
abbrev pub clause_kept : List Entry
clause_kept =
    e.Asked 1 ∷ e.Installed 1 1 (0 ∷ 0 ∷ 0 ∷ 0 ∷ 0 ∷ 0 ∷ 0 ∷ 0 ∷ []) ∷ e.Begin 1 6 ∷ e.Enter 1 2 1 1 ∷ e.At 1 2 1 (1 ∷ []) ∷ e.Write 1 3 0 (pos 1)
    ∷ e.Read 1 4 0 (pos 1) ∷ e.Back 1 2 ∷ e.Print 1 8 (pos 1) ∷ e.End 1 6 ∷ e.Finish k.Done ∷ []

pub clause_kept_unlawful : IsLawful back_setting clause_kept → ⊥
clause_kept_unlawful h =
    let bad = always_balanced back_setting clause_kept h (e.Asked 1 ∷ e.Installed 1 1 (0 ∷ 0 ∷ 0 ∷ 0 ∷ 0 ∷ 0 ∷ 0 ∷ 0 ∷ []) ∷ e.Begin 1 6 ∷ e.Enter 1 2 1 1 ∷ e.At 1 2 1 (1 ∷ []) ∷ e.Write 1 3 0 (pos 1) ∷ e.Read 1 4 0 (pos 1) ∷ e.Back 1 2 ∷ e.Print 1 8 (pos 1) ∷ []) (e.End 1 6) (e.Finish k.Done ∷ []) refl in
    let no : true ≡ false = bad in cc

-- a thread that trapped keeps the clause of the region in which it was
abbrev pub trap_keeps : List Entry
trap_keeps =
    e.Asked 1 ∷ e.Installed 1 1 (0 ∷ 0 ∷ 0 ∷ 0 ∷ 0 ∷ 0 ∷ 0 ∷ 0 ∷ []) ∷ e.Begin 1 2 ∷ e.Enter 1 3 1 1 ∷ e.At 1 3 1 (1 ∷ []) ∷ e.Write 1 3 0 (pos 1)
    ∷ e.Past 1 3 1 (1 ∷ []) ∷ e.Trap 1 4 1 ∷ e.End 1 2 ∷ e.Finish k.Done ∷ []

pub trap_keeps_unlawful : IsLawful caught_setting trap_keeps → ⊥
trap_keeps_unlawful h =
    let bad = always_balanced caught_setting trap_keeps h (e.Asked 1 ∷ e.Installed 1 1 (0 ∷ 0 ∷ 0 ∷ 0 ∷ 0 ∷ 0 ∷ 0 ∷ 0 ∷ []) ∷ e.Begin 1 2 ∷ e.Enter 1 3 1 1 ∷ e.At 1 3 1 (1 ∷ []) ∷ e.Write 1 3 0 (pos 1) ∷ e.Past 1 3 1 (1 ∷ []) ∷ e.Trap 1 4 1 ∷ []) (e.End 1 2) (e.Finish k.Done ∷ []) refl in
    let no : true ≡ false = bad in cc

-- Runs

-- the last read gives 7, where the word is 1
abbrev pub read_changed : List Entry
read_changed =
    e.Begin 1 5 ∷ e.Spawn 1 6 2 0 [] ∷ e.Begin 2 2 ∷ e.Read 1 7 0 (pos 0) ∷ e.Read 2 3 0 (pos 0) ∷ e.Write 1 7 0 (pos 1) ∷ e.Write 2 3 0 (pos 1)
    ∷ e.Blocked 1 8 (w.Join 2) ∷ e.End 2 2 ∷ e.Join 1 8 2 ∷ e.Read 1 9 0 (pos 7) ∷ e.Print 1 9 (pos 7) ∷ e.End 1 5 ∷ e.Finish k.Done ∷ []

pub read_changed_unlawful : IsLawful lost_setting read_changed → ⊥
read_changed_unlawful h = changed_is_no_run (record { events = h.events; told = h.tells; run = h.run })

-- Versions

-- a thread goes on without the new version
abbrev pub cross_missing : List Entry
cross_missing =
    e.Begin 1 5 ∷ e.Read 1 3 0 (pos 0) ∷ e.Asked 1 ∷ e.Write 1 3 0 (pos 1) ∷ e.Read 1 9 0 (pos 1) ∷ e.Write 1 9 0 (pos 2)
    ∷ e.Installed 1 1 (7 ∷ 0 ∷ 0 ∷ 0 ∷ 0 ∷ 0 ∷ 0 ∷ 0 ∷ []) ∷ e.Enter 1 8 1 1 ∷ e.At 1 8 1 (1 ∷ []) ∷ e.Read 1 3 0 (pos 2) ∷ e.Write 1 3 0 (pos 3)
    ∷ e.Past 1 8 1 (1 ∷ []) ∷ e.At 1 9 1 (2 ∷ []) ∷ e.Read 1 9 0 (pos 3) ∷ e.Write 1 9 0 (pos 6) ∷ e.Past 1 9 1 (2 ∷ []) ∷ e.Leave 1 9 1 1
    ∷ e.Enter 1 8 1 1 ∷ e.At 1 8 1 (1 ∷ []) ∷ e.Read 1 3 0 (pos 6) ∷ e.Write 1 3 0 (pos 7) ∷ e.Past 1 8 1 (1 ∷ []) ∷ e.At 1 9 1 (2 ∷ [])
    ∷ e.Read 1 9 0 (pos 7) ∷ e.Write 1 9 0 (pos 14) ∷ e.Past 1 9 1 (2 ∷ []) ∷ e.Leave 1 9 1 1 ∷ e.Read 1 12 0 (pos 14) ∷ e.Print 1 12 (pos 14)
    ∷ e.End 1 5 ∷ e.Finish k.Done ∷ []

pub cross_missing_unlawful : IsLawful evacuation_setting cross_missing → ⊥
cross_missing_unlawful h =
    let bad = h.follows (e.Begin 1 5 ∷ e.Read 1 3 0 (pos 0) ∷ e.Asked 1 ∷ e.Write 1 3 0 (pos 1) ∷ e.Read 1 9 0 (pos 1) ∷ e.Write 1 9 0 (pos 2) ∷ e.Installed 1 1 (7 ∷ 0 ∷ 0 ∷ 0 ∷ 0 ∷ 0 ∷ 0 ∷ 0 ∷ []) ∷ []) (e.Enter 1 8 1 1) (e.At 1 8 1 (1 ∷ []) ∷ e.Read 1 3 0 (pos 2) ∷ e.Write 1 3 0 (pos 3) ∷ e.Past 1 8 1 (1 ∷ []) ∷ e.At 1 9 1 (2 ∷ []) ∷ e.Read 1 9 0 (pos 3) ∷ e.Write 1 9 0 (pos 6) ∷ e.Past 1 9 1 (2 ∷ []) ∷ e.Leave 1 9 1 1 ∷ e.Enter 1 8 1 1 ∷ e.At 1 8 1 (1 ∷ []) ∷ e.Read 1 3 0 (pos 6) ∷ e.Write 1 3 0 (pos 7) ∷ e.Past 1 8 1 (1 ∷ []) ∷ e.At 1 9 1 (2 ∷ []) ∷ e.Read 1 9 0 (pos 7) ∷ e.Write 1 9 0 (pos 14) ∷ e.Past 1 9 1 (2 ∷ []) ∷ e.Leave 1 9 1 1 ∷ e.Read 1 12 0 (pos 14) ∷ e.Print 1 12 (pos 14) ∷ e.End 1 5 ∷ e.Finish k.Done ∷ []) refl in
    let no : false ≡ true = bad.0.crosses in cc

-- it takes the version behind its next entry
abbrev pub cross_late : List Entry
cross_late =
    e.Begin 1 5 ∷ e.Read 1 3 0 (pos 0) ∷ e.Asked 1 ∷ e.Write 1 3 0 (pos 1) ∷ e.Read 1 9 0 (pos 1) ∷ e.Write 1 9 0 (pos 2)
    ∷ e.Installed 1 1 (7 ∷ 0 ∷ 0 ∷ 0 ∷ 0 ∷ 0 ∷ 0 ∷ 0 ∷ []) ∷ e.Enter 1 8 1 1 ∷ e.Cross 1 7 7 1 0 ∷ e.At 1 8 1 (1 ∷ []) ∷ e.Read 1 3 0 (pos 2)
    ∷ e.Write 1 3 0 (pos 3) ∷ e.Past 1 8 1 (1 ∷ []) ∷ e.At 1 9 1 (2 ∷ []) ∷ e.Read 1 9 0 (pos 3) ∷ e.Write 1 9 0 (pos 6) ∷ e.Past 1 9 1 (2 ∷ [])
    ∷ e.Leave 1 9 1 1 ∷ e.Enter 1 8 1 1 ∷ e.At 1 8 1 (1 ∷ []) ∷ e.Read 1 3 0 (pos 6) ∷ e.Write 1 3 0 (pos 7) ∷ e.Past 1 8 1 (1 ∷ [])
    ∷ e.At 1 9 1 (2 ∷ []) ∷ e.Read 1 9 0 (pos 7) ∷ e.Write 1 9 0 (pos 14) ∷ e.Past 1 9 1 (2 ∷ []) ∷ e.Leave 1 9 1 1 ∷ e.Read 1 12 0 (pos 14)
    ∷ e.Print 1 12 (pos 14) ∷ e.End 1 5 ∷ e.Finish k.Done ∷ []

pub cross_late_unlawful : IsLawful evacuation_setting cross_late → ⊥
cross_late_unlawful h =
    let bad = h.follows (e.Begin 1 5 ∷ e.Read 1 3 0 (pos 0) ∷ e.Asked 1 ∷ e.Write 1 3 0 (pos 1) ∷ e.Read 1 9 0 (pos 1) ∷ e.Write 1 9 0 (pos 2) ∷ e.Installed 1 1 (7 ∷ 0 ∷ 0 ∷ 0 ∷ 0 ∷ 0 ∷ 0 ∷ 0 ∷ []) ∷ []) (e.Enter 1 8 1 1) (e.Cross 1 7 7 1 0 ∷ e.At 1 8 1 (1 ∷ []) ∷ e.Read 1 3 0 (pos 2) ∷ e.Write 1 3 0 (pos 3) ∷ e.Past 1 8 1 (1 ∷ []) ∷ e.At 1 9 1 (2 ∷ []) ∷ e.Read 1 9 0 (pos 3) ∷ e.Write 1 9 0 (pos 6) ∷ e.Past 1 9 1 (2 ∷ []) ∷ e.Leave 1 9 1 1 ∷ e.Enter 1 8 1 1 ∷ e.At 1 8 1 (1 ∷ []) ∷ e.Read 1 3 0 (pos 6) ∷ e.Write 1 3 0 (pos 7) ∷ e.Past 1 8 1 (1 ∷ []) ∷ e.At 1 9 1 (2 ∷ []) ∷ e.Read 1 9 0 (pos 7) ∷ e.Write 1 9 0 (pos 14) ∷ e.Past 1 9 1 (2 ∷ []) ∷ e.Leave 1 9 1 1 ∷ e.Read 1 12 0 (pos 14) ∷ e.Print 1 12 (pos 14) ∷ e.End 1 5 ∷ e.Finish k.Done ∷ []) refl in
    let no : false ≡ true = bad.0.crosses in cc

-- it takes the version twice
abbrev pub cross_twice : List Entry
cross_twice =
    e.Begin 1 5 ∷ e.Read 1 3 0 (pos 0) ∷ e.Asked 1 ∷ e.Write 1 3 0 (pos 1) ∷ e.Read 1 9 0 (pos 1) ∷ e.Write 1 9 0 (pos 2)
    ∷ e.Installed 1 1 (7 ∷ 0 ∷ 0 ∷ 0 ∷ 0 ∷ 0 ∷ 0 ∷ 0 ∷ []) ∷ e.Cross 1 7 7 1 0 ∷ e.Cross 1 7 7 1 0 ∷ e.Enter 1 8 1 1 ∷ e.At 1 8 1 (1 ∷ [])
    ∷ e.Read 1 3 0 (pos 2) ∷ e.Write 1 3 0 (pos 3) ∷ e.Past 1 8 1 (1 ∷ []) ∷ e.At 1 9 1 (2 ∷ []) ∷ e.Read 1 9 0 (pos 3) ∷ e.Write 1 9 0 (pos 6)
    ∷ e.Past 1 9 1 (2 ∷ []) ∷ e.Leave 1 9 1 1 ∷ e.Enter 1 8 1 1 ∷ e.At 1 8 1 (1 ∷ []) ∷ e.Read 1 3 0 (pos 6) ∷ e.Write 1 3 0 (pos 7)
    ∷ e.Past 1 8 1 (1 ∷ []) ∷ e.At 1 9 1 (2 ∷ []) ∷ e.Read 1 9 0 (pos 7) ∷ e.Write 1 9 0 (pos 14) ∷ e.Past 1 9 1 (2 ∷ []) ∷ e.Leave 1 9 1 1
    ∷ e.Read 1 12 0 (pos 14) ∷ e.Print 1 12 (pos 14) ∷ e.End 1 5 ∷ e.Finish k.Done ∷ []

pub cross_twice_unlawful : IsLawful evacuation_setting cross_twice → ⊥
cross_twice_unlawful h =
    let bad = h.follows (e.Begin 1 5 ∷ e.Read 1 3 0 (pos 0) ∷ e.Asked 1 ∷ e.Write 1 3 0 (pos 1) ∷ e.Read 1 9 0 (pos 1) ∷ e.Write 1 9 0 (pos 2) ∷ e.Installed 1 1 (7 ∷ 0 ∷ 0 ∷ 0 ∷ 0 ∷ 0 ∷ 0 ∷ 0 ∷ []) ∷ e.Cross 1 7 7 1 0 ∷ []) (e.Cross 1 7 7 1 0) (e.Enter 1 8 1 1 ∷ e.At 1 8 1 (1 ∷ []) ∷ e.Read 1 3 0 (pos 2) ∷ e.Write 1 3 0 (pos 3) ∷ e.Past 1 8 1 (1 ∷ []) ∷ e.At 1 9 1 (2 ∷ []) ∷ e.Read 1 9 0 (pos 3) ∷ e.Write 1 9 0 (pos 6) ∷ e.Past 1 9 1 (2 ∷ []) ∷ e.Leave 1 9 1 1 ∷ e.Enter 1 8 1 1 ∷ e.At 1 8 1 (1 ∷ []) ∷ e.Read 1 3 0 (pos 6) ∷ e.Write 1 3 0 (pos 7) ∷ e.Past 1 8 1 (1 ∷ []) ∷ e.At 1 9 1 (2 ∷ []) ∷ e.Read 1 9 0 (pos 7) ∷ e.Write 1 9 0 (pos 14) ∷ e.Past 1 9 1 (2 ∷ []) ∷ e.Leave 1 9 1 1 ∷ e.Read 1 12 0 (pos 14) ∷ e.Print 1 12 (pos 14) ∷ e.End 1 5 ∷ e.Finish k.Done ∷ []) refl in
    let no : true ≡ false = bad.0.crosses in cc

-- it takes the version at another place than the one that is listed
abbrev pub cross_elsewhere : List Entry
cross_elsewhere =
    e.Begin 1 5 ∷ e.Read 1 3 0 (pos 0) ∷ e.Asked 1 ∷ e.Write 1 3 0 (pos 1) ∷ e.Read 1 9 0 (pos 1) ∷ e.Write 1 9 0 (pos 2)
    ∷ e.Installed 1 1 (7 ∷ 0 ∷ 0 ∷ 0 ∷ 0 ∷ 0 ∷ 0 ∷ 0 ∷ []) ∷ e.Cross 1 8 8 1 0 ∷ e.Enter 1 8 1 1 ∷ e.At 1 8 1 (1 ∷ []) ∷ e.Read 1 3 0 (pos 2)
    ∷ e.Write 1 3 0 (pos 3) ∷ e.Past 1 8 1 (1 ∷ []) ∷ e.At 1 9 1 (2 ∷ []) ∷ e.Read 1 9 0 (pos 3) ∷ e.Write 1 9 0 (pos 6) ∷ e.Past 1 9 1 (2 ∷ [])
    ∷ e.Leave 1 9 1 1 ∷ e.Enter 1 8 1 1 ∷ e.At 1 8 1 (1 ∷ []) ∷ e.Read 1 3 0 (pos 6) ∷ e.Write 1 3 0 (pos 7) ∷ e.Past 1 8 1 (1 ∷ [])
    ∷ e.At 1 9 1 (2 ∷ []) ∷ e.Read 1 9 0 (pos 7) ∷ e.Write 1 9 0 (pos 14) ∷ e.Past 1 9 1 (2 ∷ []) ∷ e.Leave 1 9 1 1 ∷ e.Read 1 12 0 (pos 14)
    ∷ e.Print 1 12 (pos 14) ∷ e.End 1 5 ∷ e.Finish k.Done ∷ []

pub cross_elsewhere_unlawful : IsLawful evacuation_setting cross_elsewhere → ⊥
cross_elsewhere_unlawful h =
    let bad = h.follows (e.Begin 1 5 ∷ e.Read 1 3 0 (pos 0) ∷ e.Asked 1 ∷ e.Write 1 3 0 (pos 1) ∷ e.Read 1 9 0 (pos 1) ∷ e.Write 1 9 0 (pos 2) ∷ e.Installed 1 1 (7 ∷ 0 ∷ 0 ∷ 0 ∷ 0 ∷ 0 ∷ 0 ∷ 0 ∷ []) ∷ []) (e.Cross 1 8 8 1 0) (e.Enter 1 8 1 1 ∷ e.At 1 8 1 (1 ∷ []) ∷ e.Read 1 3 0 (pos 2) ∷ e.Write 1 3 0 (pos 3) ∷ e.Past 1 8 1 (1 ∷ []) ∷ e.At 1 9 1 (2 ∷ []) ∷ e.Read 1 9 0 (pos 3) ∷ e.Write 1 9 0 (pos 6) ∷ e.Past 1 9 1 (2 ∷ []) ∷ e.Leave 1 9 1 1 ∷ e.Enter 1 8 1 1 ∷ e.At 1 8 1 (1 ∷ []) ∷ e.Read 1 3 0 (pos 6) ∷ e.Write 1 3 0 (pos 7) ∷ e.Past 1 8 1 (1 ∷ []) ∷ e.At 1 9 1 (2 ∷ []) ∷ e.Read 1 9 0 (pos 7) ∷ e.Write 1 9 0 (pos 14) ∷ e.Past 1 9 1 (2 ∷ []) ∷ e.Leave 1 9 1 1 ∷ e.Read 1 12 0 (pos 14) ∷ e.Print 1 12 (pos 14) ∷ e.End 1 5 ∷ e.Finish k.Done ∷ []) refl in
    let no : 7 ≡ 8 = bad.1.0 in cc

-- it takes a version that isn't there
abbrev pub cross_number : List Entry
cross_number =
    e.Begin 1 5 ∷ e.Read 1 3 0 (pos 0) ∷ e.Asked 1 ∷ e.Write 1 3 0 (pos 1) ∷ e.Read 1 9 0 (pos 1) ∷ e.Write 1 9 0 (pos 2)
    ∷ e.Installed 1 1 (7 ∷ 0 ∷ 0 ∷ 0 ∷ 0 ∷ 0 ∷ 0 ∷ 0 ∷ []) ∷ e.Cross 1 7 7 2 0 ∷ e.Enter 1 8 1 1 ∷ e.At 1 8 1 (1 ∷ []) ∷ e.Read 1 3 0 (pos 2)
    ∷ e.Write 1 3 0 (pos 3) ∷ e.Past 1 8 1 (1 ∷ []) ∷ e.At 1 9 1 (2 ∷ []) ∷ e.Read 1 9 0 (pos 3) ∷ e.Write 1 9 0 (pos 6) ∷ e.Past 1 9 1 (2 ∷ [])
    ∷ e.Leave 1 9 1 1 ∷ e.Enter 1 8 1 1 ∷ e.At 1 8 1 (1 ∷ []) ∷ e.Read 1 3 0 (pos 6) ∷ e.Write 1 3 0 (pos 7) ∷ e.Past 1 8 1 (1 ∷ [])
    ∷ e.At 1 9 1 (2 ∷ []) ∷ e.Read 1 9 0 (pos 7) ∷ e.Write 1 9 0 (pos 14) ∷ e.Past 1 9 1 (2 ∷ []) ∷ e.Leave 1 9 1 1 ∷ e.Read 1 12 0 (pos 14)
    ∷ e.Print 1 12 (pos 14) ∷ e.End 1 5 ∷ e.Finish k.Done ∷ []

pub cross_number_unlawful : IsLawful evacuation_setting cross_number → ⊥
cross_number_unlawful h =
    let bad = always_balanced evacuation_setting cross_number h (e.Begin 1 5 ∷ e.Read 1 3 0 (pos 0) ∷ e.Asked 1 ∷ e.Write 1 3 0 (pos 1) ∷ e.Read 1 9 0 (pos 1) ∷ e.Write 1 9 0 (pos 2) ∷ e.Installed 1 1 (7 ∷ 0 ∷ 0 ∷ 0 ∷ 0 ∷ 0 ∷ 0 ∷ 0 ∷ []) ∷ []) (e.Cross 1 7 7 2 0) (e.Enter 1 8 1 1 ∷ e.At 1 8 1 (1 ∷ []) ∷ e.Read 1 3 0 (pos 2) ∷ e.Write 1 3 0 (pos 3) ∷ e.Past 1 8 1 (1 ∷ []) ∷ e.At 1 9 1 (2 ∷ []) ∷ e.Read 1 9 0 (pos 3) ∷ e.Write 1 9 0 (pos 6) ∷ e.Past 1 9 1 (2 ∷ []) ∷ e.Leave 1 9 1 1 ∷ e.Enter 1 8 1 1 ∷ e.At 1 8 1 (1 ∷ []) ∷ e.Read 1 3 0 (pos 6) ∷ e.Write 1 3 0 (pos 7) ∷ e.Past 1 8 1 (1 ∷ []) ∷ e.At 1 9 1 (2 ∷ []) ∷ e.Read 1 9 0 (pos 7) ∷ e.Write 1 9 0 (pos 14) ∷ e.Past 1 9 1 (2 ∷ []) ∷ e.Leave 1 9 1 1 ∷ e.Read 1 12 0 (pos 14) ∷ e.Print 1 12 (pos 14) ∷ e.End 1 5 ∷ e.Finish k.Done ∷ []) refl in
    let no : 2 ≡ 1 = bad in cc
