-- Which control entry stands next in a book.
use Rattle.std.proofs.Common.{ℕ, zero, suc, ◌<◌, ◌≤◌, ◌≡◌, ◌⊎◌, inl, inr, Bool, true, false, List, [], ◌∷◌, length, Option, Some, None, refl, sym, ap, ◌∙◌, subst, arith}
use Rattle.loom_trace.specs.declared.entry.Entry.{Entry}
use Rattle.loom_trace.specs.declared.entry.Entry.TheVariants as e
use Rattle.loom_trace.specs.declared.entry.Ending.{Ending}
use Rattle.loom_event.specs.Entries.{thread_of}
use Rattle.loom_law.specs.Control.{Command, command_at, Control}
use Rattle.loom_law.specs.Lawful.{run_is_over, refusal, IsDue, Ends, EndsSo, MayControl}
use Rattle.loom_world.specs.Book.{Book, setting, front, HasLawfulJournal}
use Rattle.loom_world.specs.Answers.{AreFound, IsFoundStalled, StandsNext}
use Rattle.loom_world.specs.Idle.{IsAskedInVain, CommandGoesFirst}
use Rattle.loom_world.proofs.ControlState.{numbered}

-- a number up to that of the last command is one of a command
command_there : (cs : List Command) (k : ℕ) → 1 ≤ k → k ≤ length cs → (x : Command) × (command_at cs k ≡ Some x)
command_there cs zero first last = let no : ⊥ = omega (arith, first) in absurd no
command_there [] (suc i) first last = let less : suc i ≤ 0 = last in let no : ⊥ = omega (arith, less) in absurd no
command_there (c ∷ cs) (suc zero) first last = (c, refl)
command_there (c ∷ cs) (suc (suc i)) first last =
    let less : suc (suc i) ≤ suc (length cs) = last in
    command_there cs (suc i) (omega arith) (omega (arith, less))

-- The command that is asked is one of the run's.
pub asked_there : (b : Book) → HasLawfulJournal b → (k : ℕ) → Control.asked (front b).control ≡ Some k → (x : Command) × (command_at b.commands k ≡ Some x)
asked_there b h k is =
    let n = numbered (setting b) b.entries h.lawful in
    let before = n.before k is in
    command_there b.commands k before.0 (omega (arith, before.1, n.last))

-- It is asked in vain where it is refused.
pub in_vain : (b : Book) (k : ℕ) (r : ℕ × ℕ) → Control.asked (front b).control ≡ Some k → refusal (setting b) (front b).control k ≡ Some r → IsAskedInVain b
in_vain b k r is why = record { command = k; asked = is; refused = λ accepted. (let no : None ≡ Some r = sym accepted ∙ why in cc) }

-- Where it isn't, and none is due, no command goes first.
pub not_first : (b : Book) (k : ℕ) → Control.asked (front b).control ≡ Some k → refusal (setting b) (front b).control k ≡ None → CommandGoesFirst b → ⊥
not_first b k is accepted (inl due) = let no : None ≡ Some k = sym due.answered ∙ is in cc
not_first b k is accepted (inr vain) =
    let same : vain.command ≡ k = cc (vain.asked, is) in
    vain.refused (ap (λ z. refusal (setting b) (front b).control z) same ∙ accepted)

-- What may stand

pub may_refuse : (b : Book) (k n m : ℕ) → Control.asked (front b).control ≡ Some k → refusal (setting b) (front b).control k ≡ Some (n, m)
    → MayControl (setting b) (front b) (e.Refused k n m) []
may_refuse b k n m is why = (is, why)

pub may_cut : (b : Book) (k : ℕ) → Control.asked (front b).control ≡ Some k → run_is_over (setting b) (front b) ≡ true → MayControl (setting b) (front b) (e.Cut k) []
may_cut b k is over = (over, is)

pub may_ask : (b : Book) → IsDue (setting b) (front b) → (k : ℕ) → k ≡ Control.next (front b).control → MayControl (setting b) (front b) (e.Asked k) []
may_ask b due k is = (due, is)

pub may_leave_out : (b : Book) → Control.asked (front b).control ≡ None → (k : ℕ) → k ≡ Control.next (front b).control → Control.next (front b).control ≤ length b.commands → EndsSo (setting b) (front b)
    → MayControl (setting b) (front b) (e.Unreached k) []
may_leave_out b none k is most ends = (none, (is, (omega (arith, is, most), ends)))

pub may_finish : (b : Book) → Control.asked (front b).control ≡ None → length b.commands < Control.next (front b).control → (kind : Ending) → Ends (setting b) (front b) kind
    → MayControl (setting b) (front b) (e.Finish kind) []
may_finish b none all kind ends = (refl, (none, (all, ends)))

-- No control entry stands

none_so : (o : Option ℕ) (k : ℕ) → o ≡ None → o ≡ Some k → ⊥
none_so o k none is = let no : None ≡ Some k = sym none ∙ is in cc

-- where none is asked or due, and the run doesn't end
pub no_control : (b : Book) → Control.asked (front b).control ≡ None → (IsDue (setting b) (front b) → ⊥) → ((kind : Ending) → Ends (setting b) (front b) kind → ⊥)
    → (x : Entry) → thread_of x ≡ None → StandsNext b x → ⊥
no_control b none not_due never (e.Asked k) of next = not_due next.may.0
no_control b none not_due never (e.Refused k n m) of next = none_so _ k none next.may.0
no_control b none not_due never (e.Installed k v ps) of next = none_so _ k none next.may.1.asked
no_control b none not_due never (e.Removed k v ps) of next = none_so _ k none next.may.1.asked
no_control b none not_due never (e.Stalled k t l) of next = none_so _ k none next.may.1.asked
no_control b none not_due never (e.Cut k) of next = none_so _ k none next.may.1
no_control b none not_due never (e.Unreached k) of next = never next.may.1.1.1.0 next.may.1.1.1.1
no_control b none not_due never (e.Finish kind) of next = never kind next.may.1.1.1
no_control b none not_due never _ of next = absurd next.may

-- where a command is asked, which isn't refused, and has no answer by where threads were found
pub no_answer : (b : Book) (k : ℕ) → Control.asked (front b).control ≡ Some k → refusal (setting b) (front b).control k ≡ None → run_is_over (setting b) (front b) ≡ false
    → ((row : List ℕ) → AreFound b k row → ⊥) → ((t l : ℕ) → IsFoundStalled b k t l → ⊥) → (x : Entry) → thread_of x ≡ None → StandsNext b x → ⊥
no_answer b k is accepted goes_on no_row no_stall (e.Asked j) of next = none_so _ k next.may.0.answered is
no_answer b k is accepted goes_on no_row no_stall (e.Refused j n m) of next =
    let same : j ≡ k = cc (next.may.0, is) in
    let pair : ℕ × ℕ = (n, m) in
    let no : None ≡ Some pair = sym accepted ∙ (ap (λ z. refusal (setting b) (front b).control z) (sym same) ∙ next.may.1) in cc
no_answer b k is accepted goes_on no_row no_stall (e.Installed j v ps) of next = let same : j ≡ k = cc (next.may.1.asked, is) in no_row ps (subst (λ z. AreFound b z ps) same next.found)
no_answer b k is accepted goes_on no_row no_stall (e.Removed j v ps) of next = let same : j ≡ k = cc (next.may.1.asked, is) in no_row ps (subst (λ z. AreFound b z ps) same next.found)
no_answer b k is accepted goes_on no_row no_stall (e.Stalled j t l) of next = let same : j ≡ k = cc (next.may.1.asked, is) in no_stall t l (subst (λ z. IsFoundStalled b z t l) same next.found)
no_answer b k is accepted goes_on no_row no_stall (e.Cut j) of next = let no : true ≡ false = sym next.may.0 ∙ goes_on in cc
no_answer b k is accepted goes_on no_row no_stall (e.Unreached j) of next = none_so _ k next.may.0 is
no_answer b k is accepted goes_on no_row no_stall (e.Finish kind) of next = none_so _ k next.may.1.0 is
no_answer b k is accepted goes_on no_row no_stall _ of next = absurd next.may

-- Some control entry stands

pub less_or : (m n : ℕ) → (m < n) ⊎ (n ≤ m)
less_or m zero = inr (omega arith)
less_or zero (suc n) = inl (omega arith)
less_or (suc m) (suc n) = step (less_or m n)
  where
    step : (m < n) ⊎ (n ≤ m) → (suc m < suc n) ⊎ (suc n ≤ suc m)
    step (inl h) = inl (omega (arith, h))
    step (inr h) = inr (omega (arith, h))

-- No control entry stands next.
abbrev pub NoneStands : Book → Type 0
NoneStands b = (x : Entry) → thread_of x ≡ None → StandsNext b x → ⊥

-- where the command that is asked is refused, where one is due, and where the run ends
pub not_refused : (b : Book) → NoneStands b → (k : ℕ) → Control.asked (front b).control ≡ Some k → refusal (setting b) (front b).control k ≡ None
not_refused b none k is = by_refusal (refusal (setting b) (front b).control k) refl
  where
    by_refusal : (o : Option (ℕ × ℕ)) → refusal (setting b) (front b).control k ≡ o → refusal (setting b) (front b).control k ≡ None
    by_refusal None why = why
    by_refusal (Some r) why = absurd (none (e.Refused k r.0 r.1) refl (record { may = may_refuse b k r.0 r.1 is why; found = tt }))

pub not_cut : (b : Book) → NoneStands b → (k : ℕ) → Control.asked (front b).control ≡ Some k → run_is_over (setting b) (front b) ≡ false
not_cut b none k is = by_end (run_is_over (setting b) (front b)) refl
  where
    by_end : (c : Bool) → run_is_over (setting b) (front b) ≡ c → run_is_over (setting b) (front b) ≡ false
    by_end false over = over
    by_end true over = absurd (none (e.Cut k) refl (record { may = may_cut b k is over; found = tt }))

pub not_due : (b : Book) → NoneStands b → IsDue (setting b) (front b) → ⊥
not_due b none due = none (e.Asked (Control.next (front b).control)) refl (record { may = (due, refl); found = tt })

pub not_over : (b : Book) → NoneStands b → Control.asked (front b).control ≡ None → (kind : Ending) → Ends (setting b) (front b) kind → ⊥
not_over b none asked kind ends = by_next (less_or (length b.commands) (Control.next (front b).control))
  where
    by_next : (length b.commands < Control.next (front b).control) ⊎ (Control.next (front b).control ≤ length b.commands) → ⊥
    by_next (inl all) = none (e.Finish kind) refl (record { may = may_finish b asked all kind ends; found = tt })
    by_next (inr most) =
        none (e.Unreached (Control.next (front b).control)) refl
        (record { may = may_leave_out b asked (Control.next (front b).control) refl most (kind, ends); found = tt })
