-- Journals of runs without commands: no version is listed, no command asked, nobody is held off. What is left of a turn's premises.
use Rattle.std.proofs.Common.{ℕ, zero, suc, ◌<◌, ◌≤◌, ◌≡◌, ◌==◌, Bool, true, false, List, [], ◌∷◌, ◌++◌, length, Some, None, refl, sym, ap, ◌∙◌, if◌then◌else◌, arith}
use Rattle.loom_trace.specs.declared.entry.Entry.{Entry}
use Rattle.loom_trace.specs.declared.entry.Entry.TheVariants as e
use Rattle.loom_trace.specs.declared.entry.Ending.{Ending}
use Rattle.loom_trace.specs.declared.entry.Ending.TheVariants as k
use Rattle.loom_trace.specs.declared.entry.What.{What}
use Rattle.loom_trace.specs.declared.request.Request.{Request}
use Rattle.loom_lang.specs.Acts.{Deed}
use Rattle.loom_event.specs.Answer.{IsAnswered}
use Rattle.loom_event.specs.TargetEvent.{TargetEvent, event_of_deed, entry_by}
use Rattle.loom_event.specs.Entries.{thread_of, is_stopped, is_at_limit}
use Rattle.loom_event.specs.Replay.{AllEnded}
use Rattle.loom_event.specs.Replay.{ThreadState, start, thread_at, replay, IsAllowed}
use Rattle.loom_law.specs.Walk.{tick, blocked}
use Rattle.loom_law.specs.ThreadPart.{AsksToMake, AsksToAct}
use Rattle.loom_law.specs.Control.{Command, command_at, Control, control, first_control, control_after, after_entry, listed_places_after, listed_places, listed_places_from}
use Rattle.loom_law.specs.Lawful.{Setting, Front, front_of, plans, own, run_is_over, owes_cross, is_held_by, is_installed, IsDisabledFor, IsHeldOff, IsDue, IsStalled, IsOpen, Ends, front_at, MayFollow, IsLawful}
use Rattle.loom_law.specs.Laws.{Balances, IsUnfinished}
use Rattle.loom_law.proofs.Lawful.{always_balanced, control_turns}
use Rattle.loom_law.proofs.Answers.{answer_turns}
use Rattle.loom_law.proofs.Makings.{making_turns}

-- What stands in such a journal changes nothing of what it says of commands, and lists no version.

no_command : (cs : List Command) (n : ℕ) (c : Command) → cs ≡ [] → command_at cs n ≡ Some c → ⊥
no_command [] zero c h g = cc
no_command [] (suc n) c h g = cc
no_command (d ∷ cs) n c h g = cc

no_due : (s : Setting) (f : Front) → s.commands ≡ [] → IsDue s f → ⊥
no_due s f none h = no_command s.commands f.control.next h.command none h.is

record IsQuiet (s : Setting) (x : Entry) : Type 0 where
  control : after_entry s.commands first_control x ≡ first_control
  lists : (t : ℕ) → listed_places_after t [] x ≡ []

abbrev no_numbers : List ℕ
no_numbers = []

none_either : (b : Bool) → (if b then no_numbers else no_numbers) ≡ no_numbers
none_either true = refl
none_either false = refl

none_asked : (f : Front) (k : ℕ) → f.control ≡ first_control → f.control.asked ≡ Some k → ⊥
none_asked f k is h = let no : None ≡ Some k = sym (ap (λ (c : Control). c.asked) is) ∙ h in cc

none_installed : (f : Front) (k : ℕ) → f.control ≡ first_control → is_installed f.control k ≡ true → ⊥
none_installed f k is h = let no : false ≡ true = sym (ap (λ c. is_installed c k) is) ∙ h in cc

none_held : (f : Front) (k c t : ℕ) → f.control ≡ first_control → is_held_by f.control k c t ≡ true → ⊥
none_held f k c t is h = let no : false ≡ true = sym (ap (λ d. is_held_by d k c t) is) ∙ h in cc

few : (cs : List Command) → cs ≡ [] → length cs ≡ 0
few cs h = ap (λ (ds : List Command). length ds) h

quiet : (s : Setting) (f : Front) (x : Entry) (rest : List Entry) → s.commands ≡ [] → f.control ≡ first_control → MayFollow s f x rest → Balances f x → IsQuiet s x
quiet s f (e.Begin u l) rest none is h b = record { control = refl; lists = λ t. none_either (u == t) }
quiet s f (e.End u l) rest none is h b = record { control = refl; lists = λ t. none_either (u == t) }
quiet s f (e.Trap u l r) rest none is h b = record { control = refl; lists = λ t. none_either (u == t) }
quiet s f (e.Read u l x v) rest none is h b = record { control = refl; lists = λ t. none_either (u == t) }
quiet s f (e.Write u l x v) rest none is h b = record { control = refl; lists = λ t. none_either (u == t) }
quiet s f (e.Lock u l m) rest none is h b = record { control = refl; lists = λ t. none_either (u == t) }
quiet s f (e.Unlock u l m) rest none is h b = record { control = refl; lists = λ t. none_either (u == t) }
quiet s f (e.Down u l m) rest none is h b = record { control = refl; lists = λ t. none_either (u == t) }
quiet s f (e.Up u l m) rest none is h b = record { control = refl; lists = λ t. none_either (u == t) }
quiet s f (e.Spawn u l d g vs) rest none is h b = record { control = refl; lists = λ t. none_either (u == t) }
quiet s f (e.Join u l d) rest none is h b = record { control = refl; lists = λ t. none_either (u == t) }
quiet s f (e.Print u l v) rest none is h b = record { control = refl; lists = λ t. none_either (u == t) }
quiet s f (e.Tick u l y) rest none is h b = record { control = refl; lists = λ t. none_either (u == t) }
quiet s f (e.Blocked u l y) rest none is h b = record { control = refl; lists = λ t. none_either (u == t) }
quiet s f (e.At u l k ns) rest none is h b = record { control = refl; lists = λ t. none_either (u == t) }
quiet s f (e.Past u l k ns) rest none is h b = record { control = refl; lists = λ t. none_either (u == t) }
quiet s f (e.Back u l) rest none is h b = record { control = refl; lists = λ t. none_either (u == t) }
quiet s f (e.Enter u l k c) rest none is h b = absurd (none_installed f k is b)
quiet s f (e.Leave u l k c) rest none is h b = absurd (none_held f k c u is b)
quiet s f (e.Post u l k n) rest none is h b = record { control = refl; lists = λ t. none_either (u == t) }
quiet s f (e.Wait u l k n) rest none is h b = record { control = refl; lists = λ t. none_either (u == t) }
quiet s f (e.Cross u l y v n) rest none is h b = record { control = refl; lists = λ t. none_either (u == t) }
quiet s f (e.Asked k) rest none is h b = absurd (no_due s f none h.0)
quiet s f (e.Refused k n m) rest none is h b = absurd (none_asked f k is h.0)
quiet s f (e.Installed k v ps) rest none is h b = absurd (none_asked f k is h.1.asked)
quiet s f (e.Removed k v ps) rest none is h b = absurd (none_asked f k is h.1.asked)
quiet s f (e.Stalled k u l) rest none is h b = absurd (none_asked f k is h.1.asked)
quiet s f (e.Cut k) rest none is h b = absurd (none_asked f k is h.1)
quiet s f (e.Unreached k) rest none is h b =
    let first : k ≡ 1 = h.1.0 ∙ ap (λ (c : Control). c.next) is in
    let none_left : length s.commands ≡ 0 = few s.commands none in
    let most : k ≤ length s.commands = h.1.1.0 in
    let no : ⊥ = omega arith in
    absurd no
quiet s f (e.Finish k) rest none is h b = record { control = refl; lists = λ t. refl }

abbrev AllQuiet : Setting → List Entry → Type 0
AllQuiet s [] = Unit {0}
AllQuiet s (x ∷ xs) = IsQuiet s x × AllQuiet s xs

control_after_last : (cs : List Command) (c : Control) (xs : List Entry) (y : Entry) → control_after cs c (xs ++ y ∷ []) ≡ after_entry cs (control_after cs c xs) y
control_after_last cs c [] y = refl
control_after_last cs c (x ∷ xs) y = control_after_last cs (after_entry cs c x) xs y

append_one : (xs : List Entry) (y : Entry) (ys : List Entry) → (xs ++ y ∷ []) ++ ys ≡ xs ++ y ∷ ys
append_one [] y ys = refl
append_one (x ∷ xs) y ys = ap (◌∷◌ x) (append_one xs y ys)

quiet_from : (s : Setting) (es : List Entry) (h : IsLawful s es) → s.commands ≡ [] → (front todo : List Entry) → es ≡ front ++ todo → control s.commands front ≡ first_control → AllQuiet s todo
quiet_from s es h none front [] is so = tt
quiet_from s es h none front (x ∷ todo) is so =
    let here : IsQuiet s x = quiet s (front_at s h.events front) x todo none so (h.follows front x todo is) (always_balanced s es h front x todo is) in (
      here,
      quiet_from s es h none (front ++ x ∷ []) todo (is ∙ sym (append_one front x todo))
          (control_after_last s.commands first_control front x ∙ (ap (λ c. after_entry s.commands c x) so ∙ here.control)),
    )

all_quiet : (s : Setting) (es : List Entry) → IsLawful s es → s.commands ≡ [] → AllQuiet s es
all_quiet s es h none = quiet_from s es h none [] es refl refl

quiet_control : (s : Setting) (es : List Entry) → AllQuiet s es → control_after s.commands first_control es ≡ first_control
quiet_control s [] h = refl
quiet_control s (x ∷ es) h = ap (λ c. control_after s.commands c es) h.0.control ∙ quiet_control s es h.1

quiet_listed : (s : Setting) (es : List Entry) (t : ℕ) → AllQuiet s es → listed_places_from t [] es ≡ []
quiet_listed s [] t h = refl
quiet_listed s (x ∷ es) t h = ap (λ ys. listed_places_from t ys es) (h.0.lists t) ∙ quiet_listed s es t h.1

-- The journal says nothing of commands.
pub nothing_controlled : (s : Setting) (es : List Entry) → IsLawful s es → s.commands ≡ [] → control s.commands es ≡ first_control
nothing_controlled s es h none = quiet_control s es (all_quiet s es h none)

-- No version is listed.
pub nothing_listed : (s : Setting) (es : List Entry) → IsLawful s es → s.commands ≡ [] → (t : ℕ) → listed_places t es ≡ []
nothing_listed s es h none t = quiet_listed s es t (all_quiet s es h none)

-- No command is asked.
pub nothing_asked : (s : Setting) (es : List Entry) → IsLawful s es → s.commands ≡ [] → Control.asked (control s.commands es) ≡ None
nothing_asked s es h none = ap (λ (c : Control). c.asked) (nothing_controlled s es h none)

-- Nobody is held off.
pub nobody_held_off : (s : Setting) (es : List Entry) → IsLawful s es → s.commands ≡ [] → (xs : List TargetEvent) (t : ℕ) → IsHeldOff s (front_of s es xs) t → ⊥
nobody_held_off s es h none xs t g = none_held (front_of s es xs) g.filter g.clause g.held.by (nothing_controlled s es h none) g.held.holds

-- A journal that isn't over is open.
pub is_open : (s : Setting) (es : List Entry) → IsLawful s es → s.commands ≡ [] → (xs : List TargetEvent) → run_is_over s (front_of s es xs) ≡ false → IsOpen s (front_of s es xs)
is_open s es h none xs runs = record {
  runs = runs;
  not_closing = ap (λ (c : Control). c.closing) (nothing_controlled s es h none);
  not_due = no_due s (front_of s es xs) none;
  not_refused = λ k is. absurd (none_asked (front_of s es xs) k (nothing_controlled s es h none) is);
}

owes_none : (x : Entry) → owes_cross x [] ≡ false
owes_none (e.Begin u l) = refl
owes_none _ = refl

-- Nobody owes a `Cross`.
pub owes_no_cross : (s : Setting) (es : List Entry) → IsLawful s es → s.commands ≡ [] → (x : Entry) (t : ℕ) → owes_cross x (listed_places t es) ≡ false
owes_no_cross s es h none x t = ap (owes_cross x) (nothing_listed s es h none t) ∙ owes_none x

-- Turns

-- An answer that the store allows to what a thread asks for.
pub answer_without : (s : Setting) (es : List Entry) (h : IsLawful s es) → s.commands ≡ [] → IsUnfinished es → run_is_over s (front_of s es h.events) ≡ false
    → (t : ℕ) (z : ThreadState) → thread_at (replay (start s.program s.threads) h.events) t ≡ Some z
    → (q : Request) (d : Deed) → AsksToAct s.program (plans s) (own s es t z) q → IsAnswered q d → IsAllowed (replay (start s.program s.threads) h.events) (event_of_deed t d)
    → (h' : IsLawful s (es ++ entry_by t d.line d.act ∷ [])) × (h'.events ≡ h.events ++ event_of_deed t d ∷ [])
answer_without s es h none open_ runs t z there q d asks answer allowed =
    let quiet : (k : ℕ) → Control.asked (control s.commands es) ≡ Some k → ⊥ = λ k is. none_asked (front_of s es h.events) k (nothing_controlled s es h none) is in
    answer_turns s es h open_ t q d
    (record {
      state = z;
      there = there;
      asks = asks;
      answer = answer;
      allowed = allowed;
      goes_on = is_open s es h none h.events runs;
      not_held_off = nobody_held_off s es h none h.events t;
      no_cross = owes_no_cross s es h none (entry_by t d.line d.act) t;
      away = λ k is some. absurd (quiet k is);
      no_begin = λ k is begins. absurd (quiet k is);
    })

-- A tick that a thread asks for.
pub tick_without : (s : Setting) (es : List Entry) (h : IsLawful s es) → s.commands ≡ [] → IsUnfinished es → run_is_over s (front_of s es h.events) ≡ false
    → (t : ℕ) (z : ThreadState) → thread_at (replay (start s.program s.threads) h.events) t ≡ Some z
    → (l n : ℕ) → AsksToMake s.program (plans s) (own s es t z) l (tick n) → (h' : IsLawful s (es ++ e.Tick t l n ∷ [])) × (h'.events ≡ h.events)
tick_without s es h none open_ runs t z there l n asks =
    let quiet : (k : ℕ) → Control.asked (control s.commands es) ≡ Some k → ⊥ = λ k is. none_asked (front_of s es h.events) k (nothing_controlled s es h none) is in
    making_turns s es h open_ t l (tick n)
    (record {
      state = z;
      there = there;
      asks = asks;
      goes_on = is_open s es h none h.events runs;
      not_held_off = nobody_held_off s es h none h.events t;
      crosses = sym (owes_no_cross s es h none (e.Tick t l n) t);
      away = λ k is some. absurd (quiet k is);
      permits = tt;
    })

-- A thread that is blocked.
pub blocked_without : (s : Setting) (es : List Entry) (h : IsLawful s es) → s.commands ≡ [] → IsUnfinished es → run_is_over s (front_of s es h.events) ≡ false
    → (t : ℕ) (z : ThreadState) → thread_at (replay (start s.program s.threads) h.events) t ≡ Some z
    → (l : ℕ) (what : What) → AsksToMake s.program (plans s) (own s es t z) l (blocked what) → IsDisabledFor s (front_of s es h.events) t what
    → (h' : IsLawful s (es ++ e.Blocked t l what ∷ [])) × (h'.events ≡ h.events)
blocked_without s es h none open_ runs t z there l what asks disabled =
    let quiet : (k : ℕ) → Control.asked (control s.commands es) ≡ Some k → ⊥ = λ k is. none_asked (front_of s es h.events) k (nothing_controlled s es h none) is in
    making_turns s es h open_ t l (blocked what)
    (record {
      state = z;
      there = there;
      asks = asks;
      goes_on = is_open s es h none h.events runs;
      not_held_off = nobody_held_off s es h none h.events t;
      crosses = sym (owes_no_cross s es h none (e.Blocked t l what) t);
      away = λ k is some. absurd (quiet k is);
      permits = disabled;
    })

-- The end

pub finish_without : (s : Setting) (es : List Entry) (h : IsLawful s es) → s.commands ≡ [] → IsUnfinished es → (kind : Ending) → Ends s (front_of s es h.events) kind
    → (h' : IsLawful s (es ++ e.Finish kind ∷ [])) × (h'.events ≡ h.events)
finish_without s es h none open_ kind ends =
    let none_left : length s.commands ≡ 0 = few s.commands none in
    let next : Control.next (control s.commands es) ≡ 1 = ap (λ (c : Control). c.next) (nothing_controlled s es h none) in
    let all : length s.commands < Control.next (control s.commands es) = omega arith in
    control_turns s es h open_ (e.Finish kind) refl (refl, (nothing_asked s es h none, (all, ends)))

-- `Done`, where each thread has ended.
pub done_without : (s : Setting) (es : List Entry) (h : IsLawful s es) → s.commands ≡ [] → IsUnfinished es → run_is_over s (front_of s es h.events) ≡ false
    → AllEnded (replay (start s.program s.threads) h.events) → (h' : IsLawful s (es ++ e.Finish k.Done ∷ [])) × (h'.events ≡ h.events)
done_without s es h none open_ runs ended = finish_without s es h none open_ k.Done (runs, (ended, no_due s (front_of s es h.events) none))

-- `Stuck`, where the threads that live are blocked.
pub stuck_without : (s : Setting) (es : List Entry) (h : IsLawful s es) → s.commands ≡ [] → IsUnfinished es → run_is_over s (front_of s es h.events) ≡ false
    → IsStalled s (front_of s es h.events) → (h' : IsLawful s (es ++ e.Finish k.Stuck ∷ [])) × (h'.events ≡ h.events)
stuck_without s es h none open_ runs stalled = finish_without s es h none open_ k.Stuck (runs, (stalled, no_due s (front_of s es h.events) none))

-- `Limit`, behind as many thread entries as there may be.
pub limit_without : (s : Setting) (es : List Entry) (h : IsLawful s es) → s.commands ≡ [] → IsUnfinished es → is_stopped s.stop es ≡ false → is_at_limit s.limit es ≡ true
    → (h' : IsLawful s (es ++ e.Finish k.Limit ∷ [])) × (h'.events ≡ h.events)
limit_without s es h none open_ runs most = finish_without s es h none open_ k.Limit (runs, most)

-- `Stopped`, where the stop test says so.
pub stopped_without : (s : Setting) (es : List Entry) (h : IsLawful s es) → s.commands ≡ [] → IsUnfinished es → is_stopped s.stop es ≡ true
    → (h' : IsLawful s (es ++ e.Finish k.Stopped ∷ [])) × (h'.events ≡ h.events)
stopped_without s es h none open_ stopped = finish_without s es h none open_ k.Stopped stopped

-- Journals that aren't finished

never_empty : (xs : List Entry) (x : Entry) → [] ≡ xs ++ x ∷ [] → ⊥
never_empty [] x h = cc
never_empty (y ∷ xs) x h = cc

same_last : (xs ys : List Entry) (x y : Entry) → xs ++ x ∷ [] ≡ ys ++ y ∷ [] → x ≡ y
same_last [] [] x y h = cc
same_last [] (z ∷ ys) x y h = let no : [] ≡ ys ++ y ∷ [] = cc in absurd (never_empty ys y no)
same_last (z ∷ xs) [] x y h = let no : [] ≡ xs ++ x ∷ [] = cc in absurd (never_empty xs x no)
same_last (z ∷ xs) (u ∷ ys) x y h = let others : xs ++ x ∷ [] ≡ ys ++ y ∷ [] = cc in same_last xs ys x y others

pub none_unfinished : IsUnfinished []
none_unfinished k h = never_empty h.front (e.Finish k) h.is

pub thread_unfinished : (es : List Entry) (x : Entry) (t : ℕ) → thread_of x ≡ Some t → IsUnfinished (es ++ x ∷ [])
thread_unfinished es x t of k h =
    let no : None ≡ Some t = ap thread_of (sym (same_last es h.front x (e.Finish k) h.is)) ∙ of in cc
