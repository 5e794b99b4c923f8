-- What a book keeps of its commands, as its calls read it.
use Rattle.std.proofs.Common.{ℕ, zero, suc, ◌+◌, ◌-◌, ◌<◌, ◌≤◌, ◌≡◌, ◌==◌, ◌||◌, take, inl, inr, Bool, true, false, List, [], ◌∷◌, length, get_or, slice_get, Option, Some, None, refl, sym, ap, ◌∙◌, subst, arith, if◌then◌else◌}
use Rattle.std.specs.List.{list_any}
use Rattle.std.specs.Cmp.Lexicographic.{pointwise}
use Rattle.std.proofs.lemmas.Bool.{eq-eqb}
use Rattle.std.proofs.lemmas.Option.{slice_get_read}
use Rattle.loom_command.specs.Script.{at}
use Rattle.loom_event.specs.Entries.{thread_entries}
use Rattle.loom_filter.specs.declared.parse.FilterRefusal.{FilterRefusal}
use Rattle.std.specs.Prelude.{is_some}
use Rattle.loom_law.specs.Filter.{Plan, has}
use Rattle.loom_law.specs.Walk.{Version, Plans}
use Rattle.loom_law.specs.Control.{no_plan, command_at, name_in, have_one_name, Control}
use Rattle.loom_law.specs.Control as law
use Rattle.loom_law.specs.Lawful.{filter_limit, text_refusal, refusal_of, refusal_in, refusal, is_name_used, is_installed, IsTriggered, IsDue}
use Rattle.loom_law.proofs.Course.{any_contains}
use Rattle.loom_law.proofs.Holdings.{or_left, or_right}
use Rattle.loom_law.proofs.Matches.{has_member}
use Rattle.loom_world.specs.declared.command.Command.{Command}
use Rattle.loom_world.specs.declared.command.Action.TheVariants as action
use Rattle.loom_world.specs.declared.command.Judged.{Judged}
use Rattle.loom_world.specs.declared.command.Judged.TheVariants as judged
use Rattle.loom_world.specs.CommandView.{judgement_of, law_action, law_command, law_commands_from, law_commands}
use Rattle.loom_world.specs.Book.{Book, setting, front}
use Rattle.loom_world.specs.Idle.{MayAsk, CommandGoesFirst}
use Rattle.loom_world.specs.Refusals.{number_and_clause, IsRefusal, IsTextRefusal}
use Rattle.loom_world.specs.BookInvariant.{Notes, BookInvariant}
use Rattle.loom_world.proofs.ControlState.{number_within}
use Rattle.loom_world.proofs.ControlTurns.{in_vain, not_first}
use Rattle.loom_world.proofs.InvariantReadings.{full_over, less_goes_on}

or_none : (p q : Bool) → p ≡ false → q ≡ false → (p || q) ≡ false
or_none true q h g = cc
or_none false q h g = g

none_of : (p q : Bool) → (p || q) ≡ false → (p ≡ false) × (q ≡ false)
none_of true q h = cc
none_of false q h = (refl, h)

-- The list of commands

many_from : (ps : Plans) (n : ℕ) (cs : List Command) → length (law_commands_from ps n cs) ≡ length cs
many_from ps n [] = refl
many_from ps n (c ∷ cs) = ap suc (many_from ps (suc n) cs)

pub many_commands : (ps : Plans) (cs : List Command) → length (law_commands ps cs) ≡ length cs
many_commands ps cs = many_from ps 1 cs

-- the command of a place in the list
pub law_at : (ps : Plans) (n : ℕ) (cs : List Command) (i : ℕ) (x : Command) → slice_get cs i ≡ Some x → slice_get (law_commands_from ps n cs) i ≡ Some (law_command (ps (i + n)) x)
law_at ps n [] i x is = cc
law_at ps n (c ∷ cs) zero x is =
    let same : c ≡ x = cc in
    let first : n ≡ 0 + n = omega arith in
    ap (λ z. Some (law_command (ps n) z)) same ∙ ap (λ m. Some (law_command (ps m) x)) first
law_at ps n (c ∷ cs) (suc i) x is =
    let next : i + suc n ≡ suc i + n = omega arith in
    law_at ps (suc n) cs i x is ∙ ap (λ m. Some (law_command (ps m) x)) next

-- and which one it is
pub law_behind : (ps : Plans) (n : ℕ) (cs : List Command) (i : ℕ) (c : law.Command) → slice_get (law_commands_from ps n cs) i ≡ Some c
    → (x : Command) × ((slice_get cs i ≡ Some x) × (law_command (ps (i + n)) x ≡ c))
law_behind ps n [] i c is = cc
law_behind ps n (y ∷ cs) zero c is =
    let same : law_command (ps n) y ≡ c = cc in
    let first : n ≡ 0 + n = omega arith in
    (y, (refl, subst (λ m. law_command (ps m) y ≡ c) first same))
law_behind ps n (y ∷ cs) (suc i) c is =
    let more = law_behind ps (suc n) cs i c is in
    let next : i + suc n ≡ suc i + n = omega arith in
    (more.0, (more.1.0, subst (λ m. law_command (ps m) more.0 ≡ c) next more.1.1))

number_back : (j : ℕ) → 1 ≤ j → suc (j - 1) ≡ j
number_back j first = omega (arith, first)

pub item_is : (cs : List Command) (j : ℕ) (x : Command) → 1 ≤ j → j ≤ length cs → x ≡ get_or cs (j - 1) x → slice_get cs (j - 1) ≡ Some x
item_is cs j x first last is = slice_get_read cs (length cs) (j - 1) x refl (omega (arith, first, last)) is

pub command_is : (ps : Plans) (cs : List Command) (j : ℕ) (x : Command) → 1 ≤ j → j ≤ length cs → x ≡ get_or cs (j - 1) x → command_at (law_commands ps cs) j ≡ Some (law_command (ps j) x)
command_is ps cs j x first last is =
    let at_place : command_at (law_commands ps cs) (suc (j - 1)) ≡ Some (law_command (ps (j - 1 + 1)) x) = law_at ps 1 cs (j - 1) x (item_is cs j x first last is) in
    let same : j - 1 + 1 ≡ j = omega (arith, first) in
    subst (λ z. command_at (law_commands ps cs) z ≡ Some (law_command (ps j) x)) (number_back j first) (at_place ∙ ap (λ m. Some (law_command (ps m) x)) same)

-- The next command

pub next_is : (b : Book) (n : Notes) → BookInvariant b n → (ps : Plans) (cs : List Command) → b.commands ≡ law_commands ps cs → (x : Command) → n.next ≤ length cs → x ≡ get_or cs (n.next - 1) x
    → command_at b.commands (Control.next (front b).control) ≡ Some (law_command (ps n.next) x)
next_is b n k ps cs all x last is =
    subst (λ z. command_at b.commands z ≡ Some (law_command (ps n.next) x)) k.commands.next
    (subst (λ ds. command_at ds n.next ≡ Some (law_command (ps n.next) x)) (sym all) (command_is ps cs n.next x k.commands.first last is))

pub none_next : (b : Book) (n : Notes) → BookInvariant b n → (ps : Plans) (cs : List Command) → b.commands ≡ law_commands ps cs → length cs < n.next
    → (c : law.Command) → command_at b.commands (Control.next (front b).control) ≡ Some c → ⊥
none_next b n k ps cs all beyond c is =
    let within : Control.next (front b).control ≤ length b.commands = number_within b.commands (Control.next (front b).control) c is in
    let many : length b.commands ≡ length cs = ap (λ (ds : List law.Command). length ds) all ∙ many_commands ps cs in
    omega (arith, within, many, k.commands.next, beyond)

-- The command that is asked

pub asked_number : (b : Book) (n : Notes) → BookInvariant b n → (ps : Plans) (cs : List Command) → b.commands ≡ law_commands ps cs → (j : ℕ) → Control.asked (front b).control ≡ Some j
    → (1 ≤ j) × (j ≤ length cs)
asked_number b n k ps cs all j is =
    let before = k.commands.before j (k.commands.asked ∙ is) in
    let many : length b.commands ≡ length cs = ap (λ (ds : List law.Command). length ds) all ∙ many_commands ps cs in
    (before.0, omega (arith, before.1, k.commands.last, many))

-- a command has a number of the list
pub command_number : (b : Book) (ps : Plans) (cs : List Command) → b.commands ≡ law_commands ps cs → (j : ℕ) (c : law.Command) → command_at b.commands j ≡ Some c → (1 ≤ j) × (j ≤ length cs)
command_number b ps cs all zero c is = cc
command_number b ps cs all (suc i) c is =
    let within : suc i ≤ length b.commands = number_within b.commands (suc i) c is in
    let many : length b.commands ≡ length cs = ap (λ (ds : List law.Command). length ds) all ∙ many_commands ps cs in
    (omega arith, omega (arith, within, many))

-- Whether one may be asked

pub can_ask : (b : Book) (n : Notes) → BookInvariant b n → n.closing ≡ false → n.asked ≡ None → (n.entry_count == b.limit) ≡ false → MayAsk b
can_ask b n k open_ none less = record { answered = sym k.commands.asked ∙ none; not_closing = sym k.commands.closing ∙ open_; runs = less_goes_on b n k less }

pub none_while_closing : (b : Book) (n : Notes) → BookInvariant b n → n.closing ≡ true → MayAsk b → ⊥
none_while_closing b n k shut m = let no : true ≡ false = sym shut ∙ (k.commands.closing ∙ m.not_closing) in cc

pub none_while_asked : (b : Book) (n : Notes) → BookInvariant b n → (j : ℕ) → n.asked ≡ Some j → MayAsk b → ⊥
none_while_asked b n k j is m = let no : Some j ≡ None = sym is ∙ (k.commands.asked ∙ m.answered) in cc

pub none_at_limit : (b : Book) (n : Notes) → BookInvariant b n → (n.entry_count == b.limit) ≡ true → MayAsk b → ⊥
none_at_limit b n k full m = let no : true ≡ false = sym (full_over b n k full) ∙ m.runs in cc

-- Whether it is due

-- behind so many entries of threads
abbrev pub IsNextAt : Book → ℕ → Type 0
IsNextAt b m = (c : law.Command) × ((command_at b.commands (Control.next (front b).control) ≡ Some c) × (c.trigger ≡ at m))

pub is_due : (b : Book) (n : Notes) → BookInvariant b n → MayAsk b → (m : ℕ) → IsNextAt b m → m ≤ n.entry_count → IsDue (setting b) (front b)
is_due b n k may m next late =
    let made : m ≤ thread_entries b.entries = subst (λ z. m ≤ z) k.entry_count late in
    record {
      command = next.0;
      is = next.1.0;
      answered = may.answered;
      not_closing = may.not_closing;
      runs = may.runs;
      triggered = subst (λ z. IsTriggered (setting b) (front b) z) (sym next.1.1) made;
    }

pub is_early : (b : Book) (n : Notes) → BookInvariant b n → (m : ℕ) → IsNextAt b m → n.entry_count < m → IsDue (setting b) (front b) → ⊥
is_early b n k m next early due =
    let same : due.command ≡ next.0 = cc (due.is, next.1.0) in
    let when : due.command.trigger ≡ at m = ap (λ (c : law.Command). c.trigger) same ∙ next.1.1 in
    let made : m ≤ thread_entries b.entries = subst (λ z. IsTriggered (setting b) (front b) z) when due.triggered in
    omega (arith, made, k.entry_count, early)

pub due_may : (b : Book) → IsDue (setting b) (front b) → MayAsk b
due_may b due = record { answered = due.answered; not_closing = due.not_closing; runs = due.runs }

-- Whether a command goes first

pub refused_goes_first : (b : Book) (j : ℕ) (o : Option FilterRefusal) → Control.asked (front b).control ≡ Some j → IsRefusal o (refusal (setting b) (front b).control j) → is_some o ≡ true
    → CommandGoesFirst b
refused_goes_first b j None is why some = cc
refused_goes_first b j (Some r) is why some = inr (in_vain b j (number_and_clause r) is (sym why))

pub accepted_goes_later : (b : Book) (j : ℕ) (o : Option FilterRefusal) → Control.asked (front b).control ≡ Some j → IsRefusal o (refusal (setting b) (front b).control j) → is_some o ≡ false
    → CommandGoesFirst b → ⊥
accepted_goes_later b j None is why none = not_first b j is (sym why)
accepted_goes_later b j (Some r) is why none = cc

pub none_goes_first : (b : Book) (n : Notes) → BookInvariant b n → n.asked ≡ None → (IsDue (setting b) (front b) → ⊥) → CommandGoesFirst b → ⊥
none_goes_first b n k none not_due (inl due) = not_due due
none_goes_first b n k none not_due (inr vain) = let no : None ≡ Some vain.command = sym none ∙ (k.commands.asked ∙ vain.asked) in cc

-- Why a command is refused

abbrev pub name_used : Book → ℕ → Bool
name_used b k = is_name_used (setting b) (front b).control k

abbrev pub many_installed : Book → ℕ
many_installed b = length (Version.active (Control.version (front b).control))

pub refusal_is : (b : Book) (k : ℕ) (c : law.Command) → command_at b.commands k ≡ Some c → refusal (setting b) (front b).control k ≡ refusal_of c.action (name_used b k) (many_installed b)
refusal_is b k c is = ap (refusal_in (setting b) (front b).control k) is

-- an installed filter has the name
pub used : (b : Book) (j k : ℕ) → is_installed (front b).control j ≡ true → have_one_name b.commands j k ≡ true → name_used b k ≡ true
used b j k there named =
    let ks : List ℕ = Version.active (Control.version (front b).control) in
    any_contains (λ i. have_one_name b.commands i k) ks j (has_member ks j there) named

-- a filter that is installed is one of a command
pub active_number : (b : Book) (n : Notes) → BookInvariant b n → (ps : Plans) (cs : List Command) → b.commands ≡ law_commands ps cs → (j : ℕ) → has (Version.active n.version) j ≡ true
    → (1 ≤ j) × (j ≤ length cs)
active_number b n k ps cs all j there =
    let installed : is_installed (front b).control j ≡ true = ap (λ (v : Version). has v.active j) (sym k.version.version) ∙ there in
    let c = k.version.there j installed in
    command_number b ps cs all j c.0 c.1.1.0

pub has_at : (ks : List ℕ) (i : ℕ) → i < length ks → has ks (get_or ks i 0) ≡ true
has_at [] i h = let none : ⊥ = omega (arith, h) in absurd none
has_at (k ∷ ks) zero h = or_left (k == k) (has ks k) (eq-eqb k k refl)
has_at (k ∷ ks) (suc i) h = or_right (k == get_or ks i 0) (has ks (get_or ks i 0)) (has_at ks i (omega (arith, h)))

any_front : (test : ℕ → Bool) (xs : List ℕ) (i : ℕ) → i < length xs → list_any test (take i xs) ≡ false → test (get_or xs i 0) ≡ false → list_any test (take (suc i) xs) ≡ false
any_front test [] i h before here_ = let none : ⊥ = omega (arith, h) in absurd none
any_front test (x ∷ xs) zero h before here_ = or_none (test x) false here_ refl
any_front test (x ∷ xs) (suc i) h before here_ =
    let parts = none_of (test x) (list_any test (take i xs)) before in
    or_none (test x) (list_any test (take (suc i) xs)) parts.0 (any_front test xs i (omega (arith, h)) parts.1 here_)

-- so far, and with one more
pub any_more : (test : ℕ → Bool) (xs : List ℕ) (i : ℕ) → i < length xs → list_any test (take i xs) ≡ false → test (get_or xs i 0) ≡ false → list_any test (take (i + 1) xs) ≡ false
any_more test xs i h before here_ = let next : suc i ≡ i + 1 = omega arith in subst (λ z. list_any test (take z xs) ≡ false) next (any_front test xs i h before here_)

pub any_whole : (test : ℕ → Bool) (xs : List ℕ) (i : ℕ) → length xs ≤ i → list_any test (take i xs) ≡ false → list_any test xs ≡ false
any_whole test [] i h none = refl
any_whole test (x ∷ xs) zero h none = let no_room : ⊥ = omega (arith, h) in absurd no_room
any_whole test (x ∷ xs) (suc i) h none =
    let parts = none_of (test x) (list_any test (take i xs)) none in
    or_none (test x) (list_any test xs) parts.0 (any_whole test xs i (omega (arith, h)) parts.1)

-- what two commands are named
pub names_are : (ds : List law.Command) (i k : ℕ) (f g : Plan) (x y : Command) → command_at ds i ≡ Some (law_command f x) → command_at ds k ≡ Some (law_command g y)
    → have_one_name ds i k ≡ pointwise ◌==◌ x.name y.name
names_are ds i k f g x y one other =
    ap (λ o. pointwise ◌==◌ (name_in o) (name_in (command_at ds k))) one ∙ ap (λ o. pointwise ◌==◌ x.name (name_in o)) other

-- the filters that were gone through are those of the newest version
pub active_installed : (b : Book) (n : Notes) → BookInvariant b n → (ks : List ℕ) (i : ℕ) → ks ≡ Version.active n.version → i < length ks → is_installed (front b).control (get_or ks i 0) ≡ true
active_installed b n k ks i same less =
    let there : has (Version.active n.version) (get_or ks i 0) ≡ true = subst (λ zs. has zs (get_or ks i 0) ≡ true) same (has_at ks i less) in
    ap (λ (v : Version). has v.active (get_or ks i 0)) (sym k.version.version) ∙ there

pub none_named : (b : Book) (n : Notes) → BookInvariant b n → (k : ℕ) (ks : List ℕ) → ks ≡ Version.active n.version → list_any (λ i. have_one_name b.commands i k) ks ≡ false → name_used b k ≡ false
none_named b n i k ks same none = ap (list_any (λ j. have_one_name b.commands j k)) (sym (same ∙ ap Version.active i.version.version)) ∙ none

-- For a removal
pub removal_used : (b : Book) (k : ℕ) (f : Plan) (x : Command) → command_at b.commands k ≡ Some (law_command f x) → x.action ≡ action.Remove → name_used b k ≡ true
    → IsRefusal None (refusal (setting b) (front b).control k)
removal_used b k f x is removes named =
    sym (refusal_is b k (law_command f x) is ∙ (ap (λ y. refusal_of (law_action f y) (name_used b k) (many_installed b)) removes ∙ ap (λ u. refusal_of law.remove u (many_installed b)) named))

pub removal_unused : (b : Book) (k : ℕ) (f : Plan) (x : Command) (r : FilterRefusal) → command_at b.commands k ≡ Some (law_command f x) → x.action ≡ action.Remove → name_used b k ≡ false
    → number_and_clause r ≡ (12, 0) → IsRefusal (Some r) (refusal (setting b) (front b).control k)
removal_unused b k f x r is removes named why =
    ap Some why
    ∙ sym (refusal_is b k (law_command f x) is ∙ (ap (λ y. refusal_of (law_action f y) (name_used b k) (many_installed b)) removes ∙ ap (λ u. refusal_of law.remove u (many_installed b)) named))

-- For an install
install_is : (b : Book) (k : ℕ) (f : Plan) (x : Command) (y : Judged) → command_at b.commands k ≡ Some (law_command f x) → x.action ≡ action.Install y
    → refusal (setting b) (front b).control k ≡ refusal_of (law.install (judgement_of f y)) (name_used b k) (many_installed b)
install_is b k f x y is installs = refusal_is b k (law_command f x) is ∙ ap (λ z. refusal_of (law_action f z) (name_used b k) (many_installed b)) installs

pub install_used : (b : Book) (k : ℕ) (f : Plan) (x : Command) (y : Judged) (r : FilterRefusal) → command_at b.commands k ≡ Some (law_command f x) → x.action ≡ action.Install y → name_used b k ≡ true
    → number_and_clause r ≡ (11, 0) → IsRefusal (Some r) (refusal (setting b) (front b).control k)
install_used b k f x y r is installs named why =
    ap Some why ∙ sym (install_is b k f x y is installs ∙ ap (λ u. refusal_of (law.install (judgement_of f y)) u (many_installed b)) named)

pub install_full : (b : Book) (k : ℕ) (f : Plan) (x : Command) (y : Judged) (r : FilterRefusal) → command_at b.commands k ≡ Some (law_command f x) → x.action ≡ action.Install y → name_used b k ≡ false
    → (many_installed b == filter_limit) ≡ true → number_and_clause r ≡ (14, 0) → IsRefusal (Some r) (refusal (setting b) (front b).control k)
install_full b k f x y r is installs named full why =
    ap Some why
    ∙ sym (install_is b k f x y is installs
    ∙ (ap (λ u. refusal_of (law.install (judgement_of f y)) u (many_installed b)) named ∙ ap (λ u. if u then Some (14, 0) else text_refusal (judgement_of f y)) full))

any_plan : (f : Plan) (y : Judged) → text_refusal (judgement_of no_plan y) ≡ text_refusal (judgement_of f y)
any_plan f (judged.Refused r) = refl
any_plan f (judged.Flags set) = refl

pub install_text : (b : Book) (k : ℕ) (f : Plan) (x : Command) (y : Judged) (o : Option FilterRefusal) → command_at b.commands k ≡ Some (law_command f x) → x.action ≡ action.Install y → name_used b k ≡ false
    → (many_installed b == filter_limit) ≡ false → IsTextRefusal y o → IsRefusal o (refusal (setting b) (front b).control k)
install_text b k f x y o is installs named room why =
    why
    ∙ (any_plan f y
    ∙ sym (install_is b k f x y is installs
    ∙ (ap (λ u. refusal_of (law.install (judgement_of f y)) u (many_installed b)) named ∙ ap (λ u. if u then Some (14, 0) else text_refusal (judgement_of f y)) room)))

-- its text isn't refused
pub text_accepted : (b : Book) (k : ℕ) (f : Plan) (x : Command) (r : FilterRefusal) → command_at b.commands k ≡ Some (law_command f x) → x.action ≡ action.Install (judged.Refused r)
    → refusal (setting b) (front b).control k ≡ None → ⊥
text_accepted b k f x r is installs why = by_name (name_used b k) (sym (install_is b k f x (judged.Refused r) is installs) ∙ why)
  where
    by_room : (c : Bool) → (if c then Some (14, 0) else text_refusal (judgement_of f (judged.Refused r))) ≡ None → ⊥
    by_room true h = cc
    by_room false h = cc

    by_name : (u : Bool) → refusal_of (law.install (judgement_of f (judged.Refused r))) u (many_installed b) ≡ None → ⊥
    by_name true h = cc
    by_name false h = by_room (many_installed b == filter_limit) h
