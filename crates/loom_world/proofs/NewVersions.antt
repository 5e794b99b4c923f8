-- What a command that isn't refused finds: its filter and room for it, or the filter that it takes out.
use Rattle.std.proofs.Common.{ℕ, ◌<◌, ◌≤◌, ◌≡◌, ◌⊎◌, inl, inr, ◌==◌, Bool, true, false, length, Some, None, refl, sym, ap, ◌∙◌, arith, if◌then◌else◌}
use Rattle.std.proofs.lemmas.Bool.{eq-eqb}
use Rattle.loom_command.specs.Script.{most_commands}
use Rattle.loom_law.specs.Filter.{Plan, has}
use Rattle.loom_law.specs.Walk.{Version}
use Rattle.loom_law.specs.Control.{Judgement, install, remove, means, Command, command_at, Control}
use Rattle.loom_law.specs.Lawful.{filter_limit, text_refusal, refusal_of, refusal, is_installed}
use Rattle.loom_plan.specs.Compiled.{Compiled}
use Rattle.loom_version.specs.Version.{version_limit, AreBelow}
use Rattle.loom_version.specs.Plans.{compiled_at}
use Rattle.loom_ops.specs.Ops.{has_filter}
use Rattle.loom_ops.specs.Laws.{HasSameWords}
use Rattle.loom_ops.proofs.LockReplay.{same_words}
use Rattle.loom_law.specs.Lawful as lawful
use Rattle.loom_world.specs.Book.{Book, setting, front, HasLawfulJournal}
use Rattle.loom_world.specs.BookInvariant.{Notes, latest, BookInvariant}
use Rattle.loom_world.proofs.ControlTurns.{asked_there}
use Rattle.loom_world.proofs.Switches.{accepted}
use Rattle.loom_world.proofs.CommandReadings.{name_used, many_installed, refusal_is}
use Rattle.loom_world.proofs.ControlledBook.{latest_asked}

-- An install

-- the filter of a command
pub record Installs (b : Book) (k : ℕ) : Type 0 where
  pub command : Command
  pub is : command_at b.commands k ≡ Some command
  pub plan : Plan
  pub installs : command.action ≡ install (means plan)

no_removal : (used : Bool) (n : ℕ) → used ≡ false → refusal_of remove used n ≡ None → ⊥
no_removal true n h g = cc
no_removal false n h g = cc

-- where no installed filter has the name
pub installs : (b : Book) → HasLawfulJournal b → (k : ℕ) → Control.asked (front b).control ≡ Some k → refusal (setting b) (front b).control k ≡ None → name_used b k ≡ false → Installs b k
installs b h k asked why unused = by_action (accepted b k there.0 there.1 why)
  where
    there : (c : Command) × (command_at b.commands k ≡ Some c)
    there = asked_there b h k asked

    by_action : ((f : Plan) × (there.0.action ≡ install (means f))) ⊎ (there.0.action ≡ remove) → Installs b k
    by_action (inl x) = record { command = there.0; is = there.1; plan = x.0; installs = x.1 }
    by_action (inr x) =
        let told : refusal_of remove (name_used b k) (many_installed b) ≡ None = ap (λ a. refusal_of a (name_used b k) (many_installed b)) (sym x) ∙ (sym (refusal_is b k there.0 there.1) ∙ why) in
        absurd (no_removal (name_used b k) (many_installed b) unused told)

-- it is there
pub filter_there : (b : Book) → HasLawfulJournal b → (k : ℕ) → Installs b k → (x : Compiled) × (compiled_at b.filters k ≡ Some x)
filter_there b h k x = h.plans.there k x.command x.plan x.is x.installs

not_full : (j : Judgement) (used : Bool) (n : ℕ) → used ≡ false → refusal_of (install j) used n ≡ None → (n == filter_limit) ≡ false
not_full j true n h g = cc
not_full j false n h g = by_test (n == filter_limit) refl g
  where
    by_test : (c : Bool) → (n == filter_limit) ≡ c → (if c then Some (14, 0) else text_refusal j) ≡ None → (n == filter_limit) ≡ false
    by_test true full told = cc
    by_test false less told = less

pub has_room : (b : Book) (k : ℕ) → Installs b k → refusal (setting b) (front b).control k ≡ None → name_used b k ≡ false → (many_installed b == filter_limit) ≡ false
has_room b k x why unused =
    not_full (means x.plan) (name_used b k) (many_installed b) unused
    (ap (λ a. refusal_of a (name_used b k) (many_installed b)) (sym x.installs) ∙ (sym (refusal_is b k x.command x.is) ∙ why))

-- as many locks as filters
many_locks : (b : Book) (n : Notes) → BookInvariant b n → length n.ops.filters ≡ many_installed b
many_locks b n k = HasSameWords.count same_words (lawful.plans (setting b)) (front b).control n.ops k.version.ops

pub is_full : (b : Book) (n : Notes) → BookInvariant b n → (c : Bool) → (length n.ops.filters == filter_limit) ≡ c → (many_installed b == filter_limit) ≡ c
is_full b n k c h = ap (λ z. z == filter_limit) (sym (many_locks b n k)) ∙ h

pub room_for_locks : (b : Book) (n : Notes) → BookInvariant b n → length n.ops.filters ≤ filter_limit → (many_installed b == filter_limit) ≡ false → length n.ops.filters < filter_limit
room_for_locks b n k most less =
    let ne : length n.ops.filters ≡ filter_limit → ⊥ = λ h. (let same : many_installed b ≡ filter_limit = sym (many_locks b n k) ∙ h in let no : true ≡ false = sym (eq-eqb (many_installed b) filter_limit same) ∙ less in cc) in
    omega (arith, ne, most)

pub room_for_filter : (b : Book) (n : Notes) → BookInvariant b n → length n.ops.filters < filter_limit → length (Version.active n.version) < filter_limit
room_for_filter b n k less =
    let same : length (Version.active n.version) ≡ many_installed b = ap (λ (v : Version). length v.active) k.version.version in
    omega (arith, same, many_locks b n k, less)

-- it isn't installed yet
pub below_asked : (b : Book) (n : Notes) → BookInvariant b n → (k : ℕ) → Control.asked (front b).control ≡ Some k → AreBelow k (Version.active n.version)
below_asked b n i k asked j there = let less : j < latest n = i.version.below j there in omega (arith, less, latest_asked b n i k asked)

pub not_locked : (b : Book) (n : Notes) → BookInvariant b n → (k : ℕ) → Control.asked (front b).control ≡ Some k → has_filter n.ops.filters k ≡ false
not_locked b n i k asked = by_test (has_filter n.ops.filters k) refl
  where
    by_test : (c : Bool) → has_filter n.ops.filters k ≡ c → has_filter n.ops.filters k ≡ false
    by_test false h = h
    by_test true h =
        let told : is_installed (front b).control k ≡ true = sym (HasSameWords.installed same_words (lawful.plans (setting b)) (front b).control n.ops k i.version.ops) ∙ h in
        let there : has (Version.active n.version) k ≡ true = ap (λ (v : Version). has v.active k) i.version.version ∙ told in
        let less : k < k = below_asked b n i k asked k there in
        absurd (let no : ⊥ = omega (arith, less) in no)

-- There are fewer changes than may be.
pub few_changes : (b : Book) (n : Notes) → BookInvariant b n → (k : ℕ) → Control.asked (front b).control ≡ Some k → Version.number n.version < version_limit
few_changes b n i k asked =
    let less : Version.number n.version < latest n = i.version.number in
    let before = i.commands.before k (i.commands.asked ∙ asked) in
    omega (arith, less, latest_asked b n i k asked, before.1, i.commands.last, i.commands.few)

pub few_commands : (b : Book) (n : Notes) → BookInvariant b n → (k : ℕ) → Control.asked (front b).control ≡ Some k → (1 ≤ k) × (k ≤ most_commands)
few_commands b n i k asked =
    let before = i.commands.before k (i.commands.asked ∙ asked) in
    (before.0, omega (arith, before.1, i.commands.last, i.commands.few))

-- A removal

pub record Removes (b : Book) (k : ℕ) : Type 0 where
  pub command : Command
  pub is : command_at b.commands k ≡ Some command
  pub removes : command.action ≡ remove

no_install : (j : Judgement) (used : Bool) (n : ℕ) → used ≡ true → refusal_of (install j) used n ≡ None → ⊥
no_install j true n h g = cc
no_install j false n h g = cc

-- where an installed filter has the name
pub removes : (b : Book) → HasLawfulJournal b → (k : ℕ) → Control.asked (front b).control ≡ Some k → refusal (setting b) (front b).control k ≡ None → name_used b k ≡ true → Removes b k
removes b h k asked why named = by_action (accepted b k there.0 there.1 why)
  where
    there : (c : Command) × (command_at b.commands k ≡ Some c)
    there = asked_there b h k asked

    by_action : ((f : Plan) × (there.0.action ≡ install (means f))) ⊎ (there.0.action ≡ remove) → Removes b k
    by_action (inr x) = record { command = there.0; is = there.1; removes = x }
    by_action (inl x) =
        let told : refusal_of (install (means x.0)) (name_used b k) (many_installed b) ≡ None = ap (λ a. refusal_of a (name_used b k) (many_installed b)) (sym x.1) ∙ (sym (refusal_is b k there.0 there.1) ∙ why) in
        absurd (no_install (means x.0) (name_used b k) (many_installed b) named told)
