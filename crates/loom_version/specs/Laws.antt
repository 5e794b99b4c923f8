-- Versions are those of the journal.
use Rattle.std.specs.Prelude.{ℕ, suc, ◌≡◌, ◌<◌, true, false, List, [], ◌∷◌, ◌++◌}
use Rattle.std.specs.List.{list_any}
use Rattle.loom_trace.specs.declared.entry.Entry.TheVariants as e
use Rattle.loom_law.specs.Filter.{has}
use Rattle.loom_law.specs.Walk.{Version}
use Rattle.loom_law.specs.Control.{Command, have_one_name, Control, after_entry}
use Rattle.loom_version.specs.Version.{AreBelow, version_with, without_number, version_without}

-- No two of these commands have one name.
abbrev pub HaveOwnNames : List Command → List ℕ → Type 0
HaveOwnNames cs ks = (i j : ℕ) → has ks i ≡ true → has ks j ≡ true → have_one_name cs i j ≡ true → i ≡ j

-- Behind an install the version is the one with the command's filter.
abbrev pub HasVersionBehindInstall : Type 0
HasVersionBehindInstall = (cs : List Command) (c : Control) (k : ℕ) (row : List ℕ)
    → Control.version (after_entry cs c (e.Installed k (suc (Version.number c.version)) row)) ≡ version_with c.version k

-- Behind a removal it is the one without the filter of that name, where installed filters have names of their own.
abbrev pub HasVersionBehindRemoval : Type 0
HasVersionBehindRemoval = (cs : List Command) (c : Control) (j k : ℕ) (row : List ℕ) → HaveOwnNames cs (Version.active c.version)
    → has (Version.active c.version) j ≡ true → have_one_name cs j k ≡ true
    → Control.version (after_entry cs c (e.Removed k (suc (Version.number c.version)) row)) ≡ version_without c.version j

-- Names stay their own, where no installed filter has the name of the new one.
pub record HaveNamesBehind (cs : List Command) (ks : List ℕ) (k : ℕ) : Type 0 where
  pub install : list_any (λ (j : ℕ). have_one_name cs j k) ks ≡ false → HaveOwnNames cs (ks ++ k ∷ [])
  pub removal : HaveOwnNames cs (without_number k ks)

abbrev pub HasOwnNames : Type 0
HasOwnNames = (cs : List Command) (ks : List ℕ) (k : ℕ) → HaveOwnNames cs ks → HaveNamesBehind cs ks k

-- Installed filters are those of commands below the next one.
pub record AreBelowBehind (n : ℕ) (ks : List ℕ) (k : ℕ) : Type 0 where
  pub install : k < n → AreBelow n (ks ++ k ∷ [])
  pub removal : AreBelow n (without_number k ks)

abbrev pub HasNumbersBelow : Type 0
HasNumbersBelow = (n : ℕ) (ks : List ℕ) (k : ℕ) → AreBelow n ks → AreBelowBehind n ks k
