-- Versions, and what a change makes of one.
use Rattle.std.specs.Prelude.{ℕ, suc, ◌==◌, ◌≡◌, ◌<◌, ◌≤◌, true, not, List, [], ◌∷◌, ◌++◌, length, refl}
use Rattle.std.specs.List.{filter}
use Rattle.std.specs.Coded.{Coded, code_by, coded×, coded_ℕ, coded_list}
use Rattle.loom_lang.specs.Rules.{is_ascending}
use Rattle.loom_command.specs.Script.{most_commands}
use Rattle.loom_law.specs.Filter.{has}
use Rattle.loom_law.specs.Walk.{Version}
use Rattle.loom_law.specs.Lawful.{filter_limit}
use Rattle.loom_version.specs.declared.limits.TheConstants.{VERSION_LIMIT}

-- how many changes there may be
abbrev pub version_limit : ℕ
version_limit = VERSION_LIMIT

abbrev pub version_code : Coded Version
version_code = code_by (ℕ × List ℕ) (coded× coded_ℕ (coded_list coded_ℕ)) (λ v. (v.number, v.active)) (λ p. record { number = p.0; active = p.1 }) (λ _. refl)

-- each of these numbers is below n
abbrev pub AreBelow : ℕ → List ℕ → Type 0
AreBelow n ks = (j : ℕ) → has ks j ≡ true → j < n

-- The filters of a version are those of commands that a script can have, in the order of the script, and no more than may be installed.
pub record IsVersion (v : Version) : Type 0 where
  pub number : v.number ≤ version_limit
  pub few : length v.active ≤ filter_limit
  pub ascending : is_ascending 0 v.active ≡ true
  pub commands : AreBelow (suc most_commands) v.active

-- the next version: command k has installed its filter
abbrev pub version_with : Version → ℕ → Version
version_with v k = record { number = suc v.number; active = v.active ++ k ∷ [] }

abbrev pub without_number : ℕ → List ℕ → List ℕ
without_number k ks = filter (λ (j : ℕ). not (j == k)) ks

-- the next version: the filter of command k was removed
abbrev pub version_without : Version → ℕ → Version
version_without v k = record { number = suc v.number; active = without_number k v.active }
