-- A script is refused at one line at most, and what is refused is no script.
use Rattle.std.proofs.Common.{ℕ, zero, suc, ◌+◌, ◌-◌, ◌<◌, ◌≤◌, ◌≡◌, ◌⊎◌, inl, inr, List, [], ◌∷◌, length, take, Some, None, refl, sym, ap, subst, ◌∙◌, arith}
use Rattle.std.specs.List.{slice_get}
use Rattle.std.proofs.lemmas.Bool.{cases_order}
use Rattle.std.proofs.lemmas.List.{take-take}
use Rattle.loom_command.specs.Script.{ScriptCommand, script_lines, IsSkipped, IsCommandLine, most_commands, AreCommands, IsRefusedScript}
use Rattle.loom_command.specs.Laws.{HasOneRefusedLine, HasNoRefusedScript}
use Rattle.loom_command.proofs.OneScript.{not_skipped}

get_front : {A : Type 0} (xs : List A) (i j : ℕ) → i < j → slice_get (take j xs) i ≡ slice_get xs i
get_front xs i zero l = absurd (omega (arith, l))
get_front [] i (suc j) l = refl
get_front (x ∷ xs) zero (suc j) l = refl
get_front (x ∷ xs) (suc i) (suc j) l = get_front xs i j (omega (arith, l))

-- a line of a script that isn't skipped is a command, one more than those before it
record IsNext (number : ℕ) (line : List ℕ) (cs ds : List ScriptCommand) : Type 0 where
  pub command : ScriptCommand
  pub is : IsCommandLine number line command
  pub more : length cs < length ds

further : (n i : ℕ) (line : List ℕ) (cs ds cs' ds' : List ScriptCommand) → length cs' ≡ length cs + (length ds' - length ds) → length ds ≤ length ds' → IsNext (suc n + i) line cs ds → IsNext (n + suc i) line cs' ds'
further n i line cs ds cs' ds' e l h =
    let number : suc n + i ≡ n + suc i = omega arith in
    record { command = h.command; is = subst (λ z. IsCommandLine z line h.command) number h.is; more = omega (arith, e, l, h.more) }

next_line : (n : ℕ) (ls : List (List ℕ)) (i : ℕ) (line : List ℕ) (cs ds : List ScriptCommand) → AreCommands n (take i ls) cs → AreCommands n ls ds → slice_get ls i ≡ Some line → (IsSkipped line → ⊥)
    → IsNext (n + i) line cs ds
next_line n [] i line cs ds h k e s = let none : None ≡ Some line = e in cc
next_line n (l ∷ ls) zero line cs ds h (inl k) e s = let same : l ≡ line = cc in absurd (s (subst (λ z. IsSkipped z) same k.0))
next_line n (l ∷ ls) zero line cs ds h (inr k) e s =
    let same : l ≡ line = cc in
    let number : n ≡ n + 0 = omega arith in
    let none : length cs ≡ 0 = ap length h in
    let some : length ds ≡ suc (length k.1) = ap length k.2 in
    let P : List ℕ → Type 0 = λ z. IsCommandLine n z k.0 in
    record { command = k.0; is = subst (λ z. IsCommandLine z line k.0) number (subst P same k.3); more = omega (arith, none, some) }
next_line n (l ∷ ls) (suc i) line cs ds (inl h) (inl k) e s = further n i line cs ds cs ds (omega arith) (omega arith) (next_line (suc n) ls i line cs ds h.1 k.1 e s)
next_line n (l ∷ ls) (suc i) line cs ds (inl h) (inr k) e s = absurd (not_skipped n l k.0 k.3 h.0)
next_line n (l ∷ ls) (suc i) line cs ds (inr h) (inl k) e s = absurd (not_skipped n l h.0 h.3 k.0)
next_line n (l ∷ ls) (suc i) line cs ds (inr h) (inr k) e s =
    let a : length cs ≡ suc (length h.1) = ap length h.2 in
    let b : length ds ≡ suc (length k.1) = ap length k.2 in
    further n i line h.1 k.1 cs ds (omega (arith, a, b)) (omega (arith, b)) (next_line (suc n) ls i line h.1 k.1 h.4 k.4 e s)

-- where a script is refused, commands go on no further
stops : (bytes : List ℕ) (n : ℕ) (ds : List ScriptCommand) (h : IsRefusedScript bytes n) → IsNext (1 + (n - 1)) h.line h.commands ds → length ds ≤ most_commands → ⊥
stops bytes n ds h k few = go h.bad.bad
  where
    number : 1 + (n - 1) ≡ n
    number = omega (arith, h.counted)

    go : ((c : ScriptCommand) → IsCommandLine n h.line c → ⊥) ⊎ (most_commands ≤ length h.commands) → ⊥
    go (inl never) = never k.command (subst (λ z. IsCommandLine z h.line k.command) number k.is)
    go (inr many) = omega (arith, many, k.more, few)

earlier : (bytes : List ℕ) (n m : ℕ) → n < m → IsRefusedScript bytes n → IsRefusedScript bytes m → ⊥
earlier bytes n m l h k =
    let less : n - 1 < m - 1 = omega (arith, h.counted) in
    let front = take (m - 1) (script_lines bytes) in
    let before : AreCommands 1 (take (n - 1) front) h.commands = subst (λ z. AreCommands 1 z h.commands) (sym (take-take (n - 1) (m - 1) (script_lines bytes) (omega (arith, less)))) h.before in
    let there : slice_get front (n - 1) ≡ Some h.line = get_front (script_lines bytes) (n - 1) (m - 1) less ∙ h.there in
    stops bytes n k.commands h (next_line 1 front (n - 1) h.line h.commands k.commands before k.before there h.bad.not_skipped) k.few

pub one_refused_line : HasOneRefusedLine
one_refused_line bytes n m h k = elim (cases_order n m) [
  | inl e ↦ e
  | inr o ↦ elim o [ inl l ↦ absurd (earlier bytes n m l h k) | inr l ↦ absurd (earlier bytes m n l k h) ]
]

pub no_refused_script : HasNoRefusedScript
no_refused_script bytes cs n k h = stops bytes n cs h (next_line 1 (script_lines bytes) (n - 1) h.line h.commands cs h.before k.commands h.there h.bad.not_skipped) k.few
