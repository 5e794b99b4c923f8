use Rattle.std.proofs.Common.{◌≡◌, ◌≤◌, ◌-◌, true, false, List, ℕ, [], ◌∷◌, length, take, drop, arith, Bor, refl, sym, subst}
use Rattle.loom_top.specs.Invocation.{IsFileName}
use Rattle.loom_top.proofs.Words.{texts, word_at, if_none, one_and_others, no_run_with_script, no_run_alone, no_first_file}
use Rattle.loom_top.proofs.invocation.run_by.Goals as goal

pub returns-in_err-limit_by-in-len1-up-clause-none : goal.returns-in_err-limit_by-in-len1-up-clause-none
returns-in_err-limit_by-in-len1-up-clause-none c =
    let none : Bor (List ℕ) = record { ref_ptr = (0, 0); now = [] } in
    let ws : List (Bor (List ℕ)) = c.args.words.now in
    let behind : List (Bor (List ℕ)) = take (length ws - 1) (drop 1 ws) in
    let these : texts ws ≡ word_at ws none 0 ∷ texts behind = one_and_others ws none (omega (arith, c.in-len1-up.len_at_least)) in
    let P : List ℕ → Type 0 = λ z. IsFileName z in
    let file : IsFileName (word_at ws none 0) = subst P c.as_bytes.ensures.value (c.if-is_file_name.ensures.0 refl) in
    if_none c.from_residual.result (no_run_with_script (word_at ws none 0) (texts behind) (texts ws) these file c.in_err-limit_by-in-len1-up.ensures.none)

pub returns-in_err-limit_by-in_default-clause-none : goal.returns-in_err-limit_by-in_default-clause-none
returns-in_err-limit_by-in_default-clause-none c =
    let none : Bor (List ℕ) = record { ref_ptr = (0, 0); now = [] } in
    let ws : List (Bor (List ℕ)) = c.args.words.now in
    let P : List ℕ → Type 0 = λ z. IsFileName z in
    let first : 1 ≤ length ws → IsFileName (word_at ws none 0) → ⊥ = λ l h.
    let told : c.is_file_name.result ≡ true = c.is_file_name.ensures.1 (subst P (sym c.as_bytes.ensures.value) h) in
    let no : c.is_file_name.result ≡ false = c.if-is_file_name.false in
    absurd cc in
    if_none c.from_residual-in_err-limit_by-in_default.result (no_run_alone (texts ws) (no_first_file ws none first) c.in_err-limit_by-in_default.ensures.none)
