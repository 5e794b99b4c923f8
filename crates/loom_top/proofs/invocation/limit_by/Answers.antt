use Rattle.std.proofs.Common.{◌≡◌, List, ℕ, ◌∷◌, [], arith, Bor, codes, inl, inr}
use Rattle.std.specs.Cmp.Lexicographic.{same_text}
use Rattle.loom_top.proofs.Words.{texts, word_at, two_words, limit_given, no_limit_if_none, limit_shape}
use Rattle.loom_top.proofs.invocation.limit_by.Goals as goal

pub returns-in-len2-clause-found : goal.returns-in-len2-clause-found
returns-in-len2-clause-found c =
    let none : Bor (List ℕ) = record { ref_ptr = (0, 0); now = [] } in
    let ws : List (Bor (List ℕ)) = c.args.words.now in
    let these : texts ws ≡ word_at ws none 0 ∷ word_at ws none 1 ∷ [] = two_words ws none (omega (arith, c.in-len2.len_below, c.in-len2.len_at_least)) in
    let first : word_at ws none 0 ≡ codes "--steps" = same_text _ _ c.if-eq.ensures in
    let is : texts ws ≡ codes "--steps" ∷ word_at ws none 1 ∷ [] = cc in
    limit_given (texts ws) (word_at ws none 1) c.limit_of.result is c.limit_of.ensures.written c.limit_of.ensures.least c.limit_of.ensures.most

pub returns-in-len2-clause-none : goal.returns-in-len2-clause-none
returns-in-len2-clause-none c =
    let none : Bor (List ℕ) = record { ref_ptr = (0, 0); now = [] } in
    let ws : List (Bor (List ℕ)) = c.args.words.now in
    let these : texts ws ≡ word_at ws none 0 ∷ word_at ws none 1 ∷ [] = two_words ws none (omega (arith, c.in-len2.len_below, c.in-len2.len_at_least)) in
    let first : word_at ws none 0 ≡ codes "--steps" = same_text _ _ c.if-eq.ensures in
    let is : texts ws ≡ codes "--steps" ∷ word_at ws none 1 ∷ [] = cc in
    no_limit_if_none (texts ws) (word_at ws none 1) c.limit_of.result is c.limit_of.ensures.none

pub returns-in_default-clause-none : goal.returns-in_default-clause-none
returns-in_default-clause-none c limit h =
    elim (limit_shape c.args.words.now (record { ref_ptr = (0, 0); now = [] }) limit h) [
      | inl e ↦ omega (arith, e, c.in_default.len_at_least)
      | inr e ↦ omega (arith, e.0, c.in_default.len_below)
    ]
