-- The lines of a script are where the code cuts it.
use Rattle.std.proofs.Common.{ℕ, suc, ◌+◌, ◌-◌, ◌<◌, ◌≤◌, ◌≡◌, Bool, true, false, not, nat_eq, nat_lt, if◌then◌else◌, List, [], ◌∷◌, ◌++◌, length, take, drop, get_or, inl, inr, refl, sym, ap, ◌∙◌, append-nil, append_assoc, drop-drop, length-drop, arith}
use Rattle.std.proofs.lemmas.Bool.{lt-ltb, le-ltb, le-leb, lt-leb, eq-eqb, ne_eqb, cases_lt}
use Rattle.std.proofs.lemmas.List.{take_all, take_more}
use Rattle.loom_lexer.specs.Scan.{run_len}
use Rattle.loom_command.specs.Script.{without_return, lines_from, script_lines}
use Rattle.loom_script.specs.Lines.{is_inside_line, line_text, lines_left}

-- the lines, where the first one ends behind so many of the bytes
abbrev pub cut_lines : List ℕ → List ℕ → ℕ → List (List ℕ)
cut_lines so_far bs n = if nat_lt n (length bs) then without_return (so_far ++ take n bs) ∷ lines_from [] (drop (suc n) bs) else (so_far ++ bs) ∷ []

cut_here : (so_far bs : List ℕ) (n : ℕ) → n < length bs → cut_lines so_far bs n ≡ without_return (so_far ++ take n bs) ∷ lines_from [] (drop (suc n) bs)
cut_here so_far bs n l = rw (lt-ltb n (length bs) l) refl

cut_last : (so_far bs : List ℕ) (n : ℕ) → length bs ≤ n → cut_lines so_far bs n ≡ (so_far ++ bs) ∷ []
cut_last so_far bs n l = rw (le-ltb n (length bs) l) refl

-- a byte more of the first line
cut_on : (so_far : List ℕ) (b : ℕ) (bs : List ℕ) (n : ℕ) → cut_lines (so_far ++ b ∷ []) bs n ≡ cut_lines so_far (b ∷ bs) (suc n)
cut_on so_far b bs n = elim (cases_lt n (length bs)) [
  | inl l ↦
      cut_here (so_far ++ b ∷ []) bs n l
      ∙ ap (λ z. without_return z ∷ lines_from [] (drop (suc n) bs)) (append_assoc so_far (b ∷ []) (take n bs))
      ∙ sym (cut_here so_far (b ∷ bs) (suc n) (omega (arith, l)))
  | inr l ↦ cut_last (so_far ++ b ∷ []) bs n l ∙ ap (λ z. z ∷ []) (append_assoc so_far (b ∷ []) bs) ∙ sym (cut_last so_far (b ∷ bs) (suc n) (omega (arith, l)))
]

lines_cut : (so_far bs : List ℕ) → lines_from so_far bs ≡ cut_lines so_far bs (run_len is_inside_line bs)
lines_cut so_far [] = ap (λ z. z ∷ []) (sym (append-nil so_far)) ∙ sym (cut_last so_far [] 0 (omega arith))
lines_cut so_far (b ∷ bs) = go (nat_eq b 10) (lines_cut (so_far ++ b ∷ []) bs)
  where
    go : (v : Bool) → lines_from (so_far ++ b ∷ []) bs ≡ cut_lines (so_far ++ b ∷ []) bs (run_len is_inside_line bs)
        → (if v then without_return so_far ∷ lines_from [] bs else lines_from (so_far ++ b ∷ []) bs) ≡ cut_lines so_far (b ∷ bs) (if not v then suc (run_len is_inside_line bs) else 0)
    go true again = sym (cut_here so_far (b ∷ bs) 0 (omega arith) ∙ ap (λ z. without_return z ∷ lines_from [] bs) (append-nil so_far))
    go false again = again ∙ cut_on so_far b bs (run_len is_inside_line bs)

-- From a place on

pub left_some : (bytes : List ℕ) (at : ℕ) → at ≤ length bytes → lines_left bytes at ≡ script_lines (drop at bytes)
left_some bytes at l = rw (le-leb at (length bytes) l) refl

pub left_none : (bytes : List ℕ) (at : ℕ) → length bytes < at → lines_left bytes at ≡ []
left_none bytes at l = rw (lt-leb at (length bytes) l) refl

text_here : (bytes : List ℕ) (at end : ℕ) → end < length bytes → line_text bytes at end ≡ without_return (take (end - at) (drop at bytes))
text_here bytes at end l = rw (lt-ltb end (length bytes) l) refl

text_last : (bytes : List ℕ) (at end : ℕ) → length bytes ≤ end → line_text bytes at end ≡ take (end - at) (drop at bytes)
text_last bytes at end l = rw (le-ltb end (length bytes) l) refl

-- with the number of bytes between the place and the end
lines_at : (bytes : List ℕ) (at end n : ℕ) → at ≤ length bytes → end ≡ at + n → cut_lines [] (drop at bytes) n ≡ line_text bytes at end ∷ lines_left bytes (end + 1)
lines_at bytes at end n l e = elim (cases_lt n (length (drop at bytes))) [
  | inl s ↦
      let rest : length (drop at bytes) ≡ length bytes - at = length-drop at bytes in
      let inside : end < length bytes = omega (arith, e, s, rest) in
      let size : end - at ≡ n = omega (arith, e) in
      let text : without_return (take n (drop at bytes)) ≡ line_text bytes at end = sym (text_here bytes at end inside ∙ ap (λ z. without_return (take z (drop at bytes))) size) in
      let place : at + suc n ≡ end + 1 = omega (arith, e) in
      let behind : script_lines (drop (suc n) (drop at bytes)) ≡ lines_left bytes (end + 1) =
      ap script_lines (drop-drop (suc n) at bytes ∙ ap (λ z. drop z bytes) place) ∙ sym (left_some bytes (end + 1) (omega (arith, inside))) in
      cut_here [] (drop at bytes) n s ∙ ap (λ z. z ∷ script_lines (drop (suc n) (drop at bytes))) text ∙ ap (λ z. line_text bytes at end ∷ z) behind
  | inr s ↦
      let rest : length (drop at bytes) ≡ length bytes - at = length-drop at bytes in
      let beyond : length bytes ≤ end = omega (arith, e, s, rest, l) in
      let size : end - at ≡ n = omega (arith, e) in
      let text : line_text bytes at end ≡ drop at bytes = text_last bytes at end beyond ∙ ap (λ z. take z (drop at bytes)) size ∙ take_all n (drop at bytes) s in
      let behind : lines_left bytes (end + 1) ≡ [] = left_none bytes (end + 1) (omega (arith, beyond)) in
      cut_last [] (drop at bytes) n s ∙ ap (λ z. z ∷ []) (sym text) ∙ ap (λ z. line_text bytes at end ∷ z) (sym behind)
]

pub lines_there : (bytes : List ℕ) (at end : ℕ) → at ≤ length bytes → end ≡ at + run_len is_inside_line (drop at bytes) → lines_left bytes at ≡ line_text bytes at end ∷ lines_left bytes (end + 1)
lines_there bytes at end l e = left_some bytes at l ∙ lines_cut [] (drop at bytes) ∙ lines_at bytes at end (run_len is_inside_line (drop at bytes)) l e

-- The CR at the end of a line

return_last : (xs : List ℕ) (b : ℕ) → nat_eq b 13 ≡ true → without_return (xs ++ b ∷ []) ≡ xs
return_last [] b h = rw h refl
return_last (x ∷ []) b h = ap (λ z. x ∷ z) (return_last [] b h)
return_last (x ∷ y ∷ xs) b h = ap (λ z. x ∷ z) (return_last (y ∷ xs) b h)

other_last : (xs : List ℕ) (b : ℕ) → nat_eq b 13 ≡ false → without_return (xs ++ b ∷ []) ≡ xs ++ b ∷ []
other_last [] b h = rw h refl
other_last (x ∷ []) b h = ap (λ z. x ∷ z) (other_last [] b h)
other_last (x ∷ y ∷ xs) b h = ap (λ z. x ∷ z) (other_last (y ∷ xs) b h)

-- a list and its last element
pub last_apart : (xs : List ℕ) → 0 < length xs → xs ≡ take (length xs - 1) xs ++ get_or xs (length xs - 1) 0 ∷ []
last_apart xs l =
    let size : length xs - 1 + 1 ≡ length xs = omega (arith, l) in
    sym (take_all (length xs) xs (omega arith)) ∙ ap (λ z. take z xs) (sym size) ∙ take_more xs (length xs - 1) 0 (omega (arith, l))

pub return_there : (line : List ℕ) → 0 < length line → get_or line (length line - 1) 0 ≡ 13 → take (length line - 1) line ≡ without_return line
return_there line l h =
    let last = get_or line (length line - 1) 0 in
    sym (return_last (take (length line - 1) line) last (eq-eqb last 13 h)) ∙ ap without_return (sym (last_apart line l))

pub no_return_there : (line : List ℕ) → 0 < length line → (get_or line (length line - 1) 0 ≡ 13 → ⊥) → line ≡ without_return line
no_return_there line l h =
    let last = get_or line (length line - 1) 0 in
    last_apart line l ∙ sym (other_last (take (length line - 1) line) last (ne_eqb last 13 h)) ∙ ap without_return (sym (last_apart line l))
