-- Rows of cells, of which the first are in use.
use Rattle.std.proofs.Common.{ℕ, suc, ◌+◌, ◌-◌, ◌<◌, ◌≡◌, List, ◌∷◌, length, get_or, drop, replicate, slice_set, sym, ap, ◌∙◌, arith, add-one, drop-cons}
use Rattle.std.proofs.lemmas.List.{length-set, drop-set-lt}
use Rattle.loom_trace.specs.Rows.{IsRow}

rest_set : {A : Type 0} (unused : A) (cells : List A) (len k : ℕ) (v : A) → len < length cells → drop len cells ≡ replicate (suc k) unused → drop (len + 1) (slice_set cells len v) ≡ replicate k unused
rest_set unused cells len k v h e =
    let a : get_or cells len unused ∷ drop (suc len) cells ≡ unused ∷ replicate k unused = sym (drop-cons cells len unused h) ∙ e in
    let b : drop (suc len) cells ≡ replicate k unused = cc in
    rw (drop-set-lt (len + 1) cells len v (omega arith), add-one) b

-- one more cell is in use
pub row_push : {A : Type 0} (unused : A) (most : ℕ) (cells : List A) (len : ℕ) (v : A) → IsRow unused most cells len → len < most → IsRow unused most (slice_set cells len v) (len + 1)
row_push unused most cells len v h room =
    let k : most - len ≡ suc (most - (len + 1)) = omega (arith, room) in
    record {
      within = omega (arith, room);
      whole = length-set cells len v ∙ h.whole;
      rest = rest_set unused cells len (most - (len + 1)) v (omega (arith, h.whole, room)) (h.rest ∙ ap (λ (n : ℕ). replicate n unused) k);
    }
