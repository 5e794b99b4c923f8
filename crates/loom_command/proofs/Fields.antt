-- A line has its fields in one way.
use Rattle.std.proofs.Common.{ℕ, ◌≡◌, Bool, true, false, not, List, [], ◌∷◌, ◌++◌, refl, sym, ap, ◌∙◌}
use Rattle.loom_lexer.specs.Lexeme.{Each, BeginsWithout}
use Rattle.loom_lexer.proofs.Unique.{one_cut}
use Rattle.loom_command.specs.FilterText.{is_blank}
use Rattle.loom_command.specs.Script.{is_dark, IsField}

pub same_behind : (xs ys zs : List ℕ) → xs ++ ys ≡ xs ++ zs → ys ≡ zs
same_behind [] ys zs e = e
same_behind (x ∷ xs) ys zs e = same_behind xs ys zs (let t : xs ++ ys ≡ xs ++ zs = cc in t)

-- blanks end where a field begins
dark_stops : (f more : List ℕ) → IsField f → BeginsWithout is_blank (f ++ more)
dark_stops [] more h = absurd h
dark_stops (b ∷ bs) more h = go (is_blank b) refl h.0
  where
    go : (c : Bool) → is_blank b ≡ c → not (is_blank b) ≡ true → is_blank b ≡ false
    go true e g = cc
    go false e g = e

field_each : (f : List ℕ) → IsField f → Each is_dark f
field_each [] h = absurd h
field_each (b ∷ bs) h = h

-- the first field and what is behind it
pub record SameField (f g xs ys : List ℕ) : Type 0 where
  pub field : f ≡ g
  pub behind : xs ≡ ys

pub one_field : (ps bs f g xs ys : List ℕ) → Each is_blank ps → Each is_blank bs → IsField f → IsField g → BeginsWithout is_dark xs → BeginsWithout is_dark ys
    → ps ++ (f ++ xs) ≡ bs ++ (g ++ ys) → SameField f g xs ys
one_field ps bs f g xs ys ha hb hf hg hx hy e =
    let blanks : ps ≡ bs = one_cut is_blank ps bs (f ++ xs) (g ++ ys) ha hb (dark_stops f xs hf) (dark_stops g ys hg) e in
    let behind : f ++ xs ≡ g ++ ys = same_behind bs (f ++ xs) (g ++ ys) (ap (λ z. z ++ (f ++ xs)) (sym blanks) ∙ e) in
    let field : f ≡ g = one_cut is_dark f g xs ys (field_each f hf) (field_each g hg) hx hy behind in
    record { field = field; behind = same_behind g xs ys (ap (λ z. z ++ xs) (sym field) ∙ behind) }

-- a line that has a field isn't blank
pub has_dark : (ps f xs : List ℕ) → IsField f → Each is_blank (ps ++ (f ++ xs)) → ⊥
has_dark [] [] xs h e = absurd h
has_dark [] (b ∷ bs) xs h e = let d = h.0 in let g = e.0 in let n : not (is_blank b) ≡ not true = ap not g in cc
has_dark (a ∷ ps) f xs h e = has_dark ps f xs h e.1
