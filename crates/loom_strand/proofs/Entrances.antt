-- Functions and where they begin.
use Rattle.std.proofs.Common.{ℕ, suc, zero, ◌+◌, ◌≡◌, ◌<◌, List, [], ◌∷◌, Option, Some, None, refl, sym, ap, subst, ◌∙◌, slice_get, get_or, length}
use Rattle.std.specs.Prelude.{option_map}
use Rattle.std.proofs.lemmas.Option.{slice_get_within, slice_get-get_or}
use Rattle.loom_tree.specs.Tree.{Function, Source}
use Rattle.loom_lang.specs.Rules.{locals_of}
use Rattle.loom_lang.specs.Places.{entry, places, place_at, line_of_place, line_of_function}
use Rattle.loom_flow.specs.declared.code.Entrance.{Entrance}
use Rattle.loom_flow.specs.Flow.{Flow}
use Rattle.loom_flow.specs.FlatCode.{size, place_count, entrances}
use Rattle.loom_flow.specs.Code.{IsLowered}
use Rattle.loom_flow.proofs.FlowLaws.{instructions_of, as_many_sites}

-- Each function has its entrance.

entrance_of_function : (p : Source) (at place : ℕ) (fs : List Function) (n : ℕ) (g : Function) → slice_get fs n ≡ Some g → (e : Entrance) × (slice_get (entrances p at place fs) n ≡ Some e)
entrance_of_function p at place [] n g e = let no : ◌≡◌ {A = Option Function} None (Some g) = e in absurd (let x : ⊥ = cc in x)
entrance_of_function p at place (f ∷ fs) zero g e = (record { start = at; place = place; params = length f.params }, refl)
entrance_of_function p at place (f ∷ fs) (suc n) g e = entrance_of_function p (suc (at + size p (locals_of f) f.body)) (suc (suc (place + place_count f.body))) fs n g e

pub has_entrance : (c : Flow) (n : ℕ) (g : Function) → IsLowered c → slice_get c.program.funcs n ≡ Some g → (e : Entrance) × (slice_get c.entrances n ≡ Some e)
has_entrance c n g l h =
    let there : (e : Entrance) × (slice_get (entrances c.program 0 1 c.program.funcs) n ≡ Some e) = entrance_of_function c.program 0 1 c.program.funcs n g h in
    (there.0, ap (λ (z : Flow). slice_get z.entrances n) l.is ∙ there.1)

pub entrance_within : (c : Flow) (n : ℕ) (g : Function) → IsLowered c → slice_get c.program.funcs n ≡ Some g → n < length c.entrances
entrance_within c n g l h = let there = has_entrance c n g l h in slice_get_within c.entrances n there.0 there.1

as_many : (p : Source) (at place : ℕ) (fs : List Function) → length (entrances p at place fs) ≡ length fs
as_many p at place [] = refl
as_many p at place (f ∷ fs) = ap suc (as_many p (suc (at + size p (locals_of f) f.body)) (suc (suc (place + place_count f.body))) fs)

pub entrances_within : (c : Flow) (n : ℕ) → IsLowered c → n < length c.program.funcs → n < length c.entrances
entrances_within c n l h = subst (λ m. n < m) (sym (ap (λ (z : Flow). length z.entrances) l.is ∙ as_many c.program 0 1 c.program.funcs)) h

pub as_many_entrances : (c : Flow) → IsLowered c → length c.entrances ≡ length c.program.funcs
as_many_entrances c l = ap (λ (z : Flow). length z.entrances) l.is ∙ as_many c.program 0 1 c.program.funcs

-- the one that stands at a function's number in the list that was handed out
pub entrance_at : (c : Flow) (es : List Entrance) (n : ℕ) (d : Entrance) → IsLowered c → es ≡ c.entrances → n < length c.program.funcs → slice_get c.entrances n ≡ Some (get_or es n d)
entrance_at c es n d l is h = ap (λ xs. slice_get xs n) (sym is) ∙ slice_get-get_or es n d (subst (λ xs. n < length xs) (sym is) (entrances_within c n l h))

-- Its place has the line of the function.

entered_at : (c : Flow) (n : ℕ) (e : Entrance) → IsLowered c → slice_get c.entrances n ≡ Some e → place_at c.program e.place ≡ Some (entry n)
entered_at c n e l h = (instructions_of c c.program l refl).entrances n e h

pub entrance_place : (c : Flow) (n : ℕ) (e : Entrance) → IsLowered c → slice_get c.entrances n ≡ Some e → e.place < length c.sites
entrance_place c n e l h =
    subst (λ m. e.place < m) (sym (as_many_sites c l)) (slice_get_within (places c.program) e.place (entry n) (entered_at c n e l h))

same_line : (m n : ℕ) → ◌≡◌ {A = Option ℕ} (Some m) (Some n) → m ≡ n
same_line m n e = cc

pub entrance_line : (c : Flow) (n m : ℕ) (e : Entrance) → IsLowered c → slice_get c.entrances n ≡ Some e
    → option_map (line_of_place c.program) (place_at c.program e.place) ≡ Some m → m ≡ line_of_function (slice_get c.program.funcs n)
entrance_line c n m e l h is = sym (same_line (line_of_function (slice_get c.program.funcs n)) m (sym (ap (option_map (line_of_place c.program)) (entered_at c n e l h)) ∙ is))
