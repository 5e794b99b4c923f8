-- The passes as they are made, and as they are taken in.
use Rattle.std.proofs.Common.{◌≡◌, ℕ, zero, suc, ◌+◌, ◌<◌, List, [], ◌∷◌, ◌++◌, length, get_or, sym, refl, ap, ◌∙◌, subst, arith, append_assoc}
use Rattle.atomic_table.specs.Seated.{TableId}
use Rattle.atomic_table.specs.Table.{Me}
use Rattle.loom_gate.specs.declared.pass.Pass as pass
use Rattle.loom_gate.specs.declared.log.SwitchRow.{SwitchRow}
use Rattle.loom_gate.specs.declared.view.Look.{Look}
use Rattle.loom_gate.specs.declared.view.Look.TheVariants.{Unknown, SawPlace}
use Rattle.loom_gate.specs.declared.view.PassView.{PassView}
use Rattle.loom_gate.specs.declared.view.KeyView.{KeyView}
use Rattle.loom_gate.specs.declared.view.View.{View}
use Rattle.loom_gate.specs.declared.view.View.TheVariants.{Pass, Key}
use Rattle.loom_gate.specs.View.{start, more, joined, pass_of, key_of, place_seen, switch_rows}
use Rattle.loom_gate.proofs.Rows.{length_snoc}
use Rattle.loom_gate.specs.Seats.{IsPassAt, ArePassesFrom, SeenAs}

pub passes_snoc : (id : TableId) (n places t : ℕ) (ps : List pass.Pass) (p : pass.Pass) → ArePassesFrom id n places t ps → p.thread ≡ t + length ps → IsPassAt id n places p → ArePassesFrom id n places t (ps ++ p ∷ [])
passes_snoc id n places t [] p are next is = ((let zero_is : t + 0 ≡ t = omega arith in next ∙ zero_is), is, tt)
passes_snoc id n places t (q ∷ ps) p are next is = (are.0, are.1, passes_snoc id n places (t + 1) ps p are.2 (let e : t + length (q ∷ ps) ≡ (t + 1) + length ps = omega arith in next ∙ e) is)

module _ {S : Type 0} where
  pub new_view : (m : Me S View) (b t : ℕ) → m ≡ (Pass (b + 1) start, []) → b ≡ t → (m ≡ (Pass (t + 1) (pass_of m.0), [])) × (pass_of m.0 ≡ start)
  new_view m b t e d = (e ∙ (λ i. (Pass (d i + 1) (pass_of (sym e i).0), [])), ap (λ (x : Me S View). pass_of x.0) e)

  pub after_split : (m m' : Me S View) (k : KeyView) → m ≡ (Key k, []) → m' ≡ (Key (more (key_of m.0)), m.1) → m' ≡ (Key (more k), [])
  after_split m m' k e d = d ∙ ap (λ (x : Me S View). (Key (more (key_of x.0)), x.1)) e

  pub after_join : (m m' : Me S View) (p : PassView) → m ≡ (Key (key_of m.0), []) → m' ≡ (Key (joined (key_of m.0) p), m.1) → (m' ≡ (Key (key_of m'.0), [])) × (key_of m'.0 ≡ joined (key_of m.0) p)
  after_join m m' p e d = (d ∙ (λ i. (Key (key_of (sym d i).0), (ap (λ (x : Me S View). x.1) e) i)), ap (λ (x : Me S View). key_of x.0) d)

pub nothing_left : {X : Type 0} (l : List X) → length l ≡ 0 → l ≡ []
nothing_left [] h = refl
nothing_left (x ∷ xs) h = absurd (omega arith)

-- the place noted of a thread is the one that was found
pub seen_place : (look : Look) (place q : ℕ) → look ≡ SawPlace q → SeenAs look place → place ≡ place_seen look
seen_place look place q e h = let f : SeenAs (SawPlace q) place = subst (λ (x : Look). SeenAs x place) e h in sym f ∙ sym (ap place_seen e)

pub rows_more : (v : ℕ) (looks : List Look) (t place : ℕ) (old xs ys : List SwitchRow) → ys ≡ xs ++ record { version = v; thread = t + 1; place = place } ∷ []
    → xs ≡ old ++ switch_rows v looks t → place ≡ place_seen (get_or looks (t + 1) Unknown) → ys ≡ old ++ switch_rows v looks (t + 1)
rows_more v looks t place old xs ys e d p =
    let next : suc t ≡ t + 1 = omega arith in
    e ∙ (ap (λ (zs : List SwitchRow). zs ++ record { version = v; thread = t + 1; place = place } ∷ []) d
    ∙ (append_assoc old (switch_rows v looks t) (record { version = v; thread = t + 1; place = place } ∷ [])
    ∙ (ap (λ (x : ℕ). old ++ (switch_rows v looks t ++ record { version = v; thread = t + 1; place = x } ∷ [])) p
    ∙ (ap (λ (x : ℕ). old ++ (switch_rows v looks t ++ record { version = v; thread = x; place = place_seen (get_or looks x Unknown) } ∷ [])) (sym next)
    ∙ ap (λ (k : ℕ). old ++ switch_rows v looks k) next))))

pub rows_length : (v : ℕ) (looks : List Look) (t : ℕ) → length (switch_rows v looks t) ≡ t
rows_length v looks zero = refl
rows_length v looks (suc t) = length_snoc (switch_rows v looks t) record { version = v; thread = suc t; place = place_seen (get_or looks (suc t) Unknown) } ∙ (let h = rows_length v looks t in omega arith)

pub other_default : (xs : List ℕ) (i a b : ℕ) → i < length xs → get_or xs i a ≡ get_or xs i b
other_default [] i a b h = absurd (omega arith)
other_default (x ∷ xs) zero a b h = refl
other_default (x ∷ xs) (suc i) a b h = other_default xs i a b (omega arith)
