-- The lines of a block.
use Rattle.std.proofs.Common.{ℕ, suc, ◌+◌, ◌≡◌, List, [], ◌∷◌, ◌++◌, codes, refl, sym, ap, subst, ◌∙◌, append_assoc, add-one}
use Rattle.loom_tree.specs.declared.statement.Kind.{Kind}
use Rattle.loom_tree.specs.declared.statement.Kind.TheVariants as k
use Rattle.loom_tree.specs.Tree.{Expression, Body, end, if_, while_, behind}
use Rattle.loom_tree.specs.Lines.{ended}
use Rattle.loom_lang.specs.WellFormed.{IsWellFormedBlock}
use Rattle.loom_lang.specs.Canonical.{expression_text, indented, else_lines, body_text_lines}

pub ended_append : (xs ys : List (List ℕ)) → ended (xs ++ ys) ≡ ended xs ++ ended ys
ended_append [] ys = refl
ended_append (x ∷ xs) ys = ap (λ z. x ++ 10 ∷ z) (ended_append xs ys) ∙ sym (append_assoc x (10 ∷ ended xs) (ended ys))

-- the lines of a statement, and those behind it
lines_behind : (n l : ℕ) (s : Kind) (rest : Body) → body_text_lines n (behind l s rest) ≡ body_text_lines n (behind 0 s end) ++ body_text_lines n rest
lines_behind n l (k.If e a b) rest = simp append_assoc
lines_behind n l (k.While e a) rest = simp append_assoc
lines_behind n l _ rest = refl

-- one statement more is written
pub block_more : (n l : ℕ) (s : Kind) (all rest : Body) (old new : List ℕ) → all ≡ behind l s rest → new ≡ old ++ ended (body_text_lines n (behind 0 s end)) → new ++ ended (body_text_lines n rest) ≡ old ++ ended (body_text_lines n all)
block_more n l s all rest old new e h =
    ap (λ z. z ++ ended (body_text_lines n rest)) h
    ∙ append_assoc old (ended (body_text_lines n (behind 0 s end))) (ended (body_text_lines n rest))
    ∙ ap (λ z. old ++ z) (sym (ended_append (body_text_lines n (behind 0 s end)) (body_text_lines n rest)) ∙ ap ended (sym (lines_behind n l s rest) ∙ ap (body_text_lines n) (sym e)))

-- Its form

form_behind : (n l : ℕ) (s : Kind) (rest : Body) → IsWellFormedBlock n (behind l s rest) → IsWellFormedBlock n (behind 0 s end) × IsWellFormedBlock n rest
form_behind n l (k.Let x e) rest h = ((h.0, tt), h.1)
form_behind n l (k.Set x e) rest h = ((h.0, tt), h.1)
form_behind n l (k.SetCell x i e) rest h = ((h.0, tt), h.1)
form_behind n l (k.If e a b) rest h = ((h.0, tt), h.1)
form_behind n l (k.While e a) rest h = ((h.0, tt), h.1)
form_behind n l (k.Call f es) rest h = ((h.0, tt), h.1)
form_behind n l (k.Return e) rest h = ((h.0, tt), h.1)
form_behind n l (k.Lock x) rest h = ((h.0, tt), h.1)
form_behind n l (k.Unlock x) rest h = ((h.0, tt), h.1)
form_behind n l (k.Down x) rest h = ((h.0, tt), h.1)
form_behind n l (k.Up x) rest h = ((h.0, tt), h.1)
form_behind n l (k.Join e) rest h = ((h.0, tt), h.1)
form_behind n l (k.Print e) rest h = ((h.0, tt), h.1)
form_behind n l k.Skip rest h = ((h.0, tt), h.1)

pub form_first : (n l : ℕ) (s : Kind) (all rest : Body) → all ≡ behind l s rest → IsWellFormedBlock n all → IsWellFormedBlock n (behind 0 s end)
form_first n l s all rest e h = (form_behind n l s rest (subst (IsWellFormedBlock n) e h)).0

pub form_rest : (n l : ℕ) (s : Kind) (all rest : Body) → all ≡ behind l s rest → IsWellFormedBlock n all → IsWellFormedBlock n rest
form_rest n l s all rest e h = (form_behind n l s rest (subst (IsWellFormedBlock n) e h)).1

-- Blocks in it

else_is : (n l : ℕ) (s : Kind) (rest : Body) (lines : List (List ℕ)) → else_lines n (behind l s rest) lines ≡ indented n (codes "} else {") ∷ lines
else_is n l (k.Let x e) rest lines = refl
else_is n l (k.Set x e) rest lines = refl
else_is n l (k.SetCell x i e) rest lines = refl
else_is n l (k.If e a b) rest lines = refl
else_is n l (k.While e a) rest lines = refl
else_is n l (k.Call f es) rest lines = refl
else_is n l (k.Return e) rest lines = refl
else_is n l (k.Lock x) rest lines = refl
else_is n l (k.Unlock x) rest lines = refl
else_is n l (k.Down x) rest lines = refl
else_is n l (k.Up x) rest lines = refl
else_is n l (k.Join e) rest lines = refl
else_is n l (k.Print e) rest lines = refl
else_is n l k.Skip rest lines = refl

-- `else` and its block are written
pub else_more : (n l : ℕ) (s : Kind) (all rest : Body) (old begun new : List ℕ) → all ≡ behind l s rest → begun ≡ old ++ ended (indented n (codes "} else {") ∷ []) → new ≡ begun ++ ended (body_text_lines (n + 1) all) → new ≡ old ++ ended (else_lines n all (body_text_lines (suc n) all))
else_more n l s all rest old begun new e h g =
    let lines = body_text_lines (suc n) all in
    let is : else_lines n all lines ≡ indented n (codes "} else {") ∷ lines = ap (λ z. else_lines n z lines) e ∙ else_is n l s rest lines in
    rw (g, add-one, h, is) (simp append_assoc)

pub choice_is : (n : ℕ) (e : Expression) (a b : Body) (old o1 o2 o3 new : List ℕ) →
    o1 ≡ old ++ ended (indented n (codes "if (" ++ expression_text e ++ codes ") {") ∷ []) →
    o2 ≡ o1 ++ ended (body_text_lines (n + 1) a) →
    o3 ≡ o2 ++ ended (else_lines n b (body_text_lines (suc n) b)) →
    new ≡ o3 ++ ended (indented n (codes "}") ∷ []) →
    new ≡ old ++ ended (body_text_lines n (if_ 0 e a b end))
choice_is n e a b old o1 o2 o3 new h1 h2 h3 h4 =
    rw (h4, h3, h2, add-one, h1, ended_append (body_text_lines (suc n) a) (else_lines n b (body_text_lines (suc n) b) ++ indented n (codes "}") ∷ []), ended_append (else_lines n b (body_text_lines (suc n) b)) (indented n (codes "}") ∷ []))
    (simp append_assoc)

pub loop_is : (n : ℕ) (e : Expression) (a : Body) (old o1 o2 new : List ℕ) →
    o1 ≡ old ++ ended (indented n (codes "while (" ++ expression_text e ++ codes ") {") ∷ []) →
    o2 ≡ o1 ++ ended (body_text_lines (n + 1) a) →
    new ≡ o2 ++ ended (indented n (codes "}") ∷ []) →
    new ≡ old ++ ended (body_text_lines n (while_ 0 e a end))
loop_is n e a old o1 o2 new h1 h2 h3 =
    rw (h3, h2, add-one, h1, ended_append (body_text_lines (suc n) a) (indented n (codes "}") ∷ []))
    (simp append_assoc)
