-- Statements one after another, and those that hold blocks.
use Rattle.std.proofs.Common.{ℕ, suc, ◌+◌, ◌≤◌, ◌≡◌, ◌&&◌, true, List, [], ◌∷◌, ◌++◌, length, ap, sym, ◌∙◌, arith, append_assoc, length-append, None}
use Rattle.std.proofs.lemmas.List.{append-nil}
use Rattle.loom_tree.specs.declared.statement.Kind.{Kind}
use Rattle.loom_tree.specs.declared.statement.Kind.TheVariants as k
use Rattle.loom_tree.specs.Tree.{Expression, Simple, let_, set, set_cell, return, lock, unlock, down, up, join, print, skip, Body, end, simple, if_, while_, Source, behind, body_of, expression_of, expressions_of, right_of, returned_of}
use Rattle.loom_lang.specs.Places.{body_places}
use Rattle.loom_lang.specs.Rules.{knows_body}
use Rattle.loom_flow.specs.Arguments.{takes_body}
use Rattle.loom_flow.proofs.Counts.{takes_behind, knows_behind}
use Rattle.loom_flow.specs.declared.code.Instr.{Instr}
use Rattle.loom_flow.specs.declared.code.Site.{Site}
use Rattle.loom_flow.specs.declared.code.CodeStep.TheVariants as s
use Rattle.loom_flow.specs.declared.code.Control.TheVariants.{Begin, Done, Edge, Jump, JumpIfZero}
use Rattle.loom_flow.specs.FlatCode.{operand_of, operand_steps, simple_steps, instr, instrs, site, size, place_count, flat_body, body_sites}
use Rattle.loom_flow.proofs.Truths.{both, first_of, second_of}
use Rattle.loom_flow.proofs.Sizes.{code_length, sites_length}

-- The statements are a first one and a rest.
pub record Splits (p : Source) (names : List (List ℕ)) (first rest whole : Body) : Type 0 where
  pub code : (at place : ℕ) → flat_body p names at place whole ≡ flat_body p names at place first ++ flat_body p names (at + size p names first) (place + place_count first) rest
  pub sites : (at : ℕ) → body_sites p names at whole ≡ body_sites p names at first ++ body_sites p names (at + size p names first) rest
  pub count : place_count whole ≡ place_count first + place_count rest
  pub some : 1 ≤ place_count first

pub moved_code : (p : Source) (names : List (List ℕ)) (b : Body) (at at' place place' : ℕ) → at ≡ at' → place ≡ place' → flat_body p names at place b ≡ flat_body p names at' place' b
moved_code p names b at at' place place' h g = ap (λ n. flat_body p names n place b) h ∙ ap (λ n. flat_body p names at' n b) g

simple_splits : (p : Source) (names : List (List ℕ)) (l : ℕ) (x : Simple Expression) (rest : Body) → Splits p names (simple l x end) rest (simple l x rest)
simple_splits p names l x rest = record {
  code = λ at place.
      ap (λ z. instrs l place (simple_steps p names x) ++ z) (moved_code p names rest (at + length (simple_steps p names x)) (at + (length (simple_steps p names x) + 0)) (suc place) (place + 1) (omega arith) (omega arith))
      ∙ ap (λ z. z ++ flat_body p names (at + (length (simple_steps p names x) + 0)) (place + 1) rest) (sym (append-nil (instrs l place (simple_steps p names x))));
  sites = λ at. ap (λ n. body_sites p names at (simple l x end) ++ body_sites p names n rest) (let P : at + length (simple_steps p names x) ≡ at + (length (simple_steps p names x) + 0) = omega arith in P);
  count = omega arith;
  some = omega arith;
}

choice_split : {A : Type 0} (xs cs bs rest : List A) (i j : A) → xs ++ (cs ++ i ∷ (bs ++ j ∷ rest)) ≡ (xs ++ (cs ++ i ∷ (bs ++ j ∷ []))) ++ rest
choice_split xs cs bs rest i j = simp append_assoc

loop_split : {A : Type 0} (xs cs rest : List A) (i j : A) → xs ++ (cs ++ i ∷ j ∷ rest) ≡ (xs ++ (cs ++ i ∷ j ∷ [])) ++ rest
loop_split xs cs rest i j = simp append_assoc

two_split : {A : Type 0} (cs bs rest : List A) → cs ++ (bs ++ rest) ≡ (cs ++ (bs ++ [])) ++ rest
two_split cs bs rest = simp (append-nil, append_assoc)

-- how many places blocks have

pub if_count : (l : ℕ) (e : Expression) (a b rest : Body) → place_count (if_ l e a b rest) ≡ 1 + place_count a + place_count b + place_count rest
if_count l e a b rest =
    let one = length-append (body_places a) (body_places b ++ body_places rest) in
    let two = length-append (body_places b) (body_places rest) in
    omega arith

pub while_count : (l : ℕ) (e : Expression) (a rest : Body) → place_count (while_ l e a rest) ≡ 2 + place_count a + place_count rest
while_count l e a rest = let one = length-append (body_places a) (body_places rest) in omega arith

if_splits : (p : Source) (names : List (List ℕ)) (l : ℕ) (e : Expression) (a b rest : Body) → Splits p names (if_ l e a b end) rest (if_ l e a b rest)
if_splits p names l e a b rest = record {
  code = λ at place.
      let first : ℕ = at + (2 + length (operand_steps p names e)) in
      let second : ℕ = first + (1 + size p names a) in
      let done : ℕ = second + size p names b in
      let test : List Instr = instrs l place (s.Control Begin ∷ (operand_steps p names e ++ s.Control (JumpIfZero (operand_of names e) second) ∷ [])) in
      let cs : List Instr = flat_body p names first (suc place) a in
      let bs : List Instr = flat_body p names second (suc place + place_count a) b in
      let many = if_count l e a b end in
      let places : suc place + place_count a + place_count b ≡ place + place_count (if_ l e a b end) = omega arith in
      ap (λ z. test ++ (cs ++ instr l place (s.Control (Jump done)) ∷ (bs ++ instr l place (s.Control Done) ∷ z))) (moved_code p names rest (suc done) (at + size p names (if_ l e a b end)) _ _ (omega arith) places)
      ∙ choice_split test cs bs (flat_body p names (at + size p names (if_ l e a b end)) (place + place_count (if_ l e a b end)) rest) (instr l place (s.Control (Jump done))) (instr l place (s.Control Done));
  sites = λ at.
      let first : ℕ = at + (2 + length (operand_steps p names e)) in
      let second : ℕ = first + (1 + size p names a) in
      let done : ℕ = second + size p names b in
      let behind : suc done ≡ at + size p names (if_ l e a b end) = omega arith in
      ap (λ n. site l None ∷ (body_sites p names first a ++ (body_sites p names second b ++ body_sites p names n rest))) behind
      ∙ ap (λ z. site l None ∷ z) (two_split (body_sites p names first a) (body_sites p names second b) (body_sites p names (at + size p names (if_ l e a b end)) rest));
  count = let whole = if_count l e a b rest in let alone = if_count l e a b end in omega arith;
  some = omega arith;
}

while_splits : (p : Source) (names : List (List ℕ)) (l : ℕ) (e : Expression) (a rest : Body) → Splits p names (while_ l e a end) rest (while_ l e a rest)
while_splits p names l e a rest = record {
  code = λ at place.
      let head : ℕ = at + 1 in
      let first : ℕ = head + (1 + length (operand_steps p names e)) in
      let done : ℕ = first + (1 + size p names a) in
      let test : List Instr = instrs l place (s.Control Begin ∷ (operand_steps p names e ++ s.Control (JumpIfZero (operand_of names e) done) ∷ [])) in
      let cs : List Instr = flat_body p names first (suc (suc place)) a in
      let many = while_count l e a end in
      let places : suc (suc place) + place_count a ≡ place + place_count (while_ l e a end) = omega arith in
      ap (λ z. test ++ (cs ++ instr l (suc place) (s.Control (Edge head)) ∷ instr l place (s.Control Done) ∷ z)) (moved_code p names rest (suc done) (at + size p names (while_ l e a end)) _ _ (omega arith) places)
      ∙ loop_split test cs (flat_body p names (at + size p names (while_ l e a end)) (place + place_count (while_ l e a end)) rest) (instr l (suc place) (s.Control (Edge head))) (instr l place (s.Control Done));
  sites = λ at.
      let first : ℕ = at + (2 + length (operand_steps p names e)) in
      let done : ℕ = first + (1 + size p names a) in
      let behind : suc done ≡ at + size p names (while_ l e a end) = omega arith in
      ap (λ n. site l None ∷ site l None ∷ (body_sites p names first a ++ body_sites p names n rest)) behind
      ∙ ap (λ z. site l None ∷ site l None ∷ (z ++ body_sites p names (at + size p names (while_ l e a end)) rest)) (sym (append-nil (body_sites p names first a)));
  count = let whole = while_count l e a rest in let alone = while_count l e a end in omega arith;
  some = omega arith;
}

pub splits : (p : Source) (names : List (List ℕ)) (l : ℕ) (kind : Kind) (rest : Body) → Splits p names (behind l kind end) rest (behind l kind rest)
splits p names l (k.Let x e) rest = simple_splits p names l (let_ x (right_of e)) rest
splits p names l (k.Set x e) rest = simple_splits p names l (set x (right_of e)) rest
splits p names l (k.SetCell x i e) rest = simple_splits p names l (set_cell x (expression_of i) (expression_of e)) rest
splits p names l (k.If e a b) rest = if_splits p names l (expression_of e) (body_of a) (body_of b) rest
splits p names l (k.While e a) rest = while_splits p names l (expression_of e) (body_of a) rest
splits p names l (k.Call f es) rest = simple_splits p names l (Simple.call f (expressions_of es)) rest
splits p names l (k.Return e) rest = simple_splits p names l (return (returned_of e)) rest
splits p names l (k.Lock x) rest = simple_splits p names l (lock x) rest
splits p names l (k.Unlock x) rest = simple_splits p names l (unlock x) rest
splits p names l (k.Down x) rest = simple_splits p names l (down x) rest
splits p names l (k.Up x) rest = simple_splits p names l (up x) rest
splits p names l (k.Join e) rest = simple_splits p names l (join (expression_of e)) rest
splits p names l (k.Print e) rest = simple_splits p names l (print (expression_of e)) rest
splits p names l k.Skip rest = simple_splits p names l skip rest

-- the steps of a walk

pub counted_alone : (p : Source) (names : List (List ℕ)) (l : ℕ) (kind : Kind) (all rest : Body) → all ≡ behind l kind rest → takes_body p all ≡ true → takes_body p (behind 0 kind end) ≡ true
counted_alone p names l kind all rest e h =
    let both : (takes_body p (behind 0 kind end) && takes_body p rest) ≡ true = sym (ap (takes_body p) e ∙ takes_behind p l kind rest) ∙ h in
    first_of (takes_body p (behind 0 kind end)) (takes_body p rest) both

pub counted_first : (p : Source) (names : List (List ℕ)) (l : ℕ) (kind : Kind) (all rest : Body) → all ≡ behind l kind rest → takes_body p all ≡ true → takes_body p (behind l kind end) ≡ true
counted_first p names l kind all rest e h =
    let both : (takes_body p (behind 0 kind end) && takes_body p rest) ≡ true = sym (ap (takes_body p) e ∙ takes_behind p l kind rest) ∙ h in
    takes_behind p l kind end ∙ ap (λ z. z && true) (first_of (takes_body p (behind 0 kind end)) (takes_body p rest) both)

pub counted_rest : (p : Source) (names : List (List ℕ)) (l : ℕ) (kind : Kind) (all rest : Body) → all ≡ behind l kind rest → takes_body p all ≡ true → takes_body p rest ≡ true
counted_rest p names l kind all rest e h =
    let both : (takes_body p (behind 0 kind end) && takes_body p rest) ≡ true = sym (ap (takes_body p) e ∙ takes_behind p l kind rest) ∙ h in
    second_of (takes_body p (behind 0 kind end)) (takes_body p rest) both

pub known_first : (p : Source) (names : List (List ℕ)) (l : ℕ) (kind : Kind) (all rest : Body) → all ≡ behind l kind rest → knows_body p names all ≡ true → knows_body p names (behind l kind end) ≡ true
known_first p names l kind all rest e h =
    let both : (knows_body p names (behind 0 kind end) && knows_body p names rest) ≡ true = sym (ap (knows_body p names) e ∙ knows_behind p names l kind rest) ∙ h in
    knows_behind p names l kind end ∙ ap (λ z. z && true) (first_of (knows_body p names (behind 0 kind end)) (knows_body p names rest) both)

pub known_rest : (p : Source) (names : List (List ℕ)) (l : ℕ) (kind : Kind) (all rest : Body) → all ≡ behind l kind rest → knows_body p names all ≡ true → knows_body p names rest ≡ true
known_rest p names l kind all rest e h =
    let both : (knows_body p names (behind 0 kind end) && knows_body p names rest) ≡ true = sym (ap (knows_body p names) e ∙ knows_behind p names l kind rest) ∙ h in
    second_of (knows_body p names (behind 0 kind end)) (knows_body p names rest) both

pub count_first : (p : Source) (names : List (List ℕ)) (l : ℕ) (kind : Kind) (all rest : Body) → all ≡ behind l kind rest → place_count all ≡ place_count (behind l kind end) + place_count rest
count_first p names l kind all rest e = ap place_count e ∙ (splits p names l kind rest).count

pub some_first : (p : Source) (names : List (List ℕ)) (l : ℕ) (kind : Kind) → 1 ≤ place_count (behind l kind end)
some_first p names l kind = (splits p names l kind end).some

pub code_more : (p : Source) (names : List (List ℕ)) (b : Body) (code more : List Instr) (at place : ℕ) → more ≡ code ++ flat_body p names at place b → length more ≡ length code + size p names b
code_more p names b code more at place h =
    let many = ap length h in
    let both = length-append code (flat_body p names at place b) in
    let is = code_length p names b at place in
    omega arith

pub sites_more : (p : Source) (names : List (List ℕ)) (b : Body) (sites more : List Site) (at : ℕ) → more ≡ sites ++ body_sites p names at b → length more ≡ length sites + place_count b
sites_more p names b sites more at h =
    let many = ap length h in
    let both = length-append sites (body_sites p names at b) in
    let is = sites_length p names b at in
    omega arith

pub code_step : (p : Source) (names : List (List ℕ)) (l : ℕ) (kind : Kind) (all rest : Body) (code more : List Instr) (sites sites' : List Site) →
    all ≡ behind l kind rest →
    more ≡ code ++ flat_body p names (length code) (length sites) (behind l kind end) →
    sites' ≡ sites ++ body_sites p names (length code) (behind l kind end) →
    more ++ flat_body p names (length more) (length sites') rest ≡ code ++ flat_body p names (length code) (length sites) all
code_step p names l kind all rest code more sites sites' e h g =
    let first : Body = behind l kind end in
    let begun : List Instr = flat_body p names (length code) (length sites) first in
    let at : length more ≡ length code + size p names first = code_more p names first code more (length code) (length sites) h in
    let place : length sites' ≡ length sites + place_count first = sites_more p names first sites sites' (length code) g in
    ap (λ z. z ++ flat_body p names (length more) (length sites') rest) h
    ∙ ap (λ z. (code ++ begun) ++ z) (moved_code p names rest _ _ _ _ at place)
    ∙ append_assoc code begun (flat_body p names (length code + size p names first) (length sites + place_count first) rest)
    ∙ ap (λ z. code ++ z) (sym ((splits p names l kind rest).code (length code) (length sites)))
    ∙ ap (λ z. code ++ flat_body p names (length code) (length sites) z) (sym e)

pub sites_step : (p : Source) (names : List (List ℕ)) (l place : ℕ) (kind : Kind) (all rest : Body) (code more : List Instr) (sites sites' : List Site) →
    all ≡ behind l kind rest →
    more ≡ code ++ flat_body p names (length code) place (behind l kind end) →
    sites' ≡ sites ++ body_sites p names (length code) (behind l kind end) →
    sites' ++ body_sites p names (length more) rest ≡ sites ++ body_sites p names (length code) all
sites_step p names l place kind all rest code more sites sites' e h g =
    let first : Body = behind l kind end in
    let begun : List Site = body_sites p names (length code) first in
    let at : length more ≡ length code + size p names first = code_more p names first code more (length code) place h in
    ap (λ z. z ++ body_sites p names (length more) rest) g
    ∙ ap (λ n. (sites ++ begun) ++ body_sites p names n rest) at
    ∙ append_assoc sites begun (body_sites p names (length code + size p names first) rest)
    ∙ ap (λ z. sites ++ z) (sym ((splits p names l kind rest).sites (length code)))
    ∙ ap (λ z. sites ++ body_sites p names (length code) z) (sym e)

-- the parts of a statement with blocks

pub counted_then : (p : Source) (names : List (List ℕ)) (l : ℕ) (e : Expression) (a b : Body) → takes_body p (if_ l e a b end) ≡ true → takes_body p a ≡ true
counted_then p names l e a b h = first_of (takes_body p a) (takes_body p b && true) h

pub counted_else : (p : Source) (names : List (List ℕ)) (l : ℕ) (e : Expression) (a b : Body) → takes_body p (if_ l e a b end) ≡ true → takes_body p b ≡ true
counted_else p names l e a b h = first_of (takes_body p b) true (second_of (takes_body p a) (takes_body p b && true) h)

pub counted_again : (p : Source) (names : List (List ℕ)) (l : ℕ) (e : Expression) (a : Body) → takes_body p (while_ l e a end) ≡ true → takes_body p a ≡ true
counted_again p names l e a h = first_of (takes_body p a) true h

pub known_then : (p : Source) (names : List (List ℕ)) (l : ℕ) (e : Expression) (a b : Body) → knows_body p names (if_ l e a b end) ≡ true → knows_body p names a ≡ true
known_then p names l e a b h = (both _ _ (both _ _ h).1).0

pub known_else : (p : Source) (names : List (List ℕ)) (l : ℕ) (e : Expression) (a b : Body) → knows_body p names (if_ l e a b end) ≡ true → knows_body p names b ≡ true
known_else p names l e a b h = (both _ _ (both _ _ (both _ _ h).1).1).0

pub known_again : (p : Source) (names : List (List ℕ)) (l : ℕ) (e : Expression) (a : Body) → knows_body p names (while_ l e a end) ≡ true → knows_body p names a ≡ true
known_again p names l e a h = (both _ _ (both _ _ h).1).0

pub if_sites : (p : Source) (names : List (List ℕ)) (l : ℕ) (e : Expression) (a b : Body) (at first second : ℕ) (old begun ran new : List Site) →
    begun ≡ old ++ site l None ∷ [] →
    ran ≡ begun ++ body_sites p names first a →
    new ≡ ran ++ body_sites p names second b →
    first ≡ at + (2 + length (operand_steps p names e)) →
    second ≡ at + (2 + length (operand_steps p names e)) + (1 + size p names a) →
    new ≡ old ++ body_sites p names at (if_ l e a b end)
if_sites p names l e a b at first second old begun ran new h1 h2 h3 h4 h5 =
    let flat : ((old ++ site l None ∷ []) ++ body_sites p names first a) ++ body_sites p names second b ≡ old ++ site l None ∷ (body_sites p names first a ++ (body_sites p names second b ++ [])) = simp (append-nil, append_assoc) in
    h3
    ∙ ap (λ z. z ++ body_sites p names second b) (h2 ∙ ap (λ z. z ++ body_sites p names first a) h1)
    ∙ flat
    ∙ ap (λ n. old ++ site l None ∷ (body_sites p names n a ++ (body_sites p names second b ++ []))) h4
    ∙ ap (λ n. old ++ site l None ∷ (body_sites p names (at + (2 + length (operand_steps p names e))) a ++ (body_sites p names n b ++ []))) h5

pub while_sites : (p : Source) (names : List (List ℕ)) (l : ℕ) (e : Expression) (a : Body) (at first : ℕ) (old begun back new : List Site) →
    begun ≡ old ++ site l None ∷ [] →
    back ≡ begun ++ site l None ∷ [] →
    new ≡ back ++ body_sites p names first a →
    first ≡ at + (2 + length (operand_steps p names e)) →
    new ≡ old ++ body_sites p names at (while_ l e a end)
while_sites p names l e a at first old begun back new h1 h2 h3 h4 =
    let flat : ((old ++ site l None ∷ []) ++ site l None ∷ []) ++ body_sites p names first a ≡ old ++ site l None ∷ site l None ∷ (body_sites p names first a ++ []) = simp (append-nil, append_assoc) in
    h3
    ∙ ap (λ z. z ++ body_sites p names first a) (h2 ∙ ap (λ z. z ++ site l None ∷ []) h1)
    ∙ flat
    ∙ ap (λ n. old ++ site l None ∷ site l None ∷ (body_sites p names n a ++ [])) h4
