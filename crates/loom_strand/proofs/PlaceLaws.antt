-- Laws of the places of flat code.
use Rattle.std.proofs.Common.{ℕ, zero, suc, ◌+◌, ◌-◌, ◌≡◌, ◌≤◌, ◌<◌, ◌⊎◌, List, [], ◌∷◌, ◌++◌, map, length, length-append, append_assoc, Option, Some, slice_get, refl, inl, inr, sym, ap, subst, ◌∙◌, ⊎_elim, arith}
use Rattle.std.proofs.lemmas.List.{length-map}
use Rattle.loom_tree.specs.Tree.{Body, end, simple, if_, while_, Function, Source}
use Rattle.loom_lang.specs.Rules.{KeepsRules, locals_of}
use Rattle.loom_lang.specs.Places.{Place, nowhere, entry, inside, back_edge, out, body_places, places_from, place_at}
use Rattle.loom_flow.specs.declared.code.CodeStep.{CodeStep}
use Rattle.loom_flow.specs.declared.code.CodeStep.TheVariants as s
use Rattle.loom_flow.specs.declared.code.Control.TheVariants.{Begin, Done, Edge, Jump, JumpIfZero, Out}
use Rattle.loom_flow.specs.declared.code.Instr.{Instr}
use Rattle.loom_flow.specs.declared.code.Entrance.{Entrance}
use Rattle.loom_flow.specs.Flow.{Flow}
use Rattle.loom_flow.specs.State.{names}
use Rattle.loom_flow.specs.Code.{IsLowered}
use Rattle.loom_flow.specs.FlatCode.{operand_of, operand_steps, simple_steps, instr, instrs, size, place_count, flat_body, functions_code, entrances, lowered}
use Rattle.loom_flow.specs.Laws.{start_or, IsInFunction}
use Rattle.loom_flow.proofs.Each.{same_element}
use Rattle.loom_flow.proofs.FlowLaws.{as_many_sites}
use Rattle.loom_flow.proofs.Sizes.{code_length}
use Rattle.loom_plan.specs.PlaceEvents.{names_from, names_or_none, names_at}
use Rattle.loom_strand.proofs.Entrances.{as_many_entrances}

-- Lists

get_middle : {A : Type 0} (xs : List A) (x : A) (ys : List A) → slice_get (xs ++ x ∷ ys) (length xs) ≡ Some x
get_middle [] x ys = refl
get_middle (w ∷ xs) x ys = get_middle xs x ys

get_past : {A : Type 0} (xs : List A) (x : A) (ys : List A) (m : ℕ) → slice_get (xs ++ x ∷ ys) (suc (length xs + m)) ≡ slice_get ys m
get_past [] x ys m = let at : 0 + m ≡ m = omega arith in ap (slice_get ys) at
get_past (w ∷ xs) x ys m = let at : suc (length xs) + m ≡ suc (length xs + m) = omega arith in ap (slice_get (xs ++ x ∷ ys)) at ∙ get_past xs x ys m

-- an element up to the end of the first list, and the one behind it
get_within : {A : Type 0} (xs : List A) (x : A) (ys : List A) (j : ℕ) (y : A) → j ≤ length xs → slice_get (xs ++ x ∷ ys) j ≡ Some y → (slice_get xs j ≡ Some y) ⊎ (x ≡ y)
get_within [] x ys zero y low e = inr (same_element x y e)
get_within [] x ys (suc j) y low e = absurd (omega (arith, low))
get_within (w ∷ xs) x ys zero y low e = inl e
get_within (w ∷ xs) x ys (suc j) y low e = get_within xs x ys j y (omega (arith, low)) e

-- The place before a back edge is that of its loop.

abbrev FollowsLoop : Place → Place → Type 0
FollowsLoop x (back_edge l) = x ≡ inside l
FollowsLoop x _ = Unit {0}

-- Of these places, behind that one, each back edge stands behind its loop.
abbrev HaveLoopsBefore : Place → List Place → Type 0
HaveLoopsBefore x [] = Unit {0}
HaveLoopsBefore x (y ∷ ys) = FollowsLoop x y × HaveLoopsBefore y ys

regrouped : (x : Place) (xs ys zs : List Place) → HaveLoopsBefore x (xs ++ (ys ++ zs)) → HaveLoopsBefore x ((xs ++ ys) ++ zs)
regrouped x xs ys zs h = subst (HaveLoopsBefore x) (sym (append_assoc xs ys zs)) h

-- with what stands behind the body, whatever stands before that
body_edges : (b : Body) (ys : List Place) → ((x : Place) → HaveLoopsBefore x ys) → (x : Place) → HaveLoopsBefore x (body_places b ++ ys)
body_edges end ys f x = f x
body_edges (simple l t rest) ys f x = (tt, body_edges rest ys f (inside l))
body_edges (if_ l e a b rest) ys f x = (
  tt,
  regrouped (inside l) (body_places a) (body_places b ++ body_places rest) ys
      (body_edges a ((body_places b ++ body_places rest) ++ ys) (λ y. regrouped y (body_places b) (body_places rest) ys (body_edges b (body_places rest ++ ys) (body_edges rest ys f) y)) (inside l)),
)
body_edges (while_ l e a rest) ys f x = (tt, (refl, regrouped (back_edge l) (body_places a) (body_places rest) ys (body_edges a (body_places rest ++ ys) (body_edges rest ys f) (back_edge l))))

function_edges : (n : ℕ) (fs : List Function) (x : Place) → HaveLoopsBefore x (places_from n fs)
function_edges n [] x = tt
function_edges n (f ∷ fs) x = (tt, body_edges f.body (out n ∷ places_from (suc n) fs) (λ y. (tt, function_edges (suc n) fs (out n))) (entry n))

edge_at : (x : Place) (ys : List Place) (k l : ℕ) → HaveLoopsBefore x ys → slice_get ys k ≡ Some (back_edge l) → slice_get (x ∷ ys) k ≡ Some (inside l)
edge_at x [] k l h e = cc
edge_at x (y ∷ ys) zero l h e = ap {B = Option Place} Some (subst (FollowsLoop x) (same_element y (back_edge l) e) h.0)
edge_at x (y ∷ ys) (suc k) l h e = edge_at y ys k l h.1 e

-- The back edge of a loop stands directly behind the loop's own place.
pub loop_place : (p : Source) → KeepsRules p → (k l : ℕ) → place_at p k ≡ Some (back_edge l) → (0 < k) × (place_at p (k - 1) ≡ Some (inside l))
loop_place p r zero l h = absurd (no_place l h)
  where
    no_place : (n : ℕ) → ◌≡◌ {A = Option Place} (Some nowhere) (Some (back_edge n)) → ⊥
    no_place n e = cc
loop_place p r (suc k) l h =
    let at : k ≡ suc k - 1 = omega arith in
    (omega arith, subst (λ m. place_at p m ≡ Some (inside l)) at (edge_at nowhere (places_from 0 p.funcs) k l (function_edges 0 p.funcs nowhere) h))

-- Out places

-- the number of the out place before the entrance of the next function, counted from the place of the first function on
out_between : (p : Source) (n at place : ℕ) (f : Function) (fs : List Function) (k : ℕ) (e : Entrance) → slice_get (entrances p at place (f ∷ fs)) (suc k) ≡ Some e
    → (m : ℕ) × ((e.place ≡ suc (place + m)) × (slice_get (places_from n (f ∷ fs)) m ≡ Some (out (n + k))))
out_between p n at place f [] k e h = cc
out_between p n at place f (g ∷ gs) zero e h =
    let next : ℕ = suc (at + size p (locals_of f) f.body) in
    let later : ℕ = suc (suc (place + place_count f.body)) in
    let here : Entrance = record { start = next; place = later; params = length g.params } in
    let same : later ≡ e.place = ap (λ (q : Entrance). q.place) (same_element here e h) in
    let number : n ≡ n + 0 = omega arith in
    (suc (place_count f.body), (omega (arith, same), get_middle (body_places f.body) (out n) (places_from (suc n) (g ∷ gs)) ∙ ap (λ i. Some (out i)) number))
out_between p n at place f (g ∷ gs) (suc k) e h =
    let more : (m : ℕ) × ((e.place ≡ suc (suc (suc (place + place_count f.body)) + m)) × (slice_get (places_from (suc n) (g ∷ gs)) m ≡ Some (out (suc n + k)))) =
    out_between p (suc n) (suc (at + size p (locals_of f) f.body)) (suc (suc (place + place_count f.body))) g gs k e h in
    let far : e.place ≡ suc (suc (suc (place + place_count f.body)) + more.0) = more.1.0 in
    let number : suc n + k ≡ n + suc k = omega arith in (
      suc (suc (place_count f.body + more.0)),
      (omega (arith, far), get_past (body_places f.body) (out n) (places_from (suc n) (g ∷ gs)) more.0 ∙ (more.1.1 ∙ ap (λ i. Some (out i)) number)),
    )

out_before : (p : Source) (fs : List Function) (k : ℕ) (e : Entrance) → slice_get (entrances p 0 1 fs) (suc k) ≡ Some e → (0 < e.place) × (slice_get (nowhere ∷ places_from 0 fs) (e.place - 1) ≡ Some (out k))
out_before p [] k e h = cc
out_before p (f ∷ fs) k e h =
    let found : (m : ℕ) × ((e.place ≡ suc (1 + m)) × (slice_get (places_from 0 (f ∷ fs)) m ≡ Some (out (0 + k)))) = out_between p 0 0 1 f fs k e h in
    let far : e.place ≡ suc (1 + found.0) = found.1.0 in
    let at : suc found.0 ≡ e.place - 1 = omega (arith, far) in
    let number : 0 + k ≡ k = omega arith in
    (omega (arith, far), subst (λ m. slice_get (nowhere ∷ places_from 0 (f ∷ fs)) m ≡ Some (out k)) at (found.1.1 ∙ ap (λ i. Some (out i)) number))

-- The out place of a function is the one before the entry place of the next function, or the last one.
pub out_place_before : (c : Flow) → IsLowered c → (f : ℕ) (e : Entrance) → slice_get c.entrances (f + 1) ≡ Some e → (0 < e.place) × (place_at c.program (e.place - 1) ≡ Some (out f))
out_place_before c l f e h =
    let next : suc f ≡ f + 1 = omega arith in
    out_before c.program c.program.funcs f e (sym (ap (λ (z : Flow). slice_get z.entrances (suc f)) l.is) ∙ (ap (slice_get c.entrances) next ∙ h))

last_out : (n : ℕ) (f : Function) (fs : List Function) → (m : ℕ) × ((length (places_from n (f ∷ fs)) ≡ suc m) × (slice_get (places_from n (f ∷ fs)) m ≡ Some (out (n + length fs))))
last_out n f [] =
    let many : length (body_places f.body ++ out n ∷ []) ≡ length (body_places f.body) + 1 = length-append (body_places f.body) (out n ∷ []) in
    let number : n ≡ n + 0 = omega arith in
    (suc (place_count f.body), (omega (arith, many), get_middle (body_places f.body) (out n) [] ∙ ap (λ i. Some (out i)) number))
last_out n f (g ∷ gs) =
    let more : (m : ℕ) × ((length (places_from (suc n) (g ∷ gs)) ≡ suc m) × (slice_get (places_from (suc n) (g ∷ gs)) m ≡ Some (out (suc n + length gs)))) = last_out (suc n) g gs in
    let rest : List Place = places_from (suc n) (g ∷ gs) in
    let behind : length rest ≡ suc more.0 = more.1.0 in
    let many : length (body_places f.body ++ out n ∷ rest) ≡ length (body_places f.body) + suc (length rest) = length-append (body_places f.body) (out n ∷ rest) in
    let number : suc n + length gs ≡ n + suc (length gs) = omega arith in (
      suc (suc (place_count f.body + more.0)),
      (omega (arith, many, behind), get_past (body_places f.body) (out n) rest more.0 ∙ (more.1.1 ∙ ap (λ i. Some (out i)) number)),
    )

out_last : (fs : List Function) (k n : ℕ) → k + 1 ≡ length fs → n ≡ length (nowhere ∷ places_from 0 fs) → (0 < n) × (slice_get (nowhere ∷ places_from 0 fs) (n - 1) ≡ Some (out k))
out_last [] k n h many = absurd (omega (arith, h))
out_last (f ∷ fs) k n h many =
    let found : (m : ℕ) × ((length (places_from 0 (f ∷ fs)) ≡ suc m) × (slice_get (places_from 0 (f ∷ fs)) m ≡ Some (out (0 + length fs)))) = last_out 0 f fs in
    let far : length (places_from 0 (f ∷ fs)) ≡ suc found.0 = found.1.0 in
    let all : n ≡ suc (length (places_from 0 (f ∷ fs))) = many in
    let at : suc found.0 ≡ n - 1 = omega (arith, far, all) in
    let number : 0 + length fs ≡ k = omega (arith, h) in
    (omega (arith, all), subst (λ m. slice_get (nowhere ∷ places_from 0 (f ∷ fs)) m ≡ Some (out k)) at (found.1.1 ∙ ap (λ i. Some (out i)) number))

pub out_place_last : (c : Flow) → IsLowered c → (f : ℕ) → f + 1 ≡ length c.entrances → (0 < length c.sites) × (place_at c.program (length c.sites - 1) ≡ Some (out f))
out_place_last c l f h = out_last c.program.funcs f (length c.sites) (h ∙ as_many_entrances c l) (as_many_sites c l)

-- Names

-- The places of these instructions are from the first number on, and before the last one.
abbrev AreWithin : ℕ → ℕ → List Instr → Type 0
AreWithin lo hi [] = Unit {0}
AreWithin lo hi (i ∷ is) = ((lo ≤ i.place) × (i.place < hi)) × AreWithin lo hi is

within_both : (lo hi : ℕ) (xs ys : List Instr) → AreWithin lo hi xs → AreWithin lo hi ys → AreWithin lo hi (xs ++ ys)
within_both lo hi [] ys f g = g
within_both lo hi (x ∷ xs) ys f g = (f.0, within_both lo hi xs ys f.1 g)

within_wider : (lo hi from to : ℕ) (xs : List Instr) → from ≤ lo → hi ≤ to → AreWithin lo hi xs → AreWithin from to xs
within_wider lo hi from to [] low high f = tt
within_wider lo hi from to (x ∷ xs) low high f = ((omega (arith, low, f.0.0), omega (arith, high, f.0.1)), within_wider lo hi from to xs low high f.1)

within_steps : (lo hi line k : ℕ) (xs : List CodeStep) → lo ≤ k → k < hi → AreWithin lo hi (instrs line k xs)
within_steps lo hi line k [] low high = tt
within_steps lo hi line k (x ∷ xs) low high = ((low, high), within_steps lo hi line k xs low high)

within_at : (lo hi : ℕ) (xs : List Instr) (j : ℕ) (i : Instr) → AreWithin lo hi xs → slice_get xs j ≡ Some i → (lo ≤ i.place) × (i.place < hi)
within_at lo hi [] j i f e = cc
within_at lo hi (x ∷ xs) zero i f e = subst (λ (y : Instr). (lo ≤ y.place) × (y.place < hi)) (same_element x i e) f.0
within_at lo hi (x ∷ xs) (suc j) i f e = within_at lo hi xs j i f.1 e

body_within : (p : Source) (xs : List (List ℕ)) (at k : ℕ) (b : Body) → AreWithin k (k + place_count b) (flat_body p xs at k b)
body_within p xs at k end = tt
body_within p xs at k (simple l x rest) =
    let all : ℕ = k + suc (place_count rest) in
    within_both k all (instrs l k (simple_steps p xs x)) (flat_body p xs (at + length (simple_steps p xs x)) (suc k) rest) (within_steps k all l k (simple_steps p xs x) (omega arith) (omega arith))
    (within_wider (suc k) (suc k + place_count rest) k all _ (omega arith) (omega arith) (body_within p xs (at + length (simple_steps p xs x)) (suc k) rest))
body_within p xs at k (if_ l e a b rest) =
    let first : ℕ = at + (2 + length (operand_steps p xs e)) in
    let second : ℕ = first + (1 + size p xs a) in
    let last : ℕ = second + size p xs b in
    let other : ℕ = suc k + place_count a in
    let behind : ℕ = other + place_count b in
    let hi : ℕ = k + suc (length (body_places a ++ (body_places b ++ body_places rest))) in
    let many = length-append (body_places a) (body_places b ++ body_places rest) in
    let more = length-append (body_places b) (body_places rest) in
    let head : List CodeStep = s.Control Begin ∷ (operand_steps p xs e ++ s.Control (JumpIfZero (operand_of xs e) second) ∷ []) in
    let low : k ≤ k = omega arith in
    let high : k < hi = omega arith in
    within_both k hi (instrs l k head) (flat_body p xs first (suc k) a ++ instr l k (s.Control (Jump last)) ∷ (flat_body p xs second other b ++ instr l k (s.Control Done) ∷ flat_body p xs (suc last) behind rest))
    (within_steps k hi l k head low high)
    (within_both k hi (flat_body p xs first (suc k) a) (instr l k (s.Control (Jump last)) ∷ (flat_body p xs second other b ++ instr l k (s.Control Done) ∷ flat_body p xs (suc last) behind rest))
    (within_wider (suc k) other k hi _ (omega arith) (omega (arith, many)) (body_within p xs first (suc k) a)) (
      (low, high),
      within_both k hi (flat_body p xs second other b) (instr l k (s.Control Done) ∷ flat_body p xs (suc last) behind rest)
          (within_wider other behind k hi _ (omega arith) (omega (arith, many, more)) (body_within p xs second other b))
          ((low, high), within_wider behind (behind + place_count rest) k hi _ (omega arith) (omega (arith, many, more)) (body_within p xs (suc last) behind rest)),
    ))
body_within p xs at k (while_ l e a rest) =
    let head : ℕ = at + 1 in
    let first : ℕ = head + (1 + length (operand_steps p xs e)) in
    let last : ℕ = first + (1 + size p xs a) in
    let inner : ℕ = suc (suc k) in
    let behind : ℕ = inner + place_count a in
    let hi : ℕ = k + suc (suc (length (body_places a ++ body_places rest))) in
    let many = length-append (body_places a) (body_places rest) in
    let steps : List CodeStep = s.Control Begin ∷ (operand_steps p xs e ++ s.Control (JumpIfZero (operand_of xs e) last) ∷ []) in
    let low : k ≤ k = omega arith in
    let high : k < hi = omega arith in
    within_both k hi (instrs l k steps) (flat_body p xs first inner a ++ instr l (suc k) (s.Control (Edge head)) ∷ instr l k (s.Control Done) ∷ flat_body p xs (suc last) behind rest)
    (within_steps k hi l k steps low high)
    (within_both k hi (flat_body p xs first inner a) (instr l (suc k) (s.Control (Edge head)) ∷ instr l k (s.Control Done) ∷ flat_body p xs (suc last) behind rest)
    (within_wider inner behind k hi _ (omega arith) (omega (arith, many)) (body_within p xs first inner a))
    ((omega arith, omega arith), ((low, high), within_wider behind (behind + place_count rest) k hi _ (omega arith) (omega (arith, many)) (body_within p xs (suc last) behind rest))))

-- the names at the places of a function's body, and at the one behind them
own_name : (ps : List Place) (own : List (List ℕ)) (after : List (List (List ℕ))) (m : ℕ) → m ≤ length ps → slice_get (map (λ (x : Place). own) ps ++ own ∷ after) m ≡ Some own
own_name [] own after zero low = refl
own_name [] own after (suc m) low = absurd (omega (arith, low))
own_name (x ∷ ps) own after zero low = refl
own_name (x ∷ ps) own after (suc m) low = own_name ps own after m (omega (arith, low))

-- and behind that
later_name : (ps : List Place) (own : List (List ℕ)) (after : List (List (List ℕ))) (m : ℕ) → slice_get (map (λ (x : Place). own) ps ++ own ∷ after) (suc (length ps + m)) ≡ slice_get after m
later_name ps own after m =
    let many : length (map (λ (x : Place). own) ps) ≡ length ps = length-map ps (λ (x : Place). own) in
    ap (λ n. slice_get (map (λ (x : Place). own) ps ++ own ∷ after) (suc (n + m))) (sym many) ∙ get_past (map (λ (x : Place). own) ps) own after m

-- The names at a number, counted from the place of the first of these functions on, are those of the function of number `n` of them.
abbrev HasNamesOf : List Function → ℕ → ℕ → Type 0
HasNamesOf fs m n = names_or_none (slice_get (names_from fs) m) ≡ names (slice_get fs n)

named_later : (f : Function) (fs : List Function) (m n : ℕ) → HasNamesOf fs m n → HasNamesOf (f ∷ fs) (suc (suc (place_count f.body + m))) (suc n)
named_later f fs m n h = ap names_or_none (later_name (body_places f.body) (locals_of f) (names_from fs) m) ∙ h

entry_named : (p : Source) (fs : List Function) (at place n : ℕ) (e : Entrance) → slice_get (entrances p at place fs) n ≡ Some e → (m : ℕ) × ((e.place ≡ place + m) × HasNamesOf fs m n)
entry_named p [] at place n e h = cc
entry_named p (f ∷ fs) at place zero e h =
    let here : Entrance = record { start = at; place = place; params = length f.params } in
    let same : place ≡ e.place = ap (λ (q : Entrance). q.place) (same_element here e h) in
    (0, (omega (arith, same), refl))
entry_named p (f ∷ fs) at place (suc n) e h =
    let more : (m : ℕ) × ((e.place ≡ suc (suc (place + place_count f.body)) + m) × HasNamesOf fs m n) = entry_named p fs (suc (at + size p (locals_of f) f.body)) (suc (suc (place + place_count f.body))) n e h in
    let far : e.place ≡ suc (suc (place + place_count f.body)) + more.0 = more.1.0 in
    (suc (suc (place_count f.body + more.0)), (omega (arith, far), named_later f fs more.0 n more.1.1))

-- among all places
all_named : (p : Source) (k m n : ℕ) → k ≡ 1 + m → HasNamesOf p.funcs m n → names_at p k ≡ names (slice_get p.funcs n)
all_named p k m n e h = let at : k ≡ suc m = omega (arith, e) in ap (names_at p) at ∙ h

pub names_at_entry : (c : Flow) → IsLowered c → (f : ℕ) (e : Entrance) → slice_get c.entrances f ≡ Some e → names_at c.program e.place ≡ names (slice_get c.program.funcs f)
names_at_entry c l f e h =
    let found : (m : ℕ) × ((e.place ≡ 1 + m) × HasNamesOf c.program.funcs m f) = entry_named c.program c.program.funcs 0 1 f e (sym (ap (λ (z : Flow). slice_get z.entrances f) l.is) ∙ h) in
    all_named c.program e.place found.0 f found.1.0 found.1.1

-- Functions begin one behind another.
starts_later : (p : Source) (fs : List Function) (at place n : ℕ) (e : Entrance) → slice_get (entrances p at place fs) n ≡ Some e → at ≤ e.start
starts_later p [] at place n e h = cc
starts_later p (f ∷ fs) at place zero e h =
    let here : Entrance = record { start = at; place = place; params = length f.params } in
    let same : at ≡ e.start = ap (λ (q : Entrance). q.start) (same_element here e h) in
    omega (arith, same)
starts_later p (f ∷ fs) at place (suc n) e h =
    let more : suc (at + size p (locals_of f) f.body) ≤ e.start = starts_later p fs (suc (at + size p (locals_of f) f.body)) (suc (suc (place + place_count f.body))) n e h in
    omega (arith, more)

next_start : (p : Source) (l at place : ℕ) (fs : List Function) → at + length (functions_code p at place fs) ≡ l → start_or l (slice_get (entrances p at place fs) 0) ≡ at
next_start p l at place [] e = let same : l ≡ at = omega (arith, e) in same
next_start p l at place (f ∷ fs) e = refl

-- where the code of the functions behind the first one begins
code_behind : (p : Source) (f : Function) (fs : List Function) (at place : ℕ)
    → at + length (functions_code p at place (f ∷ fs)) ≡ suc (at + size p (locals_of f) f.body) + length (functions_code p (suc (at + size p (locals_of f) f.body)) (suc (suc (place + place_count f.body))) fs)
code_behind p f fs at place =
    let xs : List (List ℕ) = locals_of f in
    let more : List Instr = functions_code p (suc (at + size p xs f.body)) (suc (suc (place + place_count f.body))) fs in
    let last : Instr = instr f.line (suc place + place_count f.body) (s.Control Out) in
    let own : length (flat_body p xs at (suc place) f.body) ≡ size p xs f.body = code_length p xs f.body at (suc place) in
    let all : length (flat_body p xs at (suc place) f.body ++ last ∷ more) ≡ length (flat_body p xs at (suc place) f.body) + suc (length more) = length-append (flat_body p xs at (suc place) f.body) (last ∷ more) in
    omega (arith, own, all)

-- an instruction of the first function
first_named : (p : Source) (f : Function) (fs : List Function) (at place j : ℕ) (i : Instr) → j ≤ size p (locals_of f) f.body → slice_get (functions_code p at place (f ∷ fs)) j ≡ Some i
    → (m : ℕ) × ((i.place ≡ place + m) × HasNamesOf (f ∷ fs) m 0)
first_named p f fs at place j i low e = told (⊎_elim in_body at_end (get_within body last more j i within e))
  where
    body : List Instr
    body = flat_body p (locals_of f) at (suc place) f.body

    last : Instr
    last = instr f.line (suc place + place_count f.body) (s.Control Out)

    more : List Instr
    more = functions_code p (suc (at + size p (locals_of f) f.body)) (suc (suc (place + place_count f.body))) fs

    within : j ≤ length body
    within = let own : length body ≡ size p (locals_of f) f.body = code_length p (locals_of f) f.body at (suc place) in omega (arith, own, low)

    Range : Type 0
    Range = (suc place ≤ i.place) × (i.place ≤ suc place + place_count f.body)

    in_body : slice_get body j ≡ Some i → Range
    in_body g = let h : (suc place ≤ i.place) × (i.place < suc place + place_count f.body) = within_at (suc place) (suc place + place_count f.body) body j i (body_within p (locals_of f) at (suc place) f.body) g in (h.0, omega (arith, h.1))

    at_end : last ≡ i → Range
    at_end g = let same : suc place + place_count f.body ≡ i.place = ap (λ (y : Instr). y.place) g in (omega (arith, same), omega (arith, same))

    told : Range → (m : ℕ) × ((i.place ≡ place + m) × HasNamesOf (f ∷ fs) m 0)
    told h =
        let from : suc place ≤ i.place = h.0 in
        let to : i.place ≤ suc place + place_count f.body = h.1 in
        let few : i.place - suc place ≤ place_count f.body = omega (arith, from, to) in
        (suc (i.place - suc place), (omega (arith, from), ap names_or_none (own_name (body_places f.body) (locals_of f) (names_from fs) (i.place - suc place) few)))

-- and one of any of them
instr_named : (p : Source) (fs : List Function) (at place n j : ℕ) (e : Entrance) (i : Instr) → slice_get (entrances p at place fs) n ≡ Some e → e.start ≤ at + j
    → at + j < start_or (at + length (functions_code p at place fs)) (slice_get (entrances p at place fs) (suc n)) → slice_get (functions_code p at place fs) j ≡ Some i
    → (m : ℕ) × ((i.place ≡ place + m) × HasNamesOf fs m n)
instr_named p [] at place n j e i h from before g = cc
instr_named p (f ∷ fs) at place zero j e i h from before g =
    let next : ℕ = suc (at + size p (locals_of f) f.body) in
    let last : start_or (at + length (functions_code p at place (f ∷ fs))) (slice_get (entrances p next (suc (suc (place + place_count f.body))) fs) 0) ≡ next =
    next_start p (at + length (functions_code p at place (f ∷ fs))) next (suc (suc (place + place_count f.body))) fs (sym (code_behind p f fs at place)) in
    let low : at + j < next = subst (λ m. at + j < m) last before in
    first_named p f fs at place j i (omega (arith, low)) g
instr_named p (f ∷ fs) at place (suc n) j e i h from before g =
    let xs : List (List ℕ) = locals_of f in
    let next : ℕ = suc (at + size p xs f.body) in
    let later : ℕ = suc (suc (place + place_count f.body)) in
    let more : List Instr = functions_code p next later fs in
    let body : List Instr = flat_body p xs at (suc place) f.body in
    let last : Instr = instr f.line (suc place + place_count f.body) (s.Control Out) in
    let own : length body ≡ size p xs f.body = code_length p xs f.body at (suc place) in
    let start : next ≤ e.start = starts_later p fs next later n e h in
    let rest : ℕ = j - suc (size p xs f.body) in
    let number : j ≡ suc (length body + rest) = omega (arith, own, start, from) in
    let same : at + j ≡ next + rest = omega (arith, start, from) in
    let there : slice_get more rest ≡ Some i = sym (get_past body last more rest) ∙ (ap (slice_get (body ++ last ∷ more)) (sym number) ∙ g) in
    let low : next + rest < start_or (next + length more) (slice_get (entrances p next later fs) (suc n)) =
    subst (λ m. next + rest < start_or m (slice_get (entrances p next later fs) (suc n))) (code_behind p f fs at place)
    (subst (λ m. m < start_or (at + length (functions_code p at place (f ∷ fs))) (slice_get (entrances p next later fs) (suc n))) same before) in
    let found : (m : ℕ) × ((i.place ≡ later + m) × HasNamesOf fs m n) = instr_named p fs next later n rest e i h (subst (λ m. e.start ≤ m) same from) low there in
    let far : i.place ≡ later + found.0 = found.1.0 in
    (suc (suc (place_count f.body + found.0)), (omega (arith, far), named_later f fs found.0 n found.1.1))

-- The names of the locals at the place of an instruction are those of the function in whose code it stands.
names_at_instr : (p : Source) (n at : ℕ) (i : Instr) → IsInFunction (lowered p) n at → slice_get (lowered p).code at ≡ Some i → names_at p i.place ≡ names (slice_get p.funcs n)
names_at_instr p n at i h there =
    let zero_on : at ≡ 0 + at = omega arith in
    let all : length (functions_code p 0 1 p.funcs) ≡ 0 + length (functions_code p 0 1 p.funcs) = omega arith in
    let low : 0 + at < start_or (0 + length (functions_code p 0 1 p.funcs)) (slice_get (entrances p 0 1 p.funcs) (suc n)) =
    subst (λ m. m < start_or (0 + length (functions_code p 0 1 p.funcs)) (slice_get (entrances p 0 1 p.funcs) (suc n))) zero_on
    (subst (λ m. at < start_or m (slice_get (entrances p 0 1 p.funcs) (suc n))) all h.before) in
    let found : (m : ℕ) × ((i.place ≡ 1 + m) × HasNamesOf p.funcs m n) = instr_named p p.funcs 0 1 n at h.entrance i h.there (subst (λ m. h.entrance.start ≤ m) zero_on h.from) low there in
    all_named p i.place found.0 n found.1.0 found.1.1

pub names_at_begin : (c : Flow) → IsLowered c → (n at : ℕ) (i : Instr) → IsInFunction c n at → slice_get c.code at ≡ Some i → i.step ≡ s.Control Begin
    → names_at c.program i.place ≡ names (slice_get c.program.funcs n)
names_at_begin c l n at i h there is =
    names_at_instr c.program n at i (subst (λ (z : Flow). IsInFunction z n at) l.is h) (sym (ap (λ (z : Flow). slice_get z.code at) l.is) ∙ there)
