-- Frames, calls and threads
use Rattle.std.proofs.Common.{ℕ, suc, zero, ◌+◌, ◌-◌, ◌≡◌, ◌≤◌, List, [], ◌∷◌, ◌++◌, Bool, ℤ, pos, Option, Some, None, refl, sym, ap, subst, ◌∙◌, slice_get, length, length-append, map, inl, inr, nat_lt, arith}
use Rattle.std.proofs.lemmas.Bool.{lt-ltb}
use Rattle.loom_tree.specs.Tree.{Function, Source}
use Rattle.loom_lang.specs.Rules.{lets, locals_of}
use Rattle.loom_lang.specs.Trace as trace
use Rattle.loom_lang.specs.Trace.{Item, Outcome, Lists, Thread, Locals, Calls, made, enter, out, broken, emit, any, choice, trap_lists, body, bound, framed, calls_to, frame_limit, thread_end, IsTrace}
use Rattle.loom_flow.specs.declared.code.CodeStep.TheVariants as s
use Rattle.loom_flow.specs.declared.code.Control.TheVariants.{Out}
use Rattle.loom_flow.specs.declared.code.Entrance.{Entrance}
use Rattle.loom_flow.specs.Flow.{Flow}
use Rattle.loom_flow.specs.State.{frame_room, Frame, State, filled, local_values, named, names, locals_now, at_start}
use Rattle.loom_flow.specs.Progress.{enters}
use Rattle.loom_flow.specs.FlatTrace.{progress_lists}
use Rattle.loom_flow.specs.FlatCode.{instr, size, place_count, flat_body, body_sites}
use Rattle.loom_flow.proofs.Relations.{Within, Meets, meets_itself, meets_same, meets_on, meets_emit}
use Rattle.loom_flow.proofs.Steps.{by_states, returned, entered}
use Rattle.loom_flow.proofs.Sublist.{Lies}
use Rattle.loom_flow.proofs.Straight.{meets_instr}
use Rattle.loom_flow.proofs.Simple.{CallsMeet}
use Rattle.loom_flow.proofs.BodyTraces.{Runner, IsKnownBody, body_meets}

-- Locals of a new frame

filled_length : (n : ℕ) (vs : List ℤ) → length (filled n vs) ≡ n
filled_length zero vs = refl
filled_length (suc n) [] = ap suc (filled_length n [])
filled_length (suc n) (v ∷ vs) = ap suc (filled_length n vs)

named_zeros : (n : ℕ) (xs : List (List ℕ)) → length xs ≤ n → named xs (filled n []) ≡ map (λ x. (x, pos 0)) xs
named_zeros n [] h = refl
named_zeros zero (x ∷ xs) h = absurd (omega (arith, h))
named_zeros (suc n) (x ∷ xs) h = ap (λ (env : Locals). (x, pos 0) ∷ env) (named_zeros n xs (omega (arith, h)))

named_frame : (n : ℕ) (xs ys : List (List ℕ)) (vs : List ℤ) → length xs + length ys ≤ n → named (xs ++ ys) (filled n (filled (length xs) vs)) ≡ bound xs vs ++ map (λ x. (x, pos 0)) ys
named_frame n [] ys vs h = named_zeros n ys (omega (arith, h))
named_frame zero (x ∷ xs) ys vs h = absurd (omega (arith, h))
named_frame (suc n) (x ∷ xs) ys [] h = ap (λ (env : Locals). (x, pos 0) ∷ env) (named_frame n xs ys [] (omega (arith, h)))
named_frame (suc n) (x ∷ xs) ys (v ∷ vs) h = ap (λ (env : Locals). (x, v) ∷ env) (named_frame n xs ys vs (omega (arith, h)))

-- A function of the tree stands in the code.
pub record IsPlaced (c : Flow) (g : Function) (e : Entrance) : Type 0 where
  pub params : e.params ≡ length g.params
  pub few : length (locals_of g) ≤ frame_room
  pub code : Lies c.code e.start (flat_body c.program (locals_of g) e.start (suc e.place) g.body)
  pub last : slice_get c.code (e.start + size c.program (locals_of g) g.body) ≡ Some (instr g.line (suc e.place + place_count g.body) (s.Control Out))
  pub sites : Lies c.sites (suc e.place) (body_sites c.program (locals_of g) e.start g.body)
  pub known : IsKnownBody c.program (locals_of g) g.body

abbrev pub IsFunctionPlaced : Flow → Option Function → Option Entrance → Type 0
IsFunctionPlaced c None e = e ≡ None
IsFunctionPlaced c (Some g) o = (e : Entrance) × (o ≡ Some e) × IsPlaced c g e

abbrev pub ArePlaced : Flow → Type 0
ArePlaced c = (f : ℕ) → IsFunctionPlaced c (slice_get c.program.funcs f) (slice_get c.entrances f)

frame_named : (c : Flow) (g : Function) (e : Entrance) (vs : List ℤ) → IsPlaced c g e → named (locals_of g) (local_values e vs) ≡ trace.frame_locals g vs
frame_named c g e vs h =
    let few : length (locals_of g) ≤ frame_room = h.few in
    let is : length (locals_of g) ≡ length g.params + length (lets g.body) = length-append g.params (lets g.body) in
    ap (λ n. named (locals_of g) (filled frame_room (filled n vs))) h.params ∙ named_frame frame_room g.params (lets g.body) vs (omega arith)

frame_length : (c : Flow) (g : Function) (e : Entrance) (vs : List ℤ) → IsPlaced c g e → length (locals_of g) ≤ length (local_values e vs)
frame_length c g e vs h = subst (λ n. length (locals_of g) ≤ n) (sym (filled_length frame_room (filled e.params vs))) h.few

-- A frame from its entrance on

-- at the start of a function
abbrev pub starts : Flow → Thread → (State → Lists) → ℕ → State → Lists
starts c t m f z = progress_lists t (by_states c t m) (enters c f z)

enter_named : (c : Flow) (f : ℕ) (g : Function) (e : Entrance) (vs ws : List ℤ) (below : List Frame) → slice_get c.program.funcs f ≡ Some g → IsPlaced c g e → locals_now c (at_start f e vs ws below) ≡ trace.frame_locals g vs
enter_named c f g e vs ws below found placed = ap (λ o. named (names o) (local_values e vs)) found ∙ frame_named c g e vs placed

frame_meets : (b : Bool) (c : Flow) (t : Thread) (m : ℕ → State → Lists) → Runner b c t m → t.program ≡ c.program → (most n : ℕ) → n ≤ most → (calls : Calls) (f : ℕ) (g : Function) (e : Entrance) (vs ws : List ℤ) (below : List Frame) (more : ℤ → Lists)
    → slice_get c.program.funcs f ≡ Some g → IsPlaced c g e
    → ((j : ℕ) → j ≤ n → CallsMeet b c t m j (length below) calls)
    → ((j : ℕ) → j ≤ n → (v : ℤ) → Meets b (returned c t (m j) ws v below) (more v))
    → Meets b (starts c t (m n) f (at_start f e vs ws below)) (framed t calls most f vs more (Some g))
frame_meets b c t m runner same most n le calls f g e vs ws below more found placed meets returns =
    let z : State = at_start f e vs ws below in
    let xs : List (List ℕ) = locals_of g in
    let code : Lies c.code e.start (flat_body t.program xs e.start (suc e.place) g.body) = subst (λ (p : Source). Lies c.code e.start (flat_body p xs e.start (suc e.place) g.body)) (sym same) placed.code in
    let sites : Lies c.sites (suc e.place) (body_sites t.program xs e.start g.body) = subst (λ (p : Source). Lies c.sites (suc e.place) (body_sites p xs e.start g.body)) (sym same) placed.sites in
    let known : IsKnownBody t.program xs g.body = subst (λ (p : Source). IsKnownBody p xs g.body) (sym same) placed.known in
    let last : slice_get c.code (e.start + size t.program xs g.body) ≡ Some (instr g.line (suc e.place + place_count g.body) (s.Control Out)) =
    ap (λ (p : Source). slice_get c.code (e.start + size p xs g.body)) same ∙ placed.last in
    let behind : Locals → Lists = λ env. body t calls most env g.body (λ v. emit (out f) (more v)) (λ env'. emit (out f) (more (pos 0))) in
    meets_on b _ (emit (enter f (trace.frame_locals g vs)) (m n z)) _
    (meets_same b _ _ (ap {B = Lists} (λ env. emit (enter f env) (m n z)) (enter_named c f g e vs ws below found placed)))
    (meets_emit b (enter f (trace.frame_locals g vs)) (m n z) (behind (trace.frame_locals g vs))
    (subst (λ (env : Locals). Meets b (m n z) (behind env)) (frame_named c g e vs placed)
    (body_meets b c t m runner most n le calls xs z g.body (suc e.place) e.start (λ v. emit (out f) (more v)) (λ env. emit (out f) (more (pos 0)))
    meets (ap names found) (frame_length c g e vs placed) known code sites
    (λ j under v. meets_emit b (out f) _ _ (returns j under v))
    (λ j under us h. meets_on b _ (emit (out f) (returned c t (m j) ws (pos 0) below)) _
    (meets_instr b c t (m j) (record z { at = e.start + size t.program xs g.body; locals = us }) (instr g.line (suc e.place + place_count g.body) (s.Control Out)) (runner.fetches j) last)
    (meets_emit b (out f) _ _ (returns j under (pos 0)))))))

-- Calls, with so many frames left

calls_meet : (b : Bool) (c : Flow) (t : Thread) (m : ℕ → State → Lists) → Runner b c t m → t.program ≡ c.program → ArePlaced c → (most : ℕ) (d n : ℕ) → n ≤ most → (depth : ℕ) → suc depth + d ≡ frame_limit
    → CallsMeet b c t m n depth (calls_to t most d)
calls_meet b c t m runner same placed most zero n le depth full z i f vs more deep resumes =
    meets_same b _ _ (ap {B = Lists} (λ q. choice q (entered c t (m n) z i f vs (slice_get c.entrances f)) (trap_lists t i.line trace.frames)) (ap (λ q. nat_lt q frame_limit) (ap suc deep ∙ (let e : suc depth ≡ frame_limit = omega (arith, full) in e))))
calls_meet b c t m runner same placed most (suc d) n le depth full z i f vs more deep resumes =
    meets_on b _ (entered c t (m n) z i f vs (slice_get c.entrances f)) _
    (meets_same b _ _ (ap {B = Lists} (λ q. choice q (entered c t (m n) z i f vs (slice_get c.entrances f)) (trap_lists t i.line trace.frames)) (lt-ltb (suc (length z.below)) frame_limit (omega (arith, full, deep)))))
    (meets_on b _ (framed t (calls_to t most d) most f vs more (slice_get c.program.funcs f)) _
    (by (λ j under. calls_meet b c t m runner same placed most d j (omega (arith, under, le)) (suc (length z.below)) (omega (arith, full, deep))) (slice_get c.program.funcs f) refl (slice_get c.entrances f) (placed f))
    (meets_same b _ _ (ap {B = Lists} (λ (p : Source). framed t (calls_to t most d) most f vs more (slice_get p.funcs f)) (sym same))))
  where
    by : ((j : ℕ) → j ≤ n → CallsMeet b c t m j (suc (length z.below)) (calls_to t most d)) → (o : Option Function) → slice_get c.program.funcs f ≡ o → (q : Option Entrance) → IsFunctionPlaced c o q → Meets b (entered c t (m n) z i f vs q) (framed t (calls_to t most d) most f vs more o)
    by again None found q h = meets_same b _ _ (ap {B = Lists} (entered c t (m n) z i f vs) h)
    by again (Some g) found q h =
        meets_on b _ (entered c t (m n) z i f vs (Some h.0)) _
        (meets_same b _ _ (ap {B = Lists} (entered c t (m n) z i f vs) h.1))
        (frame_meets b c t m runner same most n le (calls_to t most d) f g h.0 vs z.values ((record { func = z.func; locals = z.locals; site = i.place }) ∷ z.below) more found h.2
        again resumes)

-- Threads

-- what a run by any number of steps gives, some number of steps gives
pub ever_behind : (i j : Item) (m : ℕ → Lists) → Within (emit i (emit j (any m))) (any (λ n. emit i (emit j (m n))))
ever_behind i j m es r (inl h) = (0, inl h)
ever_behind i j m es r (inr (fs, e, inl h)) = (0, inr (fs, e, inl h))
ever_behind i j m es r (inr (fs, e, inr (gs, d, h))) = (h.0, inr (fs, e, inr (gs, d, h.1)))

pub first_frame : (b : Bool) (c : Flow) (t : Thread) (m : ℕ → State → Lists) → Runner b c t m → t.program ≡ c.program → ArePlaced c → (most n : ℕ) → n ≤ most → (f line : ℕ) (vs : List ℤ) (g : Function) (e : Entrance)
    → slice_get c.program.funcs f ≡ Some g → IsPlaced c g e
    → Meets b (starts c t (m n) f (at_start f e vs [] [])) (calls_to t most frame_limit line f vs (λ v. t.stopped))
first_frame b c t m runner same placed most n le f line vs g e found here =
    meets_on b _ (framed t (calls_to t most (frame_limit - 1)) most f vs (λ v. t.stopped) (Some g)) _
    (frame_meets b c t m runner same most n le (calls_to t most (frame_limit - 1)) f g e vs [] [] (λ v. t.stopped) found here
    (λ j under. calls_meet b c t m runner same placed most (frame_limit - 1) j (omega (arith, under, le)) 0 refl) (λ j under v. meets_itself b t.stopped))
    (meets_same b _ _ (ap {B = Lists} (framed t (calls_to t most (frame_limit - 1)) most f vs (λ v. t.stopped)) (sym found ∙ ap (λ (p : Source). slice_get p.funcs f) (sym same))))
