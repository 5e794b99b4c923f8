-- The worklist over nodes: what it has put is reached, and at its end all that is reached was put.
use Rattle.std.proofs.Common.{ℕ, zero, suc, ◌+◌, ◌<◌, ◌≤◌, ◌≡◌, ◌⊎◌, ◌↔◌, inl, inr, Bool, true, false, ◌||◌, if◌then◌else◌, List, [], ◌∷◌, ◌++◌, length, length-append, get_or, slice_get, Option, Some, None, refl, sym, ap, subst, ◌∙◌, arith, eq-eqb, eqb-true, ne_eqb}
use Rattle.std.specs.List.{Contains}
use Rattle.std.proofs.Math.Decide.{ℕ_discrete}
use Rattle.std.proofs.lemmas.List.Elements.{Contains-append_left, Contains-push, Contains-push_cases}
use Rattle.std.proofs.lemmas.Option.{slice_get_past, slice_get-get_or}
use Rattle.loom_trace.specs.Limits.{place_limit}
use Rattle.loom_trace.specs.Places.{has_place}
use Rattle.loom_law.proofs.Course.{contains_first, contains_later, contains_cases, no_member}
use Rattle.loom_law.proofs.Holdings.{either_of, or_cases}
use Rattle.loom_sites.specs.declared.node.TableNode.{TableNode}
use Rattle.loom_sites.specs.declared.node.TableNode.TheVariants as n
use Rattle.loom_sites.specs.declared.links.PlaceLinks.{PlaceLinks}
use Rattle.loom_sites.specs.declared.reach.NodeSet.{NodeSet}
use Rattle.loom_sites.specs.Nodes.{node_number, is_same_node}
use Rattle.loom_sites.specs.Rows.{IsTable, IsRowOf}
use Rattle.loom_sites.specs.Reach.{nexts_if, nexts, is_halted, HasPathTo, from, goes, has_node, IsWith, Visits, VisitsEach, IsWalked, left_out, left_to_do}

-- Sets of nodes

same_itself : (m : TableNode) → is_same_node m m ≡ true
same_itself (n.Start k) = eq-eqb k k refl
same_itself (n.Complete k) = eq-eqb k k refl

same_is : (o m : TableNode) → is_same_node o m ≡ true → o ≡ m
same_is (n.Start j) (n.Start k) e = ap n.Start (eqb-true j k e)
same_is (n.Complete j) (n.Complete k) e = ap n.Complete (eqb-true j k e)
same_is (n.Start j) (n.Complete k) e = cc
same_is (n.Complete j) (n.Start k) e = cc

if_true : (b c : Bool) → b ≡ true → (if b then true else c) ≡ true
if_true true c h = refl
if_true false c h = cc

if_other : (b c : Bool) → c ≡ true → (if b then true else c) ≡ true
if_other true c h = refl
if_other false c h = h

if_cases : (b c : Bool) → (if b then true else c) ≡ true → (b ≡ true) ⊎ (c ≡ true)
if_cases true c h = inl refl
if_cases false c h = inr h

-- the one that was put, and those before
with_own : (m : TableNode) (r s : NodeSet) → IsWith m r s → has_node s m ≡ true
with_own m r s w = w m ∙ if_true (is_same_node m m) (has_node r m) (same_itself m)

with_old : (m : TableNode) (r s : NodeSet) → IsWith m r s → (o : TableNode) → has_node r o ≡ true → has_node s o ≡ true
with_old m r s w o h = w o ∙ if_other (is_same_node o m) (has_node r o) h

with_cases : (m : TableNode) (r s : NodeSet) → IsWith m r s → (o : TableNode) → has_node s o ≡ true → (o ≡ m) ⊎ (has_node r o ≡ true)
with_cases m r s w o h = elim (if_cases (is_same_node o m) (has_node r o) (sym (w o) ∙ h)) [ inl e ↦ inl (same_is o m e) | inr e ↦ inr e ]

-- One visit

-- what a visit of nodes behind one node leaves: each that isn't halted is in the set
record IsVisited (rows : List PlaceLinks) (starts halts : List ℕ) (count : ℕ) (ms : List TableNode) (r : NodeSet) (os : List TableNode) (s : NodeSet) (us : List TableNode) : Type 0 where
  grows : (o : TableNode) → has_node r o ≡ true → has_node s o ≡ true
  waits : (o : TableNode) → Contains os o → Contains us o
  each : (m : TableNode) → Contains ms m → is_halted halts m ≡ false → has_node s m ≡ true
  -- what is new in the set is to be gone on from
  new : (o : TableNode) → has_node s o ≡ true → (has_node r o ≡ true) ⊎ Contains us o
  sound : ((m : TableNode) → Contains ms m → is_halted halts m ≡ false → HasPathTo rows starts halts m) → ((m : TableNode) → has_node r m ≡ true → HasPathTo rows starts halts m)
      → (o : TableNode) → has_node s o ≡ true → HasPathTo rows starts halts o
  marked : ((m : TableNode) → Contains os m → has_node r m ≡ true) → (o : TableNode) → Contains us o → has_node s o ≡ true
  within : ((m : TableNode) → Contains ms m → node_number m < length rows) → ((m : TableNode) → Contains os m → node_number m < length rows)
      → (o : TableNode) → Contains us o → node_number o < length rows

same_set : (r s : NodeSet) (o : TableNode) → s ≡ r → has_node r o ≡ true → has_node s o ≡ true
same_set r s o e h = ap (λ (z : NodeSet). has_node z o) e ∙ h

in_same : (os us : List TableNode) (o : TableNode) → us ≡ os → Contains os o → Contains us o
in_same os us o e h = let P : List TableNode → Type 0 = λ z. Contains z o in subst P (sym e) h

in_same' : (os us : List TableNode) (o : TableNode) → us ≡ os → Contains us o → Contains os o
in_same' os us o e h = let P : List TableNode → Type 0 = λ z. Contains z o in subst P e h

none_visited : (rows : List PlaceLinks) (starts halts : List ℕ) (count : ℕ) (r s : NodeSet) (os us : List TableNode) → s ≡ r → us ≡ os → IsVisited rows starts halts count [] r os s us
none_visited rows starts halts count r s os us e g = record {
  grows = λ o h. same_set r s o e h;
  waits = λ o h. in_same os us o g h;
  each = λ m h k. absurd (no_member m h);
  new = λ o h. inl (same_set s r o (sym e) h);
  sound = λ h k o i. k o (same_set s r o (sym e) i);
  marked = λ h o i. same_set r s o e (h o (in_same' os us o g i));
  within = λ h k o i. k o (in_same' os us o g i);
}

false_or : (a b : Bool) → (a || b) ≡ false → (a ≡ false) × (b ≡ false)
false_or true b h = cc
false_or false b h = (refl, h)

-- a first node, and the others
one_more : (rows : List PlaceLinks) (starts halts : List ℕ) (count : ℕ) (m : TableNode) (ms : List TableNode) (r t s : NodeSet) (os ns us : List TableNode)
    → Visits halts m r os t ns → IsVisited rows starts halts count ms t ns s us → IsVisited rows starts halts count (m ∷ ms) r os s us
one_more rows starts halts count m ms r t s os ns us (inl v) x = record {
  grows = λ o h. x.grows o (same_set r t o v.1.0 h);
  waits = λ o h. x.waits o (in_same os ns o v.1.1 h);
  each = λ o h k. either_of (contains_cases m o ms h) (λ e. x.grows o (same_set r t o v.1.0 (had o e k))) (λ i. x.each o i k);
  new = λ o h. elim (x.new o h) [ inl i ↦ inl (same_set t r o (sym v.1.0) i) | inr i ↦ inr i ];
  sound = λ h k. x.sound (λ o i j. h o (contains_later m o ms i) j) (λ o i. k o (same_set t r o (sym v.1.0) i));
  marked = λ h. x.marked (λ o i. same_set r t o v.1.0 (h o (in_same' os ns o v.1.1 i)));
  within = λ h k. x.within (λ o i. h o (contains_later m o ms i)) (λ o i. k o (in_same' os ns o v.1.1 i));
}
  where
    -- it was there, or is halted
    had : (o : TableNode) → m ≡ o → is_halted halts o ≡ false → has_node r o ≡ true
    had o e k =
        let P : TableNode → Type 0 = λ z. (has_node r z || is_halted halts z) ≡ true in
        elim (or_cases (has_node r o) (is_halted halts o) (subst P e v.0)) [ inl i ↦ i | inr i ↦ (let clash : true ≡ false = sym i ∙ k in cc) ]
one_more rows starts halts count m ms r t s os ns us (inr v) x = record {
  grows = λ o h. x.grows o (with_old m r t v.1.0 o h);
  waits = λ o h. x.waits o (moved o (Contains-append_left os (m ∷ []) o h));
  each = λ o h k. either_of (contains_cases m o ms h) (λ e. x.grows o (put o e)) (λ i. x.each o i k);
  new = λ o h. elim (x.new o h) [ inl i ↦ added o (with_cases m r t v.1.0 o i) | inr i ↦ inr i ];
  sound = λ h k. x.sound (λ o i j. h o (contains_later m o ms i) j) (λ o i. either_of (with_cases m r t v.1.0 o i) (λ e. at_own o e (h m (contains_first m ms) free.1)) (λ j. k o j));
  marked = λ h. x.marked (λ o i. either_of (Contains-push_cases os m o (back o i)) (λ j. with_old m r t v.1.0 o (h o j)) (λ e. put o e));
  within = λ h k. x.within (λ o i. h o (contains_later m o ms i)) (λ o i. either_of (Contains-push_cases os m o (back o i)) (λ j. k o j) (λ e. low o e (h m (contains_first m ms))));
}
  where
    free : (has_node r m ≡ false) × (is_halted halts m ≡ false)
    free = false_or (has_node r m) (is_halted halts m) v.0

    moved : (o : TableNode) → Contains (os ++ m ∷ []) o → Contains ns o
    moved o h = let P : List TableNode → Type 0 = λ z. Contains z o in subst P (sym v.1.1) h

    back : (o : TableNode) → Contains ns o → Contains (os ++ m ∷ []) o
    back o h = let P : List TableNode → Type 0 = λ z. Contains z o in subst P v.1.1 h

    put : (o : TableNode) → m ≡ o → has_node t o ≡ true
    put o e = let P : TableNode → Type 0 = λ z. has_node t z ≡ true in subst P e (with_own m r t v.1.0)

    at_own : (o : TableNode) → o ≡ m → HasPathTo rows starts halts m → HasPathTo rows starts halts o
    at_own o e h = let P : TableNode → Type 0 = λ z. HasPathTo rows starts halts z in subst P (sym e) h

    low : (o : TableNode) → m ≡ o → node_number m < length rows → node_number o < length rows
    low o e h = let P : TableNode → Type 0 = λ z. node_number z < length rows in subst P e h

    added : (o : TableNode) → (o ≡ m) ⊎ (has_node r o ≡ true) → (has_node r o ≡ true) ⊎ Contains us o
    added o (inr h) = inl h
    added o (inl e) = let P : TableNode → Type 0 = λ z. Contains us z in inr (subst P (sym e) (x.waits m (moved m (Contains-push os m))))

visited : (rows : List PlaceLinks) (starts halts : List ℕ) (count : ℕ) (ms : List TableNode) (r s : NodeSet) (os us : List TableNode)
    → VisitsEach halts ms r os s us → IsVisited rows starts halts count ms r os s us
visited rows starts halts count [] r s os us v = none_visited rows starts halts count r s os us v.0 v.1
visited rows starts halts count (m ∷ ms) r s os us v =
    one_more rows starts halts count m ms r v.0 s os v.1.0 us v.1.1.0 (visited rows starts halts count ms v.0 s v.1.0 us v.1.1.1)

-- A step of the walk

pub nothing_walked : (rows : List PlaceLinks) (starts halts : List ℕ) (r : NodeSet) → ((m : TableNode) → has_node r m ≡ false) → IsWalked rows starts halts 0 r []
nothing_walked rows starts halts r h = record {
  sound = λ m e. (let clash : true ≡ false = sym e ∙ h m in cc);
  started = λ k low e. absurd (omega arith);
  within = λ m c. absurd (no_member m c);
  marked = λ m c. absurd (no_member m c);
  closed = λ l m e c k. (let clash : true ≡ false = sym e ∙ h l in cc);
}

next_within : (rows : List PlaceLinks) (l m : TableNode) → IsTable rows → Contains (nexts rows l) m → node_number m < length rows
next_within rows l m t c = by_row (slice_get rows (node_number l)) refl c
  where
    at_node : (o : TableNode) → o ≡ m → node_number o < length rows → node_number m < length rows
    at_node o e h = let P : TableNode → Type 0 = λ z. node_number z < length rows in subst P e h

    in_row : (row : PlaceLinks) (k : TableNode) → IsRowOf (length rows) row → Contains (nexts_if (Some row) k) m → node_number m < length rows
    in_row row (n.Start k) h c =
        either_of (contains_cases row.first m (row.second ∷ []) c) (λ e. at_node row.first e h.first)
        (λ d. either_of (contains_cases row.second m [] d) (λ e. at_node row.second e h.second) (λ i. absurd (no_member m i)))
    in_row row (n.Complete k) h c = either_of (contains_cases row.behind m [] c) (λ e. at_node row.behind e h.behind) (λ i. absurd (no_member m i))

    by_row : (o : Option PlaceLinks) → slice_get rows (node_number l) ≡ o → Contains (nexts_if o l) m → node_number m < length rows
    by_row None e c = absurd (no_member m c)
    by_row (Some row) e c = in_row row l (t.each (node_number l) row e) c

pub walk_step : (rows : List PlaceLinks) (starts halts : List ℕ) (count : ℕ) (l : TableNode) (r s : NodeSet) (all todo us : List TableNode) → IsTable rows
    → all ≡ todo ++ l ∷ [] → IsWalked rows starts halts count r all → VisitsEach halts (nexts rows l) r todo s us → IsWalked rows starts halts count s us
walk_step rows starts halts count l r s all todo us table e w v = record {
  sound = x.sound (λ m c h. goes (w.sound l own) c h) w.sound;
  started = λ k low h. x.grows (n.Start k) (w.started k low h);
  within = x.within (λ m c. next_within rows l m table c) (λ m c. w.within m (before m c));
  marked = x.marked (λ m c. w.marked m (before m c));
  closed = λ k m h c i. at_node k m c i (x.new k h);
}
  where
    x : IsVisited rows starts halts count (nexts rows l) r todo s us
    x = visited rows starts halts count (nexts rows l) r s todo us v

    before : (m : TableNode) → Contains todo m → Contains all m
    before m c = let P : List TableNode → Type 0 = λ z. Contains z m in subst P (sym e) (Contains-append_left todo (l ∷ []) m c)

    own : has_node r l ≡ true
    own = w.marked l (let P : List TableNode → Type 0 = λ z. Contains z l in subst P (sym e) (Contains-push todo l))

    popped : (k m : TableNode) → Contains (nexts rows k) m → is_halted halts m ≡ false → Contains todo k ⊎ (l ≡ k) → (has_node s m ≡ true) ⊎ Contains us k
    popped k m c i (inl d) = inr (x.waits k d)
    popped k m c i (inr same) = let P : TableNode → Type 0 = λ z. Contains (nexts rows z) m in inl (x.each m (subst P (sym same) c) i)

    at_node : (k m : TableNode) → Contains (nexts rows k) m → is_halted halts m ≡ false → (has_node r k ≡ true) ⊎ Contains us k → (has_node s m ≡ true) ⊎ Contains us k
    at_node k m c i (inr d) = inr d
    at_node k m c i (inl h) =
        elim (w.closed k m h c i) [
          | inl g ↦ inl (x.grows m g)
          | inr d ↦ popped k m c i (Contains-push_cases todo l k (let P : List TableNode → Type 0 = λ z. Contains z k in subst P e d))
        ]

-- a start, where the place is one of those
pub start_step : (rows : List PlaceLinks) (starts halts : List ℕ) (k j : ℕ) (r s : NodeSet) (todo us : List TableNode) → j ≡ suc k → k < length rows → has_place starts k ≡ true
    → IsWalked rows starts halts k r todo → Visits halts (n.Start k) r todo s us → IsWalked rows starts halts j s us
start_step rows starts halts k j r s todo us e low there w v =
    let P : ℕ → Type 0 = λ z. IsWalked rows starts halts z s us in
    subst P (sym e) (record {
      sound = x.sound (λ m c h. at_start m (only m c)) w.sound;
      started = λ i high h. elim (ℕ_discrete i k) [ yes same ↦ (let Q : ℕ → Type 0 = λ z. has_node s (n.Start z) ≡ true in subst Q (sym same) (x.each (n.Start k) (contains_first (n.Start k) []) refl)) | no other ↦ x.grows (n.Start i) (w.started i (omega arith) h) ];
      within = x.within (λ m c. (let Q : TableNode → Type 0 = λ z. node_number z < length rows in subst Q (only m c) low)) w.within;
      marked = x.marked w.marked;
      closed = λ l m h c i. at_node l m c i (x.new l h);
    })
  where
    x : IsVisited rows starts halts k (n.Start k ∷ []) r todo s us
    x = one_more rows starts halts k (n.Start k) [] r s s todo us us v (none_visited rows starts halts k s s us us refl refl)

    only : (m : TableNode) → Contains (n.Start k ∷ []) m → n.Start k ≡ m
    only m c = either_of (contains_cases (n.Start k) m [] c) (λ i. i) (λ i. absurd (no_member m i))

    at_start : (m : TableNode) → n.Start k ≡ m → HasPathTo rows starts halts m
    at_start m i = let Q : TableNode → Type 0 = λ z. HasPathTo rows starts halts z in subst Q i (from low there)

    at_node : (l m : TableNode) → Contains (nexts rows l) m → is_halted halts m ≡ false → (has_node r l ≡ true) ⊎ Contains us l → (has_node s m ≡ true) ⊎ Contains us l
    at_node l m c i (inr d) = inr d
    at_node l m c i (inl h) = elim (w.closed l m h c i) [ inl g ↦ inl (x.grows m g) | inr d ↦ inr (x.waits l d) ]

pub no_start : (rows : List PlaceLinks) (starts halts : List ℕ) (k j : ℕ) (r : NodeSet) (todo : List TableNode) → j ≡ suc k → has_place starts k ≡ false
    → IsWalked rows starts halts k r todo → IsWalked rows starts halts j r todo
no_start rows starts halts k j r todo e none w =
    let P : ℕ → Type 0 = λ z. IsWalked rows starts halts z r todo in
    subst P (sym e) (record {
      sound = w.sound;
      started = λ i high h. elim (ℕ_discrete i k) [ yes same ↦ (let clash : true ≡ false = sym h ∙ (ap (has_place starts) same ∙ none) in cc) | no other ↦ w.started i (omega arith) h ];
      within = w.within;
      marked = w.marked;
      closed = w.closed;
    })

-- The end

no_next : (rows : List PlaceLinks) (l m : TableNode) → length rows ≤ node_number l → Contains (nexts rows l) m → ⊥
no_next rows l m h c = let P : Option PlaceLinks → Type 0 = λ z. Contains (nexts_if z l) m in nothing (subst P (slice_get_past rows (node_number l) h) c)
  where
    nothing : Contains (nexts_if None l) m → ⊥
    nothing d = no_member m d

all_put : (rows : List PlaceLinks) (starts halts : List ℕ) (r : NodeSet) → IsWalked rows starts halts (length rows) r [] → (m : TableNode) → HasPathTo rows starts halts m → has_node r m ≡ true
all_put rows starts halts r w m (from {k = k} low h) = w.started k low h
all_put rows starts halts r w m (goes {l = l} p c h) = elim (w.closed l m (all_put rows starts halts r w l p) c h) [ inl e ↦ e | inr d ↦ absurd (no_member l d) ]

pub walk_done : (rows : List PlaceLinks) (starts halts : List ℕ) (r : NodeSet) → IsWalked rows starts halts (length rows) r [] → (m : TableNode) → (has_node r m ≡ true) ↔ HasPathTo rows starts halts m
walk_done rows starts halts r w m = (w.sound m, all_put rows starts halts r w m)

-- The measure

left_alike : (f g : ℕ → Bool) (count : ℕ) → ((j : ℕ) → j < count → g j ≡ f j) → left_out g count ≡ left_out f count
unfolding left_out
left_alike f g zero h = refl
left_alike f g (suc k) h =
    ap (λ (b : Bool). if b then left_out g k else suc (left_out g k)) (h k (omega arith))
    ∙ ap (λ (z : ℕ). if f k then z else suc z) (left_alike f g k (λ j low. h j (omega arith)))

pub left_falls : (f g : ℕ → Bool) (count k : ℕ) → k < count → f k ≡ false → g k ≡ true → ((j : ℕ) → (j ≡ k → ⊥) → g j ≡ f j) → suc (left_out g count) ≡ left_out f count
unfolding left_out
left_falls f g zero k low a b h = absurd (omega arith)
left_falls f g (suc c) k low a b h =
    elim (ℕ_discrete k c) [
      | yes e ↦ (let fc : f c ≡ false = ap f (sym e) ∙ a in
          let gc : g c ≡ true = ap g (sym e) ∙ b in
          let rest = left_alike f g c (λ j less. h j (λ same. omega arith)) in
          rw (fc, gc) (ap suc rest))
      | no d ↦ (let same : g c ≡ f c = h c (λ e. d (sym e)) in
          let ih = left_falls f g c k (omega arith) a b h in
          rw same (step (f c) (left_out g c) (left_out f c) ih))
    ]
  where
    step : (t : Bool) (x y : ℕ) → suc x ≡ y → suc (if t then x else suc x) ≡ (if t then y else suc y)
    step true x y e = e
    step false x y e = ap suc e

-- a node was put: one less is left
put_less : (rows : List PlaceLinks) (m : TableNode) (r s : NodeSet) (count : ℕ) → node_number m < count → has_node r m ≡ false → IsWith m r s
    → suc (left_out (has_place s.starts) count + left_out (has_place s.completions) count) ≡ left_out (has_place r.starts) count + left_out (has_place r.completions) count
put_less rows (n.Start k) r s count low h w =
    let falls = left_falls (has_place r.starts) (has_place s.starts) count k low h (with_own (n.Start k) r s w)
    (λ j d. w (n.Start j) ∙ ap (λ (b : Bool). if b then true else has_place r.starts j) (ne_eqb j k d)) in
    let same = left_alike (has_place r.completions) (has_place s.completions) count (λ j i. w (n.Complete j)) in
    omega (arith, falls, same)
put_less rows (n.Complete k) r s count low h w =
    let falls = left_falls (has_place r.completions) (has_place s.completions) count k low h (with_own (n.Complete k) r s w)
    (λ j d. w (n.Complete j) ∙ ap (λ (b : Bool). if b then true else has_place r.completions j) (ne_eqb j k d)) in
    let same = left_alike (has_place r.starts) (has_place s.starts) count (λ j i. w (n.Start j)) in
    omega (arith, falls, same)

visit_less : (rows : List PlaceLinks) (halts : List ℕ) (m : TableNode) (r s : NodeSet) (os us : List TableNode) (count : ℕ) → node_number m < count → Visits halts m r os s us
    → left_to_do count s us ≤ left_to_do count r os
visit_less rows halts m r s os us count low (inl v) =
    let P : NodeSet → Type 0 = λ z. left_to_do count z us ≤ left_to_do count r os in
    let Q : List TableNode → Type 0 = λ z. left_to_do count r z ≤ left_to_do count r os in
    subst P (sym v.1.0) (subst Q (sym v.1.1) (omega arith))
visit_less rows halts m r s os us count low (inr v) =
    let less = put_less rows m r s count low (false_or (has_node r m) (is_halted halts m) v.0).0 v.1.0 in
    let long : length us ≡ length os + 1 = ap length v.1.1 ∙ length-append os (m ∷ []) in
    omega (arith, less, long)

each_less : (rows : List PlaceLinks) (halts : List ℕ) (ms : List TableNode) (r s : NodeSet) (os us : List TableNode) (count : ℕ) → ((m : TableNode) → Contains ms m → node_number m < count)
    → VisitsEach halts ms r os s us → left_to_do count s us ≤ left_to_do count r os
each_less rows halts [] r s os us count h v = visit_none
  where
    visit_none : left_to_do count s us ≤ left_to_do count r os
    visit_none =
        let P : NodeSet → Type 0 = λ z. left_to_do count z us ≤ left_to_do count r os in
        let Q : List TableNode → Type 0 = λ z. left_to_do count r z ≤ left_to_do count r os in
        subst P (sym v.0) (subst Q (sym v.1) (omega arith))
each_less rows halts (m ∷ ms) r s os us count h v =
    let first = visit_less rows halts m r v.0 os v.1.0 count (h m (contains_first m ms)) v.1.1.0 in
    let rest = each_less rows halts ms v.0 s v.1.0 us count (λ o c. h o (contains_later m o ms c)) v.1.1.1 in
    omega (arith, first, rest)

-- a node is taken, and those behind it are visited
pub walk_less : (rows : List PlaceLinks) (halts : List ℕ) (l : TableNode) (r s : NodeSet) (all todo us : List TableNode) → IsTable rows → all ≡ todo ++ l ∷ []
    → VisitsEach halts (nexts rows l) r todo s us → left_to_do (length rows) s us < left_to_do (length rows) r all
walk_less rows halts l r s all todo us table e v =
    let less = each_less rows halts (nexts rows l) r s todo us (length rows) (λ m c. next_within rows l m table c) v in
    let long : length all ≡ length todo + 1 = ap length e ∙ length-append todo (l ∷ []) in
    omega (arith, less, long)

-- The nodes behind one, by its row

row_at : (rows : List PlaceLinks) (k : ℕ) (d : PlaceLinks) → k < length rows → slice_get rows k ≡ Some (get_or rows k d)
row_at rows k d low = slice_get-get_or rows k d low

pub second_low : (rows : List PlaceLinks) (k : ℕ) (l : TableNode) (d : PlaceLinks) → IsTable rows → l ≡ n.Start k → node_number l < length rows → node_number (get_or rows k d).second < place_limit
second_low rows k l d t e h =
    let P : TableNode → Type 0 = λ z. node_number z < length rows in
    let low = (t.each k (get_or rows k d) (row_at rows k d (subst P e h))).second in
    let few = t.few in
    omega (arith, low, few)

pub behind_low : (rows : List PlaceLinks) (k : ℕ) (l : TableNode) (d : PlaceLinks) → IsTable rows → l ≡ n.Complete k → node_number l < length rows → node_number (get_or rows k d).behind < place_limit
behind_low rows k l d t e h =
    let P : TableNode → Type 0 = λ z. node_number z < length rows in
    let low = (t.each k (get_or rows k d) (row_at rows k d (subst P e h))).behind in
    let few = t.few in
    omega (arith, low, few)

pub visits_behind : (rows : List PlaceLinks) (halts : List ℕ) (k : ℕ) (l : TableNode) (d : PlaceLinks) (r s : NodeSet) (os us : List TableNode) → l ≡ n.Complete k → node_number l < length rows
    → Visits halts (get_or rows k d).behind r os s us → VisitsEach halts (nexts rows l) r os s us
visits_behind rows halts k l d r s os us e h v =
    let P : TableNode → Type 0 = λ z. node_number z < length rows in
    let Q : TableNode → Type 0 = λ z. VisitsEach halts (nexts rows z) r os s us in
    let R : Option PlaceLinks → Type 0 = λ z. VisitsEach halts (nexts_if z (n.Complete k)) r os s us in
    subst Q (sym e) (subst R (sym (row_at rows k d (subst P e h))) (s, (us, (v, (refl, refl)))))

pub visits_both : (rows : List PlaceLinks) (halts : List ℕ) (k : ℕ) (l : TableNode) (d : PlaceLinks) (r t s : NodeSet) (os ns us : List TableNode) → l ≡ n.Start k → node_number l < length rows
    → Visits halts (get_or rows k d).first r os t ns → Visits halts (get_or rows k d).second t ns s us → VisitsEach halts (nexts rows l) r os s us
visits_both rows halts k l d r t s os ns us e h v w =
    let P : TableNode → Type 0 = λ z. node_number z < length rows in
    let Q : TableNode → Type 0 = λ z. VisitsEach halts (nexts rows z) r os s us in
    let R : Option PlaceLinks → Type 0 = λ z. VisitsEach halts (nexts_if z (n.Start k)) r os s us in
    subst Q (sym e) (subst R (sym (row_at rows k d (subst P e h))) (t, (ns, (v, (s, (us, (w, (refl, refl))))))))
