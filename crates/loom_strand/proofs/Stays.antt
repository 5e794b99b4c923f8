-- Where a thread stays with an operation, and with a newer version: its place while something is owed, and its locals.
use Rattle.std.proofs.Common.{ℕ, ◌≡◌, ◌⊎◌, false, List, [], ◌∷◌, ℤ, Option, Some, None, refl, inl, inr, sym, ap, ◌∙◌}
use Rattle.loom_tree.specs.Tree.{Source}
use Rattle.loom_lang.specs.Rules.{KeepsRules}
use Rattle.loom_lang.specs.Places.{place_at}
use Rattle.loom_lang.specs.Places as site
use Rattle.loom_lang.specs.Trace.{Locals}
use Rattle.loom_flow.specs.State.{named}
use Rattle.loom_trace.specs.declared.request.Request.{Request}
use Rattle.loom_law.specs.Filter.{Plan}
use Rattle.loom_law.specs.Walk.{Version, Plans, Operation, wait, enters, at, past, post, leave, back, tick, cross, blocked, OpenStatement, OpenFrame, Inside, Spot, elsewhere, beginning, entered, complete, left, trapped, Queue, Walk, in_frame, completed, without_first, note_events, begun_at, left_behind, owed_behind_cross, frames_without, without_filters, spot_without, crossing, after_operation, innermost, place_in_top, place_of_request, request_place}
use Rattle.loom_law.proofs.PlaceNumbers.{one_number}
use Rattle.loom_plan.specs.PlaceEvents.{names_at}
use Rattle.loom_walk.specs.declared.spot.Spot.{Spot as ShortSpot}
use Rattle.loom_walk.specs.declared.spot.Spot.TheVariants as s
use Rattle.loom_walk.specs.FilterWalk.{IsSpot, HasLocalsAt}
use Rattle.loom_strand.specs.StrandInvariant.{operation_request}

-- Places

noted_place : (f k : ℕ) (ns : List ℕ) (ss : List OpenStatement) → innermost f (note_events k ns ss) ≡ innermost f ss
noted_place f k ns [] = refl
noted_place f k ns (x ∷ xs) = refl

begun_place : (f : Plan) (t : Spot) (k : ℕ) (ns : List ℕ) (fs : List OpenFrame) → place_in_top (in_frame (begun_at f t k ns) fs) ≡ place_in_top fs
begun_place f t k ns [] = refl
begun_place f elsewhere k ns (x ∷ xs) = refl
begun_place f (beginning l env) k ns (x ∷ xs) = noted_place x.func k ns x.statements
begun_place f (entered g env) k ns (x ∷ xs) = refl
begun_place f (complete l) k ns (x ∷ xs) = refl
begun_place f (left g is) k ns (x ∷ xs) = refl
begun_place f (trapped l) k ns (x ∷ xs) = refl

completed_place : (k : ℕ) (ns : List ℕ) (fs : List OpenFrame) → place_in_top (in_frame (completed k ns) fs) ≡ place_in_top fs
completed_place k ns [] = refl
completed_place k ns (x ∷ xs) = refl

without_place : (ks : List ℕ) (fs : List OpenFrame) → place_in_top (frames_without ks fs) ≡ place_in_top fs
without_place ks [] = refl
without_place ks (x ∷ xs) = refl

-- While something is owed, or where no frame is open, it stays.
owing_place : (t : Spot) (os us : Queue) (fs gs : List OpenFrame) → place_in_top gs ≡ place_in_top fs → (os ≡ [] → ⊥) → ((us ≡ [] → ⊥) ⊎ (gs ≡ [])) → place_of_request t us gs ≡ place_of_request t os fs
owing_place elsewhere os us fs gs top some more = top
owing_place (beginning l env) os us fs gs top some more = top
owing_place (entered f env) os us fs gs top some more = top
owing_place (complete l) os us fs gs top some more = refl
owing_place (trapped l) os us fs gs top some more = refl
owing_place (left f is) [] us fs gs top some more = absurd (some refl)
owing_place (left f is) (o ∷ os) (u ∷ us) fs gs top some more = refl
owing_place (left f is) (o ∷ os) [] fs gs top some (inl more) = absurd (more refl)
owing_place (left f is) (o ∷ os) [] fs [] top some (inr none) = refl
owing_place (left f is) (o ∷ os) [] fs (g ∷ gs) top some (inr none) = cc

back_place : (t : Spot) (us : Queue) (gs : List OpenFrame) → place_of_request (left_behind t) us gs ≡ place_of_request t us gs
back_place elsewhere us gs = refl
back_place (beginning l env) us gs = refl
back_place (entered f env) us gs = refl
back_place (complete l) us gs = refl
back_place (trapped l) us gs = refl
back_place (left f is) (u ∷ us) gs = refl
back_place (left f is) [] [] = refl
back_place (left f is) [] (g ∷ gs) = refl

spot_place : (ks : List ℕ) (t : Spot) (us : Queue) (gs : List OpenFrame) → place_of_request (spot_without ks t) us gs ≡ place_of_request t us gs
spot_place ks elsewhere us gs = refl
spot_place ks (beginning l env) us gs = refl
spot_place ks (entered f env) us gs = refl
spot_place ks (complete l) us gs = refl
spot_place ks (trapped l) us gs = refl
spot_place ks (left f is) (u ∷ us) gs = refl
spot_place ks (left f is) [] [] = refl
spot_place ks (left f is) [] (g ∷ gs) = refl

none_some : (q : Request) → ◌≡◌ {A = Option Request} None (Some q) → ⊥
none_some q e = cc

pub operation_place : (p : Source) (plans : Plans) (z : Walk) (l : ℕ) (o : Operation) (q : Request) → operation_request l o ≡ Some q → (z.owed ≡ [] → ⊥)
    → ((Walk.owed (after_operation p plans z o) ≡ [] → ⊥) ⊎ (Walk.frames (after_operation p plans z o) ≡ [])) → request_place (after_operation p plans z o) ≡ request_place z
operation_place p plans z l (wait k n) q e some more = owing_place z.spot z.owed (without_first z.owed) z.frames z.frames refl some more
operation_place p plans z l (enters k c) q e some more = owing_place z.spot z.owed (without_first z.owed) z.frames z.frames refl some more
operation_place p plans z l (at k ns) q e some more =
    owing_place z.spot z.owed (without_first z.owed) z.frames (in_frame (begun_at (plans k) z.spot k ns) z.frames) (begun_place (plans k) z.spot k ns z.frames) some more
operation_place p plans z l (past k ns) q e some more =
    owing_place z.spot z.owed (without_first z.owed) z.frames (in_frame (completed k ns) z.frames) (completed_place k ns z.frames) some more
operation_place p plans z l (post k n) q e some more = owing_place z.spot z.owed (without_first z.owed) z.frames z.frames refl some more
operation_place p plans z l (leave k c) q e some more = owing_place z.spot z.owed (without_first z.owed) z.frames z.frames refl some more
operation_place p plans z l back q e some more =
    back_place z.spot (without_first z.owed) z.frames ∙ owing_place z.spot z.owed (without_first z.owed) z.frames z.frames refl some more
operation_place p plans z l (tick x) q e some more = owing_place z.spot z.owed (without_first z.owed) z.frames z.frames refl some more
operation_place p plans z l (cross x v n) q e some more = absurd (none_some q e)
operation_place p plans z l (blocked what) q e some more = absurd (none_some q e)

rest_place : (ks : List ℕ) (t : Spot) (fs : List OpenFrame) → place_of_request t [] (frames_without ks fs) ≡ place_of_request t [] fs
rest_place ks elsewhere fs = without_place ks fs
rest_place ks (beginning l env) fs = without_place ks fs
rest_place ks (entered f env) fs = without_place ks fs
rest_place ks (complete l) fs = refl
rest_place ks (trapped l) fs = refl
rest_place ks (left f is) [] = refl
rest_place ks (left f is) (x ∷ xs) = refl

pub crossing_place : (p : Source) (plans : Plans) (z : Walk) (v : Version)
    → ((Walk.owed (crossing p plans z (v ∷ [])) ≡ [] → ⊥) ⊎ (Walk.frames (crossing p plans z (v ∷ [])) ≡ [])) → request_place (crossing p plans z (v ∷ [])) ≡ request_place z
crossing_place p plans z v more =
    spot_place v.active z.spot (owed_behind_cross p plans z.spot z.active v.active z.owed) (frames_without v.active z.frames) ∙ by_owed z.owed more
  where
    by_owed : (os : Queue) → ((owed_behind_cross p plans z.spot z.active v.active os ≡ [] → ⊥) ⊎ (frames_without v.active z.frames ≡ []))
        → place_of_request z.spot (owed_behind_cross p plans z.spot z.active v.active os) (frames_without v.active z.frames) ≡ place_of_request z.spot os z.frames
    by_owed [] m = rest_place v.active z.spot z.frames
    by_owed (o ∷ os) m =
        owing_place z.spot (o ∷ os) (owed_behind_cross p plans z.spot z.active v.active (o ∷ os)) z.frames (frames_without v.active z.frames) (without_place v.active z.frames) (λ e. cc) m

-- where nothing was owed nothing is
pub crossing_rests : (p : Source) (plans : Plans) (z : Walk) (v : Version) → z.owed ≡ [] → Walk.owed (crossing p plans z (v ∷ [])) ≡ []
crossing_rests p plans z v none = ap (owed_behind_cross p plans z.spot z.active v.active) none

-- Locals

locals_elsewhere : (p : Source) (b : ShortSpot) (vs : List ℤ) → HasLocalsAt p b vs elsewhere
locals_elsewhere p (s.Beginning line to) vs = tt
locals_elsewhere p (s.Entered to) vs = tt
locals_elsewhere p _ vs = tt

locals_complete : (p : Source) (b : ShortSpot) (vs : List ℤ) (l : ℕ) → HasLocalsAt p b vs (complete l)
locals_complete p (s.Beginning line to) vs l = tt
locals_complete p (s.Entered to) vs l = tt
locals_complete p _ vs l = tt

locals_left : (p : Source) (b : ShortSpot) (vs : List ℤ) (f : ℕ) (is : List Inside) → HasLocalsAt p b vs (left f is)
locals_left p (s.Beginning line to) vs f is = tt
locals_left p (s.Entered to) vs f is = tt
locals_left p _ vs f is = tt

pub locals_trapped : (p : Source) (b : ShortSpot) (vs : List ℤ) (l : ℕ) → HasLocalsAt p b vs (trapped l)
locals_trapped p (s.Beginning line to) vs l = tt
locals_trapped p (s.Entered to) vs l = tt
locals_trapped p _ vs l = tt

at_beginning : (p : Source) → KeepsRules p → (b : ShortSpot) (vs : List ℤ) (l n : ℕ) (env : Locals) → IsSpot p b (beginning l env) → place_at p n ≡ Some (site.inside l)
    → env ≡ named (names_at p n) vs → HasLocalsAt p b vs (beginning l env)
at_beginning p r (s.Beginning line to) vs l n env k there is = is ∙ ap (λ j. named (names_at p j) vs) (sym (one_number p r n (site.inside l) there) ∙ one_number p r to (site.inside l) k.1)
at_beginning p r _ vs l n env k there is = absurd k

same_beginning : (p : Source) → KeepsRules p → (a b : ShortSpot) (vs : List ℤ) (l : ℕ) (env : Locals) → IsSpot p a (beginning l env) → IsSpot p b (beginning l env)
    → HasLocalsAt p a vs (beginning l env) → HasLocalsAt p b vs (beginning l env)
same_beginning p r (s.Beginning line n) b vs l env g k h = at_beginning p r b vs l n env k g.1 h
same_beginning p r _ b vs l env g k h = absurd g

at_entry : (p : Source) → KeepsRules p → (b : ShortSpot) (vs : List ℤ) (f n : ℕ) (env : Locals) → IsSpot p b (entered f env) → place_at p n ≡ Some (site.entry f)
    → env ≡ named (names_at p n) vs → HasLocalsAt p b vs (entered f env)
at_entry p r (s.Entered to) vs f n env k there is = is ∙ ap (λ j. named (names_at p j) vs) (sym (one_number p r n (site.entry f) there) ∙ one_number p r to (site.entry f) k)
at_entry p r _ vs f n env k there is = absurd k

same_entry : (p : Source) → KeepsRules p → (a b : ShortSpot) (vs : List ℤ) (f : ℕ) (env : Locals) → IsSpot p a (entered f env) → IsSpot p b (entered f env)
    → HasLocalsAt p a vs (entered f env) → HasLocalsAt p b vs (entered f env)
same_entry p r (s.Entered n) b vs f env g k h = at_entry p r b vs f n env k g h
same_entry p r _ b vs f env g k h = absurd g

-- Two small copies of one spot have the same locals.
pub same_locals : (p : Source) → KeepsRules p → (a b : ShortSpot) (vs : List ℤ) (t : Spot) → IsSpot p a t → IsSpot p b t → HasLocalsAt p a vs t → HasLocalsAt p b vs t
same_locals p r a b vs elsewhere g k h = locals_elsewhere p b vs
same_locals p r a b vs (beginning l env) g k h = same_beginning p r a b vs l env g k h
same_locals p r a b vs (entered f env) g k h = same_entry p r a b vs f env g k h
same_locals p r a b vs (complete l) g k h = locals_complete p b vs l
same_locals p r a b vs (left f is) g k h = locals_left p b vs f is
same_locals p r a b vs (trapped l) g k h = locals_trapped p b vs l

back_locals : (p : Source) → KeepsRules p → (a b : ShortSpot) (vs : List ℤ) (t : Spot) → IsSpot p a t → IsSpot p b (left_behind t) → HasLocalsAt p a vs t → HasLocalsAt p b vs (left_behind t)
back_locals p r a b vs elsewhere g k h = locals_elsewhere p b vs
back_locals p r a b vs (beginning l env) g k h = same_beginning p r a b vs l env g k h
back_locals p r a b vs (entered f env) g k h = same_entry p r a b vs f env g k h
back_locals p r a b vs (complete l) g k h = locals_complete p b vs l
back_locals p r a b vs (left f is) g k h = locals_left p b vs f []
back_locals p r a b vs (trapped l) g k h = locals_trapped p b vs l

pub crossing_locals : (p : Source) → KeepsRules p → (ks : List ℕ) (a b : ShortSpot) (vs : List ℤ) (t : Spot) → IsSpot p a t → IsSpot p b (spot_without ks t) → HasLocalsAt p a vs t
    → HasLocalsAt p b vs (spot_without ks t)
crossing_locals p r ks a b vs elsewhere g k h = locals_elsewhere p b vs
crossing_locals p r ks a b vs (beginning l env) g k h = same_beginning p r a b vs l env g k h
crossing_locals p r ks a b vs (entered f env) g k h = same_entry p r a b vs f env g k h
crossing_locals p r ks a b vs (complete l) g k h = locals_complete p b vs l
crossing_locals p r ks a b vs (left f is) g k h = locals_left p b vs f (without_filters ks is)
crossing_locals p r ks a b vs (trapped l) g k h = locals_trapped p b vs l

pub operation_locals : (p : Source) (plans : Plans) → KeepsRules p → (z : Walk) (l : ℕ) (o : Operation) (q : Request) (a b : ShortSpot) (vs : List ℤ) → operation_request l o ≡ Some q
    → IsSpot p a z.spot → IsSpot p b (Walk.spot (after_operation p plans z o)) → HasLocalsAt p a vs z.spot → HasLocalsAt p b vs (Walk.spot (after_operation p plans z o))
operation_locals p plans r z l (wait k n) q a b vs e g is h = same_locals p r a b vs z.spot g is h
operation_locals p plans r z l (enters k c) q a b vs e g is h = same_locals p r a b vs z.spot g is h
operation_locals p plans r z l (at k ns) q a b vs e g is h = same_locals p r a b vs z.spot g is h
operation_locals p plans r z l (past k ns) q a b vs e g is h = same_locals p r a b vs z.spot g is h
operation_locals p plans r z l (post k n) q a b vs e g is h = same_locals p r a b vs z.spot g is h
operation_locals p plans r z l (leave k c) q a b vs e g is h = same_locals p r a b vs z.spot g is h
operation_locals p plans r z l back q a b vs e g is h = back_locals p r a b vs z.spot g is h
operation_locals p plans r z l (tick x) q a b vs e g is h = same_locals p r a b vs z.spot g is h
operation_locals p plans r z l (cross x v n) q a b vs e g is h = absurd (none_some q e)
operation_locals p plans r z l (blocked what) q a b vs e g is h = absurd (none_some q e)

-- What an operation leaves as it was

pub operation_active : (p : Source) (plans : Plans) (z : Walk) (l : ℕ) (o : Operation) (q : Request) → operation_request l o ≡ Some q → Walk.active (after_operation p plans z o) ≡ z.active
operation_active p plans z l (wait k n) q e = refl
operation_active p plans z l (enters k c) q e = refl
operation_active p plans z l (at k ns) q e = refl
operation_active p plans z l (past k ns) q e = refl
operation_active p plans z l (post k n) q e = refl
operation_active p plans z l (leave k c) q e = refl
operation_active p plans z l back q e = refl
operation_active p plans z l (tick x) q e = refl
operation_active p plans z l (cross x v n) q e = absurd (none_some q e)
operation_active p plans z l (blocked what) q e = absurd (none_some q e)

pub operation_passed : (p : Source) (plans : Plans) (z : Walk) (l : ℕ) (o : Operation) (q : Request) → operation_request l o ≡ Some q → Walk.passed (after_operation p plans z o) ≡ []
operation_passed p plans z l (wait k n) q e = refl
operation_passed p plans z l (enters k c) q e = refl
operation_passed p plans z l (at k ns) q e = refl
operation_passed p plans z l (past k ns) q e = refl
operation_passed p plans z l (post k n) q e = refl
operation_passed p plans z l (leave k c) q e = refl
operation_passed p plans z l back q e = refl
operation_passed p plans z l (tick x) q e = refl
operation_passed p plans z l (cross x v n) q e = absurd (none_some q e)
operation_passed p plans z l (blocked what) q e = absurd (none_some q e)

pub operation_free : (p : Source) (plans : Plans) (z : Walk) (l : ℕ) (o : Operation) (q : Request) → operation_request l o ≡ Some q → Walk.is_blocked (after_operation p plans z o) ≡ false
operation_free p plans z l (wait k n) q e = refl
operation_free p plans z l (enters k c) q e = refl
operation_free p plans z l (at k ns) q e = refl
operation_free p plans z l (past k ns) q e = refl
operation_free p plans z l (post k n) q e = refl
operation_free p plans z l (leave k c) q e = refl
operation_free p plans z l back q e = refl
operation_free p plans z l (tick x) q e = refl
operation_free p plans z l (cross x v n) q e = absurd (none_some q e)
operation_free p plans z l (blocked what) q e = absurd (none_some q e)
