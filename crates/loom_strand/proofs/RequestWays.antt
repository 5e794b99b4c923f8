-- The way of a thread with the step that answers what it asks for.
use Rattle.std.proofs.Common.{ℕ, ◌≡◌, List, [], ◌∷◌, ◌++◌, length, ℤ, Option, Some, None, IfSome, refl, inl, inr, sym, ap, subst, ◌∙◌, append-nil}
use Rattle.loom_tree.specs.Tree.{Source}
use Rattle.loom_lang.specs.Places.{Place, line_of_place}
use Rattle.loom_lang.specs.Trace.{Item, Outcome, Open, Cause, division, index, not_held, not_spawned, threads, frames, overflow, reason, made, begins, done, edge, enter, out, IsTrace}
use Rattle.loom_lang.specs.Acts.{Deed}
use Rattle.loom_trace.specs.declared.entry.Entry.{Entry}
use Rattle.loom_trace.specs.declared.request.Request.{Request}
use Rattle.loom_trace.specs.declared.request.Request.TheVariants as r
use Rattle.loom_event.specs.Answer.{grant_deed, trap_deed, cause_of, trap_at}
use Rattle.loom_flow.specs.Flow.{Flow}
use Rattle.loom_flow.specs.Code.{IsLowered}
use Rattle.loom_flow.specs.FlatTrace.{IsFlatTrace}
use Rattle.loom_flow.specs.Progress.{Progress, goes, asks, traps, ends, nothing}
use Rattle.loom_law.specs.Walk.{Version, Plans, Operation, cross, PartStep, makes, items, filter_entries, entry_of_operation, Queue, Walk, place_number, request_place, place_of_next, unborn, crossing, walk_from, MayCross, MayStand, AreWoven}
use Rattle.loom_law.specs.ThreadPart.{Own, walk_of, IsPart, HasMoved, AsksToAct, GoesOn}
use Rattle.loom_law.proofs.Earlier.{to_take}
use Rattle.loom_law.proofs.Answers.{HasMore, more, woven_last}
use Rattle.loom_strand.specs.PositionRequest.{question_request, request_at}
use Rattle.loom_strand.specs.Way.{MayCome, Look, looks_nowhere, looks_ahead, looks_for_grant, IsSeen, IsWay, IsNextPlace, IsPlaceAhead, end_line}
use Rattle.loom_strand.proofs.Steps.{items_append, walk_append, told_append}
use Rattle.loom_strand.proofs.Ways.{none_comes}
use Rattle.loom_strand.proofs.PartSteps.{flat_tree}
use Rattle.loom_strand.proofs.Openings.{grants_open, traps_open, IsOpening, IsLookedAt, next_opens, next_item}

-- Parts

-- Some items may come that the last steps look for.
pub record HasAhead (c : Flow) (f : ℕ) (w : Progress) (look : Look) : Type 0 where
  pub ahead : List Item
  pub outcome : Outcome
  pub count : ℕ
  pub comes : MayCome c f w count ahead outcome
  pub seen : IsSeen look ahead

pub nothing_ahead : (c : Flow) (f : ℕ) (w : Progress) → HasAhead c f w looks_nowhere
nothing_ahead c f w = record { ahead = []; outcome = Open; count = 0; comes = none_comes c f w; seen = tt }

pub opening_ahead : (c : Flow) (f : ℕ) (w : Progress) (z : Walk) (y : Place) (look : Look) → IsOpening c f w z y look → HasAhead c f w look
opening_ahead c f w z y look o = record { ahead = o.item ∷ []; outcome = Open; count = 0; comes = o.comes; seen = o.seen }

pub part_of : (c : Flow) (plans : Plans) (x : Own) (w : Progress) (look : Look) (steps : List PartStep) → IsLowered c → HasAhead c x.func w look → IsWay c plans x w look steps → IsPart c.program plans x
part_of c plans x w look steps l a h = record {
  steps = steps;
  ahead = a.ahead;
  outcome = a.outcome;
  trace = flat_tree c l x.func x.args (items steps ++ a.ahead) a.outcome (h.trace a.ahead a.outcome a.count a.comes);
  woven = h.woven a.ahead a.outcome a.count a.comes a.seen;
  tells = h.tells;
  taken = h.taken;
}

pub moved_of : (c : Flow) (plans : Plans) (x : Own) (w : Progress) (look : Look) (steps : List PartStep) (s : PartStep) (y : Entry) → IsLowered c → HasAhead c x.func w look → filter_entries x.thread (s ∷ []) ≡ y ∷ []
    → IsWay c plans x w look (steps ++ s ∷ []) → HasMoved c.program plans x steps
moved_of c plans x w look steps s y l a told h = record {
  last = s;
  ahead = a.ahead;
  outcome = a.outcome;
  trace = flat_tree c l x.func x.args (items (steps ++ s ∷ []) ++ a.ahead) a.outcome (h.trace a.ahead a.outcome a.count a.comes);
  woven = h.woven a.ahead a.outcome a.count a.comes a.seen;
  entry = y;
  is = told;
  tells = h.tells;
}

-- A newer version

same_next : (z : Walk) (vs : List Version) (w : Progress) (y : Place) → IsNextPlace z w y → IsNextPlace (to_take z vs) w y
same_next z vs (goes None v) y h = h
same_next z vs (goes (Some (made l a)) v) y h = h
same_next z vs (goes (Some (begins l env)) v) y h = h
same_next z vs (goes (Some (done l)) v) y h = h
same_next z vs (goes (Some (edge l)) v) y h = h
same_next z vs (goes (Some (enter f env)) v) y h = h
same_next z vs (goes (Some (out f)) v) y h = h
same_next z vs (asks line q behind) y h = h
same_next z vs (traps line k) y h = h
same_next z vs ends y h = h
same_next z vs nothing y h = h

-- where nothing is owed a `Cross` looks at what comes
abbrev pub crossed_look : Queue → Look → Look
crossed_look [] looks_nowhere = looks_ahead
crossed_look [] looks_ahead = looks_ahead
crossed_look [] looks_for_grant = looks_for_grant
crossed_look (o ∷ os) look = look

seen_before : (os : Queue) (look : Look) (is : List Item) → IsSeen (crossed_look os look) is → IsSeen look is
seen_before [] looks_nowhere is h = tt
seen_before [] looks_ahead is h = h
seen_before [] looks_for_grant is h = h
seen_before (o ∷ os) look is h = h

place_there : (c : Flow) (f : ℕ) (w : Progress) (n : ℕ) (z : Walk) (vs : List Version) (os : Queue) (y : Place) (look : Look) (is : List Item) (q : Outcome) → IsPlaceAhead os z w y
    → MayCome c f w n is q → IsSeen (crossed_look os look) is → place_of_next (to_take z vs) os is ≡ Some y
place_there c f w n z vs (o ∷ os) y look is q h come seen = ap {B = Option Place} Some h
place_there c f w n z vs [] y looks_nowhere [] q h come seen = absurd seen
place_there c f w n z vs [] y looks_ahead [] q h come seen = absurd seen
place_there c f w n z vs [] y looks_for_grant [] q h come seen = absurd seen
place_there c f w n z vs [] y look (i ∷ is) q h come seen = next_item c f w n (to_take z vs) y i is q (same_next z vs w y h) come

-- with the version, and the entry of its `Cross`
abbrev pub with_version : Own → Version → ℕ → ℕ → ℕ → Own
with_version x v l k n = record x { versions = x.versions ++ v ∷ []; entries = x.entries ++ entry_of_operation x.thread l (cross k v.number n) ∷ [] }

pub more_walk : (c : Flow) (plans : Plans) (x : Own) (w : Progress) (look : Look) (steps : List PartStep) (v : Version) → HasAhead c x.func w look → IsWay c plans x w look steps
    → walk_from c.program plans (unborn (x.versions ++ v ∷ [])) steps ≡ to_take (walk_of c.program plans x steps) (v ∷ [])
more_walk c plans x w look steps v a h =
    let m : HasMore c.program plans (unborn []) x.versions (v ∷ []) steps a.ahead = more c.program plans (unborn []) x.versions (v ∷ []) steps a.ahead (h.woven a.ahead a.outcome a.count a.comes a.seen) in
    m.1 ∙ ap (λ us. to_take (walk_of c.program plans x steps) (us ++ v ∷ [])) h.taken

-- where the walk is behind it
pub crossed_walk : (c : Flow) (plans : Plans) (x : Own) (w : Progress) (look : Look) (steps : List PartStep) (v : Version) (l k n : ℕ) → HasAhead c x.func w look → IsWay c plans x w look steps
    → walk_of c.program plans (with_version x v l k n) (steps ++ makes l (cross k v.number n) ∷ []) ≡ crossing c.program plans (walk_of c.program plans x steps) (v ∷ [])
crossed_walk c plans x w look steps v l k n a h =
    walk_append c.program plans (unborn (x.versions ++ v ∷ [])) steps (makes l (cross k v.number n) ∷ [])
    ∙ ap (λ (z : Walk). crossing c.program plans z z.coming) (more_walk c plans x w look steps v a h)

none_behind : (steps : List PartStep) (l : ℕ) (o : Operation) (is : List Item) → items (steps ++ makes l o ∷ []) ++ is ≡ items steps ++ is
none_behind steps l o is = ap (λ us. us ++ is) (items_append steps (makes l o ∷ []) ∙ append-nil (items steps))

pub way_crosses : (c : Flow) (plans : Plans) (x : Own) (w : Progress) (look : Look) (steps : List PartStep) (v : Version) (y : Place) (l k n : ℕ) → HasAhead c x.func w look
    → IsPlaceAhead (walk_of c.program plans x steps).owed (walk_of c.program plans x steps) w y → k ≡ place_number c.program y → l ≡ line_of_place c.program y → n ≡ length (walk_of c.program plans x steps).passed
    → IsWay c plans x w look steps → IsWay c plans (with_version x v l k n) w (crossed_look (walk_of c.program plans x steps).owed look) (steps ++ makes l (cross k v.number n) ∷ [])
way_crosses c plans x w look steps v y l k n a there number line count h =
    let z : Walk = walk_of c.program plans x steps in
    let last : PartStep = makes l (cross k v.number n) in
    record {
      tells = told_append x.thread steps (last ∷ []) ∙ ap (λ es. es ++ entry_of_operation x.thread l (cross k v.number n) ∷ []) h.tells;
      taken = ap (λ (u : Walk). u.coming) (crossed_walk c plans x w look steps v l k n a h);
      trace = λ is q m g. subst (λ us. IsFlatTrace c x.func x.args us q) (sym (none_behind steps l (cross k v.number n) is)) (h.trace is q m g);
      woven = λ is q m g seen.
          let woven : AreWoven c.program plans (unborn x.versions) steps is = h.woven is q m g (seen_before z.owed look is seen) in
          let longer : HasMore c.program plans (unborn []) x.versions (v ∷ []) steps is = more c.program plans (unborn []) x.versions (v ∷ []) steps is woven in
          let may : MayCross c.program (to_take z (v ∷ [])) is l k v.number n = record {
            place = y;
            next = place_there c x.func w m z (v ∷ []) z.owed y look is q there g seen;
            number = number;
            line = line;
            version = refl;
            passed = count;
          } in
          woven_last c.program plans (unborn (x.versions ++ v ∷ [])) steps last is longer.0
          (subst (λ (u : Walk). MayStand c.program u last is) (sym (more_walk c plans x w look steps v a h)) may);
    }

-- Acts

goes_on : (p : Source) (x : Own) (steps : List PartStep) (o : Option Deed) → ((d : Deed) → o ≡ Some d → IsTrace p x.func x.args (items steps ++ made d.line d.act ∷ []) Open) → GoesOn p x steps o
goes_on p x steps None h = tt
goes_on p x steps (Some d) h = h d refl

same_deed : (d x : Deed) → ◌≡◌ {A = Option Deed} (Some d) (Some x) → d ≡ x
same_deed d x h = cc

none_some : (d : Deed) → ◌≡◌ {A = Option Deed} None (Some d) → ⊥
none_some d h = cc

-- an item that may come next, and for which the last steps look
pub record HasNext (c : Flow) (f : ℕ) (w : Progress) (look : Look) : Type 0 where
  pub item : Item
  pub comes : MayCome c f w 0 (item ∷ []) Open
  pub seen : IsSeen look (item ∷ [])

-- With these steps the thread asks for an act.
pub record ActsFrom (p : Source) (plans : Plans) (x : Own) (q : Request) (steps : List PartStep) : Type 0 where
  pub asks : AsksToAct p plans x q
  pub same : asks.steps ≡ steps

-- With this request an act is asked for.
pub asks_act : (c : Flow) (plans : Plans) (x : Own) (w : Progress) (look : Look) (steps : List PartStep) (q : Request) → IsLowered c → (walk_of c.program plans x steps).owed ≡ []
    → HasNext c x.func w look → ((v : ℤ) → IfSome (grant_deed q v) (λ (d : Deed). MayCome c x.func w 0 (made d.line d.act ∷ []) Open)) → IfSome (trap_deed q) (λ (d : Deed). MayCome c x.func w 0 (made d.line d.act ∷ []) Open)
    → IsWay c plans x w look steps → ActsFrom c.program plans x q steps
asks_act c plans x w look steps q l none next grants stops h = record { asks = act; same = refl }
  where
    opens : (d : Deed) → MayCome c x.func w 0 (made d.line d.act ∷ []) Open → IsTrace c.program x.func x.args (items steps ++ made d.line d.act ∷ []) Open
    opens d g = flat_tree c l x.func x.args _ Open (h.trace (made d.line d.act ∷ []) Open 0 g)

    act : AsksToAct c.program plans x q
    act = record {
      steps = steps;
      next = next.item;
      trace = flat_tree c l x.func x.args _ Open (h.trace (next.item ∷ []) Open 0 next.comes);
      woven = h.woven (next.item ∷ []) Open 0 next.comes next.seen;
      tells = h.tells;
      taken = h.taken;
      rests = none;
      granted = λ v. goes_on c.program x steps (grant_deed q v) (λ d is. opens d (subst (λ o. IfSome o (λ (y : Deed). MayCome c x.func w 0 (made y.line y.act ∷ []) Open)) is (grants v)));
      trapped = goes_on c.program x steps (trap_deed q) (λ d is. opens d (subst (λ o. IfSome o (λ (y : Deed). MayCome c x.func w 0 (made y.line y.act ∷ []) Open)) is stops));
    }

own_trap_opens : (c : Flow) (f line : ℕ) (k : Cause) (o : Option Deed) → o ≡ trap_at line (cause_of (reason k)) → IfSome o (λ (d : Deed). MayCome c f (traps line k) 0 (made d.line d.act ∷ []) Open)
own_trap_opens c f line division (Some d) is = subst (λ (y : Deed). MayCome c f (traps line division) 0 (made y.line y.act ∷ []) Open) (sym (same_deed d _ is)) (inr ([], refl, inl (refl, refl)))
own_trap_opens c f line index (Some d) is = subst (λ (y : Deed). MayCome c f (traps line index) 0 (made y.line y.act ∷ []) Open) (sym (same_deed d _ is)) (inr ([], refl, inl (refl, refl)))
own_trap_opens c f line frames (Some d) is = subst (λ (y : Deed). MayCome c f (traps line frames) 0 (made y.line y.act ∷ []) Open) (sym (same_deed d _ is)) (inr ([], refl, inl (refl, refl)))
own_trap_opens c f line (not_held m) (Some d) is = absurd (none_some d (sym is))
own_trap_opens c f line (not_spawned v) (Some d) is = absurd (none_some d (sym is))
own_trap_opens c f line threads (Some d) is = absurd (none_some d (sym is))
own_trap_opens c f line (overflow m) (Some d) is = absurd (none_some d (sym is))
own_trap_opens c f line k None is = tt

some_request : (a b : Request) → ◌≡◌ {A = Option Request} (Some a) (Some b) → a ≡ b
some_request a b h = cc

no_request : (q : Request) → ◌≡◌ {A = Option Request} None (Some q) → ⊥
no_request q h = cc

-- What comes of a position is asked for as an act.
pub asks_here : (c : Flow) (plans : Plans) (x : Own) (w : Progress) (look : Look) (steps : List PartStep) (q : Request) → IsLowered c → (walk_of c.program plans x steps).owed ≡ [] → IsLookedAt look w
    → request_at (end_line c.program x.func) w ≡ Some q → IsWay c plans x w look steps → ActsFrom c.program plans x q steps
asks_here c plans x (goes mark y) look steps q l none looks is h = absurd (no_request q is)
asks_here c plans x nothing look steps q l none looks is h = absurd (no_request q is)
asks_here c plans x (asks line u behind) look steps q l none looks is h =
    let o = next_opens c x.func (asks line u behind) (walk_of c.program plans x steps) (request_place (walk_of c.program plans x steps)) look looks refl in
    subst (λ u. ActsFrom c.program plans x u steps) (some_request (question_request line u) q is)
    (asks_act c plans x (asks line u behind) look steps (question_request line u) l none (record { item = o.item; comes = o.comes; seen = o.seen }) (grants_open c x.func line u behind) (traps_open c x.func line u behind) h)
asks_here c plans x (traps line k) look steps q l none looks is h =
    let o = next_opens c x.func (traps line k) (walk_of c.program plans x steps) (request_place (walk_of c.program plans x steps)) look looks refl in
    subst (λ u. ActsFrom c.program plans x u steps) (some_request (r.Trap line (reason k)) q is)
    (asks_act c plans x (traps line k) look steps (r.Trap line (reason k)) l none (record { item = o.item; comes = o.comes; seen = o.seen }) (λ v. tt) (own_trap_opens c x.func line k (trap_deed (r.Trap line (reason k))) refl) h)
asks_here c plans x ends look steps q l none looks is h =
    let o = next_opens c x.func ends (walk_of c.program plans x steps) (request_place (walk_of c.program plans x steps)) look looks refl in
    subst (λ u. ActsFrom c.program plans x u steps) (some_request (r.End (end_line c.program x.func)) q is)
    (asks_act c plans x ends look steps (r.End (end_line c.program x.func)) l none (record { item = o.item; comes = o.comes; seen = o.seen }) (λ v. inr ([], refl, (refl, inr refl))) tt h)
