-- The small walk stands where the walk of a thread's part stands, behind each item.
use Rattle.std.proofs.Common.{ℕ, suc, ◌+◌, ◌≤◌, ◌≡◌, false, List, [], ◌∷◌, Some, refl, sym, ap, subst, ◌∙◌, arith}
use Rattle.loom_tree.specs.Tree.{Source}
use Rattle.loom_lang.specs.Places.{place_at, line_of_place}
use Rattle.loom_lang.specs.Places as place
use Rattle.loom_lang.specs.Trace.{Locals, Cause, Act, begin, end, trap, read, write, lock, unlock, down, up, spawn, join, print, made, begins, done, edge, enter, out}
use Rattle.loom_law.specs.Filter.{statement, function}
use Rattle.loom_law.specs.Walk.{Version, Plans, Walk, unborn, behind_entry, after_item, owed_at, owed_behind, owed_out, owed_trap, with_tick, begun_with, in_frame, open_statement, close_statement, without_first, function_line}
use Rattle.loom_walk.specs.declared.spot.Spot.TheVariants as s
use Rattle.loom_walk.specs.declared.clause_rows.ClauseRow.{ClauseRow}
use Rattle.loom_walk.specs.declared.event_notes.EventNote.{EventNote}
use Rattle.loom_walk.specs.declared.region_notes.RegionNote.{RegionNote}
use Rattle.loom_walk.specs.Owed.{Owed, queue}
use Rattle.loom_walk.specs.ClauseRows.{AreHoldings}
use Rattle.loom_walk.specs.Notes.{AreEventNotes, AreRegionNotes, HaveDepths}
use Rattle.loom_walk.specs.FilterWalk.{FilterWalk, first_walk, IsInstructionAct, IsAt}
use Rattle.loom_walk.proofs.Frames.{in_frame_length, opened_events, opened_regions, opened_top, closed_regions, entered_notes, without_first_length}

pub begins_to_be : (p : Source) (plans : Plans) (v : Version) (cs : List ClauseRow) (room l : ℕ) → AreHoldings cs []
    → IsAt p plans (record (first_walk room) { version = v; clauses = cs }) (after_item p plans (unborn (v ∷ [])) (made l begin))
begins_to_be p plans v cs room l h = record {
  active = refl;
  holdings = h;
  depth = refl;
  events = refl;
  regions = tt;
  spot = tt;
  top = tt;
  line = tt;
  owed = refl;
  passed = refl;
  blocked = refl;
}

behind_act : (p : Source) (plans : Plans) (z : Walk) (l : ℕ) (a : Act) → IsInstructionAct a → behind_entry z ≡ after_item p plans z (made l a)
behind_act p plans z l begin h = absurd h
behind_act p plans z l end h = refl
behind_act p plans z l (trap c) h = absurd h
behind_act p plans z l (read x v) h = refl
behind_act p plans z l (write x v) h = refl
behind_act p plans z l (lock x) h = refl
behind_act p plans z l (unlock x) h = refl
behind_act p plans z l (down x) h = refl
behind_act p plans z l (up x) h = refl
behind_act p plans z l (spawn t f vs) h = refl
behind_act p plans z l (join t) h = refl
behind_act p plans z l (print v) h = refl

pub acts : (p : Source) (plans : Plans) (w : FilterWalk) (z : Walk) (l : ℕ) (a : Act) → IsInstructionAct a → IsAt p plans w z
    → IsAt p plans (record w { spot = s.Elsewhere; passed = 0; is_blocked = false }) (after_item p plans z (made l a))
acts p plans w z l a own h =
    subst (IsAt p plans (record w { spot = s.Elsewhere; passed = 0; is_blocked = false })) (behind_act p plans z l a own)
    (record {
      active = h.active;
      holdings = h.holdings;
      depth = h.depth;
      events = h.events;
      regions = h.regions;
      spot = tt;
      top = tt;
      line = tt;
      owed = h.owed;
      passed = refl;
      blocked = refl;
    })

pub traps : (p : Source) (plans : Plans) (w : FilterWalk) (z : Walk) (l n : ℕ) (c : Cause) (es : List EventNote) (rs : List RegionNote) (x : Owed) → IsAt p plans w z → es ≡ []
    → queue x ≡ owed_trap plans z.held l w.version.active
    → IsAt p plans (record w { events = es; regions = rs; spot = s.Trapped l; owed = x; passed = 0; is_blocked = false; depth = 0; room = n }) (after_item p plans z (made l (trap c)))
traps p plans w z l n c es rs x h none q = record {
  active = h.active;
  holdings = h.holdings;
  depth = refl;
  events = subst (λ (ns : List EventNote). AreEventNotes ns []) (sym none) refl;
  regions = tt;
  spot = refl;
  top = tt;
  line = tt;
  owed = ap (owed_trap plans z.held l) h.active ∙ sym q;
  passed = refl;
  blocked = refl;
}

pub begins_statement : (p : Source) (plans : Plans) (w : FilterWalk) (z : Walk) (i l at : ℕ) (env : Locals) (x : Owed) → place_at p at ≡ Some (place.inside l) → 1 ≤ w.depth
    → i ≡ l → x.line ≡ i → IsAt p plans w z → queue x ≡ owed_at plans z.held l (statement l) env w.version.active
    → IsAt p plans (record w { spot = s.Beginning i at; owed = x }) (after_item p plans z (begins l env))
begins_statement p plans w z i l at env x there deep same line h q = record {
  active = h.active;
  holdings = h.holdings;
  depth = in_frame_length (open_statement l) z.frames ∙ h.depth;
  events = opened_events w.events l z.frames h.events;
  regions = opened_regions plans w.regions l z.frames h.regions;
  spot = (same, there);
  top = opened_top l z.frames (omega (arith, deep, h.depth));
  line = line;
  owed = ap (owed_at plans z.held l (statement l) env) h.active ∙ sym q;
  passed = h.passed;
  blocked = h.blocked;
}

pub completes_statement : (p : Source) (plans : Plans) (w : FilterWalk) (z : Walk) (l n : ℕ) (es : List EventNote) (x : Owed) → IsAt p plans w z
    → AreEventNotes es (in_frame close_statement z.frames) → queue x ≡ owed_behind plans z.held z.frames l (begun_with z.frames) w.version.active
    → IsAt p plans (record w { events = es; spot = s.Complete l; owed = x; room = n }) (after_item p plans z (done l))
completes_statement p plans w z l n es x h closed q = record {
  active = h.active;
  holdings = h.holdings;
  depth = in_frame_length close_statement z.frames ∙ h.depth;
  events = closed;
  regions = closed_regions plans w.regions z.frames h.regions;
  spot = refl;
  top = tt;
  line = tt;
  owed = ap (owed_behind plans z.held z.frames l (begun_with z.frames)) h.active ∙ sym q;
  passed = h.passed;
  blocked = h.blocked;
}

pub passes_edge : (p : Source) (plans : Plans) (w : FilterWalk) (z : Walk) (l m : ℕ) (x : Owed) → m ≡ suc w.passed → IsAt p plans w z → queue x ≡ with_tick p (place.back_edge l) (suc w.passed) []
    → IsAt p plans (record w { spot = s.Elsewhere; owed = x; passed = m }) (after_item p plans z (edge l))
passes_edge p plans w z l m x more h q = record {
  active = h.active;
  holdings = h.holdings;
  depth = h.depth;
  events = h.events;
  regions = h.regions;
  spot = tt;
  top = tt;
  line = tt;
  owed = ap (λ (n : ℕ). with_tick p (place.back_edge l) (suc n) []) h.passed ∙ sym q;
  passed = ap suc h.passed ∙ sym more;
  blocked = h.blocked;
}

pub enters_frame : (p : Source) (plans : Plans) (w : FilterWalk) (z : Walk) (f at m d : ℕ) (env : Locals) (x : Owed) → m ≡ suc w.passed → d ≡ suc w.depth → place_at p at ≡ Some (place.entry f) → HaveDepths 1 w.depth w.regions
    → ((g : ℕ) → place_at p at ≡ Some (place.entry g) → x.line ≡ function_line p g) → IsAt p plans w z
    → queue x ≡ with_tick p (place.entry f) (suc w.passed) (owed_at plans z.held (function_line p f) (function (Some f)) env w.version.active)
    → IsAt p plans (record w { spot = s.Entered at; owed = x; passed = m; depth = d }) (after_item p plans z (enter f env))
enters_frame p plans w z f at m d env x more deeper there depths line h q = record {
  active = h.active;
  holdings = h.holdings;
  depth = ap suc h.depth ∙ sym deeper;
  events = h.events;
  regions = entered_notes plans w.regions f z.frames (subst (λ (d : ℕ). HaveDepths 1 d w.regions) (sym h.depth) depths) h.regions;
  spot = there;
  top = tt;
  line = line;
  owed = ap (λ (n : ℕ). with_tick p (place.entry f) (suc n) (owed_at plans z.held (function_line p f) (function (Some f)) env z.active)) h.passed
      ∙ (ap (λ (ks : List ℕ). with_tick p (place.entry f) (suc w.passed) (owed_at plans z.held (function_line p f) (function (Some f)) env ks)) h.active ∙ sym q);
  passed = ap suc h.passed ∙ sym more;
  blocked = h.blocked;
}

pub leaves_frame : (p : Source) (plans : Plans) (w : FilterWalk) (z : Walk) (f d n : ℕ) (es : List EventNote) (rs : List RegionNote) (x : Owed) → IsAt p plans w z
    → d + 1 ≡ w.depth → AreEventNotes es (without_first z.frames) → AreRegionNotes plans rs (without_first z.frames)
    → queue x ≡ owed_out plans z.held (without_first z.frames) (function_line p f) w.version.active
    → IsAt p plans (record w { events = es; regions = rs; spot = s.Left f; owed = x; depth = d; room = n }) (after_item p plans z (out f))
leaves_frame p plans w z f d n es rs x h less events regions q =
    let down = without_first_length z.frames w.depth h.depth (omega (arith, less)) in
    record {
      active = h.active;
      holdings = h.holdings;
      depth = omega (arith, down, less);
      events = events;
      regions = regions;
      spot = refl;
      top = tt;
      line = tt;
      owed = ap (owed_out plans z.held (without_first z.frames) (function_line p f)) h.active ∙ sym q;
      passed = h.passed;
      blocked = h.blocked;
    }
