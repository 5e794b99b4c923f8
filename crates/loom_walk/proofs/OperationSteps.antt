-- So it stands behind each operation.
use Rattle.std.proofs.Common.{ℕ, ◌≡◌, true, false, List, [], ◌∷◌, ◌++◌, length, refl, sym, ap, subst, ◌∙◌}
use Rattle.loom_tree.specs.Tree.{Source}
use Rattle.loom_trace.specs.declared.entry.What.{What}
use Rattle.loom_law.specs.Walk.{Version, Plans, Operation, wait, enters, at, past, post, leave, back, tick, cross, blocked, OpenFrame, Walk, after_operation, made_one, in_frame, completed, begun_at, noted_at, entered_regions, without_clause, without_first, frames_without, crossing, owed_behind_cross}
use Rattle.loom_walk.specs.declared.clause_rows.ClauseRow.{ClauseRow}
use Rattle.loom_walk.specs.declared.event_notes.EventNote.{EventNote}
use Rattle.loom_walk.specs.declared.region_notes.RegionNote.{RegionNote}
use Rattle.loom_walk.specs.Owed.{Owed, queue}
use Rattle.loom_walk.specs.ClauseRows.{AreHoldings, holdings_of}
use Rattle.loom_walk.specs.Notes.{AreEventNotes, AreRegionNotes}
use Rattle.loom_walk.specs.FilterWalk.{FilterWalk, IsOwedLine, IsOnTop, IsOnlyMade, IsAt}
use Rattle.loom_walk.proofs.Frames.{in_frame_length, begun_events, begun_regions, begun_top, completed_events, completed_top, back_spot, back_top, without_length, without_events, without_spot, without_top}

-- The first operation was taken out, on the same line.
pub record TakesOne (old new : Owed) : Type 0 where
  pub queue : queue new ≡ without_first (queue old)
  pub line : new.line ≡ old.line

-- what becomes of the rest
step : (p : Source) (plans : Plans) (w : FilterWalk) (z : Walk) (n : ℕ) (x : Owed) (cs : List ClauseRow) (hs : List (ℕ × ℕ)) (es : List EventNote) (rs : List RegionNote) (fs : List OpenFrame)
    → IsAt p plans w z → TakesOne w.owed x → AreHoldings cs hs → length fs ≡ length z.frames → AreEventNotes es fs → AreRegionNotes plans rs fs → IsOnTop z.spot fs
    → IsAt p plans (record w { clauses = cs; events = es; regions = rs; owed = x; passed = 0; is_blocked = false; room = n }) (record (made_one z) { held = hs; frames = fs })
step p plans w z n x cs hs es rs fs h one held same events regions top = record {
  active = h.active;
  holdings = held;
  depth = same ∙ h.depth;
  events = events;
  regions = regions;
  spot = h.spot;
  top = top;
  line = subst (IsOwedLine p w.spot) (sym one.line) h.line;
  owed = ap without_first h.owed ∙ sym one.queue;
  passed = refl;
  blocked = refl;
}

pub makes_only : (p : Source) (plans : Plans) (w : FilterWalk) (z : Walk) (o : Operation) (x : Owed) → IsOnlyMade o → IsAt p plans w z → TakesOne w.owed x
    → IsAt p plans (record w { owed = x; passed = 0; is_blocked = false }) (after_operation p plans z o)
makes_only p plans w z (wait k n) x own h one = step p plans w z w.room x w.clauses z.held w.events w.regions z.frames h one h.holdings refl h.events h.regions h.top
makes_only p plans w z (enters k c) x own h one = absurd own
makes_only p plans w z (at k ns) x own h one = absurd own
makes_only p plans w z (past k ns) x own h one = absurd own
makes_only p plans w z (post k n) x own h one = step p plans w z w.room x w.clauses z.held w.events w.regions z.frames h one h.holdings refl h.events h.regions h.top
makes_only p plans w z (leave k c) x own h one = absurd own
makes_only p plans w z back x own h one = record {
  active = h.active;
  holdings = h.holdings;
  depth = h.depth;
  events = h.events;
  regions = h.regions;
  spot = back_spot p w.spot z.spot h.spot;
  top = back_top z.spot z.frames h.top;
  line = subst (IsOwedLine p w.spot) (sym one.line) h.line;
  owed = ap without_first h.owed ∙ sym one.queue;
  passed = refl;
  blocked = refl;
}
makes_only p plans w z (tick n) x own h one = step p plans w z w.room x w.clauses z.held w.events w.regions z.frames h one h.holdings refl h.events h.regions h.top
makes_only p plans w z (cross n v m) x own h one = absurd own
makes_only p plans w z (blocked what) x own h one = absurd own

pub makes_enter : (p : Source) (plans : Plans) (w : FilterWalk) (z : Walk) (k c : ℕ) (x : Owed) (cs : List ClauseRow) → IsAt p plans w z → TakesOne w.owed x
    → AreHoldings cs ((k, c) ∷ z.held) → IsAt p plans (record w { clauses = cs; owed = x; passed = 0; is_blocked = false }) (after_operation p plans z (enters k c))
makes_enter p plans w z k c x cs h one held = step p plans w z w.room x cs ((k, c) ∷ z.held) w.events w.regions z.frames h one held refl h.events h.regions h.top

pub makes_leave : (p : Source) (plans : Plans) (w : FilterWalk) (z : Walk) (k c : ℕ) (x : Owed) (cs : List ClauseRow) → IsAt p plans w z → TakesOne w.owed x
    → AreHoldings cs (without_clause k c z.held) → IsAt p plans (record w { clauses = cs; owed = x; passed = 0; is_blocked = false }) (after_operation p plans z (leave k c))
makes_leave p plans w z k c x cs h one held = step p plans w z w.room x cs (without_clause k c z.held) w.events w.regions z.frames h one held refl h.events h.regions h.top

pub makes_at : (p : Source) (plans : Plans) (w : FilterWalk) (z : Walk) (k m : ℕ) (ns : List ℕ) (x : Owed) (es : List EventNote) (rs : List RegionNote) → IsAt p plans w z → TakesOne w.owed x
    → AreEventNotes es (in_frame (noted_at z.spot k ns) z.frames)
    → AreRegionNotes plans rs (in_frame (λ (f : OpenFrame). record f { inside = entered_regions (plans k) k ns ++ f.inside }) z.frames)
    → IsAt p plans (record w { events = es; regions = rs; owed = x; passed = 0; is_blocked = false; room = m }) (after_operation p plans z (at k ns))
makes_at p plans w z k m ns x es rs h one events regions =
    step p plans w z m x w.clauses z.held es rs (in_frame (begun_at (plans k) z.spot k ns) z.frames) h one h.holdings (in_frame_length (begun_at (plans k) z.spot k ns) z.frames)
    (begun_events (plans k) z.spot k ns es z.frames events) (begun_regions plans (plans k) z.spot k ns rs z.frames regions) (begun_top (plans k) z.spot k ns z.frames h.top)

pub makes_past : (p : Source) (plans : Plans) (w : FilterWalk) (z : Walk) (k : ℕ) (ns : List ℕ) (x : Owed) (rs : List RegionNote) → IsAt p plans w z → TakesOne w.owed x
    → AreRegionNotes plans rs (in_frame (completed k ns) z.frames)
    → IsAt p plans (record w { regions = rs; owed = x; passed = 0; is_blocked = false }) (after_operation p plans z (past k ns))
makes_past p plans w z k ns x rs h one regions =
    step p plans w z w.room x w.clauses z.held w.events rs (in_frame (completed k ns) z.frames) h one h.holdings (in_frame_length (completed k ns) z.frames)
    (completed_events k ns w.events z.frames h.events) regions (completed_top z.spot k ns z.frames h.top)

pub blocks : (p : Source) (plans : Plans) (w : FilterWalk) (z : Walk) (what : What) → IsAt p plans w z
    → IsAt p plans (record w { passed = 0; is_blocked = true }) (after_operation p plans z (blocked what))
blocks p plans w z what h = record {
  active = h.active;
  holdings = h.holdings;
  depth = h.depth;
  events = h.events;
  regions = h.regions;
  spot = h.spot;
  top = h.top;
  line = h.line;
  owed = h.owed;
  passed = refl;
  blocked = refl;
}

pub crosses : (p : Source) (plans : Plans) (w : FilterWalk) (z : Walk) (v : Version) (cs : List ClauseRow) (rs : List RegionNote) (x : Owed) → IsAt p plans w z
    → AreHoldings cs (holdings_of v.active z.held) → AreRegionNotes plans rs (frames_without v.active z.frames) → x.line ≡ w.owed.line
    → queue x ≡ owed_behind_cross p plans z.spot w.version.active v.active (queue w.owed)
    → IsAt p plans (record w { version = v; clauses = cs; regions = rs; owed = x; passed = 0; is_blocked = false }) (crossing p plans z (v ∷ []))
crosses p plans w z v cs rs x h held regions line q = record {
  active = refl;
  holdings = held;
  depth = without_length v.active z.frames ∙ h.depth;
  events = without_events v.active w.events z.frames h.events;
  regions = regions;
  spot = without_spot p v.active w.spot z.spot h.spot;
  top = without_top v.active z.spot z.frames h.top;
  line = subst (IsOwedLine p w.spot) (sym line) h.line;
  owed = ap (λ (ks : List ℕ). owed_behind_cross p plans z.spot ks v.active z.owed) h.active
      ∙ (ap (owed_behind_cross p plans z.spot w.version.active v.active) h.owed ∙ sym q);
  passed = refl;
  blocked = refl;
}
