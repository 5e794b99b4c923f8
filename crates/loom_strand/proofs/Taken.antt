-- A thread behind the entry that answers it: what it keeps.
use Rattle.std.proofs.Common.{ℕ, suc, ◌≡◌, ◌≤◌, ◌<◌, true, false, List, [], ◌∷◌, ◌++◌, length, Option, Some, refl, inr, sym, ap, subst, ◌∙◌, arith}
use Rattle.loom_tree.specs.Tree.{Source}
use Rattle.loom_lang.specs.Rules.{KeepsRules}
use Rattle.loom_lang.specs.Trace.{Item, Open, made, end}
use Rattle.loom_trace.specs.declared.entry.Entry.{Entry}
use Rattle.loom_trace.specs.declared.request.Request.{Request}
use Rattle.loom_event.specs.Answer.{IsFunctionWith}
use Rattle.loom_flow.specs.Flow.{Flow}
use Rattle.loom_flow.specs.FlatCode.{lowered}
use Rattle.loom_flow.specs.Code.{IsLowered}
use Rattle.loom_flow.specs.Progress.{Progress, ends}
use Rattle.loom_law.specs.Laws.{with_newest}
use Rattle.loom_law.specs.Walk.{Version, Plans, PartStep, items, Walk}
use Rattle.loom_law.specs.ThreadPart.{Own, walk_of, IsPart}
use Rattle.loom_law.specs.TurnLaws.{is_blocked_entry}
use Rattle.loom_plan.specs.Compiled.{Compiled}
use Rattle.loom_version.specs.Plans.{plans_in}
use Rattle.loom_version.specs.Version.{version_limit}
use Rattle.loom_walk.specs.Owed.{queue}
use Rattle.loom_walk.specs.FilterWalk.{FilterWalk, IsAt, HasFilters, NotesOneMore}
use Rattle.loom_walk.specs.Growth.{AreThere}
use Rattle.loom_strand.specs.declared.execution.Execution.{Execution}
use Rattle.loom_strand.specs.declared.stage.Birth.{Birth}
use Rattle.loom_strand.specs.declared.stage.Stage.{Stage}
use Rattle.loom_strand.specs.declared.stage.Stage.TheVariants as stage
use Rattle.loom_strand.specs.declared.reply.Reply.{Reply}
use Rattle.loom_strand.specs.Machine.{Machine}
use Rattle.loom_strand.specs.Reply.{reply_of, want_behind, takes_version, CanFollow, CanWalkBy, Takes}
use Rattle.loom_strand.specs.Life.{is_end, has_ended, awaits_end}
use Rattle.loom_strand.specs.Way.{MayCome, Look, looks_for_grant, end_line, next_step, IsWay, IsJoining}
use Rattle.loom_strand.specs.InPart.{IsInPart, ArePassedBy}
use Rattle.loom_strand.specs.Strand.{Strand, plans, StandsAt, KeepsFrom}
use Rattle.loom_strand.specs.StrandInvariant.{HasRoom, AsksIfAny, MayTake, HaveNumbers, CrossesIfAny, IsWaiting, LivingInvariant, StageInvariant, IsBlank, IsSound, StrandInvariant}
use Rattle.loom_strand.proofs.LastEntries.{last_blocked, some_more, last_ends, one_more}
use Rattle.loom_strand.proofs.PartLaws.{end_frames}
use Rattle.loom_strand.proofs.PartSteps.{flat_tree}
use Rattle.loom_strand.proofs.RequestWays.{HasAhead, part_of}

pub program_lowered : (p : Source) → KeepsRules p → IsLowered (lowered p)
program_lowered p h = record { lawful = h; is = refl }

-- The thread with these versions, entries and this request.
abbrev pub kept_with : Strand → List Version → List Entry → Option Request → Execution → Strand
kept_with s vs es want e = record s { versions = vs; entries = es; want = want; execution = e }

-- what is its own, with one entry more
abbrev pub own_behind : Strand → Birth → List Version → Entry → Own
own_behind s b vs y = record { thread = s.thread; func = b.func; args = b.args; versions = vs; entries = s.entries ++ y ∷ [] }

-- what comes next of it
abbrev pub its_next : Strand → Birth → Execution → Progress
its_next s b e = next_step (lowered s.program) b e.stage e.machine

-- and where these steps lead it
abbrev pub own_walk : Strand → Birth → List Version → Entry → List PartStep → Walk
own_walk s b vs y steps = walk_of s.program (plans s) (own_behind s b vs y) steps

-- The thread lives on behind this entry.
pub record LivesBehind (s : Strand) (b : Birth) (vs : List Version) (y : Entry) (want : Option Request) (e : Execution) : Type 0 where
  pub look : Look
  pub steps : List PartStep
  pub there : IsInPart (lowered s.program) s.filters b (own_behind s b vs y) e look steps
  pub ahead : HasAhead (lowered s.program) b.func (its_next s b e) look
  pub joins : look ≡ looks_for_grant → (awaits_end (s.entries ++ y ∷ []) ≡ true) × IsJoining (its_next s b e)
  pub none : (own_walk s b vs y steps).passed ≡ []
  pub asks : AsksIfAny s.program (own_walk s b vs y steps) (its_next s b e) (end_line s.program b.func) e.place s.newest want
  pub crosses : CrossesIfAny vs s.newest want
  pub blocked : (own_walk s b vs y steps).is_blocked ≡ is_blocked_entry y
  pub waits : is_blocked_entry y ≡ true → IsWaiting (kept_with s vs (s.entries ++ y ∷ []) want e) b steps × StandsAt (kept_with s vs (s.entries ++ y ∷ []) want e) b e.place
  pub lives : is_end y ≡ false
  pub taken : HaveNumbers vs

-- of what an entry finds and leaves: the function, a place of the program, and few notes
pub record IsFit (s : Strand) (b : Birth) (e : Execution) : Type 0 where
  pub lawful : KeepsRules s.program
  pub function : IsFunctionWith s.program b.func b.args
  pub within : e.place < length (Flow.sites (lowered s.program))
  pub events : length s.execution.walk.events ≤ length s.entries
  pub regions : length s.execution.walk.regions ≤ length s.entries
  pub notes : NotesOneMore s.execution.walk e.walk

pub living_fit : (s : Strand) (b : Birth) (e : Execution) → StrandInvariant s → LivingInvariant s b → e.place ≡ s.execution.place → NotesOneMore s.execution.walk e.walk → IsFit s b e
living_fit s b e h k same notes = record {
  lawful = h.lawful;
  function = k.function;
  within = subst (λ n. n < length (Flow.sites (lowered s.program))) (sym same) k.within;
  events = k.events;
  regions = k.regions;
  notes = notes;
}

pub living_on : (s : Strand) (b : Birth) (vs : List Version) (y : Entry) (want : Option Request) (e : Execution) → IsFit s b e → LivesBehind s b vs y want e
    → LivingInvariant (kept_with s vs (s.entries ++ y ∷ []) want e) b
living_on s b vs y want e f h = record {
  function = f.function;
  look = h.look;
  steps = h.steps;
  there = h.there;
  joins = h.joins;
  part = part_of (lowered s.program) (plans s) (own_behind s b vs y) (its_next s b e) h.look h.steps (program_lowered s.program f.lawful) h.ahead h.there.way;
  asks = h.asks;
  crosses = h.crosses;
  blocked = sym h.there.there.at.blocked ∙ (h.blocked ∙ sym (last_blocked s.entries y));
  waits = λ told. (h.waits (sym (last_blocked s.entries y) ∙ told)).0;
  within = f.within;
  begun = some_more s.entries y;
  lives = last_ends s.entries y ∙ h.lives;
  taken = h.taken;
  events = let more = one_more s.entries y in omega (arith, more, f.events, f.notes.events);
  regions = let more = one_more s.entries y in omega (arith, more, f.regions, f.notes.regions);
}

-- What an answer is to keep

abbrev pub behind_answer : Strand → Entry → Execution → Strand
behind_answer s x e = kept_with s (with_newest x s.newest s.versions) (s.entries ++ x ∷ []) (want_behind (reply_of x) s.want) e

pub record IsKeptWith (s : Strand) (b : Birth) (vs : List Version) (y : Entry) (want : Option Request) (e : Execution) : Type 0 where
  pub kept : StrandInvariant (kept_with s vs (s.entries ++ y ∷ []) want e)
  pub part : IsPart s.program (plans s) (own_behind s b vs y)
  pub passes : has_ended (s.entries ++ y ∷ []) ≡ false → (places : List ℕ) → KeepsFrom (kept_with s vs (s.entries ++ y ∷ []) want e) b places
  pub stands : is_blocked_entry y ≡ true → StandsAt (kept_with s vs (s.entries ++ y ∷ []) want e) b e.place

abbrev pub IsKept : Strand → Birth → Entry → Execution → Type 0
IsKept s b x e = IsKeptWith s b (with_newest x s.newest s.versions) x (want_behind (reply_of x) s.want) e

-- the same, where the entry, the versions and the request are told otherwise
pub kept_as : (s : Strand) (b : Birth) (vs : List Version) (x y : Entry) (want : Option Request) (e : Execution) → x ≡ y → with_newest y s.newest s.versions ≡ vs → want_behind (reply_of y) s.want ≡ want
    → IsKeptWith s b vs y want e → IsKept s b x e
kept_as s b vs x y want e is versions asks h =
    subst (λ z. IsKept s b z e) (sym is)
    (subst (λ us. IsKeptWith s b us y (want_behind (reply_of y) s.want) e) (sym versions) (subst (λ o. IsKeptWith s b vs y o e) (sym asks) h))

-- How far the thread is behind it, and its machine.
pub record IsStage (s : Strand) (b : Birth) (e : Execution) (st : Stage) : Type 0 where
  pub birth : s.birth ≡ Some b
  pub stage : e.stage ≡ st
  pub room : HasRoom (lowered s.program) e.machine
  pub blank : IsBlank st e
  pub sound : IsSound (lowered s.program) st e.machine

pub strand_kept : (s : Strand) (b : Birth) (vs : List Version) (es : List Entry) (want : Option Request) (e : Execution) (st : Stage) → StrandInvariant s → NotesOneMore s.execution.walk e.walk → IsStage s b e st
    → MayTake (kept_with s vs es want e) want → StageInvariant st (kept_with s vs es want e) (Some b) → StrandInvariant (kept_with s vs es want e)
strand_kept s b vs es want e st h notes f may living = record {
  lawful = h.lawful;
  room = f.room;
  notes = notes.room ∙ h.notes;
  newest = h.newest;
  blank = subst (λ y. IsBlank y e) (sym f.stage) f.blank;
  sound = subst (λ y. IsSound (lowered s.program) y e.machine) (sym f.stage) f.sound;
  stage = subst (λ y. StageInvariant y (kept_with s vs es want e) s.birth) (sym f.stage) (subst (StageInvariant st (kept_with s vs es want e)) (sym f.birth) living);
  takes = may;
}

-- stages of a thread that lives
abbrev pub IsLiving : Stage → Type 0
IsLiving stage.Enters = Unit {0}
IsLiving stage.Runs = Unit {0}
IsLiving _ = ⊥

living_stage : (s : Strand) (b : Birth) (st : Stage) → IsLiving st → LivingInvariant s b → StageInvariant st s (Some b)
living_stage s b stage.Waits is h = absurd is
living_stage s b stage.Enters is h = h
living_stage s b stage.Runs is h = h
living_stage s b stage.Over is h = absurd is

-- the machine is as it was
blank_same : (old e : Execution) (st : Stage) → IsLiving st → e.machine ≡ old.machine → (st ≡ stage.Enters → queue e.walk.owed ≡ []) → IsBlank st old → IsBlank st e
blank_same old e stage.Waits is same rests h = absurd is
blank_same old e stage.Enters is same rests h = ((ap (λ (m : Machine). m.state) same ∙ h.0.0, ap (λ (m : Machine). m.phase) same ∙ h.0.1), rests refl)
blank_same old e stage.Runs is same rests h = tt
blank_same old e stage.Over is same rests h = absurd is

pub stage_same : (s : Strand) (b : Birth) (e : Execution) (st : Stage) → StrandInvariant s → s.birth ≡ Some b → s.execution.stage ≡ st → IsLiving st → e.stage ≡ s.execution.stage
    → e.machine ≡ s.execution.machine → (st ≡ stage.Enters → queue e.walk.owed ≡ []) → IsStage s b e st
stage_same s b e st h birth at is stays same rests = record {
  birth = birth;
  stage = stays ∙ at;
  room = subst (HasRoom (lowered s.program)) (sym same) h.room;
  blank = blank_same s.execution e st is same rests (subst (λ y. IsBlank y s.execution) at h.blank);
  sound = subst (IsSound (lowered s.program) st) (sym same) (subst (λ y. IsSound (lowered s.program) y s.execution.machine) at h.sound);
}

pub kept_on : (s : Strand) (b : Birth) (vs : List Version) (y : Entry) (want : Option Request) (e : Execution) (st : Stage) → StrandInvariant s → IsFit s b e → IsStage s b e st → IsLiving st
    → MayTake (kept_with s vs (s.entries ++ y ∷ []) want e) want → LivesBehind s b vs y want e → IsKeptWith s b vs y want e
unfolding living_on
kept_on s b vs y want e st h fit f is may on =
    let k : LivingInvariant (kept_with s vs (s.entries ++ y ∷ []) want e) b = living_on s b vs y want e fit on in
    record {
      kept = strand_kept s b vs (s.entries ++ y ∷ []) want e st h fit.notes f may (living_stage (kept_with s vs (s.entries ++ y ∷ []) want e) b st is k);
      part = k.part;
      passes = λ lives places. record {
        look = on.look;
        steps = on.steps;
        there = on.there;
        passed = subst (ArePassedBy s.program places) (sym on.none) tt;
        joins = λ grant. (on.joins grant).1;
        stood = λ told. (k.waits told).place;
      };
      stands = λ told. (on.waits told).1;
    }

-- The answer to what a thread asks for: what it does, and that the thread keeps all of it.
pub record IsTaken (s : Strand) (b : Birth) (x : Entry) : Type 0 where
  pub reply : Reply
  pub is : reply_of x ≡ Some reply
  pub follow : CanFollow (lowered s.program) s.execution.machine reply
  pub walk : CanWalkBy s.program s.filters s.newest s.execution.walk reply
  pub room : takes_version reply ≡ true → length s.versions < suc version_limit
  pub keeps : (e : Execution) → Takes (lowered s.program) s.filters s.newest s.execution e reply → IsKept s b x e

-- Where the walk is

-- the filters of its version are there
pub filters_at : (p : Source) (cs : List (Option Compiled)) (w : FilterWalk) (z : Walk) → IsAt p (plans_in cs) w z → AreThere p cs z.active → HasFilters p cs w.version
filters_at p cs w z at h = record { all = subst (AreThere p cs) at.active h }

pub active_there : (p : Source) (cs : List (Option Compiled)) (w : FilterWalk) (z : Walk) → IsAt p (plans_in cs) w z → HasFilters p cs w.version → AreThere p cs z.active
active_there p cs w z at h = subst (AreThere p cs) (sym at.active) h.all

-- Where a thread is to end no frame is open.
pub ends_bare : (c : Flow) (plans : Plans) (x : Own) (w : Progress) (look : Look) (steps : List PartStep) → IsLowered c → IsWay c plans x w look steps → w ≡ ends
    → (walk_of c.program plans x steps).frames ≡ []
ends_bare c plans x w look steps l g over =
    let line : ℕ = end_line c.program x.func in
    let is : List Item = made line end ∷ [] in
    end_frames c.program plans x steps line [] Open
    (flat_tree c l x.func x.args (items steps ++ is) Open (g.trace is Open 0 (subst (λ v. MayCome c x.func v 0 is Open) (sym over) (inr ([], refl, (refl, inr refl))))))

pub same_next : (c : Flow) (b : Birth) (old new : Execution) → new.stage ≡ old.stage → new.machine ≡ old.machine → next_step c b new.stage new.machine ≡ next_step c b old.stage old.machine
same_next c b old new st m = ap (λ (y : Stage). next_step c b y new.machine) st ∙ ap (next_step c b old.stage) m
