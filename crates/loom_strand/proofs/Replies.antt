-- A thread takes each reply to what it asks for.
use Rattle.std.proofs.Common.{ℕ, suc, ◌≡◌, ◌<◌, Bool, true, false, List, [], ◌∷◌, ◌++◌, length, ℤ, Option, Some, None, refl, inl, inr, sym, ap, subst, ◌∙◌}
use Rattle.loom_tree.specs.Tree.{Source}
use Rattle.loom_lang.specs.Places.{place_at}
use Rattle.loom_lang.specs.Trace.{Cause, made, trap, reason}
use Rattle.loom_trace.specs.declared.entry.Entry.{Entry}
use Rattle.loom_trace.specs.declared.entry.Entry.TheVariants as e
use Rattle.loom_trace.specs.declared.request.Request.{Request}
use Rattle.loom_trace.specs.declared.request.Request.TheVariants as r
use Rattle.loom_event.specs.Answer.{asks_operation, IsGrantOf, IsAnswerTo, IsBlockedAt}
use Rattle.loom_flow.specs.Flow.{Flow}
use Rattle.loom_flow.specs.FlatCode.{lowered}
use Rattle.loom_flow.specs.Code.{IsLowered}
use Rattle.loom_flow.specs.Position.{Position}
use Rattle.loom_flow.specs.Question.{Question, read, write, lock, unlock, down, up, spawn, join, print}
use Rattle.loom_flow.specs.Progress.{Progress, goes, asks, traps, ends, nothing, progress}
use Rattle.loom_law.specs.Laws.{with_newest}
use Rattle.loom_law.specs.Walk.{Version, request_place}
use Rattle.loom_law.specs.ThreadPart.{walk_of}
use Rattle.loom_law.specs.TurnLaws.{is_blocked_entry, ends_blocked}
use Rattle.loom_version.specs.Version.{version_limit}
use Rattle.loom_strand.specs.declared.execution.Execution.{Execution}
use Rattle.loom_strand.specs.declared.reply.Reply.{Reply}
use Rattle.loom_strand.specs.declared.stage.Birth.{Birth}
use Rattle.loom_strand.specs.declared.stage.Stage.{Stage}
use Rattle.loom_strand.specs.declared.stage.Stage.TheVariants as stage
use Rattle.loom_strand.specs.Machine.{position}
use Rattle.loom_strand.specs.PositionRequest.{question_request, request_at}
use Rattle.loom_strand.specs.Reply.{reply_of, want_behind, takes_version, versions_behind, CanFollow, CanWalkBy, Takes}
use Rattle.loom_strand.specs.Life.{awaits_end, asks_cross}
use Rattle.loom_strand.specs.Way.{end_line, next_step, IsJoining}
use Rattle.loom_strand.specs.Strand.{Strand, plans, own_of, IsStarted, IsReplyTo, IsReply, WaitsAt}
use Rattle.loom_strand.specs.StrandInvariant.{AsksBegin, IsAsked, asks_act, asks_owed, asks_version, AsksIfAny, WaitingInvariant, LivingInvariant, StageInvariant, StrandInvariant}
use Rattle.loom_strand.proofs.Acted.{asking_runs, granted_taken, trapped_taken, ended_taken}
use Rattle.loom_strand.proofs.Answered.{begun_taken, made_taken, crossed_taken, owing_runs, may_take}
use Rattle.loom_strand.proofs.Blocked.{blocked_taken}
use Rattle.loom_strand.proofs.BlockSteps.{blocked_no_cross}
use Rattle.loom_strand.proofs.Grants.{IsAnswerOf, answers, trap_answer, end_answer, begin_answer}
use Rattle.loom_strand.proofs.LastEntries.{last_blocked}
use Rattle.loom_strand.proofs.RunSteps.{runs_next}
use Rattle.loom_strand.proofs.Taken.{behind_answer, IsTaken, IsKept, IsLiving, its_next}
use Rattle.loom_strand.proofs.Ways.{ComesBefore}

no_request : (q : Request) → ◌≡◌ {A = Option Request} None (Some q) → ⊥
no_request q h = cc

same_request : (x y : Request) → ◌≡◌ {A = Option Request} (Some x) (Some y) → x ≡ y
same_request x y h = cc

-- the answer, which is a grant where the end of a thread is awaited
abbrev IsFullAnswer : Strand → Request → Entry → Type 0
IsFullAnswer s q x = IsAnswerTo s.thread q x × (awaits_end s.entries ≡ true → asks_operation q ≡ false → IsGrantOf s.thread q x)

question_act : (line : ℕ) (u : Question) → asks_operation (question_request line u) ≡ false
question_act line (read w) = refl
question_act line (write w v) = refl
question_act line (lock m) = refl
question_act line (unlock m) = refl
question_act line (down m) = refl
question_act line (up m) = refl
question_act line (spawn f vs) = refl
question_act line (join v) = refl
question_act line (print v) = refl

-- An act

question_taken : (s : Strand) (b : Birth) (x : Entry) (line : ℕ) (u : Question) (behind : ℤ → Position) → StrandInvariant s → s.birth ≡ Some b → s.execution.stage ≡ stage.Runs → (k : LivingInvariant s b)
    → (walk_of s.program (plans s) (own_of s b) k.steps).owed ≡ [] → its_next s b s.execution ≡ asks line u behind
    → place_at s.program s.execution.place ≡ Some (request_place (walk_of s.program (plans s) (own_of s b) k.steps)) → IsFullAnswer s (question_request line u) x → IsTaken s b x
question_taken s b x line u behind h birth at k none next place answer = by_answer (answers (lowered s.program) b.func s.thread line u behind x answer.0)
  where
    here : progress (lowered s.program) (position s.execution.machine) ≡ asks line u behind
    here = sym (runs_next (lowered s.program) b s.execution at) ∙ next

    by_answer : IsAnswerOf (lowered s.program) b.func s.thread line u behind x → IsTaken s b x
    by_answer (inl g) = granted_taken s b x line u behind h birth at k none here g
    by_answer (inr g) =
        trapped_taken s b x line g.cause h birth at k none
        (λ grant. (let j = k.joins grant in g.refuses (subst IsJoining next j.1) (answer.1 j.0 (question_act line u))))
        (subst (λ w. ComesBefore (lowered s.program) b.func w (made line (trap g.cause)) ends) (sym next) g.gives) place g.entry

-- its own trap
own_trap_taken : (s : Strand) (b : Birth) (x : Entry) (line : ℕ) (cause : Cause) → StrandInvariant s → s.birth ≡ Some b → s.execution.stage ≡ stage.Runs → (k : LivingInvariant s b)
    → (walk_of s.program (plans s) (own_of s b) k.steps).owed ≡ [] → its_next s b s.execution ≡ traps line cause
    → place_at s.program s.execution.place ≡ Some (request_place (walk_of s.program (plans s) (own_of s b) k.steps)) → IsAnswerTo s.thread (r.Trap line (reason cause)) x → IsTaken s b x
own_trap_taken s b x line cause h birth at k none next place answer =
    trapped_taken s b x line cause h birth at k none (λ grant. subst IsJoining next (k.joins grant).1)
    (subst (λ w. ComesBefore (lowered s.program) b.func w (made line (trap cause)) ends) (sym next) (λ is o n g. inr (is, refl, g))) place (trap_answer s.thread line cause x answer)

act_taken : (s : Strand) (b : Birth) (x : Entry) (q : Request) (w : Progress) → StrandInvariant s → s.birth ≡ Some b → s.execution.stage ≡ stage.Runs → (k : LivingInvariant s b)
    → (walk_of s.program (plans s) (own_of s b) k.steps).owed ≡ [] → its_next s b s.execution ≡ w → request_at (end_line s.program b.func) w ≡ Some q
    → place_at s.program s.execution.place ≡ Some (request_place (walk_of s.program (plans s) (own_of s b) k.steps)) → IsFullAnswer s q x → IsTaken s b x
act_taken s b x q (goes mark y) h birth at k none next is place answer = absurd (no_request q is)
act_taken s b x q nothing h birth at k none next is place answer = absurd (no_request q is)
act_taken s b x q (asks line u behind) h birth at k none next is place answer =
    question_taken s b x line u behind h birth at k none next place (subst (λ v. IsFullAnswer s v x) (sym (same_request (question_request line u) q is)) answer)
act_taken s b x q (traps line cause) h birth at k none next is place answer =
    own_trap_taken s b x line cause h birth at k none next place (subst (λ v. IsAnswerTo s.thread v x) (sym (same_request (r.Trap line (reason cause)) q is)) answer.0)
act_taken s b x q ends h birth at k none next is place answer =
    ended_taken s b x h birth k none next (end_answer s.thread (end_line s.program b.func) x (subst (λ v. IsAnswerTo s.thread v x) (sym (same_request (r.End (end_line s.program b.func)) q is)) answer.0))

-- Whatever a thread that lives asks for

living_waits : (st : Stage) → IsLiving st → st ≡ stage.Waits → ⊥
living_waits stage.Waits h e = h
living_waits stage.Enters h e = cc
living_waits stage.Runs h e = cc
living_waits stage.Over h e = h

living_over : (st : Stage) → IsLiving st → st ≡ stage.Over → ⊥
living_over stage.Waits h e = h
living_over stage.Enters h e = cc
living_over stage.Runs h e = cc
living_over stage.Over h e = h

-- where it asks for an act its frames run
act_runs : (s : Strand) (b : Birth) (st : Stage) (line : ℕ) (q : Request) → s.execution.stage ≡ st → IsLiving st → request_at line (its_next s b s.execution) ≡ Some q → s.execution.stage ≡ stage.Runs
act_runs s b st line q at living is =
    asking_runs (lowered s.program) b st s.execution.stage s.execution.machine line q at (subst (λ y. request_at line (next_step (lowered s.program) b y s.execution.machine) ≡ Some q) at is) (living_waits st living)
    (living_over st living)

asked_taken : (s : Strand) (b : Birth) (x : Entry) (q : Request) (st : Stage) → StrandInvariant s → s.birth ≡ Some b → s.execution.stage ≡ st → IsLiving st → (k : LivingInvariant s b) → length s.entries < s.limit
    → s.want ≡ Some q → IsAsked s.program (walk_of s.program (plans s) (own_of s b) k.steps) (its_next s b s.execution) (end_line s.program b.func) s.execution.place s.newest q → IsFullAnswer s q x → IsTaken s b x
asked_taken s b x q st h birth at living k few w (asks_act none is there) answer =
    act_taken s b x q (its_next s b s.execution) h birth (act_runs s b st (end_line s.program b.func) q at living is) k none refl is there answer
asked_taken s b x q st h birth at living k few w (asks_owed l o owes is) answer = made_taken s b x q l o h birth (owing_runs s b st k l o h at living owes) k few owes is answer.0
asked_taken s b x q st h birth at living k few w (asks_version y ahead there is) answer = crossed_taken s b x q st y h birth at living k w ahead there is answer.0

asked_runs : (s : Strand) (b : Birth) (q : Request) (st : Stage) → StrandInvariant s → s.execution.stage ≡ st → IsLiving st → (k : LivingInvariant s b) → asks_cross q ≡ false
    → IsAsked s.program (walk_of s.program (plans s) (own_of s b) k.steps) (its_next s b s.execution) (end_line s.program b.func) s.execution.place s.newest q → s.execution.stage ≡ stage.Runs
asked_runs s b q st h at living k none_newer (asks_act none is there) = act_runs s b st (end_line s.program b.func) q at living is
asked_runs s b q st h at living k none_newer (asks_owed l o owes is) = owing_runs s b st k l o h at living owes
asked_runs s b q st h at living k none_newer (asks_version y ahead there is) = let wrong : true ≡ false = sym (ap asks_cross is) ∙ none_newer in cc

living_taken : (s : Strand) (b : Birth) (x : Entry) (q : Request) (st : Stage) (told : Bool) → StrandInvariant s → s.birth ≡ Some b → s.execution.stage ≡ st → IsLiving st → (k : LivingInvariant s b)
    → length s.entries < s.limit → s.want ≡ Some q → ends_blocked s.entries ≡ told → IsReplyTo told (awaits_end s.entries) s.thread (Some q) x → IsTaken s b x
living_taken s b x q st true h birth at living k few w told reply =
    asked_taken s b x q st h birth at living k few w (subst (AsksIfAny s.program (walk_of s.program (plans s) (own_of s b) k.steps) (its_next s b s.execution) (end_line s.program b.func) s.execution.place s.newest) w k.asks) reply
living_taken s b x q st false h birth at living k few w told (inl reply) =
    asked_taken s b x q st h birth at living k few w (subst (AsksIfAny s.program (walk_of s.program (plans s) (own_of s b) k.steps) (its_next s b s.execution) (end_line s.program b.func) s.execution.place s.newest) w k.asks) reply
living_taken s b x q st false h birth at living k few w told (inr reply) =
    let asked : IsAsked s.program (walk_of s.program (plans s) (own_of s b) k.steps) (its_next s b s.execution) (end_line s.program b.func) s.execution.place s.newest q =
    subst (AsksIfAny s.program (walk_of s.program (plans s) (own_of s b) k.steps) (its_next s b s.execution) (end_line s.program b.func) s.execution.place s.newest) w k.asks in
    blocked_taken s b x q
    (record { kept = h; birth = birth; runs = asked_runs s b q st h at living k (blocked_no_cross s.thread q x reply) asked; living = k; free = told; want = w; asks = asked; told = reply })

-- Its begin

pub asks_begin_line : (line : ℕ) (want : Option Request) (q : Request) → AsksBegin line want → want ≡ Some q → q ≡ r.Begin line
asks_begin_line line want q (inl none) w = absurd (no_request q (sym none ∙ w))
asks_begin_line line want q (inr is) w = same_request q (r.Begin line) (sym w ∙ is)

no_block_begin : (t line : ℕ) (q : Request) (x : Entry) → q ≡ r.Begin line → IsBlockedAt t q x → ⊥
no_block_begin t line q x is h = subst (λ u. IsBlockedAt t u x) is h

answer_in : (told : Bool) (awaits : Bool) (t : ℕ) (q : Request) (x : Entry) → (IsBlockedAt t q x → ⊥) → IsReplyTo told awaits t (Some q) x → IsAnswerTo t q x
answer_in true awaits t q x free h = h.0
answer_in false awaits t q x free (inl h) = h.0
answer_in false awaits t q x free (inr h) = absurd (free h)

begin_taken : (s : Strand) (b : Birth) (x : Entry) (q : Request) → StrandInvariant s → s.birth ≡ Some b → s.execution.stage ≡ stage.Waits → WaitingInvariant s b → s.want ≡ Some q
    → IsReplyTo (ends_blocked s.entries) (awaits_end s.entries) s.thread (Some q) x → IsTaken s b x
begin_taken s b x q h birth at k w reply =
    let is : q ≡ r.Begin (end_line s.program b.func) = asks_begin_line (end_line s.program b.func) s.want q k.asks w in
    begun_taken s b x h birth at k (may_take s q h w)
    (begin_answer s.thread (end_line s.program b.func) x
    (subst (λ u. IsAnswerTo s.thread u x) is (answer_in (ends_blocked s.entries) (awaits_end s.entries) s.thread q x (no_block_begin s.thread (end_line s.program b.func) q x is) reply)))

-- A reply

stage_taken : (s : Strand) (b : Birth) (x : Entry) (q : Request) (st : Stage) → StrandInvariant s → s.birth ≡ Some b → s.execution.stage ≡ st → StageInvariant st s (Some b) → s.want ≡ Some q
    → length s.entries < s.limit → IsReplyTo (ends_blocked s.entries) (awaits_end s.entries) s.thread (Some q) x → IsTaken s b x
stage_taken s b x q stage.Waits h birth at k w few reply = begin_taken s b x q h birth at k w reply
stage_taken s b x q stage.Enters h birth at k w few reply = living_taken s b x q stage.Enters (ends_blocked s.entries) h birth at tt k few w refl reply
stage_taken s b x q stage.Runs h birth at k w few reply = living_taken s b x q stage.Runs (ends_blocked s.entries) h birth at tt k few w refl reply
stage_taken s b x q stage.Over h birth at k w few reply = absurd (no_request q (sym k.asks ∙ w))

pub answered : (s : Strand) (b : Birth) (want : Option Request) (x : Entry) → StrandInvariant s → s.birth ≡ Some b → s.want ≡ want → length s.entries < s.limit
    → IsReplyTo (ends_blocked s.entries) (awaits_end s.entries) s.thread want x → IsTaken s b x
answered s b None x h birth w few reply = absurd reply
answered s b (Some q) x h birth w few reply = stage_taken s b x q s.execution.stage h birth refl (subst (StageInvariant s.execution.stage s) birth h.stage) w few reply

-- Only a thread that was started has a request.

unborn_want : (s : Strand) (st : Stage) → StageInvariant st s None → s.want ≡ None
unborn_want s stage.Waits h = h.1.1.0
unborn_want s stage.Enters h = absurd h
unborn_want s stage.Runs h = absurd h
unborn_want s stage.Over h = absurd h

pub answer_started : (s : Strand) (o : Option Birth) (want : Option Request) (x : Entry) → StrandInvariant s → s.birth ≡ o → s.want ≡ want → IsReplyTo (ends_blocked s.entries) (awaits_end s.entries) s.thread want x
    → IsStarted o
answer_started s o None x h e w reply = absurd reply
answer_started s None (Some q) x h e w reply = absurd (no_request q (sym (unborn_want s s.execution.stage (subst (StageInvariant s.execution.stage s) e h.stage)) ∙ w))
answer_started s (Some b) (Some q) x h e w reply = tt

-- The thread, whoever it is

pub record HasTaken (s : Strand) (x : Entry) : Type 0 where
  pub birth : Birth
  pub is : s.birth ≡ Some birth
  pub taken : IsTaken s birth x

its_birth : (o : Option Birth) → IsStarted o → (b : Birth) × (o ≡ Some b)
its_birth None h = absurd h
its_birth (Some b) h = (b, refl)

pub has_taken : (s : Strand) (x : Entry) → StrandInvariant s → length s.entries < s.limit → IsReply s x → HasTaken s x
has_taken s x h few reply =
    let b : (b : Birth) × (s.birth ≡ Some b) = its_birth s.birth (answer_started s s.birth s.want x h refl refl reply) in
    record { birth = b.0; is = b.1; taken = answered s b.0 s.want x h b.1 refl few reply }

same_reply : (x y : Reply) → ◌≡◌ {A = Option Reply} (Some x) (Some y) → x ≡ y
same_reply x y h = cc

pub no_reply : (s : Strand) (x : Entry) → HasTaken s x → reply_of x ≡ None → ⊥
no_reply s x h none = let wrong : ◌≡◌ {A = Option Reply} None (Some h.taken.reply) = sym none ∙ h.taken.is in cc

pub taken_follow : (s : Strand) (x : Entry) (y : Reply) → HasTaken s x → reply_of x ≡ Some y → CanFollow (lowered s.program) s.execution.machine y
taken_follow s x y h is = subst (CanFollow (lowered s.program) s.execution.machine) (same_reply h.taken.reply y (sym h.taken.is ∙ is)) h.taken.follow

pub taken_walk : (s : Strand) (x : Entry) (y : Reply) → HasTaken s x → reply_of x ≡ Some y → CanWalkBy s.program s.filters s.newest s.execution.walk y
taken_walk s x y h is = subst (CanWalkBy s.program s.filters s.newest s.execution.walk) (same_reply h.taken.reply y (sym h.taken.is ∙ is)) h.taken.walk

pub taken_room : (s : Strand) (x : Entry) (y : Reply) → HasTaken s x → reply_of x ≡ Some y → takes_version y ≡ true → length s.versions < suc version_limit
taken_room s x y h is t = h.taken.room (ap takes_version (same_reply h.taken.reply y (sym h.taken.is ∙ is)) ∙ t)

pub taken_kept : (s : Strand) (x : Entry) (y : Reply) (e : Execution) (h : HasTaken s x) → reply_of x ≡ Some y → Takes (lowered s.program) s.filters s.newest s.execution e y → IsKept s h.birth x e
taken_kept s x y e h is t = h.taken.keeps e (subst (Takes (lowered s.program) s.filters s.newest s.execution e) (sym (same_reply h.taken.reply y (sym h.taken.is ∙ is))) t)

-- the flat code of the program
pub flat_of : (c : Flow) (p : Source) → IsLowered c → c.program ≡ p → c ≡ lowered p
flat_of c p l is = l.is ∙ ap lowered is

takes_any : Option Reply → Bool
takes_any None = false
takes_any (Some y) = takes_version y

newest_any : (x : Entry) (v : Version) (vs : List Version) → with_newest x v vs ≡ versions_behind (takes_any (reply_of x)) v vs
unfolding takes_any
newest_any (e.Begin t l) v vs = refl
newest_any (e.Cross t l y i n) v vs = refl
newest_any _ v vs = refl

pub newest_same : (x : Entry) (y : Reply) (v : Version) (vs : List Version) → reply_of x ≡ Some y → versions_behind (takes_version y) v vs ≡ with_newest x v vs
unfolding takes_any
newest_same x y v vs is = sym (newest_any x v vs ∙ ap (λ o. versions_behind (takes_any o) v vs) is)

-- What is told of the thread behind it

abbrev pub view_with : Strand → List Version → List Entry → Option Request → ℕ → Execution → Strand
view_with s vs es want limit e = record s { versions = vs; entries = es; want = want; limit = limit; execution = e }

pub record IsView (s : Strand) (x : Entry) (vs : List Version) (es : List Entry) (o : Option Request) (n : ℕ) : Type 0 where
  pub versions : vs ≡ with_newest x s.newest s.versions
  pub entries : es ≡ s.entries ++ x ∷ []
  pub want : o ≡ want_behind (reply_of x) s.want
  pub limit : n ≡ s.limit

pub by_view : (P : Strand → Type 0) (s : Strand) (x : Entry) (e : Execution) (vs : List Version) (es : List Entry) (want : Option Request) (limit : ℕ) → IsView s x vs es want limit → P (behind_answer s x e)
    → P (view_with s vs es want limit e)
by_view P s x e vs es want limit v h =
    subst (λ n. P (view_with s vs es want n e)) (sym v.limit)
    (subst (λ o. P (view_with s vs es o s.limit e)) (sym v.want)
    (subst (λ us. P (view_with s vs us (want_behind (reply_of x) s.want) s.limit e)) (sym v.entries)
    (subst (λ us. P (view_with s us (s.entries ++ x ∷ []) (want_behind (reply_of x) s.want) s.limit e)) (sym v.versions) h)))

pub blocked_keeps_want : (x : Entry) (want : Option Request) → is_blocked_entry x ≡ true → want_behind (reply_of x) want ≡ want
blocked_keeps_want (e.Blocked t l what) want h = refl
blocked_keeps_want _ want h = cc

pub waits_behind : (s : Strand) (b : Birth) (x : Entry) (e : Execution) → IsKept s b x e → is_blocked_entry x ≡ true → WaitsAt (behind_answer s x e) b e.place
waits_behind s b x e h told = record { stands = h.stands told; rests = inr (last_blocked s.entries x ∙ told) }
