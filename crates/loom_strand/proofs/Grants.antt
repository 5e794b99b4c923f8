-- What answers a question.
use Rattle.std.proofs.Common.{ℕ, ◌≡◌, ◌⊎◌, false, List, ℤ, pos, negsuc, Option, Some, None, refl, inl, inr, sym, ap, ◌∙◌}
use Rattle.loom_tree.specs.Tree.{Source}
use Rattle.loom_lang.specs.Trace as trace
use Rattle.loom_lang.specs.Trace.{Cause, division, index, not_held, not_spawned, threads, frames, overflow, reason, Act, begin, end, trap, made}
use Rattle.loom_trace.specs.declared.entry.Entry.{Entry}
use Rattle.loom_trace.specs.declared.entry.Entry.TheVariants as e
use Rattle.loom_trace.specs.declared.request.Request.{Request}
use Rattle.loom_trace.specs.declared.request.Request.TheVariants as r
use Rattle.loom_event.specs.TargetEvent.{entry_by}
use Rattle.loom_event.specs.Answer.{IsGrantOf, IsAnswerTo}
use Rattle.loom_flow.specs.Flow.{Flow}
use Rattle.loom_flow.specs.Position.{Position}
use Rattle.loom_flow.specs.Question.{Question, read, write, lock, unlock, down, up, spawn, join, print}
use Rattle.loom_flow.specs.Progress.{asks, ends, progress}
use Rattle.loom_law.specs.Laws.{with_newest}
use Rattle.loom_law.specs.Walk.{Version, Plans, Walk, behind_entry, after_item}
use Rattle.loom_law.specs.TurnLaws.{is_blocked_entry}
use Rattle.loom_walk.specs.FilterWalk.{IsInstructionAct}
use Rattle.loom_strand.specs.declared.reply.Reply.TheVariants as a
use Rattle.loom_strand.specs.PositionRequest.{question_request}
use Rattle.loom_strand.specs.Reply.{reply_of, want_behind}
use Rattle.loom_strand.specs.Life.{is_end}
use Rattle.loom_strand.specs.Way.{IsNoTrap, IsJoining}
use Rattle.loom_strand.proofs.Steps.{IsNoBegin}
use Rattle.loom_strand.proofs.Ways.{ComesBefore}

-- Acts of instructions

abbrev pub IsGrantedAct : Act → Type 0
IsGrantedAct begin = ⊥
IsGrantedAct end = ⊥
IsGrantedAct (trap c) = ⊥
IsGrantedAct _ = Unit {0}

-- what the entry of one tells, and what it doesn't do
pub record IsPlain (t l : ℕ) (act : Act) : Type 0 where
  pub no_begin : IsNoBegin act
  pub instruction : IsInstructionAct act
  pub no_trap : IsNoTrap (made l act)
  pub lives : is_end (entry_by t l act) ≡ false
  pub free : is_blocked_entry (entry_by t l act) ≡ false
  pub versions : (v : Version) (vs : List Version) → with_newest (entry_by t l act) v vs ≡ vs
  pub asks : (want : Option Request) → want_behind (reply_of (entry_by t l act)) want ≡ None
  pub walk : (p : Source) (plans : Plans) (z : Walk) → after_item p plans z (made l act) ≡ behind_entry z

pub plain : (t l : ℕ) (act : Act) → IsGrantedAct act → IsPlain t l act
plain t l begin h = absurd h
plain t l end h = absurd h
plain t l (trap c) h = absurd h
plain t l (trace.read x v) h =
    record { no_begin = tt; instruction = tt; no_trap = tt; lives = refl; free = refl; versions = λ u us. refl; asks = λ o. refl; walk = λ p plans z. refl }
plain t l (trace.write x v) h =
    record { no_begin = tt; instruction = tt; no_trap = tt; lives = refl; free = refl; versions = λ u us. refl; asks = λ o. refl; walk = λ p plans z. refl }
plain t l (trace.lock m) h =
    record { no_begin = tt; instruction = tt; no_trap = tt; lives = refl; free = refl; versions = λ u us. refl; asks = λ o. refl; walk = λ p plans z. refl }
plain t l (trace.unlock m) h =
    record { no_begin = tt; instruction = tt; no_trap = tt; lives = refl; free = refl; versions = λ u us. refl; asks = λ o. refl; walk = λ p plans z. refl }
plain t l (trace.down m) h =
    record { no_begin = tt; instruction = tt; no_trap = tt; lives = refl; free = refl; versions = λ u us. refl; asks = λ o. refl; walk = λ p plans z. refl }
plain t l (trace.up m) h =
    record { no_begin = tt; instruction = tt; no_trap = tt; lives = refl; free = refl; versions = λ u us. refl; asks = λ o. refl; walk = λ p plans z. refl }
plain t l (trace.spawn c f vs) h =
    record { no_begin = tt; instruction = tt; no_trap = tt; lives = refl; free = refl; versions = λ u us. refl; asks = λ o. refl; walk = λ p plans z. refl }
plain t l (trace.join c) h =
    record { no_begin = tt; instruction = tt; no_trap = tt; lives = refl; free = refl; versions = λ u us. refl; asks = λ o. refl; walk = λ p plans z. refl }
plain t l (trace.print v) h =
    record { no_begin = tt; instruction = tt; no_trap = tt; lives = refl; free = refl; versions = λ u us. refl; asks = λ o. refl; walk = λ p plans z. refl }

-- Answers

-- The entry grants the question.
pub record IsGrant (c : Flow) (f t line : ℕ) (q : Question) (behind : ℤ → Position) (x : Entry) : Type 0 where
  pub value : ℤ
  pub act : Act
  pub entry : x ≡ entry_by t line act
  pub answer : reply_of x ≡ Some (a.Gives value)
  pub granted : IsGrantedAct act
  pub gives : ComesBefore c f (asks line q behind) (made line act) (progress c (behind value))

-- It is a trap that the store answers with; where the end of a thread is awaited it is none.
pub record IsTrap (c : Flow) (f t line : ℕ) (q : Question) (behind : ℤ → Position) (x : Entry) : Type 0 where
  pub cause : Cause
  pub entry : x ≡ entry_by t line (trap cause)
  pub gives : ComesBefore c f (asks line q behind) (made line (trap cause)) ends
  pub refuses : IsJoining (asks line q behind) → IsGrantOf t (question_request line q) x → ⊥

abbrev pub IsAnswerOf : Flow → ℕ → ℕ → ℕ → Question → (ℤ → Position) → Entry → Type 0
IsAnswerOf c f t line q behind x = IsGrant c f t line q behind x ⊎ IsTrap c f t line q behind x

-- with no value
granted_by : (c : Flow) (f t line : ℕ) (q : Question) (behind : ℤ → Position) (x : Entry) (act : Act) → x ≡ entry_by t line act → reply_of (entry_by t line act) ≡ Some (a.Gives (pos 0)) → IsGrantedAct act
    → ComesBefore c f (asks line q behind) (made line act) (progress c (behind (pos 0))) → IsAnswerOf c f t line q behind x
granted_by c f t line q behind x act is answer granted gives = inl (record { value = pos 0; act = act; entry = is; answer = ap reply_of is ∙ answer; granted = granted; gives = gives })

trapped_by : (c : Flow) (f t line : ℕ) (q : Question) (behind : ℤ → Position) (x : Entry) (cause : Cause) → x ≡ entry_by t line (trap cause)
    → ComesBefore c f (asks line q behind) (made line (trap cause)) ends → (IsJoining (asks line q behind) → IsGrantOf t (question_request line q) x → ⊥) → IsAnswerOf c f t line q behind x
trapped_by c f t line q behind x cause is gives refuses = inr (record { cause = cause; entry = is; gives = gives; refuses = refuses })

no_join_trap : (t line l k n : ℕ) (x : Entry) → x ≡ e.Trap t line n → x ≡ e.Join t l k → ⊥
no_join_trap t line l k n x h g = let no : e.Trap t line n ≡ e.Join t l k = sym h ∙ g in cc

pub answers : (c : Flow) (f t line : ℕ) (q : Question) (behind : ℤ → Position) (x : Entry) → IsAnswerTo t (question_request line q) x → IsAnswerOf c f t line q behind x
answers c f t line (read m) behind x (inl (v, h)) =
    inl (record { value = v; act = trace.read m v; entry = h; answer = ap reply_of h; granted = tt; gives = λ is o n g. (v, inr (is, refl, g)) })
answers c f t line (read m) behind x (inr h) = absurd h
answers c f t line (write m u) behind x (inl (v, h)) = granted_by c f t line (write m u) behind x (trace.write m u) h refl tt (λ is o n g. inr (is, refl, g))
answers c f t line (write m u) behind x (inr h) = absurd h
answers c f t line (lock m) behind x (inl (v, h)) = granted_by c f t line (lock m) behind x (trace.lock m) h refl tt (λ is o n g. inr (is, refl, g))
answers c f t line (lock m) behind x (inr h) = absurd h
answers c f t line (unlock m) behind x (inl (v, h)) = granted_by c f t line (unlock m) behind x (trace.unlock m) h refl tt (λ is o n g. inr (inr (is, refl, g)))
answers c f t line (unlock m) behind x (inr h) = trapped_by c f t line (unlock m) behind x (not_held m) h (λ is o n g. inl (inr (is, refl, g))) (λ j g. j)
answers c f t line (down m) behind x (inl (v, h)) = granted_by c f t line (down m) behind x (trace.down m) h refl tt (λ is o n g. inr (is, refl, g))
answers c f t line (down m) behind x (inr h) = absurd h
answers c f t line (up m) behind x (inl (v, h)) = granted_by c f t line (up m) behind x (trace.up m) h refl tt (λ is o n g. inr (inr (is, refl, g)))
answers c f t line (up m) behind x (inr h) = trapped_by c f t line (up m) behind x (overflow m) h (λ is o n g. inl (inr (is, refl, g))) (λ j g. j)
answers c f t line (spawn n vs) behind x (inl (pos k, h)) =
    inl (record { value = pos k; act = trace.spawn k n vs; entry = h; answer = ap reply_of h; granted = tt; gives = λ is o m g. inr (k, inr (is, refl, g)) })
answers c f t line (spawn n vs) behind x (inl (negsuc k, h)) = absurd h
answers c f t line (spawn n vs) behind x (inr h) = trapped_by c f t line (spawn n vs) behind x threads h (λ is o m g. inl (inr (is, refl, g))) (λ j g. j)
answers c f t line (join (pos k)) behind x (inl (v, h)) = granted_by c f t line (join (pos k)) behind x (trace.join k) h refl tt (λ is o n g. inr (inr (is, refl, g)))
answers c f t line (join (negsuc k)) behind x (inl (v, h)) = absurd h
answers c f t line (join (pos k)) behind x (inr h) =
    trapped_by c f t line (join (pos k)) behind x (not_spawned (pos k)) h (λ is o n g. inl (inr (is, refl, g))) (λ j g. no_join_trap t line line k (reason (not_spawned (pos k))) x h g.1)
answers c f t line (join (negsuc k)) behind x (inr h) = trapped_by c f t line (join (negsuc k)) behind x (not_spawned (negsuc k)) h (λ is o n g. inr (is, refl, g)) (λ j g. j)
answers c f t line (print u) behind x (inl (v, h)) = granted_by c f t line (print u) behind x (trace.print u) h refl tt (λ is o n g. inr (is, refl, g))
answers c f t line (print u) behind x (inr h) = absurd h

-- a trap that the thread finds by itself
pub trap_answer : (t line : ℕ) (cause : Cause) (x : Entry) → IsAnswerTo t (r.Trap line (reason cause)) x → x ≡ entry_by t line (trap cause)
trap_answer t line cause x (inl (v, is)) = absurd is
trap_answer t line division x (inr is) = is
trap_answer t line index x (inr is) = is
trap_answer t line (not_held m) x (inr is) = absurd is
trap_answer t line (not_spawned v) x (inr is) = absurd is
trap_answer t line threads x (inr is) = absurd is
trap_answer t line frames x (inr is) = is
trap_answer t line (overflow n) x (inr is) = absurd is

pub end_answer : (t line : ℕ) (x : Entry) → IsAnswerTo t (r.End line) x → x ≡ e.End t line
end_answer t line x (inl (v, is)) = is
end_answer t line x (inr none) = absurd none

pub begin_answer : (t line : ℕ) (x : Entry) → IsAnswerTo t (r.Begin line) x → x ≡ e.Begin t line
begin_answer t line x (inl (v, is)) = is
begin_answer t line x (inr none) = absurd none
