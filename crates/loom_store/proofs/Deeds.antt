-- What an answer makes a thread do, and the replay with it.
use Rattle.std.proofs.Common.{ℕ, ◌≡◌, inl, inr, ℤ, List, [], ◌∷◌, ◌++◌, Option, Some, None, refl, sym, ap, ◌∙◌, subst}
use Rattle.loom_trace.specs.declared.request.Request.{Request}
use Rattle.loom_trace.specs.declared.request.Request.TheVariants as r
use Rattle.loom_lang.specs.Trace.{Act, trap}
use Rattle.loom_lang.specs.Acts.{Deed}
use Rattle.loom_event.specs.TargetEvent.{TargetEvent, event_of_deed}
use Rattle.loom_event.specs.Replay.{Store, IsAllowed, after_act, after_event, replay, AreAllowed}
use Rattle.loom_event.specs.Answer.{trap_deed, IsAnswered}
use Rattle.loom_store.specs.declared.answer.Answer.TheVariants as a
use Rattle.loom_store.specs.Answer.{Does, given_deed, IsGranted, HasReason, IsTrap, IsTrapped, deed_of}
use Rattle.loom_store.specs.Laws.{LeadsTo, HasDeeds, deed_events, HasReplays}

does_leads : (s : Store) (t : ℕ) (q : Request) (o : Option Deed) (new : Store) → Does s t o new → ((d : Deed) → o ≡ Some d → IsAnswered q d) → LeadsTo s t q o new
does_leads s t q None new h f = absurd h
does_leads s t q (Some d) new h f = (f d refl, h)

-- what is done answers the request
done_answers : (q : Request) (v : ℤ) (d : Deed) → given_deed q v ≡ Some d → IsAnswered q d
done_answers (r.Trap l n) v d h = inr h
done_answers q v d h = inl (v, h)

granted_leads : (s : Store) (t : ℕ) (q : Request) (v : ℤ) (new : Store) → IsGranted s t q v new → LeadsTo s t q (given_deed q v) new
granted_leads s t (r.Tick l k) v new h = h
granted_leads s t q v new h = does_leads s t q (given_deed q v) new h (done_answers q v)

behind_trap : (s : Store) (t : ℕ) (d : Deed) (n : ℕ) → HasReason d.act n → after_event s (event_of_deed t d) ≡ s
behind_trap s t d n h = by_act d.act h
  where
    by_act : (a : Act) → HasReason a n → after_act s t a ≡ s
    by_act (trap c) h = refl
    by_act a h = absurd h

trap_leads : (s : Store) (t : ℕ) (q : Request) (o : Option Deed) (n : ℕ) (new : Store) → IsTrap s t o n → new ≡ s
    → ((d : Deed) → o ≡ Some d → IsAnswered q d) → LeadsTo s t q o new
trap_leads s t q None n new h is f = absurd h
trap_leads s t q (Some d) n new h is f = (f d refl, (h.1, is ∙ sym (behind_trap s t d n h.0)))

trap_of : (s : Store) (t : ℕ) (q : Request) (n : ℕ) → IsTrapped s t q n → IsTrap s t (trap_deed q) n
trap_of s t (r.Trap l k) n h = absurd h
trap_of s t q n h = h

pub deeds : HasDeeds
deeds s t q (a.Granted v) new h = granted_leads s t q v new h.1
deeds s t q (a.Disabled what) new h = h.1.1
deeds s t q (a.Trapped n) new h = trap_leads s t q (trap_deed q) n new (trap_of s t q n h.0) h.1 (λ d is. inr is)

-- One event more

pub replay_more : (s : Store) (xs : List TargetEvent) (y : TargetEvent) → replay s (xs ++ y ∷ []) ≡ after_event (replay s xs) y
replay_more s [] y = refl
replay_more s (x ∷ xs) y = replay_more (after_event s x) xs y

allowed_more : (s : Store) (xs : List TargetEvent) (y : TargetEvent) → AreAllowed s xs → IsAllowed (replay s xs) y → AreAllowed s (xs ++ y ∷ [])
allowed_more s [] y h may = (may, tt)
allowed_more s (x ∷ xs) y h may = (h.0, allowed_more (after_event s x) xs y h.1 may)

none_more : (xs : List TargetEvent) → xs ++ [] ≡ xs
none_more [] = refl
none_more (x ∷ xs) = ap (λ z. x ∷ z) (none_more xs)

with_deed : (s : Store) (xs : List TargetEvent) (t : ℕ) (q : Request) (o : Option Deed) (new : Store) → AreAllowed s xs → LeadsTo (replay s xs) t q o new
    → (new ≡ replay s (xs ++ deed_events t o)) × AreAllowed s (xs ++ deed_events t o)
with_deed s xs t q None new h is =
    let same : xs ++ [] ≡ xs = none_more xs in
    (is ∙ ap (replay s) (sym same), subst (AreAllowed s) (sym same) h)
with_deed s xs t q (Some d) new h leads =
    let y : TargetEvent = event_of_deed t d in
    (leads.1.1 ∙ sym (replay_more s xs y), allowed_more s xs y h leads.1.0)

pub replays : HasReplays
replays s xs t q x new h answered = with_deed s xs t q (deed_of q x) new h (deeds (replay s xs) t q x new answered)
