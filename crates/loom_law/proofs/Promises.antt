-- Each lawful journal keeps its promises.
use Rattle.std.proofs.Common.{◌≡◌, ℕ, Some, List, [], ◌∷◌, ◌++◌, refl, sym, ap, subst, ◌∙◌, append-nil}
use Rattle.loom_trace.specs.declared.entry.Entry.{Entry}
use Rattle.loom_trace.specs.declared.entry.Entry.TheVariants as e
use Rattle.loom_event.specs.Entries.{thread_of}
use Rattle.loom_law.specs.Control.{Command, Control, first_control, after_entry, control_after, control, listed_places_after, listed_places_from, listed_places}
use Rattle.loom_law.specs.Lawful.{Setting, Front, front_at, IsHeldOff, Permits, MayFollowBy, MayFollow, IsLawful}
use Rattle.loom_law.specs.Promises.{FollowsOrders, InstallsOutside, HasOneHolder, StaysAsItWas, ChangesNothing, AlwaysPromises}
use Rattle.loom_law.proofs.Balance.{IsSound, first_sound, sound_along}
use Rattle.loom_law.proofs.Obedience.{are_said}
use Rattle.loom_law.proofs.Enough.{strict}
use Rattle.loom_law.proofs.Lawful.{always_balanced, always_obeyed, exclusion}

orders : (s : Setting) (f : Front) (x : Entry) (rest : List Entry) → MayFollow s f x rest → FollowsOrders s f x
orders s f (e.At t l k ns) rest h = h.1
orders s f _ rest h = tt

outside : (s : Setting) (f : Front) (x : Entry) (rest : List Entry) → MayFollow s f x rest → InstallsOutside s f x
outside s f (e.Installed k v row) rest h =
    let m = h.1 in
    record { command = m.command; is = m.is; plan = m.plan; installs = m.installs; lists = m.lists; outside = m.outside }
outside s f _ rest h = tt

control_after_last : (cs : List Command) (c : Control) (xs : List Entry) (y : Entry) → control_after cs c (xs ++ y ∷ []) ≡ after_entry cs (control_after cs c xs) y
control_after_last cs c [] y = refl
control_after_last cs c (x ∷ xs) y = control_after_last cs (after_entry cs c x) xs y

listed_last : (t : ℕ) (so_far : List ℕ) (xs : List Entry) (y : Entry) → listed_places_from t so_far (xs ++ y ∷ []) ≡ listed_places_after t (listed_places_from t so_far xs) y
listed_last t so_far [] y = refl
listed_last t so_far (x ∷ xs) y = listed_last t (listed_places_after t so_far x) xs y

-- an entry behind which the version and the holders are as before, and that lists nothing
stays : (s : Setting) (f : Front) (x : Entry) → f.control ≡ control s.commands f.entries
    → (after_entry s.commands (control s.commands f.entries) x).version ≡ (control s.commands f.entries).version
    → (after_entry s.commands (control s.commands f.entries) x).holders ≡ (control s.commands f.entries).holders
    → ((t : ℕ) (so_far : List ℕ) → listed_places_after t so_far x ≡ so_far) → StaysAsItWas s f x
stays s f x is version holders lists =
    let last = control_after_last s.commands first_control f.entries x in (
      ap (λ (d : Control). d.version) last ∙ version ∙ ap (λ (d : Control). d.version) (sym is),
      (ap (λ (d : Control). d.holders) last ∙ holders ∙ ap (λ (d : Control). d.holders) (sym is), λ t. listed_last t [] f.entries x ∙ lists t (listed_places t f.entries)),
    )

unchanged : (s : Setting) (f : Front) (x : Entry) → f.control ≡ control s.commands f.entries → ChangesNothing s f x
unchanged s f (e.Refused k n c) is = stays s f (e.Refused k n c) is refl refl (λ t so_far. refl)
unchanged s f (e.Stalled k t l) is = stays s f (e.Stalled k t l) is refl refl (λ u so_far. refl)
unchanged s f (e.Cut k) is = stays s f (e.Cut k) is refl refl (λ t so_far. refl)
unchanged s f (e.Unreached k) is = stays s f (e.Unreached k) is refl refl (λ t so_far. refl)
unchanged s f _ is = tt

permitted : (s : Setting) (f : Front) (x : Entry) (rest : List Entry) → MayFollow s f x rest → Permits s f x
permitted s f (e.Cross t l x v n) rest h = h.1
permitted s f (e.Blocked t l what) rest h = h.1
permitted s f (e.Enter t l k c) rest h = h.1
permitted s f (e.Wait t l k n) rest h = h.1
permitted s f (e.At t l k ns) rest h = h.1
permitted s f _ rest h = tt

not_held_off : (s : Setting) (f : Front) (x : Entry) (rest : List Entry) → MayFollow s f x rest → (t : ℕ) → thread_of x ≡ Some t → IsHeldOff s f t → ⊥
not_held_off s f x rest h t by held = (subst (λ o. MayFollowBy s f x rest o) by h).0.not_held_off held

one_holder : (s : Setting) (front rest : List Entry) → IsLawful s (front ++ rest) → HasOneHolder (control s.commands front)
one_holder s front rest h =
    let sound : IsSound (control s.commands front) = sound_along s.commands first_control front (are_said s front rest (strict s (front ++ rest) h).0) first_sound in
    sound.one

pub always_promises : AlwaysPromises
always_promises s es h = record {
  run = record { events = h.events; told = h.tells; run = h.run };
  entries = λ front x rest is.
      let f : Front = front_at s h.events front in
      let follows : MayFollow s f x rest = h.follows front x rest is in
      record {
        obeyed = record { orders = orders s f x rest follows; regions = always_obeyed s es h front x rest is };
        outside = outside s f x rest follows;
        permitted = permitted s f x rest follows;
        balanced = always_balanced s es h front x rest is;
        one_holder = one_holder s front (x ∷ rest) (subst (λ z. IsLawful s z) is h);
        not_held_off = not_held_off s f x rest follows;
        unchanged = unchanged s f x refl;
      };
  last_holders = one_holder s es [] (subst (λ z. IsLawful s z) (sym (append-nil es)) h);
  last_inside = λ k c t u x y. exclusion s es [] (subst (λ z. IsLawful s z) (sym (append-nil es)) h) k c t u x y;
}
