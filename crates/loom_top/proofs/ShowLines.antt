-- The lines of a filter's events and of its unsafe places.
use Rattle.std.proofs.Common.{ℕ, zero, suc, ◌≡◌, ◌≤◌, Bool, true, false, List, [], ◌∷◌, ◌++◌, length, drop, Some, Result, Ok, Err, IfOk, refl, sym, ap, subst, ◌∙◌, arith, append_assoc, append-nil}
use Rattle.std.specs.Prelude.{slice_get, option_map}
use Rattle.loom_tree.specs.Tree.{Source}
use Rattle.loom_tree.specs.Lines.{ended}
use Rattle.loom_lang.specs.Places.{Place, places, place_at, line_of_place}
use Rattle.loom_canonical.proofs.BlockText.{ended_append}
use Rattle.loom_law.specs.Filter.{Watch, Plan}
use Rattle.loom_law.specs.Paths.{watch_at}
use Rattle.loom_plan.specs.PlaceEvents.{line_of_site}
use Rattle.loom_top.specs.ShowText.{event_line, event_lines, unsafe_line, unsafe_lines}

-- The first of the lines that are left is written, and the rest is left.
line_more : (line : List ℕ) (lines rest : List (List ℕ)) (before behind all : List ℕ) → lines ≡ line ∷ rest → behind ≡ before ++ ended (line ∷ [])
    → before ++ ended lines ≡ all → behind ++ ended rest ≡ all
line_more line lines rest before behind all first is left =
    ap (λ (z : List ℕ). z ++ ended rest) is
    ∙ append_assoc before (line ++ 10 ∷ []) (ended rest)
    ∙ ap (λ (z : List ℕ). before ++ z) (append_assoc line (10 ∷ []) (ended rest))
    ∙ sym (ap (λ (z : List (List ℕ)). before ++ ended z) first)
    ∙ left

-- a line, the lines behind it, and those behind them
pub line_and_lists : (line : List ℕ) (es us : List (List ℕ)) (first second third : List ℕ) → first ≡ ended (line ∷ []) → second ≡ first ++ ended es → third ≡ second ++ ended us
    → third ≡ ended (line ∷ (es ++ us))
line_and_lists line es us first second third a b c =
    c
    ∙ ap (λ (z : List ℕ). z ++ ended us) (b ∙ ap (λ (z : List ℕ). z ++ ended es) a)
    ∙ append_assoc (line ++ 10 ∷ []) (ended es) (ended us)
    ∙ append_assoc line (10 ∷ []) (ended es ++ ended us)
    ∙ ap (λ (z : List ℕ). line ++ 10 ∷ z) (sym (ended_append es us))

-- Events

-- the line of the first of the events that are left
first_event : (p : Source) (m n l : ℕ) (ws : List Watch) → option_map (λ (w : Watch). line_of_site p w.site) (slice_get ws n) ≡ Some l
    → event_lines p m (drop n ws) ≡ event_line m l ∷ event_lines p (suc m) (drop (suc n) ws)
first_event p m n l [] h = absurd cc
first_event p m zero l (w ∷ ws) h = let same : l ≡ line_of_site p w.site = cc h in rw same refl
first_event p m (suc n) l (w ∷ ws) h = first_event p m n l ws h

-- The line of an event is written.
pub event_more : (p : Source) (f : Plan) (n m l : ℕ) (before behind all : List ℕ) → m ≡ suc n → option_map (λ (w : Watch). line_of_site p w.site) (watch_at f m) ≡ Some l
    → behind ≡ before ++ ended (event_line m l ∷ []) → before ++ ended (event_lines p (suc n) (drop n f.watches)) ≡ all
    → behind ++ ended (event_lines p (suc m) (drop m f.watches)) ≡ all
event_more p f n m l before behind all e =
    let P : ℕ → Type 0 = λ k. option_map (λ (w : Watch). line_of_site p w.site) (watch_at f k) ≡ Some l → behind ≡ before ++ ended (event_line k l ∷ [])
    → before ++ ended (event_lines p (suc n) (drop n f.watches)) ≡ all → behind ++ ended (event_lines p (suc k) (drop k f.watches)) ≡ all in
    subst P (sym e)
    (λ h is left. line_more (event_line (suc n) l) (event_lines p (suc n) (drop n f.watches)) (event_lines p (suc (suc n)) (drop (suc n) f.watches)) before behind all
    (first_event p (suc n) n l f.watches h) is left)

-- Places

-- the line of the first of the places that are left, where it is unsafe
first_unsafe : (p : Source) (is_unsafe : ℕ → Bool) (m k l : ℕ) (ys : List Place) → is_unsafe m ≡ true → option_map (line_of_place p) (slice_get ys k) ≡ Some l
    → unsafe_lines p is_unsafe m (drop k ys) ≡ unsafe_line m l ∷ unsafe_lines p is_unsafe (suc m) (drop (suc k) ys)
first_unsafe p is_unsafe m k l [] t h = absurd cc
first_unsafe p is_unsafe m zero l (y ∷ ys) t h = let same : l ≡ line_of_place p y = cc h in rw (t, same) refl
first_unsafe p is_unsafe m (suc k) l (y ∷ ys) t h = first_unsafe p is_unsafe m k l ys t h

-- and none, where it isn't
first_safe : (p : Source) (is_unsafe : ℕ → Bool) (m k : ℕ) (ys : List Place) → is_unsafe m ≡ false
    → unsafe_lines p is_unsafe m (drop k ys) ≡ unsafe_lines p is_unsafe (suc m) (drop (suc k) ys)
first_safe p is_unsafe m zero [] t = refl
first_safe p is_unsafe m (suc k) [] t = refl
first_safe p is_unsafe m zero (y ∷ ys) t = rw t refl
first_safe p is_unsafe m (suc k) (y ∷ ys) t = first_safe p is_unsafe m k ys t

-- no place is left
no_unsafe : (p : Source) (is_unsafe : ℕ → Bool) (m k : ℕ) (ys : List Place) → length ys ≤ k → unsafe_lines p is_unsafe m (drop k ys) ≡ []
no_unsafe p is_unsafe m zero [] most = refl
no_unsafe p is_unsafe m (suc k) [] most = refl
no_unsafe p is_unsafe m zero (y ∷ ys) most = absurd (omega arith)
no_unsafe p is_unsafe m (suc k) (y ∷ ys) most = no_unsafe p is_unsafe m k ys (omega arith)

-- The line of an unsafe place is written.
pub unsafe_more : (p : Source) (is_unsafe : ℕ → Bool) (k m l : ℕ) (before behind all : List ℕ) → m ≡ suc k → is_unsafe k ≡ true
    → option_map (line_of_place p) (place_at p k) ≡ Some l → behind ≡ before ++ ended (unsafe_line k l ∷ [])
    → before ++ ended (unsafe_lines p is_unsafe k (drop k (places p))) ≡ all → behind ++ ended (unsafe_lines p is_unsafe m (drop m (places p))) ≡ all
unsafe_more p is_unsafe k m l before behind all e t h is left =
    let P : ℕ → Type 0 = λ n. behind ++ ended (unsafe_lines p is_unsafe n (drop n (places p))) ≡ all in
    subst P (sym e)
    (line_more (unsafe_line k l) (unsafe_lines p is_unsafe k (drop k (places p))) (unsafe_lines p is_unsafe (suc k) (drop (suc k) (places p))) before behind all
    (first_unsafe p is_unsafe k k l (places p) t h) is left)

-- A place that isn't unsafe has none.
pub safe_more : (p : Source) (is_unsafe : ℕ → Bool) (k m : ℕ) (before all : List ℕ) → m ≡ suc k → is_unsafe k ≡ false
    → before ++ ended (unsafe_lines p is_unsafe k (drop k (places p))) ≡ all → before ++ ended (unsafe_lines p is_unsafe m (drop m (places p))) ≡ all
safe_more p is_unsafe k m before all e t left =
    let P : ℕ → Type 0 = λ n. before ++ ended (unsafe_lines p is_unsafe n (drop n (places p))) ≡ all in
    subst P (sym e) (sym (ap (λ (z : List (List ℕ)). before ++ ended z) (first_safe p is_unsafe k k (places p) t)) ∙ left)

-- Those of all places are written.
pub all_places : (p : Source) (is_unsafe : ℕ → Bool) (k : ℕ) (out all : List ℕ) → length (places p) ≤ k
    → out ++ ended (unsafe_lines p is_unsafe k (drop k (places p))) ≡ all → out ≡ all
all_places p is_unsafe k out all most left =
    sym (append-nil out) ∙ (sym (ap (λ (z : List (List ℕ)). out ++ ended z) (no_unsafe p is_unsafe k k (places p) most)) ∙ left)

-- Answers

pub then_if_ok : {T E : Type 0} {P Q : T → Type 0} (r : Result T E) → ((x : T) → P x → Q x) → IfOk r P → IfOk r Q
then_if_ok (Ok x) f h = f x h
then_if_ok (Err e) f h = tt
