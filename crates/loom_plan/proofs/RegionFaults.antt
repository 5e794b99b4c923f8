-- What is told of regions.
use Rattle.std.proofs.Common.{ℕ, ◌≡◌, ◌⊎◌, Bool, true, false, List, [], ◌∷◌, ◌++◌, Option, Some, None, if◌then◌else◌, inl, inr, refl, sym, subst, ◌∙◌, arith}
use Rattle.std.specs.Prelude.{◌==◌}
use Rattle.std.specs.List.{Contains}
use Rattle.std.specs.Option.{option_or}
use Rattle.std.proofs.lemmas.Bool.{eqb-true, eq-eqb}
use Rattle.loom_tree.specs.Tree.{Expression, Source}
use Rattle.loom_lang.specs.Rules.{KeepsRules}
use Rattle.loom_lang.specs.Numbers.{function_number}
use Rattle.loom_command.specs.Filter.{LineEvent, Region, between, whole}
use Rattle.loom_law.specs.FilterRefusal.{HasStatement, params_at, IsForeign, HasEventFault, HasEventFaults, IsSplit, HasRegionFault, HasRegionFaults}
use Rattle.loom_law.proofs.Holdings.{either_of, pick}
use Rattle.loom_law.proofs.Course.{contains_first, contains_later, no_member, contains_cases}
use Rattle.loom_plan.specs.declared.fault.Findings.{Findings}
use Rattle.loom_plan.specs.Statements.{function_on}
use Rattle.loom_plan.specs.Fault.{is_foreign, lesser, event_fault, split_fault, no_findings, with_event, behind_events, whole_fault, region_fault, behind_regions}
use Rattle.loom_plan.proofs.Least.{TellsLeast, same_numbers, in_either, that_number, no_number}
use Rattle.loom_plan.proofs.Lines.{TellsFunction, function_told}
use Rattle.loom_plan.proofs.EventFaults.{put_left, put_right, left_alone, right_alone, event_tells, foreign_told, foreign_found, foreign_tells}

-- Events in different functions

-- the event stands in another function
abbrev IsAway : Source → ℕ → LineEvent → Type 0
IsAway p g x = (h : ℕ) × (HasStatement p x.line h × (g ≡ h → ⊥))

abbrev AreAway : Source → ℕ → List LineEvent → Type 0
AreAway p g [] = ⊥
AreAway p g (x ∷ xs) = IsAway p g x ⊎ AreAway p g xs

away_in : (p : Source) (g : ℕ) (xs : List LineEvent) (x : LineEvent) → Contains xs x → IsAway p g x → AreAway p g xs
away_in p g [] x h k = absurd (no_member x h)
away_in p g (y ∷ xs) x h k =
    either_of (contains_cases y x xs h) (λ e. inl (subst (λ (z : LineEvent). IsAway p g z) (sym e) k)) (λ c. inr (away_in p g xs x c k))

record HasAway (p : Source) (g : ℕ) (xs : List LineEvent) : Type 0 where
  event : LineEvent
  there : Contains xs event
  away : IsAway p g event

away_later : (p : Source) (g : ℕ) (x : LineEvent) (xs : List LineEvent) → HasAway p g xs → HasAway p g (x ∷ xs)
away_later p g x xs h = record { event = h.event; there = contains_later x h.event xs h.there; away = h.away }

in_away : (p : Source) (g : ℕ) (xs : List LineEvent) → AreAway p g xs → HasAway p g xs
in_away p g [] h = absurd h
in_away p g (x ∷ xs) (inl h) = record { event = x; there = contains_first x xs; away = h }
in_away p g (x ∷ xs) (inr h) = away_later p g x xs (in_away p g xs h)

-- behind events of which the first at a statement stands in this function, if there is one
abbrev SplitBehind : Source → Option ℕ → List LineEvent → Type 0
SplitBehind p None xs = IsSplit p xs
SplitBehind p (Some g) xs = AreAway p g xs

abbrev AreApart : Option ℕ → Option ℕ → Type 0
AreApart None o = ⊥
AreApart (Some g) None = ⊥
AreApart (Some g) (Some h) = g ≡ h → ⊥

apart_tells : (a b : Option ℕ) → TellsLeast (λ n. (n ≡ 6) × AreApart a b) (split_fault a b)
apart_tells None b = no_number 6 ⊥ (λ k. k)
apart_tells (Some g) None = no_number 6 ⊥ (λ k. k)
apart_tells (Some g) (Some h) =
    pick (TellsLeast (λ n. (n ≡ 6) × (g ≡ h → ⊥))) (g == h) None (Some 6)
    (λ e. no_number 6 (g ≡ h → ⊥) (λ k. k (eqb-true g h e)))
    (λ e. that_number 6 (g ≡ h → ⊥) (λ s. let k = eq-eqb g h s in cc))

-- an event at no statement
split_later : (p : Source) (x : LineEvent) (xs : List LineEvent) → IsSplit p xs → IsSplit p (x ∷ xs)
split_later p x xs h = record {
  one = h.one;
  other = h.other;
  has_one = contains_later x h.one xs h.has_one;
  has_other = contains_later x h.other xs h.has_other;
  first = h.first;
  second = h.second;
  at_first = h.at_first;
  at_second = h.at_second;
  apart = h.apart;
}

in_rest : (p : Source) (x y : LineEvent) (xs : List LineEvent) (g : ℕ) → TellsFunction p x.line None → Contains (x ∷ xs) y → HasStatement p y.line g → Contains xs y
in_rest p x y xs g h c s = either_of (contains_cases x y xs c) (λ e. absurd (h g (subst (λ (z : LineEvent). HasStatement p z.line g) (sym e) s))) (λ k. k)

split_rest : (p : Source) (x : LineEvent) (xs : List LineEvent) → TellsFunction p x.line None → IsSplit p (x ∷ xs) → IsSplit p xs
split_rest p x xs t h = record {
  one = h.one;
  other = h.other;
  has_one = in_rest p x h.one xs h.first t h.has_one h.at_first;
  has_other = in_rest p x h.other xs h.second t h.has_other h.at_second;
  first = h.first;
  second = h.second;
  at_first = h.at_first;
  at_second = h.at_second;
  apart = h.apart;
}

-- the first event at a statement
split_first : (p : Source) (x : LineEvent) (xs : List LineEvent) (g : ℕ) → HasStatement p x.line g → AreAway p g xs → IsSplit p (x ∷ xs)
split_first p x xs g s h =
    let k = in_away p g xs h in
    record {
      one = x;
      other = k.event;
      has_one = contains_first x xs;
      has_other = contains_later x k.event xs k.there;
      first = g;
      second = k.away.0;
      at_first = s;
      at_second = k.away.1.0;
      apart = k.away.1.1;
    }

-- what stands in another function isn't the event
away_rest : (p : Source) (x y : LineEvent) (xs : List LineEvent) (g h : ℕ) → TellsFunction p x.line (Some g) → Contains (x ∷ xs) y → HasStatement p y.line h → (g ≡ h → ⊥)
    → AreAway p g xs
away_rest p x y xs g h t c s ne =
    either_of (contains_cases x y xs c)
    (λ e. absurd (ne (sym (t.1 h (subst (λ (z : LineEvent). HasStatement p z.line h) (sym e) s)))))
    (λ k. away_in p g xs y k (h, (s, ne)))

first_away : (p : Source) (x : LineEvent) (xs : List LineEvent) (g : ℕ) → TellsFunction p x.line (Some g) → IsSplit p (x ∷ xs) → AreAway p g xs
first_away p x xs g t h = by (g == h.first) refl
  where
    by : (b : Bool) → (g == h.first) ≡ b → AreAway p g xs
    by true e = away_rest p x h.other xs g h.second t h.has_other h.at_second (λ s. h.apart (sym (eqb-true g h.first e) ∙ s))
    by false e = away_rest p x h.one xs g h.first t h.has_one h.at_first (λ s. let k = eq-eqb g h.first s in cc)

split_told : (p : Source) (x : LineEvent) (xs : List LineEvent) (seen at : Option ℕ) → TellsFunction p x.line at → SplitBehind p seen (x ∷ xs)
    → AreApart seen at ⊎ SplitBehind p (option_or seen at) xs
split_told p x xs None None t h = inr (split_rest p x xs t h)
split_told p x xs None (Some g) t h = inr (first_away p x xs g t h)
split_told p x xs (Some g) None t (inl h) = absurd (t h.0 h.1.0)
split_told p x xs (Some g) None t (inr h) = inr h
split_told p x xs (Some g) (Some i) t (inl h) = inl (λ e. h.1.1 (e ∙ sym (t.1 h.0 h.1.0)))
split_told p x xs (Some g) (Some i) t (inr h) = inr h

split_found : (p : Source) (x : LineEvent) (xs : List LineEvent) (seen at : Option ℕ) → TellsFunction p x.line at
    → AreApart seen at ⊎ SplitBehind p (option_or seen at) xs → SplitBehind p seen (x ∷ xs)
split_found p x xs None None t (inl h) = absurd h
split_found p x xs None None t (inr h) = split_later p x xs h
split_found p x xs None (Some g) t (inl h) = absurd h
split_found p x xs None (Some g) t (inr h) = split_first p x xs g t.0 h
split_found p x xs (Some g) None t (inl h) = absurd h
split_found p x xs (Some g) None t (inr h) = inr h
split_found p x xs (Some g) (Some i) t (inl h) = inl (i, (t.0, h))
split_found p x xs (Some g) (Some i) t (inr h) = inr h

-- Regions between events

none_split : (p : Source) (o : Option ℕ) → SplitBehind p o [] → ⊥
none_split p None h = no_member h.one h.has_one
none_split p (Some g) h = h

abbrev HasRegionFaultBehind : Source → List ℕ → Option ℕ → List LineEvent → ℕ → Type 0
HasRegionFaultBehind p file seen xs n = HasEventFaults p file xs n ⊎ ((n ≡ 6) × SplitBehind p seen xs)

abbrev HasFaultWith : Source → List ℕ → Option ℕ → LineEvent → Option ℕ → ℕ → Type 0
HasFaultWith p file seen x at n = HasEventFault p file x n ⊎ ((n ≡ 6) × AreApart seen at)

apart_events : {Q A B : Type 0} {S P R : Type 0} {n : ℕ} → (P ⊎ R → S) → (Q ⊎ (A ⊎ ((n ≡ 6) × P))) ⊎ (B ⊎ ((n ≡ 6) × R)) → Q ⊎ ((A ⊎ B) ⊎ ((n ≡ 6) × S))
apart_events f (inl (inl q)) = inl q
apart_events f (inl (inr (inl a))) = inr (inl (inl a))
apart_events f (inl (inr (inr k))) = inr (inr (k.0, f (inl k.1)))
apart_events f (inr (inl b)) = inr (inl (inr b))
apart_events f (inr (inr k)) = inr (inr (k.0, f (inr k.1)))

by_event : {Q A B : Type 0} {S P R : Type 0} {n : ℕ} → (S → P ⊎ R) → Q ⊎ ((A ⊎ B) ⊎ ((n ≡ 6) × S)) → (Q ⊎ (A ⊎ ((n ≡ 6) × P))) ⊎ (B ⊎ ((n ≡ 6) × R))
by_event f (inl q) = inl (inl q)
by_event f (inr (inl (inl a))) = inl (inr (inl a))
by_event f (inr (inl (inr b))) = inr (inl b)
by_event f (inr (inr k)) = either_of (f k.1) (λ i. inl (inr (inr (k.0, i)))) (λ i. inr (inr (k.0, i)))

events_tell : (p : Source) (file : List ℕ) → KeepsRules p → (xs : List LineEvent) (Q : ℕ → Type 0) (s : Findings) → TellsLeast Q s.least
    → TellsLeast (λ n. Q n ⊎ HasRegionFaultBehind p file s.function xs n) (behind_events p file s xs).least
events_tell p file rules [] Q s h =
    same_numbers Q (λ n. Q n ⊎ (⊥ ⊎ ((n ≡ 6) × SplitBehind p s.function []))) (λ n k. inl k)
    (λ n k. either_of k (λ q. q) (λ i. either_of i (λ b. absurd b) (λ j. absurd (none_split p s.function j.1)))) s.least h
events_tell p file rules (x ∷ xs) Q s h =
    let at : Option ℕ = function_on p x.line in
    let t : TellsFunction p x.line at = function_told p x.line rules in
    let own : ℕ → Type 0 = HasFaultWith p file s.function x at in
    let told = in_either (HasEventFault p file x) (λ n. (n ≡ 6) × AreApart s.function at) (event_fault p file x at) (split_fault s.function at) (event_tells p file x at t) (apart_tells s.function at) in
    let now = in_either Q own s.least (lesser (event_fault p file x at) (split_fault s.function at)) h told in
    let next : Findings = with_event p file s x at in
    same_numbers (λ n. (Q n ⊎ own n) ⊎ HasRegionFaultBehind p file next.function xs n) (λ n. Q n ⊎ HasRegionFaultBehind p file s.function (x ∷ xs) n)
    (λ n k. apart_events (split_found p x xs s.function at t) k)
    (λ n k. by_event (split_told p x xs s.function at t) k)
    (behind_events p file next xs).least (events_tell p file rules xs (λ n. Q n ⊎ own n) next now)

behind_both : (p : Source) (file : List ℕ) (s : Findings) (es xs : List LineEvent) → behind_events p file s (es ++ xs) ≡ behind_events p file (behind_events p file s es) xs
behind_both p file s [] xs = refl
behind_both p file s (e ∷ es) xs = behind_both p file (with_event p file s e (function_on p e.line)) es xs

between_tells : (p : Source) (file : List ℕ) → KeepsRules p → (es xs : List LineEvent) → TellsLeast (HasRegionFault p file (between es xs)) (region_fault p file (between es xs))
between_tells p file rules es xs =
    let all : ℕ → Type 0 = HasRegionFault p file (between es xs) in
    subst (λ (z : Findings). TellsLeast all z.least) (behind_both p file no_findings es xs)
    (same_numbers (λ n. ⊥ ⊎ all n) all (λ n k. right_alone k) (λ n k. inr k) (behind_events p file no_findings (es ++ xs)).least
    (events_tell p file rules (es ++ xs) (λ n. ⊥) no_findings (λ n k. k)))

-- Functions

whole_tells : (p : Source) (o : Option ℕ) (t : Option Expression)
    → TellsLeast (λ n. ((n ≡ 4) × IsForeign (params_at p o) t) ⊎ ((n ≡ 10) × (o ≡ None))) (whole_fault p o t)
whole_tells p None t =
    let none : Option ℕ = None in
    pick (TellsLeast (λ n. ((n ≡ 4) × IsForeign [] t) ⊎ ((n ≡ 10) × (none ≡ None)))) (is_foreign [] t) (Some 4) (Some 10)
    (λ e. (inl (refl, foreign_found [] t e), λ m k. either_of k (λ i. let s = i.0 in omega (arith, s)) (λ i. let s = i.0 in omega (arith, s))))
    (λ e. (inr (refl, refl), λ m k. either_of k (λ i. let s = foreign_told [] t i.1 in cc) (λ i. let s = i.0 in omega (arith, s))))
whole_tells p (Some g) t =
    same_numbers (λ n. (n ≡ 4) × IsForeign (params_at p (Some g)) t) (λ n. ((n ≡ 4) × IsForeign (params_at p (Some g)) t) ⊎ ((n ≡ 10) × (Some g ≡ None)))
    (λ n k. inl k) (λ n k. either_of k (λ i. i) (λ i. let s = i.1 in cc))
    (if is_foreign (params_at p (Some g)) t then Some 4 else None) (foreign_tells (params_at p (Some g)) t)

pub region_tells : (p : Source) (file : List ℕ) → KeepsRules p → (r : Region) → TellsLeast (HasRegionFault p file r) (region_fault p file r)
region_tells p file rules (between es xs) = between_tells p file rules es xs
region_tells p file rules (whole f t) = whole_tells p (function_number p f) t

-- Lists of regions

behind_tell : (p : Source) (file : List ℕ) → KeepsRules p → (rs : List Region) (Q : ℕ → Type 0) (least : Option ℕ) → TellsLeast Q least
    → TellsLeast (λ n. Q n ⊎ HasRegionFaults p file rs n) (behind_regions p file least rs)
behind_tell p file rules [] Q least h = same_numbers Q (λ n. Q n ⊎ ⊥) (λ n k. inl k) (λ n k. left_alone k) least h
behind_tell p file rules (r ∷ rs) Q least h =
    let own : ℕ → Type 0 = HasRegionFault p file r in
    let others : ℕ → Type 0 = HasRegionFaults p file rs in
    let fault : Option ℕ = region_fault p file r in
    let told = in_either Q own least fault h (region_tells p file rules r) in
    same_numbers (λ n. (Q n ⊎ own n) ⊎ others n) (λ n. Q n ⊎ (own n ⊎ others n)) (λ n k. put_left k) (λ n k. put_right k)
    (behind_regions p file (lesser least fault) rs) (behind_tell p file rules rs (λ n. Q n ⊎ own n) (lesser least fault) told)

pub regions_tell : (p : Source) (file : List ℕ) → KeepsRules p → (rs : List Region) → TellsLeast (HasRegionFaults p file rs) (behind_regions p file None rs)
regions_tell p file rules rs =
    let all : ℕ → Type 0 = HasRegionFaults p file rs in
    same_numbers (λ n. ⊥ ⊎ all n) all (λ n k. right_alone k) (λ n k. inr k) (behind_regions p file None rs)
    (behind_tell p file rules rs (λ n. ⊥) None (λ n k. k))
