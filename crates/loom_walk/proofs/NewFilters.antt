-- What the new filters of a version make a thread do, which holds nothing of them.
use Rattle.std.proofs.Common.{ℕ, ◌<◌, ◌≡◌, Bool, true, false, not, ◌&&◌, ◌||◌, List, [], ◌∷◌, ◌++◌, length, take, drop, ◌-◌, ℤ, Option, Some, None, refl, sym, ap, subst, ◌∙◌, if◌then◌else◌}
use Rattle.std.specs.Prelude.{◌==◌}
use Rattle.std.specs.List.{filter, list_any}
use Rattle.std.proofs.Math.Seq.{drop-append_seam, take-length}
use Rattle.std.proofs.lemmas.List.{length-drop}
use Rattle.std.proofs.lemmas.Bool.{eq-eqb, eqb-true}
use Rattle.std.proofs.lemmas.Option.{slice_get_within}
use Rattle.loom_tree.specs.Tree.{Source}
use Rattle.loom_lang.specs.Places.{Place, places, place_at}
use Rattle.loom_lang.specs.Places as place
use Rattle.loom_lang.specs.Trace.{Locals}
use Rattle.loom_flow.specs.State.{named}
use Rattle.loom_law.specs.Filter.{Site, statement, function, Ruling, Plan, has, matching, clauses}
use Rattle.loom_law.specs.Walk.{Plans, enters, at, Spot, elsewhere, beginning, entered, complete, left, trapped, Queue, holds, begins_in, owed_waits, owed_enters, owed_by, owed_at, function_line, still_owed, new_filters, owed_fresh, owed_behind_cross}
use Rattle.loom_plan.specs.Compiled.{Compiled}
use Rattle.loom_plan.specs.PlaceEvents.{names_at, site_at}
use Rattle.loom_plan.specs.Sets.{clause_numbers}
use Rattle.loom_walk.specs.declared.clause_rows.ClauseRow.{ClauseRow}
use Rattle.loom_walk.specs.declared.spot.Spot.{Spot as ShortSpot}
use Rattle.loom_walk.specs.declared.spot.Spot.TheVariants as s
use Rattle.loom_walk.specs.ClauseRows.{filters_of, clauses_at, AreHoldings, holdings_of}
use Rattle.loom_walk.specs.Growth.{AreThere, HasPlace}
use Rattle.loom_walk.specs.FilterWalk.{IsSpot, IsOwedLine, HasLocalsAt, HasNewBehind, begin_place}

-- Numbers in lists

either_false : (a b : Bool) → (a || b) ≡ false → (a ≡ false) × (b ≡ false)
either_false true b h = absurd cc
either_false false b h = (refl, h)

or_here : (a b : Bool) → a ≡ true → (a || b) ≡ true
or_here true b e = refl
or_here false b e = cc

or_there : (a b : Bool) → b ≡ true → (a || b) ≡ true
or_there true b e = refl
or_there false b e = e

pub has_first : (k : ℕ) (ks : List ℕ) → has (k ∷ ks) k ≡ true
has_first k ks = or_here (k == k) (has ks k) (eq-eqb k k refl)

pub has_rest : (k j : ℕ) (ks : List ℕ) → has ks j ≡ true → has (k ∷ ks) j ≡ true
has_rest k j ks h = or_there (k == j) (has ks j) h

-- a number that passed a test
passed_first : (test : ℕ → Bool) (k j : ℕ) (a b : Bool) → test k ≡ true → (a ≡ true → k ≡ j) → (b ≡ true → test j ≡ true) → (a || b) ≡ true → test j ≡ true
passed_first test k j true b t same rest g = subst (λ (n : ℕ). test n ≡ true) (same refl) t
passed_first test k j false b t same rest g = rest g

passed_step : (test : ℕ → Bool) (k : ℕ) (ks : List ℕ) (j : ℕ) (b : Bool) → test k ≡ b → (has (filter test ks) j ≡ true → test j ≡ true)
    → has (if b then k ∷ filter test ks else filter test ks) j ≡ true → test j ≡ true
passed_step test k ks j true t ih g = passed_first test k j (k == j) (has (filter test ks) j) t (λ e. eqb-true k j e) ih g
passed_step test k ks j false t ih g = ih g

has_passed : (test : ℕ → Bool) (ks : List ℕ) (j : ℕ) → has (filter test ks) j ≡ true → test j ≡ true
has_passed test [] j h = absurd cc
has_passed test (k ∷ ks) j h = passed_step test k ks j (test k) refl (λ m. has_passed test ks j m) h

new_is_new : (old ks : List ℕ) (k : ℕ) → has (new_filters old ks) k ≡ true → has old k ≡ false
new_is_new old ks k h = by (has old k) (has_passed (λ (j : ℕ). not (has old j)) ks k h)
  where
    by : (b : Bool) → not b ≡ true → b ≡ false
    by true e = cc
    by false e = refl

-- Nothing is held of a filter that has no row

no_clauses : (rs : List ClauseRow) (k : ℕ) → has (filters_of rs) k ≡ false → clauses_at rs k ≡ []
no_clauses [] k h = refl
no_clauses (r ∷ rs) k h =
    let both = either_false (r.filter == k) (has (filters_of rs) k) h in
    ap (λ (b : Bool). if b then clause_numbers r.clauses else clauses_at rs k) both.0 ∙ no_clauses rs k both.1

none_of_part : (test cut : ℕ × ℕ → Bool) (hs : List (ℕ × ℕ)) → list_any test hs ≡ false → list_any test (filter cut hs) ≡ false
none_of_part test cut [] h = refl
none_of_part test cut (x ∷ hs) h =
    let both = either_false (test x) (list_any test hs) h in
    by (cut x) both.0 (none_of_part test cut hs both.1)
  where
    either : (a b : Bool) → a ≡ false → b ≡ false → (a || b) ≡ false
    either true b e g = e
    either false b e g = g

    by : (b : Bool) → test x ≡ false → list_any test (filter cut hs) ≡ false → list_any test (if b then x ∷ filter cut hs else filter cut hs) ≡ false
    by true e g = either (test x) (list_any test (filter cut hs)) e g
    by false e g = g

pub new_free : (rs : List ClauseRow) (hs : List (ℕ × ℕ)) (old ks : List ℕ) → filters_of rs ≡ old → AreHoldings rs hs
    → (k c : ℕ) → has (new_filters old ks) k ≡ true → holds (holdings_of ks hs) k c ≡ false
new_free rs hs old ks rows h k c new =
    let gone : has (filters_of rs) k ≡ false = ap (λ (js : List ℕ). has js k) rows ∙ new_is_new old ks k new in
    let free : holds hs k c ≡ false = h k c ∙ ap (λ (js : List ℕ). has js c) (no_clauses rs k gone) in
    none_of_part (λ (x : ℕ × ℕ). (x.0 == k) && (x.1 == c)) (λ (x : ℕ × ℕ). has ks x.0) hs free

-- The same is owed by filters of which the same is held

enters_alike : (hs gs : List (ℕ × ℕ)) (k l : ℕ) (ns : List ℕ) (cs : List (ℕ × Ruling)) (more rest : Queue) → ((c : ℕ) → holds hs k c ≡ holds gs k c) → more ≡ rest
    → owed_enters hs k l ns cs more ≡ owed_enters gs k l ns cs rest
enters_alike hs gs k l ns [] more rest same e = e
enters_alike hs gs k l ns (c ∷ cs) more rest same e =
    ap (λ (b : Bool). if begins_in c.1 ns && not b then (l, enters k c.0) ∷ owed_enters hs k l ns cs more else owed_enters hs k l ns cs more) (same c.0)
    ∙ ap (λ (q : Queue). if begins_in c.1 ns && not (holds gs k c.0) then (l, enters k c.0) ∷ q else q) (enters_alike hs gs k l ns cs more rest same e)

by_alike : (f : Plan) (hs gs : List (ℕ × ℕ)) (k l : ℕ) (ns : List ℕ) (more rest : Queue) → ((c : ℕ) → holds hs k c ≡ holds gs k c) → more ≡ rest
    → owed_by f k hs l ns more ≡ owed_by f k gs l ns rest
by_alike f hs gs k l [] more rest same e = e
by_alike f hs gs k l (n ∷ ns) more rest same e =
    ap (owed_waits f k l (n ∷ ns))
    (enters_alike hs gs k l (n ∷ ns) (clauses f) ((l, at k (n ∷ ns)) ∷ more) ((l, at k (n ∷ ns)) ∷ rest) same (ap (λ (q : Queue). (l, at k (n ∷ ns)) ∷ q) e))

at_alike : (plans : Plans) (hs gs : List (ℕ × ℕ)) (l : ℕ) (site : Site) (env : Locals) (ks : List ℕ) → ((k c : ℕ) → has ks k ≡ true → holds hs k c ≡ holds gs k c)
    → owed_at plans hs l site env ks ≡ owed_at plans gs l site env ks
at_alike plans hs gs l site env [] same = refl
at_alike plans hs gs l site env (k ∷ ks) same =
    by_alike (plans k) hs gs k l (matching (plans k) site env) _ _ (λ c. same k c (has_first k ks))
    (at_alike plans hs gs l site env ks (λ j c m. same j c (has_rest k j ks m)))

-- At a beginning

-- what is owed there with these clauses, on this line
abbrev pub IsOwedThere : Source → Plans → List ℤ → List (ℕ × ℕ) → List ℕ → ℕ → Queue → ℕ → Type 0
IsOwedThere p plans vs hs ks l q n = (x : Place) (site : Site) → place_at p n ≡ Some x → site_at x ≡ Some site → q ≡ owed_at plans hs l site (named (names_at p n) vs) ks

fresh_statement : (p : Source) (plans : Plans) (vs : List ℤ) (hs : List (ℕ × ℕ)) (ks : List ℕ) (l m n : ℕ) (env : Locals) (q : Queue) → place_at p n ≡ Some (place.inside m)
    → env ≡ named (names_at p n) vs → l ≡ m → ((k c : ℕ) → has ks k ≡ true → holds hs k c ≡ false) → IsOwedThere p plans vs hs ks l q n
    → q ≡ owed_at plans [] m (statement m) env ks
fresh_statement p plans vs hs ks l m n env q there own line free f =
    f (place.inside m) (statement m) there refl
    ∙ (at_alike plans hs [] l (statement m) (named (names_at p n) vs) ks free
    ∙ (ap (λ (e : Locals). owed_at plans [] l (statement m) e ks) (sym own) ∙ ap (λ (i : ℕ). owed_at plans [] i (statement m) env ks) line))

fresh_frame : (p : Source) (plans : Plans) (vs : List ℤ) (hs : List (ℕ × ℕ)) (ks : List ℕ) (l g n : ℕ) (env : Locals) (q : Queue) → place_at p n ≡ Some (place.entry g)
    → env ≡ named (names_at p n) vs → l ≡ function_line p g → ((k c : ℕ) → has ks k ≡ true → holds hs k c ≡ false) → IsOwedThere p plans vs hs ks l q n
    → q ≡ owed_at plans [] (function_line p g) (function (Some g)) env ks
fresh_frame p plans vs hs ks l g n env q there own line free f =
    f (place.entry g) (function (Some g)) there refl
    ∙ (at_alike plans hs [] l (function (Some g)) (named (names_at p n) vs) ks free
    ∙ (ap (λ (e : Locals). owed_at plans [] l (function (Some g)) e ks) (sym own) ∙ ap (λ (i : ℕ). owed_at plans [] i (function (Some g)) env ks) line))

same_place : (i n : ℕ) → Some i ≡ Some n → n ≡ i
same_place i n e = cc

pub fresh_begun : (p : Source) (plans : Plans) (spot : ShortSpot) (here : Spot) (vs : List ℤ) (hs : List (ℕ × ℕ)) (ks : List ℕ) (l n : ℕ) (q : Queue) → begin_place spot ≡ Some n
    → IsSpot p spot here → HasLocalsAt p spot vs here → IsOwedLine p spot l → ((k c : ℕ) → has ks k ≡ true → holds hs k c ≡ false) → IsOwedThere p plans vs hs ks l q n
    → q ≡ owed_fresh p plans here ks
fresh_begun p plans (s.Beginning line i) (beginning m env) vs hs ks l n q e h own at_line free f =
    fresh_statement p plans vs hs ks l m i env q h.1 own (at_line ∙ h.0) free (subst (IsOwedThere p plans vs hs ks l q) (same_place i n e) f)
fresh_begun p plans (s.Entered i) (entered g env) vs hs ks l n q e h own at_line free f =
    fresh_frame p plans vs hs ks l g i env q h own (at_line g h) free (subst (IsOwedThere p plans vs hs ks l q) (same_place i n e) f)
fresh_begun p plans (s.Beginning line i) elsewhere vs hs ks l n q e h own at_line free f = absurd h
fresh_begun p plans (s.Beginning line i) (entered g env) vs hs ks l n q e h own at_line free f = absurd h
fresh_begun p plans (s.Beginning line i) (complete m) vs hs ks l n q e h own at_line free f = absurd h
fresh_begun p plans (s.Beginning line i) (left g is) vs hs ks l n q e h own at_line free f = absurd h
fresh_begun p plans (s.Beginning line i) (trapped m) vs hs ks l n q e h own at_line free f = absurd h
fresh_begun p plans (s.Entered i) elsewhere vs hs ks l n q e h own at_line free f = absurd h
fresh_begun p plans (s.Entered i) (beginning m env) vs hs ks l n q e h own at_line free f = absurd h
fresh_begun p plans (s.Entered i) (complete m) vs hs ks l n q e h own at_line free f = absurd h
fresh_begun p plans (s.Entered i) (left g is) vs hs ks l n q e h own at_line free f = absurd h
fresh_begun p plans (s.Entered i) (trapped m) vs hs ks l n q e h own at_line free f = absurd h
fresh_begun p plans s.Elsewhere here vs hs ks l n q e h own at_line free f = absurd cc
fresh_begun p plans (s.Complete line) here vs hs ks l n q e h own at_line free f = absurd cc
fresh_begun p plans (s.Left func) here vs hs ks l n q e h own at_line free f = absurd cc
fresh_begun p plans (s.Trapped line) here vs hs ks l n q e h own at_line free f = absurd cc

-- and elsewhere
pub fresh_nothing : (p : Source) (plans : Plans) (spot : ShortSpot) (here : Spot) (ks : List ℕ) → begin_place spot ≡ None → IsSpot p spot here → [] ≡ owed_fresh p plans here ks
fresh_nothing p plans spot elsewhere ks e h = refl
fresh_nothing p plans spot (complete l) ks e h = refl
fresh_nothing p plans spot (left f is) ks e h = refl
fresh_nothing p plans spot (trapped l) ks e h = refl
fresh_nothing p plans (s.Beginning line i) (beginning m env) ks e h = absurd cc
fresh_nothing p plans (s.Entered i) (beginning m env) ks e h = absurd h
fresh_nothing p plans s.Elsewhere (beginning m env) ks e h = absurd h
fresh_nothing p plans (s.Complete line) (beginning m env) ks e h = absurd h
fresh_nothing p plans (s.Left func) (beginning m env) ks e h = absurd h
fresh_nothing p plans (s.Trapped line) (beginning m env) ks e h = absurd h
fresh_nothing p plans (s.Entered i) (entered g env) ks e h = absurd cc
fresh_nothing p plans (s.Beginning line i) (entered g env) ks e h = absurd h
fresh_nothing p plans s.Elsewhere (entered g env) ks e h = absurd h
fresh_nothing p plans (s.Complete line) (entered g env) ks e h = absurd h
fresh_nothing p plans (s.Left func) (entered g env) ks e h = absurd h
fresh_nothing p plans (s.Trapped line) (entered g env) ks e h = absurd h

-- Behind the crossing

pub owed_across : (p : Source) (plans : Plans) (here : Spot) (old ks : List ℕ) (q m x : Queue) → x ≡ still_owed ks q ++ m → (q ≡ [] → m ≡ [])
    → ((q ≡ [] → ⊥) → m ≡ owed_fresh p plans here (new_filters old ks)) → x ≡ owed_behind_cross p plans here old ks q
owed_across p plans here old ks [] m x e none some = e ∙ none refl
owed_across p plans here old ks (o ∷ os) m x e none some = e ∙ ap (λ (r : Queue). still_owed ks (o ∷ os) ++ r) (some (λ (g : o ∷ os ≡ []). cc))

-- the new filters of a version stand behind those that stay
pub new_part : (old ks : List ℕ) (n : ℕ) → HasNewBehind old ks → n ≡ length (filter (has ks) old) → drop n ks ≡ new_filters old ks
new_part old ks n h e =
    ap (λ (i : ℕ). drop i ks) e
    ∙ (ap (drop (length (filter (has ks) old))) h ∙ drop-append_seam (filter (has ks) old) (new_filters old ks))

-- a list from a position on, as it is cut
pub rest_is : (xs : List ℕ) (n : ℕ) → take (length xs - n) (drop n xs) ≡ drop n xs
rest_is xs n = ap (λ (m : ℕ). take m (drop n xs)) (sym (length-drop n xs)) ∙ take-length (drop n xs)

-- Places

pub have_place : (p : Source) (cs : List (Option Compiled)) (ks : List ℕ) (n : ℕ) (x : Place) → AreThere p cs ks → place_at p n ≡ Some x
    → (k : ℕ) → has ks k ≡ true → HasPlace cs k n
have_place p cs ks n x all there k own =
    let c = all k own in
    let within : n < length (places p) = slice_get_within (places p) n x there in
    (c.0, (c.1.0, subst (λ (q : Source). n < length (places q)) (sym c.1.1) within))

-- the place of a beginning
pub begin_there : (p : Source) (spot : ShortSpot) (here : Spot) (n : ℕ) → begin_place spot ≡ Some n → IsSpot p spot here → (x : Place) × (place_at p n ≡ Some x)
begin_there p (s.Beginning line i) (beginning m env) n e h = (place.inside m, subst (λ (j : ℕ). place_at p j ≡ Some (place.inside m)) (sym (same_place i n e)) h.1)
begin_there p (s.Entered i) (entered g env) n e h = (place.entry g, subst (λ (j : ℕ). place_at p j ≡ Some (place.entry g)) (sym (same_place i n e)) h)
begin_there p (s.Beginning line i) elsewhere n e h = absurd h
begin_there p (s.Beginning line i) (entered g env) n e h = absurd h
begin_there p (s.Beginning line i) (complete m) n e h = absurd h
begin_there p (s.Beginning line i) (left g is) n e h = absurd h
begin_there p (s.Beginning line i) (trapped m) n e h = absurd h
begin_there p (s.Entered i) elsewhere n e h = absurd h
begin_there p (s.Entered i) (beginning m env) n e h = absurd h
begin_there p (s.Entered i) (complete m) n e h = absurd h
begin_there p (s.Entered i) (left g is) n e h = absurd h
begin_there p (s.Entered i) (trapped m) n e h = absurd h
begin_there p s.Elsewhere here n e h = absurd cc
begin_there p (s.Complete line) here n e h = absurd cc
begin_there p (s.Left func) here n e h = absurd cc
begin_there p (s.Trapped line) here n e h = absurd cc

-- new filters are filters of the version
either_more : (a b c : Bool) → (b ≡ true → c ≡ true) → (a || b) ≡ true → (a || c) ≡ true
either_more true b c f m = refl
either_more false b c f m = f m

part_step : (test : ℕ → Bool) (x : ℕ) (xs : List ℕ) (j : ℕ) (b : Bool) → (has (filter test xs) j ≡ true → has xs j ≡ true)
    → has (if b then x ∷ filter test xs else filter test xs) j ≡ true → ((x == j) || has xs j) ≡ true
part_step test x xs j true ih m = either_more (x == j) (has (filter test xs) j) (has xs j) ih m
part_step test x xs j false ih m = or_there (x == j) (has xs j) (ih m)

part_has : (test : ℕ → Bool) (xs : List ℕ) (j : ℕ) → has (filter test xs) j ≡ true → has xs j ≡ true
part_has test [] j g = g
part_has test (x ∷ xs) j g = part_step test x xs j (test x) (λ m. part_has test xs j m) g

pub new_among : (old ks : List ℕ) (k : ℕ) → HasNewBehind old ks → has (new_filters old ks) k ≡ true → has ks k ≡ true
new_among old ks k h own = part_has (λ (j : ℕ). not (has old j)) ks k own
