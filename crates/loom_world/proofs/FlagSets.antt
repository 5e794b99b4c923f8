-- The flags of commands as sets of places.
use Rattle.std.proofs.Common.{ℕ, zero, suc, ◌+◌, ◌-◌, ◌≤◌, ◌≡◌, ◌⊎◌, inl, inr, ◌==◌, ◌||◌, Bool, true, false, not, List, [], ◌∷◌, length, get_or, slice_get, Option, Some, None, refl, sym, ap, ◌∙◌, subst, arith}
use Rattle.std.specs.Prelude.{IsTrue, option_map}
use Rattle.std.specs.Option.{option_flatten}
use Rattle.std.proofs.lemmas.Option.{slice_get-map, slice_get_within}
use Rattle.loom_tree.specs.Tree.{Source}
use Rattle.loom_lang.specs.Places.{Place, nowhere, places, place_at}
use Rattle.loom_trace.specs.Places.{has_place}
use Rattle.loom_law.specs.Filter.{Plan}
use Rattle.loom_law.specs.Walk.{Plans}
use Rattle.loom_law.specs.Paths.{IsUnsafe}
use Rattle.loom_law.specs.Control.{means, install, remove}
use Rattle.loom_law.specs.Control as law
use Rattle.loom_law.specs.Lawful.{IsFlaggedBy}
use Rattle.loom_law.proofs.Holdings.{or_cases, or_right, same_number}
use Rattle.loom_law.proofs.Sites.{nowhere_safe}
use Rattle.loom_plan.specs.Compiled.{Compiled}
use Rattle.loom_sites.specs.UnsafePlaces.{AreUnsafe}
use Rattle.loom_version.specs.Plans.{compiled_at, compiled_plan, plans_in}
use Rattle.loom_world.specs.declared.command.Command.{Command}
use Rattle.loom_world.specs.declared.command.Action.{Action}
use Rattle.loom_world.specs.declared.command.Action.TheVariants as action
use Rattle.loom_world.specs.declared.command.Judged.TheVariants as judged
use Rattle.loom_world.specs.CommandView.{law_action, law_command, law_commands, flags_in, flag_sets}
use Rattle.loom_world.specs.CommandFilters.{AreSafePlaces, HasFlagsFor, HaveFlagsFrom, HaveFilters}
use Rattle.loom_world.specs.Commands.{HaveExclusions}
use Rattle.loom_world.specs.Book.{Book, HasFilterPlans}
use Rattle.loom_world.specs.Flags.{AreOtherPlaces, AreAllPlaces, AreNoPlaces, AreFlagsFor, flags_at, HasFlagSets}
use Rattle.loom_world.proofs.CommandReadings.{law_at, law_behind, item_is}

-- Of a filter

not_true : (b : Bool) → not b ≡ true → b ≡ false
not_true true h = cc
not_true false h = refl

no_place : (p : Source) (y : Place) → place_at p 0 ≡ Some y → y ≡ nowhere
no_place p y is = let same : nowhere ≡ y = cc in sym same

-- The places besides the unsafe ones are safe, and place 0 is.
pub safe_places : (p : Source) (f : Plan) (unsafe set : List ℕ) → AreUnsafe p f unsafe → AreOtherPlaces p unsafe set → AreSafePlaces p f set
safe_places p f unsafe set h others q y is = (there, back)
  where
    told : has_place set q ≡ ((q == 0) || not (has_place unsafe q))
    told = others q (slice_get_within (places p) q y is)

    there : has_place set q ≡ true → (y ≡ nowhere) ⊎ (IsUnsafe p f y → ⊥)
    there t = by_cases (or_cases (q == 0) (not (has_place unsafe q)) (sym told ∙ t))
      where
        by_cases : ((q == 0) ≡ true) ⊎ (not (has_place unsafe q) ≡ true) → (y ≡ nowhere) ⊎ (IsUnsafe p f y → ⊥)
        by_cases (inl z) = inl (no_place p y (subst (λ k. place_at p k ≡ Some y) (same_number q 0 z) is))
        by_cases (inr z) = inr (λ bad. let no : true ≡ false = sym ((h.exactly q y is).1 bad) ∙ not_true (has_place unsafe q) z in cc)

    safe : (y ≡ nowhere) ⊎ (IsUnsafe p f y → ⊥) → IsUnsafe p f y → ⊥
    safe (inl z) bad = nowhere_safe p f (subst (IsUnsafe p f) z bad)
    safe (inr z) bad = z bad

    not_there : (IsUnsafe p f y → ⊥) → (b : Bool) → has_place unsafe q ≡ b → not (has_place unsafe q) ≡ true
    not_there z true u = absurd (z ((h.exactly q y is).0 u))
    not_there z false u = ap not u

    back : (y ≡ nowhere) ⊎ (IsUnsafe p f y → ⊥) → has_place set q ≡ true
    back z = told ∙ or_right (q == 0) (not (has_place unsafe q)) (not_there (safe z) (has_place unsafe q) refl)

-- Of commands

flags_of_item : (p : Source) (fs : List (Option Compiled)) (n : ℕ) (cs : List Command) → HaveFlagsFrom p fs n cs → (i : ℕ) (x : Command) → slice_get cs i ≡ Some x
    → HasFlagsFor p (compiled_at fs (i + n)) x.action
flags_of_item p fs n [] h i x is = cc
flags_of_item p fs n (c ∷ cs) h zero x is =
    let same : c ≡ x = cc in
    let first : n ≡ 0 + n = omega arith in
    subst (λ m. HasFlagsFor p (compiled_at fs m) x.action) first (subst (λ (z : Command). HasFlagsFor p (compiled_at fs n) z.action) same h.0)
flags_of_item p fs n (c ∷ cs) h (suc i) x is =
    let next : i + suc n ≡ suc i + n = omega arith in
    subst (λ m. HasFlagsFor p (compiled_at fs m) x.action) next (flags_of_item p fs (suc n) cs h.1 i x is)

-- of a command of the list, by its number
pub item_flags : (p : Source) (fs : List (Option Compiled)) (cs : List Command) → HaveFlagsFrom p fs 1 cs → (i : ℕ) (x : Command) → slice_get cs i ≡ Some x
    → HasFlagsFor p (compiled_at fs (suc i)) x.action
item_flags p fs cs h i x is = let next : i + 1 ≡ suc i = omega arith in subst (λ m. HasFlagsFor p (compiled_at fs m) x.action) next (flags_of_item p fs 1 cs h i x is)

pub law_item : (ps : Plans) (cs : List Command) (i : ℕ) (x : Command) → slice_get cs i ≡ Some x → law.command_at (law_commands ps cs) (suc i) ≡ Some (law_command (ps (suc i)) x)
law_item ps cs i x is = let next : i + 1 ≡ suc i = omega arith in law_at ps 1 cs i x is ∙ ap (λ m. Some (law_command (ps m) x)) next

-- the command that puts a filter in
record PutsIn (ps : Plans) (cs : List Command) (i : ℕ) (f : Plan) : Type 0 where
  item : Command
  is : slice_get cs i ≡ Some item
  set : List ℕ
  flags : item.action ≡ action.Install (judged.Flags set)

puts_action : (f : Plan) (g : Plan) (x : Action) → law_action f x ≡ install (means g) → (set : List ℕ) × (x ≡ action.Install (judged.Flags set))
puts_action f g (action.Install (judged.Flags set)) is = (set, refl)
puts_action f g (action.Install (judged.Refused r)) is = cc
puts_action f g action.Remove is = cc

puts_in : (ps : Plans) (cs : List Command) (i : ℕ) (c : law.Command) (f : Plan) → law.command_at (law_commands ps cs) (suc i) ≡ Some c → c.action ≡ install (means f) → PutsIn ps cs i f
puts_in ps cs i c f is installs =
    let x = law_behind ps 1 cs i c is in
    let does : law_action (ps (i + 1)) x.0.action ≡ install (means f) = ap (λ (z : law.Command). z.action) x.1.1 ∙ installs in
    let y = puts_action (ps (i + 1)) f x.0.action does in
    record { item = x.0; is = x.1.0; set = y.0; flags = y.1 }

-- its set
flags_item : (cs : List Command) (i : ℕ) (x : Command) → slice_get cs i ≡ Some x → flags_at (flag_sets cs) (suc i) ≡ flags_in x.action
flags_item cs i x is = ap option_flatten (slice_get-map (λ (c : Command). flags_in c.action) cs i ∙ ap (option_map (λ (c : Command). flags_in c.action)) is)

pub flags_read : (cs : List Command) (k : ℕ) (x : Command) → 1 ≤ k → k ≤ length cs → x ≡ get_or cs (k - 1) x → flags_at (flag_sets cs) k ≡ flags_in x.action
flags_read cs k x first last is =
    let next : suc (k - 1) ≡ k = omega (arith, first) in
    subst (λ z. flags_at (flag_sets cs) z ≡ flags_in x.action) next (flags_item cs (k - 1) x (item_is cs k x first last is))

-- and who has a set
record HasSet (cs : List Command) (i : ℕ) (set : List ℕ) : Type 0 where
  item : Command
  is : slice_get cs i ≡ Some item
  flags : flags_in item.action ≡ Some set

has_set : (cs : List Command) (i : ℕ) (set : List ℕ) → flags_at (flag_sets cs) (suc i) ≡ Some set → HasSet cs i set
has_set cs i set h = by_slot (slice_get cs i) refl
  where
    by_slot : (o : Option Command) → slice_get cs i ≡ o → HasSet cs i set
    by_slot None is =
        let none : flags_at (flag_sets cs) (suc i) ≡ None = ap option_flatten (slice_get-map (λ (c : Command). flags_in c.action) cs i ∙ ap (option_map (λ (c : Command). flags_in c.action)) is) in
        let no : None ≡ Some set = sym none ∙ h in cc
    by_slot (Some x) is = record { item = x; is = is; flags = sym (flags_item cs i x is) ∙ h }

-- Flags of a command that puts a filter in

flags_for_install : (p : Source) (f : Plan) (o : Option law.Command) (x : Command) (set s : List ℕ) → o ≡ Some (law_command f x) → x.action ≡ action.Install (judged.Flags s) → AreSafePlaces p f set
    → (q : ℕ) (y : Place) → place_at p q ≡ Some y → (IsTrue (has_place set q) → IsFlaggedBy p o y) × (IsFlaggedBy p o y → IsTrue (has_place set q))
flags_for_install p f o x set s is installs safe q y at_q =
    let same : o ≡ Some (record { trigger = law.Command.trigger (law_command f x); name = x.name; action = install (means f) }) = is ∙ ap (λ z. Some (record { trigger = law.Command.trigger (law_command f x); name = x.name; action = law_action f z })) installs in
    let both = safe q y at_q in
    (λ t. subst (λ z. IsFlaggedBy p z y) (sym same) (both.0 t), λ h. both.1 (subst (λ z. IsFlaggedBy p z y) same h))

set_is : (x : Action) (set : List ℕ) → flags_in x ≡ Some set → x ≡ action.Install (judged.Flags set)
set_is (action.Install (judged.Flags s)) set h = let same : s ≡ set = cc in ap (λ z. action.Install (judged.Flags z)) same
set_is (action.Install (judged.Refused r)) set h = cc
set_is action.Remove set h = cc

-- its filter, and the set
filter_of : (p : Source) (o : Option Compiled) (x : Action) (set : List ℕ) → HasFlagsFor p o x → x ≡ action.Install (judged.Flags set) → (c : Compiled) × ((o ≡ Some c) × AreSafePlaces p c.plan set)
filter_of p o x set h is = subst (HasFlagsFor p o) is h

pub flags_here : (b : Book) (fs : List (Option Compiled)) (cs : List Command) → b.filters ≡ fs → b.commands ≡ law_commands (plans_in fs) cs → HaveFilters b.program fs cs
    → (k : ℕ) (set : List ℕ) → flags_at (flag_sets cs) k ≡ Some set → AreFlagsFor b k set
flags_here b fs cs filters all h zero set is q y at_q = cc
flags_here b fs cs filters all h (suc i) set is q y at_q =
    let x = has_set cs i set is in
    let does : x.item.action ≡ action.Install (judged.Flags set) = set_is x.item.action set x.flags in
    let f = filter_of b.program (compiled_at fs (suc i)) x.item.action set (item_flags b.program fs cs h.flags i x.item x.is) does in
    let plan : plans_in fs (suc i) ≡ f.0.plan = ap compiled_plan f.1.0 in
    let safe : AreSafePlaces b.program (plans_in fs (suc i)) set = subst (λ g. AreSafePlaces b.program g set) (sym plan) f.1.1 in
    flags_for_install b.program (plans_in fs (suc i)) (law.command_at b.commands (suc i)) x.item set set (ap (λ ds. law.command_at ds (suc i)) all ∙ law_item (plans_in fs) cs i x.item x.is) does safe q y at_q

-- The sets that a new book has.
pub have_sets : (b : Book) (fs : List (Option Compiled)) (cs : List Command) (every none : List ℕ) → b.filters ≡ fs → b.commands ≡ law_commands (plans_in fs) cs → HaveFilters b.program fs cs
    → AreAllPlaces b.program every → AreNoPlaces none → HasFlagSets b (flag_sets cs) every none
have_sets b fs cs every none filters all h whole empty = record { each = flags_here b fs cs filters all h; there = there; all = whole; none = empty }
  where
    there : (k : ℕ) (c : law.Command) (f : Plan) → law.command_at b.commands k ≡ Some c → c.action ≡ install (means f) → (set : List ℕ) × (flags_at (flag_sets cs) k ≡ Some set)
    there zero c f is installs = cc
    there (suc i) c f is installs =
        let x = puts_in (plans_in fs) cs i c f (sym (ap (λ ds. law.command_at ds (suc i)) all) ∙ is) installs in
        (x.set, flags_item cs i x.item x.is ∙ ap flags_in x.flags)

-- and its filters
pub have_plans : (b : Book) (fs : List (Option Compiled)) (cs : List Command) → b.filters ≡ fs → b.commands ≡ law_commands (plans_in fs) cs → HaveFilters b.program fs cs
    → HaveExclusions b.program b.commands → HasFilterPlans b
have_plans b fs cs filters all h exclusions = record {
  filters = λ k c is. h.filters k c (sym (ap (λ zs. compiled_at zs k) filters) ∙ is);
  same = λ k. ap (λ zs. plans_in zs k) filters ∙ (h.same k ∙ sym (ap (λ ds. law.plans_of ds k) all));
  there = there;
  exclusions = exclusions;
}
  where
    there : (k : ℕ) (c : law.Command) (f : Plan) → law.command_at b.commands k ≡ Some c → c.action ≡ install (means f) → (x : Compiled) × (compiled_at b.filters k ≡ Some x)
    there zero c f is installs = cc
    there (suc i) c f is installs =
        let x = puts_in (plans_in fs) cs i c f (sym (ap (λ ds. law.command_at ds (suc i)) all) ∙ is) installs in
        let g = filter_of b.program (compiled_at fs (suc i)) x.item.action x.set (item_flags b.program fs cs h.flags i x.item x.is) x.flags in
        (g.0, ap (λ zs. compiled_at zs (suc i)) filters ∙ g.1.0)

-- For a removal each place is flagged.
pub flags_for_removal : (b : Book) (k : ℕ) (f : Plan) (x : Command) (every : List ℕ) → law.command_at b.commands k ≡ Some (law_command f x) → x.action ≡ action.Remove → AreAllPlaces b.program every
    → AreFlagsFor b k every
flags_for_removal b k f x every is removes whole q y at_q =
    let same : law.command_at b.commands k ≡ Some (record { trigger = law.Command.trigger (law_command f x); name = x.name; action = remove }) = is ∙ ap (λ z. Some (record { trigger = law.Command.trigger (law_command f x); name = x.name; action = law_action f z })) removes in
    (λ t. subst (λ z. IsFlaggedBy b.program z y) (sym same) tt, λ h. whole q (slice_get_within (places b.program) q y at_q))
