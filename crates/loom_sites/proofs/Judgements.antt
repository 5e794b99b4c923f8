-- From what is told of the text of a filter, of its names and of its paths to its judgement.
use Rattle.std.proofs.Common.{ℕ, ◌≡◌, List, Err, inl, inr, subst}
use Rattle.loom_tree.specs.Tree.{Source}
use Rattle.loom_command.specs.Filter.{Filter}
use Rattle.loom_command.specs.FilterFault.{IsFilter}
use Rattle.loom_filter.specs.declared.parse.FilterRefusal.{FilterRefusal}
use Rattle.loom_filter.specs.declared.parse.FilterError.{FilterError}
use Rattle.loom_filter.specs.declared.parse.FilterError.TheVariants as e
use Rattle.loom_filter.specs.FilterError.{fault_of, TellsFilter}
use Rattle.loom_law.specs.Filter.{Plan}
use Rattle.loom_law.specs.FilterRefusal.{IsPathFault}
use Rattle.loom_law.specs.Control.{refused, means}
use Rattle.loom_law.specs.Judgement.{IsFirst, HasNone, IsJudged}
use Rattle.loom_plan.specs.Compiled.{Compiled}
use Rattle.loom_plan.specs.Resolution.{IsCompiled, TellsCompiled}
use Rattle.loom_sites.specs.UnsafePlaces.{TellsPlaces}

-- Nothing refuses it.
pub nothing_refuses : (p : Source) (file text : List ℕ) (f : Filter) (c : Compiled) → IsFilter text f → IsCompiled p file f c → HasNone (IsPathFault p c.plan)
    → IsJudged p file text (means c.plan)
nothing_refuses p file text f c is told none =
    let P : Plan → Type 0 = λ z. HasNone (IsPathFault p z) in
    record { filter = f; is = is; names = told.names; paths = subst P told.plan none; plan = told.plan }

-- the text is no filter
pub text_refuses : (p : Source) (file text : List ℕ) (x : FilterError) (r : FilterRefusal) → x ≡ e.Refused r → TellsFilter text (Err x) → IsJudged p file text (refused r.number r.clause)
text_refuses p file text x r same h =
    let P : FilterError → Type 0 = λ z. TellsFilter text (Err z) in
    inl (subst P same h)

-- what it names isn't there
pub names_refuse : (p : Source) (file text : List ℕ) (f : Filter) (x : FilterError) (r : FilterRefusal) → x ≡ e.Refused r → IsFilter text f → TellsCompiled p file f (Err x)
    → IsJudged p file text (refused r.number r.clause)
names_refuse p file text f x r same is h =
    let P : FilterError → Type 0 = λ z. TellsCompiled p file f (Err z) in
    inr (record { filter = f; is = is; fault = inl (subst P same h) })

-- its paths don't allow it
pub paths_refuse : (p : Source) (file text : List ℕ) (f : Filter) (c : Compiled) (x : FilterError) (r : FilterRefusal) → x ≡ e.Refused r → IsFilter text f → IsCompiled p file f c
    → TellsPlaces p c.plan (Err x) → IsJudged p file text (refused r.number r.clause)
paths_refuse p file text f c x r same is told h =
    let P : FilterError → Type 0 = λ z. TellsPlaces p c.plan (Err z) in
    let Q : Plan → Type 0 = λ z. IsFirst (IsPathFault p z) (fault_of r) in
    inr (record { filter = f; is = is; fault = inr (told.names, subst Q told.plan (subst P same h)) })
