-- A thread that owes the entrance to a clause may be told as blocked there.
use Rattle.std.proofs.Common.{ℕ, ◌≡◌, false, List, [], ◌∷◌, ◌++◌, refl, sym, ap, subst, ◌∙◌}
use Rattle.loom_tree.specs.Tree.{Source}
use Rattle.loom_lang.specs.Trace.{Item, IsTrace}
use Rattle.loom_trace.specs.declared.entry.Entry.TheVariants as e
use Rattle.loom_trace.specs.declared.entry.What.TheVariants as w
use Rattle.loom_law.specs.Walk.{Plans, Operation, enters, leave, blocked, PartStep, makes, items, filter_entries, Walk, unborn, walk_from, Owes, AreWoven}
use Rattle.loom_law.specs.ThreadPart.{Own, IsPart, with_entry, AsksToMake}
use Rattle.loom_law.specs.TurnLaws.{blocked_behind, ends_blocked}
use Rattle.loom_law.proofs.OnePart.{told_append, same_front}
use Rattle.loom_law.proofs.Earlier.{items_ahead, woven_front}
use Rattle.loom_law.proofs.Turns.{stands_there}
use Rattle.loom_law.proofs.Answers.{walk_append, woven_last}
use Rattle.loom_law.proofs.Makings.{OpPart, cut_part, walk_blocked}

-- What stands before an operation that a thread asks for: it owes that.
pub record OwesNext (p : Source) (ps : Plans) (x : Own) (l : ℕ) (o : Operation) : Type 0 where
  pub part : IsPart p ps x
  pub owes : Owes (walk_from p ps (unborn x.versions) part.steps).owed l o

pub owed_blocks : (p : Source) (ps : Plans) (x : Own) (l k c : ℕ) → AsksToMake p ps x l (enters k c) → ends_blocked x.entries ≡ false → AsksToMake p ps x l (blocked (w.Enter k c))
owed_blocks p ps x l k c h free =
    let t : ℕ = x.thread in
    let z : Walk = unborn x.versions in
    let o : OpPart p ps (with_entry x (e.Enter t l k c)) l (enters k c) = cut_part p ps (with_entry x (e.Enter t l k c)) x.entries l (enters k c) refl h in
    let before : List PartStep = o.before in
    let ahead : List Item = o.part.ahead in
    let was : List PartStep = makes l (enters k c) ∷ [] in
    let now : List PartStep = makes l (blocked (w.Enter k c)) ∷ [] in
    let woven : AreWoven p ps z (before ++ was) ahead = subst (λ ss. AreWoven p ps z ss ahead) o.last o.part.woven in
    let trace : IsTrace p x.func x.args (items (before ++ was) ++ ahead) o.part.outcome = subst (λ ss. IsTrace p x.func x.args (items ss ++ ahead) o.part.outcome) o.last o.part.trace in
    let front : AreWoven p ps z before ahead = woven_front p ps z before was ahead woven in
    let owes : Owes (walk_from p ps z before).owed l (enters k c) = stands_there p ps z before (makes l (enters k c)) [] ahead woven in
    let told : filter_entries t before ++ e.Enter t l k c ∷ [] ≡ x.entries ++ e.Enter t l k c ∷ [] =
    sym (told_append t before was) ∙ (sym (ap (filter_entries t) o.last) ∙ o.part.tells) in
    let same : filter_entries t before ≡ x.entries = same_front (filter_entries t before) x.entries (e.Enter t l k c) (e.Enter t l k c) told in
    let not_yet : Walk.is_blocked (walk_from p ps z before) ≡ false = walk_blocked p ps t z before ahead front ∙ (ap (blocked_behind false) same ∙ free) in
    let coming : Walk.coming (walk_from p ps z before) ≡ [] =
    sym (ap (λ y. Walk.coming y) (walk_append p ps z before was)) ∙ (sym (ap (λ ss. Walk.coming (walk_from p ps z ss)) o.last) ∙ o.part.taken) in
    record {
      steps = before ++ now;
      ahead = ahead;
      outcome = o.part.outcome;
      trace = subst (λ is. IsTrace p x.func x.args is o.part.outcome) (items_ahead before was ahead ∙ sym (items_ahead before now ahead)) trace;
      woven = woven_last p ps z before (makes l (blocked (w.Enter k c))) ahead front (record { asks = owes; not_yet = not_yet });
      tells = told_append t before now ∙ ap (λ us. us ++ e.Blocked t l (w.Enter k c) ∷ []) same;
      taken = ap (λ y. Walk.coming y) (walk_append p ps z before now) ∙ coming;
    }

-- Before an operation of the queue that a thread asks for it owes that.
pub owes_next : (p : Source) (ps : Plans) (x : Own) (l k c : ℕ) → AsksToMake p ps x l (enters k c) → OwesNext p ps x l (enters k c)
owes_next p ps x l k c h =
    let t : ℕ = x.thread in
    let z : Walk = unborn x.versions in
    let o : OpPart p ps (with_entry x (e.Enter t l k c)) l (enters k c) = cut_part p ps (with_entry x (e.Enter t l k c)) x.entries l (enters k c) refl h in
    let before : List PartStep = o.before in
    let ahead : List Item = o.part.ahead in
    let was : List PartStep = makes l (enters k c) ∷ [] in
    let woven : AreWoven p ps z (before ++ was) ahead = subst (λ ss. AreWoven p ps z ss ahead) o.last o.part.woven in
    let trace : IsTrace p x.func x.args (items (before ++ was) ++ ahead) o.part.outcome = subst (λ ss. IsTrace p x.func x.args (items ss ++ ahead) o.part.outcome) o.last o.part.trace in
    let told : filter_entries t before ++ e.Enter t l k c ∷ [] ≡ x.entries ++ e.Enter t l k c ∷ [] =
    sym (told_append t before was) ∙ (sym (ap (filter_entries t) o.last) ∙ o.part.tells) in
    record {
      part = record {
        steps = before;
        ahead = ahead;
        outcome = o.part.outcome;
        trace = subst (λ is. IsTrace p x.func x.args is o.part.outcome) (items_ahead before was ahead) trace;
        woven = woven_front p ps z before was ahead woven;
        tells = same_front (filter_entries t before) x.entries (e.Enter t l k c) (e.Enter t l k c) told;
        taken = sym (ap (λ y. Walk.coming y) (walk_append p ps z before was)) ∙ (sym (ap (λ ss. Walk.coming (walk_from p ps z ss)) o.last) ∙ o.part.taken);
      };
      owes = stands_there p ps z before (makes l (enters k c)) [] ahead woven;
    }

pub owes_leave : (p : Source) (ps : Plans) (x : Own) (l k c : ℕ) → AsksToMake p ps x l (leave k c) → OwesNext p ps x l (leave k c)
owes_leave p ps x l k c h =
    let t : ℕ = x.thread in
    let z : Walk = unborn x.versions in
    let o : OpPart p ps (with_entry x (e.Leave t l k c)) l (leave k c) = cut_part p ps (with_entry x (e.Leave t l k c)) x.entries l (leave k c) refl h in
    let before : List PartStep = o.before in
    let ahead : List Item = o.part.ahead in
    let was : List PartStep = makes l (leave k c) ∷ [] in
    let woven : AreWoven p ps z (before ++ was) ahead = subst (λ ss. AreWoven p ps z ss ahead) o.last o.part.woven in
    let trace : IsTrace p x.func x.args (items (before ++ was) ++ ahead) o.part.outcome = subst (λ ss. IsTrace p x.func x.args (items ss ++ ahead) o.part.outcome) o.last o.part.trace in
    let told : filter_entries t before ++ e.Leave t l k c ∷ [] ≡ x.entries ++ e.Leave t l k c ∷ [] =
    sym (told_append t before was) ∙ (sym (ap (filter_entries t) o.last) ∙ o.part.tells) in
    record {
      part = record {
        steps = before;
        ahead = ahead;
        outcome = o.part.outcome;
        trace = subst (λ is. IsTrace p x.func x.args is o.part.outcome) (items_ahead before was ahead) trace;
        woven = woven_front p ps z before was ahead woven;
        tells = same_front (filter_entries t before) x.entries (e.Leave t l k c) (e.Leave t l k c) told;
        taken = sym (ap (λ y. Walk.coming y) (walk_append p ps z before was)) ∙ (sym (ap (λ ss. Walk.coming (walk_from p ps z ss)) o.last) ∙ o.part.taken);
      };
      owes = stands_there p ps z before (makes l (leave k c)) [] ahead woven;
    }
