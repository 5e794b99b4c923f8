use Rattle.std.proofs.Common.{ℕ, ◌+◌, ◌≡◌, ◌<◌, ◌≤◌, length, refl, sym, subst, arith}
use Rattle.loom_filter.specs.FilterError.{text_limit}
use Rattle.loom_law.specs.Walk.{Plans}
use Rattle.loom_script.specs.Laws.{HaveShortTexts}
use Rattle.loom_script.specs.Stalls.{HasNoStall}
use Rattle.loom_script.specs.View.{commands_of}
use Rattle.loom_version.specs.Plans.{plans_in}
use Rattle.loom_world.proofs.ScriptCommands.{rest_is, none_left, are_more, are_all, still_so_far, plans_stay, none_filled, filled_more, have_filters, one_more}
use Rattle.loom_world.proofs.commands.run_commands.Goals as goal

pub all-init : goal.all-init
all-init c = rw c.new-commands.ensures.items (record {
  so_far = λ ds h. h;
  filled = none_filled c.args.flow.now.program c.in_ok-plans.plans c.in_ok-plans.ensures;
  number = refl;
  index = refl;
  short = c.requires.short;
  no_stall = c.requires.no_stall;
})

pub command_of-requires-clause-short : goal.command_of-requires-clause-short
command_of-requires-clause-short c =
    let rest = rest_is c.args.script.now c.all.command-index c.command-item.result c.all-test.true c.command-item.is in
    (subst (λ xs. HaveShortTexts text_limit (commands_of xs)) rest c.all.invariant.short).0

pub command_of-requires-clause-no_stall : goal.command_of-requires-clause-no_stall
command_of-requires-clause-no_stall c =
    let rest = rest_is c.args.script.now c.all.command-index c.command-item.result c.all-test.true c.command-item.is in
    (subst (λ xs. HasNoStall (commands_of xs)) rest c.all.invariant.no_stall).0

pub all-preserved : goal.all-preserved
all-preserved c =
    let rest = rest_is c.args.script.now c.all.command-index c.command-item.result c.all-test.true c.command-item.is in
    let number : c.all.k + 1 ≡ length c.all.commands.items + 1 = omega (arith, c.all.invariant.number) in
    let puts = c.command_of.ensures.puts in
    let ps : Plans = plans_in c.all.plans in
    let qs : Plans = plans_in c.command_of.new.plans in
    let same : (k : ℕ) → 1 ≤ k → k < length c.all.commands.items + 1 → ps k ≡ qs k =
    λ k first last. plans_stay c.args.flow.now.program c.all.plans c.command_of.new.plans (c.all.k + 1) puts k (λ e. (let no : ⊥ = omega (arith, e, number, last) in no)) in
    record {
      so_far = are_more c.args.flow.now.program c.args.file.now c.args.script.now c.all.command-index qs c.all.commands.items c.push.new.self.items c.command-item.result c.in_ok-next.next (c.all.k + 1)
          (still_so_far c.args.flow.now.program c.args.file.now c.args.script.now c.all.command-index ps qs c.all.commands.items same c.all.invariant.so_far) number rest c.in_ok-next.ensures.is c.in_ok-push.ensures.items;
      filled = filled_more c.args.flow.now.program c.all.plans c.command_of.new.plans c.all.commands.items c.push.new.self.items c.in_ok-next.next (c.all.k + 1) c.all.invariant.filled puts number
          c.in_ok-next.ensures.flags c.in_ok-push.ensures.items;
      number = one_more c.all.commands.items c.push.new.self.items c.in_ok-next.next (c.all.k + 1) number c.in_ok-push.ensures.items;
      index = sym (one_more c.all.commands.items c.push.new.self.items c.in_ok-next.next (c.all.command-index + 1) (omega (arith, c.all.invariant.index)) c.in_ok-push.ensures.items);
      short = (subst (λ xs. HaveShortTexts text_limit (commands_of xs)) rest c.all.invariant.short).1;
      no_stall = (subst (λ xs. HasNoStall (commands_of xs)) rest c.all.invariant.no_stall).1;
    }

pub returns-clause-are : goal.returns-clause-are
returns-clause-are c =
    are_all c.args.flow.now.program c.args.file.now c.args.script.now c.all.command-index (plans_in c.all.plans) c.all.commands.items c.all.invariant.so_far
    (none_left c.args.script.now c.all.command-index c.all-test.false)

pub returns-clause-filters : goal.returns-clause-filters
returns-clause-filters c = have_filters c.args.flow.now.program c.all.plans c.all.commands.items c.all.invariant.filled
