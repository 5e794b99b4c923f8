use Rattle.std.proofs.Common.{◌≡◌, ◌∙◌, sym, subst}
use Rattle.std.specs.Arc.{arc_value}
use Rattle.loom_command.specs.Script.{most_commands}
use Rattle.loom_script.specs.declared.script.Script.{Script}
use Rattle.loom_script.specs.View.{commands_of, script_of}
use Rattle.loom_version.specs.Plans.{plans_in}
use Rattle.loom_world.specs.Commands.{HaveExclusions, AreCommandsSoFar}
use Rattle.loom_world.specs.CommandView.{law_commands}
use Rattle.loom_world.proofs.ScriptCommands.{no_more, exclusions}
use Rattle.loom_world.proofs.Strands.{new_strands}
use Rattle.loom_world.proofs.world.World.make.Goals as goal

pub make-requires-clause-few : goal.make-requires-clause-few
make-requires-clause-few c =
    let cs = law_commands (plans_in c.in_ok-judged.judged.plans) c.in_ok-judged.judged.commands.items in
    let inside = subst (λ xs. AreCommandsSoFar c.in_ok-flow.flow.program c.args.file.now (commands_of xs) cs) c.deref.ensures.value c.in_ok-judged.ensures.are in
    let told : AreCommandsSoFar c.in_ok-flow.flow.program c.args.file.now (script_of c.args.script.now) cs =
    subst (λ (s : Script). AreCommandsSoFar c.in_ok-flow.flow.program c.args.file.now (script_of s) cs) c.script.view_is inside in
    no_more c.in_ok-flow.flow.program c.args.file.now (script_of c.args.script.now) (plans_in c.in_ok-judged.judged.plans) c.in_ok-judged.judged.commands.items most_commands told c.requires.few

pub make-requires-clause-exclusions : goal.make-requires-clause-exclusions
make-requires-clause-exclusions c =
    let p = c.in_ok-flow.flow.program in
    let items = c.in_ok-judged.judged.commands.items in
    let inside = subst (λ xs. AreCommandsSoFar p c.args.file.now (commands_of xs) (law_commands (plans_in c.in_ok-judged.judged.plans) items)) c.deref.ensures.value c.in_ok-judged.ensures.are in
    let told : AreCommandsSoFar p c.args.file.now (script_of c.args.script.now) (law_commands (plans_in c.in_ok-judged.judged.plans) items) =
    subst (λ (s : Script). AreCommandsSoFar p c.args.file.now (script_of s) (law_commands (plans_in c.in_ok-judged.judged.plans) items)) c.script.view_is inside in
    let them : HaveExclusions p (law_commands (plans_in c.in_ok-judged.judged.plans) items) =
    exclusions p c.args.file.now (script_of c.args.script.now) (law_commands (plans_in c.in_ok-judged.judged.plans) items) told in
    subst (λ q. HaveExclusions q (law_commands (plans_in (arc_value c.in_ok-plans.plans)) items)) (sym c.in_ok-share.ensures.program)
    (subst (λ fs. HaveExclusions p (law_commands (plans_in fs) items)) (sym c.in_ok-plans.ensures.ok) them)

pub invariant_of-result : goal.invariant_of-result
invariant_of-result c =
    let b = c.in_ok-book.ensures.new in
    let program : c.in_ok-book.book.program ≡ c.in_ok-flow.flow.program = b.program ∙ c.in_ok-share.ensures.program in (
      sym program,
      c.in_ok-book.ensures.lawful,
      new_strands c.in_ok-book.book c.in_ok-flow.flow.program (arc_value c.in_ok-plans.plans) c.args.limit c.in_ok-strands.strands.items program c.in_ok-book.ensures.filters b.limit b.entries
          b.stands c.in_ok-strands.ensures,
    )
