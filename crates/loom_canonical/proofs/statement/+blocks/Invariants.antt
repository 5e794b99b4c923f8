use Rattle.std.proofs.Common.{◌≡◌, ◌≤◌, ◌+◌, ◌*◌, ◌++◌, max}
use Rattle.loom_tree.specs.declared.statement.Kind.{size-Kind}
use Rattle.loom_tree.specs.declared.statement.Stmts.{size-Stmts}
use Rattle.loom_tree.specs.Lines.{ended}
use Rattle.loom_tree.specs.Tree.{body_of}
use Rattle.loom_lang.specs.WellFormed.{IsWellFormedBlock}
use Rattle.loom_lang.specs.Canonical.{body_text_lines}
use Rattle.loom_canonical.proofs.statement.+blocks.Given as goal

abbrev pub decreases-put_block : goal.decreases-put_block
decreases-put_block l = 3 * size-Stmts l.block.now

abbrev pub decreases-put_else : goal.decreases-put_else
decreases-put_else l = 3 * size-Stmts l.b.now + 1

abbrev pub decreases-put_choice : goal.decreases-put_choice
decreases-put_choice l = 3 * max (size-Stmts l.a.now) (size-Stmts l.b.now) + 2

abbrev pub decreases-put_loop : goal.decreases-put_loop
decreases-put_loop l = 3 * size-Stmts l.a.now + 1

abbrev pub decreases-put_statement : goal.decreases-put_statement
decreases-put_statement l = 3 * size-Kind l.kind.now

abbrev pub invariant-put_block-walk : goal.invariant-put_block-walk
invariant-put_block-walk l = record {
  within : size-Stmts l.at ≤ size-Stmts l.block;
  form : IsWellFormedBlock l.depth (body_of l.at);
  text : l.out ++ ended (body_text_lines l.depth (body_of l.at)) ≡ l.fn.out ++ ended (body_text_lines l.depth (body_of l.block));
}
