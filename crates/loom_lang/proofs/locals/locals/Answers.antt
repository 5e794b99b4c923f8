use Rattle.loom_tree.specs.Tree.{function_of}
use Rattle.loom_lang.proofs.Repetition.{found_names}
use Rattle.loom_lang.proofs.locals.locals.Goals as goal

-- src/locals.rt:30:1
pub returns : goal.returns
returns c = found_names (function_of c.args.f.now) _ _ _ _ _ c.new-found.ensures.items c.in_ok-put_locals.ensures c.deref.ensures.value c.new.ensures.items c.in_ok-put_names.ensures
