-- Calls and spawns with as many arguments as a function of that name has parameters.
use Rattle.std.specs.Prelude.{Bool, true, ◌&&◌, length}
use Rattle.loom_tree.specs.Tree.{Expression, Right, Simple, let_, set, Body, end, simple, if_, while_, Source}
use Rattle.loom_lang.specs.Rules.{takes}

abbrev pub takes_right : Source → Right Expression → Bool
takes_right p (Right.value e) = true
takes_right p (Right.call f es) = takes p.funcs f (length es)
takes_right p (Right.spawn f es) = takes p.funcs f (length es)

abbrev pub takes_simple : Source → Simple Expression → Bool
takes_simple p (let_ x r) = takes_right p r
takes_simple p (set x r) = takes_right p r
takes_simple p (Simple.call f es) = takes p.funcs f (length es)
takes_simple p _ = true

abbrev pub takes_body : Source → Body → Bool
takes_body p end = true
takes_body p (simple l x rest) = takes_simple p x && takes_body p rest
takes_body p (if_ l e a b rest) = takes_body p a && (takes_body p b && takes_body p rest)
takes_body p (while_ l e a rest) = takes_body p a && takes_body p rest
