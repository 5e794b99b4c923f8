-- The text of a program by the kinds of its items.
use Rattle.std.proofs.Common.{ℕ, ◌≡◌, List, ◌++◌, map, append_assoc}
use Rattle.loom_tree.specs.Tree.{Source}
use Rattle.loom_tree.specs.Lines.{ended}
use Rattle.loom_lang.specs.Canonical.{word_line, mutex_line, sema_line, functions_lines, canonical_text}
use Rattle.loom_canonical.proofs.BlockText.{ended_append}

pub program_is : (p : Source) (o1 o2 o3 new : List ℕ) →
    o1 ≡ ended (map word_line p.words) →
    o2 ≡ o1 ++ ended (map mutex_line p.mutexes) →
    o3 ≡ o2 ++ ended (map sema_line p.semas) →
    new ≡ o3 ++ ended (functions_lines p.funcs) →
    new ≡ canonical_text p
program_is p o1 o2 o3 new h1 h2 h3 h4 =
    rw (h4, h3, h2, h1, ended_append (map word_line p.words) (map mutex_line p.mutexes ++ (map sema_line p.semas ++ functions_lines p.funcs)), ended_append (map mutex_line p.mutexes) (map sema_line p.semas ++ functions_lines p.funcs), ended_append (map sema_line p.semas) (functions_lines p.funcs))
    (simp append_assoc)
