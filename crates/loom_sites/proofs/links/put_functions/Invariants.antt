use Rattle.std.proofs.Common.{◌≡◌, ◌≤◌, ◌+◌, ◌++◌, length, drop}
use Rattle.loom_tree.specs.Tree.{functions_of}
use Rattle.loom_trace.specs.Limits.{place_limit}
use Rattle.loom_lang.specs.Places.{places_from}
use Rattle.loom_sites.specs.Links.{functions_rows}
use Rattle.loom_sites.proofs.links.put_functions.Given as goal

abbrev pub invariant-functions : goal.invariant-functions
invariant-functions l = record {
  room : length l.rows.items + length (places_from l.i (functions_of (drop l.i l.funcs))) ≤ place_limit;
  is :
      l.rows.items ++ functions_rows l.program l.i (length l.rows.items) (functions_of (drop l.i l.funcs))
      ≡ l.fn.rows.items ++ functions_rows l.program 0 (length l.fn.rows.items) (functions_of l.funcs);
}
