use Rattle.std.proofs.Common.{◌≡◌, ◌++◌, length, map, drop}
use Rattle.loom_tree.specs.Tree.{Function, functions_of}
use Rattle.loom_lang.specs.Rules.{FunctionsKeepRules}
use Rattle.loom_flow.specs.FlatCode.{functions_code, functions_sites, entrances, calls_body, set_of, lowered}
use Rattle.loom_flow.proofs.lower.put_all.Given as goal

abbrev pub invariant-put : goal.invariant-put
invariant-put l = record {
  program : l.scope.program ≡ l.fn.scope.program;
  lawful : FunctionsKeepRules l.fn.scope.program (functions_of (drop l.f-index l.funcs));
  code :
      l.parts.code.items ++ functions_code l.fn.scope.program (length l.parts.code.items) (length l.parts.sites.items) (functions_of (drop l.f-index l.funcs))
      ≡ (lowered l.fn.scope.program).code;
  sites :
      l.parts.sites.items ++ functions_sites l.fn.scope.program (length l.parts.code.items) (functions_of (drop l.f-index l.funcs))
      ≡ (lowered l.fn.scope.program).sites;
  entrances :
      l.parts.entrances.items ++ entrances l.fn.scope.program (length l.parts.code.items) (length l.parts.sites.items) (functions_of (drop l.f-index l.funcs))
      ≡ (lowered l.fn.scope.program).entrances;
  calls :
      l.parts.calls.items ++ map (λ (f : Function). set_of 0 (calls_body l.fn.scope.program f.body)) (functions_of (drop l.f-index l.funcs))
      ≡ (lowered l.fn.scope.program).calls;
}
