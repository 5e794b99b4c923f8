-- A worked program keeps the rules, and its places; the canonical text of another.
use Rattle.std.proofs.Common.{ℕ, ◌≤◌, ◌≡◌, Bool, true, false, not, ◌&&◌, nat_lt, pos, List, [], ◌∷◌, length, map, None, refl, sym, codes, rules}
use Rattle.std.specs.List.{AllByRecursion}
use Rattle.std.proofs.lemmas.Bool.{ltb-false}
use Rattle.loom_tree.specs.declared.expression.Op.TheVariants as o
use Rattle.loom_tree.specs.Tree.{num, var, bin, Right, Simple, let_, set, print, end, simple, while_, Function, Source}
use Rattle.loom_tree.specs.Decimal.{decimal}
use Rattle.loom_lang.specs.Limits.{function_limit, param_limit, local_limit, name_limit, cell_limit, statement_limit}
use Rattle.loom_lang.specs.Rules.{is_distinct, is_apart, takes, knows_body, counts_body, locals_of, lines_of, is_ascending, shared_names, file_names, cell_count, KeepsRules, FunctionKeepsRules, FunctionsKeepRules}
use Rattle.loom_lang.proofs.WellFormed.{IsFormedFunction, HasForm}
use Rattle.loom_lang.specs.Places.{nowhere, entry, inside, back_edge, out, places, line_of_place}
use Rattle.loom_lang.specs.Canonical.{canonical_text}

-- The rules on names and the limits as one test, for programs that are written out.

both : (a b : Bool) → (a && b) ≡ true → (a ≡ true) × (b ≡ true)
both true b h = (refl, h)
both false b h = cc

at_most : (n m : ℕ) → not (nat_lt n m) ≡ true → m ≤ n
at_most n m h = ltb-false n m (elim (nat_lt n m) as (λ t. not t ≡ true → t ≡ false) [ true ↦ λ e. sym e | false ↦ λ e. refl ] h)

abbrev pub tests_function : Source → Function → Bool
tests_function p f =
    is_distinct (locals_of f)
    && (is_apart (locals_of f) (file_names p)
    && (knows_body p (locals_of f) f.body
    && (counts_body p f.body && (not (nat_lt param_limit (length f.params)) && not (nat_lt local_limit (length (locals_of f)))))))

abbrev pub tests_functions : Source → List Function → Bool
tests_functions p [] = true
tests_functions p (f ∷ fs) = tests_function p f && tests_functions p fs

abbrev pub tests : Source → Bool
tests p =
    is_distinct (file_names p)
    && (tests_functions p p.funcs
    && (takes p.funcs (codes "main") 0
    && (is_ascending 0 (lines_of p)
    && (not (nat_lt function_limit (length p.funcs))
    && (not (nat_lt name_limit (length (shared_names p))) && (not (nat_lt cell_limit (cell_count p.words)) && not (nat_lt statement_limit (length (lines_of p)))))))))

function_tested : (p : Source) (f : Function) → IsFormedFunction f → tests_function p f ≡ true → FunctionKeepsRules p f
function_tested p f form h =
    let a : (is_distinct (locals_of f) ≡ true) × _ = both _ _ h in
    let b : (is_apart (locals_of f) (file_names p) ≡ true) × _ = both _ _ a.1 in
    let c : (knows_body p (locals_of f) f.body ≡ true) × _ = both _ _ b.1 in
    let d : (counts_body p f.body ≡ true) × _ = both _ _ c.1 in
    let e : (not (nat_lt param_limit (length f.params)) ≡ true) × _ = both _ _ d.1 in
    record { once = a.0; apart = b.0; known = c.0; counted = d.0; params = at_most param_limit _ e.0; locals = at_most local_limit _ e.1; names = form.names; form = form.form }

functions_tested : (p : Source) (fs : List Function) → AllByRecursion IsFormedFunction fs → tests_functions p fs ≡ true → FunctionsKeepRules p fs
functions_tested p [] form h = tt
functions_tested p (f ∷ fs) form h = let g : (tests_function p f ≡ true) × (tests_functions p fs ≡ true) = both _ _ h in (function_tested p f form.0 g.0, functions_tested p fs form.1 g.1)

pub tested : (p : Source) → HasForm p → tests p ≡ true → KeepsRules p
tested p form h =
    let a : (is_distinct (file_names p) ≡ true) × _ = both _ _ h in
    let b : (tests_functions p p.funcs ≡ true) × _ = both _ _ a.1 in
    let c : (takes p.funcs (codes "main") 0 ≡ true) × _ = both _ _ b.1 in
    let d : (is_ascending 0 (lines_of p) ≡ true) × _ = both _ _ c.1 in
    let e : (not (nat_lt function_limit (length p.funcs)) ≡ true) × _ = both _ _ d.1 in
    let f : (not (nat_lt name_limit (length (shared_names p))) ≡ true) × _ = both _ _ e.1 in
    let g : (not (nat_lt cell_limit (cell_count p.words)) ≡ true) × _ = both _ _ f.1 in
    record {
      once = a.0;
      functions = functions_tested p p.funcs form.functions b.0;
      main = c.0;
      lines = d.0;
      function_count = at_most function_limit _ e.0;
      name_count = at_most name_limit _ f.0;
      cells = at_most cell_limit _ g.0;
      statements = at_most statement_limit _ g.1;
      names = form.names;
      words = form.words;
      semas = form.semas;
    }

-- 1  shared x;
-- 2  fn step() {
-- 3    x = x + 1;
-- 4  }
-- 5  fn main() {
-- 6    let i = 0;
-- 7    while (i < 3) {
-- 8      step();
-- 9      x = x * 2;
-- 10     i = i + 1;
-- 11   }
-- 12   print x;
-- 13 }
abbrev pub calls : Source
calls = record {
  words = record { name = codes "x"; cells = None; first = pos 0 } ∷ [];
  mutexes = [];
  semas = [];
  funcs = record {
    name = codes "step";
    line = 2;
    params = [];
    body = simple 3 (set (codes "x") (Right.value (bin o.Add (var (codes "x")) (num (pos 1))))) end;
  } ∷ record {
    name = codes "main";
    line = 5;
    params = [];
    body = simple 6 (let_ (codes "i") (Right.value (num (pos 0))))
        (while_ 7 (bin o.Lt (var (codes "i")) (num (pos 3)))
        (simple 8 (Simple.call (codes "step") [])
        (simple 9 (set (codes "x") (Right.value (bin o.Mul (var (codes "x")) (num (pos 2)))))
        (simple 10 (set (codes "i") (Right.value (bin o.Add (var (codes "i")) (num (pos 1))))) end)))
        (simple 12 (print (var (codes "x"))) end));
  } ∷ [];
}

pub calls_lawful : KeepsRules calls
calls_lawful = tested calls (search rules) refl

pub calls_places : places calls
    ≡ nowhere ∷ entry 0 ∷ inside 3 ∷ out 0 ∷ entry 1 ∷ inside 6 ∷ inside 7 ∷ back_edge 7 ∷ inside 8 ∷ inside 9 ∷ inside 10 ∷ inside 12 ∷ out 1 ∷ []
calls_places = refl

pub calls_lines : map (line_of_place calls) (places calls) ≡ 0 ∷ 2 ∷ 3 ∷ 2 ∷ 5 ∷ 6 ∷ 7 ∷ 7 ∷ 8 ∷ 9 ∷ 10 ∷ 12 ∷ 5 ∷ []
calls_lines = refl

-- fn main(){print (2+3)*4;}
abbrev pub product : Source
product = record {
  words = [];
  mutexes = [];
  semas = [];
  funcs = record {
    name = codes "main";
    line = 1;
    params = [];
    body = simple 1 (print (bin o.Mul (bin o.Add (num (pos 2)) (num (pos 3))) (num (pos 4)))) end;
  } ∷ [];
}

product_text : canonical_text product ≡ codes "fn main() {\n  print (2 + 3) * 4;\n}\n"
unfolding decimal
product_text = refl
