-- Where the functions stand in flat code.
use Rattle.std.proofs.Common.{ℕ, suc, zero, ◌+◌, ◌≡◌, List, [], ◌∷◌, refl, sym, ap, subst, ◌∙◌, slice_get, length, arith, None}
use Rattle.loom_tree.specs.Tree.{Function, Source}
use Rattle.loom_lang.specs.Rules.{locals_of, KeepsRules, FunctionsKeepRules}
use Rattle.loom_flow.specs.declared.code.CodeStep.TheVariants as s
use Rattle.loom_flow.specs.declared.code.Control.TheVariants.{Out}
use Rattle.loom_flow.specs.declared.code.Instr.{Instr}
use Rattle.loom_flow.specs.declared.code.Site.{Site}
use Rattle.loom_flow.specs.Flow.{Flow}
use Rattle.loom_flow.specs.FlatCode.{instr, size, place_count, flat_body, body_sites, site, functions_code, functions_sites, entrances, lowered}
use Rattle.loom_flow.proofs.Sublist.{Lies, lies_first, lies_second, lies_behind, lies_whole}
use Rattle.loom_flow.proofs.Sizes.{code_length, sites_length}
use Rattle.loom_flow.proofs.Roles.{body_known}
use Rattle.loom_flow.proofs.Frames.{IsFunctionPlaced, ArePlaced}

-- the functions from one on, whose first instruction and first place have these numbers
placed_from : (c : Flow) (fs : List Function) (at place : ℕ) → KeepsRules c.program → FunctionsKeepRules c.program fs
    → Lies c.code at (functions_code c.program at place fs) → Lies c.sites place (functions_sites c.program at fs)
    → (f : ℕ) → IsFunctionPlaced c (slice_get fs f) (slice_get (entrances c.program at place fs) f)
placed_from c [] at place l ls code sites f = refl
placed_from c (g ∷ gs) at place l ls code sites zero =
    let p : Source = c.program in
    let xs : List (List ℕ) = locals_of g in
    let rest : List Instr = instr g.line (suc place + place_count g.body) (s.Control Out) ∷ functions_code p (suc (at + size p xs g.body)) (suc (suc (place + place_count g.body))) gs in
    let last : Lies c.code (at + length (flat_body p xs at (suc place) g.body)) rest = lies_second c.code at (flat_body p xs at (suc place) g.body) rest code in (
      record { start = at; place = place; params = length g.params },
      refl,
      record {
        params = refl;
        few = ls.0.locals;
        code = lies_first c.code at (flat_body p xs at (suc place) g.body) rest code;
        last = ap (λ n. slice_get c.code (at + n)) (sym (code_length p xs g.body at (suc place))) ∙ last.0;
        sites = lies_first c.sites (suc place) (body_sites p xs at g.body) (site g.line None ∷ functions_sites p (suc (at + size p xs g.body)) gs) sites.1;
        known = body_known p xs g.body l ls.0.known;
      },
    )
placed_from c (g ∷ gs) at place l ls code sites (suc f) =
    let p : Source = c.program in
    let xs : List (List ℕ) = locals_of g in
    let next : ℕ = suc (at + size p xs g.body) in
    let later : ℕ = suc (suc (place + place_count g.body)) in
    let more : List Instr = functions_code p next later gs in
    let others : List Site = functions_sites p next gs in
    let code_last : Lies c.code (at + length (flat_body p xs at (suc place) g.body)) (instr g.line (suc place + place_count g.body) (s.Control Out) ∷ more) =
    lies_second c.code at (flat_body p xs at (suc place) g.body) (instr g.line (suc place + place_count g.body) (s.Control Out) ∷ more) code in
    let sites_last : Lies c.sites (suc place + length (body_sites p xs at g.body)) (site g.line None ∷ others) =
    lies_second c.sites (suc place) (body_sites p xs at g.body) (site g.line None ∷ others) sites.1 in
    let code_length_is : length (flat_body p xs at (suc place) g.body) ≡ size p xs g.body = code_length p xs g.body at (suc place) in
    let sites_length_is : length (body_sites p xs at g.body) ≡ place_count g.body = sites_length p xs g.body at in
    placed_from c gs next later l ls.1
    (subst (λ n. Lies c.code n more) (omega arith) code_last.1)
    (subst (λ n. Lies c.sites n others) (omega arith) sites_last.1) f

pub are_placed : (p : Source) → KeepsRules p → ArePlaced (lowered p)
are_placed p l = placed_from (lowered p) p.funcs 0 1 l l.functions (lies_whole (functions_code p 0 1 p.funcs)) (lies_behind (site 0 None) (functions_sites p 0 p.funcs) 0 (functions_sites p 0 p.funcs) (lies_whole (functions_sites p 0 p.funcs)))
