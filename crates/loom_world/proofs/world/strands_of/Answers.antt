use Rattle.std.proofs.Common.{ℕ, suc, ◌+◌, ◌≡◌, length, length-append, ◌∷◌, [], ap, ◌∙◌, subst, sym, arith, slice_get, Some}
use Rattle.std.specs.Arc.{arc_value}
use Rattle.loom_strand.specs.Strand.{Strand, IsNew}
use Rattle.loom_world.proofs.Strands.{each_more}
use Rattle.loom_world.proofs.world.strands_of.Goals as goal

pub threads-preserved : goal.threads-preserved
threads-preserved c =
    let more : length c.push_reserved.new.self.items ≡ length c.threads.strands.items + 1 =
    ap length c.push_reserved.ensures.items ∙ length-append c.threads.strands.items (c.in_ok-make.field-0 ∷ []) in
    let number : c.threads.t ≡ suc (length c.threads.strands.items) = omega (arith, c.threads.invariant.count) in
    record {
      count = omega (arith, more, c.threads.invariant.count);
      room = c.push_reserved.ensures.capacity ∙ c.threads.invariant.room;
      each = subst (λ ss. (i : ℕ) (s : Strand) → slice_get ss i ≡ Some s → IsNew c.args.flow.now.program (arc_value c.args.plans.now) (suc i) c.args.limit s) (sym c.push_reserved.ensures.items)
          (each_more (λ i s. IsNew c.args.flow.now.program (arc_value c.args.plans.now) (suc i) c.args.limit s) c.threads.strands.items c.in_ok-make.field-0 c.threads.invariant.each
          (subst (λ fs. IsNew c.args.flow.now.program fs (suc (length c.threads.strands.items)) c.args.limit c.in_ok-make.field-0) c.in_ok-try_clone.ensures
          (subst (λ n. IsNew c.args.flow.now.program (arc_value c.in_ok-try_clone.field-0) n c.args.limit c.in_ok-make.field-0) number c.in_ok-make.ensures)));
    }
