use Rattle.std.proofs.Common.{◌≡◌, ◌≤◌, ◌∙◌, sym, ap, subst}
use Rattle.loom_version.specs.Version.{version_limit}
use Rattle.loom_strand.specs.Strand.{Strand, CanTake, Wants, KeepsParking, HeedsFlags, GoesUnflagged, StaysAt}
use Rattle.loom_strand.specs.StrandInvariant.{StrandInvariant}
use Rattle.loom_strand.specs.PrivateRun.{MayHalt}
use Rattle.loom_strand.specs.contracts.strand.Strand.{the_view}
use Rattle.loom_strand.proofs.Replies.{flat_of}
use Rattle.loom_strand.proofs.PrivateRuns.{IsPrivateRun, private_run, may_halt, HasComeTo, come_to}
use Rattle.loom_strand.proofs.LivingRuns.{went}
use Rattle.loom_strand.proofs.strand.Strand.run_private.Goals as goal

pub halt-want-requires-clause-may : goal.halt-want-requires-clause-may
halt-want-requires-clause-may c =
    let s : Strand = the_view c.self.inside in
    let program : c.args.flow.now.program ≡ s.program = c.requires.program ∙ ap (λ (z : Strand). z.program) (sym c.self.view_is) in
    let flat = flat_of c.args.flow.now s.program c.code.ensures.lowered program in
    subst (λ cs. MayHalt c.args.flow.now cs c.in-Some.birth s.execution) (sym c.deref-2.ensures)
    (subst (λ d. MayHalt d s.filters c.in-Some.birth s.execution) (sym flat)
    (may_halt s c.in-Some.birth (subst Rattle.loom_flow.specs.Code.IsLowered flat c.code.ensures.lowered) c.self.invariant.kept c.in-Some.is))

pub invariant_of-self : goal.invariant_of-self
invariant_of-self c =
    let s : Strand = the_view c.self.inside in
    let program : c.args.flow.now.program ≡ s.program = c.requires.program ∙ ap (λ (z : Strand). z.program) (sym c.self.view_is) in
    let flat = flat_of c.args.flow.now s.program c.code.ensures.lowered program in
    let takes : CanTake s c.args.version.now = subst (λ (z : Strand). CanTake z c.args.version.now) (sym c.self.view_is) c.requires.version in
    let few : c.args.version.now.number ≤ version_limit = subst (λ n. n ≤ version_limit) c.number.ensures.is c.number.ensures.most in
    let ran : IsPrivateRun s c.in-Some.birth c.args.flags.now c.is_newer-newer.result c.args.version.now c.halt-want.new.self c.halt-want.result =
    private_run c.args.flow.now c.deref-2.result.now c.deref.result.now s c.in-Some.birth c.args.flags.now c.is_newer-newer.result c.args.version.now c.halt-want.new.self c.halt-want.result flat c.deref-2.ensures c.deref.ensures.value
    c.code.ensures.lowered c.self.invariant.kept c.in-Some.is takes few c.is_newer-newer.ensures c.halt-want.ensures in
    let h : HasComeTo s c.in-Some.birth c.args.flags.now c.args.version.now c.halt-want.new.self c.halt-want.result = come_to s c.in-Some.birth c.args.flags.now c.is_newer-newer.result c.args.version.now c.halt-want.new.self c.halt-want.result ran in
    record { versions = c.self.invariant.versions; kept = subst (λ o. StrandInvariant (record (went s c.args.version.now c.halt-want.new.self c.halt-want.result) { want = o })) (sym c.request_in-self-inside.ensures) h.kept }

pub returns-clause-wants : goal.returns-clause-wants
returns-clause-wants c =
    let s : Strand = the_view c.self.inside in
    let program : c.args.flow.now.program ≡ s.program = c.requires.program ∙ ap (λ (z : Strand). z.program) (sym c.self.view_is) in
    let flat = flat_of c.args.flow.now s.program c.code.ensures.lowered program in
    let takes : CanTake s c.args.version.now = subst (λ (z : Strand). CanTake z c.args.version.now) (sym c.self.view_is) c.requires.version in
    let few : c.args.version.now.number ≤ version_limit = subst (λ n. n ≤ version_limit) c.number.ensures.is c.number.ensures.most in
    let ran : IsPrivateRun s c.in-Some.birth c.args.flags.now c.is_newer-newer.result c.args.version.now c.halt-want.new.self c.halt-want.result =
    private_run c.args.flow.now c.deref-2.result.now c.deref.result.now s c.in-Some.birth c.args.flags.now c.is_newer-newer.result c.args.version.now c.halt-want.new.self c.halt-want.result flat c.deref-2.ensures c.deref.ensures.value
    c.code.ensures.lowered c.self.invariant.kept c.in-Some.is takes few c.is_newer-newer.ensures c.halt-want.ensures in
    let h : HasComeTo s c.in-Some.birth c.args.flags.now c.args.version.now c.halt-want.new.self c.halt-want.result = come_to s c.in-Some.birth c.args.flags.now c.is_newer-newer.result c.args.version.now c.halt-want.new.self c.halt-want.result ran in
    subst (λ o. Wants (record (went s c.args.version.now c.halt-want.new.self c.halt-want.result) { want = o }) c.self.inside.birth c.args.flags.now c.halt-want.result) (sym c.request_in-self-inside.ensures)
    (subst (λ b. Wants (went s c.args.version.now c.halt-want.new.self c.halt-want.result) b c.args.flags.now c.halt-want.result) (sym c.in-Some.is) h.wants)

pub returns-clause-heeds : goal.returns-clause-heeds
returns-clause-heeds c =
    let s : Strand = the_view c.self.inside in
    let program : c.args.flow.now.program ≡ s.program = c.requires.program ∙ ap (λ (z : Strand). z.program) (sym c.self.view_is) in
    let flat = flat_of c.args.flow.now s.program c.code.ensures.lowered program in
    let takes : CanTake s c.args.version.now = subst (λ (z : Strand). CanTake z c.args.version.now) (sym c.self.view_is) c.requires.version in
    let few : c.args.version.now.number ≤ version_limit = subst (λ n. n ≤ version_limit) c.number.ensures.is c.number.ensures.most in
    let ran : IsPrivateRun s c.in-Some.birth c.args.flags.now c.is_newer-newer.result c.args.version.now c.halt-want.new.self c.halt-want.result =
    private_run c.args.flow.now c.deref-2.result.now c.deref.result.now s c.in-Some.birth c.args.flags.now c.is_newer-newer.result c.args.version.now c.halt-want.new.self c.halt-want.result flat c.deref-2.ensures c.deref.ensures.value
    c.code.ensures.lowered c.self.invariant.kept c.in-Some.is takes few c.is_newer-newer.ensures c.halt-want.ensures in
    let h : HasComeTo s c.in-Some.birth c.args.flags.now c.args.version.now c.halt-want.new.self c.halt-want.result = come_to s c.in-Some.birth c.args.flags.now c.is_newer-newer.result c.args.version.now c.halt-want.new.self c.halt-want.result ran in
    subst (λ (z : Strand). HeedsFlags z (record (went s c.args.version.now c.halt-want.new.self c.halt-want.result) { want = c.request_in-self-inside.result }) c.self.inside.birth c.args.flags.now c.halt-want.result) c.self.view_is
    (subst (λ o. HeedsFlags s (record (went s c.args.version.now c.halt-want.new.self c.halt-want.result) { want = o }) c.self.inside.birth c.args.flags.now c.halt-want.result) (sym c.request_in-self-inside.ensures)
    (subst (λ b. HeedsFlags s (went s c.args.version.now c.halt-want.new.self c.halt-want.result) b c.args.flags.now c.halt-want.result) (sym c.in-Some.is) h.heeds))

pub returns-clause-unflagged : goal.returns-clause-unflagged
returns-clause-unflagged c =
    let s : Strand = the_view c.self.inside in
    let program : c.args.flow.now.program ≡ s.program = c.requires.program ∙ ap (λ (z : Strand). z.program) (sym c.self.view_is) in
    let flat = flat_of c.args.flow.now s.program c.code.ensures.lowered program in
    let takes : CanTake s c.args.version.now = subst (λ (z : Strand). CanTake z c.args.version.now) (sym c.self.view_is) c.requires.version in
    let few : c.args.version.now.number ≤ version_limit = subst (λ n. n ≤ version_limit) c.number.ensures.is c.number.ensures.most in
    let ran : IsPrivateRun s c.in-Some.birth c.args.flags.now c.is_newer-newer.result c.args.version.now c.halt-want.new.self c.halt-want.result =
    private_run c.args.flow.now c.deref-2.result.now c.deref.result.now s c.in-Some.birth c.args.flags.now c.is_newer-newer.result c.args.version.now c.halt-want.new.self c.halt-want.result flat c.deref-2.ensures c.deref.ensures.value
    c.code.ensures.lowered c.self.invariant.kept c.in-Some.is takes few c.is_newer-newer.ensures c.halt-want.ensures in
    let h : HasComeTo s c.in-Some.birth c.args.flags.now c.args.version.now c.halt-want.new.self c.halt-want.result = come_to s c.in-Some.birth c.args.flags.now c.is_newer-newer.result c.args.version.now c.halt-want.new.self c.halt-want.result ran in
    subst (λ (z : Strand). GoesUnflagged z (record (went s c.args.version.now c.halt-want.new.self c.halt-want.result) { want = c.request_in-self-inside.result }) c.self.inside.birth c.args.flags.now) c.self.view_is
    (subst (λ o. GoesUnflagged s (record (went s c.args.version.now c.halt-want.new.self c.halt-want.result) { want = o }) c.self.inside.birth c.args.flags.now) (sym c.request_in-self-inside.ensures)
    (subst (λ b. GoesUnflagged s (went s c.args.version.now c.halt-want.new.self c.halt-want.result) b c.args.flags.now) (sym c.in-Some.is) h.unflagged))

pub returns-clause-parks : goal.returns-clause-parks
returns-clause-parks c =
    let s : Strand = the_view c.self.inside in
    let program : c.args.flow.now.program ≡ s.program = c.requires.program ∙ ap (λ (z : Strand). z.program) (sym c.self.view_is) in
    let flat = flat_of c.args.flow.now s.program c.code.ensures.lowered program in
    let takes : CanTake s c.args.version.now = subst (λ (z : Strand). CanTake z c.args.version.now) (sym c.self.view_is) c.requires.version in
    let few : c.args.version.now.number ≤ version_limit = subst (λ n. n ≤ version_limit) c.number.ensures.is c.number.ensures.most in
    let ran : IsPrivateRun s c.in-Some.birth c.args.flags.now c.is_newer-newer.result c.args.version.now c.halt-want.new.self c.halt-want.result =
    private_run c.args.flow.now c.deref-2.result.now c.deref.result.now s c.in-Some.birth c.args.flags.now c.is_newer-newer.result c.args.version.now c.halt-want.new.self c.halt-want.result flat c.deref-2.ensures c.deref.ensures.value
    c.code.ensures.lowered c.self.invariant.kept c.in-Some.is takes few c.is_newer-newer.ensures c.halt-want.ensures in
    let h : HasComeTo s c.in-Some.birth c.args.flags.now c.args.version.now c.halt-want.new.self c.halt-want.result = come_to s c.in-Some.birth c.args.flags.now c.is_newer-newer.result c.args.version.now c.halt-want.new.self c.halt-want.result ran in
    subst (λ (z : Strand). KeepsParking z (record (went s c.args.version.now c.halt-want.new.self c.halt-want.result) { want = c.request_in-self-inside.result }) c.self.inside.birth c.args.flags.now c.halt-want.result) c.self.view_is
    (subst (λ o. KeepsParking s (record (went s c.args.version.now c.halt-want.new.self c.halt-want.result) { want = o }) c.self.inside.birth c.args.flags.now c.halt-want.result) (sym c.request_in-self-inside.ensures)
    (subst (λ b. KeepsParking s (went s c.args.version.now c.halt-want.new.self c.halt-want.result) b c.args.flags.now c.halt-want.result) (sym c.in-Some.is) h.parks))

pub returns-clause-stays : goal.returns-clause-stays
returns-clause-stays c =
    let s : Strand = the_view c.self.inside in
    let program : c.args.flow.now.program ≡ s.program = c.requires.program ∙ ap (λ (z : Strand). z.program) (sym c.self.view_is) in
    let flat = flat_of c.args.flow.now s.program c.code.ensures.lowered program in
    let takes : CanTake s c.args.version.now = subst (λ (z : Strand). CanTake z c.args.version.now) (sym c.self.view_is) c.requires.version in
    let few : c.args.version.now.number ≤ version_limit = subst (λ n. n ≤ version_limit) c.number.ensures.is c.number.ensures.most in
    let ran : IsPrivateRun s c.in-Some.birth c.args.flags.now c.is_newer-newer.result c.args.version.now c.halt-want.new.self c.halt-want.result =
    private_run c.args.flow.now c.deref-2.result.now c.deref.result.now s c.in-Some.birth c.args.flags.now c.is_newer-newer.result c.args.version.now c.halt-want.new.self c.halt-want.result flat c.deref-2.ensures c.deref.ensures.value
    c.code.ensures.lowered c.self.invariant.kept c.in-Some.is takes few c.is_newer-newer.ensures c.halt-want.ensures in
    let h : HasComeTo s c.in-Some.birth c.args.flags.now c.args.version.now c.halt-want.new.self c.halt-want.result = come_to s c.in-Some.birth c.args.flags.now c.is_newer-newer.result c.args.version.now c.halt-want.new.self c.halt-want.result ran in
    subst (λ (z : Strand). StaysAt z (record (went s c.args.version.now c.halt-want.new.self c.halt-want.result) { want = c.request_in-self-inside.result }) c.self.inside.birth c.args.flags.now c.args.version.now) c.self.view_is
    (subst (λ o. StaysAt s (record (went s c.args.version.now c.halt-want.new.self c.halt-want.result) { want = o }) c.self.inside.birth c.args.flags.now c.args.version.now) (sym c.request_in-self-inside.ensures)
    (subst (λ b. StaysAt s (went s c.args.version.now c.halt-want.new.self c.halt-want.result) b c.args.flags.now c.args.version.now) (sym c.in-Some.is) h.stays))

pub returns-clause-again : goal.returns-clause-again
returns-clause-again c q is same =
    let s : Strand = the_view c.self.inside in
    let program : c.args.flow.now.program ≡ s.program = c.requires.program ∙ ap (λ (z : Strand). z.program) (sym c.self.view_is) in
    let flat = flat_of c.args.flow.now s.program c.code.ensures.lowered program in
    let takes : CanTake s c.args.version.now = subst (λ (z : Strand). CanTake z c.args.version.now) (sym c.self.view_is) c.requires.version in
    let few : c.args.version.now.number ≤ version_limit = subst (λ n. n ≤ version_limit) c.number.ensures.is c.number.ensures.most in
    let ran : IsPrivateRun s c.in-Some.birth c.args.flags.now c.is_newer-newer.result c.args.version.now c.halt-want.new.self c.halt-want.result =
    private_run c.args.flow.now c.deref-2.result.now c.deref.result.now s c.in-Some.birth c.args.flags.now c.is_newer-newer.result c.args.version.now c.halt-want.new.self c.halt-want.result flat c.deref-2.ensures c.deref.ensures.value
    c.code.ensures.lowered c.self.invariant.kept c.in-Some.is takes few c.is_newer-newer.ensures c.halt-want.ensures in
    let h : HasComeTo s c.in-Some.birth c.args.flags.now c.args.version.now c.halt-want.new.self c.halt-want.result = come_to s c.in-Some.birth c.args.flags.now c.is_newer-newer.result c.args.version.now c.halt-want.new.self c.halt-want.result ran in
    h.again q (ap (λ (z : Strand). z.want) c.self.view_is ∙ is) (same ∙ ap (λ (z : Strand). z.newest) (sym c.self.view_is))
