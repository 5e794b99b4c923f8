use Rattle.std.proofs.Common.{◌≡◌, ◌<◌, ◌∙◌, [], ◌∷◌, ◌++◌, length, Some, refl, sym, ap, subst, arith}
use Rattle.std.specs.Vec.{vec_capacity}
use Rattle.loom_flow.specs.FlatCode.{lowered}
use Rattle.loom_law.specs.Laws.{with_newest}
use Rattle.loom_strand.specs.Strand.{Strand, IsSameThread, HasOwnPart, IsReply, WaitsAt, WaitsOn, PassesAnew}
use Rattle.loom_strand.specs.StrandInvariant.{StrandInvariant}
use Rattle.loom_strand.specs.Reply.{reply_of, want_behind, CanFollow, CanWalkBy, Takes}
use Rattle.loom_strand.specs.contracts.strand.Strand.{the_view}
use Rattle.loom_strand.proofs.Replies.{HasTaken, has_taken, taken_follow, taken_walk, taken_room, taken_kept, flat_of, newest_same, view_with, IsView, by_view, blocked_keeps_want, waits_behind}
use Rattle.loom_strand.proofs.Taken.{IsKept}
use Rattle.loom_strand.proofs.strand.Strand.answer.Goals as goal

pub take-requires-clause-follow : goal.take-requires-clause-follow
take-requires-clause-follow c =
    let s : Strand = the_view c.self.inside in
    let reply : IsReply s c.args.e = subst (λ (z : Strand). IsReply z c.args.e) (sym c.self.view_is) c.requires.answers in
    let few : length s.entries < s.limit = subst (λ (z : Strand). length z.entries < z.limit) (sym c.self.view_is) c.requires.room in
    let h : HasTaken s c.args.e = has_taken s c.args.e c.self.invariant.kept few reply in
    let is : reply_of c.args.e ≡ Some c.in-Some.answer = sym c.reply_of.ensures ∙ c.in-Some.is in
    let program : c.args.flow.now.program ≡ s.program = c.requires.program ∙ ap (λ (z : Strand). z.program) (sym c.self.view_is) in
    let flat : c.args.flow.now ≡ lowered s.program = flat_of c.args.flow.now s.program c.code.ensures.lowered program in
    subst (λ d. CanFollow d s.execution.machine c.in-Some.answer) (sym flat) (taken_follow s c.args.e c.in-Some.answer h is)

pub take-requires-clause-walk : goal.take-requires-clause-walk
take-requires-clause-walk c =
    let s : Strand = the_view c.self.inside in
    let reply : IsReply s c.args.e = subst (λ (z : Strand). IsReply z c.args.e) (sym c.self.view_is) c.requires.answers in
    let few : length s.entries < s.limit = subst (λ (z : Strand). length z.entries < z.limit) (sym c.self.view_is) c.requires.room in
    let h : HasTaken s c.args.e = has_taken s c.args.e c.self.invariant.kept few reply in
    let is : reply_of c.args.e ≡ Some c.in-Some.answer = sym c.reply_of.ensures ∙ c.in-Some.is in
    let program : c.args.flow.now.program ≡ s.program = c.requires.program ∙ ap (λ (z : Strand). z.program) (sym c.self.view_is) in
    let flat : c.args.flow.now ≡ lowered s.program = flat_of c.args.flow.now s.program c.code.ensures.lowered program in
    subst (λ cs. CanWalkBy c.args.flow.now.program cs s.newest s.execution.walk c.in-Some.answer) (sym c.deref.ensures)
    (subst (λ p. CanWalkBy p s.filters s.newest s.execution.walk c.in-Some.answer) (sym program) (taken_walk s c.args.e c.in-Some.answer h is))

pub take_version-requires : goal.take_version-requires
take_version-requires c taken =
    let s : Strand = the_view c.self.inside in
    let reply : IsReply s c.args.e = subst (λ (z : Strand). IsReply z c.args.e) (sym c.self.view_is) c.requires.answers in
    let few : length s.entries < s.limit = subst (λ (z : Strand). length z.entries < z.limit) (sym c.self.view_is) c.requires.room in
    let h : HasTaken s c.args.e = has_taken s c.args.e c.self.invariant.kept few reply in
    let is : reply_of c.args.e ≡ Some c.in-Some.answer = sym c.reply_of.ensures ∙ c.in-Some.is in
    let room : length c.self.inside.versions.items < vec_capacity c.self.inside.versions =
    subst (λ n. length s.versions < n) (sym c.self.invariant.versions) (taken_room s c.args.e c.in-Some.answer h is taken) in
    omega (arith, room, c.self.inside.versions.ok.0)

pub invariant_of-self : goal.invariant_of-self
invariant_of-self c =
    let s : Strand = the_view c.self.inside in
    let reply : IsReply s c.args.e = subst (λ (z : Strand). IsReply z c.args.e) (sym c.self.view_is) c.requires.answers in
    let few : length s.entries < s.limit = subst (λ (z : Strand). length z.entries < z.limit) (sym c.self.view_is) c.requires.room in
    let h : HasTaken s c.args.e = has_taken s c.args.e c.self.invariant.kept few reply in
    let is : reply_of c.args.e ≡ Some c.in-Some.answer = sym c.reply_of.ensures ∙ c.in-Some.is in
    let program : c.args.flow.now.program ≡ s.program = c.requires.program ∙ ap (λ (z : Strand). z.program) (sym c.self.view_is) in
    let flat : c.args.flow.now ≡ lowered s.program = flat_of c.args.flow.now s.program c.code.ensures.lowered program in
    let takes : Takes (lowered s.program) s.filters s.newest s.execution c.take.new.self c.in-Some.answer =
    subst (λ d. Takes d s.filters s.newest s.execution c.take.new.self c.in-Some.answer) flat
    (subst (λ cs. Takes c.args.flow.now cs s.newest s.execution c.take.new.self c.in-Some.answer) c.deref.ensures c.take.ensures) in
    let kept : IsKept s h.birth c.args.e c.take.new.self = taken_kept s c.args.e c.in-Some.answer c.take.new.self h is takes in
    let view : IsView s c.args.e c.take_version.new.versions.items c.with-self-inside.result.items c.want_behind-self-inside.result s.limit = record {
      versions = c.take_version.ensures.versions ∙ newest_same c.args.e c.in-Some.answer s.newest s.versions is;
      entries = c.with-self-inside.ensures;
      want = c.want_behind-self-inside.ensures ∙ ap (λ o. want_behind o s.want) (sym is);
      limit = refl;
    } in
    let new : StrandInvariant (view_with s c.take_version.new.versions.items c.with-self-inside.result.items c.want_behind-self-inside.result s.limit c.take.new.self) =
    by_view (λ (z : Strand). StrandInvariant z) s c.args.e c.take.new.self c.take_version.new.versions.items c.with-self-inside.result.items c.want_behind-self-inside.result
    s.limit view kept.kept in
    record { versions = c.take_version.ensures.room ∙ c.self.invariant.versions; kept = new }

pub returns-clause-same : goal.returns-clause-same
returns-clause-same c =
    let s : Strand = the_view c.self.inside in
    let reply : IsReply s c.args.e = subst (λ (z : Strand). IsReply z c.args.e) (sym c.self.view_is) c.requires.answers in
    let few : length s.entries < s.limit = subst (λ (z : Strand). length z.entries < z.limit) (sym c.self.view_is) c.requires.room in
    let h : HasTaken s c.args.e = has_taken s c.args.e c.self.invariant.kept few reply in
    let is : reply_of c.args.e ≡ Some c.in-Some.answer = sym c.reply_of.ensures ∙ c.in-Some.is in
    let view : IsView s c.args.e c.take_version.new.versions.items c.with-self-inside.result.items c.want_behind-self-inside.result s.limit = record {
      versions = c.take_version.ensures.versions ∙ newest_same c.args.e c.in-Some.answer s.newest s.versions is;
      entries = c.with-self-inside.ensures;
      want = c.want_behind-self-inside.ensures ∙ ap (λ o. want_behind o s.want) (sym is);
      limit = refl;
    } in
    subst (λ (z : Strand). IsSameThread z z.birth (with_newest c.args.e z.newest z.versions) (z.entries ++ c.args.e ∷ [])
    (view_with s c.take_version.new.versions.items c.with-self-inside.result.items c.want_behind-self-inside.result s.limit c.take.new.self)) c.self.view_is
    (by_view (λ (z : Strand). IsSameThread s s.birth (with_newest c.args.e s.newest s.versions) (s.entries ++ c.args.e ∷ []) z) s c.args.e c.take.new.self c.take_version.new.versions.items
    c.with-self-inside.result.items c.want_behind-self-inside.result s.limit view
    (record { program = refl; filters = refl; thread = refl; limit = refl; birth = refl; versions = refl; entries = refl }))

pub returns-clause-part : goal.returns-clause-part
returns-clause-part c =
    let s : Strand = the_view c.self.inside in
    let reply : IsReply s c.args.e = subst (λ (z : Strand). IsReply z c.args.e) (sym c.self.view_is) c.requires.answers in
    let few : length s.entries < s.limit = subst (λ (z : Strand). length z.entries < z.limit) (sym c.self.view_is) c.requires.room in
    let h : HasTaken s c.args.e = has_taken s c.args.e c.self.invariant.kept few reply in
    let is : reply_of c.args.e ≡ Some c.in-Some.answer = sym c.reply_of.ensures ∙ c.in-Some.is in
    let program : c.args.flow.now.program ≡ s.program = c.requires.program ∙ ap (λ (z : Strand). z.program) (sym c.self.view_is) in
    let flat : c.args.flow.now ≡ lowered s.program = flat_of c.args.flow.now s.program c.code.ensures.lowered program in
    let takes : Takes (lowered s.program) s.filters s.newest s.execution c.take.new.self c.in-Some.answer =
    subst (λ d. Takes d s.filters s.newest s.execution c.take.new.self c.in-Some.answer) flat
    (subst (λ cs. Takes c.args.flow.now cs s.newest s.execution c.take.new.self c.in-Some.answer) c.deref.ensures c.take.ensures) in
    let kept : IsKept s h.birth c.args.e c.take.new.self = taken_kept s c.args.e c.in-Some.answer c.take.new.self h is takes in
    let view : IsView s c.args.e c.take_version.new.versions.items c.with-self-inside.result.items c.want_behind-self-inside.result s.limit = record {
      versions = c.take_version.ensures.versions ∙ newest_same c.args.e c.in-Some.answer s.newest s.versions is;
      entries = c.with-self-inside.ensures;
      want = c.want_behind-self-inside.ensures ∙ ap (λ o. want_behind o s.want) (sym is);
      limit = refl;
    } in
    subst (λ o. HasOwnPart (view_with s c.take_version.new.versions.items c.with-self-inside.result.items c.want_behind-self-inside.result s.limit c.take.new.self) o) (sym h.is)
    (by_view (λ (z : Strand). HasOwnPart z (Some h.birth)) s c.args.e c.take.new.self c.take_version.new.versions.items c.with-self-inside.result.items c.want_behind-self-inside.result
    s.limit view kept.part)

pub returns-clause-waits : goal.returns-clause-waits
returns-clause-waits c told =
    let s : Strand = the_view c.self.inside in
    let is : reply_of c.args.e ≡ Some c.in-Some.answer = sym c.reply_of.ensures ∙ c.in-Some.is in
    c.want_behind-self-inside.ensures ∙ (ap (λ o. want_behind o s.want) (sym is) ∙ (blocked_keeps_want c.args.e s.want told ∙ ap (λ (z : Strand). z.want) c.self.view_is))

pub returns-clause-stands : goal.returns-clause-stands
returns-clause-stands c told =
    let s : Strand = the_view c.self.inside in
    let reply : IsReply s c.args.e = subst (λ (z : Strand). IsReply z c.args.e) (sym c.self.view_is) c.requires.answers in
    let few : length s.entries < s.limit = subst (λ (z : Strand). length z.entries < z.limit) (sym c.self.view_is) c.requires.room in
    let h : HasTaken s c.args.e = has_taken s c.args.e c.self.invariant.kept few reply in
    let is : reply_of c.args.e ≡ Some c.in-Some.answer = sym c.reply_of.ensures ∙ c.in-Some.is in
    let program : c.args.flow.now.program ≡ s.program = c.requires.program ∙ ap (λ (z : Strand). z.program) (sym c.self.view_is) in
    let flat : c.args.flow.now ≡ lowered s.program = flat_of c.args.flow.now s.program c.code.ensures.lowered program in
    let takes : Takes (lowered s.program) s.filters s.newest s.execution c.take.new.self c.in-Some.answer =
    subst (λ d. Takes d s.filters s.newest s.execution c.take.new.self c.in-Some.answer) flat
    (subst (λ cs. Takes c.args.flow.now cs s.newest s.execution c.take.new.self c.in-Some.answer) c.deref.ensures c.take.ensures) in
    let kept : IsKept s h.birth c.args.e c.take.new.self = taken_kept s c.args.e c.in-Some.answer c.take.new.self h is takes in
    let view : IsView s c.args.e c.take_version.new.versions.items c.with-self-inside.result.items c.want_behind-self-inside.result s.limit = record {
      versions = c.take_version.ensures.versions ∙ newest_same c.args.e c.in-Some.answer s.newest s.versions is;
      entries = c.with-self-inside.ensures;
      want = c.want_behind-self-inside.ensures ∙ ap (λ o. want_behind o s.want) (sym is);
      limit = refl;
    } in
    subst (λ o. WaitsOn c.args.self.now (view_with s c.take_version.new.versions.items c.with-self-inside.result.items c.want_behind-self-inside.result s.limit c.take.new.self) o)
    (sym h.is) (
      c.take.ensures.place ∙ ap (λ (z : Strand). z.execution.place) c.self.view_is,
      by_view (λ (z : Strand). WaitsAt z h.birth z.execution.place) s c.args.e c.take.new.self c.take_version.new.versions.items c.with-self-inside.result.items c.want_behind-self-inside.result
          s.limit view (waits_behind s h.birth c.args.e c.take.new.self kept told),
    )

pub returns-clause-passes : goal.returns-clause-passes
returns-clause-passes c =
    let s : Strand = the_view c.self.inside in
    let reply : IsReply s c.args.e = subst (λ (z : Strand). IsReply z c.args.e) (sym c.self.view_is) c.requires.answers in
    let few : length s.entries < s.limit = subst (λ (z : Strand). length z.entries < z.limit) (sym c.self.view_is) c.requires.room in
    let h : HasTaken s c.args.e = has_taken s c.args.e c.self.invariant.kept few reply in
    let is : reply_of c.args.e ≡ Some c.in-Some.answer = sym c.reply_of.ensures ∙ c.in-Some.is in
    let program : c.args.flow.now.program ≡ s.program = c.requires.program ∙ ap (λ (z : Strand). z.program) (sym c.self.view_is) in
    let flat : c.args.flow.now ≡ lowered s.program = flat_of c.args.flow.now s.program c.code.ensures.lowered program in
    let takes : Takes (lowered s.program) s.filters s.newest s.execution c.take.new.self c.in-Some.answer =
    subst (λ d. Takes d s.filters s.newest s.execution c.take.new.self c.in-Some.answer) flat
    (subst (λ cs. Takes c.args.flow.now cs s.newest s.execution c.take.new.self c.in-Some.answer) c.deref.ensures c.take.ensures) in
    let kept : IsKept s h.birth c.args.e c.take.new.self = taken_kept s c.args.e c.in-Some.answer c.take.new.self h is takes in
    let view : IsView s c.args.e c.take_version.new.versions.items c.with-self-inside.result.items c.want_behind-self-inside.result s.limit = record {
      versions = c.take_version.ensures.versions ∙ newest_same c.args.e c.in-Some.answer s.newest s.versions is;
      entries = c.with-self-inside.ensures;
      want = c.want_behind-self-inside.ensures ∙ ap (λ o. want_behind o s.want) (sym is);
      limit = refl;
    } in
    subst (λ o. PassesAnew (view_with s c.take_version.new.versions.items c.with-self-inside.result.items c.want_behind-self-inside.result s.limit c.take.new.self) o) (sym h.is)
    (by_view (λ (z : Strand). PassesAnew z (Some h.birth)) s c.args.e c.take.new.self c.take_version.new.versions.items c.with-self-inside.result.items c.want_behind-self-inside.result
    s.limit view kept.passes)
