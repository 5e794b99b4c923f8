use Rattle.std.specs.List.{list_any}
use Rattle.std.specs.Cmp.Lexicographic.{pointwise}
use Rattle.loom_law.specs.Control.{have_one_name}
use Rattle.loom_law.specs.Lawful.{is_installed, is_name_used}
use Rattle.std.proofs.Common.{ℕ, ◌≡◌, ◌==◌, true, false, Some, get_or, refl, sym, ap, ◌∙◌, subst, arith}
use Rattle.std.specs.Arc.{arc_value}
use Rattle.loom_law.specs.Filter.{has}
use Rattle.loom_law.specs.Walk.{Plans}
use Rattle.loom_law.specs.Control.{command_at}
use Rattle.loom_version.specs.Plans.{plans_in}
use Rattle.loom_world.specs.Book.{Book, setting, front}
use Rattle.loom_world.specs.contracts.book.Book.{the_view}
use Rattle.loom_world.proofs.CommandReadings.{command_is, command_number, active_number, active_installed, names_are, none_named, has_at, any_more, any_whole}
use Rattle.loom_world.proofs.book.Book.named.Goals as goal

pub index-requires : goal.index-requires
index-requires c =
    let b : Book = the_view c.self.inside in
    let is : command_at b.commands c.args.k ≡ Some c.requires.there.0 = subst (λ (z : Book). command_at z.commands c.args.k ≡ Some c.requires.there.0) (sym c.self.view_is) c.requires.there.1 in
    let number = command_number b (plans_in (arc_value c.self.inside.plans)) c.self.inside.commands.items refl c.args.k c.requires.there.0 is in
    omega (arith, number.0, number.1)

pub overflow_sub-j : goal.overflow_sub-j
overflow_sub-j c =
    let b : Book = the_view c.self.inside in
    let ks : c.active-j-items.result.now ≡ c.self.inside.version.active = c.active-j-items.ensures.is in
    let there = subst (λ zs. has zs (get_or c.active-j-items.result.now c.active.j-index 0) ≡ true) ks (has_at c.active-j-items.result.now c.active.j-index c.active-test.true) in
    (active_number b _ c.self.invariant (plans_in (arc_value c.self.inside.plans)) c.self.inside.commands.items refl _ there).0

pub index-requires-in-active : goal.index-requires-in-active
index-requires-in-active c =
    let b : Book = the_view c.self.inside in
    let ks : c.active-j-items.result.now ≡ c.self.inside.version.active = c.active-j-items.ensures.is in
    let there = subst (λ zs. has zs (get_or c.active-j-items.result.now c.active.j-index 0) ≡ true) ks (has_at c.active-j-items.result.now c.active.j-index c.active-test.true) in
    let number = active_number b _ c.self.invariant (plans_in (arc_value c.self.inside.plans)) c.self.inside.commands.items refl _ there in
    omega (arith, number.0, number.1)

pub returns-then-eq-clause-some : goal.returns-then-eq-clause-some
returns-then-eq-clause-some c =
    let b : Book = the_view c.self.inside in
    let ps : Plans = plans_in (arc_value c.self.inside.plans) in
    let ks : c.active-j-items.result.now ≡ c.self.inside.version.active = c.active-j-items.ensures.is in
    let j : ℕ = get_or c.active-j-items.result.now c.active.j-index 0 in
    let there = subst (λ zs. has zs j ≡ true) ks (has_at c.active-j-items.result.now c.active.j-index c.active-test.true) in
    let number = active_number b _ c.self.invariant ps c.self.inside.commands.items refl j there in
    let one = command_is ps c.self.inside.commands.items j c.index-in-active.result.now number.0 number.1 c.index-in-active.ensures in
    let is : command_at b.commands c.args.k ≡ Some c.requires.there.0 = subst (λ (z : Book). command_at z.commands c.args.k ≡ Some c.requires.there.0) (sym c.self.view_is) c.requires.there.1 in
    let other_number = command_number b ps c.self.inside.commands.items refl c.args.k c.requires.there.0 is in
    let other = command_is ps c.self.inside.commands.items c.args.k c.index.result.now other_number.0 other_number.1 c.index.ensures in
    let names = names_are b.commands j c.args.k (ps j) (ps c.args.k) c.index-in-active.result.now c.index.result.now one other in
    let same : pointwise ◌==◌ c.index-in-active.result.now.name c.index.result.now.name ≡ true =
    ap (λ z. pointwise ◌==◌ z c.index.result.now.name) (sym c.bytes.ensures) ∙ (ap (λ z. pointwise ◌==◌ c.bytes.result.now z) (sym c.bytes-name.ensures) ∙ (sym c.eq.ensures ∙ c.if-eq.true)) in (
      subst (λ (z : Book). is_installed (front z).control j ≡ true) c.self.view_is (active_installed b _ c.self.invariant c.active-j-items.result.now c.active.j-index ks c.active-test.true),
      subst (λ (z : Book). have_one_name z.commands j c.args.k ≡ true) c.self.view_is (names ∙ same),
    )

pub active-preserved : goal.active-preserved
active-preserved c =
    let b : Book = the_view c.self.inside in
    let ps : Plans = plans_in (arc_value c.self.inside.plans) in
    let ks : c.active-j-items.result.now ≡ c.self.inside.version.active = c.active-j-items.ensures.is in
    let j : ℕ = get_or c.active-j-items.result.now c.active.j-index 0 in
    let there = subst (λ zs. has zs j ≡ true) ks (has_at c.active-j-items.result.now c.active.j-index c.active-test.true) in
    let number = active_number b _ c.self.invariant ps c.self.inside.commands.items refl j there in
    let one = command_is ps c.self.inside.commands.items j c.index-in-active.result.now number.0 number.1 c.index-in-active.ensures in
    let is : command_at b.commands c.args.k ≡ Some c.requires.there.0 = subst (λ (z : Book). command_at z.commands c.args.k ≡ Some c.requires.there.0) (sym c.self.view_is) c.requires.there.1 in
    let other_number = command_number b ps c.self.inside.commands.items refl c.args.k c.requires.there.0 is in
    let other = command_is ps c.self.inside.commands.items c.args.k c.index.result.now other_number.0 other_number.1 c.index.ensures in
    let names = names_are b.commands j c.args.k (ps j) (ps c.args.k) c.index-in-active.result.now c.index.result.now one other in
    let differ : pointwise ◌==◌ c.index-in-active.result.now.name c.index.result.now.name ≡ false =
    ap (λ z. pointwise ◌==◌ z c.index.result.now.name) (sym c.bytes.ensures) ∙ (ap (λ z. pointwise ◌==◌ c.bytes.result.now z) (sym c.bytes-name.ensures) ∙ (sym c.eq.ensures ∙ c.if-eq.false)) in
    let here_ : have_one_name c.args.self.now.commands j c.args.k ≡ false = subst (λ (z : Book). have_one_name z.commands j c.args.k ≡ false) c.self.view_is (names ∙ differ) in
    any_more (λ i. have_one_name c.args.self.now.commands i c.args.k) c.active-j-items.result.now c.active.j-index c.active-test.true c.active.invariant here_

pub returns-clause-none : goal.returns-clause-none
returns-clause-none c =
    let b : Book = the_view c.self.inside in
    let none = any_whole (λ i. have_one_name c.args.self.now.commands i c.args.k) c.active-j-items.result.now c.active.j-index c.active-test.false c.active.invariant in
    let so : list_any (λ i. have_one_name b.commands i c.args.k) c.active-j-items.result.now ≡ false =
    subst (λ (z : Book). list_any (λ i. have_one_name z.commands i c.args.k) c.active-j-items.result.now ≡ false) (sym c.self.view_is) none in
    subst (λ (z : Book). is_name_used (setting z) (front z).control c.args.k ≡ false) c.self.view_is
    (none_named b _ c.self.invariant c.args.k c.active-j-items.result.now c.active-j-items.ensures.is so)
