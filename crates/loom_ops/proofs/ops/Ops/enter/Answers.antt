use Rattle.std.proofs.Common.{ℕ, ◌≡◌, ◌<◌, true, false, Some, None, length, refl, sym, ap, ◌∙◌, subst, arith, List}
use Rattle.std.proofs.lemmas.List.{length-map}
use Rattle.loom_ops.specs.declared.rows.HolderRow.{HolderRow}
use Rattle.loom_ops.specs.Ops.{Ops, has_lock, has_holder, is_holder, owns, with_holder, KeepsLocks}
use Rattle.loom_ops.specs.Rows.{holder_of, holders_of_rows, ops_of, first_holder}
use Rattle.loom_ops.proofs.Holders.{none_holds, holder_holds, differ}
use Rattle.loom_ops.proofs.Keeping.{enter_keeps}
use Rattle.loom_ops.proofs.HolderRoom.{has_room}
use Rattle.loom_ops.proofs.RowChanges.{enter_rows}
use Rattle.loom_ops.proofs.ops.Ops.enter.Goals as goal

pub returns-in-Some : goal.returns-in-Some
returns-in-Some c =
    let found : first_holder (holders_of_rows c.self.inside.holders.items) c.args.k c.args.clause ≡ Some c.in-Some.by
    = sym (c.in-Some.ensures ∙ ap (λ (z : List HolderRow). first_holder (holders_of_rows z) c.args.k c.args.clause) c.as_slice.ensures.value) in
    let holds : is_holder c.args.self.now.holders c.args.k c.args.clause c.in-Some.by ≡ true
    = subst (λ (o : Ops). is_holder o.holders c.args.k c.args.clause c.in-Some.by ≡ true) c.self.view_is
    (holder_holds (holders_of_rows c.self.inside.holders.items) c.args.k c.args.clause c.in-Some.by c.self.invariant.one found) in
    (refl, (differ (is_holder c.args.self.now.holders c.args.k c.args.clause) c.in-Some.by c.args.t holds c.requires.outside, (holds, refl)))

pub insert-requires : goal.insert-requires
insert-requires c =
    let found : first_holder (holders_of_rows c.self.inside.holders.items) c.args.k c.args.clause ≡ None
    = sym (c.in-None.ensures ∙ ap (λ (z : List HolderRow). first_holder (holders_of_rows z) c.args.k c.args.clause) c.as_slice.ensures.value) in
    let there : has_lock (Ops.filters (ops_of c.self.inside.filters.items c.self.inside.holders.items c.self.inside.posts.items)) c.args.k c.args.clause ≡ true
    = subst (λ (o : Ops). has_lock o.filters c.args.k c.args.clause ≡ true) (sym c.self.view_is) c.requires.there in
    let alone : (u : ℕ) → owns (ops_of c.self.inside.filters.items c.self.inside.holders.items c.self.inside.posts.items) u ≡ true → u ≡ c.args.t
    = subst (λ (o : Ops). (u : ℕ) → owns o u ≡ true → u ≡ c.args.t) (sym c.self.view_is) c.requires.alone in
    let room : length (holders_of_rows c.self.inside.holders.items) < 128
    = has_room (ops_of c.self.inside.filters.items c.self.inside.holders.items c.self.inside.posts.items) c.args.k c.args.clause c.args.t c.self.invariant there
    (none_holds (holders_of_rows c.self.inside.holders.items) c.args.k c.args.clause found) alone in
    let few : length c.self.inside.holders.items < 128 = omega (arith, room, length-map c.self.inside.holders.items holder_of) in
    (omega arith, (omega arith, few))

pub invariant_of-self : goal.invariant_of-self
invariant_of-self c =
    let found : first_holder (holders_of_rows c.self.inside.holders.items) c.args.k c.args.clause ≡ None
    = sym (c.in-None.ensures ∙ ap (λ (z : List HolderRow). first_holder (holders_of_rows z) c.args.k c.args.clause) c.as_slice.ensures.value) in
    let there : has_lock (Ops.filters (ops_of c.self.inside.filters.items c.self.inside.holders.items c.self.inside.posts.items)) c.args.k c.args.clause ≡ true
    = subst (λ (o : Ops). has_lock o.filters c.args.k c.args.clause ≡ true) (sym c.self.view_is) c.requires.there in
    let alone : (u : ℕ) → owns (ops_of c.self.inside.filters.items c.self.inside.holders.items c.self.inside.posts.items) u ≡ true → u ≡ c.args.t
    = subst (λ (o : Ops). (u : ℕ) → owns o u ≡ true → u ≡ c.args.t) (sym c.self.view_is) c.requires.alone in
    subst KeepsLocks (sym (enter_rows c.self.inside.filters.items c.self.inside.holders.items c.insert.new.self.items c.self.inside.posts.items _ c.insert.ensures.items))
    (enter_keeps (ops_of c.self.inside.filters.items c.self.inside.holders.items c.self.inside.posts.items) c.args.k c.args.clause c.args.t c.self.invariant there
    (none_holds (holders_of_rows c.self.inside.holders.items) c.args.k c.args.clause found) alone)

pub returns-in-None : goal.returns-in-None
returns-in-None c =
    let found : first_holder (holders_of_rows c.self.inside.holders.items) c.args.k c.args.clause ≡ None
    = sym (c.in-None.ensures ∙ ap (λ (z : List HolderRow). first_holder (holders_of_rows z) c.args.k c.args.clause) c.as_slice.ensures.value) in (
      subst (λ (o : Ops). has_holder o.holders c.args.k c.args.clause ≡ false) c.self.view_is
          (none_holds (holders_of_rows c.self.inside.holders.items) c.args.k c.args.clause found),
      enter_rows c.self.inside.filters.items c.self.inside.holders.items c.insert.new.self.items c.self.inside.posts.items _ c.insert.ensures.items
          ∙ ap (λ (o : Ops). with_holder o c.args.k c.args.clause c.args.t) c.self.view_is,
    )
