use Rattle.std.proofs.Common.{ℕ, ◌≡◌, ◌≤◌, ◌<◌, Bool, false, List, Option, length, map, sym, ap, subst, ◌∙◌, arith, refl}
use Rattle.std.proofs.lemmas.List.{length-map}
use Rattle.loom_command.specs.FilterFault.{most_clauses}
use Rattle.loom_law.specs.Filter.{is_unilateral}
use Rattle.loom_law.specs.Lawful.{filter_limit}
use Rattle.loom_ops.specs.Ops.{FilterLocks, Ops, PostTable, posts_at, has_filter, locks_in, empty_table, with_filter, KeepsLocks}
use Rattle.loom_ops.specs.Rows.{locks_of, befores_of, ops_of}
use Rattle.loom_ops.proofs.Keeping.{install_keeps, nobody_holds}
use Rattle.loom_ops.proofs.PostTables.{table_count}
use Rattle.loom_ops.proofs.PostReplay.{has_table, new_posts}
use Rattle.loom_ops.proofs.RowChanges.{install_rows, more_tables}
use Rattle.loom_ops.proofs.ops.Ops.install.Goals as goal

abbrev locks_with : ℕ → List Bool → List (Option (ℕ × ℕ)) → FilterLocks
locks_with k bs vs = record { number = k; alone = bs; befores = vs }

pub push-requires-2 : goal.push-requires-2
push-requires-2 c =
    let old : Ops = ops_of c.self.inside.filters.items c.self.inside.holders.items c.self.inside.posts.items in
    let room : length old.filters < filter_limit = subst (λ (o : Ops). length o.filters < filter_limit) (sym c.self.view_is) c.requires.room in
    omega (arith, room, length-map c.self.inside.filters.items locks_of, table_count c.self.inside.filters.items c.self.inside.holders.items c.self.inside.posts.items c.self.invariant)

pub invariant_of-self : goal.invariant_of-self
invariant_of-self c =
    let old : Ops = ops_of c.self.inside.filters.items c.self.inside.holders.items c.self.inside.posts.items in
    let new : has_filter old.filters c.args.k ≡ false = subst (λ (o : Ops). has_filter o.filters c.args.k ≡ false) (sym c.self.view_is) c.requires.new in
    let room : length old.filters < filter_limit = subst (λ (o : Ops). length o.filters < filter_limit) (sym c.self.view_is) c.requires.room in
    let few : length (map is_unilateral c.args.c.now.plan.rulings) ≤ most_clauses
    = subst (λ (bs : List Bool). length bs ≤ most_clauses) c.alone_flags.ensures.is c.alone_flags.ensures.few in
    let small : length c.args.c.now.plan.rulings ≤ most_clauses = omega (arith, few, length-map c.args.c.now.plan.rulings is_unilateral) in
    let locks : locks_with c.args.k c.alone_flags.result.items (befores_of c.events_before.result.items) ≡ locks_in c.args.k c.args.c.now.plan
    = ap (λ (bs : List Bool). locks_with c.args.k bs (befores_of c.events_before.result.items)) c.alone_flags.ensures.is
    ∙ ap (locks_with c.args.k (map is_unilateral c.args.c.now.plan.rulings)) c.events_before.ensures in
    subst KeepsLocks
    (sym (install_rows c.self.inside.filters.items c.push.new.self.items c.self.inside.holders.items c.self.inside.posts.items c.push-2.new.self.items _ _ (locks_in c.args.k c.args.c.now.plan) (empty_table c.args.k)
    c.push.ensures.items c.push-2.ensures.items locks refl))
    (install_keeps old c.args.k c.args.c.now.plan c.self.invariant new room small)

pub returns-clause-installed : goal.returns-clause-installed
returns-clause-installed c =
    let locks : locks_with c.args.k c.alone_flags.result.items (befores_of c.events_before.result.items) ≡ locks_in c.args.k c.args.c.now.plan
    = ap (λ (bs : List Bool). locks_with c.args.k bs (befores_of c.events_before.result.items)) c.alone_flags.ensures.is
    ∙ ap (locks_with c.args.k (map is_unilateral c.args.c.now.plan.rulings)) c.events_before.ensures in
    install_rows c.self.inside.filters.items c.push.new.self.items c.self.inside.holders.items c.self.inside.posts.items c.push-2.new.self.items _ _ (locks_in c.args.k c.args.c.now.plan) (empty_table c.args.k)
    c.push.ensures.items c.push-2.ensures.items locks refl
    ∙ ap (λ (o : Ops). with_filter o c.args.k c.args.c.now.plan) c.self.view_is

pub returns-clause-free : goal.returns-clause-free
returns-clause-free c n t =
    let old : Ops = ops_of c.self.inside.filters.items c.self.inside.holders.items c.self.inside.posts.items in
    nobody_holds old c.args.k n t c.self.invariant (subst (λ (o : Ops). has_filter o.filters c.args.k ≡ false) (sym c.self.view_is) c.requires.new)

pub returns-clause-anew : goal.returns-clause-anew
returns-clause-anew c n =
    let old : Ops = ops_of c.self.inside.filters.items c.self.inside.holders.items c.self.inside.posts.items in
    let new : has_filter old.filters c.args.k ≡ false = subst (λ (o : Ops). has_filter o.filters c.args.k ≡ false) (sym c.self.view_is) c.requires.new in
    ap (λ (ts : List PostTable). posts_at ts c.args.k n) (more_tables c.self.inside.posts.items c.push-2.new.self.items _ (empty_table c.args.k) c.push-2.ensures.items refl)
    ∙ new_posts old.posts c.args.k n (has_table old.posts old.filters c.args.k c.self.invariant.tables ∙ new)
