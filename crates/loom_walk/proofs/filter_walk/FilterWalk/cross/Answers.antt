use Rattle.std.proofs.Common.{ℕ, ◌-◌, ◌≡◌, ◌⊎◌, inl, inr, true, List, [], length, refl, sym, ap, subst, ◌∙◌, arith}
use Rattle.std.specs.Prelude.{◌++◌, take, drop}
use Rattle.std.specs.List.{AllByRecursion, filter}
use Rattle.std.proofs.lemmas.List.{length-append, length-drop}
use Rattle.loom_law.specs.Filter.{has}
use Rattle.loom_law.specs.Walk.{new_filters}
use Rattle.loom_version.specs.Plans.{plans_in}
use Rattle.loom_walk.specs.declared.owed.OwedRow.{OwedRow}
use Rattle.loom_walk.specs.Owed.{Owed, HasOperations, filters_owed, queue, rows_of}
use Rattle.loom_walk.specs.ClauseRows.{holdings_of}
use Rattle.loom_walk.specs.Growth.{HaveNoMore, AreThere}
use Rattle.loom_walk.specs.FilterWalk.{FilterWalk, IsAt, HasNewBehind, HasLocalsAt}
use Rattle.loom_walk.proofs.NewFilters.{new_free, new_part, rest_is, new_among, have_place, begin_there}
use Rattle.loom_walk.proofs.OperationSteps.{crosses}
use Rattle.loom_walk.proofs.WalkCalls.{room_kept, queue_across, rows_across, room_across, both_have}
use Rattle.loom_walk.proofs.filter_walk.FilterWalk.cross.Goals as goal

pub slice_bounds-new_owed-start : goal.slice_bounds-new_owed-start
slice_bounds-new_owed-start c =
    let behind : HasNewBehind c.self.inside.version.active c.args.version.active
    = subst (λ (w : FilterWalk). HasNewBehind w.version.active c.args.version.active) (sym c.self.view_is) c.requires.behind in
    let count : c.count_staying-staying.result ≡ length (filter (has c.args.version.active) c.self.inside.version.active)
    = c.count_staying-staying.ensures ∙ ap (λ (js : List ℕ). length (filter (has c.args.version.active) js)) c.active.ensures.is in
    let part : take (length c.active-2.result.now - c.count_staying-staying.result) (drop c.count_staying-staying.result c.active-2.result.now) ≡ new_filters c.self.inside.version.active c.args.version.active
    = rest_is c.active-2.result.now c.count_staying-staying.result ∙ (ap (drop c.count_staying-staying.result) c.active-2.ensures.is ∙ new_part c.self.inside.version.active c.args.version.active c.count_staying-staying.result behind count) in
    omega (arith, count, ap length behind, ap length c.active-2.ensures.is, length-append (filter (has c.args.version.active) c.self.inside.version.active) (new_filters c.self.inside.version.active c.args.version.active))

pub new_owed-more-requires-clause-rows : goal.new_owed-more-requires-clause-rows
new_owed-more-requires-clause-rows c = c.self.invariant.rows.owed

pub new_owed-more-requires-clause-few : goal.new_owed-more-requires-clause-few
new_owed-more-requires-clause-few c =
    omega (arith, length-drop c.count_staying-staying.result c.active-2.result.now, ap length c.active-2.ensures.is, c.active-2.ensures.version.few)

pub new_owed-more-requires-clause-there : goal.new_owed-more-requires-clause-there
new_owed-more-requires-clause-there c k place own is =
    let behind : HasNewBehind c.self.inside.version.active c.args.version.active
    = subst (λ (w : FilterWalk). HasNewBehind w.version.active c.args.version.active) (sym c.self.view_is) c.requires.behind in
    let count : c.count_staying-staying.result ≡ length (filter (has c.args.version.active) c.self.inside.version.active)
    = c.count_staying-staying.ensures ∙ ap (λ (js : List ℕ). length (filter (has c.args.version.active) js)) c.active.ensures.is in
    let part : take (length c.active-2.result.now - c.count_staying-staying.result) (drop c.count_staying-staying.result c.active-2.result.now) ≡ new_filters c.self.inside.version.active c.args.version.active
    = rest_is c.active-2.result.now c.count_staying-staying.result ∙ (ap (drop c.count_staying-staying.result) c.active-2.ensures.is ∙ new_part c.self.inside.version.active c.args.version.active c.count_staying-staying.result behind count) in
    let here = subst (λ (w : FilterWalk). IsAt c.requires.at.0 (plans_in c.args.plans.now) w c.requires.at.1) (sym c.self.view_is) c.requires.at.2.0 in
    let there = begin_there c.requires.at.0 c.self.inside.spot c.requires.at.1.spot place is here.spot in
    have_place c.requires.at.0 c.args.plans.now c.args.version.active place there.0 c.requires.at.2.1.all there.1 k
    (new_among c.self.inside.version.active c.args.version.active k behind (subst (λ (js : List ℕ). has js k ≡ true) part own))

pub keep_filters-requires : goal.keep_filters-requires
keep_filters-requires c = c.self.invariant.rows.owed

pub append-requires-clause-tick : goal.append-requires-clause-tick
append-requires-clause-tick c = c.new_owed-more.ensures.grows.tick

pub append-requires-clause-back : goal.append-requires-clause-back
append-requires-clause-back c = c.new_owed-more.ensures.grows.back

pub append-requires-clause-line : goal.append-requires-clause-line
append-requires-clause-line c = c.new_owed-more.ensures.grows.line ∙ sym (ap (λ (x : Owed). x.line) c.keep_filters.ensures.same)

pub append-requires-clause-room : goal.append-requires-clause-room
append-requires-clause-room c =
    let behind : HasNewBehind c.self.inside.version.active c.args.version.active
    = subst (λ (w : FilterWalk). HasNewBehind w.version.active c.args.version.active) (sym c.self.view_is) c.requires.behind in
    let count : c.count_staying-staying.result ≡ length (filter (has c.args.version.active) c.self.inside.version.active)
    = c.count_staying-staying.ensures ∙ ap (λ (js : List ℕ). length (filter (has c.args.version.active) js)) c.active.ensures.is in
    let part : take (length c.active-2.result.now - c.count_staying-staying.result) (drop c.count_staying-staying.result c.active-2.result.now) ≡ new_filters c.self.inside.version.active c.args.version.active
    = rest_is c.active-2.result.now c.count_staying-staying.result ∙ (ap (drop c.count_staying-staying.result) c.active-2.ensures.is ∙ new_part c.self.inside.version.active c.args.version.active c.count_staying-staying.result behind count) in
    let own = rows_across c.self.inside.version.active c.args.version.active _ c.self.inside.owed.rows c.new_owed-more.result.rows behind part c.self.invariant.rows.own_owed c.new_owed-more.ensures.grows.filters in
    let room = room_across c.args.version.active c.new_owed-more.result.rows (rows_of c.args.version.active c.self.inside.owed.rows) 16 own c.active-2.ensures.version.few in
    omega (arith, room, ap (λ (x : Owed). length x.rows) c.keep_filters.ensures.same)

pub invariant_of-self : goal.invariant_of-self
invariant_of-self c =
    let behind : HasNewBehind c.self.inside.version.active c.args.version.active
    = subst (λ (w : FilterWalk). HasNewBehind w.version.active c.args.version.active) (sym c.self.view_is) c.requires.behind in
    let count : c.count_staying-staying.result ≡ length (filter (has c.args.version.active) c.self.inside.version.active)
    = c.count_staying-staying.ensures ∙ ap (λ (js : List ℕ). length (filter (has c.args.version.active) js)) c.active.ensures.is in
    let part : take (length c.active-2.result.now - c.count_staying-staying.result) (drop c.count_staying-staying.result c.active-2.result.now) ≡ new_filters c.self.inside.version.active c.args.version.active
    = rest_is c.active-2.result.now c.count_staying-staying.result ∙ (ap (drop c.count_staying-staying.result) c.active-2.ensures.is ∙ new_part c.self.inside.version.active c.args.version.active c.count_staying-staying.result behind count) in
    let own = rows_across c.self.inside.version.active c.args.version.active _ c.self.inside.owed.rows c.new_owed-more.result.rows behind part c.self.invariant.rows.own_owed c.new_owed-more.ensures.grows.filters in
    let kept : c.keep_filters.new.self.rows ≡ rows_of c.args.version.active c.self.inside.owed.rows = ap (λ (x : Owed). x.rows) c.keep_filters.ensures.same in
    let rows : c.append.new.self.rows ≡ c.new_owed-more.result.rows ++ c.keep_filters.new.self.rows = ap (λ (x : Owed). x.rows) c.append.ensures.same in
    record {
      rows = record {
        filters = c.go_over.ensures.filters;
        owed = subst (AllByRecursion HasOperations) (sym rows) (both_have c.new_owed-more.result.rows c.keep_filters.new.self.rows c.new_owed-more.ensures.grows.rows c.keep_filters.ensures.rows);
        own_owed = subst (λ (rs : List OwedRow). HaveNoMore (filters_owed rs) c.args.version.active) (sym (rows ∙ ap (λ (rs : List OwedRow). c.new_owed-more.result.rows ++ rs) kept)) own;
        depths = c.go_over-2.ensures.depths c.self.inside.depth c.self.invariant.rows.depths;
        own = c.go_over-2.ensures.filters;
        few_events = c.self.invariant.rows.few_events;
        few_regions = omega (arith, c.go_over-2.ensures.few, c.self.invariant.rows.few_regions);
      };
      regions = c.go_over-2.ensures.room ∙ c.self.invariant.regions;
    }

pub returns-clause-at : goal.returns-clause-at
returns-clause-at c p z filters locals h =
    let behind : HasNewBehind c.self.inside.version.active c.args.version.active
    = subst (λ (w : FilterWalk). HasNewBehind w.version.active c.args.version.active) (sym c.self.view_is) c.requires.behind in
    let count : c.count_staying-staying.result ≡ length (filter (has c.args.version.active) c.self.inside.version.active)
    = c.count_staying-staying.ensures ∙ ap (λ (js : List ℕ). length (filter (has c.args.version.active) js)) c.active.ensures.is in
    let part : take (length c.active-2.result.now - c.count_staying-staying.result) (drop c.count_staying-staying.result c.active-2.result.now) ≡ new_filters c.self.inside.version.active c.args.version.active
    = rest_is c.active-2.result.now c.count_staying-staying.result ∙ (ap (drop c.count_staying-staying.result) c.active-2.ensures.is ∙ new_part c.self.inside.version.active c.args.version.active c.count_staying-staying.result behind count) in
    let old = subst (λ (w : FilterWalk). IsAt p (plans_in c.args.plans.now) w z) (sym c.self.view_is) h in
    let own : (z.owed ≡ []) ⊎ HasLocalsAt p c.self.inside.spot c.args.locals.now z.spot
    = subst (λ (w : FilterWalk). (z.owed ≡ []) ⊎ HasLocalsAt p w.spot c.args.locals.now z.spot) (sym c.self.view_is) locals in
    let among : (k : ℕ) → has (take (length c.active-2.result.now - c.count_staying-staying.result) (drop c.count_staying-staying.result c.active-2.result.now)) k ≡ true → has (new_filters c.self.inside.version.active c.args.version.active) k ≡ true
    = λ k m. subst (λ (js : List ℕ). has js k ≡ true) part m in
    let all : AreThere p c.args.plans.now (take (length c.active-2.result.now - c.count_staying-staying.result) (drop c.count_staying-staying.result c.active-2.result.now))
    = λ k m. filters.all k (new_among c.self.inside.version.active c.args.version.active k behind (among k m)) in
    let held = c.go_over.ensures.holdings z.held old.holdings in
    let line : c.append.new.self.line ≡ c.self.inside.owed.line = ap (λ (x : Owed). x.line) c.append.ensures.same ∙ ap (λ (x : Owed). x.line) c.keep_filters.ensures.same in
    crosses p (plans_in c.args.plans.now) _ z c.args.version c.go_over.new.self c.go_over-2.new.self.notes c.append.new.self old held
    (c.go_over-2.ensures.notes (plans_in c.args.plans.now) z.frames old.regions) line
    (queue_across p (plans_in c.args.plans.now) z.spot c.self.inside.version.active c.args.version.active _ (queue c.self.inside.owed) (queue c.keep_filters.new.self) (queue c.append.new.self)
    c.new_owed-more.result c.self.inside.owed.line c.append.ensures.queue c.keep_filters.ensures.queue c.new_owed-more.ensures.grows part c.new_owed-more.ensures.nothing
    (λ some. c.new_owed-more.ensures.queue p z.spot (holdings_of c.args.version.active z.held) some all old.spot (by_owed own old.owed some) old.line held
    (λ k m g. new_free c.self.inside.clauses z.held c.self.inside.version.active c.args.version.active c.self.invariant.rows.filters old.holdings k m (among k g))))
  where
    by_owed : (z.owed ≡ []) ⊎ HasLocalsAt p c.self.inside.spot c.args.locals.now z.spot → z.owed ≡ queue c.self.inside.owed → (queue c.self.inside.owed ≡ [] → ⊥)
        → HasLocalsAt p c.self.inside.spot c.args.locals.now z.spot
    by_owed (inl none) same some = absurd (some (sym same ∙ none))
    by_owed (inr there) same some = there

pub returns-clause-room : goal.returns-clause-room
returns-clause-room c = room_kept c.args.self.now _ _ c.self.view_is refl (omega arith) c.go_over-2.ensures.few
