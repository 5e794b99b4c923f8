-- The way of a thread, one step longer.
use Rattle.std.proofs.Common.{ℕ, suc, ◌≡◌, List, [], ◌∷◌, ◌++◌, ℤ, pos, negsuc, Some, None, refl, inl, inr, sym, ap, subst, ◌∙◌, append_assoc, append-nil}
use Rattle.loom_lang.specs.Trace.{Item, Outcome, Open, Act, made, begins, done, edge, enter, out}
use Rattle.loom_event.specs.TargetEvent.{entry_by}
use Rattle.loom_flow.specs.Flow.{Flow}
use Rattle.loom_flow.specs.Position.{Position}
use Rattle.loom_flow.specs.Question.{Question, read, write, lock, unlock, down, up, spawn, join, print}
use Rattle.loom_flow.specs.Progress.{Progress, goes, asks, traps, ends, nothing, progress}
use Rattle.loom_flow.specs.FlatTrace.{question_lists, runs, IsFlatTrace}
use Rattle.loom_law.specs.Walk.{Plans, Operation, PartStep, makes, items, filter_entries, entry_of_operation, Walk, unborn, after_item, after_operation, walk_from, MayStand, AreWoven}
use Rattle.loom_law.specs.Walk as walk
use Rattle.loom_law.specs.ThreadPart.{Own, walk_of, with_entry}
use Rattle.loom_law.proofs.Answers.{woven_last}
use Rattle.loom_strand.specs.Way.{thread_with, MayCome, Look, looks_nowhere, looks_ahead, looks_for_grant, IsNoTrap, IsSeen, IsWay}
use Rattle.loom_strand.proofs.Steps.{items_append, walk_append, told_append, IsMark, mark_untold, mark_coming, mark_stands, IsNoBegin, act_stands, act_coming}

-- Lists that may come

-- nothing may come, as where the thread breaks off
question_open : (c : Flow) (f line : ℕ) (q : Question) (behind : ℤ → Position) (n : ℕ) → question_lists (thread_with c.program f) line q (λ v. runs c (thread_with c.program f) n (behind v)) [] Open
question_open c f line (read w) behind n = (pos 0, inl (refl, refl))
question_open c f line (write w v) behind n = inl (refl, refl)
question_open c f line (lock m) behind n = inl (refl, refl)
question_open c f line (unlock m) behind n = inl (inl (refl, refl))
question_open c f line (down m) behind n = inl (refl, refl)
question_open c f line (up m) behind n = inl (inl (refl, refl))
question_open c f line (spawn g vs) behind n = inl (inl (refl, refl))
question_open c f line (join (pos k)) behind n = inl (inl (refl, refl))
question_open c f line (join (negsuc k)) behind n = inl (refl, refl)
question_open c f line (print v) behind n = inl (refl, refl)

pub none_comes : (c : Flow) (f : ℕ) (w : Progress) → MayCome c f w 0 [] Open
none_comes c f (goes None z) = (refl, refl)
none_comes c f (goes (Some i) z) = inl (refl, refl)
none_comes c f (asks line q behind) = question_open c f line q behind 0
none_comes c f (traps line k) = inl (refl, refl)
none_comes c f ends = inl (refl, refl)
none_comes c f nothing = (refl, refl)

-- a mark comes, and what comes behind it
pub mark_comes : (c : Flow) (f : ℕ) (i : Item) (y : Position) (n : ℕ) (is : List Item) (q : Outcome) → MayCome c f (progress c y) n is q → MayCome c f (goes (Some i) y) (suc n) (i ∷ is) q
mark_comes c f i y n is q h = inr (is, refl, h)

pub one_mark_comes : (c : Flow) (f : ℕ) (i : Item) (y : Position) → MayCome c f (goes (Some i) y) 0 (i ∷ []) Open
one_mark_comes c f i y = inr ([], refl, (refl, refl))

seen_mark : (look : Look) (i : Item) (is : List Item) → IsMark i → IsSeen look (i ∷ is)
seen_mark looks_nowhere i is h = tt
seen_mark looks_ahead i is h = tt
seen_mark looks_for_grant i is h = no_trap i h
  where
    no_trap : (j : Item) → IsMark j → IsNoTrap j
    no_trap (made l a) g = absurd g
    no_trap (begins l env) g = tt
    no_trap (done l) g = tt
    no_trap (edge l) g = tt
    no_trap (enter l env) g = tt
    no_trap (out l) g = tt

-- Ways

one_behind : (steps : List PartStep) (i : Item) (is : List Item) → items (steps ++ walk.goes i ∷ []) ++ is ≡ items steps ++ (i ∷ is)
one_behind steps i is = ap (λ us. us ++ is) (items_append steps (walk.goes i ∷ [])) ∙ append_assoc (items steps) (i ∷ []) is

none_behind : (steps : List PartStep) (l : ℕ) (o : Operation) (is : List Item) → items (steps ++ makes l o ∷ []) ++ is ≡ items steps ++ is
none_behind steps l o is = ap (λ us. us ++ is) (items_append steps (makes l o ∷ []) ∙ append-nil (items steps))

-- past a mark
pub way_past : (c : Flow) (plans : Plans) (x : Own) (i : Item) (y : Position) (look : Look) (steps : List PartStep) → IsMark i → (walk_of c.program plans x steps).owed ≡ []
    → IsWay c plans x (goes (Some i) y) look steps → IsWay c plans x (progress c y) looks_nowhere (steps ++ walk.goes i ∷ [])
way_past c plans x i y look steps mark none h = record {
  tells = told_append x.thread steps (walk.goes i ∷ []) ∙ (ap (λ es. filter_entries x.thread steps ++ es) (mark_untold x.thread i mark) ∙ (append-nil (filter_entries x.thread steps) ∙ h.tells));
  taken = ap (λ (z : Walk). z.coming) (walk_append c.program plans (unborn x.versions) steps (walk.goes i ∷ [])) ∙ (mark_coming c.program plans (walk_of c.program plans x steps) i mark ∙ h.taken);
  trace = λ is q n g. subst (λ us. IsFlatTrace c x.func x.args us q) (sym (one_behind steps i is)) (h.trace (i ∷ is) q (suc n) (mark_comes c x.func i y n is q g));
  woven = λ is q n g seen. woven_last c.program plans (unborn x.versions) steps (walk.goes i) is (h.woven (i ∷ is) q (suc n) (mark_comes c x.func i y n is q g) (seen_mark look i is mark))
      (mark_stands c.program (walk_of c.program plans x steps) i is mark none);
}

-- past no mark
pub way_by : (c : Flow) (plans : Plans) (x : Own) (y : Position) (look : Look) (steps : List PartStep) → IsWay c plans x (goes None y) look steps → IsWay c plans x (progress c y) look steps
way_by c plans x y look steps h = record {
  tells = h.tells;
  taken = h.taken;
  trace = λ is q n g. h.trace is q (suc n) g;
  woven = λ is q n g seen. h.woven is q (suc n) g seen;
}

-- An act comes next, whatever comes behind it from there.
abbrev pub ComesBefore : Flow → ℕ → Progress → Item → Progress → Type 0
ComesBefore c f w i v = (is : List Item) (q : Outcome) (n : ℕ) → MayCome c f v n is q → MayCome c f w (suc n) (i ∷ is) q

pub way_acts : (c : Flow) (plans : Plans) (x : Own) (w v : Progress) (l : ℕ) (a : Act) (look : Look) (steps : List PartStep) → IsNoBegin a → (walk_of c.program plans x steps).owed ≡ []
    → ComesBefore c x.func w (made l a) v → ((is : List Item) → IsSeen look (made l a ∷ is)) → IsWay c plans x w look steps
    → IsWay c plans (with_entry x (entry_by x.thread l a)) v looks_nowhere (steps ++ walk.goes (made l a) ∷ [])
way_acts c plans x w v l a look steps other none comes sees h = record {
  tells = told_append x.thread steps (walk.goes (made l a) ∷ []) ∙ ap (λ es. es ++ entry_by x.thread l a ∷ []) h.tells;
  taken = ap (λ (z : Walk). z.coming) (walk_append c.program plans (unborn x.versions) steps (walk.goes (made l a) ∷ [])) ∙ (act_coming c.program plans (walk_of c.program plans x steps) l a other ∙ h.taken);
  trace = λ is q n g. subst (λ us. IsFlatTrace c x.func x.args us q) (sym (one_behind steps (made l a) is)) (h.trace (made l a ∷ is) q (suc n) (comes is q n g));
  woven = λ is q n g seen. woven_last c.program plans (unborn x.versions) steps (walk.goes (made l a)) is (h.woven (made l a ∷ is) q (suc n) (comes is q n g) (sees is))
      (act_stands c.program (walk_of c.program plans x steps) l a is other none);
}

-- An operation takes no version.
pub way_makes : (c : Flow) (plans : Plans) (x : Own) (w : Progress) (l : ℕ) (o : Operation) (look look' : Look) (steps : List PartStep)
    → ((is : List Item) (q : Outcome) (n : ℕ) → MayCome c x.func w n is q → IsSeen look' is → IsSeen look is × MayStand c.program (walk_of c.program plans x steps) (makes l o) is)
    → Walk.coming (after_operation c.program plans (walk_of c.program plans x steps) o) ≡ (walk_of c.program plans x steps).coming → IsWay c plans x w look steps
    → IsWay c plans (with_entry x (entry_of_operation x.thread l o)) w look' (steps ++ makes l o ∷ [])
way_makes c plans x w l o look look' steps stands same h = record {
  tells = told_append x.thread steps (makes l o ∷ []) ∙ ap (λ es. es ++ entry_of_operation x.thread l o ∷ []) h.tells;
  taken = ap (λ (z : Walk). z.coming) (walk_append c.program plans (unborn x.versions) steps (makes l o ∷ [])) ∙ (same ∙ h.taken);
  trace = λ is q n g. subst (λ us. IsFlatTrace c x.func x.args us q) (sym (none_behind steps l o is)) (h.trace is q n g);
  woven = λ is q n g seen.
      let s : IsSeen look is × MayStand c.program (walk_of c.program plans x steps) (makes l o) is = stands is q n g seen in
      woven_last c.program plans (unborn x.versions) steps (makes l o) is (h.woven is q n g s.0) s.1;
}
