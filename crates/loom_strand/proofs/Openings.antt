-- Acts that may come next, and places that come next.
use Rattle.std.proofs.Common.{ℕ, ◌≡◌, List, [], ◌∷◌, ℤ, pos, negsuc, Option, Some, None, IfSome, refl, inl, inr, ap, ◌∙◌}
use Rattle.loom_lang.specs.Places.{Place}
use Rattle.loom_lang.specs.Trace as trace
use Rattle.loom_lang.specs.Trace.{Item, Outcome, Open, Act, made, begins, done, edge, enter, out, begin, end, trap, Cause, threads, not_spawned, not_held, overflow, Lists, emit, thread_end, finished}
use Rattle.loom_lang.specs.Acts.{Deed}
use Rattle.loom_event.specs.Answer.{grant_deed, trap_deed}
use Rattle.loom_flow.specs.Flow.{Flow}
use Rattle.loom_flow.specs.Position.{Position}
use Rattle.loom_flow.specs.Question.{Question, read, write, lock, unlock, down, up, spawn, join, print}
use Rattle.loom_flow.specs.Progress.{Progress, goes, asks, traps, ends, nothing}
use Rattle.loom_flow.specs.FlatTrace.{runs}
use Rattle.loom_law.specs.Walk.{Walk, request_place, place_of_item}
use Rattle.loom_strand.specs.PositionRequest.{question_request}
use Rattle.loom_strand.specs.Way.{end_line, thread_with, MayCome, Look, looks_nowhere, looks_ahead, looks_for_grant, IsNoTrap, IsSeen, IsJoining, IsNextPlace, IsNextMark}
use Rattle.loom_strand.specs.Strand.{IsMarkAt}
use Rattle.loom_strand.proofs.Steps.{IsNoBegin}

-- Acts

pub grants_open : (c : Flow) (f line : ℕ) (q : Question) (behind : ℤ → Position) (v : ℤ)
    → IfSome (grant_deed (question_request line q) v) (λ (d : Deed). MayCome c f (asks line q behind) 0 (made d.line d.act ∷ []) Open)
grants_open c f line (read w) behind v = (v, inr ([], refl, (refl, refl)))
grants_open c f line (write w u) behind v = inr ([], refl, (refl, refl))
grants_open c f line (lock m) behind v = inr ([], refl, (refl, refl))
grants_open c f line (unlock m) behind v = inr (inr ([], refl, (refl, refl)))
grants_open c f line (down s) behind v = inr ([], refl, (refl, refl))
grants_open c f line (up s) behind v = inr (inr ([], refl, (refl, refl)))
grants_open c f line (spawn g vs) behind (pos k) = inr (k, inr ([], refl, (refl, refl)))
grants_open c f line (spawn g vs) behind (negsuc k) = tt
grants_open c f line (join (pos k)) behind v = inr (inr ([], refl, (refl, refl)))
grants_open c f line (join (negsuc k)) behind v = tt
grants_open c f line (print u) behind v = inr ([], refl, (refl, refl))

pub traps_open : (c : Flow) (f line : ℕ) (q : Question) (behind : ℤ → Position) → IfSome (trap_deed (question_request line q)) (λ (d : Deed). MayCome c f (asks line q behind) 0 (made d.line d.act ∷ []) Open)
traps_open c f line (read w) behind = tt
traps_open c f line (write w u) behind = tt
traps_open c f line (lock m) behind = tt
traps_open c f line (unlock m) behind = inl (inr ([], refl, inl (refl, refl)))
traps_open c f line (down s) behind = tt
traps_open c f line (up s) behind = inl (inr ([], refl, inl (refl, refl)))
traps_open c f line (spawn g vs) behind = inl (inr ([], refl, inl (refl, refl)))
traps_open c f line (join (pos k)) behind = inl (inr ([], refl, inl (refl, refl)))
traps_open c f line (join (negsuc k)) behind = inr ([], refl, inl (refl, refl))
traps_open c f line (print u) behind = tt

-- An item comes next, and it is no begin.
pub record IsOpening (c : Flow) (f : ℕ) (w : Progress) (z : Walk) (y : Place) (look : Look) : Type 0 where
  pub item : Item
  pub comes : MayCome c f w 0 (item ∷ []) Open
  pub seen : IsSeen look (item ∷ [])
  pub place : place_of_item z (item ∷ []) ≡ Some y

-- no step looks for a grant but where the end of a thread is waited for
abbrev pub IsLookedAt : Look → Progress → Type 0
IsLookedAt looks_for_grant w = IsJoining w
IsLookedAt _ w = Unit {0}

seen_one : (look : Look) (i : Item) (w : Progress) → IsLookedAt look w → (IsJoining w → IsNoTrap i) → IsSeen look (i ∷ [])
seen_one looks_nowhere i w h g = tt
seen_one looks_ahead i w h g = tt
seen_one looks_for_grant i w h g = g h

ask_opens : (c : Flow) (f line : ℕ) (q : Question) (behind : ℤ → Position) (z : Walk) (y : Place) (look : Look) → IsLookedAt look (asks line q behind) → request_place z ≡ y → IsOpening c f (asks line q behind) z y look
ask_opens c f line (read w) behind z y look h e =
    record { item = made line (trace.read w (pos 0)); comes = (pos 0, inr ([], refl, (refl, refl))); seen = seen_one look _ (asks line (read w) behind) h (λ g. tt); place = ap {B = Option Place} Some e }
ask_opens c f line (write w v) behind z y look h e =
    record { item = made line (trace.write w v); comes = inr ([], refl, (refl, refl)); seen = seen_one look _ (asks line (write w v) behind) h (λ g. tt); place = ap {B = Option Place} Some e }
ask_opens c f line (lock m) behind z y look h e =
    record { item = made line (trace.lock m); comes = inr ([], refl, (refl, refl)); seen = seen_one look _ (asks line (lock m) behind) h (λ g. tt); place = ap {B = Option Place} Some e }
ask_opens c f line (unlock m) behind z y look h e =
    record { item = made line (trace.unlock m); comes = inr (inr ([], refl, (refl, refl))); seen = seen_one look _ (asks line (unlock m) behind) h (λ g. tt); place = ap {B = Option Place} Some e }
ask_opens c f line (down s) behind z y look h e =
    record { item = made line (trace.down s); comes = inr ([], refl, (refl, refl)); seen = seen_one look _ (asks line (down s) behind) h (λ g. tt); place = ap {B = Option Place} Some e }
ask_opens c f line (up s) behind z y look h e =
    record { item = made line (trace.up s); comes = inr (inr ([], refl, (refl, refl))); seen = seen_one look _ (asks line (up s) behind) h (λ g. tt); place = ap {B = Option Place} Some e }
ask_opens c f line (spawn n vs) behind z y look h e =
    record { item = made line (trap threads); comes = inl (inr ([], refl, inl (refl, refl))); seen = seen_one look _ (asks line (spawn n vs) behind) h (λ g. absurd g); place = ap {B = Option Place} Some e }
ask_opens c f line (join (pos k)) behind z y look h e =
    record { item = made line (trace.join k); comes = inr (inr ([], refl, (refl, refl))); seen = seen_one look _ (asks line (join (pos k)) behind) h (λ g. tt); place = ap {B = Option Place} Some e }
ask_opens c f line (join (negsuc k)) behind z y look h e =
    record { item = made line (trap (not_spawned (negsuc k))); comes = inr ([], refl, inl (refl, refl)); seen = seen_one look _ (asks line (join (negsuc k)) behind) h (λ g. absurd g); place = ap {B = Option Place} Some e }
ask_opens c f line (print v) behind z y look h e =
    record { item = made line (trace.print v); comes = inr ([], refl, (refl, refl)); seen = seen_one look _ (asks line (print v) behind) h (λ g. tt); place = ap {B = Option Place} Some e }

pub next_opens : (c : Flow) (f : ℕ) (w : Progress) (z : Walk) (y : Place) (look : Look) → IsLookedAt look w → IsNextPlace z w y → IsOpening c f w z y look
next_opens c f (goes None v) z y look h e = absurd e
next_opens c f (goes (Some (made l a)) v) z y look h e = absurd e
next_opens c f (goes (Some (begins l env)) v) z y look h e = absurd e
next_opens c f (goes (Some (done l)) v) z y look h e = absurd e
next_opens c f (goes (Some (edge l)) v) z y look h e =
    record { item = edge l; comes = inr ([], refl, (refl, refl)); seen = seen_one look (edge l) (goes (Some (edge l)) v) h (λ g. tt); place = ap {B = Option Place} Some e }
next_opens c f (goes (Some (enter n env)) v) z y look h e =
    record { item = enter n env; comes = inr ([], refl, (refl, refl)); seen = seen_one look (enter n env) (goes (Some (enter n env)) v) h (λ g. tt); place = ap {B = Option Place} Some e }
next_opens c f (goes (Some (out n)) v) z y look h e = absurd e
next_opens c f (asks line q behind) z y look h e = ask_opens c f line q behind z y look h e
next_opens c f (traps line k) z y look h e =
    record { item = made line (trap k); comes = inr ([], refl, inl (refl, refl)); seen = seen_one look (made line (trap k)) (traps line k) h (λ g. absurd g); place = ap {B = Option Place} Some e }
next_opens c f ends z y look h e =
    record { item = made (end_line c.program f) end; comes = inr ([], refl, (refl, inr refl)); seen = seen_one look _ ends h (λ g. absurd g); place = ap {B = Option Place} Some e }
next_opens c f nothing z y look h e = absurd e

-- A mark comes next.
pub record IsMarkOpening (c : Flow) (f : ℕ) (w : Progress) (y : Place) (look : Look) : Type 0 where
  pub item : Item
  pub comes : MayCome c f w 0 (item ∷ []) Open
  pub seen : IsSeen look (item ∷ [])
  pub passes : IsMarkAt item y

pub mark_opens : (c : Flow) (f : ℕ) (w : Progress) (y : Place) (look : Look) → IsLookedAt look w → IsNextMark w y → IsMarkOpening c f w y look
mark_opens c f (goes None v) y look h e = absurd e
mark_opens c f (goes (Some (made l a)) v) y look h e = absurd e
mark_opens c f (goes (Some (begins l env)) v) y look h e = absurd e
mark_opens c f (goes (Some (done l)) v) y look h e = absurd e
mark_opens c f (goes (Some (edge l)) v) y look h e =
    record { item = edge l; comes = inr ([], refl, (refl, refl)); seen = seen_one look (edge l) (goes (Some (edge l)) v) h (λ g. tt); passes = e }
mark_opens c f (goes (Some (enter n env)) v) y look h e =
    record { item = enter n env; comes = inr ([], refl, (refl, refl)); seen = seen_one look (enter n env) (goes (Some (enter n env)) v) h (λ g. tt); passes = e }
mark_opens c f (goes (Some (out n)) v) y look h e = absurd e
mark_opens c f (asks line q behind) y look h e = absurd e
mark_opens c f (traps line k) y look h e = absurd e
mark_opens c f ends y look h e = absurd e
mark_opens c f nothing y look h e = absurd e

-- Each list that may come has that place first.

act_item : (z : Walk) (l : ℕ) (a : Act) (is : List Item) → IsNoBegin a → place_of_item z (made l a ∷ is) ≡ Some (request_place z)
act_item z l begin is h = absurd h
act_item z l end is h = refl
act_item z l (trap c) is h = refl
act_item z l (trace.read x v) is h = refl
act_item z l (trace.write x v) is h = refl
act_item z l (trace.lock m) is h = refl
act_item z l (trace.unlock m) is h = refl
act_item z l (trace.down m) is h = refl
act_item z l (trace.up m) is h = refl
act_item z l (trace.spawn c f vs) is h = refl
act_item z l (trace.join c) is h = refl
act_item z l (trace.print v) is h = refl

emit_item : (z : Walk) (l : ℕ) (a : Act) (M : Lists) (i : Item) (is : List Item) (o : Outcome) → IsNoBegin a → emit (made l a) M (i ∷ is) o → place_of_item z (i ∷ is) ≡ Some (request_place z)
emit_item z l a M i is o other (inl h) = let no : i ∷ is ≡ [] = h.0 in cc
emit_item z l a M i is o other (inr (js, e, g)) = ap (place_of_item z) e ∙ act_item z l a js other

question_item : (c : Flow) (f line : ℕ) (q : Question) (behind : ℤ → Position) (n : ℕ) (z : Walk) (i : Item) (is : List Item) (o : Outcome)
    → MayCome c f (asks line q behind) n (i ∷ is) o → place_of_item z (i ∷ is) ≡ Some (request_place z)
question_item c f line (read w) behind n z i is o (v, h) = emit_item z line (trace.read w v) (runs c (thread_with c.program f) n (behind v)) i is o tt h
question_item c f line (write w v) behind n z i is o h = emit_item z line (trace.write w v) (runs c (thread_with c.program f) n (behind (pos 0))) i is o tt h
question_item c f line (lock m) behind n z i is o h = emit_item z line (trace.lock m) (runs c (thread_with c.program f) n (behind (pos 0))) i is o tt h
question_item c f line (unlock m) behind n z i is o (inl h) = emit_item z line (trap (not_held m)) (thread_end (end_line c.program f)) i is o tt h
question_item c f line (unlock m) behind n z i is o (inr h) = emit_item z line (trace.unlock m) (runs c (thread_with c.program f) n (behind (pos 0))) i is o tt h
question_item c f line (down m) behind n z i is o h = emit_item z line (trace.down m) (runs c (thread_with c.program f) n (behind (pos 0))) i is o tt h
question_item c f line (up m) behind n z i is o (inl h) = emit_item z line (trap (overflow m)) (thread_end (end_line c.program f)) i is o tt h
question_item c f line (up m) behind n z i is o (inr h) = emit_item z line (trace.up m) (runs c (thread_with c.program f) n (behind (pos 0))) i is o tt h
question_item c f line (spawn g vs) behind n z i is o (inl h) = emit_item z line (trap threads) (thread_end (end_line c.program f)) i is o tt h
question_item c f line (spawn g vs) behind n z i is o (inr (k, h)) = emit_item z line (trace.spawn k g vs) (runs c (thread_with c.program f) n (behind (pos k))) i is o tt h
question_item c f line (join (pos k)) behind n z i is o (inl h) = emit_item z line (trap (not_spawned (pos k))) (thread_end (end_line c.program f)) i is o tt h
question_item c f line (join (pos k)) behind n z i is o (inr h) = emit_item z line (trace.join k) (runs c (thread_with c.program f) n (behind (pos 0))) i is o tt h
question_item c f line (join (negsuc k)) behind n z i is o h = emit_item z line (trap (not_spawned (negsuc k))) (thread_end (end_line c.program f)) i is o tt h
question_item c f line (print v) behind n z i is o h = emit_item z line (trace.print v) (runs c (thread_with c.program f) n (behind (pos 0))) i is o tt h

mark_item : (z : Walk) (j : Item) (M : Lists) (i : Item) (is : List Item) (o : Outcome) (y : Place) → emit j M (i ∷ is) o → ((js : List Item) → place_of_item z (j ∷ js) ≡ Some y) → place_of_item z (i ∷ is) ≡ Some y
mark_item z j M i is o y (inl h) g = let no : i ∷ is ≡ [] = h.0 in cc
mark_item z j M i is o y (inr (js, e, k)) g = ap (place_of_item z) e ∙ g js

pub next_item : (c : Flow) (f : ℕ) (w : Progress) (n : ℕ) (z : Walk) (y : Place) (i : Item) (is : List Item) (o : Outcome) → IsNextPlace z w y → MayCome c f w n (i ∷ is) o → place_of_item z (i ∷ is) ≡ Some y
next_item c f (goes None v) n z y i is o e h = absurd e
next_item c f (goes (Some (made l a)) v) n z y i is o e h = absurd e
next_item c f (goes (Some (begins l env)) v) n z y i is o e h = absurd e
next_item c f (goes (Some (done l)) v) n z y i is o e h = absurd e
next_item c f (goes (Some (edge l)) v) n z y i is o e h = mark_item z (edge l) (runs c (thread_with c.program f) n v) i is o y h (λ js. ap {B = Option Place} Some e)
next_item c f (goes (Some (enter g env)) v) n z y i is o e h = mark_item z (enter g env) (runs c (thread_with c.program f) n v) i is o y h (λ js. ap {B = Option Place} Some e)
next_item c f (goes (Some (out l)) v) n z y i is o e h = absurd e
next_item c f (asks line q behind) n z y i is o e h = question_item c f line q behind n z i is o h ∙ ap {B = Option Place} Some e
next_item c f (traps line k) n z y i is o e h = emit_item z line (trap k) (thread_end (end_line c.program f)) i is o tt h ∙ ap {B = Option Place} Some e
next_item c f ends n z y i is o e h = emit_item z (end_line c.program f) end finished i is o tt h ∙ ap {B = Option Place} Some e
next_item c f nothing n z y i is o e h = absurd e
