-- The strands of a run: what they keep from turn to turn.
use Rattle.std.proofs.Common.{ℕ, zero, suc, ◌-◌, ◌≤◌, ◌≡◌, ◌⊎◌, inl, inr, ◌==◌, Bool, true, false, List, [], ◌∷◌, ◌++◌, length, slice_get, slice_set, Option, Some, None, refl, sym, ap, ◌∙◌, subst, arith, if◌then◌else◌}
use Rattle.std.proofs.lemmas.List.{length-set}
use Rattle.std.proofs.lemmas.Bool.{ne_eqb}
use Rattle.std.specs.List.{list_any}
use Rattle.std.specs.Option.{option_flatten}
use Rattle.std.specs.Prelude.{◌↔◌, IsTrue}
use Rattle.loom_tree.specs.Tree.{Source}
use Rattle.loom_lang.specs.Places.{Place, place_at}
use Rattle.loom_trace.specs.declared.entry.Entry.{Entry}
use Rattle.loom_trace.specs.declared.entry.Entry.TheVariants as e
use Rattle.loom_trace.specs.Places.{has_place}
use Rattle.loom_event.specs.Entries.{thread_of, is_thread, is_some_thread, thread_entries}
use Rattle.loom_event.specs.Replay.{ThreadState, thread_at}
use Rattle.loom_law.specs.Walk.{Version}
use Rattle.loom_law.specs.Control.{Command, command_at, have_one_name, Control, first_control, after_entry, control, entries_of, versions_of, since_asked}
use Rattle.loom_law.specs.Lawful.{Setting, Front, has_any, refusal_of, refusal_in, refusal, IsFlagged, MayControl}
use Rattle.loom_law.proofs.Longer.{not_mine, not_taken}
use Rattle.loom_law.proofs.Obedience.{control_after_last}
use Rattle.loom_plan.specs.Compiled.{Compiled}
use Rattle.loom_strand.specs.declared.stage.Birth.{Birth}
use Rattle.loom_strand.specs.Strand.{Strand}
use Rattle.loom_world.specs.declared.choice.Choice.TheVariants as c
use Rattle.loom_world.specs.declared.choice.Turned.{Turned}
use Rattle.loom_world.specs.declared.choice.Turned.TheVariants as r
use Rattle.loom_world.specs.Book.{Book, setting_of, setting, front, stand_at, AreNoStands, IsOfSameRun}
use Rattle.loom_world.specs.Flags.{AreFlagsFor, IsUnderWay}
use Rattle.loom_world.specs.Turned.{Turns}
use Rattle.loom_world.specs.Threads.{IsBirthOf, HasKeptAway, HasPassedNone, IsStrandOf, HasStrands, HasSameCall, KeepsThreads, KeepsOthers, AreNew}
use Rattle.loom_world.proofs.SinceAsked.{nothing_since}

-- Each of a list

-- with one more
pub each_more : {A : Type 0} (P : ℕ → A → Type 0) (xs : List A) (x : A) → ((i : ℕ) (y : A) → slice_get xs i ≡ Some y → P i y) → P (length xs) x
    → (i : ℕ) (y : A) → slice_get (xs ++ x ∷ []) i ≡ Some y → P i y
each_more P [] x h last zero y is = let same : x ≡ y = cc in subst (P 0) same last
each_more P [] x h last (suc i) y is = cc
each_more P (z ∷ xs) x h last zero y is = h zero y is
each_more P (z ∷ xs) x h last (suc i) y is = each_more (λ j. P (suc j)) xs x (λ j w g. h (suc j) w g) last i y is

-- with another in one place
each_set : {A : Type 0} (P Q : ℕ → A → Type 0) (xs : List A) (n : ℕ) (x : A) → ((i : ℕ) (y : A) → slice_get xs i ≡ Some y → P i y)
    → ((i : ℕ) (y : A) → (n ≡ i → ⊥) → P i y → Q i y) → Q n x → (i : ℕ) (y : A) → slice_get (slice_set xs n x) i ≡ Some y → Q i y
each_set P Q [] n x h keep here i y is = cc
each_set P Q (z ∷ xs) zero x h keep here zero y is = let same : x ≡ y = cc in subst (Q 0) same here
each_set P Q (z ∷ xs) zero x h keep here (suc i) y is = keep (suc i) y (λ e. cc) (h (suc i) y is)
each_set P Q (z ∷ xs) (suc n) x h keep here zero y is = keep zero y (λ e. cc) (h zero y is)
each_set P Q (z ∷ xs) (suc n) x h keep here (suc i) y is =
    each_set (λ j. P (suc j)) (λ j. Q (suc j)) xs n x (λ j w g. h (suc j) w g) (λ j w ne. keep (suc j) w (λ e. ne (let same : n ≡ j = cc in same))) here i y is

-- A thread made no more entries than all threads

count_more : (t : ℕ) (o : Option ℕ) (x : Entry) (ys : List Entry) (n : ℕ) → length ys ≤ n
    → length (if is_thread t o then x ∷ ys else ys) ≤ (if is_some_thread o then suc n else n)
count_more t None x ys n h = h
count_more t (Some u) x ys n h = by_own (u == t)
  where
    by_own : (b : Bool) → length (if b then x ∷ ys else ys) ≤ suc n
    by_own true = omega (arith, h)
    by_own false = omega (arith, h)

pub entries_few : (t : ℕ) (es : List Entry) → length (entries_of t es) ≤ thread_entries es
entries_few t [] = omega arith
entries_few t (x ∷ es) = count_more t (thread_of x) x (entries_of t es) (thread_entries es) (entries_few t es)

-- Births

pub birth_kept : (o n : Option ThreadState) (b : Option Birth) → ((x : ThreadState) → o ≡ Some x → (y : ThreadState) × (n ≡ Some y) × HasSameCall x y) → IsBirthOf o b → IsBirthOf n b
birth_kept o n None k h = tt
birth_kept None n (Some b) k h = absurd h
birth_kept (Some x) n (Some b) k h =
    let m = k x refl in
    subst (λ z. IsBirthOf z (Some b)) (sym m.1) (h.0 ∙ sym m.2.func, h.1 ∙ sym m.2.args)

-- Before the run

none_noted : (k : ℕ) (o : Option (Option ℕ)) → ((x : Option ℕ) → o ≡ Some x → x ≡ None) → option_flatten o ≡ Some k → ⊥
none_noted k None none is = cc
none_noted k (Some None) none is = cc
none_noted k (Some (Some j)) none is = let no : Some j ≡ None = none (Some j) refl in cc

pub new_strands : (b : Book) (p : Source) (cs : List (Option Compiled)) (n : ℕ) (ss : List Strand) → b.program ≡ p → b.filters ≡ cs → b.limit ≡ n → b.entries ≡ [] → AreNoStands b.stands
    → AreNew p cs n ss → HasStrands b ss
new_strands b p cs n ss program filters limit none stands new = record {
  count = new.count;
  each = λ i s is. let h = new.each i s is in record {
    part = record {
      program = h.program ∙ sym program;
      filters = h.filters ∙ sym filters;
      versions = h.versions ∙ sym (ap (versions_of b.commands (suc i)) none);
      keeps_away = subst (λ o. HasKeptAway b (suc i) s o) (sym h.birth) tt;
      thread = h.thread;
      limit = h.limit ∙ sym limit;
      birth = subst (λ o. IsBirthOf (thread_at b.store (suc i)) o) (sym h.birth) tt;
      unborn = λ g. h.entries;
      entries = h.entries ∙ sym (ap (entries_of (suc i)) none);
    };
    stands = λ k there. absurd (none_noted k (slice_get b.stands i) (λ x at. stands.1 i x at) there);
    passes = subst (λ o. HasPassedNone b (suc i) s o) (sym h.birth) tt;
  };
}

-- The command that is under way is the same one in another book of the run.

same_setting : (old new : Book) → IsOfSameRun old new → setting new ≡ setting old
same_setting old new run =
    ap (λ p. setting_of p new.commands new.limit) run.program ∙ (ap (λ cs. setting_of old.program cs new.limit) run.commands ∙ ap (λ n. setting_of old.program old.commands n) run.limit)

refused_alike : (s : Setting) (c d : Control) (k : ℕ) (o : Option Command) → d.version ≡ c.version → refusal_in s d k o ≡ refusal_in s c k o
refused_alike s c d k None same = refl
refused_alike s c d k (Some x) same =
    ap (λ (v : Version). refusal_of x.action (list_any (λ j. have_one_name s.commands j k) v.active) (length v.active)) same

under_way_before : (old new : Book) (k : ℕ) → IsOfSameRun old new → Control.asked (front new).control ≡ Control.asked (front old).control
    → Control.version (front new).control ≡ Control.version (front old).control → IsUnderWay new k → IsUnderWay old k
under_way_before old new k run asked version h =
    let refused : refusal (setting new) (front new).control k ≡ refusal (setting old) (front old).control k =
    ap (λ s. refusal s (front new).control k) (same_setting old new run)
    ∙ refused_alike (setting old) (front old).control (front new).control k (command_at old.commands k) version in
    record { asked = sym asked ∙ h.asked; not_refused = sym refused ∙ h.not_refused }

flags_before : (old new : Book) (k : ℕ) (set : List ℕ) → IsOfSameRun old new → AreFlagsFor new k set → AreFlagsFor old k set
flags_before old new k set run h =
    subst (λ (s : Setting). (q : ℕ) (y : Place) → place_at s.program q ≡ Some y → IsTrue (has_place set q) ↔ IsFlagged s k y) (same_setting old new run) h

-- Behind a turn of one thread

kept_elsewhere : (old new : Book) (t u : ℕ) (s : Strand) (o : Option Birth) → (u == t) ≡ false → IsOfSameRun old new → KeepsOthers old t new → HasKeptAway old u s o → HasKeptAway new u s o
kept_elsewhere old new t u s None other run others h = tt
kept_elsewhere old new t u s (Some x) other run others h =
    λ k set way flags any more.
    h k set (under_way_before old new k run others.asked others.version way) (flags_before old new k set run flags) (ap has_any (sym (others.since u other)) ∙ any) more

-- Where no more is noted of it.
passed_still : (old new : Book) (u : ℕ) (s : Strand) (o : Option Birth) → stand_at new.stands u ≡ stand_at old.stands u → HasPassedNone old u s o → HasPassedNone new u s o
passed_still old new u s None same h = tt
passed_still old new u s (Some x) same h = λ note some lives places. h (sym same ∙ note) some lives places

strand_elsewhere : (old new : Book) (t u : ℕ) (s : Strand) → (u == t) ≡ false → IsOfSameRun old new → KeepsThreads old.store new.store → KeepsOthers old t new → IsStrandOf old u s
    → IsStrandOf new u s
strand_elsewhere old new t u s other run threads others h = record {
  part = record {
    program = h.part.program ∙ sym run.program;
    filters = h.part.filters ∙ sym run.filters;
    versions = h.part.versions ∙ sym (others.versions u other);
    keeps_away = kept_elsewhere old new t u s s.birth other run others h.part.keeps_away;
    thread = h.part.thread;
    limit = h.part.limit ∙ sym run.limit;
    birth = birth_kept (thread_at old.store u) (thread_at new.store u) s.birth (threads u) h.part.birth;
    unborn = h.part.unborn;
    entries = h.part.entries ∙ sym (others.entries u other);
  };
  stands = λ k is. h.stands k (sym (others.stands u other) ∙ is);
  passes = passed_still old new u s s.birth (others.stands u other) h.passes;
}

pub strand_at : (b : Book) (ss : List Strand) (t : ℕ) (s : Strand) → HasStrands b ss → 1 ≤ t → slice_get ss (t - 1) ≡ Some s → IsStrandOf b t s
strand_at b ss t s h first is = let it : suc (t - 1) ≡ t = omega (arith, first) in subst (λ n. IsStrandOf b n s) it (h.each (t - 1) s is)

pub strands_turned : (old new : Book) (ss : List Strand) (t : ℕ) (s : Strand) → HasStrands old ss → 1 ≤ t → IsOfSameRun old new → KeepsThreads old.store new.store → KeepsOthers old t new
    → IsStrandOf new t s → HasStrands new (slice_set ss (t - 1) s)
strands_turned old new ss t s h first run threads others own = record {
  count = length-set ss (t - 1) s ∙ h.count;
  each =
      each_set (λ i y. IsStrandOf old (suc i) y) (λ i y. IsStrandOf new (suc i) y) ss (t - 1) s h.each
      (λ i y ne is.
      let other : (suc i == t) ≡ false = ne_eqb (suc i) t (λ g. ne (omega (arith, g))) in
      strand_elsewhere old new t (suc i) y other run threads others is)
      (let it : t ≡ suc (t - 1) = omega (arith, first) in subst (λ n. IsStrandOf new n s) it own);
}

-- Behind a turn of control

-- a command is asked with the entry, or none is asked behind it
asked_or_none : (s : Setting) (f : Front) (x : Entry) → MayControl s f x [] → ((k : ℕ) × (x ≡ e.Asked k)) ⊎ (Control.asked (after_entry s.commands f.control x) ≡ None)
asked_or_none s f (e.Asked k) may = inl (k, refl)
asked_or_none s f (e.Refused k n m) may = inr refl
asked_or_none s f (e.Installed k v ps) may = inr refl
asked_or_none s f (e.Removed k v ps) may = inr refl
asked_or_none s f (e.Stalled k t l) may = inr refl
asked_or_none s f (e.Cut k) may = inr refl
asked_or_none s f (e.Unreached k) may = inr may.0
asked_or_none s f (e.Finish kind) may = inr may.1.0
asked_or_none s f _ may = absurd may

-- so no thread has made an entry since the command was asked that is asked now
none_since : (old new : Book) (x : Entry) (k t : ℕ) → new.commands ≡ old.commands → new.entries ≡ old.entries ++ x ∷ [] → MayControl (setting old) (front old) x []
    → Control.asked (front new).control ≡ Some k → has_any (entries_of t (since_asked new.entries)) ≡ true → ⊥
none_since old new x k t commands one may asked any = by_entry (asked_or_none (setting old) (front old) x may)
  where
    by_entry : ((j : ℕ) × (x ≡ e.Asked j)) ⊎ (Control.asked (after_entry old.commands (front old).control x) ≡ None) → ⊥
    by_entry (inl h) =
        let nothing : since_asked new.entries ≡ [] =
        ap since_asked one ∙ (ap (λ y. since_asked (old.entries ++ y ∷ [])) h.1 ∙ nothing_since old.entries h.0) in
        let no : false ≡ true = sym (ap (λ es. has_any (entries_of t es)) nothing) ∙ any in cc
    by_entry (inr none) =
        let last : (front new).control ≡ after_entry old.commands (front old).control x =
        ap (λ cs. control cs new.entries) commands ∙ (ap (control old.commands) one ∙ control_after_last old.commands first_control old.entries x) in
        let no : None ≡ Some k = sym none ∙ (sym (ap (λ (d : Control). d.asked) last) ∙ asked) in cc

kept_controlled : (old new : Book) (x : Entry) (t : ℕ) (s : Strand) (o : Option Birth) → new.commands ≡ old.commands → new.entries ≡ old.entries ++ x ∷ []
    → MayControl (setting old) (front old) x [] → HasKeptAway new t s o
kept_controlled old new x t s None commands one may = tt
kept_controlled old new x t s (Some b) commands one may = λ k set way flags any more. absurd (none_since old new x k t commands one may way.asked any)

strand_controlled : (old new : Book) (x : Entry) (t : ℕ) (s : Strand) → IsOfSameRun old new → new.store ≡ old.store → new.stands ≡ old.stands → new.entries ≡ old.entries ++ x ∷ []
    → thread_of x ≡ None → MayControl (setting old) (front old) x [] → IsStrandOf old t s → IsStrandOf new t s
strand_controlled old new x t s run store stands one of may h =
    let other : is_thread t (thread_of x) ≡ false = ap (is_thread t) of in
    record {
      part = record {
        program = h.part.program ∙ sym run.program;
        filters = h.part.filters ∙ sym run.filters;
        versions = h.part.versions
            ∙ sym (ap (λ cs. versions_of cs t new.entries) run.commands ∙ (ap (versions_of old.commands t) one ∙ not_taken old.commands t x old.entries other));
        keeps_away = kept_controlled old new x t s s.birth run.commands one may;
        thread = h.part.thread;
        limit = h.part.limit ∙ sym run.limit;
        birth = subst (λ z. IsBirthOf (thread_at z t) s.birth) (sym store) h.part.birth;
        unborn = h.part.unborn;
        entries = h.part.entries ∙ sym (ap (entries_of t) one ∙ not_mine t x old.entries other);
      };
      stands = λ k is. h.stands k (sym (ap (λ xs. stand_at xs t) stands) ∙ is);
      passes = passed_still old new t s s.birth (ap (λ xs. stand_at xs t) stands) h.passes;
    }

pub strands_controlled : (old new : Book) (ss : List Strand) (w : Turned) → HasStrands old ss → IsOfSameRun old new → new.store ≡ old.store → new.stands ≡ old.stands
    → Turns old c.Control new w → HasStrands new ss
strands_controlled old new ss r.Moved h run store stands turns = record {
  count = h.count;
  each =
      λ i s is.
      strand_controlled old new turns.0.makes.entry (suc i) s run store stands turns.0.makes.one turns.0.makes.maker turns.0.next.may (h.each i s is);
}
strands_controlled old new ss (r.Idle w) h run store stands turns = subst (λ (b : Book). HasStrands b ss) (sym turns.1) h
