-- What a thread asks of the locks it may ask.
use Rattle.std.proofs.Common.{ℕ, zero, suc, ◌≡◌, ◌==◌, ◌≤◌, true, false, List, [], ◌∷◌, ◌++◌, refl, sym, subst, ◌∙◌, arith}
use Rattle.loom_trace.specs.Limits.{thread_limit}
use Rattle.loom_trace.specs.declared.entry.Entry.{Entry}
use Rattle.loom_trace.specs.declared.request.Request.{Request}
use Rattle.loom_trace.specs.declared.request.Request.TheVariants as r
use Rattle.loom_event.specs.Answer.{asks_operation}
use Rattle.loom_law.specs.Walk.{enters, leave}
use Rattle.loom_law.specs.ThreadPart.{Own}
use Rattle.loom_law.specs.Control.{first_control, versions_of, entries_of}
use Rattle.loom_law.specs.Lawful.{plans, own, is_held_by, is_installed, IsLawful}
use Rattle.loom_law.specs.Laws.{HaveOnce}
use Rattle.loom_law.proofs.Holdings.{same_number}
use Rattle.loom_law.proofs.Earlier.{by_test}
use Rattle.loom_law.proofs.Balance.{first_sound}
use Rattle.loom_law.proofs.Obedience.{are_said}
use Rattle.loom_law.proofs.Leaves.{taken_once}
use Rattle.loom_law.proofs.Enough.{strict}
use Rattle.loom_law.proofs.Lawful.{balance, right_leaves, owed_installed}
use Rattle.loom_law.proofs.OnePart.{append_none}
use Rattle.loom_ops.specs.Ops.{owns}
use Rattle.loom_ops.specs.Laws.{HasSameWords, HasOwners}
use Rattle.loom_ops.proofs.LockReplay.{same_words, owners}
use Rattle.loom_strand.specs.Life.{has_none}
use Rattle.loom_world.specs.Book.{Book, setting, front}
use Rattle.loom_world.specs.BookInvariant.{Notes, BookInvariant}
use Rattle.loom_world.specs.Asking.{Asks}
use Rattle.loom_world.specs.Operating.{CanOperate}
use Rattle.loom_world.proofs.NoOrders.{each_excludes, nobody_off, no_wait, no_post}
use Rattle.loom_world.proofs.OwedBlocks.{OwesNext, owes_next, owes_leave}
use Rattle.loom_world.proofs.EnterFree.{MayEnter, owed_enter}
use Rattle.loom_world.proofs.ClauseLocks.{lock_told}

-- What a thread made first
record HasFirst (es : List Entry) : Type 0 where
  first : Entry
  rest : List Entry
  is : es ≡ first ∷ rest

has_first : (es : List Entry) → has_none es ≡ false → HasFirst es
has_first [] h = cc
has_first (x ∷ es) h = record { first = x; rest = es; is = refl }

its_entries : (b : Book) (n : Notes) → BookInvariant b n → IsLawful (setting b) (b.entries ++ [])
its_entries b n k = subst (λ es. IsLawful (setting b) es) (sym (append_none b.entries)) k.journal.lawful

-- no filter stands twice in a version that a thread took
versions_once : (b : Book) (n : Notes) → BookInvariant b n → (t : ℕ) → HaveOnce (versions_of b.commands t b.entries)
versions_once b n k t =
    taken_once b.commands t first_control b.entries (are_said (setting b) b.entries [] (strict (setting b) (b.entries ++ []) (its_entries b n k)).0) first_sound tt

-- Nobody holds a clause that keeps other threads off.
no_owner : (b : Book) (n : Notes) → BookInvariant b n → (t u : ℕ) → owns n.ops u ≡ true → u ≡ t
no_owner b n k t u holds =
    by_test (u == t) (u ≡ t) (λ same. same_number u t same)
    (λ other. absurd (nobody_off (setting b) (front b) k.journal.plans.exclusions t (HasOwners.off owners (setting b) (front b) n.ops t u k.version.ops holds other)))

can_enter : (b : Book) (n : Notes) → BookInvariant b n → (i l j c : ℕ) → suc i ≤ thread_limit → Asks b (suc i) (r.Enter l j c) → CanOperate n.ops (suc i) (r.Enter l j c)
can_enter b n k i l j c last asks =
    let x : Own = own (setting b) b.entries (suc i) asks.state in
    let o : OwesNext b.program (plans (setting b)) x l (enters j c) = owes_next b.program (plans (setting b)) x l j c asks.next in
    let f = has_first (entries_of (suc i) b.entries) (sym asks.begins) in
    let installed : is_installed (front b).control j ≡ true =
    owed_installed (setting b) b.entries [] (its_entries b n k) i (omega (arith, last)) asks.state o.part f.first f.rest f.is
    (asks.outrun refl refl) l (enters j c) j o.owes refl in
    let may = owed_enter b.program (plans (setting b)) x o.part (versions_once b n k (suc i)) l j c o.owes in
    let free : is_held_by (front b).control j c (suc i) ≡ false =
    sym (balance (setting b) b.entries [] (its_entries b n k) (suc i) asks.state o.part j c installed) ∙ MayEnter.free may in (
      lock_told (plans (setting b)) (front b).control n.ops j c k.version.ops installed (MayEnter.clause may),
      (HasSameWords.holds same_words (plans (setting b)) (front b).control n.ops j c (suc i) k.version.ops ∙ free, no_owner b n k (suc i)),
    )

pub can_operate : (b : Book) (n : Notes) (k : BookInvariant b n) (t : ℕ) (q : Request) → 1 ≤ t → t ≤ thread_limit → Asks b t q → asks_operation q ≡ true → CanOperate n.ops t q
can_operate b n k t (r.At l j ns) first last asks is = tt
can_operate b n k t (r.Past l j ns) first last asks is = tt
can_operate b n k t (r.Back l) first last asks is = tt
can_operate b n k t (r.Cross l y v i) first last asks is = tt
can_operate b n k zero (r.Enter l j c) first last asks is = absurd (let no : ⊥ = omega (arith, first) in no)
can_operate b n k (suc i) (r.Enter l j c) first last asks is = can_enter b n k i l j c last asks
can_operate b n k zero (r.Leave l j c) first last asks is = absurd (let no : ⊥ = omega (arith, first) in no)
can_operate b n k (suc i) (r.Leave l j c) first last asks is =
    let o : OwesNext b.program (plans (setting b)) (own (setting b) b.entries (suc i) asks.state) l (leave j c) =
    owes_leave b.program (plans (setting b)) (own (setting b) b.entries (suc i) asks.state) l j c asks.next in
    let f = has_first (entries_of (suc i) b.entries) (sym asks.begins) in
    let held : is_held_by (front b).control j c (suc i) ≡ true =
    right_leaves (setting b) b.entries [] (its_entries b n k) i (omega (arith, last)) asks.state o.part f.first f.rest f.is
    (asks.outrun refl refl) l j c o.owes in
    HasSameWords.holds same_words (plans (setting b)) (front b).control n.ops j c (suc i) k.version.ops ∙ held
can_operate b n k t (r.Post l j i) first last asks is =
    absurd (no_post b.program (plans (setting b)) (own (setting b) b.entries t asks.state) l j i (each_excludes b.program b.commands k.journal.plans.exclusions) asks.next)
can_operate b n k t (r.Wait l j i) first last asks is =
    absurd (no_wait b.program (plans (setting b)) (own (setting b) b.entries t asks.state) l j i (each_excludes b.program b.commands k.journal.plans.exclusions) asks.next)
can_operate b n k t _ first last asks is = cc
