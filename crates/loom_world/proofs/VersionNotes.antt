-- What a book notes of the newest version, with one more control entry.
use Rattle.std.proofs.Common.{ℕ, suc, ◌<◌, ◌≤◌, ◌≡◌, ◌==◌, Bool, true, false, not, List, [], ◌∷◌, ◌++◌, map, Option, Some, None, refl, sym, ap, ◌∙◌, subst, arith}
use Rattle.std.specs.Cmp.Lexicographic.{same_text, bytes_decides}
use Rattle.std.proofs.lemmas.Bool.{eq-eqb}
use Rattle.loom_trace.specs.declared.entry.Entry.{Entry}
use Rattle.loom_trace.specs.declared.entry.Entry.TheVariants as e
use Rattle.loom_trace.specs.declared.entry.What.{What}
use Rattle.loom_law.specs.Filter.{Plan, has}
use Rattle.loom_law.specs.Walk.{Version}
use Rattle.loom_law.specs.Control.{Command, command_at, install, means, name_in, have_one_name, Control, after_entry}
use Rattle.loom_law.specs.Lawful.{plans, is_name_used, is_installed}
use Rattle.loom_law.proofs.Holdings.{either_of, same_number}
use Rattle.loom_version.specs.Version.{AreBelow, version_with, version_without, without_number}
use Rattle.loom_version.specs.Laws.{HaveOwnNames}
use Rattle.loom_version.proofs.ActiveNumbers.{has_more, has_filter}
use Rattle.loom_version.proofs.OwnNames.{version_behind_removal, own_names, numbers_below}
use Rattle.loom_ops.specs.Ops.{Ops, locks_in, with_filter, without_filter, KeepsLocks}
use Rattle.loom_ops.specs.Laws.{IsOpsOf, HasReplay}
use Rattle.loom_ops.proofs.LockReplay.{replay}
use Rattle.loom_world.specs.Book.{Book, setting, front}
use Rattle.loom_world.specs.BookInvariant.{Notes, latest, HasVersion}
use Rattle.loom_world.proofs.ControlEntries.{control_book, control_is, IsQuiet}

abbrev pub with_notes : Notes → Bool → ℕ → ℕ → Option ℕ → Bool → Notes
with_notes n f room next asked closing = record n { finished = f; room = room; next = next; asked = asked; closing = closing }

-- the command that was asked made this version
abbrev pub with_version : Notes → ℕ → Version → Ops → List (Option What) → Notes
with_version n room v ops ws = record n { room = room; asked = None; waits = ws; version = v; ops = ops }

pub latest_is : (n : Notes) (o : Option ℕ) → n.asked ≡ o → latest n ≡ latest (record n { asked = o })
latest_is n o is = ap (λ (z : Option ℕ). latest (record n { asked = z })) is

-- Behind an entry that changes no version
pub quiet_version : (b : Book) (x : Entry) (n m : Notes) → IsQuiet b x → HasVersion b n → m.version ≡ n.version → m.ops ≡ n.ops → latest n ≤ latest m → HasVersion (control_book b x) m
quiet_version b x n m q h version ops later = record {
  version = version ∙ (h.version ∙ sym q.version);
  ops =
      subst (λ (o : Ops). IsOpsOf (plans (setting b)) (front (control_book b x)).control o) (sym ops)
      (record {
        filters = h.ops.filters ∙ ap (λ (v : Version). map (λ (k : ℕ). locks_in k (plans (setting b) k)) v.active) (sym q.version);
        holders = h.ops.holders ∙ sym q.holders;
      });
  below = λ j there. (let less : j < latest n = h.below j (subst (λ (v : Version). has v.active j ≡ true) version there) in omega (arith, less, later));
  number = (let same : Version.number m.version ≡ Version.number n.version = ap Version.number version in let less : Version.number n.version < latest n = h.number in omega (arith, same, less, later));
  names = λ i j a c one.
      h.names i j (subst (λ (v : Version). has v.active i ≡ true) q.version a) (subst (λ (v : Version). has v.active j ≡ true) q.version c) one;
  there = λ k is. h.there k (subst (λ (v : Version). has v.active k ≡ true) q.version is);
}

-- Behind an install

-- a filter that was put in
abbrev IsPutIn : Book → ℕ → Type 0
IsPutIn b k = (c : Command) × ((f : Plan) × ((command_at b.commands k ≡ Some c) × (c.action ≡ install (means f))))

pub installed_version : (b : Book) (n m : Notes) (k v : ℕ) (row : List ℕ) (c : Command) (f : Plan) → HasVersion b n → latest n ≡ k → command_at b.commands k ≡ Some c → c.action ≡ install (means f)
    → is_name_used (setting b) (front b).control k ≡ false → v ≡ suc (Version.number n.version) → m.version ≡ version_with n.version k → m.ops ≡ with_filter n.ops k (plans (setting b) k)
    → latest m ≡ suc k → HasVersion (control_book b (e.Installed k v row)) m
installed_version b n m k v row c f h asked is installs unused number version ops later = record {
  version = version ∙ sym newest;
  ops =
      subst (λ (o : Ops). IsOpsOf (plans (setting b)) (front (control_book b x)).control o) (sym ops)
      (subst (λ (d : Control). IsOpsOf (plans (setting b)) d (with_filter n.ops k (plans (setting b) k))) (sym (control_is b x))
      (HasReplay.install replay (plans (setting b)) b.commands (front b).control n.ops k v row h.ops));
  below = λ j there. (let less : j < suc k = below j (subst (λ (u : Version). has u.active j ≡ true) version there) in omega (arith, less, later));
  number = (
      let same : Version.number m.version ≡ suc (Version.number n.version) = ap Version.number version in
      let less : Version.number n.version < latest n = h.number in
      omega (arith, same, less, asked, later));
  names = subst (λ (u : Version). HaveOwnNames b.commands u.active) (sym told) ((own_names b.commands old k h.names).install unused);
  there = λ j there.
      either_of (has_more old k j (subst (λ (u : Version). has u.active j ≡ true) told there)) (λ before. h.there j before)
      (λ same. subst (IsPutIn b) same (c, (f, (is, installs))));
}
  where
    x : Entry
    x = e.Installed k v row

    old : List ℕ
    old = Version.active (Control.version (front b).control)

    told : Control.version (front (control_book b x)).control ≡ record { number = v; active = old ++ k ∷ [] }
    told = ap Control.version (control_is b x)

    newest : Control.version (front (control_book b x)).control ≡ version_with n.version k
    newest = told ∙ (ap (λ z. record { number = z; active = old ++ k ∷ [] }) number ∙ ap (λ ks. record { number = suc (Version.number n.version); active = ks ++ k ∷ [] }) (ap Version.active (sym h.version)))

    below : AreBelow (suc k) (Version.active n.version ++ k ∷ [])
    below =
        (numbers_below (suc k) (Version.active n.version) k
        (λ j there. (let less : j < latest n = h.below j there in omega (arith, less, asked)))).install (omega arith)

-- Behind a removal

-- two that have the name of a third one have one name
shared_name : (cs : List Command) (i j k : ℕ) → have_one_name cs i k ≡ true → have_one_name cs j k ≡ true → have_one_name cs i j ≡ true
shared_name cs i j k h g =
    let one : name_in (command_at cs i) ≡ name_in (command_at cs k) = same_text (name_in (command_at cs i)) (name_in (command_at cs k)) (sym h) in
    let other : name_in (command_at cs j) ≡ name_in (command_at cs k) = same_text (name_in (command_at cs j)) (name_in (command_at cs k)) (sym g) in
    (bytes_decides (name_in (command_at cs i)) (name_in (command_at cs j))).1 (one ∙ sym other)

-- of the installed filters one has the command's name
one_named : (b : Book) (j k : ℕ) → HaveOwnNames b.commands (Version.active (Control.version (front b).control)) → is_installed (front b).control j ≡ true → have_one_name b.commands j k ≡ true
    → (i : ℕ) → is_installed (front b).control i ≡ true → have_one_name b.commands i k ≡ (i == j)
one_named b j k own there named i is = by_test (have_one_name b.commands i k) refl
  where
    by_number : (c : Bool) → (i == j) ≡ c → have_one_name b.commands i k ≡ false → false ≡ c
    by_number false differ none = refl
    by_number true same none = let yes : have_one_name b.commands i k ≡ true = ap (λ z. have_one_name b.commands z k) (same_number i j same) ∙ named in cc

    by_test : (c : Bool) → have_one_name b.commands i k ≡ c → c ≡ (i == j)
    by_test true one = sym (eq-eqb i j (own i j is there (shared_name b.commands i j k one named)))
    by_test false none = by_number (i == j) refl none

pub removed_version : (b : Book) (n m : Notes) (k v j : ℕ) (row : List ℕ) → HasVersion b n → KeepsLocks n.ops → latest n ≡ k → is_installed (front b).control j ≡ true
    → have_one_name b.commands j k ≡ true → v ≡ suc (Version.number n.version) → m.version ≡ version_without n.version j → m.ops ≡ without_filter n.ops j → latest m ≡ suc k
    → HasVersion (control_book b (e.Removed k v row)) m
removed_version b n m k v j row h keeps asked there named number version ops later = record {
  version = version ∙ sym newest;
  ops =
      subst (λ (o : Ops). IsOpsOf (plans (setting b)) (front (control_book b x)).control o) (sym ops)
      (subst (λ (d : Control). IsOpsOf (plans (setting b)) d (without_filter n.ops j)) (sym (control_is b x))
      (HasReplay.remove replay (plans (setting b)) b.commands (front b).control n.ops k v j row h.ops keeps (one_named b j k h.names there named)));
  below = λ i is. (
      let kept : has (without_number j (Version.active n.version)) i ≡ true = subst (λ (u : Version). has u.active i ≡ true) version is in
      let less : i < latest n = h.below i (has_filter (λ (z : ℕ). not (z == j)) (Version.active n.version) i kept) in
      omega (arith, less, asked, later));
  number = (
      let same : Version.number m.version ≡ suc (Version.number n.version) = ap Version.number version in
      let less : Version.number n.version < latest n = h.number in
      omega (arith, same, less, asked, later));
  names = subst (λ (u : Version). HaveOwnNames b.commands u.active) (sym without) ((own_names b.commands old j h.names).removal);
  there = λ i is. h.there i (has_filter (λ (z : ℕ). not (z == j)) old i (subst (λ (u : Version). has u.active i ≡ true) without is));
}
  where
    x : Entry
    x = e.Removed k v row

    old : List ℕ
    old = Version.active (Control.version (front b).control)

    by_number : v ≡ suc (Version.number (Control.version (front b).control))
    by_number = number ∙ ap (λ (u : Version). suc u.number) h.version

    without : Control.version (front (control_book b x)).control ≡ version_without (Control.version (front b).control) j
    without =
        ap Control.version (control_is b x)
        ∙ (ap (λ z. Control.version (after_entry b.commands (front b).control (e.Removed k z row))) by_number
        ∙ version_behind_removal b.commands (front b).control j k row h.names there named)

    newest : Control.version (front (control_book b x)).control ≡ version_without n.version j
    newest = without ∙ ap (λ (u : Version). version_without u j) (sym h.version)
