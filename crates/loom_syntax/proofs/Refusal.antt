-- What the reader over trees tells of files.
use Rattle.std.proofs.Common.{ℕ, ◌+◌, ◌≤◌, ◌<◌, ◌≡◌, List, [], ◌∷◌, ◌++◌, map, length, take, get_or, Option, Some, None, refl, sym, ap, subst, ◌∙◌, arith}
use Rattle.std.proofs.lemmas.List.{take_more, take-map, length-map}
use Rattle.std.proofs.Math.Seq.{take-length}
use Rattle.loom_tree.specs.declared.token.Token as rust
use Rattle.loom_tree.specs.Token.{LineToken, line_token_of}
use Rattle.loom_tree.specs.Tree as tree
use Rattle.loom_tree.specs.Tree.{Expression, Body}
use Rattle.loom_expression.specs.Text.{Text}
use Rattle.loom_expression.specs.Reader.{after}
use Rattle.loom_syntax.specs.File.{Block, ItemForm, item_tree, IsFile, IsViable, IsRefusedAt}
use Rattle.loom_syntax.specs.FileReader.{FileReader, Between, fresh, feed, feed_all, finish, StatementForm, written}
use Rattle.loom_syntax.specs.View.{Statement, plain, line_tokens}
use Rattle.loom_syntax.proofs.PartNatural.{over}
use Rattle.loom_syntax.proofs.Natural.{reader_map, run_state, finish_state}
use Rattle.loom_syntax.proofs.Viable.{first, accepted, run_viable, stuck_not_viable, unfinished_not_file}

abbrev pub Plain : Type 0
Plain = FileReader Expression Statement Body tree.FileItem

abbrev pub first_plain : Plain
first_plain = fresh

pub finished : (s : FileReader Text StatementForm Block ItemForm) (items : List ItemForm) → finish s ≡ Some items → s ≡ Between items
finished (Between is) items h = let same : is ≡ items = cc in ap Between same
finished (FileReader.Heading is l d) items h = cc
finished (FileReader.InFunction is f i) items h = cc

pub parsed : (ps : List LineToken) (s : Plain) (items : List tree.FileItem) → feed_all plain first_plain ps ≡ Some s → finish s ≡ Some items → IsFile ps items
parsed ps s items is done = go (feed_all written first ps) refl (sym (run_state first ps) ∙ is)
  where
    last : (v : FileReader Text StatementForm Block ItemForm) → feed_all written first ps ≡ Some v → reader_map v ≡ s → (o : Option (List ItemForm)) → finish v ≡ o → over (map item_tree) o ≡ Some items → IsFile ps items
    last v was same None e k = cc
    last v was same (Some own) e k =
        let trees : map item_tree own ≡ items = cc in
        subst (λ z. IsFile ps z) trees (accepted ps own (was ∙ ap Some (finished v own e)))

    go : (o : Option (FileReader Text StatementForm Block ItemForm)) → feed_all written first ps ≡ o → over reader_map o ≡ Some s → IsFile ps items
    go None was k = cc
    go (Some v) was k =
        let same : reader_map v ≡ s = cc in
        last v was same (finish v) refl (sym (finish_state v) ∙ ap finish same ∙ done)

pub took_viable : (ps : List LineToken) (s : Plain) → feed_all plain first_plain ps ≡ Some s → IsViable ps
took_viable ps s is = go (feed_all written first ps) refl (sym (run_state first ps) ∙ is)
  where
    go : (o : Option (FileReader Text StatementForm Block ItemForm)) → feed_all written first ps ≡ o → over reader_map o ≡ Some s → IsViable ps
    go None was k = cc
    go (Some v) was k = run_viable ps v was

pub refused_not_viable : (ps : List LineToken) → feed_all plain first_plain ps ≡ None → IsViable ps → ⊥
refused_not_viable ps is v = go (feed_all written first ps) refl (sym (run_state first ps) ∙ is)
  where
    go : (o : Option (FileReader Text StatementForm Block ItemForm)) → feed_all written first ps ≡ o → over reader_map o ≡ None → ⊥
    go None was k = stuck_not_viable ps was v
    go (Some s) was k = cc

pub unfinished : (ps : List LineToken) (s : Plain) (items : List tree.FileItem) → feed_all plain first_plain ps ≡ Some s → finish s ≡ None → IsFile ps items → ⊥
unfinished ps s items is open_ x = go (feed_all written first ps) refl (sym (run_state first ps) ∙ is)
  where
    last : (v : FileReader Text StatementForm Block ItemForm) → feed_all written first ps ≡ Some v → (o : Option (List ItemForm)) → finish v ≡ o → over (map item_tree) o ≡ None → ⊥
    last v was None e k = unfinished_not_file ps v items was e x
    last v was (Some own) e k = cc

    go : (o : Option (FileReader Text StatementForm Block ItemForm)) → feed_all written first ps ≡ o → over reader_map o ≡ Some s → ⊥
    go None was k = cc
    go (Some v) was k =
        let same : reader_map v ≡ s = cc in
        last v was (finish v) refl (sym (finish_state v) ∙ ap finish same ∙ open_)

pub run_push : (s : Plain) (ps : List LineToken) (p : LineToken) → feed_all plain s (ps ++ p ∷ []) ≡ after (feed_all plain s ps) (λ s'. feed plain s' p)
run_push s [] p = go (feed plain s p)
  where
    go : (o : Option Plain) → after o (λ s'. Some s') ≡ o
    go None = refl
    go (Some s') = refl
run_push s (q ∷ ps) p = go (feed plain s q) (λ s'. run_push s' ps p)
  where
    go : (o : Option Plain) → ((s' : Plain) → feed_all plain s' (ps ++ p ∷ []) ≡ after (feed_all plain s' ps) (λ s''. feed plain s'' p)) → after o (λ s'. feed_all plain s' (ps ++ p ∷ [])) ≡ after (after o (λ s'. feed_all plain s' ps)) (λ s''. feed plain s'' p)
    go None h = refl
    go (Some s') h = h s'

-- What the answers of the code cite. The reader has taken the first i tokens and is in the state s.

abbrev pub Taken : List ℕ → List rust.Token → ℕ → Plain → Type 0
Taken bytes ts i s = feed_all plain first_plain (line_tokens bytes (take i ts)) ≡ Some s

pub took_one : (bytes : List ℕ) (ts : List rust.Token) (i : ℕ) (d : rust.Token) (s : Plain) (o : Option Plain) → i < length ts → Taken bytes ts i s → o ≡ feed plain s (line_token_of bytes (get_or ts i d))
    → feed_all plain first_plain (line_tokens bytes (take (i + 1) ts)) ≡ o
took_one bytes ts i d s o h is next =
    ap (λ z. feed_all plain first_plain (line_tokens bytes z)) (take_more ts i d h) ∙ ap (feed_all plain first_plain) (pushed (take i ts) (get_or ts i d)) ∙ run_push first_plain (line_tokens bytes (take i ts)) (line_token_of bytes (get_or ts i d)) ∙ rw is (sym next)
  where
    pushed : (us : List rust.Token) (u : rust.Token) → line_tokens bytes (us ++ u ∷ []) ≡ line_tokens bytes us ++ line_token_of bytes u ∷ []
    pushed [] u = refl
    pushed (v ∷ us) u = ap (λ z. line_token_of bytes v ∷ z) (pushed us u)

-- the next token is refused
pub refused_at : (bytes : List ℕ) (ts : List rust.Token) (i : ℕ) (d : rust.Token) (s : Plain) → i < length ts → Taken bytes ts i s → None ≡ feed plain s (line_token_of bytes (get_or ts i d)) → IsRefusedAt (line_tokens bytes ts) i
refused_at bytes ts i d s h is refused =
    let n : length (line_tokens bytes ts) ≡ length ts = length-map ts (line_token_of bytes) in
    record {
      within = omega (arith, n, h);
      before = subst IsViable (sym (take-map (line_token_of bytes) i ts)) (took_viable (line_tokens bytes (take i ts)) s is);
      beyond = λ _ v. refused_not_viable (line_tokens bytes (take (i + 1) ts)) (took_one bytes ts i d s None h is refused) (subst IsViable (take-map (line_token_of bytes) (i + 1) ts) v);
      at_end = λ f. absurd (omega (arith, n, h, f));
    }

pub taken_all : (bytes : List ℕ) (ts : List rust.Token) (i : ℕ) (s : Plain) → length ts ≤ i → i ≤ length ts → Taken bytes ts i s → feed_all plain first_plain (line_tokens bytes ts) ≡ Some s
taken_all bytes ts i s h k is =
    let e : i ≡ length ts = omega arith in
    ap (λ z. feed_all plain first_plain (line_tokens bytes z)) (sym (ap (λ n. take n ts) e ∙ take-length ts)) ∙ is

-- all tokens were taken, and no file ends there
pub refused_last : (bytes : List ℕ) (ts : List rust.Token) (i : ℕ) (s : Plain) → length ts ≤ i → i ≤ length ts → Taken bytes ts i s → None ≡ finish s → IsRefusedAt (line_tokens bytes ts) (length ts)
refused_last bytes ts i s h k is open_ =
    let n : length (line_tokens bytes ts) ≡ length ts = length-map ts (line_token_of bytes) in
    let all = taken_all bytes ts i s h k is in
    let whole : take (length ts) (line_tokens bytes ts) ≡ line_tokens bytes ts = ap (λ m. take m (line_tokens bytes ts)) (sym n) ∙ take-length (line_tokens bytes ts) in
    record {
      within = omega (arith, n);
      before = subst IsViable (sym whole) (took_viable (line_tokens bytes ts) s all);
      beyond = λ f. absurd (omega (arith, n, f));
      at_end = λ _ items x. unfinished (line_tokens bytes ts) s items all (sym open_) x;
    }

-- all tokens were taken, and a file ends there
pub parsed_last : (bytes : List ℕ) (ts : List rust.Token) (i : ℕ) (s : Plain) (items : List tree.FileItem) → length ts ≤ i → i ≤ length ts → Taken bytes ts i s → Some items ≡ finish s → IsFile (line_tokens bytes ts) items
parsed_last bytes ts i s items h k is done = parsed (line_tokens bytes ts) s items (taken_all bytes ts i s h k is) (sym done)
