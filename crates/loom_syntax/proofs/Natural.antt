-- The reader over trees does what the reader over written files does.
use Rattle.std.proofs.Common.{ℕ, suc, ◌≡◌, List, [], ◌∷◌, ◌++◌, map, Option, Some, None, nat_lt, refl, sym, ap, ◌∙◌}
use Rattle.std.proofs.lemmas.List.{map-append, length-map}
use Rattle.loom_tree.specs.declared.token.Keyword.TheVariants as w
use Rattle.loom_tree.specs.declared.token.Sign.TheVariants as g
use Rattle.loom_tree.specs.Token.{LineToken}
use Rattle.loom_tree.specs.Tree as tree
use Rattle.loom_tree.specs.Tree.{Expression, Body}
use Rattle.loom_expression.specs.Text as expressions
use Rattle.loom_expression.specs.Text.{Text}
use Rattle.loom_expression.specs.Reader as expression
use Rattle.loom_expression.specs.Reader.{after}
use Rattle.loom_syntax.specs.File.{Block, ItemForm, simple_tree, block_tree, item_tree, block_limit}
use Rattle.loom_syntax.specs.Tests.{is_keyword, is_sign}
use Rattle.loom_syntax.specs.Head.{HeadNext, begin_item, head_step}
use Rattle.loom_syntax.specs.Part.{Test, If, While, PartNext, begin_part, part_step}
use Rattle.loom_syntax.specs.FileReader.{Around, Then, Else, Loop, OpenBlock, BlockPosition, Start, AfterIf, ElseBrace, Within, BlockReader, At, BlockNext, Goes, Ends, Header, FileReader, Between, Heading, InFunction, close, room, shut_in, shut, around, parted, statement_step, block_step, headed, insided, feed, feed_all, finish, StatementForm, simple, if_, if_else, while_, chain, written}
use Rattle.loom_syntax.specs.View.{Statement, plain}
use Rattle.loom_syntax.specs.View as view
use Rattle.loom_syntax.proofs.PartNatural.{over, over_if, over_after, part_map, next_map, begin_map, part_state}

abbrev pub piece_map : StatementForm → Statement
piece_map (simple l s) = Statement.simple l (simple_tree s)
piece_map (if_ l e a) = Statement.if_ l (expressions.tree e) (block_tree a) Body.end
piece_map (if_else l e a b) = Statement.if_ l (expressions.tree e) (block_tree a) (block_tree b)
piece_map (while_ l e a) = Statement.while_ l (expressions.tree e) (block_tree a)

abbrev pub around_map : Around Text Block → Around Expression Body
around_map (Then e) = Then (expressions.tree e)
around_map (Else e a) = Else (expressions.tree e) (block_tree a)
around_map (Loop e) = Loop (expressions.tree e)

abbrev pub opened_map : OpenBlock Text StatementForm Block → OpenBlock Expression Statement Body
opened_map o = record { line = o.line; around = around_map o.around; before = map piece_map o.before }

abbrev pub point_map : BlockPosition Text Block → BlockPosition Expression Body
point_map Start = Start
point_map (AfterIf l e a) = AfterIf l (expressions.tree e) (block_tree a)
point_map (ElseBrace l e a) = ElseBrace l (expressions.tree e) (block_tree a)
point_map (Within l q) = Within l (part_map q)

abbrev pub inside_map : BlockReader Text StatementForm Block → BlockReader Expression Statement Body
inside_map (At os ss pt) = At (map opened_map os) (map piece_map ss) (point_map pt)

abbrev pub inside_next_map : BlockNext Text StatementForm Block → BlockNext Expression Statement Body
inside_next_map (Goes i) = Goes (inside_map i)
inside_next_map (Ends a) = Ends (block_tree a)

abbrev pub reader_map : FileReader Text StatementForm Block ItemForm → FileReader Expression Statement Body tree.FileItem
reader_map (Between is) = Between (map item_tree is)
reader_map (Heading is l h) = Heading (map item_tree is) l h
reader_map (InFunction is f i) = InFunction (map item_tree is) f (inside_map i)

-- blocks

pub chain_map : (s : StatementForm) (rest : Block) → view.chain (piece_map s) (block_tree rest) ≡ block_tree (chain s rest)
chain_map (simple l s) rest = refl
chain_map (if_ l e a) rest = refl
chain_map (if_else l e a b) rest = refl
chain_map (while_ l e a) rest = refl

pub close_map : (ss : List StatementForm) → close plain (map piece_map ss) ≡ block_tree (close written ss)
close_map [] = refl
close_map (s ∷ ss) = ap (view.chain (piece_map s)) (close_map ss) ∙ chain_map s (close written ss)

pub room_map : (os : List (OpenBlock Text StatementForm Block)) → room (map opened_map os) ≡ room os
room_map os = ap (λ n. nat_lt (suc n) block_limit) (length-map os opened_map)

pub more_map : (ss : List StatementForm) (s : StatementForm) → map piece_map ss ++ piece_map s ∷ [] ≡ map piece_map (ss ++ s ∷ [])
more_map ss s = sym (map-append piece_map ss (s ∷ []))

pub shut_in_map : (a : Block) (l : ℕ) (r : Around Text Block) (ss : List StatementForm) (os : List (OpenBlock Text StatementForm Block)) → shut_in plain (block_tree a) l (around_map r) (map piece_map ss) (map opened_map os) ≡ inside_map (shut_in written a l r ss os)
shut_in_map a l (Then e) ss os = refl
shut_in_map a l (Else e first) ss os = ap (λ z. At (map opened_map os) z Start) (more_map ss (if_else l e first a))
shut_in_map a l (Loop e) ss os = ap (λ z. At (map opened_map os) z Start) (more_map ss (while_ l e a))

pub shut_map : (a : Block) (os : List (OpenBlock Text StatementForm Block)) → shut plain (block_tree a) (map opened_map os) ≡ inside_next_map (shut written a os)
shut_map a [] = refl
shut_map a (o ∷ os) = ap Goes (shut_in_map a o.line o.around o.before os)

pub around_state : (test : Test) (e : Text) → around test (expressions.tree e) ≡ around_map (around test e)
around_state If e = refl
around_state While e = refl

pub parted_map : (os : List (OpenBlock Text StatementForm Block)) (ss : List StatementForm) (l : ℕ) (n : PartNext Text) → parted plain (map opened_map os) (map piece_map ss) l (next_map n) ≡ inside_map (parted written os ss l n)
parted_map os ss l (PartNext.Goes q) = refl
parted_map os ss l (PartNext.Ends s) = ap (λ z. At (map opened_map os) z Start) (more_map ss (simple l s))
parted_map os ss l (PartNext.Opens test e) = ap (λ z. At (record { line = l; around = z; before = map piece_map ss } ∷ map opened_map os) [] Start) (around_state test e)

-- tokens in a function

pub started_map : (os : List (OpenBlock Text StatementForm Block)) (ss : List StatementForm) (p : LineToken)
    → after (begin_part (room (map opened_map os)) p.token) (λ q. Some (Goes (At (map opened_map os) (map piece_map ss) (Within p.line q)))) ≡ over inside_next_map (after (begin_part (room os) p.token) (λ q. Some (Goes (At os ss (Within p.line q)))))
started_map os ss p = rw (room_map os, begin_map (room os) p.token) (go (begin_part (room os) p.token))
  where
    go : (o : Option _) → after (over part_map o) (λ q. Some (Goes (At (map opened_map os) (map piece_map ss) (Within p.line q)))) ≡ over inside_next_map (after o (λ q. Some (Goes (At os ss (Within p.line q)))))
    go None = refl
    go (Some q) = refl

pub statement_map : (os : List (OpenBlock Text StatementForm Block)) (ss : List StatementForm) (p : LineToken) → statement_step plain (map opened_map os) (map piece_map ss) p ≡ over inside_next_map (statement_step written os ss p)
statement_map os ss p =
    over_if inside_next_map (is_sign g.BraceClose p.token) _ _ _ _
    (ap (λ a. Some (shut plain a (map opened_map os))) (close_map ss) ∙ ap Some (shut_map (close written ss) os))
    (started_map os ss p)

pub within_map : (os : List (OpenBlock Text StatementForm Block)) (ss : List StatementForm) (l : ℕ) (o : Option (PartNext Text))
    → after (over next_map o) (λ n. Some (Goes (parted plain (map opened_map os) (map piece_map ss) l n))) ≡ over inside_next_map (after o (λ n. Some (Goes (parted written os ss l n))))
within_map os ss l None = refl
within_map os ss l (Some n) = ap (λ z. Some (Goes z)) (parted_map os ss l n)

pub inside_state : (i : BlockReader Text StatementForm Block) (p : LineToken) → block_step plain (inside_map i) p ≡ over inside_next_map (block_step written i p)
inside_state (At os ss Start) p = statement_map os ss p
inside_state (At os ss (AfterIf l e a)) p =
    over_if inside_next_map (is_keyword w.Else p.token) _ _ _ _ refl
    (ap (λ z. statement_step plain (map opened_map os) z p) (more_map ss (if_ l e a)) ∙ statement_map os (ss ++ if_ l e a ∷ []) p)
inside_state (At os ss (ElseBrace l e a)) p = over_if inside_next_map (is_sign g.BraceOpen p.token) _ _ _ _ refl refl
inside_state (At os ss (Within l q)) p = rw (part_state q p.token) (within_map os ss l (part_step expression.written q p.token))

-- tokens of a file

pub items_map : (is : List ItemForm) (i : ItemForm) → map item_tree is ++ item_tree i ∷ [] ≡ map item_tree (is ++ i ∷ [])
items_map is i = sym (map-append item_tree is (i ∷ []))

pub headed_map : (is : List ItemForm) (l : ℕ) (n : HeadNext) → headed plain (map item_tree is) l n ≡ reader_map (headed written is l n)
headed_map is l (HeadNext.Goes h) = refl
headed_map is l (HeadNext.Declares d) = ap Between (items_map is (ItemForm.declared l d))
headed_map is l (HeadNext.Begins f params) = refl

pub insided_map : (is : List ItemForm) (f : Header) (n : BlockNext Text StatementForm Block) → insided plain (map item_tree is) f (inside_next_map n) ≡ reader_map (insided written is f n)
insided_map is f (Goes i) = refl
insided_map is f (Ends a) = ap Between (items_map is (ItemForm.func f.line f.name f.params a))

pub function_map : (is : List ItemForm) (f : Header) (o : Option (BlockNext Text StatementForm Block))
    → after (over inside_next_map o) (λ n. Some (insided plain (map item_tree is) f n)) ≡ over reader_map (after o (λ n. Some (insided written is f n)))
function_map is f None = refl
function_map is f (Some n) = ap Some (insided_map is f n)

pub step_state : (s : FileReader Text StatementForm Block ItemForm) (p : LineToken) → feed plain (reader_map s) p ≡ over reader_map (feed written s p)
step_state (Between is) p = over_after reader_map (begin_item p.token) _ _ (λ h. refl)
step_state (Heading is l h) p = over_after reader_map (head_step h p.token) _ _ (λ n. ap Some (headed_map is l n))
step_state (InFunction is f i) p = rw (inside_state i p) (function_map is f (block_step written i p))

pub run_state : (s : FileReader Text StatementForm Block ItemForm) (ps : List LineToken) → feed_all plain (reader_map s) ps ≡ over reader_map (feed_all written s ps)
run_state s [] = refl
run_state s (p ∷ ps) = rw (step_state s p) (go (feed written s p) (λ s'. run_state s' ps))
  where
    go : (o : Option (FileReader Text StatementForm Block ItemForm)) → ((s' : FileReader Text StatementForm Block ItemForm) → feed_all plain (reader_map s') ps ≡ over reader_map (feed_all written s' ps))
        → after (over reader_map o) (λ s'. feed_all plain s' ps) ≡ over reader_map (after o (λ s'. feed_all written s' ps))
    go None h = refl
    go (Some s') h = h s'

pub finish_state : (s : FileReader Text StatementForm Block ItemForm) → finish (reader_map s) ≡ over (map item_tree) (finish s)
finish_state (Between is) = refl
finish_state (Heading is l h) = refl
finish_state (InFunction is f i) = refl
