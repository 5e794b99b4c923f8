-- Each written file is read.
use Rattle.std.proofs.Common.{ℕ, suc, ◌<◌, ◌≡◌, List, [], ◌∷◌, ◌++◌, map, length, Option, Some, None, Bool, true, false, refl, sym, ap, subst, ◌∙◌, append_assoc, append-nil}
use Rattle.std.specs.List.{AllByRecursion, flat_map}
use Rattle.std.proofs.lemmas.Bool.{lt-ltb, le-leb}
use Rattle.loom_tree.specs.declared.expression.Op.TheVariants as o
use Rattle.loom_tree.specs.declared.token.Keyword.TheVariants as w
use Rattle.loom_tree.specs.declared.token.Sign.TheVariants as g
use Rattle.loom_tree.specs.Token.{Token, LineToken}
use Rattle.loom_tree.specs.Tree.{Simple}
use Rattle.loom_expression.specs.Text.{Text, tokens, IsWritten}
use Rattle.loom_expression.specs.Reader as expression
use Rattle.loom_expression.specs.Reader.{after}
use Rattle.loom_syntax.specs.File.{Mark, on, at, FitMarks, Block, none, plus, minus, Declaration, word, array, mutex, sema, ItemForm, declared, func, behind_commas, with_commas, simple_tokens, test_tokens, declaration_tokens, head_tokens, begun, with_semicolon, in_braces, block_marks, item_marks, block_limit, sema_limit, IsSimple, IsBlock, IsDeclaration, IsItem}
use Rattle.loom_syntax.specs.Tests.{is_keyword, is_sign}
use Rattle.loom_syntax.specs.Head.{Head, SharedName, MutexName, SemaName, FnName, FnFirst, FnNext, HeadNext, Declares, Begins, begin_item, head_step}
use Rattle.loom_syntax.specs.Part.{Test, If, While, Part, TestOpen, PartNext, begin_part, part_step}
use Rattle.loom_syntax.specs.FileReader.{Around, Then, Else, Loop, OpenBlock, Start, AfterIf, ElseBrace, Within, At, Header, FileReader, Between, Heading, InFunction, fresh, close, room, around, parted, headed, feed, feed_all, StatementForm, simple, if_, if_else, while_, written}
use Rattle.loom_syntax.proofs.Choices.{keyword_is, sign_is}
use Rattle.loom_syntax.proofs.HeadSound.{named}
use Rattle.loom_syntax.proofs.PartSound.{test_word}
use Rattle.loom_syntax.proofs.PartWhole as in_part
use Rattle.loom_syntax.proofs.PartWhole.{readable, test_run}
use Rattle.loom_syntax.proofs.Sound.{begun_more}

pub run_append : (s : FileReader Text StatementForm Block ItemForm) (a b : List LineToken) → feed_all written s (a ++ b) ≡ after (feed_all written s a) (λ s'. feed_all written s' b)
run_append s [] b = refl
run_append s (p ∷ a) b = go (feed written s p) (λ s'. run_append s' a b)
  where
    go : (o : Option (FileReader Text StatementForm Block ItemForm)) → ((s' : FileReader Text StatementForm Block ItemForm) → feed_all written s' (a ++ b) ≡ after (feed_all written s' a) (λ s''. feed_all written s'' b))
        → after o (λ s'. feed_all written s' (a ++ b)) ≡ after (after o (λ s'. feed_all written s' a)) (λ s''. feed_all written s'' b)
    go None h = refl
    go (Some s') h = h s'

-- By tokens with these marks the reader comes from s to s'.
abbrev pub Takes : FileReader Text StatementForm Block ItemForm → List Mark → FileReader Text StatementForm Block ItemForm → Type 0
Takes s ms s' = (ps : List LineToken) → FitMarks ms ps → feed_all written s ps ≡ Some s'

pub record Split (ms ns : List Mark) (ps : List LineToken) : Type 0 where
  pub front : List LineToken
  pub rest : List LineToken
  pub is : ps ≡ front ++ rest
  pub first : FitMarks ms front
  pub second : FitMarks ns rest

pub split : (ms ns : List Mark) (ps : List LineToken) → FitMarks (ms ++ ns) ps → Split ms ns ps
split [] ns ps h = record { front = []; rest = ps; is = refl; first = tt; second = h }
split (m ∷ ms) ns [] h = absurd h
split (m ∷ ms) ns (p ∷ ps) h =
    let s = split ms ns ps h.1 in
    record { front = p ∷ s.front; rest = s.rest; is = ap (λ z. p ∷ z) s.is; first = (h.0, s.first); second = s.second }

pub takes_append : (s s' s'' : FileReader Text StatementForm Block ItemForm) (ms ns : List Mark) → Takes s ms s' → Takes s' ns s'' → Takes s (ms ++ ns) s''
takes_append s s' s'' ms ns h k ps spelled =
    let c = split ms ns ps spelled in
    ap (feed_all written s) c.is ∙ run_append s c.front c.rest ∙ rw (h c.front c.first) (k c.rest c.second)

pub takes_is : (s s' : FileReader Text StatementForm Block ItemForm) (ms ns : List Mark) → ms ≡ ns → Takes s ms s' → Takes s ns s'
takes_is s s' ms ns is h = subst (λ z. Takes s z s') is h

pub takes_to : (s s' s'' : FileReader Text StatementForm Block ItemForm) (ms : List Mark) → s' ≡ s'' → Takes s ms s' → Takes s ms s''
takes_to s s' s'' ms is h = subst (λ z. Takes s ms z) is h

pub takes_from : (s s' s'' : FileReader Text StatementForm Block ItemForm) (ms : List Mark) → s ≡ s' → Takes s ms s'' → Takes s' ms s''
takes_from s s' s'' ms is h = subst (λ z. Takes z ms s'') is h

pub takes_none : (s : FileReader Text StatementForm Block ItemForm) → Takes s [] s
takes_none s [] h = refl
takes_none s (p ∷ ps) h = absurd h

pub placed_is : (p : LineToken) (t : Token) → p.token ≡ t → p ≡ record { token = t; line = p.line }
placed_is p t is = ap (λ z. record { token = z; line = p.line }) is

pub takes_on : (s s' s'' : FileReader Text StatementForm Block ItemForm) (t : Token) (ms : List Mark) → ((l : ℕ) → feed written s (record { token = t; line = l }) ≡ Some s') → Takes s' ms s'' → Takes s (on t ∷ ms) s''
takes_on s s' s'' t ms h k [] spelled = absurd spelled
takes_on s s' s'' t ms h k (p ∷ ps) spelled =
    let first : feed written s p ≡ Some s' = ap (feed written s) (placed_is p t spelled.0) ∙ h p.line in
    rw first (k ps spelled.1)

pub takes_at : (s s' s'' : FileReader Text StatementForm Block ItemForm) (l : ℕ) (t : Token) (ms : List Mark) → feed written s (record { token = t; line = l }) ≡ Some s' → Takes s' ms s'' → Takes s (at l t ∷ ms) s''
takes_at s s' s'' l t ms h k [] spelled = absurd spelled
takes_at s s' s'' l t ms h k (p ∷ ps) spelled =
    let first : feed written s p ≡ Some s' = ap (feed written s) (placed_is p t spelled.0.0 ∙ ap (λ z. record { token = t; line = z }) spelled.0.1) ∙ h in
    rw first (k ps spelled.1)

-- declarations, and functions up to their block

abbrev pub head_next : HeadNext → Token → Option HeadNext
head_next (HeadNext.Goes h) t = head_step h t
head_next (Declares d) t = None
head_next (Begins f params) t = None

abbrev pub head_run : HeadNext → List Token → Option HeadNext
head_run n [] = Some n
head_run n (t ∷ ts) = after (head_next n t) (λ m. head_run m ts)

pub head_takes : (is : List ItemForm) (l : ℕ) (n m : HeadNext) (ts : List Token) → head_run n ts ≡ Some m → Takes (headed written is l n) (map on ts) (headed written is l m)
head_takes is l n m [] h = let same : n ≡ m = cc in takes_to (headed written is l n) (headed written is l n) (headed written is l m) [] (ap (headed written is l) same) (takes_none (headed written is l n))
head_takes is l (HeadNext.Goes d) m (t ∷ ts) h = go (head_step d t) refl h (λ n'. head_takes is l n' m ts)
  where
    go : (o : Option HeadNext) → head_step d t ≡ o → after o (λ n'. head_run n' ts) ≡ Some m → ((n' : HeadNext) → head_run n' ts ≡ Some m → Takes (headed written is l n') (map on ts) (headed written is l m))
        → Takes (Heading is l d) (on t ∷ map on ts) (headed written is l m)
    go None was k more = cc
    go (Some n') was k more = takes_on (Heading is l d) (headed written is l n') (headed written is l m) t (map on ts) (λ line. rw was refl) (more n' k)
head_takes is l (Declares d) m (t ∷ ts) h = cc
head_takes is l (Begins f params) m (t ∷ ts) h = cc

pub item_takes : (is : List ItemForm) (l : ℕ) (t : Token) (d : Head) (m : HeadNext) (ts : List Token) → begin_item t ≡ Some d → head_run (HeadNext.Goes d) ts ≡ Some m → Takes (Between is) (begun l (t ∷ ts)) (headed written is l m)
item_takes is l t d m ts h k =
    takes_at (Between is) (Heading is l d) (headed written is l m) l t (map on ts) (rw h refl) (head_takes is l (HeadNext.Goes d) m ts k)

pub declared_takes : (is : List ItemForm) (l : ℕ) (d : Declaration) → IsDeclaration d → Takes (Between is) (begun l (with_semicolon (declaration_tokens d))) (Between (is ++ declared l d ∷ []))
declared_takes is l (word x none) h = item_takes is l (Token.word w.Shared) SharedName (Declares (word x none)) (Token.name x ∷ Token.sign g.Semicolon ∷ []) refl refl
declared_takes is l (word x (plus n)) h = item_takes is l (Token.word w.Shared) SharedName (Declares (word x (plus n))) (Token.name x ∷ Token.sign g.Assign ∷ Token.num n ∷ Token.sign g.Semicolon ∷ []) refl refl
declared_takes is l (word x (minus n)) h = item_takes is l (Token.word w.Shared) SharedName (Declares (word x (minus n))) (Token.name x ∷ Token.sign g.Assign ∷ Token.op o.Sub ∷ Token.num n ∷ Token.sign g.Semicolon ∷ []) refl refl
declared_takes is l (array x n) h = item_takes is l (Token.word w.Shared) SharedName (Declares (array x n)) (Token.name x ∷ Token.sign g.BracketOpen ∷ Token.num n ∷ Token.sign g.BracketClose ∷ Token.sign g.Semicolon ∷ []) refl refl
declared_takes is l (mutex x) h = item_takes is l (Token.word w.Mutex) MutexName (Declares (mutex x)) (Token.name x ∷ Token.sign g.Semicolon ∷ []) refl refl
declared_takes is l (sema x None) h = item_takes is l (Token.word w.Sema) SemaName (Declares (sema x None)) (Token.name x ∷ Token.sign g.Semicolon ∷ []) refl refl
declared_takes is l (sema x (Some n)) h = item_takes is l (Token.word w.Sema) SemaName (Declares (sema x (Some n))) (Token.name x ∷ Token.sign g.Assign ∷ Token.num n ∷ Token.sign g.Semicolon ∷ []) refl (rw (le-leb n sema_limit h) refl)

pub next_run : (f : List ℕ) (before params : List (List ℕ)) → head_run (HeadNext.Goes (FnNext f before)) (behind_commas (map named params) ++ Token.sign g.ParenClose ∷ Token.sign g.BraceOpen ∷ []) ≡ Some (Begins f (before ++ params))
next_run f before [] = ap (λ z. Some (Begins f z)) (sym (append-nil before))
next_run f before (x ∷ params) = next_run f (before ++ x ∷ []) params ∙ ap (λ z. Some (Begins f z)) (append_assoc before (x ∷ []) params)

pub params_run : (f : List ℕ) (params : List (List ℕ)) → head_run (HeadNext.Goes (FnFirst f)) (with_commas (map named params) ++ Token.sign g.ParenClose ∷ Token.sign g.BraceOpen ∷ []) ≡ Some (Begins f params)
params_run f [] = refl
params_run f (x ∷ params) = next_run f (x ∷ []) params

pub function_takes : (is : List ItemForm) (l : ℕ) (f : List ℕ) (params : List (List ℕ))
    → Takes (Between is) (begun l (head_tokens f params) ++ on (Token.sign g.BraceOpen) ∷ []) (InFunction is (record { line = l; name = f; params = params }) (At [] [] Start))
function_takes is l f params =
    let rest : List Token = Token.name f ∷ Token.sign g.ParenOpen ∷ (with_commas (map named params) ++ Token.sign g.ParenClose ∷ Token.sign g.BraceOpen ∷ []) in
    let same : head_tokens f params ++ Token.sign g.BraceOpen ∷ [] ≡ Token.word w.Fn ∷ rest =
    ap (λ z. Token.word w.Fn ∷ Token.name f ∷ Token.sign g.ParenOpen ∷ z) (append_assoc (with_commas (map named params)) (Token.sign g.ParenClose ∷ []) (Token.sign g.BraceOpen ∷ [])) in
    takes_is (Between is) _ (begun l (Token.word w.Fn ∷ rest)) _
    (ap (begun l) (sym same) ∙ begun_more l (head_tokens f params) (head_tokens f params ++ Token.sign g.BraceOpen ∷ []) (Token.sign g.BraceOpen) tt refl)
    (item_takes is l (Token.word w.Fn) FnName (Begins f params) rest refl (params_run f params))

-- statements up to their blocks

pub part_takes : (is : List ItemForm) (f : Header) (os : List (OpenBlock Text StatementForm Block)) (ss : List StatementForm) (l : ℕ) (n m : PartNext Text) (ts : List Token) → in_part.feed_all n ts ≡ Some m
    → Takes (InFunction is f (parted written os ss l n)) (map on ts) (InFunction is f (parted written os ss l m))
part_takes is f os ss l n m [] h =
    let same : n ≡ m = cc in
    takes_to (InFunction is f (parted written os ss l n)) (InFunction is f (parted written os ss l n)) (InFunction is f (parted written os ss l m)) [] (ap (λ z. InFunction is f (parted written os ss l z)) same) (takes_none (InFunction is f (parted written os ss l n)))
part_takes is f os ss l (PartNext.Goes q) m (t ∷ ts) h = go (part_step expression.written q t) refl h (λ n'. part_takes is f os ss l n' m ts)
  where
    go : (o : Option (PartNext Text)) → part_step expression.written q t ≡ o → after o (λ n'. in_part.feed_all n' ts) ≡ Some m
        → ((n' : PartNext Text) → in_part.feed_all n' ts ≡ Some m → Takes (InFunction is f (parted written os ss l n')) (map on ts) (InFunction is f (parted written os ss l m)))
        → Takes (InFunction is f (At os ss (Within l q))) (on t ∷ map on ts) (InFunction is f (parted written os ss l m))
    go None was k more = cc
    go (Some n') was k more =
        takes_on (InFunction is f (At os ss (Within l q))) (InFunction is f (parted written os ss l n')) (InFunction is f (parted written os ss l m)) t (map on ts) (λ line. rw was refl) (more n' k)
part_takes is f os ss l (PartNext.Ends s) m (t ∷ ts) h = cc
part_takes is f os ss l (PartNext.Opens test e) m (t ∷ ts) h = cc

-- what begins a statement is neither `}` nor `else`

pub begins_no_brace : (v : Bool) (t : Token) (q : Part Text) → begin_part {A = Text} v t ≡ Some q → is_sign g.BraceClose t ≡ false
begins_no_brace v t q is = go (is_sign g.BraceClose t) refl
  where
    go : (b : Bool) → is_sign g.BraceClose t ≡ b → b ≡ false
    go true was = let same : begin_part {A = Text} v t ≡ None = ap (λ z. begin_part v z) (sign_is g.BraceClose t was) in cc
    go false was = refl

pub begins_no_else : (v : Bool) (t : Token) (q : Part Text) → begin_part {A = Text} v t ≡ Some q → is_keyword w.Else t ≡ false
begins_no_else v t q is = go (is_keyword w.Else t) refl
  where
    go : (b : Bool) → is_keyword w.Else t ≡ b → b ≡ false
    go true was = let same : begin_part {A = Text} v t ≡ None = ap (λ z. begin_part v z) (keyword_is w.Else t was) in cc
    go false was = refl

pub begins : (is : List ItemForm) (f : Header) (os : List (OpenBlock Text StatementForm Block)) (ss : List StatementForm) (l : ℕ) (t : Token) (q : Part Text) → begin_part (room os) t ≡ Some q
    → feed written (InFunction is f (At os ss Start)) (record { token = t; line = l }) ≡ Some (InFunction is f (At os ss (Within l q)))
begins is f os ss l t q h = rw (begins_no_brace (room os) t q h, h) refl

pub statement_takes : (is : List ItemForm) (f : Header) (os : List (OpenBlock Text StatementForm Block)) (ss : List StatementForm) (l : ℕ) (t : Token) (q : Part Text) (m : PartNext Text) (ts : List Token) → begin_part (room os) t ≡ Some q → in_part.feed_all (PartNext.Goes q) ts ≡ Some m
    → Takes (InFunction is f (At os ss Start)) (begun l (t ∷ ts)) (InFunction is f (parted written os ss l m))
statement_takes is f os ss l t q m ts h k =
    takes_at (InFunction is f (At os ss Start)) (InFunction is f (At os ss (Within l q))) (InFunction is f (parted written os ss l m)) l t (map on ts) (begins is f os ss l t q h)
    (part_takes is f os ss l (PartNext.Goes q) m ts k)

pub simple_takes : (is : List ItemForm) (f : Header) (os : List (OpenBlock Text StatementForm Block)) (ss : List StatementForm) (l : ℕ) (s : Simple Text) → IsSimple s
    → Takes (InFunction is f (At os ss Start)) (begun l (with_semicolon (simple_tokens s))) (InFunction is f (At os (ss ++ simple l s ∷ []) Start))
simple_takes is f os ss l s ok =
    let r = readable s ok in
    takes_is (InFunction is f (At os ss Start)) (InFunction is f (At os (ss ++ simple l s ∷ []) Start)) (begun l (with_semicolon (r.first ∷ r.rest))) (begun l (with_semicolon (simple_tokens s))) (ap (λ z. begun l (with_semicolon z)) (sym r.is))
    (statement_takes is f os ss l r.first r.part (PartNext.Ends s) (with_semicolon r.rest) (r.begins (room os)) r.runs)

pub test_begins : (os : List (OpenBlock Text StatementForm Block)) (test : Test) → suc (length os) < block_limit → begin_part {A = Text} (room os) (Token.word (test_word test)) ≡ Some (TestOpen test)
test_begins os If h = rw (lt-ltb (suc (length os)) block_limit h) refl
test_begins os While h = rw (lt-ltb (suc (length os)) block_limit h) refl

pub test_takes : (is : List ItemForm) (f : Header) (os : List (OpenBlock Text StatementForm Block)) (ss : List StatementForm) (l : ℕ) (test : Test) (e : Text) → IsWritten e → suc (length os) < block_limit
    → Takes (InFunction is f (At os ss Start)) (begun l (test_tokens (test_word test) e) ++ on (Token.sign g.BraceOpen) ∷ []) (InFunction is f (At (record { line = l; around = around test e; before = ss } ∷ os) [] Start))
test_takes is f os ss l test e ok h =
    let rest : List Token = Token.sign g.ParenOpen ∷ (tokens e ++ Token.sign g.ParenClose ∷ Token.sign g.BraceOpen ∷ []) in
    let same : test_tokens (test_word test) e ++ Token.sign g.BraceOpen ∷ [] ≡ Token.word (test_word test) ∷ rest =
    ap (λ z. Token.word (test_word test) ∷ Token.sign g.ParenOpen ∷ z) (append_assoc (tokens e) (Token.sign g.ParenClose ∷ []) (Token.sign g.BraceOpen ∷ [])) in
    takes_is (InFunction is f (At os ss Start)) _ (begun l (Token.word (test_word test) ∷ rest)) _
    (ap (begun l) (sym same) ∙ begun_more l (test_tokens (test_word test) e) (test_tokens (test_word test) e ++ Token.sign g.BraceOpen ∷ []) (Token.sign g.BraceOpen) tt refl)
    (statement_takes is f os ss l (Token.word (test_word test)) (TestOpen test) (PartNext.Opens test e) rest (test_begins os test h) (test_run test e ok))

-- blocks

abbrev pub pieces : Block → List StatementForm
pieces Block.end = []
pieces (Block.simple l s rest) = simple l s ∷ pieces rest
pieces (Block.if_ l e a rest) = if_ l e a ∷ pieces rest
pieces (Block.if_else l e a b rest) = if_else l e a b ∷ pieces rest
pieces (Block.while_ l e a rest) = while_ l e a ∷ pieces rest

pub pieces_close : (b : Block) → close written (pieces b) ≡ b
pieces_close Block.end = refl
pieces_close (Block.simple l s rest) = ap (Block.simple l s) (pieces_close rest)
pieces_close (Block.if_ l e a rest) = ap (Block.if_ l e a) (pieces_close rest)
pieces_close (Block.if_else l e a b rest) = ap (Block.if_else l e a b) (pieces_close rest)
pieces_close (Block.while_ l e a rest) = ap (Block.while_ l e a) (pieces_close rest)

-- Something else than `else` follows.
abbrev pub NoElse : List Mark → Type 0
NoElse [] = ⊥
NoElse (on t ∷ ms) = is_keyword w.Else t ≡ false
NoElse (at l t ∷ ms) = is_keyword w.Else t ≡ false

pub simple_no_else : (l : ℕ) (s : Simple Text) (ms : List Mark) → IsSimple s → NoElse (begun l (with_semicolon (simple_tokens s)) ++ ms)
simple_no_else l s ms ok =
    let r = readable s ok in
    subst (λ z. NoElse (begun l (with_semicolon z) ++ ms)) (sym r.is) (begins_no_else true r.first r.part (r.begins true))

pub block_no_else : (n : ℕ) (b : Block) (ms : List Mark) → IsBlock n b → NoElse ms → NoElse (block_marks b ++ ms)
block_no_else n Block.end ms h k = k
block_no_else n (Block.simple l s rest) ms h k = subst NoElse (sym (append_assoc (begun l (with_semicolon (simple_tokens s))) (block_marks rest) ms)) (simple_no_else l s (block_marks rest ++ ms) h.0)
block_no_else n (Block.if_ l e a rest) ms h k = refl
block_no_else n (Block.if_else l e a b rest) ms h k = refl
block_no_else n (Block.while_ l e a rest) ms h k = refl

pub if_takes : (is : List ItemForm) (f : Header) (os : List (OpenBlock Text StatementForm Block)) (ss : List StatementForm) (l : ℕ) (e : Text) (a : Block) (ms : List Mark) (s' : FileReader Text StatementForm Block ItemForm) → NoElse ms
    → Takes (InFunction is f (At os (ss ++ if_ l e a ∷ []) Start)) ms s' → Takes (InFunction is f (At os ss (AfterIf l e a))) ms s'
if_takes is f os ss l e a [] s' h k ps spelled = absurd h
if_takes is f os ss l e a (m ∷ ms) s' h k [] spelled = absurd spelled
if_takes is f os ss l e a (on t ∷ ms) s' h k (p ∷ ps) spelled =
    let other : is_keyword w.Else p.token ≡ false = ap (is_keyword w.Else) spelled.0 ∙ h in
    rw other (k (p ∷ ps) spelled)
if_takes is f os ss l e a (at l' t ∷ ms) s' h k (p ∷ ps) spelled =
    let other : is_keyword w.Else p.token ≡ false = ap (is_keyword w.Else) spelled.0.0 ∙ h in
    rw other (k (p ∷ ps) spelled)

-- how marks group

pub braces_append : (a ms : List Mark) → in_braces a ++ ms ≡ on (Token.sign g.BraceOpen) ∷ (a ++ on (Token.sign g.BraceClose) ∷ ms)
braces_append a ms = ap (λ z. on (Token.sign g.BraceOpen) ∷ z) (append_assoc a (on (Token.sign g.BraceClose) ∷ []) ms)

pub head_append : (head a ms : List Mark) → (head ++ on (Token.sign g.BraceOpen) ∷ []) ++ (a ++ on (Token.sign g.BraceClose) ∷ ms) ≡ head ++ (in_braces a ++ ms)
head_append head a ms = append_assoc head (on (Token.sign g.BraceOpen) ∷ []) (a ++ on (Token.sign g.BraceClose) ∷ ms) ∙ ap (λ z. head ++ z) (sym (braces_append a ms))

pub loop_append : (head a rest ms : List Mark) → (head ++ on (Token.sign g.BraceOpen) ∷ []) ++ (a ++ on (Token.sign g.BraceClose) ∷ (rest ++ ms)) ≡ ((head ++ in_braces a) ++ rest) ++ ms
loop_append head a rest ms = head_append head a (rest ++ ms) ∙ group head (in_braces a) rest ms
  where
    group : (x y z u : List Mark) → x ++ (y ++ (z ++ u)) ≡ ((x ++ y) ++ z) ++ u
    group x y z u = simp append_assoc

pub else_append : (head a b rest ms : List Mark)
    → (head ++ on (Token.sign g.BraceOpen) ∷ []) ++ (a ++ on (Token.sign g.BraceClose) ∷ on (Token.word w.Else) ∷ on (Token.sign g.BraceOpen) ∷ (b ++ on (Token.sign g.BraceClose) ∷ (rest ++ ms)))
    ≡ ((head ++ in_braces a ++ on (Token.word w.Else) ∷ in_braces b) ++ rest) ++ ms
else_append head a b rest ms =
    ap (λ z. (head ++ on (Token.sign g.BraceOpen) ∷ []) ++ (a ++ on (Token.sign g.BraceClose) ∷ on (Token.word w.Else) ∷ z)) (sym (braces_append b (rest ++ ms)))
    ∙ head_append head a (on (Token.word w.Else) ∷ (in_braces b ++ (rest ++ ms))) ∙ group head (in_braces a) (in_braces b) rest ms
  where
    group : (x y v z u : List Mark) → x ++ (y ++ on (Token.word w.Else) ∷ (v ++ (z ++ u))) ≡ ((x ++ y ++ on (Token.word w.Else) ∷ v) ++ z) ++ u
    group x y v z u = simp append_assoc

-- Where the reader goes on behind a block, it goes on behind it from before it.
abbrev pub IsTaken : Block → Type 0
IsTaken b = (is : List ItemForm) (f : Header) (os : List (OpenBlock Text StatementForm Block)) (ss : List StatementForm) (ms : List Mark) (s' : FileReader Text StatementForm Block ItemForm) → IsBlock (suc (length os)) b → NoElse ms
    → Takes (InFunction is f (At os (ss ++ pieces b) Start)) ms s' → Takes (InFunction is f (At os ss Start)) (block_marks b ++ ms) s'

-- a block in a statement, and the `}` behind it
pub inner_takes : (a : Block) → IsTaken a → (is : List ItemForm) (f : Header) (l : ℕ) (r : Around Text Block) (before : List StatementForm) (os : List (OpenBlock Text StatementForm Block)) (ms : List Mark) (s s' : FileReader Text StatementForm Block ItemForm) → IsBlock (suc (suc (length os))) a
    → ((line : ℕ) → feed written (InFunction is f (At (record { line = l; around = r; before = before } ∷ os) (pieces a) Start)) (record { token = Token.sign g.BraceClose; line = line }) ≡ Some s) → Takes s ms s'
    → Takes (InFunction is f (At (record { line = l; around = r; before = before } ∷ os) [] Start)) (block_marks a ++ on (Token.sign g.BraceClose) ∷ ms) s'
inner_takes a ih is f l r before os ms s s' ok closing more =
    ih is f (record { line = l; around = r; before = before } ∷ os) [] (on (Token.sign g.BraceClose) ∷ ms) s' ok refl
    (takes_on (InFunction is f (At (record { line = l; around = r; before = before } ∷ os) (pieces a) Start)) s s' (Token.sign g.BraceClose) ms closing more)

pub more_pieces : (is : List ItemForm) (f : Header) (os : List (OpenBlock Text StatementForm Block)) (ss : List StatementForm) (s : StatementForm) (rest : Block) (ms : List Mark) (s' : FileReader Text StatementForm Block ItemForm)
    → Takes (InFunction is f (At os (ss ++ s ∷ pieces rest) Start)) ms s' → Takes (InFunction is f (At os ((ss ++ s ∷ []) ++ pieces rest) Start)) ms s'
more_pieces is f os ss s rest ms s' h =
    takes_from (InFunction is f (At os (ss ++ s ∷ pieces rest) Start)) (InFunction is f (At os ((ss ++ s ∷ []) ++ pieces rest) Start)) s' ms
    (ap (λ z. InFunction is f (At os z Start)) (sym (append_assoc ss (s ∷ []) (pieces rest)))) h

pub simple_taken : (l : ℕ) (s : Simple Text) (rest : Block) → IsTaken rest → IsTaken (Block.simple l s rest)
simple_taken l s rest ih is f os ss ms s' ok follows h =
    takes_is (InFunction is f (At os ss Start)) s' (begun l (with_semicolon (simple_tokens s)) ++ (block_marks rest ++ ms)) (block_marks (Block.simple l s rest) ++ ms) (sym (append_assoc (begun l (with_semicolon (simple_tokens s))) (block_marks rest) ms))
    (takes_append (InFunction is f (At os ss Start)) (InFunction is f (At os (ss ++ simple l s ∷ []) Start)) s' (begun l (with_semicolon (simple_tokens s))) (block_marks rest ++ ms)
    (simple_takes is f os ss l s ok.0)
    (ih is f os (ss ++ simple l s ∷ []) ms s' ok.1 follows (more_pieces is f os ss (simple l s) rest ms s' h)))

pub while_taken : (l : ℕ) (e : Text) (a rest : Block) → IsTaken a → IsTaken rest → IsTaken (Block.while_ l e a rest)
while_taken l e a rest iha ih is f os ss ms s' ok follows h =
    let o : OpenBlock Text StatementForm Block = record { line = l; around = Loop e; before = ss } in
    takes_is (InFunction is f (At os ss Start)) s' ((begun l (test_tokens w.While e) ++ on (Token.sign g.BraceOpen) ∷ []) ++ (block_marks a ++ on (Token.sign g.BraceClose) ∷ (block_marks rest ++ ms))) (block_marks (Block.while_ l e a rest) ++ ms)
    (loop_append (begun l (test_tokens w.While e)) (block_marks a) (block_marks rest) ms)
    (takes_append (InFunction is f (At os ss Start)) (InFunction is f (At (o ∷ os) [] Start)) s' (begun l (test_tokens w.While e) ++ on (Token.sign g.BraceOpen) ∷ []) (block_marks a ++ on (Token.sign g.BraceClose) ∷ (block_marks rest ++ ms))
    (test_takes is f os ss l While e ok.0.0 ok.0.1)
    (inner_takes a iha is f l (Loop e) ss os (block_marks rest ++ ms) (InFunction is f (At os (ss ++ while_ l e a ∷ []) Start)) s' ok.0.2
    (λ line. ap (λ z. Some (InFunction is f (At os (ss ++ while_ l e z ∷ []) Start))) (pieces_close a))
    (ih is f os (ss ++ while_ l e a ∷ []) ms s' ok.1 follows (more_pieces is f os ss (while_ l e a) rest ms s' h))))

pub if_taken : (l : ℕ) (e : Text) (a rest : Block) → IsTaken a → IsTaken rest → IsTaken (Block.if_ l e a rest)
if_taken l e a rest iha ih is f os ss ms s' ok follows h =
    let o : OpenBlock Text StatementForm Block = record { line = l; around = Then e; before = ss } in
    takes_is (InFunction is f (At os ss Start)) s' ((begun l (test_tokens w.If e) ++ on (Token.sign g.BraceOpen) ∷ []) ++ (block_marks a ++ on (Token.sign g.BraceClose) ∷ (block_marks rest ++ ms))) (block_marks (Block.if_ l e a rest) ++ ms)
    (loop_append (begun l (test_tokens w.If e)) (block_marks a) (block_marks rest) ms)
    (takes_append (InFunction is f (At os ss Start)) (InFunction is f (At (o ∷ os) [] Start)) s' (begun l (test_tokens w.If e) ++ on (Token.sign g.BraceOpen) ∷ []) (block_marks a ++ on (Token.sign g.BraceClose) ∷ (block_marks rest ++ ms))
    (test_takes is f os ss l If e ok.0.0 ok.0.1)
    (inner_takes a iha is f l (Then e) ss os (block_marks rest ++ ms) (InFunction is f (At os ss (AfterIf l e a))) s' ok.0.2
    (λ line. ap (λ z. Some (InFunction is f (At os ss (AfterIf l e z)))) (pieces_close a))
    (if_takes is f os ss l e a (block_marks rest ++ ms) s' (block_no_else (suc (length os)) rest ms ok.1 follows)
    (ih is f os (ss ++ if_ l e a ∷ []) ms s' ok.1 follows (more_pieces is f os ss (if_ l e a) rest ms s' h)))))

pub else_taken : (l : ℕ) (e : Text) (a b rest : Block) → IsTaken a → IsTaken b → IsTaken rest → IsTaken (Block.if_else l e a b rest)
else_taken l e a b rest iha ihb ih is f os ss ms s' ok follows h =
    let o : OpenBlock Text StatementForm Block = record { line = l; around = Then e; before = ss } in
    let behind = block_marks rest ++ ms in
    let second = block_marks b ++ on (Token.sign g.BraceClose) ∷ behind in
    let first = on (Token.word w.Else) ∷ on (Token.sign g.BraceOpen) ∷ second in
    takes_is (InFunction is f (At os ss Start)) s' ((begun l (test_tokens w.If e) ++ on (Token.sign g.BraceOpen) ∷ []) ++ (block_marks a ++ on (Token.sign g.BraceClose) ∷ first)) (block_marks (Block.if_else l e a b rest) ++ ms)
    (else_append (begun l (test_tokens w.If e)) (block_marks a) (block_marks b) (block_marks rest) ms)
    (takes_append (InFunction is f (At os ss Start)) (InFunction is f (At (o ∷ os) [] Start)) s' (begun l (test_tokens w.If e) ++ on (Token.sign g.BraceOpen) ∷ []) (block_marks a ++ on (Token.sign g.BraceClose) ∷ first)
    (test_takes is f os ss l If e ok.0.0 ok.0.1)
    (inner_takes a iha is f l (Then e) ss os first (InFunction is f (At os ss (AfterIf l e a))) s' ok.0.2
    (λ line. ap (λ z. Some (InFunction is f (At os ss (AfterIf l e z)))) (pieces_close a))
    (takes_on (InFunction is f (At os ss (AfterIf l e a))) (InFunction is f (At os ss (ElseBrace l e a))) s' (Token.word w.Else) (on (Token.sign g.BraceOpen) ∷ second) (λ line. refl)
    (takes_on (InFunction is f (At os ss (ElseBrace l e a))) (InFunction is f (At (record { line = l; around = Else e a; before = ss } ∷ os) [] Start)) s' (Token.sign g.BraceOpen) second (λ line. refl)
    (inner_takes b ihb is f l (Else e a) ss os behind (InFunction is f (At os (ss ++ if_else l e a b ∷ []) Start)) s' ok.0.3
    (λ line. ap (λ z. Some (InFunction is f (At os (ss ++ if_else l e a z ∷ []) Start))) (pieces_close b))
    (ih is f os (ss ++ if_else l e a b ∷ []) ms s' ok.1 follows (more_pieces is f os ss (if_else l e a b) rest ms s' h)))))))

pub taken : (b : Block) → IsTaken b
taken Block.end = λ is f os ss ms s' ok follows h. takes_from (InFunction is f (At os (ss ++ []) Start)) (InFunction is f (At os ss Start)) s' ms (ap (λ z. InFunction is f (At os z Start)) (append-nil ss)) h
taken (Block.simple l s rest) = simple_taken l s rest (taken rest)
taken (Block.if_ l e a rest) = if_taken l e a rest (taken a) (taken rest)
taken (Block.if_else l e a b rest) = else_taken l e a b rest (taken a) (taken b) (taken rest)
taken (Block.while_ l e a rest) = while_taken l e a rest (taken a) (taken rest)

-- files

pub func_takes : (is : List ItemForm) (l : ℕ) (f : List ℕ) (params : List (List ℕ)) (body : Block) → IsBlock 1 body → Takes (Between is) (item_marks (func l f params body)) (Between (is ++ func l f params body ∷ []))
func_takes is l f params body ok =
    let header : Header = record { line = l; name = f; params = params } in
    let last = Between (is ++ func l f params body ∷ []) in
    takes_is (Between is) last ((begun l (head_tokens f params) ++ on (Token.sign g.BraceOpen) ∷ []) ++ (block_marks body ++ on (Token.sign g.BraceClose) ∷ [])) (item_marks (func l f params body))
    (append_assoc (begun l (head_tokens f params)) (on (Token.sign g.BraceOpen) ∷ []) (block_marks body ++ on (Token.sign g.BraceClose) ∷ []))
    (takes_append (Between is) (InFunction is header (At [] [] Start)) last (begun l (head_tokens f params) ++ on (Token.sign g.BraceOpen) ∷ []) (block_marks body ++ on (Token.sign g.BraceClose) ∷ [])
    (function_takes is l f params)
    (taken body is header [] [] (on (Token.sign g.BraceClose) ∷ []) last ok refl
    (takes_on (InFunction is header (At [] (pieces body) Start)) last last (Token.sign g.BraceClose) [] (λ line. ap (λ z. Some (Between (is ++ func l f params z ∷ []))) (pieces_close body)) (takes_none last))))

pub one_takes : (is : List ItemForm) (i : ItemForm) → IsItem i → Takes (Between is) (item_marks i) (Between (is ++ i ∷ []))
one_takes is (declared l d) ok = declared_takes is l d ok
one_takes is (func l f params body) ok = func_takes is l f params body ok

pub items_take : (is items : List ItemForm) → AllByRecursion IsItem items → Takes (Between is) (flat_map item_marks items) (Between (is ++ items))
items_take is [] all = takes_to (Between is) (Between is) (Between (is ++ [])) [] (ap Between (sym (append-nil is))) (takes_none (Between is))
items_take is (i ∷ items) all =
    takes_append (Between is) (Between (is ++ i ∷ [])) (Between (is ++ i ∷ items)) (item_marks i) (flat_map item_marks items) (one_takes is i all.0)
    (takes_to (Between (is ++ i ∷ [])) (Between ((is ++ i ∷ []) ++ items)) (Between (is ++ i ∷ items)) (flat_map item_marks items) (ap Between (append_assoc is (i ∷ []) items)) (items_take (is ++ i ∷ []) items all.1))

-- The tokens of a written file lead to its items.
pub file_read : (items : List ItemForm) (ps : List LineToken) → AllByRecursion IsItem items → FitMarks (flat_map item_marks items) ps → feed_all written fresh ps ≡ Some (Between items)
file_read items ps all spelled = items_take [] items all ps spelled
