-- What the reader takes begins a file, and what it refuses begins none.
use Rattle.std.proofs.Common.{ℕ, ◌≡◌, List, [], ◌∷◌, ◌++◌, map, Some, None, refl, sym, ap, subst, ◌∙◌, IfSome}
use Rattle.loom_tree.specs.declared.token.Sign.TheVariants as g
use Rattle.loom_tree.specs.Token.{Token, LineToken}
use Rattle.loom_tree.specs.Tree as tree
use Rattle.loom_expression.specs.Text.{Text}
use Rattle.loom_syntax.specs.File.{on, FitMarks, Block, none, plus, minus, word, array, mutex, sema, ItemForm, item_tree, IsFile, IsViable}
use Rattle.loom_syntax.specs.Head.{Head, SharedName, SharedNamed, SharedValue, SharedMinus, SharedCells, SharedClose, MutexName, SemaName, SemaNamed, SemaValue, Ending, FnName, FnOpen, FnFirst, FnParam, FnNext, FnBrace, HeadNext, Declares, Begins}
use Rattle.loom_syntax.specs.Part.{PartNext}
use Rattle.loom_syntax.specs.FileReader.{Around, Then, Else, Loop, OpenBlock, BlockPosition, Start, AfterIf, ElseBrace, Within, At, Header, FileReader, Between, Heading, InFunction, fresh, close, shut_in, around, parted, headed, feed_all, finish, StatementForm, if_, if_else, while_, written}
use Rattle.loom_syntax.proofs.PartWhole as in_part
use Rattle.loom_syntax.proofs.PartWhole.{settled}
use Rattle.loom_syntax.proofs.Sound.{GoodReader, Comes, run_good}
use Rattle.loom_syntax.proofs.Whole.{run_append, head_run, head_takes, part_takes, file_read}

-- tokens by which a file is complete
pub record FileCompletion (s : FileReader Text StatementForm Block ItemForm) : Type 0 where
  pub more : List LineToken
  pub items : List ItemForm
  pub done : feed_all written s more ≡ Some (Between items)

abbrev pub placed : Token → LineToken
placed t = record { token = t; line = 0 }

abbrev pub brace : LineToken
brace = placed (Token.sign g.BraceClose)

pub placed_spells : (ts : List Token) → FitMarks (map on ts) (map placed ts)
placed_spells [] = tt
placed_spells (t ∷ ts) = (refl, placed_spells ts)

pub ended_behind : (s s' : FileReader Text StatementForm Block ItemForm) (ps : List LineToken) → feed_all written s ps ≡ Some s' → FileCompletion s' → FileCompletion s
ended_behind s s' ps is e = record { more = ps ++ e.more; items = e.items; done = run_append s ps e.more ∙ rw is e.done }

-- open blocks

abbrev pub braces : List (OpenBlock Text StatementForm Block) → List LineToken
braces [] = brace ∷ []
braces (o ∷ os) = brace ∷ braces os

pub record Shuts (s : FileReader Text StatementForm Block ItemForm) (os : List (OpenBlock Text StatementForm Block)) : Type 0 where
  pub items : List ItemForm
  pub done : feed_all written s (braces os) ≡ Some (Between items)

pub if_shuts : (is : List ItemForm) (f : Header) (os : List (OpenBlock Text StatementForm Block)) (ss : List StatementForm) (l : ℕ) (e : Text) (a : Block) → Shuts (InFunction is f (At os (ss ++ if_ l e a ∷ []) Start)) os → Shuts (InFunction is f (At os ss (AfterIf l e a))) os
if_shuts is f [] ss l e a s = record { items = s.items; done = s.done }
if_shuts is f (o ∷ os) ss l e a s = record { items = s.items; done = s.done }

pub shut_in_shuts : (is : List ItemForm) (f : Header) (a : Block) (l : ℕ) (r : Around Text Block) (before : List StatementForm) (os : List (OpenBlock Text StatementForm Block)) → ((ss : List StatementForm) → Shuts (InFunction is f (At os ss Start)) os)
    → Shuts (InFunction is f (shut_in written a l r before os)) os
shut_in_shuts is f a l (Then e) before os h = if_shuts is f os before l e a (h (before ++ if_ l e a ∷ []))
shut_in_shuts is f a l (Else e first) before os h = h (before ++ if_else l e first a ∷ [])
shut_in_shuts is f a l (Loop e) before os h = h (before ++ while_ l e a ∷ [])

pub shuts : (is : List ItemForm) (f : Header) (os : List (OpenBlock Text StatementForm Block)) (ss : List StatementForm) → Shuts (InFunction is f (At os ss Start)) os
shuts is f [] ss = record { items = is ++ ItemForm.func f.line f.name f.params (close written ss) ∷ []; done = refl }
shuts is f (o ∷ os) ss =
    let s = shut_in_shuts is f (close written ss) o.line o.around o.before os (shuts is f os) in
    record { items = s.items; done = s.done }

pub shut_ended : (s : FileReader Text StatementForm Block ItemForm) (os : List (OpenBlock Text StatementForm Block)) → Shuts s os → FileCompletion s
shut_ended s os h = record { more = braces os; items = h.items; done = h.done }

pub start_ended : (is : List ItemForm) (f : Header) (os : List (OpenBlock Text StatementForm Block)) (ss : List StatementForm) → FileCompletion (InFunction is f (At os ss Start))
start_ended is f os ss = shut_ended (InFunction is f (At os ss Start)) os (shuts is f os ss)

pub final_ended : (is : List ItemForm) (f : Header) (os : List (OpenBlock Text StatementForm Block)) (ss : List StatementForm) (l : ℕ) (n : PartNext Text) → in_part.IsFinal n → FileCompletion (InFunction is f (parted written os ss l n))
final_ended is f os ss l (PartNext.Goes q) h = absurd h
final_ended is f os ss l (PartNext.Ends s) h = start_ended is f os (ss ++ StatementForm.simple l s ∷ [])
final_ended is f os ss l (PartNext.Opens test e) h = start_ended is f (record { line = l; around = around test e; before = ss } ∷ os) []

pub inside_ended : (is : List ItemForm) (f : Header) (os : List (OpenBlock Text StatementForm Block)) (ss : List StatementForm) (pt : BlockPosition Text Block) → GoodReader (InFunction is f (At os ss pt)) → FileCompletion (InFunction is f (At os ss pt))
inside_ended is f os ss Start h = start_ended is f os ss
inside_ended is f os ss (AfterIf l e a) h = shut_ended (InFunction is f (At os ss (AfterIf l e a))) os (if_shuts is f os ss l e a (shuts is f os (ss ++ if_ l e a ∷ [])))
inside_ended is f os ss (ElseBrace l e a) h =
    ended_behind (InFunction is f (At os ss (ElseBrace l e a))) (InFunction is f (At (record { line = l; around = Else e a; before = ss } ∷ os) [] Start)) (placed (Token.sign g.BraceOpen) ∷ []) refl
    (start_ended is f (record { line = l; around = Else e a; before = ss } ∷ os) [])
inside_ended is f os ss (Within l q) h =
    let s = settled _ q h.1.2.0 in
    ended_behind (InFunction is f (At os ss (Within l q))) (InFunction is f (parted written os ss l s.last)) (map placed s.more)
    (part_takes is f os ss l (PartNext.Goes q) s.last s.more s.runs (map placed s.more) (placed_spells s.more)) (final_ended is f os ss l s.last s.final)

-- declarations, and functions up to their block

abbrev pub IsFinal : HeadNext → Type 0
IsFinal (HeadNext.Goes h) = ⊥
IsFinal (Declares d) = Unit {0}
IsFinal (Begins f params) = Unit {0}

pub record HeadCompletion (h : Head) : Type 0 where
  pub more : List Token
  pub last : HeadNext
  pub final : IsFinal last
  pub runs : head_run (HeadNext.Goes h) more ≡ Some last

abbrev pub some_name : List ℕ
some_name = 97 ∷ []

abbrev pub semicolon : List Token
semicolon = Token.sign g.Semicolon ∷ []

abbrev pub block_begins : List Token
block_begins = Token.sign g.ParenClose ∷ Token.sign g.BraceOpen ∷ []

pub head_settled : (h : Head) → HeadCompletion h
head_settled SharedName = record { more = Token.name some_name ∷ semicolon; last = Declares (word some_name none); final = tt; runs = refl }
head_settled (SharedNamed x) = record { more = semicolon; last = Declares (word x none); final = tt; runs = refl }
head_settled (SharedValue x) = record { more = Token.num 0 ∷ semicolon; last = Declares (word x (plus 0)); final = tt; runs = refl }
head_settled (SharedMinus x) = record { more = Token.num 0 ∷ semicolon; last = Declares (word x (minus 0)); final = tt; runs = refl }
head_settled (SharedCells x) = record { more = Token.num 0 ∷ Token.sign g.BracketClose ∷ semicolon; last = Declares (array x 0); final = tt; runs = refl }
head_settled (SharedClose x n) = record { more = Token.sign g.BracketClose ∷ semicolon; last = Declares (array x n); final = tt; runs = refl }
head_settled MutexName = record { more = Token.name some_name ∷ semicolon; last = Declares (mutex some_name); final = tt; runs = refl }
head_settled SemaName = record { more = Token.name some_name ∷ semicolon; last = Declares (sema some_name None); final = tt; runs = refl }
head_settled (SemaNamed x) = record { more = semicolon; last = Declares (sema x None); final = tt; runs = refl }
head_settled (SemaValue x) = record { more = Token.num 0 ∷ semicolon; last = Declares (sema x (Some 0)); final = tt; runs = refl }
head_settled (Ending d) = record { more = semicolon; last = Declares d; final = tt; runs = refl }
head_settled FnName = record { more = Token.name some_name ∷ Token.sign g.ParenOpen ∷ block_begins; last = Begins some_name []; final = tt; runs = refl }
head_settled (FnOpen f) = record { more = Token.sign g.ParenOpen ∷ block_begins; last = Begins f []; final = tt; runs = refl }
head_settled (FnFirst f) = record { more = block_begins; last = Begins f []; final = tt; runs = refl }
head_settled (FnParam f params) = record { more = Token.name some_name ∷ block_begins; last = Begins f (params ++ some_name ∷ []); final = tt; runs = refl }
head_settled (FnNext f params) = record { more = block_begins; last = Begins f params; final = tt; runs = refl }
head_settled (FnBrace f params) = record { more = Token.sign g.BraceOpen ∷ []; last = Begins f params; final = tt; runs = refl }

pub headed_ended : (is : List ItemForm) (l : ℕ) (n : HeadNext) → IsFinal n → FileCompletion (headed written is l n)
headed_ended is l (HeadNext.Goes h) k = absurd k
headed_ended is l (Declares d) k = record { more = []; items = is ++ ItemForm.declared l d ∷ []; done = refl }
headed_ended is l (Begins f params) k = start_ended is (record { line = l; name = f; params = params }) [] []

-- Each good state has an end.
pub ended : (s : FileReader Text StatementForm Block ItemForm) → GoodReader s → FileCompletion s
ended (Between is) h = record { more = []; items = is; done = refl }
ended (Heading is l d) h =
    let s = head_settled d in
    ended_behind (Heading is l d) (headed written is l s.last) (map placed s.more) (head_takes is l (HeadNext.Goes d) s.last s.more s.runs (map placed s.more) (placed_spells s.more)) (headed_ended is l s.last s.final)
ended (InFunction is f (At os ss pt)) h = inside_ended is f os ss pt h

-- files

abbrev pub first : FileReader Text StatementForm Block ItemForm
first = fresh

pub accepted : (ps : List LineToken) (items : List ItemForm) → feed_all written first ps ≡ Some (Between items) → IsFile ps (map item_tree items)
accepted ps items is =
    let c : IfSome (feed_all written first ps) (Comes [] ps) = run_good first ps tt in
    let c' : Comes [] ps (Between items) = rw is at c in
    record { written = items; rules = c'.good; spelled = subst (λ z. FitMarks z ps) (sym c'.is) c'.spelled; stands = refl }

pub run_viable : (ps : List LineToken) (s : FileReader Text StatementForm Block ItemForm) → feed_all written first ps ≡ Some s → IsViable ps
run_viable ps s is =
    let c : IfSome (feed_all written first ps) (Comes [] ps) = run_good first ps tt in
    let c' : Comes [] ps s = rw is at c in
    let e = ended s c'.good in
    record { more = e.more; items = map item_tree e.items; whole = accepted (ps ++ e.more) e.items (run_append first ps e.more ∙ rw is e.done) }

pub file_runs : (ps : List LineToken) (items : List tree.FileItem) (x : IsFile ps items) → feed_all written first ps ≡ Some (Between x.written)
file_runs ps items x = file_read x.written ps x.rules x.spelled

pub stuck_not_viable : (ps : List LineToken) → feed_all written first ps ≡ None → IsViable ps → ⊥
stuck_not_viable ps is v =
    let e : feed_all written first (ps ++ v.more) ≡ Some (Between v.whole.written) = file_runs (ps ++ v.more) v.items v.whole in
    let f : feed_all written first (ps ++ v.more) ≡ None = run_append first ps v.more ∙ rw is refl in
    cc

pub unfinished_not_file : (ps : List LineToken) (s : FileReader Text StatementForm Block ItemForm) (items : List tree.FileItem) → feed_all written first ps ≡ Some s → finish s ≡ None → IsFile ps items → ⊥
unfinished_not_file ps s items is open_ x =
    let e : feed_all written first ps ≡ Some (Between x.written) = file_runs ps items x in
    let same : s ≡ Between x.written = cc in
    let done : finish s ≡ Some x.written = ap finish same in
    cc

pub one_file : (ps : List LineToken) (a b : List tree.FileItem) → IsFile ps a → IsFile ps b → a ≡ b
one_file ps a b x y =
    let e : feed_all written first ps ≡ Some (Between x.written) = file_runs ps a x in
    let f : feed_all written first ps ≡ Some (Between y.written) = file_runs ps b y in
    let same : x.written ≡ y.written = cc in
    sym x.stands ∙ ap (map item_tree) same ∙ y.stands
