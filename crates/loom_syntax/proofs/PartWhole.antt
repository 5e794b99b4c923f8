-- Each statement is read up to its end or its block, and each good part has an end.
use Rattle.std.proofs.Common.{ℕ, ◌≡◌, List, [], ◌∷◌, ◌++◌, map, Option, Some, None, Bool, true, false, if◌then◌else◌, refl, sym, ap, ◌∙◌, append_assoc, IfSome}
use Rattle.std.specs.List.{AllByRecursion}
use Rattle.loom_tree.specs.declared.token.Sign.{Sign}
use Rattle.loom_tree.specs.declared.token.Sign.TheVariants as g
use Rattle.loom_tree.specs.Token.{Token}
use Rattle.loom_tree.specs.Tree.{Right, Simple}
use Rattle.loom_expression.specs.Text.{Text, tokens, IsWritten}
use Rattle.loom_expression.specs.Reader as expression
use Rattle.loom_expression.specs.Reader.{after, is_whole, written}
use Rattle.loom_expression.proofs.Sound as sound
use Rattle.loom_expression.proofs.Whole.{completes}
use Rattle.loom_expression.proofs.Viable.{completion, whole_paren, whole_bracket, outside_none}
use Rattle.loom_syntax.specs.File.{behind_commas, with_commas, simple_tokens, with_semicolon, IsSimple}
use Rattle.loom_syntax.specs.Tests.{is_sign}
use Rattle.loom_syntax.specs.Part.{Assignee, Let, Set, Goal, Call, RightCall, RightSpawn, Sync, Lock, Test, Purpose, Value, Argument, Index, CellValue, Condition, Return, Join, Print, Part, LetName, LetAssign, Started, RightOf, RightNamed, SpawnName, SpawnOpen, SyncName, TestOpen, Arguments, Returned, SetAssign, Reading, Ending, TestBrace, PartNext, Goes, Ends, Opens, assigned, call_of, synced, closes, behind_expression, ends_here, read_step, begin_part, part_step}
use Rattle.loom_syntax.proofs.Choices.{sign_is}
use Rattle.loom_syntax.proofs.PartSound.{Good}

abbrev pub next_step : PartNext Text → Token → Option (PartNext Text)
next_step (Goes q) t = part_step written q t
next_step (Ends s) t = None
next_step (Opens test e) t = None

abbrev pub feed_all : PartNext Text → List Token → Option (PartNext Text)
feed_all n [] = Some n
feed_all n (t ∷ ts) = after (next_step n t) (λ m. feed_all m ts)

pub run_append : (n : PartNext Text) (a b : List Token) → feed_all n (a ++ b) ≡ after (feed_all n a) (λ m. feed_all m b)
run_append n [] b = refl
run_append n (t ∷ a) b = go (next_step n t) (λ m. run_append m a b)
  where
    go : (o : Option (PartNext Text)) → ((m : PartNext Text) → feed_all m (a ++ b) ≡ after (feed_all m a) (λ m'. feed_all m' b))
        → after o (λ m. feed_all m (a ++ b)) ≡ after (after o (λ m. feed_all m a)) (λ m'. feed_all m' b)
    go None h = refl
    go (Some m) h = h m

-- expressions

pub sign_none : (g : Sign) (s : expression.Reader Text) (t : Token) → expression.feed written s (Token.sign g) ≡ None → is_sign g t ≡ true → expression.feed written s t ≡ None
sign_none g s t none is = ap (expression.feed written s) (sign_is g t is) ∙ none

pub argument_none : (s : expression.Reader Text) (t : Token) → sound.GoodReader s → is_whole s ≡ true → (if is_sign g.Comma t then true else is_sign g.ParenClose t) ≡ true → expression.feed written s t ≡ None
argument_none s t good whole is = go (is_sign g.Comma t) refl is
  where
    go : (v : Bool) → is_sign g.Comma t ≡ v → (if v then true else is_sign g.ParenClose t) ≡ true → expression.feed written s t ≡ None
    go true was is = sign_none g.Comma s t (outside_none written s (Token.sign g.Comma) tt) was
    go false was is = sign_none g.ParenClose s t (whole_paren s good whole) is

-- What ends an expression can't go on in it.
pub closer_none : (p : Purpose Text) (s : expression.Reader Text) (t : Token) → sound.GoodReader s → is_whole s ≡ true → closes p t ≡ true → expression.feed written s t ≡ None
closer_none (Value target) s t good whole is = sign_none g.Semicolon s t (outside_none written s (Token.sign g.Semicolon) tt) is
closer_none (Argument goal before) s t good whole is = argument_none s t good whole is
closer_none (Index x) s t good whole is = sign_none g.BracketClose s t (whole_bracket s good whole) is
closer_none (CellValue x i) s t good whole is = sign_none g.Semicolon s t (outside_none written s (Token.sign g.Semicolon) tt) is
closer_none (Condition test) s t good whole is = sign_none g.ParenClose s t (whole_paren s good whole) is
closer_none Return s t good whole is = sign_none g.Semicolon s t (outside_none written s (Token.sign g.Semicolon) tt) is
closer_none Join s t good whole is = sign_none g.Semicolon s t (outside_none written s (Token.sign g.Semicolon) tt) is
closer_none Print s t good whole is = sign_none g.Semicolon s t (outside_none written s (Token.sign g.Semicolon) tt) is

pub goes_on : (p : Purpose Text) (s s' : expression.Reader Text) (t : Token) → sound.GoodReader s → expression.feed written s t ≡ Some s' → ends_here p s t ≡ false
goes_on p s s' t good is = go (is_whole s) refl
  where
    last : (v : Bool) → closes p t ≡ v → is_whole s ≡ true → v ≡ false
    last true c whole = let none : expression.feed written s t ≡ None = closer_none p s t good whole c in cc
    last false c whole = refl

    go : (v : Bool) → is_whole s ≡ v → (if v then closes p t else false) ≡ false
    go true whole = last (closes p t) refl whole
    go false whole = refl

pub fed : (p : Purpose Text) (s s' : expression.Reader Text) (t : Token) → sound.GoodReader s → expression.feed written s t ≡ Some s' → read_step written p s t ≡ Some (Goes (Reading p s'))
fed p s s' t good is = rw (goes_on p s s' t good is, is) refl

pub fed_run : (p : Purpose Text) (s s' : expression.Reader Text) (ts : List Token) → sound.GoodReader s → expression.feed_all written s ts ≡ Some s' → feed_all (Goes (Reading p s)) ts ≡ Some (Goes (Reading p s'))
fed_run p s s' [] good is = let same : s ≡ s' = cc in ap (λ z. Some (Goes (Reading p z))) same
fed_run p s s' (t ∷ ts) good is = go (expression.feed written s t) refl (sound.step_good s t good) is (λ s1 good1 is1. fed_run p s1 s' ts good1 is1)
  where
    go : (o : Option (expression.Reader Text)) → expression.feed written s t ≡ o → IfSome o (sound.Reads (sound.read s) t) → after o (λ s1. expression.feed_all written s1 ts) ≡ Some s'
        → ((s1 : expression.Reader Text) → sound.GoodReader s1 → expression.feed_all written s1 ts ≡ Some s' → feed_all (Goes (Reading p s1)) ts ≡ Some (Goes (Reading p s')))
        → feed_all (Goes (Reading p s)) (t ∷ ts) ≡ Some (Goes (Reading p s'))
    go None was reads is more = cc
    go (Some s1) was reads is more = rw (fed p s s1 t good was) (more s1 reads.0 is)

pub read_to : (p : Purpose Text) (s : expression.Reader Text) (e : Text) (t : Token) → is_whole s ≡ true → expression.finish written s ≡ Some e → closes p t ≡ true → read_step written p s t ≡ Some (behind_expression p e t)
read_to p s e t whole done is = rw (whole, is, done) refl

pub expression_run : (p : Purpose Text) (e : Text) (t : Token) (rest : List Token) → IsWritten e → closes p t ≡ true → feed_all (Goes (Reading p expression.fresh)) (tokens e ++ t ∷ rest) ≡ feed_all (behind_expression p e t) rest
expression_run p e t rest ok is =
    let c = completes e ok in
    run_append (Goes (Reading p expression.fresh)) (tokens e) (t ∷ rest)
    ∙ rw (fed_run p expression.fresh c.last (tokens e) sound.start_good c.is.runs) (ap (λ o. after o (λ m. feed_all m rest)) (read_to p c.last e t c.is.whole c.is.done is))

-- the first token of an expression
pub record Front (e : Text) : Type 0 where
  pub first : Token
  pub rest : List Token
  pub next : expression.Reader Text
  pub last : expression.Reader Text
  pub is : tokens e ≡ first ∷ rest
  pub steps : expression.feed written expression.fresh first ≡ Some next
  pub runs : expression.feed_all written next rest ≡ Some last

pub front : (e : Text) → IsWritten e → Front e
front e ok = let c = completes e ok in go (tokens e) refl c.last c.is.runs c.is.done
  where
    feed : (t : Token) (ts : List Token) (last : expression.Reader Text) (o : Option (expression.Reader Text)) → tokens e ≡ t ∷ ts → expression.feed written expression.fresh t ≡ o → after o (λ s. expression.feed_all written s ts) ≡ Some last → Front e
    feed t ts last None is was runs = cc
    feed t ts last (Some s) is was runs = record { first = t; rest = ts; next = s; last = last; is = is; steps = was; runs = runs }

    go : (ts : List Token) → tokens e ≡ ts → (last : expression.Reader Text) → expression.feed_all written expression.fresh ts ≡ Some last → expression.finish written last ≡ Some e → Front e
    go [] is last runs done = let same : expression.fresh ≡ last = cc in let none : expression.finish written last ≡ None = ap (expression.finish written) (sym same) in cc
    go (t ∷ ts) is last runs done = feed t ts last (expression.feed written expression.fresh t) is refl runs

-- what begins an expression isn't this sign
pub begins_not : (g : Sign) (t : Token) (s s' : expression.Reader Text) → expression.feed written s (Token.sign g) ≡ None → expression.feed written s t ≡ Some s' → is_sign g t ≡ false
begins_not g t s s' none is = go (is_sign g t) refl
  where
    go : (v : Bool) → is_sign g t ≡ v → v ≡ false
    go true was = let f : expression.feed written s t ≡ None = sign_none g s t none was in cc
    go false was = refl

-- a part that reads an expression from its first token on
pub first_same : (q : Part Text) (p : Purpose Text) (e : Text) (rest : List Token) → IsWritten e → ((t : Token) (s : expression.Reader Text) → expression.feed written expression.fresh t ≡ Some s → part_step written q t ≡ read_step written p expression.fresh t)
    → feed_all (Goes q) (tokens e ++ rest) ≡ feed_all (Goes (Reading p expression.fresh)) (tokens e ++ rest)
first_same q p e rest ok same =
    let f = front e ok in
    rw f.is (ap (λ o. after o (λ m. feed_all m (f.rest ++ rest))) (same f.first f.next f.steps))

-- arguments

pub later_run : (goal : Goal) (before : List Text) (e : Text) (es : List Text) → IsWritten e → AllByRecursion IsWritten es
    → feed_all (Goes (Reading (Argument goal before) expression.fresh)) (tokens e ++ (behind_commas (map tokens es) ++ Token.sign g.ParenClose ∷ [])) ≡ Some (Goes (Ending (call_of goal (before ++ e ∷ es))))
later_run goal before e [] ok all = expression_run (Argument goal before) e (Token.sign g.ParenClose) [] ok refl
later_run goal before e (e' ∷ es) ok all =
    expression_run (Argument goal before) e (Token.sign g.Comma) ((tokens e' ++ behind_commas (map tokens es)) ++ Token.sign g.ParenClose ∷ []) ok refl
    ∙ ap (feed_all (Goes (Reading (Argument goal (before ++ e ∷ [])) expression.fresh))) (append_assoc (tokens e') (behind_commas (map tokens es)) (Token.sign g.ParenClose ∷ []))
    ∙ later_run goal (before ++ e ∷ []) e' es all.0 all.1
    ∙ ap (λ z. Some (Goes (Ending (call_of goal z)))) (append_assoc before (e ∷ []) (e' ∷ es))

pub arguments_run : (goal : Goal) (es : List Text) → AllByRecursion IsWritten es → feed_all (Goes (Arguments goal)) (with_commas (map tokens es) ++ Token.sign g.ParenClose ∷ []) ≡ Some (Goes (Ending (call_of goal es)))
arguments_run goal [] all = refl
arguments_run goal (e ∷ es) all =
    ap (feed_all (Goes (Arguments goal))) (append_assoc (tokens e) (behind_commas (map tokens es)) (Token.sign g.ParenClose ∷ []))
    ∙ first_same (Arguments goal) (Argument goal []) e (behind_commas (map tokens es) ++ Token.sign g.ParenClose ∷ []) all.0 (λ t s is. rw (begins_not g.ParenClose t expression.fresh s refl is) refl)
    ∙ later_run goal [] e es all.0 all.1

pub goal_run : (goal : Goal) (es : List Text) → AllByRecursion IsWritten es → feed_all (Goes (Arguments goal)) (with_semicolon (with_commas (map tokens es) ++ Token.sign g.ParenClose ∷ [])) ≡ Some (Ends (call_of goal es))
goal_run goal es all =
    run_append (Goes (Arguments goal)) (with_commas (map tokens es) ++ Token.sign g.ParenClose ∷ []) (Token.sign g.Semicolon ∷ [])
    ∙ rw (arguments_run goal es all) refl

-- the right of `=`

-- a name behind `=` that no `(` follows
pub named_same : (target : Assignee) (f : List ℕ) (t : Token) → is_sign g.ParenOpen t ≡ false
    → part_step written (RightNamed target f) t ≡ part_step written (Reading (Value target) (expression.Named f (record { nodes = 1; unary = 0; brackets = 0 }) [])) t
named_same target f t is = rw is refl

pub named_run : (target : Assignee) (f : List ℕ) (ts : List Token) (last : expression.Reader Text) → expression.feed_all written (expression.Named f (record { nodes = 1; unary = 0; brackets = 0 }) []) ts ≡ Some last
    → feed_all (Goes (RightNamed target f)) (with_semicolon ts) ≡ feed_all (Goes (Reading (Value target) (expression.Named f (record { nodes = 1; unary = 0; brackets = 0 }) []))) (with_semicolon ts)
named_run target f [] last is = refl
named_run target f (t ∷ ts) last is = go (expression.feed written (expression.Named f (record { nodes = 1; unary = 0; brackets = 0 }) []) t) refl is
  where
    go : (o : Option (expression.Reader Text)) → expression.feed written (expression.Named f (record { nodes = 1; unary = 0; brackets = 0 }) []) t ≡ o → after o (λ s. expression.feed_all written s ts) ≡ Some last
        → feed_all (Goes (RightNamed target f)) (with_semicolon (t ∷ ts)) ≡ feed_all (Goes (Reading (Value target) (expression.Named f (record { nodes = 1; unary = 0; brackets = 0 }) []))) (with_semicolon (t ∷ ts))
    go None was runs = cc
    go (Some s) was runs = ap (λ o. after o (λ m. feed_all m (with_semicolon ts))) (named_same target f t (begins_not g.ParenOpen t (expression.Named f (record { nodes = 1; unary = 0; brackets = 0 }) []) s refl was))

pub right_first : (target : Assignee) (t : Token) (ts : List Token) (s last : expression.Reader Text) → expression.feed written expression.fresh t ≡ Some s → expression.feed_all written s ts ≡ Some last
    → feed_all (Goes (RightOf target)) (with_semicolon (t ∷ ts)) ≡ feed_all (Goes (Reading (Value target) expression.fresh)) (with_semicolon (t ∷ ts))
right_first target (Token.name f) ts s last is runs =
    let same : expression.Named f (record { nodes = 1; unary = 0; brackets = 0 }) [] ≡ s = cc in
    named_run target f ts last (ap (λ z. expression.feed_all written z ts) same ∙ runs)
right_first target (Token.num n) ts s last is runs = refl
right_first target (Token.word k) ts s last is runs = cc
right_first target (Token.op o) ts s last is runs = refl
right_first target (Token.sign g) ts s last is runs = refl
right_first target Token.bad ts s last is runs = refl

pub right_run : (target : Assignee) (e : Text) → IsWritten e → feed_all (Goes (RightOf target)) (with_semicolon (tokens e)) ≡ Some (Ends (assigned target (Right.value e)))
right_run target e ok =
    let f = front e ok in
    let same : feed_all (Goes (RightOf target)) (with_semicolon (tokens e)) ≡ feed_all (Goes (Reading (Value target) expression.fresh)) (with_semicolon (tokens e)) = rw f.is (right_first target f.first f.rest f.next f.last f.steps f.runs) in
    same ∙ expression_run (Value target) e (Token.sign g.Semicolon) [] ok refl

-- whole statements

-- The statement begins with a token that leads to a part, and the rest leads to its end.
pub record IsReadable (s : Simple Text) : Type 0 where
  pub first : Token
  pub rest : List Token
  pub part : Part Text
  pub is : simple_tokens s ≡ first ∷ rest
  pub begins : (room : Bool) → begin_part room first ≡ Some part
  pub runs : feed_all (Goes part) (with_semicolon rest) ≡ Some (Ends s)

pub cell_run : (x : List ℕ) (i e : Text) → IsWritten i → IsWritten e
    → feed_all (Goes (Reading (Index x) expression.fresh)) (with_semicolon (tokens i ++ Token.sign g.BracketClose ∷ Token.sign g.Assign ∷ tokens e)) ≡ Some (Ends (Simple.set_cell x i e))
cell_run x i e oki oke =
    ap (feed_all (Goes (Reading (Index x) expression.fresh))) (append_assoc (tokens i) (Token.sign g.BracketClose ∷ Token.sign g.Assign ∷ tokens e) (Token.sign g.Semicolon ∷ []))
    ∙ expression_run (Index x) i (Token.sign g.BracketClose) (Token.sign g.Assign ∷ with_semicolon (tokens e)) oki refl
    ∙ expression_run (CellValue x i) e (Token.sign g.Semicolon) [] oke refl

pub return_run : (e : Text) → IsWritten e → feed_all (Goes Returned) (with_semicolon (tokens e)) ≡ Some (Ends (Simple.return (Some e)))
return_run e ok =
    first_same Returned Return e (Token.sign g.Semicolon ∷ []) ok (λ t s is. rw (begins_not g.Semicolon t expression.fresh s refl is) refl)
    ∙ expression_run Return e (Token.sign g.Semicolon) [] ok refl

pub readable : (s : Simple Text) → IsSimple s → IsReadable s
readable (Simple.let_ x (Right.value e)) ok = record { first = _; rest = _; part = LetName; is = refl; begins = λ room. refl; runs = right_run (Let x) e ok }
readable (Simple.let_ x (Right.call f es)) ok = record { first = _; rest = _; part = LetName; is = refl; begins = λ room. refl; runs = goal_run (RightCall (Let x) f) es ok }
readable (Simple.let_ x (Right.spawn f es)) ok = record { first = _; rest = _; part = LetName; is = refl; begins = λ room. refl; runs = goal_run (RightSpawn (Let x) f) es ok }
readable (Simple.set x (Right.value e)) ok = record { first = _; rest = _; part = Started x; is = refl; begins = λ room. refl; runs = right_run (Set x) e ok }
readable (Simple.set x (Right.call f es)) ok = record { first = _; rest = _; part = Started x; is = refl; begins = λ room. refl; runs = goal_run (RightCall (Set x) f) es ok }
readable (Simple.set x (Right.spawn f es)) ok = record { first = _; rest = _; part = Started x; is = refl; begins = λ room. refl; runs = goal_run (RightSpawn (Set x) f) es ok }
readable (Simple.set_cell x i e) ok = record { first = _; rest = _; part = Started x; is = refl; begins = λ room. refl; runs = cell_run x i e ok.0 ok.1 }
readable (Simple.call f es) ok = record { first = _; rest = _; part = Started f; is = refl; begins = λ room. refl; runs = goal_run (Call f) es ok }
readable (Simple.return None) ok = record { first = _; rest = _; part = Returned; is = refl; begins = λ room. refl; runs = refl }
readable (Simple.return (Some e)) ok = record { first = _; rest = _; part = Returned; is = refl; begins = λ room. refl; runs = return_run e ok }
readable (Simple.lock x) ok = record { first = _; rest = _; part = SyncName Lock; is = refl; begins = λ room. refl; runs = refl }
readable (Simple.unlock x) ok = record { first = _; rest = _; part = SyncName Sync.Unlock; is = refl; begins = λ room. refl; runs = refl }
readable (Simple.down x) ok = record { first = _; rest = _; part = SyncName Sync.Down; is = refl; begins = λ room. refl; runs = refl }
readable (Simple.up x) ok = record { first = _; rest = _; part = SyncName Sync.Up; is = refl; begins = λ room. refl; runs = refl }
readable (Simple.join e) ok = record { first = _; rest = _; part = Reading Join expression.fresh; is = refl; begins = λ room. refl; runs = expression_run Join e (Token.sign g.Semicolon) [] ok refl }
readable (Simple.print e) ok = record { first = _; rest = _; part = Reading Print expression.fresh; is = refl; begins = λ room. refl; runs = expression_run Print e (Token.sign g.Semicolon) [] ok refl }
readable Simple.skip ok = record { first = _; rest = _; part = Ending Simple.skip; is = refl; begins = λ room. refl; runs = refl }

-- a condition, and the `{` behind it
pub test_run : (test : Test) (e : Text) → IsWritten e → feed_all (Goes (TestOpen test)) (Token.sign g.ParenOpen ∷ (tokens e ++ Token.sign g.ParenClose ∷ Token.sign g.BraceOpen ∷ [])) ≡ Some (Opens test e)
test_run test e ok = expression_run (Condition test) e (Token.sign g.ParenClose) (Token.sign g.BraceOpen ∷ []) ok refl

-- ends of good parts

abbrev pub IsFinal : PartNext Text → Type 0
IsFinal (Goes q) = ⊥
IsFinal (Ends s) = Unit {0}
IsFinal (Opens test e) = Unit {0}

pub record PartCompletion (n : PartNext Text) : Type 0 where
  pub more : List Token
  pub last : PartNext Text
  pub final : IsFinal last
  pub runs : feed_all n more ≡ Some last

pub at_end : (n : PartNext Text) → IsFinal n → PartCompletion n
at_end n h = record { more = []; last = n; final = h; runs = refl }

pub behind : (q : Part Text) (t : Token) (n : PartNext Text) → part_step written q t ≡ Some n → PartCompletion n → PartCompletion (Goes q)
behind q t n is s = record { more = t ∷ s.more; last = s.last; final = s.final; runs = rw is s.runs }

pub reading_settled : (p : Purpose Text) (s : expression.Reader Text) (t : Token) → sound.GoodReader s → closes p t ≡ true → ((e : Text) → PartCompletion (behind_expression p e t)) → PartCompletion (Goes (Reading p s))
reading_settled p s t good is ends =
    let c = completion s good in
    let z = ends c.text in
    record {
      more = c.more ++ t ∷ z.more;
      last = z.last;
      final = z.final;
      runs = run_append (Goes (Reading p s)) c.more (t ∷ z.more) ∙ rw (fed_run p s c.last c.more good c.runs) (ap (λ o. after o (λ m. feed_all m z.more)) (read_to p c.last c.text t c.whole c.done is) ∙ z.runs);
    }

pub ending_settled : (s : Simple Text) → PartCompletion (Goes (Ending s))
ending_settled s = behind (Ending s) (Token.sign g.Semicolon) (Ends s) refl (at_end (Ends s) tt)

pub cell_settled : (x : List ℕ) (i : Text) → PartCompletion (Goes (SetAssign x i))
cell_settled x i =
    behind (SetAssign x i) (Token.sign g.Assign) (Goes (Reading (CellValue x i) expression.fresh)) refl
    (reading_settled (CellValue x i) expression.fresh (Token.sign g.Semicolon) sound.start_good refl (λ e. at_end (Ends (Simple.set_cell x i e)) tt))

pub brace_settled : (test : Test) (e : Text) → PartCompletion (Goes (TestBrace test e))
brace_settled test e = behind (TestBrace test e) (Token.sign g.BraceOpen) (Opens test e) refl (at_end (Opens test e) tt)

pub purpose_settled : (p : Purpose Text) (s : expression.Reader Text) → sound.GoodReader s → PartCompletion (Goes (Reading p s))
purpose_settled (Value target) s good = reading_settled (Value target) s (Token.sign g.Semicolon) good refl (λ e. at_end (Ends (assigned target (Right.value e))) tt)
purpose_settled (Argument goal before) s good = reading_settled (Argument goal before) s (Token.sign g.ParenClose) good refl (λ e. ending_settled (call_of goal (before ++ e ∷ [])))
purpose_settled (Index x) s good = reading_settled (Index x) s (Token.sign g.BracketClose) good refl (λ e. cell_settled x e)
purpose_settled (CellValue x i) s good = reading_settled (CellValue x i) s (Token.sign g.Semicolon) good refl (λ e. at_end (Ends (Simple.set_cell x i e)) tt)
purpose_settled (Condition test) s good = reading_settled (Condition test) s (Token.sign g.ParenClose) good refl (λ e. brace_settled test e)
purpose_settled Return s good = reading_settled Return s (Token.sign g.Semicolon) good refl (λ e. at_end (Ends (Simple.return (Some e))) tt)
purpose_settled Join s good = reading_settled Join s (Token.sign g.Semicolon) good refl (λ e. at_end (Ends (Simple.join e)) tt)
purpose_settled Print s good = reading_settled Print s (Token.sign g.Semicolon) good refl (λ e. at_end (Ends (Simple.print e)) tt)

pub right_named_settled : (target : Assignee) (f : List ℕ) → PartCompletion (Goes (RightNamed target f))
right_named_settled target f = behind (RightNamed target f) (Token.sign g.Semicolon) (Ends (assigned target (Right.value (Text.var f)))) refl (at_end (Ends (assigned target (Right.value (Text.var f)))) tt)

pub right_settled : (target : Assignee) → PartCompletion (Goes (RightOf target))
right_settled target = behind (RightOf target) (Token.name (97 ∷ [])) (Goes (RightNamed target (97 ∷ []))) refl (right_named_settled target (97 ∷ []))

pub arguments_settled : (goal : Goal) → PartCompletion (Goes (Arguments goal))
arguments_settled goal = behind (Arguments goal) (Token.sign g.ParenClose) (Goes (Ending (call_of goal []))) refl (ending_settled (call_of goal []))

pub spawn_settled : (target : Assignee) (f : List ℕ) → PartCompletion (Goes (SpawnOpen target f))
spawn_settled target f = behind (SpawnOpen target f) (Token.sign g.ParenOpen) (Goes (Arguments (RightSpawn target f))) refl (arguments_settled (RightSpawn target f))

pub let_settled : (x : List ℕ) → PartCompletion (Goes (LetAssign x))
let_settled x = behind (LetAssign x) (Token.sign g.Assign) (Goes (RightOf (Let x))) refl (right_settled (Let x))

pub settled : (n : ℕ) (q : Part Text) → Good n q → PartCompletion (Goes q)
settled n LetName ok = behind LetName (Token.name (97 ∷ [])) (Goes (LetAssign (97 ∷ []))) refl (let_settled (97 ∷ []))
settled n (LetAssign x) ok = let_settled x
settled n (Started x) ok = behind (Started x) (Token.sign g.Assign) (Goes (RightOf (Set x))) refl (right_settled (Set x))
settled n (RightOf target) ok = right_settled target
settled n (RightNamed target f) ok = right_named_settled target f
settled n (SpawnName target) ok = behind (SpawnName target) (Token.name (97 ∷ [])) (Goes (SpawnOpen target (97 ∷ []))) refl (spawn_settled target (97 ∷ []))
settled n (SpawnOpen target f) ok = spawn_settled target f
settled n (SyncName sync) ok = behind (SyncName sync) (Token.name (97 ∷ [])) (Goes (Ending (synced sync (97 ∷ [])))) refl (ending_settled (synced sync (97 ∷ [])))
settled n (TestOpen test) ok = behind (TestOpen test) (Token.sign g.ParenOpen) (Goes (Reading (Condition test) expression.fresh)) refl (purpose_settled (Condition test) expression.fresh sound.start_good)
settled n (Arguments goal) ok = arguments_settled goal
settled n Returned ok = behind Returned (Token.sign g.Semicolon) (Ends (Simple.return None)) refl (at_end (Ends (Simple.return None)) tt)
settled n (SetAssign x i) ok = cell_settled x i
settled n (Reading p s) ok = purpose_settled p s ok.1
settled n (Ending s) ok = ending_settled s
settled n (TestBrace test e) ok = brace_settled test e
