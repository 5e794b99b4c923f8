-- On statements, the reader over trees does what the reader over written expressions does.
use Rattle.std.proofs.Common.{ℕ, ◌≡◌, List, [], ◌∷◌, ◌++◌, map, Option, Some, None, Bool, true, false, if◌then◌else◌, refl, sym, ap, ◌∙◌}
use Rattle.std.proofs.lemmas.List.{map-append}
use Rattle.loom_tree.specs.declared.token.Keyword.{Keyword}
use Rattle.loom_tree.specs.declared.token.Keyword.TheVariants as w
use Rattle.loom_tree.specs.declared.token.Sign.TheVariants as g
use Rattle.loom_tree.specs.Token.{Token}
use Rattle.loom_tree.specs.Tree.{Expression, Right}
use Rattle.loom_expression.specs.Text.{Text, tree}
use Rattle.loom_expression.specs.Reader as expression
use Rattle.loom_expression.specs.Reader.{after, is_whole, written, plain}
use Rattle.loom_expression.proofs.Natural as natural
use Rattle.loom_syntax.specs.File.{right_tree, simple_tree}
use Rattle.loom_syntax.specs.Tests.{is_keyword, is_sign, name_of}
use Rattle.loom_syntax.specs.Part.{Assignee, Let, Set, Goal, Call, RightCall, RightSpawn, Sync, Lock, Unlock, Down, Up, Test, If, While, Purpose, Value, Argument, Index, CellValue, Condition, Return, Join, Print, Part, LetName, LetAssign, Started, RightOf, RightNamed, SpawnName, SpawnOpen, SyncName, TestOpen, Arguments, Returned, SetAssign, Reading, Ending, TestBrace, PartNext, Goes, Ends, Opens, assigned, call_of, synced, closes, behind_argument, behind_expression, ends_here, read_step, begin_test, begin_keyword, begin_part, right_value, part_step}

abbrev pub over : {A B : Type 0} → (A → B) → Option A → Option B
over f None = None
over f (Some x) = Some (f x)

pub over_if : {A B : Type 0} (f : A → B) (v : Bool) (x y : Option A) (x' y' : Option B) → x' ≡ over f x → y' ≡ over f y → (if v then x' else y') ≡ over f (if v then x else y)
over_if f true x y x' y' h k = h
over_if f false x y x' y' h k = k

pub over_after : {X A B : Type 0} (f : A → B) (o : Option X) (h : X → Option A) (h' : X → Option B) → ((x : X) → h' x ≡ over f (h x)) → after o h' ≡ over f (after o h)
over_after f None h h' same = refl
over_after f (Some x) h h' same = same x

abbrev pub purpose_map : Purpose Text → Purpose Expression
purpose_map (Value target) = Value target
purpose_map (Argument goal before) = Argument goal (map tree before)
purpose_map (Index x) = Index x
purpose_map (CellValue x i) = CellValue x (tree i)
purpose_map (Condition test) = Condition test
purpose_map Return = Return
purpose_map Join = Join
purpose_map Print = Print

abbrev pub part_map : Part Text → Part Expression
part_map LetName = LetName
part_map (LetAssign x) = LetAssign x
part_map (Started x) = Started x
part_map (RightOf target) = RightOf target
part_map (RightNamed target f) = RightNamed target f
part_map (SpawnName target) = SpawnName target
part_map (SpawnOpen target f) = SpawnOpen target f
part_map (SyncName sync) = SyncName sync
part_map (TestOpen test) = TestOpen test
part_map (Arguments goal) = Arguments goal
part_map Returned = Returned
part_map (SetAssign x i) = SetAssign x (tree i)
part_map (Reading p s) = Reading (purpose_map p) (natural.reader_map s)
part_map (Ending s) = Ending (simple_tree s)
part_map (TestBrace test e) = TestBrace test (tree e)

abbrev pub next_map : PartNext Text → PartNext Expression
next_map (Goes q) = Goes (part_map q)
next_map (Ends s) = Ends (simple_tree s)
next_map (Opens test e) = Opens test (tree e)

-- statements from their parts

pub assigned_map : (target : Assignee) (r : Right Text) → assigned target (right_tree r) ≡ simple_tree (assigned target r)
assigned_map (Let x) r = refl
assigned_map (Set x) r = refl

pub applied_map : (goal : Goal) (es : List Text) → call_of goal (map tree es) ≡ simple_tree (call_of goal es)
applied_map (Call f) es = refl
applied_map (RightCall target f) es = assigned_map target (Right.call f es)
applied_map (RightSpawn target f) es = assigned_map target (Right.spawn f es)

pub synced_map : (sync : Sync) (x : List ℕ) → synced sync x ≡ simple_tree (synced sync x)
synced_map Lock x = refl
synced_map Unlock x = refl
synced_map Down x = refl
synced_map Up x = refl

-- the end of an expression

pub closes_map : (p : Purpose Text) (t : Token) → closes (purpose_map p) t ≡ closes p t
closes_map (Value target) t = refl
closes_map (Argument goal before) t = refl
closes_map (Index x) t = refl
closes_map (CellValue x i) t = refl
closes_map (Condition test) t = refl
closes_map Return t = refl
closes_map Join t = refl
closes_map Print t = refl

pub argued_map : (goal : Goal) (es : List Text) (t : Token) → behind_argument goal (map tree es) t ≡ next_map (behind_argument goal es t)
argued_map goal es t =
    elim (is_sign g.Comma t) as (λ v. (if v then Goes (Reading (Argument goal (map tree es)) expression.fresh) else Goes (Ending (call_of goal (map tree es)))) ≡ next_map (if v then Goes (Reading (Argument goal es) expression.fresh) else Goes (Ending (call_of goal es))))
    [ true ↦ refl | false ↦ ap (λ z. Goes (Ending z)) (applied_map goal es) ]

pub closed_map : (p : Purpose Text) (e : Text) (t : Token) → behind_expression (purpose_map p) (tree e) t ≡ next_map (behind_expression p e t)
closed_map (Value target) e t = ap Ends (assigned_map target (Right.value e))
closed_map (Argument goal before) e t = ap (λ z. behind_argument goal z t) (sym (map-append tree before (e ∷ []))) ∙ argued_map goal (before ++ e ∷ []) t
closed_map (Index x) e t = refl
closed_map (CellValue x i) e t = refl
closed_map (Condition test) e t = refl
closed_map Return e t = refl
closed_map Join e t = refl
closed_map Print e t = refl

pub here_map : (p : Purpose Text) (s : expression.Reader Text) (t : Token) → ends_here (purpose_map p) (natural.reader_map s) t ≡ ends_here p s t
here_map p s t = rw (natural.whole_state s, closes_map p t) refl

pub finish_map : (p : Purpose Text) (s : expression.Reader Text) (t : Token)
    → after (expression.finish plain (natural.reader_map s)) (λ e. Some (behind_expression (purpose_map p) e t)) ≡ over next_map (after (expression.finish written s) (λ e. Some (behind_expression p e t)))
finish_map p s t = rw (natural.finish_state s) (go (expression.finish written s))
  where
    go : (o : Option Text) → after (natural.tree_if o) (λ e. Some (behind_expression (purpose_map p) e t)) ≡ over next_map (after o (λ e. Some (behind_expression p e t)))
    go None = refl
    go (Some e) = ap Some (closed_map p e t)

pub fed_map : (p : Purpose Text) (s : expression.Reader Text) (t : Token)
    → after (expression.feed plain (natural.reader_map s) t) (λ s'. Some (Goes (Reading (purpose_map p) s'))) ≡ over next_map (after (expression.feed written s t) (λ s'. Some (Goes (Reading p s'))))
fed_map p s t = rw (natural.step_state s t) (go (expression.feed written s t))
  where
    go : (o : Option (expression.Reader Text)) → after (natural.reader_if o) (λ s'. Some (Goes (Reading (purpose_map p) s'))) ≡ over next_map (after o (λ s'. Some (Goes (Reading p s'))))
    go None = refl
    go (Some s') = refl

pub read_map : (p : Purpose Text) (s : expression.Reader Text) (t : Token) → read_step plain (purpose_map p) (natural.reader_map s) t ≡ over next_map (read_step written p s t)
read_map p s t = rw (here_map p s t) (over_if next_map (ends_here p s t) _ _ _ _ (finish_map p s t) (fed_map p s t))

-- the first token of a statement

pub test_map : (room : Bool) (test : Test) → begin_test room test ≡ over part_map (begin_test room test)
test_map true test = refl
test_map false test = refl

pub keyword_map : (room : Bool) (k : Keyword) → begin_keyword room k ≡ over part_map (begin_keyword room k)
keyword_map room w.Shared = refl
keyword_map room w.Mutex = refl
keyword_map room w.Sema = refl
keyword_map room w.Fn = refl
keyword_map room w.Let = refl
keyword_map room w.If = test_map room If
keyword_map room w.Else = refl
keyword_map room w.While = test_map room While
keyword_map room w.Return = refl
keyword_map room w.Lock = refl
keyword_map room w.Unlock = refl
keyword_map room w.Down = refl
keyword_map room w.Up = refl
keyword_map room w.Spawn = refl
keyword_map room w.Join = refl
keyword_map room w.Print = refl
keyword_map room w.Skip = refl

pub begin_map : (room : Bool) (t : Token) → begin_part room t ≡ over part_map (begin_part room t)
begin_map room (Token.name x) = refl
begin_map room (Token.num n) = refl
begin_map room (Token.word k) = keyword_map room k
begin_map room (Token.op o) = refl
begin_map room (Token.sign s) = refl
begin_map room Token.bad = refl

-- a token behind a part

pub value_map : (target : Assignee) (t : Token) (o : Option (List ℕ)) → right_value plain target t o ≡ over next_map (right_value written target t o)
value_map target t None = read_map (Value target) expression.fresh t
value_map target t (Some f) = refl

pub part_state : (q : Part Text) (t : Token) → part_step plain (part_map q) t ≡ over next_map (part_step written q t)
part_state LetName t = over_after next_map (name_of t) _ _ (λ x. refl)
part_state (LetAssign x) t = over_if next_map (is_sign g.Assign t) _ _ _ _ refl refl
part_state (Started x) t =
    over_if next_map (is_sign g.Assign t) _ _ _ _ refl
    (over_if next_map (is_sign g.BracketOpen t) _ _ _ _ refl
    (over_if next_map (is_sign g.ParenOpen t) _ _ _ _ refl refl))
part_state (RightOf target) t = over_if next_map (is_keyword w.Spawn t) _ _ _ _ refl (value_map target t (name_of t))
part_state (RightNamed target f) t =
    over_if next_map (is_sign g.ParenOpen t) _ _ _ _ refl (read_map (Value target) (expression.Named f (record { nodes = 1; unary = 0; brackets = 0 }) []) t)
part_state (SpawnName target) t = over_after next_map (name_of t) _ _ (λ f. refl)
part_state (SpawnOpen target f) t = over_if next_map (is_sign g.ParenOpen t) _ _ _ _ refl refl
part_state (SyncName sync) t = over_after next_map (name_of t) _ _ (λ x. ap (λ z. Some (Goes (Ending z))) (synced_map sync x))
part_state (TestOpen test) t = over_if next_map (is_sign g.ParenOpen t) _ _ _ _ refl refl
part_state (Arguments goal) t = over_if next_map (is_sign g.ParenClose t) _ _ _ _ (ap (λ z. Some (Goes (Ending z))) (applied_map goal [])) (read_map (Argument goal []) expression.fresh t)
part_state Returned t = over_if next_map (is_sign g.Semicolon t) _ _ _ _ refl (read_map Return expression.fresh t)
part_state (SetAssign x i) t = over_if next_map (is_sign g.Assign t) _ _ _ _ refl refl
part_state (Reading p s) t = read_map p s t
part_state (Ending s) t = over_if next_map (is_sign g.Semicolon t) _ _ _ _ refl refl
part_state (TestBrace test e) t = over_if next_map (is_sign g.BraceOpen t) _ _ _ _ refl refl
