-- What the reader of statements keeps, up to their blocks.
use Rattle.std.proofs.Common.{ℕ, ◌<◌, ◌≡◌, List, [], ◌∷◌, ◌++◌, map, Option, Some, None, Bool, true, false, if◌then◌else◌, refl, sym, ap, subst, ◌∙◌, append_assoc, append-nil, IfSome}
use Rattle.std.specs.List.{AllByRecursion}
use Rattle.std.proofs.lemmas.List.{map-append}
use Rattle.loom_tree.specs.declared.token.Keyword.{Keyword}
use Rattle.loom_tree.specs.declared.token.Keyword.TheVariants as w
use Rattle.loom_tree.specs.declared.token.Sign.TheVariants as g
use Rattle.loom_tree.specs.Token.{Token}
use Rattle.loom_tree.specs.Tree.{Right, Simple}
use Rattle.loom_expression.specs.Text.{Text, tokens, IsWritten}
use Rattle.loom_expression.specs.Reader as expression
use Rattle.loom_expression.specs.Reader.{after, is_whole, written}
use Rattle.loom_expression.proofs.Sound as sound
use Rattle.loom_syntax.specs.File.{with_commas, argument_tokens, right_tokens, simple_tokens, test_tokens, with_semicolon, IsRight, IsSimple, block_limit}
use Rattle.loom_syntax.specs.Tests.{is_sign, name_of}
use Rattle.loom_syntax.specs.Part.{Assignee, Let, Set, Goal, Call, RightCall, RightSpawn, Sync, Lock, Unlock, Down, Up, Test, If, While, Purpose, Value, Argument, Index, CellValue, Condition, Return, Join, Print, Part, LetName, LetAssign, Started, RightOf, RightNamed, SpawnName, SpawnOpen, SyncName, TestOpen, Arguments, Returned, SetAssign, Reading, Ending, TestBrace, PartNext, Goes, Ends, Opens, assigned, call_of, synced, closes, behind_argument, behind_expression, ends_here, read_step, begin_test, begin_keyword, begin_part, right_value, arguments_step, part_step}
use Rattle.loom_syntax.proofs.Choices.{sign_is, choose, if_keyword, if_sign, if_name}
use Rattle.loom_syntax.proofs.HeadSound.{before_comma, commas_more, before_more}

-- the tokens that were read

abbrev pub target_read : Assignee → List Token
target_read (Let x) = Token.word w.Let ∷ Token.name x ∷ Token.sign g.Assign ∷ []
target_read (Set x) = Token.name x ∷ Token.sign g.Assign ∷ []

abbrev pub goal_read : Goal → List Token
goal_read (Call f) = Token.name f ∷ []
goal_read (RightCall target f) = target_read target ++ Token.name f ∷ []
goal_read (RightSpawn target f) = target_read target ++ Token.word w.Spawn ∷ Token.name f ∷ []

abbrev pub sync_word : Sync → Keyword
sync_word Lock = w.Lock
sync_word Unlock = w.Unlock
sync_word Down = w.Down
sync_word Up = w.Up

abbrev pub test_word : Test → Keyword
test_word If = w.If
test_word While = w.While

abbrev pub cell_read : List ℕ → Text → List Token
cell_read x i = Token.name x ∷ Token.sign g.BracketOpen ∷ tokens i ++ Token.sign g.BracketClose ∷ []

abbrev pub purpose_read : Purpose Text → List Token
purpose_read (Value target) = target_read target
purpose_read (Argument goal before) = goal_read goal ++ Token.sign g.ParenOpen ∷ before_comma (map tokens before)
purpose_read (Index x) = Token.name x ∷ Token.sign g.BracketOpen ∷ []
purpose_read (CellValue x i) = cell_read x i ++ Token.sign g.Assign ∷ []
purpose_read (Condition test) = Token.word (test_word test) ∷ Token.sign g.ParenOpen ∷ []
purpose_read Return = Token.word w.Return ∷ []
purpose_read Join = Token.word w.Join ∷ []
purpose_read Print = Token.word w.Print ∷ []

abbrev pub read : Part Text → List Token
read LetName = Token.word w.Let ∷ []
read (LetAssign x) = Token.word w.Let ∷ Token.name x ∷ []
read (Started x) = Token.name x ∷ []
read (RightOf target) = target_read target
read (RightNamed target f) = target_read target ++ Token.name f ∷ []
read (SpawnName target) = target_read target ++ Token.word w.Spawn ∷ []
read (SpawnOpen target f) = goal_read (RightSpawn target f)
read (SyncName sync) = Token.word (sync_word sync) ∷ []
read (TestOpen test) = Token.word (test_word test) ∷ []
read (Arguments goal) = goal_read goal ++ Token.sign g.ParenOpen ∷ []
read Returned = Token.word w.Return ∷ []
read (SetAssign x i) = cell_read x i
read (Reading p s) = purpose_read p ++ sound.read s
read (Ending s) = simple_tokens s
read (TestBrace test e) = test_tokens (test_word test) e

abbrev pub next_read : PartNext Text → List Token
next_read (Goes q) = read q
next_read (Ends s) = with_semicolon (simple_tokens s)
next_read (Opens test e) = test_tokens (test_word test) e ++ Token.sign g.BraceOpen ∷ []

-- what is good where so many blocks are open

abbrev pub GoodPurpose : ℕ → Purpose Text → Type 0
GoodPurpose n (Value target) = Unit {0}
GoodPurpose n (Argument goal before) = AllByRecursion IsWritten before
GoodPurpose n (Index x) = Unit {0}
GoodPurpose n (CellValue x i) = IsWritten i
GoodPurpose n (Condition test) = n < block_limit
GoodPurpose n Return = Unit {0}
GoodPurpose n Join = Unit {0}
GoodPurpose n Print = Unit {0}

abbrev pub Good : ℕ → Part Text → Type 0
Good n (TestOpen test) = n < block_limit
Good n (SetAssign x i) = IsWritten i
Good n (Reading p s) = GoodPurpose n p × sound.GoodReader s
Good n (Ending s) = IsSimple s
Good n (TestBrace test e) = IsWritten e × (n < block_limit)
Good n _ = Unit {0}

abbrev pub GoodNext : ℕ → PartNext Text → Type 0
GoodNext n (Goes q) = Good n q
GoodNext n (Ends s) = IsSimple s
GoodNext n (Opens test e) = IsWritten e × (n < block_limit)

-- what is good, where the token was read behind ts
abbrev pub Reads : ℕ → List Token → Token → PartNext Text → Type 0
Reads n ts t q = GoodNext n q × (next_read q ≡ ts ++ t ∷ [])

pub after_good : {X N : Type 0} (o : Option X) (f : X → N) (P : X → Type 0) (Q : N → Type 0) → IfSome o P → ((x : X) → P x → Q (f x)) → IfSome (after o (λ x. Some (f x))) Q
after_good None f P Q h k = tt
after_good (Some x) f P Q h k = k x h

pub all_more : {X : Type 0} (P : X → Type 0) (xs : List X) (x : X) → AllByRecursion P xs → P x → AllByRecursion P (xs ++ x ∷ [])
all_more P [] x h k = (k, tt)
all_more P (y ∷ xs) x h k = (h.0, all_more P xs x h.1 k)

-- statements from their parts

pub assigned_tokens : (target : Assignee) (r : Right Text) → simple_tokens (assigned target r) ≡ target_read target ++ right_tokens r
assigned_tokens (Let x) r = refl
assigned_tokens (Set x) r = refl

pub assigned_good : (target : Assignee) (r : Right Text) → IsRight r → IsSimple (assigned target r)
assigned_good (Let x) r h = h
assigned_good (Set x) r h = h

pub applied_tokens : (goal : Goal) (es : List Text) → simple_tokens (call_of goal es) ≡ goal_read goal ++ argument_tokens es
applied_tokens (Call f) es = refl
applied_tokens (RightCall target f) es = assigned_tokens target (Right.call f es) ∙ simp append_assoc
applied_tokens (RightSpawn target f) es = assigned_tokens target (Right.spawn f es) ∙ simp append_assoc

pub applied_good : (goal : Goal) (es : List Text) → AllByRecursion IsWritten es → IsSimple (call_of goal es)
applied_good (Call f) es h = h
applied_good (RightCall target f) es h = assigned_good target (Right.call f es) h
applied_good (RightSpawn target f) es h = assigned_good target (Right.spawn f es) h

pub synced_tokens : (sync : Sync) (x : List ℕ) → simple_tokens (synced sync x) ≡ Token.word (sync_word sync) ∷ Token.name x ∷ []
synced_tokens Lock x = refl
synced_tokens Unlock x = refl
synced_tokens Down x = refl
synced_tokens Up x = refl

pub synced_good : (sync : Sync) (x : List ℕ) → IsSimple (synced sync x)
synced_good Lock x = tt
synced_good Unlock x = tt
synced_good Down x = tt
synced_good Up x = tt

-- the end of an expression

pub commas_tokens : (before : List Text) (e : Text) → with_commas (map tokens (before ++ e ∷ [])) ≡ before_comma (map tokens before) ++ tokens e
commas_tokens before e = ap with_commas (map-append tokens before (e ∷ [])) ∙ commas_more (map tokens before) (tokens e)

pub before_tokens : (before : List Text) (e : Text) → before_comma (map tokens (before ++ e ∷ [])) ≡ before_comma (map tokens before) ++ tokens e ++ Token.sign g.Comma ∷ []
before_tokens before e = ap before_comma (map-append tokens before (e ∷ [])) ∙ before_more (map tokens before) (tokens e)

abbrev pub closed_read : Purpose Text → Text → List Token
closed_read p e = purpose_read p ++ tokens e

pub argued_good : (n : ℕ) (goal : Goal) (before : List Text) (e : Text) (t : Token) → AllByRecursion IsWritten before → IsWritten e → closes (Argument goal before) t ≡ true
    → Reads n (closed_read (Argument goal before) e) t (behind_argument goal (before ++ e ∷ []) t)
argued_good n goal before e t all ok = go (is_sign g.Comma t) refl
  where
    more : AllByRecursion IsWritten (before ++ e ∷ [])
    more = all_more IsWritten before e all ok

    go : (v : Bool) → is_sign g.Comma t ≡ v → (if v then true else is_sign g.ParenClose t) ≡ true
        → Reads n (closed_read (Argument goal before) e) t (if v then Goes (Reading (Argument goal (before ++ e ∷ [])) expression.fresh) else Goes (Ending (call_of goal (before ++ e ∷ []))))
    go true is c =
        subst (λ z. Reads n (closed_read (Argument goal before) e) z (Goes (Reading (Argument goal (before ++ e ∷ [])) expression.fresh))) (sym (sign_is g.Comma t is))
        ((more, sound.start_good), rw (before_tokens before e) (simp (append_assoc, append-nil)))
    go false is c =
        subst (λ z. Reads n (closed_read (Argument goal before) e) z (Goes (Ending (call_of goal (before ++ e ∷ []))))) (sym (sign_is g.ParenClose t c))
        (applied_good goal (before ++ e ∷ []) more, rw (applied_tokens goal (before ++ e ∷ []), commas_tokens before e) (simp append_assoc))

pub closed_good : (n : ℕ) (p : Purpose Text) (e : Text) (t : Token) → GoodPurpose n p → IsWritten e → closes p t ≡ true → Reads n (closed_read p e) t (behind_expression p e t)
closed_good n (Value target) e t ok good is =
    subst (λ z. Reads n (closed_read (Value target) e) z (Ends (assigned target (Right.value e)))) (sym (sign_is g.Semicolon t is))
    (assigned_good target (Right.value e) good, ap with_semicolon (assigned_tokens target (Right.value e)))
closed_good n (Argument goal before) e t ok good is = argued_good n goal before e t ok good is
closed_good n (Index x) e t ok good is =
    subst (λ z. Reads n (closed_read (Index x) e) z (Goes (SetAssign x e))) (sym (sign_is g.BracketClose t is)) (good, refl)
closed_good n (CellValue x i) e t ok good is =
    subst (λ z. Reads n (closed_read (CellValue x i) e) z (Ends (Simple.set_cell x i e))) (sym (sign_is g.Semicolon t is)) ((ok, good), simp append_assoc)
closed_good n (Condition test) e t ok good is =
    subst (λ z. Reads n (closed_read (Condition test) e) z (Goes (TestBrace test e))) (sym (sign_is g.ParenClose t is)) ((good, ok), refl)
closed_good n Return e t ok good is = subst (λ z. Reads n (closed_read Return e) z (Ends (Simple.return (Some e)))) (sym (sign_is g.Semicolon t is)) (good, refl)
closed_good n Join e t ok good is = subst (λ z. Reads n (closed_read Join e) z (Ends (Simple.join e))) (sym (sign_is g.Semicolon t is)) (good, refl)
closed_good n Print e t ok good is = subst (λ z. Reads n (closed_read Print e) z (Ends (Simple.print e))) (sym (sign_is g.Semicolon t is)) (good, refl)

pub ends_closes : (p : Purpose Text) (s : expression.Reader Text) (t : Token) → ends_here p s t ≡ true → closes p t ≡ true
ends_closes p s t is = go (is_whole s) is
  where
    go : (v : Bool) → (if v then closes p t else false) ≡ true → closes p t ≡ true
    go true is = is
    go false is = cc

-- a token in an expression, or behind it
pub read_good : (n : ℕ) (p : Purpose Text) (s : expression.Reader Text) (t : Token) → GoodPurpose n p → sound.GoodReader s → IfSome (read_step written p s t) (Reads n (read (Reading p s)) t)
read_good n p s t ok good =
    choose (ends_here p s t) _ _ (Reads n (read (Reading p s)) t)
    (λ is. after_good (expression.finish written s) (λ e. behind_expression p e t) (sound.Spells (sound.read s)) (Reads n (read (Reading p s)) t) (sound.finish_good s good)
    (λ e spells. subst (λ ts. Reads n (purpose_read p ++ ts) t (behind_expression p e t)) spells.1 (closed_good n p e t ok spells.0 (ends_closes p s t is))))
    (λ is. after_good (expression.feed written s t) (λ s'. Goes (Reading p s')) (sound.Reads (sound.read s) t) (Reads n (read (Reading p s)) t) (sound.step_good s t good)
    (λ s' reads. ((ok, reads.0), ap (λ ts. purpose_read p ++ ts) reads.1 ∙ sym (append_assoc (purpose_read p) (sound.read s) (t ∷ [])))))

-- the first token of an expression
pub first_good : (n : ℕ) (p : Purpose Text) (t : Token) → GoodPurpose n p → IfSome (read_step written p expression.fresh t) (Reads n (purpose_read p) t)
first_good n p t ok = subst (λ ts. IfSome (read_step written p expression.fresh t) (Reads n ts t)) (append-nil (purpose_read p)) (read_good n p expression.fresh t ok sound.start_good)

-- the first token of a statement

pub test_good : (n : ℕ) (room : Bool) (test : Test) → (room ≡ true → n < block_limit) → IfSome (begin_test room test) (λ q. Good n q × (read q ≡ Token.word (test_word test) ∷ []))
test_good n true test h = (h refl, refl)
test_good n false test h = tt

pub keyword_good : (n : ℕ) (room : Bool) (k : Keyword) → (room ≡ true → n < block_limit) → IfSome (begin_keyword room k) (λ q. Good n q × (read q ≡ Token.word k ∷ []))
keyword_good n room w.Shared h = tt
keyword_good n room w.Mutex h = tt
keyword_good n room w.Sema h = tt
keyword_good n room w.Fn h = tt
keyword_good n room w.Let h = (tt, refl)
keyword_good n room w.If h = test_good n room If h
keyword_good n room w.Else h = tt
keyword_good n room w.While h = test_good n room While h
keyword_good n room w.Return h = (tt, refl)
keyword_good n room w.Lock h = (tt, refl)
keyword_good n room w.Unlock h = (tt, refl)
keyword_good n room w.Down h = (tt, refl)
keyword_good n room w.Up h = (tt, refl)
keyword_good n room w.Spawn h = tt
keyword_good n room w.Join h = ((tt, sound.start_good), refl)
keyword_good n room w.Print h = ((tt, sound.start_good), refl)
keyword_good n room w.Skip h = (tt, refl)

pub begin_good : (n : ℕ) (room : Bool) (t : Token) → (room ≡ true → n < block_limit) → IfSome (begin_part room t) (λ q. Good n q × (read q ≡ t ∷ []))
begin_good n room (Token.name x) h = (tt, refl)
begin_good n room (Token.num v) h = tt
begin_good n room (Token.word k) h = keyword_good n room k h
begin_good n room (Token.op o) h = tt
begin_good n room (Token.sign s) h = tt
begin_good n room Token.bad h = tt

-- a token behind a part

pub value_good : (n : ℕ) (target : Assignee) (t : Token) → IfSome (right_value written target t (name_of t)) (Reads n (target_read target) t)
value_good n target (Token.name f) = (tt, refl)
value_good n target (Token.num v) = first_good n (Value target) (Token.num v) tt
value_good n target (Token.word k) = first_good n (Value target) (Token.word k) tt
value_good n target (Token.op o) = first_good n (Value target) (Token.op o) tt
value_good n target (Token.sign s) = first_good n (Value target) (Token.sign s) tt
value_good n target Token.bad = first_good n (Value target) Token.bad tt

pub arguments_good : (n : ℕ) (goal : Goal) (t : Token) → IfSome (arguments_step written goal t) (Reads n (read (Arguments goal)) t)
arguments_good n goal t =
    if_sign g.ParenClose t _ _ (Reads n (read (Arguments goal))) (applied_good goal [] tt, applied_tokens goal [] ∙ simp append_assoc) (first_good n (Argument goal []) t tt)

pub step_good : (n : ℕ) (q : Part Text) (t : Token) → Good n q → IfSome (part_step written q t) (Reads n (read q) t)
step_good n LetName t ok = if_name t _ (Reads n (read LetName)) (λ x. (tt, refl))
step_good n (LetAssign x) t ok = if_sign g.Assign t _ _ (Reads n (read (LetAssign x))) (tt, refl) tt
step_good n (Started x) t ok =
    if_sign g.Assign t _ _ (Reads n (read (Started x))) (tt, refl)
    (if_sign g.BracketOpen t _ _ (Reads n (read (Started x))) ((tt, sound.start_good), refl)
    (if_sign g.ParenOpen t _ _ (Reads n (read (Started x))) (tt, refl) tt))
step_good n (RightOf target) t ok = if_keyword w.Spawn t _ _ (Reads n (read (RightOf target))) (tt, refl) (value_good n target t)
step_good n (RightNamed target f) t ok =
    if_sign g.ParenOpen t _ _ (Reads n (read (RightNamed target f))) (tt, refl)
    (read_good n (Value target) (expression.Named f (record { nodes = 1; unary = 0; brackets = 0 }) []) t tt sound.start_good)
step_good n (SpawnName target) t ok = if_name t _ (Reads n (read (SpawnName target))) (λ f. (tt, simp append_assoc))
step_good n (SpawnOpen target f) t ok = if_sign g.ParenOpen t _ _ (Reads n (read (SpawnOpen target f))) (tt, refl) tt
step_good n (SyncName sync) t ok = if_name t _ (Reads n (read (SyncName sync))) (λ x. (synced_good sync x, synced_tokens sync x))
step_good n (TestOpen test) t ok = if_sign g.ParenOpen t _ _ (Reads n (read (TestOpen test))) ((ok, sound.start_good), refl) tt
step_good n (Arguments goal) t ok = arguments_good n goal t
step_good n Returned t ok = if_sign g.Semicolon t _ _ (Reads n (read Returned)) (tt, refl) (first_good n Return t tt)
step_good n (SetAssign x i) t ok = if_sign g.Assign t _ _ (Reads n (read (SetAssign x i))) ((ok, sound.start_good), append-nil (purpose_read (CellValue x i))) tt
step_good n (Reading p s) t ok = read_good n p s t ok.0 ok.1
step_good n (Ending s) t ok = if_sign g.Semicolon t _ _ (Reads n (read (Ending s))) (ok, refl) tt
step_good n (TestBrace test e) t ok = if_sign g.BraceOpen t _ _ (Reads n (read (TestBrace test e))) (ok, refl) tt
