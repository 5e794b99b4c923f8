-- What a thread asks for next is one.
use Rattle.std.proofs.Common.{ℕ, ◌≡◌, ◌⊎◌, inl, inr, true, List, [], ◌∷◌, ◌++◌, refl, sym, ap, subst, ◌∙◌}
use Rattle.loom_tree.specs.Tree.{Source}
use Rattle.loom_trace.specs.declared.request.Request.{Request}
use Rattle.loom_lang.specs.Trace.{Act, Item, made, begins, done, edge, enter, out, Outcome, Open, IsTrace}
use Rattle.loom_lang.specs.Acts.{Deed}
use Rattle.loom_lang.specs.Alike.{AreAlike}
use Rattle.loom_lang.proofs.NextItem.{one_next_item, Agree, traces_agree}
use Rattle.loom_event.specs.Answer.{IsAnswered}
use Rattle.loom_law.specs.Walk.{Plans, Operation, wait, enters, at, past, post, leave, back, tick, cross, blocked, Queue, PartStep, goes, makes, items, filter_entries, entry_of_operation, Walk, unborn, after_operation, walk_behind, walk_from, Owes, MayStand, AreWoven}
use Rattle.loom_law.specs.ThreadPart.{Own, walk_of, IsPart, with_entry, AsksToMake, AsksToAct}
use Rattle.loom_law.specs.Laws.{SameSteps}
use Rattle.loom_law.specs.TurnLaws.{is_owed, HasOneRequest, HasNoSplit, HasOneOperation}
use Rattle.loom_law.proofs.OnePart.{one_made, told_append, same_front}
use Rattle.loom_law.proofs.Earlier.{items_ahead, woven_front}
use Rattle.loom_law.proofs.Turns.{stands_there}
use Rattle.loom_law.proofs.Answers.{next_act, goes_with, walk_append}
use Rattle.loom_law.proofs.Makings.{OpPart, cut_part}

-- Marks behind the same steps

abbrev BeginsWithAct : List Item → Type 0
BeginsWithAct (made l a ∷ is) = Unit {0}
BeginsWithAct _ = ⊥

-- no mark stands there
abbrev IsStop : Walk → List Item → Type 0
IsStop z is = (z.owed ≡ [] → ⊥) ⊎ BeginsWithAct is

-- a step that tells nothing is a mark, and stands where nothing is owed
record IsMark (i : Item) : Type 0 where
  alike : (j : Item) → AreAlike i j → i ≡ j
  stands : (p : Source) (z : Walk) (rest : List Item) → MayStand p z (goes i) rest → z.owed ≡ []
  no_act : (is : List Item) → BeginsWithAct (i ∷ is) → ⊥

is_mark : (t : ℕ) (i : Item) (ss : List PartStep) → filter_entries t (goes i ∷ ss) ≡ [] → IsMark i
is_mark t (made l a) ss h = cc
is_mark t (begins m env) ss h = record { alike = λ j g. g; stands = λ p z rest g. g; no_act = λ is g. g }
is_mark t (done m) ss h = record { alike = λ j g. g; stands = λ p z rest g. g; no_act = λ is g. g }
is_mark t (edge m) ss h = record { alike = λ j g. g; stands = λ p z rest g. g; no_act = λ is g. g }
is_mark t (enter f env) ss h = record { alike = λ j g. g; stands = λ p z rest g. g; no_act = λ is g. g }
is_mark t (out f) ss h = record { alike = λ j g. g; stands = λ p z rest g. g; no_act = λ is g. g }

untold : (t : ℕ) (i : Item) (ss : List PartStep) → filter_entries t (goes i ∷ ss) ≡ [] → filter_entries t ss ≡ []
untold t (made l a) ss h = cc
untold t (begins m env) ss h = h
untold t (done m) ss h = h
untold t (edge m) ss h = h
untold t (enter f env) ss h = h
untold t (out f) ss h = h

no_mark : (is : List Item) (j : Item) (js : List Item) (r s : Outcome) → BeginsWithAct is → Agree is r (j ∷ js) s → IsMark j → ⊥
no_mark [] j js r s b a m = b
no_mark (made l c ∷ is) j js r s b a m = m.no_act js (act_too l c j js a.0)
  where
    act_too : (l : ℕ) (c : Act) (j : Item) (js : List Item) → AreAlike (made l c) j → BeginsWithAct (j ∷ js)
    act_too l c (made n d) js h = tt
    act_too l c (begins n env) js h = cc
    act_too l c (done n) js h = cc
    act_too l c (edge n) js h = cc
    act_too l c (enter f env) js h = cc
    act_too l c (out f) js h = cc
no_mark (begins m env ∷ is) j js r s b a k = b
no_mark (done m ∷ is) j js r s b a k = b
no_mark (edge m ∷ is) j js r s b a k = b
no_mark (enter f env ∷ is) j js r s b a k = b
no_mark (out f ∷ is) j js r s b a k = b

no_act_here : (i : Item) (is js : List Item) (r s : Outcome) → BeginsWithAct js → Agree (i ∷ is) r js s → IsMark i → ⊥
no_act_here i is [] r s b a m = b
no_act_here i is (made l c ∷ js) r s b a m = let same : i ≡ made l c = m.alike (made l c) a.0 in m.no_act is (subst (λ u. BeginsWithAct (u ∷ is)) (sym same) tt)
no_act_here i is (begins m env ∷ js) r s b a k = b
no_act_here i is (done m ∷ js) r s b a k = b
no_act_here i is (edge m ∷ js) r s b a k = b
no_act_here i is (enter f env ∷ js) r s b a k = b
no_act_here i is (out f ∷ js) r s b a k = b

one_stop : (p : Source) (plans : Plans) (t : ℕ) (z : Walk) (us vs : List PartStep) (ahead above : List Item) (r s : Outcome) → filter_entries t us ≡ [] → filter_entries t vs ≡ []
    → AreWoven p plans z us ahead → AreWoven p plans z vs above → Agree (items us ++ ahead) r (items vs ++ above) s
    → IsStop (walk_from p plans z us) ahead → IsStop (walk_from p plans z vs) above → us ≡ vs
one_stop p plans t z [] [] ahead above r s m n h k a b c = refl
one_stop p plans t z (makes l o ∷ us) vs ahead above r s m n h k a b c = cc
one_stop p plans t z [] (makes l o ∷ vs) ahead above r s m n h k a b c = cc
one_stop p plans t z (goes i ∷ us) (makes l o ∷ vs) ahead above r s m n h k a b c = cc
one_stop p plans t z [] (goes j ∷ vs) ahead above r s m n h k a (inl b) c = absurd (b ((is_mark t j vs n).stands p z (items vs ++ above) k.0))
one_stop p plans t z [] (goes j ∷ vs) ahead above r s m n h k a (inr b) c = absurd (no_mark ahead j (items vs ++ above) r s b a (is_mark t j vs n))
one_stop p plans t z (goes i ∷ us) [] ahead above r s m n h k a b (inl c) = absurd (c ((is_mark t i us m).stands p z (items us ++ ahead) h.0))
one_stop p plans t z (goes i ∷ us) [] ahead above r s m n h k a b (inr c) = absurd (no_act_here i (items us ++ ahead) above r s c a (is_mark t i us m))
one_stop p plans t z (goes i ∷ us) (goes j ∷ vs) ahead above r s m n h k a b c =
    let same : i ≡ j = (is_mark t i us m).alike j a.0 in
    let P : Item → Type 0 = λ y. AreWoven p plans (walk_behind p plans z (goes y)) vs above in
    let Q : Item → Type 0 = λ y. IsStop (walk_from p plans (walk_behind p plans z (goes y)) vs) above in
    let ih : us ≡ vs =
    one_stop p plans t (walk_behind p plans z (goes i)) us vs ahead above r s (untold t i us m) (untold t j vs n) h.1 (subst P (sym same) k.1) (a.1 same) b (subst Q (sym same) c) in
    ap (λ y. goes y ∷ us) same ∙ ap (◌∷◌ (goes j)) ih

-- Points at which a thread asks

woven_behind : (p : Source) (plans : Plans) (z : Walk) (us vs : List PartStep) (ahead : List Item) → AreWoven p plans z (us ++ vs) ahead
    → AreWoven p plans (walk_from p plans z us) vs ahead
woven_behind p plans z [] vs ahead h = h
woven_behind p plans z (u ∷ us) vs ahead h = woven_behind p plans (walk_behind p plans z u) us vs ahead h.1

agree_behind : (xs is js : List Item) (r s : Outcome) → Agree (xs ++ is) r (xs ++ js) s → Agree is r js s
agree_behind [] is js r s h = h
agree_behind (x ∷ xs) is js r s h = agree_behind xs is js r s (h.1 refl)

-- these steps tell its entries, and behind them no mark stands
record Asks (p : Source) (plans : Plans) (x : Own) : Type 0 where
  part : IsPart p plans x
  stop : IsStop (walk_of p plans x part.steps) part.ahead

one_point : (p : Source) (plans : Plans) (x : Own) (a b : Asks p plans x) → a.part.steps ≡ b.part.steps
one_point p plans x a b =
    let t : ℕ = x.thread in
    let z : Walk = unborn x.versions in
    let h : IsPart p plans x = a.part in
    let k : IsPart p plans x = b.part in
    let c : SameSteps x h.steps k.steps = one_made p plans x h k in
    let m : Walk = walk_from p plans z c.made in
    let agree : Agree (items h.steps ++ h.ahead) h.outcome (items k.steps ++ k.ahead) k.outcome = traces_agree p x.func x.args _ _ _ _ h.trace k.trace in
    let left : items h.steps ++ h.ahead ≡ items c.made ++ (items c.behind ++ h.ahead) = ap (λ ss. items ss ++ h.ahead) c.first ∙ items_ahead c.made c.behind h.ahead in
    let right : items k.steps ++ k.ahead ≡ items c.made ++ (items c.behind' ++ k.ahead) = ap (λ ss. items ss ++ k.ahead) c.second ∙ items_ahead c.made c.behind' k.ahead in
    let both : Agree (items c.made ++ (items c.behind ++ h.ahead)) h.outcome (items c.made ++ (items c.behind' ++ k.ahead)) k.outcome =
    subst (λ is. Agree (items c.made ++ (items c.behind ++ h.ahead)) h.outcome is k.outcome) right (subst (λ is. Agree is h.outcome (items k.steps ++ k.ahead) k.outcome) left agree) in
    let first : AreWoven p plans m c.behind h.ahead =
    woven_behind p plans z c.made c.behind h.ahead (subst (λ ss. AreWoven p plans z ss h.ahead) c.first h.woven) in
    let second : AreWoven p plans m c.behind' k.ahead =
    woven_behind p plans z c.made c.behind' k.ahead (subst (λ ss. AreWoven p plans z ss k.ahead) c.second k.woven) in
    let stop : IsStop (walk_from p plans m c.behind) h.ahead =
    subst (λ y. IsStop y h.ahead) (ap (walk_from p plans z) c.first ∙ walk_append p plans z c.made c.behind) a.stop in
    let stop' : IsStop (walk_from p plans m c.behind') k.ahead =
    subst (λ y. IsStop y k.ahead) (ap (walk_from p plans z) c.second ∙ walk_append p plans z c.made c.behind') b.stop in
    let same : c.behind ≡ c.behind' =
    one_stop p plans t m c.behind c.behind' h.ahead k.ahead h.outcome k.outcome c.marks c.marks' first second (agree_behind (items c.made) _ _ _ _ both) stop stop' in
    c.first ∙ (ap (λ ss. c.made ++ ss) same ∙ sym c.second)

-- with what comes next, which is an act
record ActPoint (p : Source) (plans : Plans) (x : Own) (d : Deed) : Type 0 where
  asks : Asks p plans x
  rests : Walk.owed (walk_of p plans x asks.part.steps) ≡ []
  trace : IsTrace p x.func x.args (items asks.part.steps ++ made d.line d.act ∷ []) Open

act_point : (p : Source) (plans : Plans) (x : Own) (q : Request) (d : Deed) → AsksToAct p plans x q → IsAnswered q d → ActPoint p plans x d
act_point p plans x q d h answer =
    let trace : IsTrace p x.func x.args (items h.steps ++ made d.line d.act ∷ []) Open = goes_with p plans x q d h answer in
    let next = next_act h.next d.line d.act
    (one_next_item p x.func x.args (items h.steps ++ h.next ∷ []) (items h.steps ++ made d.line d.act ∷ []) Open Open h.trace trace (items h.steps) [] [] h.next
    (made d.line d.act) refl refl) in
    record {
      asks = record {
        part = record { steps = h.steps; ahead = h.next ∷ []; outcome = Open; trace = h.trace; woven = h.woven; tells = h.tells; taken = h.taken };
        stop = inr (subst (λ i. BeginsWithAct (i ∷ [])) (sym next.1.0) tt);
      };
      rests = h.rests;
      trace = trace;
    }

op_owes : (p : Source) (z : Walk) (l : ℕ) (o : Operation) (rest : List Item) → is_owed o ≡ true → MayStand p z (makes l o) rest → Owes z.owed l o
op_owes p z l (wait k n) rest is h = h
op_owes p z l (enters k c) rest is h = h
op_owes p z l (at k ns) rest is h = h
op_owes p z l (past k ns) rest is h = h
op_owes p z l (post k n) rest is h = h
op_owes p z l (leave k c) rest is h = h
op_owes p z l back rest is h = h
op_owes p z l (tick x) rest is h = h
op_owes p z l (cross x v n) rest is h = cc
op_owes p z l (blocked what) rest is h = cc

op_coming : (p : Source) (plans : Plans) (z : Walk) (o : Operation) → is_owed o ≡ true → Walk.coming (after_operation p plans z o) ≡ z.coming
op_coming p plans z (wait k n) is = refl
op_coming p plans z (enters k c) is = refl
op_coming p plans z (at k ns) is = refl
op_coming p plans z (past k ns) is = refl
op_coming p plans z (post k n) is = refl
op_coming p plans z (leave k c) is = refl
op_coming p plans z back is = refl
op_coming p plans z (tick x) is = refl
op_coming p plans z (cross x v n) is = cc
op_coming p plans z (blocked what) is = cc

none_owed : (os : Queue) (l : ℕ) (o : Operation) → Owes os l o → os ≡ [] → ⊥
none_owed [] l o h is = h
none_owed (x ∷ os) l o h is = cc

-- with the operation that it owes there
record OpPoint (p : Source) (plans : Plans) (x : Own) (l : ℕ) (o : Operation) : Type 0 where
  asks : Asks p plans x
  owes : Owes (Walk.owed (walk_of p plans x asks.part.steps)) l o

op_point : (p : Source) (plans : Plans) (x : Own) (l : ℕ) (o : Operation) → is_owed o ≡ true → AsksToMake p plans x l o → OpPoint p plans x l o
op_point p plans x l o is h =
    let t : ℕ = x.thread in
    let y : Own = with_entry x (entry_of_operation t l o) in
    let c : OpPart p plans y l o = cut_part p plans y x.entries l o refl h in
    let part : IsPart p plans y = c.part in
    let before : List PartStep = c.before in
    let last : List PartStep = makes l o ∷ [] in
    let trace : IsTrace p x.func x.args (items (before ++ last) ++ part.ahead) part.outcome =
    subst (λ ss. IsTrace p x.func x.args (items ss ++ part.ahead) part.outcome) c.last part.trace in
    let woven : AreWoven p plans (unborn x.versions) (before ++ last) part.ahead = subst (λ ss. AreWoven p plans (unborn x.versions) ss part.ahead) c.last part.woven in
    let tells : filter_entries t before ++ entry_of_operation t l o ∷ [] ≡ x.entries ++ entry_of_operation t l o ∷ [] =
    sym (told_append t before last) ∙ (ap (filter_entries t) (sym c.last) ∙ part.tells) in
    let owes : Owes (Walk.owed (walk_from p plans (unborn x.versions) before)) l o =
    op_owes p (walk_from p plans (unborn x.versions) before) l o part.ahead is (stands_there p plans (unborn x.versions) before (makes l o) [] part.ahead woven) in
    record {
      asks = record {
        part = record {
          steps = before;
          ahead = part.ahead;
          outcome = part.outcome;
          trace = subst (λ us. IsTrace p x.func x.args us part.outcome) (items_ahead before last part.ahead) trace;
          woven = woven_front p plans (unborn x.versions) before last part.ahead woven;
          tells = same_front (filter_entries t before) x.entries (entry_of_operation t l o) (entry_of_operation t l o) tells;
          taken = sym (op_coming p plans (walk_from p plans (unborn x.versions) before) o is)
              ∙ (ap (λ z. Walk.coming z) (sym (walk_append p plans (unborn x.versions) before last) ∙ ap (walk_from p plans (unborn x.versions)) (sym c.last)) ∙ part.taken);
        };
        stop = inl (none_owed (Walk.owed (walk_from p plans (unborn x.versions) before)) l o owes);
      };
      owes = owes;
    }

pub one_request : HasOneRequest
one_request p plans x q q' d d' h answer k answer' =
    let a : ActPoint p plans x d = act_point p plans x q d h answer in
    let b : ActPoint p plans x d' = act_point p plans x q' d' k answer' in
    let same : a.asks.part.steps ≡ b.asks.part.steps = one_point p plans x a.asks b.asks in
    let is : List Item = items a.asks.part.steps in
    let like = one_next_item p x.func x.args (is ++ made d.line d.act ∷ []) (items b.asks.part.steps ++ made d'.line d'.act ∷ []) Open Open a.trace b.trace is [] []
    (made d.line d.act) (made d'.line d'.act) refl (ap (λ ss. items ss ++ made d'.line d'.act ∷ []) (sym same)) in
    record { line = like.0; act = like.1 }

pub no_split : HasNoSplit
no_split p plans x q d l o h answer is k =
    let a : ActPoint p plans x d = act_point p plans x q d h answer in
    let b : OpPoint p plans x l o = op_point p plans x l o is k in
    let same : a.asks.part.steps ≡ b.asks.part.steps = one_point p plans x a.asks b.asks in
    none_owed (Walk.owed (walk_of p plans x b.asks.part.steps)) l o b.owes (ap (λ ss. Walk.owed (walk_of p plans x ss)) (sym same) ∙ a.rests)

both_owed : (os : Queue) (l m : ℕ) (o q : Operation) → Owes os l o → Owes os m q → (l ≡ m) × (o ≡ q)
both_owed [] l m o q h k = absurd h
both_owed (x ∷ os) l m o q h k = let both : (l, o) ≡ (m, q) = sym h ∙ k in (ap (λ (y : ℕ × Operation). y.0) both, ap (λ (y : ℕ × Operation). y.1) both)

pub one_operation : HasOneOperation
one_operation p plans x l l' o o' is is' h k =
    let a : OpPoint p plans x l o = op_point p plans x l o is h in
    let b : OpPoint p plans x l' o' = op_point p plans x l' o' is' k in
    let same : a.asks.part.steps ≡ b.asks.part.steps = one_point p plans x a.asks b.asks in
    both_owed (Walk.owed (walk_of p plans x b.asks.part.steps)) l l' o o' (subst (λ ss. Owes (Walk.owed (walk_of p plans x ss)) l o) same a.owes) b.owes
