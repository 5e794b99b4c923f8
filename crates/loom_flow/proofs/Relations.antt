-- One set of lists within another, or around it: what is shown of both directions is shown once.
use Rattle.std.proofs.Common.{◌≡◌, List, [], Bool, true, false, refl, subst, sym, inl, inr}
use Rattle.loom_lang.specs.Trace.{Item, Outcome, Open, Lists, broken, emit, any, choice, either}

abbrev pub Within : Lists → Lists → Type 0
Within m n = (es : List Item) (r : Outcome) → m es r → n es r

-- the first within the second, or the second within the first
abbrev pub Meets : Bool → Lists → Lists → Type 0
Meets true m n = Within m n
Meets false m n = Within n m

pub meets_itself : (b : Bool) (m : Lists) → Meets b m m
meets_itself true m = λ es r h. h
meets_itself false m = λ es r h. h

pub meets_same : (b : Bool) (m n : Lists) → m ≡ n → Meets b m n
meets_same true m n e = λ es r h. subst (λ (k : Lists). k es r) e h
meets_same false m n e = λ es r h. subst (λ (k : Lists). k es r) (sym e) h

pub meets_on : (b : Bool) (m n o : Lists) → Meets b m n → Meets b n o → Meets b m o
meets_on true m n o f g = λ es r h. g es r (f es r h)
meets_on false m n o f g = λ es r h. f es r (g es r h)

pub emit_within : (i : Item) (m n : Lists) → Within m n → Within (emit i m) (emit i n)
emit_within i m n f es r (inl h) = inl h
emit_within i m n f es r (inr h) = inr (h.0, h.1, f h.0 r h.2)

pub meets_emit : (b : Bool) (i : Item) (m n : Lists) → Meets b m n → Meets b (emit i m) (emit i n)
meets_emit true i m n f = emit_within i m n f
meets_emit false i m n f = emit_within i n m f

pub meets_any : {A : Type 0} (b : Bool) (m n : A → Lists) → ((v : A) → Meets b (m v) (n v)) → Meets b (any m) (any n)
meets_any true m n f = λ es r h. (h.0, f h.0 es r h.1)
meets_any false m n f = λ es r h. (h.0, f h.0 es r h.1)

pub meets_choice : (b c : Bool) (m n o p : Lists) → Meets b m n → Meets b o p → Meets b (choice c m o) (choice c n p)
meets_choice b true m n o p f g = f
meets_choice b false m n o p f g = g

either_within : (m n o p : Lists) → Within m n → Within o p → Within (either m o) (either n p)
either_within m n o p f g es r (inl h) = inl (f es r h)
either_within m n o p f g es r (inr h) = inr (g es r h)

pub meets_either : (b : Bool) (m n o p : Lists) → Meets b m n → Meets b o p → Meets b (either m o) (either n p)
meets_either true m n o p f g = either_within m n o p f g
meets_either false m n o p f g = either_within n m p o f g

-- lists that break off at once
pub breaks : (m : Lists) → m [] Open → Within broken m
breaks m h es r e = subst (λ (fs : List Item). m fs r) (sym e.0) (subst (λ (q : Outcome). m [] q) (sym e.1) h)

pub emit_open : (i : Item) (m : Lists) → emit i m [] Open
emit_open i m = inl (refl, refl)

pub choice_open : (c : Bool) (m n : Lists) → m [] Open → n [] Open → choice c m n [] Open
choice_open true m n f g = f
choice_open false m n f g = g
