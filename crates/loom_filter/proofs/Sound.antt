-- What the reader has read: steps, regions, clauses and filters.
use Rattle.std.proofs.Common.{ℕ, ◌≤◌, ◌≡◌, Bool, true, false, ◌&&◌, if◌then◌else◌, List, [], ◌∷◌, ◌++◌, length, Option, Some, None, IfSome, refl, sym, ap, ◌∙◌, append_assoc, append-nil, length-append, arith}
use Rattle.std.specs.List.{AllByRecursion}
use Rattle.loom_lexer.specs.Name.{IsName}
use Rattle.loom_expression.specs.Reader.{after}
use Rattle.loom_command.specs.FilterForm.{TestForm, EventForm, StepForm, RegionForm, ClauseForm, IsFileWord, IsEvent, IsStep, IsRegion, IsClause}
use Rattle.loom_filter.specs.declared.scan.FilterSign.{FilterSign}
use Rattle.loom_filter.specs.declared.scan.FilterSign.TheVariants as g
use Rattle.loom_filter.specs.Words.{is_name, number_by}
use Rattle.loom_filter.specs.Token.{FilterToken, name, word, sign, test, IsToken, word_token, event_tokens, step_tokens, separated, with_each_sign, region_tokens, clause_tokens, filter_tokens, whole_tokens}
use Rattle.loom_filter.specs.Builders.{written, form_between, form_order, form_exclusive}
use Rattle.loom_filter.specs.Machine.{StepReader, File, Colon, Line, Untested, Tested, Count, CountEnd, Counted, RegionReader, Region, Call, Bare, Entries, Exits, Whole, ClauseReader, Begin, Named, Order, Regions, Unilateral, ClauseNext, Goes, Ends, FilterReader, colon_sign, event_sign, count_end, line_of, step_with_count, feed_step, finish_step, is_in_count, region_sign, call_sign, entries_by, exit_by, entries_sign, exits_close, exits_sign, feed_region, finish_region, begin_sign, named_sign, order_by, order_sign, all_sign, regions_by, regions_sign, step_clause, order_end, finish_clause, is_outside, is_semicolon, feed, next, feed_filter, finish}
use Rattle.loom_filter.proofs.Words.{number_is, name_told, name_word}

-- Steps

-- the count so far
abbrev open_count : Option (List ℕ) → List (FilterToken TestForm)
open_count None = []
open_count (Some d) = sign g.BraceOpen ∷ word d ∷ []

abbrev pub step_read : StepReader EventForm StepForm → List (FilterToken TestForm)
step_read File = []
step_read (Colon f) = word_token f ∷ []
step_read (Line f) = word_token f ∷ sign g.Colon ∷ []
step_read (Untested e) = event_tokens e
step_read (Tested e) = event_tokens e
step_read (Count e) = event_tokens e ++ sign g.BraceOpen ∷ []
step_read (CountEnd s) = event_tokens s.event ++ open_count s.count
step_read (Counted s) = step_tokens s

abbrev HasCount : Option (List ℕ) → Type 0
HasCount None = ⊥
HasCount (Some d) = Unit {0}

abbrev pub StepGood : StepReader EventForm StepForm → Type 0
StepGood File = Unit {0}
StepGood (Colon f) = IsFileWord f
StepGood (Line f) = IsFileWord f
StepGood (Untested e) = IsEvent e × (e.test ≡ None)
StepGood (Tested e) = IsEvent e
StepGood (Count e) = IsEvent e
StepGood (CountEnd s) = IsStep s × HasCount s.count
StepGood (Counted s) = IsStep s

-- it is good behind a token, and has read that too
abbrev pub StepKeeps : StepReader EventForm StepForm → FilterToken TestForm → StepReader EventForm StepForm → Type 0
StepKeeps r t s = StepGood s × (step_read s ≡ step_read r ++ t ∷ [])

name_is_token : (f : List ℕ) → IsName f → word_token f ≡ name f
name_is_token f h = rw (name_told f h) refl

other_is_token : (f : List ℕ) → is_name f ≡ false → word_token f ≡ word f
other_is_token f h = rw h refl

colon_keeps : (f : List ℕ) (s : FilterSign) → IsFileWord f → IfSome (colon_sign f s) (StepKeeps (Colon f) (sign s))
colon_keeps f g.Colon h = (h, refl)
colon_keeps f g.Comma h = tt
colon_keeps f g.Semicolon h = tt
colon_keeps f g.Before h = tt
colon_keeps f g.Apart h = tt
colon_keeps f g.All h = tt
colon_keeps f g.BraceOpen h = tt
colon_keeps f g.BraceClose h = tt
colon_keeps f g.Call h = tt

untested_keeps : (e : EventForm) (s : FilterSign) → StepGood (Untested e) → IfSome (event_sign e s) (StepKeeps (Untested e) (sign s))
untested_keeps e g.Colon h = tt
untested_keeps e g.Comma h = tt
untested_keeps e g.Semicolon h = tt
untested_keeps e g.Before h = tt
untested_keeps e g.Apart h = tt
untested_keeps e g.All h = tt
untested_keeps e g.BraceOpen h = (h.0, refl)
untested_keeps e g.BraceClose h = tt
untested_keeps e g.Call h = tt

tested_keeps : (e : EventForm) (s : FilterSign) → IsEvent e → IfSome (event_sign e s) (StepKeeps (Tested e) (sign s))
tested_keeps e g.Colon h = tt
tested_keeps e g.Comma h = tt
tested_keeps e g.Semicolon h = tt
tested_keeps e g.Before h = tt
tested_keeps e g.Apart h = tt
tested_keeps e g.All h = tt
tested_keeps e g.BraceOpen h = (h, refl)
tested_keeps e g.BraceClose h = tt
tested_keeps e g.Call h = tt

end_keeps : (e : EventForm) (d : List ℕ) (s : FilterSign) → IsStep (record { event = e; count = Some d }) → IfSome (count_end (record { event = e; count = Some d }) s) (StepKeeps (CountEnd (record { event = e; count = Some d })) (sign s))
end_keeps e d g.Colon h = tt
end_keeps e d g.Comma h = tt
end_keeps e d g.Semicolon h = tt
end_keeps e d g.Before h = tt
end_keeps e d g.Apart h = tt
end_keeps e d g.All h = tt
end_keeps e d g.BraceOpen h = tt
end_keeps e d g.BraceClose h = (h, sym (append_assoc (event_tokens e) (sign g.BraceOpen ∷ word d ∷ []) (sign g.BraceClose ∷ [])))
end_keeps e d g.Call h = tt

line_keeps : (f w : List ℕ) (o : Option ℕ) → number_by w ≡ o → IsFileWord f → IfSome (line_of written f w o) (StepKeeps (Line f) (word w))
line_keeps f w None e h = tt
line_keeps f w (Some n) e h = ((record { file = h; line = number_is w n e; test = tt }, refl), refl)

count_keeps : (e : EventForm) (w : List ℕ) (o : Option ℕ) → number_by w ≡ o → IsEvent e → IfSome (step_with_count written e w o) (StepKeeps (Count e) (word w))
count_keeps e w None i h = tt
count_keeps e w (Some n) i h = ((record { event = h; count = number_is w n i }, tt), sym (append_assoc (event_tokens e) (sign g.BraceOpen ∷ []) (word w ∷ [])))

test_keeps : (f l : List ℕ) (x : TestForm) → StepGood (Untested (record { file = f; line = l; test = None })) → IsToken (test x)
    → StepKeeps (Untested (record { file = f; line = l; test = None })) (test x) (Tested (record { file = f; line = l; test = Some x }))
test_keeps f l x h i = (record { file = h.0.file; line = h.0.line; test = i }, refl)

-- by what the test of an event is, which is none here
tested_goes : (f l : List ℕ) (o : Option TestForm) (x : TestForm) → StepGood (Untested (record { file = f; line = l; test = o })) → IsToken (test x)
    → StepKeeps (Untested (record { file = f; line = l; test = o })) (test x) (Tested (record { file = f; line = l; test = Some x }))
tested_goes f l None x h i = test_keeps f l x h i
tested_goes f l (Some y) x h i = let e : Some y ≡ None = h.1 in cc

-- by what the count of a step is, which is one here
ended_goes : (e : EventForm) (o : Option (List ℕ)) (s : FilterSign) → StepGood (CountEnd (record { event = e; count = o })) → IfSome (count_end (record { event = e; count = o }) s) (StepKeeps (CountEnd (record { event = e; count = o })) (sign s))
ended_goes e None s h = absurd h.1
ended_goes e (Some d) s h = end_keeps e d s h.0

pub step_sound : (r : StepReader EventForm StepForm) (t : FilterToken TestForm) → StepGood r → IsToken t → IfSome (feed_step written r t) (StepKeeps r t)
step_sound File (name f) h i = (name_word f i, ap (λ z. z ∷ []) (name_is_token f i))
step_sound File (word f) h i = (i.0, ap (λ z. z ∷ []) (other_is_token f i.1))
step_sound File (sign s) h i = tt
step_sound File (test x) h i = tt
step_sound (Colon f) (name w) h i = tt
step_sound (Colon f) (word w) h i = tt
step_sound (Colon f) (sign s) h i = colon_keeps f s h
step_sound (Colon f) (test x) h i = tt
step_sound (Line f) (name w) h i = tt
step_sound (Line f) (word w) h i = line_keeps f w (number_by w) refl h
step_sound (Line f) (sign s) h i = tt
step_sound (Line f) (test x) h i = tt
step_sound (Untested e) (name w) h i = tt
step_sound (Untested e) (word w) h i = tt
step_sound (Untested e) (sign s) h i = untested_keeps e s h
step_sound (Untested e) (test x) h i = tested_goes e.file e.line e.test x h i
step_sound (Tested e) (name w) h i = tt
step_sound (Tested e) (word w) h i = tt
step_sound (Tested e) (sign s) h i = tested_keeps e s h
step_sound (Tested e) (test x) h i = tt
step_sound (Count e) (name w) h i = tt
step_sound (Count e) (word w) h i = count_keeps e w (number_by w) refl h
step_sound (Count e) (sign s) h i = tt
step_sound (Count e) (test x) h i = tt
step_sound (CountEnd z) (name w) h i = tt
step_sound (CountEnd z) (word w) h i = tt
step_sound (CountEnd z) (sign s) h i = ended_goes z.event z.count s h
step_sound (CountEnd z) (test x) h i = tt
step_sound (Counted z) t h i = tt

-- what ends is the step that was read
abbrev pub StepEnds : StepReader EventForm StepForm → StepForm → Type 0
StepEnds r x = IsStep x × (step_tokens x ≡ step_read r)

event_ends : (e : EventForm) → IsEvent e → StepEnds (Tested e) (record { event = e; count = None })
event_ends e h = (record { event = h; count = tt }, append-nil (event_tokens e))

pub step_ended : (r : StepReader EventForm StepForm) → StepGood r → IfSome (finish_step written r) (StepEnds r)
step_ended File h = tt
step_ended (Colon f) h = tt
step_ended (Line f) h = tt
step_ended (Untested e) h = event_ends e h.0
step_ended (Tested e) h = event_ends e h
step_ended (Count e) h = tt
step_ended (CountEnd s) h = tt
step_ended (Counted s) h = (h, refl)

-- Regions: the steps before, each with its sign, and the one that was begun

abbrev pub region_read : RegionReader EventForm StepForm RegionForm → List (FilterToken TestForm)
region_read Region = []
region_read (Call f) = name f ∷ []
region_read (Bare f) = name f ∷ sign g.Call ∷ []
region_read (Entries es r) = sign g.BraceOpen ∷ with_each_sign g.Comma step_tokens es ++ step_read r
region_read (Exits es e xs r) = sign g.BraceOpen ∷ with_each_sign g.Comma step_tokens es ++ (step_tokens e ++ (sign g.Semicolon ∷ with_each_sign g.Comma step_tokens xs ++ step_read r))
region_read (Whole x) = region_tokens x

abbrev pub RegionGood : RegionReader EventForm StepForm RegionForm → Type 0
RegionGood Region = Unit {0}
RegionGood (Call f) = IsName f
RegionGood (Bare f) = IsName f
RegionGood (Entries es r) = AllByRecursion IsStep es × StepGood r
RegionGood (Exits es e xs r) = AllByRecursion IsStep es × IsStep e × AllByRecursion IsStep xs × StepGood r
RegionGood (Whole x) = IsRegion x

-- One more thing before a sign.
pub before_more : {A : Type 0} (s : FilterSign) (f : A → List (FilterToken TestForm)) (xs : List A) (x : A) → with_each_sign s f (xs ++ x ∷ []) ≡ with_each_sign s f xs ++ (f x ++ sign s ∷ [])
before_more s f [] x = refl
before_more s f (y ∷ ys) x = ap (λ z. f y ++ sign s ∷ z) (before_more s f ys x) ∙ sym (append_assoc (f y) (sign s ∷ with_each_sign s f ys) (f x ++ sign s ∷ []))

pub all_more : {A : Type 0} (P : A → Type 0) (xs : List A) (x : A) → AllByRecursion P xs → P x → AllByRecursion P (xs ++ x ∷ [])
all_more P [] x h p = (p, tt)
all_more P (y ∷ ys) x h p = (h.0, all_more P ys x h.1 p)

-- a part that goes on, behind what was read before it
longer : (xs ys zs : List (FilterToken TestForm)) (t : FilterToken TestForm) → ys ≡ zs ++ t ∷ [] → xs ++ ys ≡ (xs ++ zs) ++ t ∷ []
longer xs ys zs t e = ap (λ z. xs ++ z) e ∙ sym (append_assoc xs zs (t ∷ []))

-- a thing that ends behind others, with its sign
pushed_read : {A : Type 0} (s : FilterSign) (f : A → List (FilterToken TestForm)) (xs : List A) (x : A) (ys : List (FilterToken TestForm)) → f x ≡ ys → with_each_sign s f (xs ++ x ∷ []) ++ [] ≡ (with_each_sign s f xs ++ ys) ++ sign s ∷ []
pushed_read s f xs x ys e =
    append-nil (with_each_sign s f (xs ++ x ∷ [])) ∙ before_more s f xs x ∙ ap (λ z. with_each_sign s f xs ++ (z ++ sign s ∷ [])) e ∙ sym (append_assoc (with_each_sign s f xs) ys (sign s ∷ []))

-- things before their signs and a last one are things with the sign between them
before_last : {A : Type 0} (s : FilterSign) (f : A → List (FilterToken TestForm)) (x : A) (xs : List A) (y : A) → with_each_sign s f (x ∷ xs) ++ f y ≡ separated s f x (xs ++ y ∷ [])
before_last s f x [] y = append_assoc (f x) (sign s ∷ []) (f y)
before_last s f x (z ∷ zs) y = append_assoc (f x) (sign s ∷ with_each_sign s f (z ∷ zs)) (f y) ∙ ap (λ w. f x ++ sign s ∷ w) (before_last s f z zs y)

-- things and a last one, with the sign between them
abbrev with_last : {A : Type 0} → FilterSign → (A → List (FilterToken TestForm)) → List A → A → List (FilterToken TestForm)
with_last s f [] x = f x
with_last s f (y ∷ ys) x = separated s f y (ys ++ x ∷ [])

last_read : {A : Type 0} (s : FilterSign) (f : A → List (FilterToken TestForm)) (xs : List A) (x : A) → with_last s f xs x ≡ with_each_sign s f xs ++ f x
last_read s f [] x = refl
last_read s f (y ∷ ys) x = sym (before_last s f y ys x)

abbrev pub RegionKeeps : RegionReader EventForm StepForm RegionForm → FilterToken TestForm → RegionReader EventForm StepForm RegionForm → Type 0
RegionKeeps r t s = RegionGood s × (region_read s ≡ region_read r ++ t ∷ [])

region_sign_keeps : (s : FilterSign) → IfSome (region_sign s) (RegionKeeps Region (sign s))
region_sign_keeps g.Colon = tt
region_sign_keeps g.Comma = tt
region_sign_keeps g.Semicolon = tt
region_sign_keeps g.Before = tt
region_sign_keeps g.Apart = tt
region_sign_keeps g.All = tt
region_sign_keeps g.BraceOpen = ((tt, tt), refl)
region_sign_keeps g.BraceClose = tt
region_sign_keeps g.Call = tt

call_keeps : (f : List ℕ) (s : FilterSign) → IsName f → IfSome (call_sign f s) (RegionKeeps (Call f) (sign s))
call_keeps f g.Colon h = tt
call_keeps f g.Comma h = tt
call_keeps f g.Semicolon h = tt
call_keeps f g.Before h = tt
call_keeps f g.Apart h = tt
call_keeps f g.All h = tt
call_keeps f g.BraceOpen h = tt
call_keeps f g.BraceClose h = tt
call_keeps f g.Call h = (h, refl)

-- the brace and the entries with their commas
abbrev entered : List StepForm → List (FilterToken TestForm)
entered es = sign g.BraceOpen ∷ with_each_sign g.Comma step_tokens es

entry_keeps : (es : List StepForm) (r : StepReader EventForm StepForm) (t : FilterToken TestForm) → RegionGood (Entries es r) → (o : Option (StepReader EventForm StepForm)) → IfSome o (StepKeeps r t)
    → IfSome (entries_by es o) (RegionKeeps (Entries es r) t)
entry_keeps es r t h None k = tt
entry_keeps es r t h (Some s) k = ((h.0, k.0), longer (entered es) (step_read s) (step_read r) t k.1)

entry_more : (es : List StepForm) (r : StepReader EventForm StepForm) → RegionGood (Entries es r) → (o : Option StepForm) → IfSome o (StepEnds r)
    → IfSome (after o (λ e. Some (Entries (es ++ e ∷ []) File))) (RegionKeeps (Entries es r) (sign g.Comma))
entry_more es r h None k = tt
entry_more es r h (Some e) k = ((all_more IsStep es e h.0 k.0, tt), ap (λ z. sign g.BraceOpen ∷ z) (pushed_read g.Comma step_tokens es e (step_read r) k.1))

entries_left : (es : List StepForm) (r : StepReader EventForm StepForm) → RegionGood (Entries es r) → (o : Option StepForm) → IfSome o (StepEnds r)
    → IfSome (after o (λ e. Some (Exits es e [] File))) (RegionKeeps (Entries es r) (sign g.Semicolon))
entries_left es r h None k = tt
entries_left es r h (Some e) k =
    ((h.0, k.0, tt, tt), ap (λ z. entered es ++ (z ++ sign g.Semicolon ∷ [])) k.1 ∙ sym (append_assoc (entered es) (step_read r) (sign g.Semicolon ∷ [])))

entries_keeps : (es : List StepForm) (r : StepReader EventForm StepForm) (s : FilterSign) → RegionGood (Entries es r) → IfSome (entries_sign written es r s) (RegionKeeps (Entries es r) (sign s))
entries_keeps es r g.Colon h = entry_keeps es r (sign g.Colon) h (feed_step written r (sign g.Colon)) (step_sound r (sign g.Colon) h.1 tt)
entries_keeps es r g.Comma h = entry_more es r h (finish_step written r) (step_ended r h.1)
entries_keeps es r g.Semicolon h = entries_left es r h (finish_step written r) (step_ended r h.1)
entries_keeps es r g.Before h = entry_keeps es r (sign g.Before) h (feed_step written r (sign g.Before)) (step_sound r (sign g.Before) h.1 tt)
entries_keeps es r g.Apart h = entry_keeps es r (sign g.Apart) h (feed_step written r (sign g.Apart)) (step_sound r (sign g.Apart) h.1 tt)
entries_keeps es r g.All h = entry_keeps es r (sign g.All) h (feed_step written r (sign g.All)) (step_sound r (sign g.All) h.1 tt)
entries_keeps es r g.BraceOpen h = entry_keeps es r (sign g.BraceOpen) h (feed_step written r (sign g.BraceOpen)) (step_sound r (sign g.BraceOpen) h.1 tt)
entries_keeps es r g.BraceClose h = entry_keeps es r (sign g.BraceClose) h (feed_step written r (sign g.BraceClose)) (step_sound r (sign g.BraceClose) h.1 tt)
entries_keeps es r g.Call h = entry_keeps es r (sign g.Call) h (feed_step written r (sign g.Call)) (step_sound r (sign g.Call) h.1 tt)

-- what stands before the exits, and the exits with their commas
abbrev left : List StepForm → List (FilterToken TestForm)
left xs = sign g.Semicolon ∷ with_each_sign g.Comma step_tokens xs

-- what is longer among the exits is longer
exits_longer : (es : List StepForm) (e : StepForm) (ys zs : List (FilterToken TestForm)) (t : FilterToken TestForm) → ys ≡ zs ++ t ∷ [] → entered es ++ (step_tokens e ++ ys) ≡ (entered es ++ (step_tokens e ++ zs)) ++ t ∷ []
exits_longer es e ys zs t k = longer (entered es) (step_tokens e ++ ys) (step_tokens e ++ zs) t (longer (step_tokens e) ys zs t k)

exit_keeps : (es : List StepForm) (e : StepForm) (xs : List StepForm) (r : StepReader EventForm StepForm) (t : FilterToken TestForm) → RegionGood (Exits es e xs r) → (o : Option (StepReader EventForm StepForm)) → IfSome o (StepKeeps r t)
    → IfSome (exit_by es e xs o) (RegionKeeps (Exits es e xs r) t)
exit_keeps es e xs r t h None k = tt
exit_keeps es e xs r t h (Some s) k = ((h.0, h.1, h.2, k.0), exits_longer es e (left xs ++ step_read s) (left xs ++ step_read r) t (longer (left xs) (step_read s) (step_read r) t k.1))

exit_more : (es : List StepForm) (e : StepForm) (xs : List StepForm) (r : StepReader EventForm StepForm) → RegionGood (Exits es e xs r) → (o : Option StepForm) → IfSome o (StepEnds r)
    → IfSome (after o (λ x. Some (Exits es e (xs ++ x ∷ []) File))) (RegionKeeps (Exits es e xs r) (sign g.Comma))
exit_more es e xs r h None k = tt
exit_more es e xs r h (Some x) k =
    ((h.0, h.1, all_more IsStep xs x h.2 k.0, tt), exits_longer es e (left (xs ++ x ∷ []) ++ []) (left xs ++ step_read r) (sign g.Comma) (ap (λ z. sign g.Semicolon ∷ z) (pushed_read g.Comma step_tokens xs x (step_read r) k.1)))

form_good : (es : List StepForm) (e : StepForm) (xs : List StepForm) (x : StepForm) → AllByRecursion IsStep es → IsStep e → AllByRecursion IsStep xs → IsStep x → IsRegion (form_between es e xs x)
form_good [] e [] x h i j k = ((i, tt), (k, tt))
form_good [] e (y ∷ ys) x h i j k = ((i, tt), (j.0, all_more IsStep ys x j.1 k))
form_good (d ∷ ds) e [] x h i j k = ((h.0, all_more IsStep ds e h.1 i), (k, tt))
form_good (d ∷ ds) e (y ∷ ys) x h i j k = ((h.0, all_more IsStep ds e h.1 i), (j.0, all_more IsStep ys x j.1 k))

form_tokens : (es : List StepForm) (e : StepForm) (xs : List StepForm) (x : StepForm)
    → region_tokens (form_between es e xs x) ≡ sign g.BraceOpen ∷ (with_last g.Comma step_tokens es e ++ (sign g.Semicolon ∷ (with_last g.Comma step_tokens xs x ++ (sign g.BraceClose ∷ []))))
form_tokens [] e [] x = refl
form_tokens [] e (y ∷ ys) x = refl
form_tokens (d ∷ ds) e [] x = refl
form_tokens (d ∷ ds) e (y ∷ ys) x = refl

-- the parts of a region in another order of gluing
parts : (o s c : FilterToken TestForm) (a b x r : List (FilterToken TestForm)) → o ∷ ((a ++ b) ++ (s ∷ ((x ++ r) ++ (c ∷ [])))) ≡ (o ∷ a ++ (b ++ (s ∷ x ++ r))) ++ c ∷ []
parts o s c a b x r = simp append_assoc

form_read : (es : List StepForm) (e : StepForm) (xs : List StepForm) (x : StepForm) (ys : List (FilterToken TestForm)) → step_tokens x ≡ ys
    → region_tokens (form_between es e xs x) ≡ (entered es ++ (step_tokens e ++ (left xs ++ ys))) ++ sign g.BraceClose ∷ []
form_read es e xs x ys k =
    form_tokens es e xs x
    ∙ ap (λ z. sign g.BraceOpen ∷ (z ++ (sign g.Semicolon ∷ (with_last g.Comma step_tokens xs x ++ (sign g.BraceClose ∷ []))))) (last_read g.Comma step_tokens es e)
    ∙ ap (λ z. sign g.BraceOpen ∷ ((with_each_sign g.Comma step_tokens es ++ step_tokens e) ++ (sign g.Semicolon ∷ (z ++ (sign g.BraceClose ∷ []))))) (last_read g.Comma step_tokens xs x ∙ ap (λ z. with_each_sign g.Comma step_tokens xs ++ z) k)
    ∙ parts (sign g.BraceOpen) (sign g.Semicolon) (sign g.BraceClose) (with_each_sign g.Comma step_tokens es) (step_tokens e) (with_each_sign g.Comma step_tokens xs) ys

exits_end : (es : List StepForm) (e : StepForm) (xs : List StepForm) (r : StepReader EventForm StepForm) → RegionGood (Exits es e xs r) → (o : Option StepForm) → IfSome o (StepEnds r)
    → IfSome (after o (λ x. Some (Whole (form_between es e xs x)))) (RegionKeeps (Exits es e xs r) (sign g.BraceClose))
exits_end es e xs r h None k = tt
exits_end es e xs r h (Some x) k = (form_good es e xs x h.0 h.1 h.2 k.0, form_read es e xs x (step_read r) k.1)

close_keeps : (es : List StepForm) (e : StepForm) (xs : List StepForm) (r : StepReader EventForm StepForm) → RegionGood (Exits es e xs r) → IfSome (exits_close written es e xs r) (RegionKeeps (Exits es e xs r) (sign g.BraceClose))
close_keeps es e xs r h = go (is_in_count r)
  where
    go : (b : Bool) → IfSome (if b then exit_by es e xs (feed_step written r (sign g.BraceClose)) else after (finish_step written r) (λ x. Some (Whole (form_between es e xs x)))) (RegionKeeps (Exits es e xs r) (sign g.BraceClose))
    go true = exit_keeps es e xs r (sign g.BraceClose) h (feed_step written r (sign g.BraceClose)) (step_sound r (sign g.BraceClose) h.3 tt)
    go false = exits_end es e xs r h (finish_step written r) (step_ended r h.3)

exits_keeps : (es : List StepForm) (e : StepForm) (xs : List StepForm) (r : StepReader EventForm StepForm) (s : FilterSign) → RegionGood (Exits es e xs r) → IfSome (exits_sign written es e xs r s) (RegionKeeps (Exits es e xs r) (sign s))
exits_keeps es e xs r g.Colon h = exit_keeps es e xs r (sign g.Colon) h (feed_step written r (sign g.Colon)) (step_sound r (sign g.Colon) h.3 tt)
exits_keeps es e xs r g.Comma h = exit_more es e xs r h (finish_step written r) (step_ended r h.3)
exits_keeps es e xs r g.Semicolon h = exit_keeps es e xs r (sign g.Semicolon) h (feed_step written r (sign g.Semicolon)) (step_sound r (sign g.Semicolon) h.3 tt)
exits_keeps es e xs r g.Before h = exit_keeps es e xs r (sign g.Before) h (feed_step written r (sign g.Before)) (step_sound r (sign g.Before) h.3 tt)
exits_keeps es e xs r g.Apart h = exit_keeps es e xs r (sign g.Apart) h (feed_step written r (sign g.Apart)) (step_sound r (sign g.Apart) h.3 tt)
exits_keeps es e xs r g.All h = exit_keeps es e xs r (sign g.All) h (feed_step written r (sign g.All)) (step_sound r (sign g.All) h.3 tt)
exits_keeps es e xs r g.BraceOpen h = exit_keeps es e xs r (sign g.BraceOpen) h (feed_step written r (sign g.BraceOpen)) (step_sound r (sign g.BraceOpen) h.3 tt)
exits_keeps es e xs r g.BraceClose h = close_keeps es e xs r h
exits_keeps es e xs r g.Call h = exit_keeps es e xs r (sign g.Call) h (feed_step written r (sign g.Call)) (step_sound r (sign g.Call) h.3 tt)

pub region_sound : (r : RegionReader EventForm StepForm RegionForm) (t : FilterToken TestForm) → RegionGood r → IsToken t → IfSome (feed_region written r t) (RegionKeeps r t)
region_sound Region (name f) h i = (i, refl)
region_sound Region (word w) h i = tt
region_sound Region (sign s) h i = region_sign_keeps s
region_sound Region (test x) h i = tt
region_sound (Call f) (name w) h i = tt
region_sound (Call f) (word w) h i = tt
region_sound (Call f) (sign s) h i = call_keeps f s h
region_sound (Call f) (test x) h i = tt
region_sound (Bare f) (name w) h i = tt
region_sound (Bare f) (word w) h i = tt
region_sound (Bare f) (sign s) h i = tt
region_sound (Bare f) (test x) h i = ((h, i), refl)
region_sound (Entries es r) (name w) h i = entry_keeps es r (name w) h (feed_step written r (name w)) (step_sound r (name w) h.1 i)
region_sound (Entries es r) (word w) h i = entry_keeps es r (word w) h (feed_step written r (word w)) (step_sound r (word w) h.1 i)
region_sound (Entries es r) (sign s) h i = entries_keeps es r s h
region_sound (Entries es r) (test x) h i = entry_keeps es r (test x) h (feed_step written r (test x)) (step_sound r (test x) h.1 i)
region_sound (Exits es e xs r) (name w) h i = exit_keeps es e xs r (name w) h (feed_step written r (name w)) (step_sound r (name w) h.3 i)
region_sound (Exits es e xs r) (word w) h i = exit_keeps es e xs r (word w) h (feed_step written r (word w)) (step_sound r (word w) h.3 i)
region_sound (Exits es e xs r) (sign s) h i = exits_keeps es e xs r s h
region_sound (Exits es e xs r) (test x) h i = exit_keeps es e xs r (test x) h (feed_step written r (test x)) (step_sound r (test x) h.3 i)
region_sound (Whole x) t h i = tt

-- what ends is the region that was read
abbrev pub RegionEnds : RegionReader EventForm StepForm RegionForm → RegionForm → Type 0
RegionEnds r x = IsRegion x × (region_tokens x ≡ region_read r)

pub region_ended : (r : RegionReader EventForm StepForm RegionForm) → RegionGood r → IfSome (finish_region written r) (RegionEnds r)
region_ended Region h = tt
region_ended (Call f) h = tt
region_ended (Bare f) h = ((h, tt), refl)
region_ended (Entries es r) h = tt
region_ended (Exits es e xs r) h = tt
region_ended (Whole x) h = (h, refl)

-- Clauses

abbrev pub clause_read : ClauseReader EventForm StepForm RegionForm → List (FilterToken TestForm)
clause_read Begin = []
clause_read (Named f) = name f ∷ []
clause_read (Order ss r) = with_each_sign g.Before step_tokens ss ++ step_read r
clause_read (Regions rs r) = with_each_sign g.Apart region_tokens rs ++ region_read r
clause_read (Unilateral x) = region_tokens x ++ (sign g.Apart ∷ sign g.All ∷ [])

abbrev pub ClauseGood : ClauseReader EventForm StepForm RegionForm → Type 0
ClauseGood Begin = Unit {0}
ClauseGood (Named f) = IsName f
ClauseGood (Order ss r) = AllByRecursion IsStep ss × StepGood r
ClauseGood (Regions rs r) = AllByRecursion IsRegion rs × RegionGood r
ClauseGood (Unilateral x) = IsRegion x

abbrev pub ClauseKeeps : ClauseReader EventForm StepForm RegionForm → FilterToken TestForm → ClauseReader EventForm StepForm RegionForm → Type 0
ClauseKeeps r t s = ClauseGood s × (clause_read s ≡ clause_read r ++ t ∷ [])

begin_keeps : (s : FilterSign) → IfSome (begin_sign s) (ClauseKeeps Begin (sign s))
begin_keeps g.Colon = tt
begin_keeps g.Comma = tt
begin_keeps g.Semicolon = tt
begin_keeps g.Before = tt
begin_keeps g.Apart = tt
begin_keeps g.All = tt
begin_keeps g.BraceOpen = ((tt, (tt, tt)), refl)
begin_keeps g.BraceClose = tt
begin_keeps g.Call = tt

named_keeps : (f : List ℕ) (s : FilterSign) → IsName f → IfSome (named_sign f s) (ClauseKeeps (Named f) (sign s))
named_keeps f g.Colon h = ((tt, name_word f h), ap (λ z. z ∷ sign g.Colon ∷ []) (name_is_token f h))
named_keeps f g.Comma h = tt
named_keeps f g.Semicolon h = tt
named_keeps f g.Before h = tt
named_keeps f g.Apart h = tt
named_keeps f g.All h = tt
named_keeps f g.BraceOpen h = tt
named_keeps f g.BraceClose h = tt
named_keeps f g.Call h = ((tt, h), refl)

-- an order goes on
order_keeps : (ss : List StepForm) (r : StepReader EventForm StepForm) (t : FilterToken TestForm) → ClauseGood (Order ss r) → (o : Option (StepReader EventForm StepForm)) → IfSome o (StepKeeps r t)
    → IfSome (order_by ss o) (ClauseKeeps (Order ss r) t)
order_keeps ss r t h None k = tt
order_keeps ss r t h (Some s) k = ((h.0, k.0), longer (with_each_sign g.Before step_tokens ss) (step_read s) (step_read r) t k.1)

order_more : (ss : List StepForm) (r : StepReader EventForm StepForm) → ClauseGood (Order ss r) → (o : Option StepForm) → IfSome o (StepEnds r)
    → IfSome (after o (λ s. Some (Order (ss ++ s ∷ []) File))) (ClauseKeeps (Order ss r) (sign g.Before))
order_more ss r h None k = tt
order_more ss r h (Some s) k = ((all_more IsStep ss s h.0 k.0, tt), pushed_read g.Before step_tokens ss s (step_read r) k.1)

order_goes : (ss : List StepForm) (r : StepReader EventForm StepForm) (t : FilterToken TestForm) → ClauseGood (Order ss r) → IsToken t → IfSome (order_by ss (feed_step written r t)) (ClauseKeeps (Order ss r) t)
order_goes ss r t h i = order_keeps ss r t h (feed_step written r t) (step_sound r t h.1 i)

order_sound : (ss : List StepForm) (r : StepReader EventForm StepForm) (s : FilterSign) → ClauseGood (Order ss r) → IfSome (order_sign written ss r s) (ClauseKeeps (Order ss r) (sign s))
order_sound ss r g.Colon h = order_goes ss r (sign g.Colon) h tt
order_sound ss r g.Comma h = order_goes ss r (sign g.Comma) h tt
order_sound ss r g.Semicolon h = order_goes ss r (sign g.Semicolon) h tt
order_sound ss r g.Before h = order_more ss r h (finish_step written r) (step_ended r h.1)
order_sound ss r g.Apart h = order_goes ss r (sign g.Apart) h tt
order_sound ss r g.All h = order_goes ss r (sign g.All) h tt
order_sound ss r g.BraceOpen h = order_goes ss r (sign g.BraceOpen) h tt
order_sound ss r g.BraceClose h = order_goes ss r (sign g.BraceClose) h tt
order_sound ss r g.Call h = order_goes ss r (sign g.Call) h tt

-- regions go on
regions_keeps : (rs : List RegionForm) (r : RegionReader EventForm StepForm RegionForm) (t : FilterToken TestForm) → ClauseGood (Regions rs r) → (o : Option (RegionReader EventForm StepForm RegionForm)) → IfSome o (RegionKeeps r t)
    → IfSome (regions_by rs o) (ClauseKeeps (Regions rs r) t)
regions_keeps rs r t h None k = tt
regions_keeps rs r t h (Some s) k = ((h.0, k.0), longer (with_each_sign g.Apart region_tokens rs) (region_read s) (region_read r) t k.1)

regions_more : (rs : List RegionForm) (r : RegionReader EventForm StepForm RegionForm) → ClauseGood (Regions rs r) → (o : Option RegionForm) → IfSome o (RegionEnds r)
    → IfSome (after o (λ x. Some (Regions (rs ++ x ∷ []) Region))) (ClauseKeeps (Regions rs r) (sign g.Apart))
regions_more rs r h None k = tt
regions_more rs r h (Some x) k = ((all_more IsRegion rs x h.0 k.0, tt), pushed_read g.Apart region_tokens rs x (region_read r) k.1)

regions_goes : (rs : List RegionForm) (r : RegionReader EventForm StepForm RegionForm) (t : FilterToken TestForm) → ClauseGood (Regions rs r) → IsToken t → IfSome (regions_by rs (feed_region written r t)) (ClauseKeeps (Regions rs r) t)
regions_goes rs r t h i = regions_keeps rs r t h (feed_region written r t) (region_sound r t h.1 i)

all_read : (a : List (FilterToken TestForm)) (s t : FilterToken TestForm) → a ++ (s ∷ t ∷ []) ≡ ((a ++ s ∷ []) ++ []) ++ t ∷ []
all_read a s t = simp (append_assoc, append-nil)

all_keeps : (rs : List RegionForm) (r : RegionReader EventForm StepForm RegionForm) → ClauseGood (Regions rs r) → IfSome (all_sign rs r) (ClauseKeeps (Regions rs r) (sign g.All))
all_keeps [] Region h = tt
all_keeps (x ∷ []) Region h = (h.0.0, all_read (region_tokens x) (sign g.Apart) (sign g.All))
all_keeps (x ∷ y ∷ rs) Region h = tt
all_keeps rs (Call f) h = tt
all_keeps rs (Bare f) h = tt
all_keeps rs (Entries es r) h = tt
all_keeps rs (Exits es e xs r) h = tt
all_keeps rs (Whole z) h = tt

regions_sound : (rs : List RegionForm) (r : RegionReader EventForm StepForm RegionForm) (s : FilterSign) → ClauseGood (Regions rs r) → IfSome (regions_sign written rs r s) (ClauseKeeps (Regions rs r) (sign s))
regions_sound rs r g.Colon h = regions_goes rs r (sign g.Colon) h tt
regions_sound rs r g.Comma h = regions_goes rs r (sign g.Comma) h tt
regions_sound rs r g.Semicolon h = regions_goes rs r (sign g.Semicolon) h tt
regions_sound rs r g.Before h = regions_goes rs r (sign g.Before) h tt
regions_sound rs r g.Apart h = regions_more rs r h (finish_region written r) (region_ended r h.1)
regions_sound rs r g.All h = all_keeps rs r h
regions_sound rs r g.BraceOpen h = regions_goes rs r (sign g.BraceOpen) h tt
regions_sound rs r g.BraceClose h = regions_goes rs r (sign g.BraceClose) h tt
regions_sound rs r g.Call h = regions_goes rs r (sign g.Call) h tt

pub clause_sound : (r : ClauseReader EventForm StepForm RegionForm) (t : FilterToken TestForm) → ClauseGood r → IsToken t → IfSome (step_clause written r t) (ClauseKeeps r t)
clause_sound Begin (name f) h i = (i, refl)
clause_sound Begin (word f) h i = ((tt, i.0), ap (λ z. z ∷ []) (other_is_token f i.1))
clause_sound Begin (sign s) h i = begin_keeps s
clause_sound Begin (test x) h i = tt
clause_sound (Named f) (name w) h i = tt
clause_sound (Named f) (word w) h i = tt
clause_sound (Named f) (sign s) h i = named_keeps f s h
clause_sound (Named f) (test x) h i = tt
clause_sound (Order ss r) (name w) h i = order_goes ss r (name w) h i
clause_sound (Order ss r) (word w) h i = order_goes ss r (word w) h i
clause_sound (Order ss r) (sign s) h i = order_sound ss r s h
clause_sound (Order ss r) (test x) h i = order_goes ss r (test x) h i
clause_sound (Regions rs r) (name w) h i = regions_goes rs r (name w) h i
clause_sound (Regions rs r) (word w) h i = regions_goes rs r (word w) h i
clause_sound (Regions rs r) (sign s) h i = regions_sound rs r s h
clause_sound (Regions rs r) (test x) h i = regions_goes rs r (test x) h i
clause_sound (Unilateral x) t h i = tt

-- what ends is the clause that was read
abbrev pub ClauseEnds : ClauseReader EventForm StepForm RegionForm → ClauseForm → Type 0
ClauseEnds r c = IsClause c × (clause_tokens c ≡ clause_read r)

order_form : (a : StepForm) (ss : List StepForm) (s : StepForm) → clause_tokens (form_order a ss s) ≡ separated g.Before step_tokens a (ss ++ s ∷ [])
order_form a [] s = refl
order_form a (t ∷ ts) s = refl

order_good : (a : StepForm) (ss : List StepForm) (s : StepForm) → AllByRecursion IsStep (a ∷ ss) → IsStep s → IsClause (form_order a ss s)
order_good a [] s h k = (h.0, k, tt)
order_good a (t ∷ ts) s h k = (h.0, h.1.0, all_more IsStep ts s h.1.1 k)

order_ended : (ss : List StepForm) (r : StepReader EventForm StepForm) → ClauseGood (Order ss r) → (o : Option StepForm) → IfSome o (StepEnds r) → IfSome (after o (λ s. order_end written ss s)) (ClauseEnds (Order ss r))
order_ended ss r h None k = tt
order_ended [] r h (Some s) k = tt
order_ended (a ∷ ss) r h (Some s) k =
    (order_good a ss s h.0 k.0, order_form a ss s ∙ last_read g.Before step_tokens (a ∷ ss) s ∙ ap (λ z. with_each_sign g.Before step_tokens (a ∷ ss) ++ z) k.1)

exclusive_form : (rs : List RegionForm) (r : RegionForm) → clause_tokens (form_exclusive rs r) ≡ with_last g.Apart region_tokens rs r
exclusive_form [] r = refl
exclusive_form (q ∷ qs) r = refl

exclusive_good : (rs : List RegionForm) (r : RegionForm) → AllByRecursion IsRegion rs → IsRegion r → IsClause (form_exclusive rs r)
exclusive_good [] r h k = (k, tt)
exclusive_good (q ∷ qs) r h k = (h.0, all_more IsRegion qs r h.1 k)

exclusive_ended : (rs : List RegionForm) (r : RegionReader EventForm StepForm RegionForm) → ClauseGood (Regions rs r) → (o : Option RegionForm) → IfSome o (RegionEnds r) → IfSome (after o (λ x. Some (form_exclusive rs x))) (ClauseEnds (Regions rs r))
exclusive_ended rs r h None k = tt
exclusive_ended rs r h (Some x) k =
    (exclusive_good rs x h.0 k.0, exclusive_form rs x ∙ last_read g.Apart region_tokens rs x ∙ ap (λ z. with_each_sign g.Apart region_tokens rs ++ z) k.1)

pub clause_ended : (r : ClauseReader EventForm StepForm RegionForm) → ClauseGood r → IfSome (finish_clause written r) (ClauseEnds r)
clause_ended Begin h = tt
clause_ended (Named f) h = tt
clause_ended (Order ss r) h = order_ended ss r h (finish_step written r) (step_ended r h.1)
clause_ended (Regions rs r) h = exclusive_ended rs r h (finish_region written r) (region_ended r h.1)
clause_ended (Unilateral x) h = (h, refl)

-- what a token leads to: more of the clause, or its end, and then it is the `;`
abbrev NextKeeps : ClauseReader EventForm StepForm RegionForm → FilterToken TestForm → ClauseNext EventForm StepForm RegionForm ClauseForm → Type 0
NextKeeps r t (Goes s) = ClauseKeeps r t s
NextKeeps r t (Ends c) = ClauseEnds r c × (t ≡ sign g.Semicolon)

semicolon_is : (t : FilterToken TestForm) → is_semicolon t ≡ true → t ≡ sign g.Semicolon
semicolon_is (name w) e = cc
semicolon_is (word w) e = cc
semicolon_is (sign g.Colon) e = cc
semicolon_is (sign g.Comma) e = cc
semicolon_is (sign g.Semicolon) e = refl
semicolon_is (sign g.Before) e = cc
semicolon_is (sign g.Apart) e = cc
semicolon_is (sign g.All) e = cc
semicolon_is (sign g.BraceOpen) e = cc
semicolon_is (sign g.BraceClose) e = cc
semicolon_is (sign g.Call) e = cc
semicolon_is (test x) e = cc

goes_keeps : (r : ClauseReader EventForm StepForm RegionForm) (t : FilterToken TestForm) (o : Option (ClauseReader EventForm StepForm RegionForm)) → IfSome o (ClauseKeeps r t) → IfSome (after o (λ s. Some (Goes s))) (NextKeeps r t)
goes_keeps r t None k = tt
goes_keeps r t (Some s) k = k

ends_keeps : (r : ClauseReader EventForm StepForm RegionForm) (t : FilterToken TestForm) → t ≡ sign g.Semicolon → (o : Option ClauseForm) → IfSome o (ClauseEnds r) → IfSome (after o (λ c. Some (Ends c))) (NextKeeps r t)
ends_keeps r t e None k = tt
ends_keeps r t e (Some c) k = (k, e)

pub next_sound : (r : ClauseReader EventForm StepForm RegionForm) (t : FilterToken TestForm) → ClauseGood r → IsToken t → IfSome (feed written r t) (NextKeeps r t)
next_sound r t h i = go (is_semicolon t) (is_outside r) (semicolon_is t)
  where
    go : (b c : Bool) → (b ≡ true → t ≡ sign g.Semicolon) → IfSome (if b && c then after (finish_clause written r) (λ x. Some (Ends x)) else after (step_clause written r t) (λ s. Some (Goes s))) (NextKeeps r t)
    go true true e = ends_keeps r t (e refl) (finish_clause written r) (clause_ended r h)
    go true false e = goes_keeps r t (step_clause written r t) (clause_sound r t h i)
    go false c e = goes_keeps r t (step_clause written r t) (clause_sound r t h i)

-- Filters

abbrev pub Reader : Type 0
Reader = FilterReader EventForm StepForm RegionForm ClauseForm

abbrev pub read : Reader → List (FilterToken TestForm)
read z = whole_tokens z.clauses ++ clause_read z.reader

pub record Good (z : Reader) : Type 0 where
  pub clauses : AllByRecursion IsClause z.clauses
  pub reader : ClauseGood z.reader

pub record Keeps (z : Reader) (t : FilterToken TestForm) (y : Reader) : Type 0 where
  pub good : Good y
  pub has : read y ≡ read z ++ t ∷ []
  -- whole clauses stay
  pub more : length z.clauses ≤ length y.clauses

one_more_clause : (cs : List ClauseForm) (c : ClauseForm) → length cs ≤ length (cs ++ c ∷ [])
one_more_clause cs c = let e = length-append cs (c ∷ []) in omega (arith, e)

pub sound : (z : Reader) (t : FilterToken TestForm) → Good z → IsToken t → IfSome (feed_filter written z t) (Keeps z t)
sound z t h i = go (feed written z.reader t) (next_sound z.reader t h.reader i)
  where
    go : (o : Option (ClauseNext EventForm StepForm RegionForm ClauseForm)) → IfSome o (NextKeeps z.reader t) → IfSome (after o (λ n. Some (next z.clauses n))) (Keeps z t)
    go None k = tt
    go (Some (Goes s)) k = record {
      good = record { clauses = h.clauses; reader = k.0 };
      has = longer (whole_tokens z.clauses) (clause_read s) (clause_read z.reader) t k.1;
      more = omega arith;
    }
    go (Some (Ends c)) k = record {
      good = record { clauses = all_more IsClause z.clauses c h.clauses k.0.0; reader = tt };
      has = pushed_read g.Semicolon clause_tokens z.clauses c (clause_read z.reader) k.0.1 ∙ ap (λ u. (whole_tokens z.clauses ++ clause_read z.reader) ++ u ∷ []) (sym k.1);
      more = one_more_clause z.clauses c;
    }

pub record FinalClauses (z : Reader) (cs : List ClauseForm) : Type 0 where
  pub first : ClauseForm
  pub others : List ClauseForm
  pub are : cs ≡ first ∷ others
  pub rules : AllByRecursion IsClause (first ∷ others)
  pub has : filter_tokens first others ≡ read z

pub finished : (z : Reader) → Good z → IfSome (finish written z) (FinalClauses z)
finished z h = go z.clauses h.clauses (finish_clause written z.reader) (clause_ended z.reader h.reader)
  where
    go : (cs : List ClauseForm) → AllByRecursion IsClause cs → (o : Option ClauseForm) → IfSome o (ClauseEnds z.reader) → IfSome (after o (λ c. Some (cs ++ c ∷ []))) (FinalClauses (record { clauses = cs; reader = z.reader }))
    go cs r None k = tt
    go [] r (Some c) k = record { first = c; others = []; are = refl; rules = (k.0, tt); has = k.1 }
    go (d ∷ ds) r (Some c) k = record {
      first = d;
      others = ds ++ c ∷ [];
      are = refl;
      rules = (r.0, all_more IsClause ds c r.1 k.0);
      has = last_read g.Semicolon clause_tokens (d ∷ ds) c ∙ ap (λ y. whole_tokens (d ∷ ds) ++ y) k.1;
    }
