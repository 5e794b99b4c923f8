-- Each form is read, with whatever is behind it.
use Rattle.std.proofs.Common.{ℕ, ◌≡◌, true, false, if◌then◌else◌, List, [], ◌∷◌, ◌++◌, Option, Some, None, refl, sym, ap, ◌∙◌, append_assoc, append-nil}
use Rattle.std.specs.List.{AllByRecursion}
use Rattle.loom_command.specs.FilterForm.{TestForm, EventForm, StepForm, RegionForm, ClauseForm, IsNumber, IsCountIf, IsStep}
use Rattle.loom_filter.specs.declared.scan.FilterSign.{FilterSign}
use Rattle.loom_filter.specs.declared.scan.FilterSign.TheVariants as g
use Rattle.loom_filter.specs.Words.{is_name}
use Rattle.loom_filter.specs.Token.{FilterToken, name, word, sign, test, word_token, test_tokens, count_tokens, step_tokens, separated}
use Rattle.loom_filter.specs.Builders.{written}
use Rattle.loom_filter.specs.Machine.{StepReader, File, Colon, Line, Untested, Tested, Count, CountEnd, Counted, Entries, Exits, ClauseReader, Order, Regions, Goes, FilterReader, feed_step, finish_step, is_in_count, feed, feed_all}
use Rattle.loom_filter.proofs.Words.{number_read}

abbrev pub Reader : Type 0
Reader = ClauseReader EventForm StepForm RegionForm

-- the clauses so far, and this one
abbrev pub at : List ClauseForm → Reader → FilterReader EventForm StepForm RegionForm ClauseForm
at cs r = record { clauses = cs; reader = r }

abbrev pub run : List ClauseForm → Reader → List (FilterToken TestForm) → Option (FilterReader EventForm StepForm RegionForm ClauseForm)
run cs r ts = feed_all written (at cs r) ts

-- a token that the clause takes
pub goes : (cs : List ClauseForm) (r s : Reader) (t : FilterToken TestForm) (ts : List (FilterToken TestForm)) → feed written r t ≡ Some (Goes s) → run cs r (t ∷ ts) ≡ run cs s ts
goes cs r s t ts h = rw h refl

-- What a step takes, the clause in which it stands takes for it.

abbrev pub Context : Type 0
Context = StepReader EventForm StepForm → Reader

abbrev pub Passes : Context → Type 0
Passes k = (r s : StepReader EventForm StepForm) (t : FilterToken TestForm) → feed_step written r t ≡ Some s → feed written (k r) t ≡ Some (Goes (k s))

-- no step takes these

no_comma : (r : StepReader EventForm StepForm) → feed_step written r (sign g.Comma) ≡ None
no_comma File = refl
no_comma (Colon f) = refl
no_comma (Line f) = refl
no_comma (Untested e) = refl
no_comma (Tested e) = refl
no_comma (Count e) = refl
no_comma (CountEnd z) = refl
no_comma (Counted z) = refl

no_semicolon : (r : StepReader EventForm StepForm) → feed_step written r (sign g.Semicolon) ≡ None
no_semicolon File = refl
no_semicolon (Colon f) = refl
no_semicolon (Line f) = refl
no_semicolon (Untested e) = refl
no_semicolon (Tested e) = refl
no_semicolon (Count e) = refl
no_semicolon (CountEnd z) = refl
no_semicolon (Counted z) = refl

no_before : (r : StepReader EventForm StepForm) → feed_step written r (sign g.Before) ≡ None
no_before File = refl
no_before (Colon f) = refl
no_before (Line f) = refl
no_before (Untested e) = refl
no_before (Tested e) = refl
no_before (Count e) = refl
no_before (CountEnd z) = refl
no_before (Counted z) = refl

no_apart : (r : StepReader EventForm StepForm) → feed_step written r (sign g.Apart) ≡ None
no_apart File = refl
no_apart (Colon f) = refl
no_apart (Line f) = refl
no_apart (Untested e) = refl
no_apart (Tested e) = refl
no_apart (Count e) = refl
no_apart (CountEnd z) = refl
no_apart (Counted z) = refl

no_all : (r : StepReader EventForm StepForm) → feed_step written r (sign g.All) ≡ None
no_all File = refl
no_all (Colon f) = refl
no_all (Line f) = refl
no_all (Untested e) = refl
no_all (Tested e) = refl
no_all (Count e) = refl
no_all (CountEnd z) = refl
no_all (Counted z) = refl

-- a `}` that a step takes is that of its count
closes : (r s : StepReader EventForm StepForm) → feed_step written r (sign g.BraceClose) ≡ Some s → is_in_count r ≡ true
closes File s h = cc
closes (Colon f) s h = cc
closes (Line f) s h = cc
closes (Untested e) s h = cc
closes (Tested e) s h = cc
closes (Count e) s h = cc
closes (CountEnd z) s h = refl
closes (Counted z) s h = cc

pub passes_order : (ss : List StepForm) → Passes (λ r. Order ss r)
passes_order ss r s (name w) h = rw h refl
passes_order ss r s (word w) h = rw h refl
passes_order ss r s (sign g.Colon) h = rw h refl
passes_order ss r s (sign g.Comma) h = rw h refl
passes_order ss r s (sign g.Semicolon) h = let n = no_semicolon r in cc
passes_order ss r s (sign g.Before) h = let n = no_before r in cc
passes_order ss r s (sign g.Apart) h = rw h refl
passes_order ss r s (sign g.All) h = rw h refl
passes_order ss r s (sign g.BraceOpen) h = rw h refl
passes_order ss r s (sign g.BraceClose) h = rw h refl
passes_order ss r s (sign g.Call) h = rw h refl
passes_order ss r s (test x) h = rw h refl

pub passes_entries : (rs : List RegionForm) (es : List StepForm) → Passes (λ r. Regions rs (Entries es r))
passes_entries rs es r s (name w) h = rw h refl
passes_entries rs es r s (word w) h = rw h refl
passes_entries rs es r s (sign g.Colon) h = rw h refl
passes_entries rs es r s (sign g.Comma) h = let n = no_comma r in cc
passes_entries rs es r s (sign g.Semicolon) h = let n = no_semicolon r in cc
passes_entries rs es r s (sign g.Before) h = rw h refl
passes_entries rs es r s (sign g.Apart) h = let n = no_apart r in cc
passes_entries rs es r s (sign g.All) h = let n = no_all r in cc
passes_entries rs es r s (sign g.BraceOpen) h = rw h refl
passes_entries rs es r s (sign g.BraceClose) h = rw h refl
passes_entries rs es r s (sign g.Call) h = rw h refl
passes_entries rs es r s (test x) h = rw h refl

pub passes_exits : (rs : List RegionForm) (es : List StepForm) (e : StepForm) (xs : List StepForm) → Passes (λ r. Regions rs (Exits es e xs r))
passes_exits rs es e xs r s (name w) h = rw h refl
passes_exits rs es e xs r s (word w) h = rw h refl
passes_exits rs es e xs r s (sign g.Colon) h = rw h refl
passes_exits rs es e xs r s (sign g.Comma) h = let n = no_comma r in cc
passes_exits rs es e xs r s (sign g.Semicolon) h = rw h refl
passes_exits rs es e xs r s (sign g.Before) h = rw h refl
passes_exits rs es e xs r s (sign g.Apart) h = let n = no_apart r in cc
passes_exits rs es e xs r s (sign g.All) h = let n = no_all r in cc
passes_exits rs es e xs r s (sign g.BraceOpen) h = rw h refl
passes_exits rs es e xs r s (sign g.BraceClose) h = rw (closes r s h, h) refl
passes_exits rs es e xs r s (sign g.Call) h = rw h refl
passes_exits rs es e xs r s (test x) h = rw h refl

-- Steps

one_on : (k : Context) → Passes k → (cs : List ClauseForm) (r s : StepReader EventForm StepForm) (t : FilterToken TestForm) (ts : List (FilterToken TestForm)) → feed_step written r t ≡ Some s
    → run cs (k r) (t ∷ ts) ≡ run cs (k s) ts
one_on k p cs r s t ts h = goes cs (k r) (k s) t ts (p r s t h)

pub file_taken : (f : List ℕ) → feed_step written File (word_token f) ≡ Some (Colon f)
file_taken f = elim (is_name f) as (λ b. feed_step written File (if b then name f else word f) ≡ Some (Colon f)) [ true ↦ refl | false ↦ refl ]

line_taken : (f l : List ℕ) → IsNumber l → feed_step written (Line f) (word l) ≡ Some (Untested (record { file = f; line = l; test = None }))
line_taken f l h = rw (number_read l h) refl

count_taken : (e : EventForm) (d : List ℕ) → IsNumber d → feed_step written (Count e) (word d) ≡ Some (CountEnd (record { event = e; count = Some d }))
count_taken e d h = rw (number_read d h) refl

-- where the reader stands behind a step
abbrev pub event_end : List ℕ → List ℕ → Option TestForm → StepReader EventForm StepForm
event_end f l None = Untested (record { file = f; line = l; test = None })
event_end f l (Some x) = Tested (record { file = f; line = l; test = Some x })

abbrev pub step_end : List ℕ → List ℕ → Option TestForm → Option (List ℕ) → StepReader EventForm StepForm
step_end f l o None = event_end f l o
step_end f l o (Some d) = Counted (record { event = record { file = f; line = l; test = o }; count = Some d })

pub step_finished : (f l : List ℕ) (o : Option TestForm) (c : Option (List ℕ)) → finish_step written (step_end f l o c) ≡ Some (record { event = record { file = f; line = l; test = o }; count = c })
step_finished f l None None = refl
step_finished f l (Some x) None = refl
step_finished f l o (Some d) = refl

open_taken : (f l : List ℕ) (o : Option TestForm) → feed_step written (event_end f l o) (sign g.BraceOpen) ≡ Some (Count (record { file = f; line = l; test = o }))
open_taken f l None = refl
open_taken f l (Some x) = refl

-- behind the line of an event
test_on : (k : Context) → Passes k → (cs : List ClauseForm) (f l : List ℕ) (o : Option TestForm) (ts : List (FilterToken TestForm))
    → run cs (k (event_end f l None)) (test_tokens o ++ ts) ≡ run cs (k (event_end f l o)) ts
test_on k p cs f l None ts = refl
test_on k p cs f l (Some x) ts = one_on k p cs (event_end f l None) (event_end f l (Some x)) (test x) ts refl

count_on : (k : Context) → Passes k → (cs : List ClauseForm) (f l : List ℕ) (o : Option TestForm) (c : Option (List ℕ)) (ts : List (FilterToken TestForm)) → IsCountIf c
    → run cs (k (event_end f l o)) (count_tokens c ++ ts) ≡ run cs (k (step_end f l o c)) ts
count_on k p cs f l o None ts h = refl
count_on k p cs f l o (Some d) ts h =
    let e : EventForm = record { file = f; line = l; test = o } in
    let x : StepForm = record { event = e; count = Some d } in
    one_on k p cs (event_end f l o) (Count e) (sign g.BraceOpen) (word d ∷ sign g.BraceClose ∷ ts) (open_taken f l o)
    ∙ one_on k p cs (Count e) (CountEnd x) (word d) (sign g.BraceClose ∷ ts) (count_taken e d h)
    ∙ one_on k p cs (CountEnd x) (Counted x) (sign g.BraceClose) ts refl

-- from the number of the line on
pub line_on : (k : Context) → Passes k → (cs : List ClauseForm) (f l : List ℕ) (o : Option TestForm) (c : Option (List ℕ)) (ts : List (FilterToken TestForm)) → IsNumber l → IsCountIf c
    → run cs (k (Line f)) (word l ∷ ((test_tokens o ++ count_tokens c) ++ ts)) ≡ run cs (k (step_end f l o c)) ts
line_on k p cs f l o c ts h i =
    one_on k p cs (Line f) (event_end f l None) (word l) ((test_tokens o ++ count_tokens c) ++ ts) (line_taken f l h)
    ∙ ap (run cs (k (event_end f l None))) (append_assoc (test_tokens o) (count_tokens c) ts)
    ∙ test_on k p cs f l o (count_tokens c ++ ts) ∙ count_on k p cs f l o c ts i

-- where the reader stands behind this step
abbrev pub end_of : StepForm → StepReader EventForm StepForm
end_of x = step_end x.event.file x.event.line x.event.test x.count

pub end_finished : (x : StepForm) → finish_step written (end_of x) ≡ Some x
end_finished x = step_finished x.event.file x.event.line x.event.test x.count

pub step_on : (k : Context) → Passes k → (cs : List ClauseForm) (x : StepForm) (ts : List (FilterToken TestForm)) → IsStep x → run cs (k File) (step_tokens x ++ ts) ≡ run cs (k (end_of x)) ts
step_on k p cs x ts h =
    let e = x.event in
    let behind = (test_tokens e.test ++ count_tokens x.count) ++ ts in
    one_on k p cs File (Colon e.file) (word_token e.file) (sign g.Colon ∷ word e.line ∷ behind) (file_taken e.file)
    ∙ one_on k p cs (Colon e.file) (Line e.file) (sign g.Colon) (word e.line ∷ behind) refl
    ∙ line_on k p cs e.file e.line e.test x.count ts h.event.line h.count

-- Lists of steps with a sign between them: what stands before the last, and the last

abbrev pub init : {A : Type 0} → A → List A → List A
init x [] = []
init x (y ∷ ys) = x ∷ init y ys

abbrev pub last : {A : Type 0} → A → List A → A
last x [] = x
last x (y ∷ ys) = last y ys

pub init_last : {A : Type 0} (x : A) (xs : List A) → init x xs ++ last x xs ∷ [] ≡ x ∷ xs
init_last x [] = refl
init_last x (y ∷ ys) = ap (λ z. x ∷ z) (init_last y ys)

-- behind these steps a step ends at the sign, and the next one may begin
abbrev pub Joins : (List StepForm → Context) → FilterSign → Type 0
Joins k s = (done : List StepForm) (r : StepReader EventForm StepForm) (x : StepForm) → finish_step written r ≡ Some x → feed written (k done r) (sign s) ≡ Some (Goes (k (done ++ x ∷ []) File))

pub joins_order : Joins (λ ss r. Order ss r) g.Before
joins_order done r x h = rw h refl

pub joins_entries : (rs : List RegionForm) → Joins (λ es r. Regions rs (Entries es r)) g.Comma
joins_entries rs done r x h = rw h refl

pub joins_exits : (rs : List RegionForm) (es : List StepForm) (e : StepForm) → Joins (λ xs r. Regions rs (Exits es e xs r)) g.Comma
joins_exits rs es e done r x h = rw h refl

pub steps_on : (k : List StepForm → Context) (s : FilterSign) → ((done : List StepForm) → Passes (k done)) → Joins k s → (cs : List ClauseForm) (done : List StepForm) (x : StepForm) (xs : List StepForm)
    (ts : List (FilterToken TestForm)) → AllByRecursion IsStep (x ∷ xs)
    → run cs (k done File) (separated s step_tokens x xs ++ ts) ≡ run cs (k (done ++ init x xs) (end_of (last x xs))) ts
steps_on k s p j cs done x [] ts h = step_on (k done) (p done) cs x ts h.0 ∙ ap (λ z. run cs (k z (end_of x)) ts) (sym (append-nil done))
steps_on k s p j cs done x (y ∷ ys) ts h =
    let others = separated s step_tokens y ys in
    ap (run cs (k done File)) (append_assoc (step_tokens x) (sign s ∷ others) ts)
    ∙ step_on (k done) (p done) cs x (sign s ∷ (others ++ ts)) h.0
    ∙ goes cs (k done (end_of x)) (k (done ++ x ∷ []) File) (sign s) (others ++ ts) (j done (end_of x) x (end_finished x))
    ∙ steps_on k s p j cs (done ++ x ∷ []) y ys ts h.1
    ∙ ap (λ z. run cs (k z (end_of (last y ys))) ts) (append_assoc done (x ∷ []) (init y ys))
