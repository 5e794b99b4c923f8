-- Each region, each clause and each filter is read.
use Rattle.std.proofs.Common.{ℕ, ◌≡◌, true, false, if◌then◌else◌, List, [], ◌∷◌, ◌++◌, Option, Some, None, refl, sym, ap, ◌∙◌, append_assoc, append-nil}
use Rattle.std.specs.List.{AllByRecursion}
use Rattle.loom_command.specs.FilterForm.{TestForm, EventForm, StepForm, RegionForm, between, whole, ClauseForm, order, exclusive, unilateral, IsStep, IsRegion, IsClause}
use Rattle.loom_filter.specs.declared.scan.FilterSign.TheVariants as g
use Rattle.loom_filter.specs.Words.{is_name}
use Rattle.loom_filter.specs.Token.{FilterToken, name, word, sign, test, word_token, test_tokens, count_tokens, step_tokens, steps_tokens, separated, region_tokens, clause_tokens, filter_tokens, whole_tokens}
use Rattle.loom_filter.specs.Builders.{written, form_between, form_order, form_exclusive}
use Rattle.loom_filter.specs.Machine.{StepReader, File, Colon, Line, Untested, Tested, Count, CountEnd, Counted, RegionReader, Region, Call, Bare, Entries, Exits, Whole, Begin, Named, Order, Regions, Unilateral, Goes, Ends, finish_step, finish_region, finish_clause, is_in_count, is_in_braces, is_outside, feed, finish}
use Rattle.loom_filter.proofs.StepReading.{Reader, at, run, goes, passes_order, passes_entries, passes_exits, line_on, end_of, end_finished, init, last, init_last, joins_order, joins_entries, joins_exits, steps_on}

-- Regions

-- lists before the last, and the last, are the lists
form_is : (e : StepForm) (es : List StepForm) (x : StepForm) (xs : List StepForm) → form_between (init e es) (last e es) (init x xs) (last x xs) ≡ between e es x xs
form_is e [] x [] = refl
form_is e [] x (y ∷ ys) = ap (λ z. between e [] x z) (init_last y ys)
form_is e (d ∷ ds) x [] = ap (λ z. between e z x []) (init_last d ds)
form_is e (d ∷ ds) x (y ∷ ys) = ap (λ z. between e z x (init y ys ++ last y ys ∷ [])) (init_last d ds) ∙ ap (λ z. between e (d ∷ ds) x z) (init_last y ys)

-- a step that ends isn't within its count
out_of_count : (r : StepReader EventForm StepForm) (x : StepForm) → finish_step written r ≡ Some x → is_in_count r ≡ false
out_of_count File x h = refl
out_of_count (Colon f) x h = refl
out_of_count (Line f) x h = refl
out_of_count (Untested e) x h = refl
out_of_count (Tested e) x h = refl
out_of_count (Count e) x h = refl
out_of_count (CountEnd z) x h = cc
out_of_count (Counted z) x h = refl

entries_left : (rs : List RegionForm) (es : List StepForm) (r : StepReader EventForm StepForm) (e : StepForm) → finish_step written r ≡ Some e
    → feed written (Regions rs (Entries es r)) (sign g.Semicolon) ≡ Some (Goes (Regions rs (Exits es e [] File)))
entries_left rs es r e h = rw h refl

exits_left : (rs : List RegionForm) (es : List StepForm) (e : StepForm) (xs : List StepForm) (r : StepReader EventForm StepForm) (x : StepForm) → finish_step written r ≡ Some x
    → feed written (Regions rs (Exits es e xs r)) (sign g.BraceClose) ≡ Some (Goes (Regions rs (Whole (form_between es e xs x))))
exits_left rs es e xs r x h = rw (out_of_count r x h, h) refl

-- behind the `{` of a region
braces_on : (cs : List ClauseForm) (rs : List RegionForm) (e : StepForm) (es : List StepForm) (x : StepForm) (xs : List StepForm) (ts : List (FilterToken TestForm)) → IsRegion (between e es x xs)
    → run cs (Regions rs (Entries [] File)) ((steps_tokens e es ++ (sign g.Semicolon ∷ steps_tokens x xs ++ (sign g.BraceClose ∷ []))) ++ ts) ≡ run cs (Regions rs (Whole (between e es x xs))) ts
braces_on cs rs e es x xs ts h =
    let exits = sign g.Semicolon ∷ steps_tokens x xs ++ (sign g.BraceClose ∷ []) in
    let begun = init e es in
    let entry = last e es in
    let left = init x xs in
    let exit = last x xs in
    ap (run cs (Regions rs (Entries [] File))) (append_assoc (steps_tokens e es) exits ts)
    ∙ steps_on (λ ds r. Regions rs (Entries ds r)) g.Comma (passes_entries rs) (joins_entries rs) cs [] e es (exits ++ ts) h.0
    ∙ goes cs (Regions rs (Entries begun (end_of entry))) (Regions rs (Exits begun entry [] File)) (sign g.Semicolon) ((steps_tokens x xs ++ (sign g.BraceClose ∷ [])) ++ ts) (entries_left rs begun (end_of entry) entry (end_finished entry))
    ∙ ap (run cs (Regions rs (Exits begun entry [] File))) (append_assoc (steps_tokens x xs) (sign g.BraceClose ∷ []) ts)
    ∙ steps_on (λ ds r. Regions rs (Exits begun entry ds r)) g.Comma (passes_exits rs begun entry) (joins_exits rs begun entry) cs [] x xs (sign g.BraceClose ∷ ts) h.1
    ∙ goes cs (Regions rs (Exits begun entry left (end_of exit))) (Regions rs (Whole (form_between begun entry left exit))) (sign g.BraceClose) ts (exits_left rs begun entry left (end_of exit) exit (end_finished exit))
    ∙ ap (λ z. run cs (Regions rs (Whole z)) ts) (form_is e es x xs)

-- where the reader stands behind a region
abbrev pub region_end : RegionForm → RegionReader EventForm StepForm RegionForm
region_end (between e es x xs) = Whole (between e es x xs)
region_end (whole f None) = Bare f
region_end (whole f (Some x)) = Whole (whole f (Some x))

pub region_finished : (r : RegionForm) → finish_region written (region_end r) ≡ Some r
region_finished (between e es x xs) = refl
region_finished (whole f None) = refl
region_finished (whole f (Some x)) = refl

call_on : (cs : List ClauseForm) (rs : List RegionForm) (f : List ℕ) (o : Option TestForm) (ts : List (FilterToken TestForm))
    → run cs (Regions rs (Bare f)) (test_tokens o ++ ts) ≡ run cs (Regions rs (region_end (whole f o))) ts
call_on cs rs f None ts = refl
call_on cs rs f (Some x) ts = goes cs (Regions rs (Bare f)) (Regions rs (Whole (whole f (Some x)))) (test x) ts refl

-- behind `<>`
pub region_on : (cs : List ClauseForm) (rs : List RegionForm) (r : RegionForm) (ts : List (FilterToken TestForm)) → IsRegion r → run cs (Regions rs Region) (region_tokens r ++ ts) ≡ run cs (Regions rs (region_end r)) ts
region_on cs rs (between e es x xs) ts h =
    goes cs (Regions rs Region) (Regions rs (Entries [] File)) (sign g.BraceOpen) ((steps_tokens e es ++ (sign g.Semicolon ∷ steps_tokens x xs ++ (sign g.BraceClose ∷ []))) ++ ts) refl ∙ braces_on cs rs e es x xs ts h
region_on cs rs (whole f o) ts h =
    goes cs (Regions rs Region) (Regions rs (Call f)) (name f) (sign g.Call ∷ (test_tokens o ++ ts)) refl
    ∙ goes cs (Regions rs (Call f)) (Regions rs (Bare f)) (sign g.Call) (test_tokens o ++ ts) refl ∙ call_on cs rs f o ts

-- at the beginning of a clause
pub first_region_on : (cs : List ClauseForm) (r : RegionForm) (ts : List (FilterToken TestForm)) → IsRegion r → run cs Begin (region_tokens r ++ ts) ≡ run cs (Regions [] (region_end r)) ts
first_region_on cs (between e es x xs) ts h =
    goes cs Begin (Regions [] (Entries [] File)) (sign g.BraceOpen) ((steps_tokens e es ++ (sign g.Semicolon ∷ steps_tokens x xs ++ (sign g.BraceClose ∷ []))) ++ ts) refl ∙ braces_on cs [] e es x xs ts h
first_region_on cs (whole f o) ts h =
    goes cs Begin (Named f) (name f) (sign g.Call ∷ (test_tokens o ++ ts)) refl
    ∙ goes cs (Named f) (Regions [] (Bare f)) (sign g.Call) (test_tokens o ++ ts) refl ∙ call_on cs [] f o ts

apart_taken : (rs : List RegionForm) (r : RegionReader EventForm StepForm RegionForm) (x : RegionForm) → finish_region written r ≡ Some x
    → feed written (Regions rs r) (sign g.Apart) ≡ Some (Goes (Regions (rs ++ x ∷ []) Region))
apart_taken rs r x h = rw h refl

-- `<>` and the regions behind it
regions_on : (cs : List ClauseForm) (done : List RegionForm) (x : RegionForm) (xs : List RegionForm) (ts : List (FilterToken TestForm)) → AllByRecursion IsRegion (x ∷ xs)
    → run cs (Regions done Region) (separated g.Apart region_tokens x xs ++ ts) ≡ run cs (Regions (done ++ init x xs) (region_end (last x xs))) ts
regions_on cs done x [] ts h = region_on cs done x ts h.0 ∙ ap (λ z. run cs (Regions z (region_end x)) ts) (sym (append-nil done))
regions_on cs done x (y ∷ ys) ts h =
    let others = separated g.Apart region_tokens y ys in
    ap (run cs (Regions done Region)) (append_assoc (region_tokens x) (sign g.Apart ∷ others) ts)
    ∙ region_on cs done x (sign g.Apart ∷ (others ++ ts)) h.0
    ∙ goes cs (Regions done (region_end x)) (Regions (done ++ x ∷ []) Region) (sign g.Apart) (others ++ ts) (apart_taken done (region_end x) x (region_finished x))
    ∙ regions_on cs (done ++ x ∷ []) y ys ts h.1
    ∙ ap (λ z. run cs (Regions z (region_end (last y ys))) ts) (append_assoc done (x ∷ []) (init y ys))

-- Clauses

-- the first step of an order
first_file : (cs : List ClauseForm) (f : List ℕ) (ts : List (FilterToken TestForm)) → run cs Begin (word_token f ∷ sign g.Colon ∷ ts) ≡ run cs (Order [] (Line f)) ts
first_file cs f ts = elim (is_name f) as (λ b. run cs Begin ((if b then name f else word f) ∷ sign g.Colon ∷ ts) ≡ run cs (Order [] (Line f)) ts) [ true ↦ refl | false ↦ refl ]

-- where the reader stands behind a clause
abbrev pub clause_end : ClauseForm → Reader
clause_end (order a b ss) = Order (a ∷ init b ss) (end_of (last b ss))
clause_end (exclusive r rs) = Regions (init r rs) (region_end (last r rs))
clause_end (unilateral r) = Unilateral r

order_is : (a b : StepForm) (ss : List StepForm) → form_order a (init b ss) (last b ss) ≡ order a b ss
order_is a b [] = refl
order_is a b (t ∷ ts) = ap (λ z. order a b z) (init_last t ts)

exclusive_is : (r : RegionForm) (rs : List RegionForm) → form_exclusive (init r rs) (last r rs) ≡ exclusive r rs
exclusive_is r [] = refl
exclusive_is r (q ∷ qs) = ap (λ z. exclusive r z) (init_last q qs)

pub clause_finished : (c : ClauseForm) → finish_clause written (clause_end c) ≡ Some c
clause_finished (order a b ss) = rw (end_finished (last b ss)) (ap Some (order_is a b ss))
clause_finished (exclusive r rs) = rw (region_finished (last r rs)) (ap Some (exclusive_is r rs))
clause_finished (unilateral r) = refl

first_step_on : (cs : List ClauseForm) (a : StepForm) (ts : List (FilterToken TestForm)) → IsStep a → run cs Begin (step_tokens a ++ ts) ≡ run cs (Order [] (end_of a)) ts
first_step_on cs a ts h =
    let e = a.event in
    first_file cs e.file (word e.line ∷ ((test_tokens e.test ++ count_tokens a.count) ++ ts)) ∙ line_on (λ r. Order [] r) (passes_order []) cs e.file e.line e.test a.count ts h.event.line h.count

pub clause_on : (cs : List ClauseForm) (c : ClauseForm) (ts : List (FilterToken TestForm)) → IsClause c → run cs Begin (clause_tokens c ++ ts) ≡ run cs (clause_end c) ts
clause_on cs (order a b ss) ts h =
    let others = separated g.Before step_tokens b ss in
    ap (run cs Begin) (append_assoc (step_tokens a) (sign g.Before ∷ others) ts)
    ∙ first_step_on cs a (sign g.Before ∷ (others ++ ts)) h.0
    ∙ goes cs (Order [] (end_of a)) (Order (a ∷ []) File) (sign g.Before) (others ++ ts) (joins_order [] (end_of a) a (end_finished a))
    ∙ steps_on (λ ss r. Order ss r) g.Before passes_order joins_order cs (a ∷ []) b ss ts (h.1, h.2)
clause_on cs (exclusive r []) ts h = first_region_on cs r ts h.0
clause_on cs (exclusive r (q ∷ qs)) ts h =
    let others = separated g.Apart region_tokens q qs in
    ap (run cs Begin) (append_assoc (region_tokens r) (sign g.Apart ∷ others) ts)
    ∙ first_region_on cs r (sign g.Apart ∷ (others ++ ts)) h.0
    ∙ goes cs (Regions [] (region_end r)) (Regions (r ∷ []) Region) (sign g.Apart) (others ++ ts) (apart_taken [] (region_end r) r (region_finished r))
    ∙ regions_on cs (r ∷ []) q qs ts h.1
clause_on cs (unilateral r) ts h =
    ap (run cs Begin) (append_assoc (region_tokens r) (sign g.Apart ∷ sign g.All ∷ []) ts)
    ∙ first_region_on cs r (sign g.Apart ∷ sign g.All ∷ ts) h
    ∙ goes cs (Regions [] (region_end r)) (Regions (r ∷ []) Region) (sign g.Apart) (sign g.All ∷ ts) (apart_taken [] (region_end r) r (region_finished r))
    ∙ goes cs (Regions (r ∷ []) Region) (Unilateral r) (sign g.All) ts refl

-- Filters

region_outside : (r : RegionForm) → is_in_braces (region_end r) ≡ false
region_outside (between e es x xs) = refl
region_outside (whole f None) = refl
region_outside (whole f (Some x)) = refl

clause_outside : (c : ClauseForm) → is_outside (clause_end c) ≡ true
clause_outside (order a b ss) = refl
clause_outside (exclusive r rs) = rw (region_outside (last r rs)) refl
clause_outside (unilateral r) = refl

outside : (c : ClauseForm) → feed written (clause_end c) (sign g.Semicolon) ≡ Some (Ends c)
outside c = rw (clause_outside c, clause_finished c) refl

ends_on : (cs : List ClauseForm) (c : ClauseForm) (ts : List (FilterToken TestForm)) → run cs (clause_end c) (sign g.Semicolon ∷ ts) ≡ run (cs ++ c ∷ []) Begin ts
ends_on cs c ts = rw (outside c) refl

-- clauses, each with its `;`
pub whole_on : (cs ds : List ClauseForm) (ts : List (FilterToken TestForm)) → AllByRecursion IsClause ds → run cs Begin (whole_tokens ds ++ ts) ≡ run (cs ++ ds) Begin ts
whole_on cs [] ts h = ap (λ z. run z Begin ts) (sym (append-nil cs))
whole_on cs (d ∷ ds) ts h =
    ap (run cs Begin) (append_assoc (clause_tokens d) (sign g.Semicolon ∷ whole_tokens ds) ts)
    ∙ clause_on cs d (sign g.Semicolon ∷ (whole_tokens ds ++ ts)) h.0
    ∙ ends_on cs d (whole_tokens ds ++ ts)
    ∙ whole_on (cs ++ d ∷ []) ds ts h.1
    ∙ ap (λ z. run z Begin ts) (append_assoc cs (d ∷ []) ds)

-- a whole filter, of which the last clause is at its end
pub filter_on : (cs : List ClauseForm) (c : ClauseForm) (ds : List ClauseForm) → AllByRecursion IsClause (c ∷ ds) → run cs Begin (filter_tokens c ds) ≡ Some (at (cs ++ init c ds) (clause_end (last c ds)))
filter_on cs c [] h = ap (run cs Begin) (sym (append-nil (clause_tokens c))) ∙ clause_on cs c [] h.0 ∙ ap (λ z. Some (at z (clause_end c))) (sym (append-nil cs))
filter_on cs c (d ∷ ds) h =
    clause_on cs c (sign g.Semicolon ∷ filter_tokens d ds) h.0 ∙ ends_on cs c (filter_tokens d ds) ∙ filter_on (cs ++ c ∷ []) d ds h.1
    ∙ ap (λ z. Some (at z (clause_end (last d ds)))) (append_assoc cs (c ∷ []) (init d ds))

pub filter_finished : (c : ClauseForm) (ds : List ClauseForm) → finish written (at (init c ds) (clause_end (last c ds))) ≡ Some (c ∷ ds)
filter_finished c ds = rw (clause_finished (last c ds)) (ap Some (init_last c ds))
