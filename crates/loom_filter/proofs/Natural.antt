-- The reader over trees does what the reader over forms does.
use Rattle.std.proofs.Common.{ℕ, ◌≡◌, Bool, true, false, ◌&&◌, if◌then◌else◌, List, [], ◌∷◌, ◌++◌, Option, Some, None, refl, sym, ap, ◌∙◌}
use Rattle.std.proofs.lemmas.List.{map-append}
use Rattle.loom_expression.specs.Reader.{after}
use Rattle.loom_command.specs.Filter as tree
use Rattle.loom_command.specs.FilterForm.{TestForm, EventForm, StepForm, RegionForm, ClauseForm, event_tree}
use Rattle.loom_filter.specs.declared.scan.FilterSign.{FilterSign}
use Rattle.loom_filter.specs.declared.scan.FilterSign.TheVariants as g
use Rattle.loom_filter.specs.Words.{number_by}
use Rattle.loom_filter.specs.Token.{FilterToken, name, word, sign, test}
use Rattle.loom_filter.specs.ReaderView.{plain_token}
use Rattle.loom_filter.specs.Builders.{CountedEvent, CountedRegion, CountedClause, counted_step, counted_steps, counted_region, counted_regions, counted_clause, counted_clauses, plain, plain_between, plain_exclusive, written, form_between, form_exclusive}
use Rattle.loom_filter.specs.Machine.{StepReader, File, Colon, Line, Untested, Tested, Count, CountEnd, Counted, RegionReader, Region, Call, Bare, Entries, Exits, Whole, ClauseReader, Begin, Named, Order, Regions, Unilateral, ClauseNext, Goes, Ends, FilterReader, line_of, step_with_count, event_sign, colon_sign, count_end, feed_step, finish_step, is_in_count, region_sign, call_sign, entries_by, exit_by, entries_sign, exits_close, exits_sign, feed_region, finish_region, is_in_braces, begin_sign, named_sign, order_by, order_sign, all_sign, regions_by, regions_sign, step_clause, order_end, finish_clause, is_outside, is_semicolon, feed, next, feed_filter, finish}
use Rattle.loom_filter.proofs.Words.{number_value}
use Rattle.loom_filter.proofs.TreeParts.{between_is, order_is, exclusive_is}

abbrev pub map_if : {A B : Type 0} → (A → B) → Option A → Option B
map_if f None = None
map_if f (Some x) = Some (f x)

-- Steps

abbrev pub step_map : StepReader EventForm StepForm → StepReader tree.LineEvent CountedEvent
step_map File = File
step_map (Colon f) = Colon f
step_map (Line f) = Line f
step_map (Untested e) = Untested (event_tree e)
step_map (Tested e) = Tested (event_tree e)
step_map (Count e) = Count (event_tree e)
step_map (CountEnd s) = CountEnd (counted_step s)
step_map (Counted s) = Counted (counted_step s)

colon_state : (f : List ℕ) (s : FilterSign) → colon_sign f s ≡ map_if step_map (colon_sign f s)
colon_state f g.Colon = refl
colon_state f g.Comma = refl
colon_state f g.Semicolon = refl
colon_state f g.Before = refl
colon_state f g.Apart = refl
colon_state f g.All = refl
colon_state f g.BraceOpen = refl
colon_state f g.BraceClose = refl
colon_state f g.Call = refl

event_state : (e : EventForm) (s : FilterSign) → event_sign (event_tree e) s ≡ map_if step_map (event_sign e s)
event_state e g.Colon = refl
event_state e g.Comma = refl
event_state e g.Semicolon = refl
event_state e g.Before = refl
event_state e g.Apart = refl
event_state e g.All = refl
event_state e g.BraceOpen = refl
event_state e g.BraceClose = refl
event_state e g.Call = refl

end_state : (x : StepForm) (s : FilterSign) → count_end (counted_step x) s ≡ map_if step_map (count_end x s)
end_state x g.Colon = refl
end_state x g.Comma = refl
end_state x g.Semicolon = refl
end_state x g.Before = refl
end_state x g.Apart = refl
end_state x g.All = refl
end_state x g.BraceOpen = refl
end_state x g.BraceClose = refl
end_state x g.Call = refl

line_state : (f w : List ℕ) (o : Option ℕ) → number_by w ≡ o → line_of plain f w o ≡ map_if step_map (line_of written f w o)
line_state f w None h = refl
line_state f w (Some n) h = rw (number_value w n h) refl

count_state : (e : EventForm) (w : List ℕ) (o : Option ℕ) → number_by w ≡ o → step_with_count plain (event_tree e) w o ≡ map_if step_map (step_with_count written e w o)
count_state e w None h = refl
count_state e w (Some n) h = rw (number_value w n h) refl

pub step_state : (r : StepReader EventForm StepForm) (t : FilterToken TestForm) → feed_step plain (step_map r) (plain_token t) ≡ map_if step_map (feed_step written r t)
step_state File (name w) = refl
step_state File (word w) = refl
step_state File (sign s) = refl
step_state File (test x) = refl
step_state (Colon f) (name w) = refl
step_state (Colon f) (word w) = refl
step_state (Colon f) (sign s) = colon_state f s
step_state (Colon f) (test x) = refl
step_state (Line f) (name w) = refl
step_state (Line f) (word w) = line_state f w (number_by w) refl
step_state (Line f) (sign s) = refl
step_state (Line f) (test x) = refl
step_state (Untested e) (name w) = refl
step_state (Untested e) (word w) = refl
step_state (Untested e) (sign s) = event_state e s
step_state (Untested e) (test x) = refl
step_state (Tested e) (name w) = refl
step_state (Tested e) (word w) = refl
step_state (Tested e) (sign s) = event_state e s
step_state (Tested e) (test x) = refl
step_state (Count e) (name w) = refl
step_state (Count e) (word w) = count_state e w (number_by w) refl
step_state (Count e) (sign s) = refl
step_state (Count e) (test x) = refl
step_state (CountEnd z) (name w) = refl
step_state (CountEnd z) (word w) = refl
step_state (CountEnd z) (sign s) = end_state z s
step_state (CountEnd z) (test x) = refl
step_state (Counted z) (name w) = refl
step_state (Counted z) (word w) = refl
step_state (Counted z) (sign s) = refl
step_state (Counted z) (test x) = refl

pub finish_step_state : (r : StepReader EventForm StepForm) → finish_step plain (step_map r) ≡ map_if counted_step (finish_step written r)
finish_step_state File = refl
finish_step_state (Colon f) = refl
finish_step_state (Line f) = refl
finish_step_state (Untested e) = refl
finish_step_state (Tested e) = refl
finish_step_state (Count e) = refl
finish_step_state (CountEnd z) = refl
finish_step_state (Counted z) = refl

in_count_state : (r : StepReader EventForm StepForm) → is_in_count (step_map r) ≡ is_in_count r
in_count_state File = refl
in_count_state (Colon f) = refl
in_count_state (Line f) = refl
in_count_state (Untested e) = refl
in_count_state (Tested e) = refl
in_count_state (Count e) = refl
in_count_state (CountEnd z) = refl
in_count_state (Counted z) = refl

-- one more step behind others
pushed : (xs : List StepForm) (x : StepForm) → counted_steps xs ++ counted_step x ∷ [] ≡ counted_steps (xs ++ x ∷ [])
pushed xs x = sym (map-append counted_step xs (x ∷ []))

-- Regions

abbrev pub region_map : RegionReader EventForm StepForm RegionForm → RegionReader tree.LineEvent CountedEvent CountedRegion
region_map Region = Region
region_map (Call f) = Call f
region_map (Bare f) = Bare f
region_map (Entries es r) = Entries (counted_steps es) (step_map r)
region_map (Exits es e xs r) = Exits (counted_steps es) (counted_step e) (counted_steps xs) (step_map r)
region_map (Whole x) = Whole (counted_region x)

region_sign_state : (s : FilterSign) → region_sign s ≡ map_if region_map (region_sign s)
region_sign_state g.Colon = refl
region_sign_state g.Comma = refl
region_sign_state g.Semicolon = refl
region_sign_state g.Before = refl
region_sign_state g.Apart = refl
region_sign_state g.All = refl
region_sign_state g.BraceOpen = refl
region_sign_state g.BraceClose = refl
region_sign_state g.Call = refl

call_state : (f : List ℕ) (s : FilterSign) → call_sign f s ≡ map_if region_map (call_sign f s)
call_state f g.Colon = refl
call_state f g.Comma = refl
call_state f g.Semicolon = refl
call_state f g.Before = refl
call_state f g.Apart = refl
call_state f g.All = refl
call_state f g.BraceOpen = refl
call_state f g.BraceClose = refl
call_state f g.Call = refl

entry_state : (es : List StepForm) (o : Option (StepReader EventForm StepForm)) → entries_by (counted_steps es) (map_if step_map o) ≡ map_if region_map (entries_by es o)
entry_state es None = refl
entry_state es (Some r) = refl

exit_state : (es : List StepForm) (e : StepForm) (xs : List StepForm) (o : Option (StepReader EventForm StepForm))
    → exit_by (counted_steps es) (counted_step e) (counted_steps xs) (map_if step_map o) ≡ map_if region_map (exit_by es e xs o)
exit_state es e xs None = refl
exit_state es e xs (Some r) = refl

entry_goes : (es : List StepForm) (r : StepReader EventForm StepForm) (t : FilterToken TestForm)
    → entries_by (counted_steps es) (feed_step plain (step_map r) (plain_token t)) ≡ map_if region_map (entries_by es (feed_step written r t))
entry_goes es r t = ap (entries_by (counted_steps es)) (step_state r t) ∙ entry_state es (feed_step written r t)

exit_goes : (es : List StepForm) (e : StepForm) (xs : List StepForm) (r : StepReader EventForm StepForm) (t : FilterToken TestForm)
    → exit_by (counted_steps es) (counted_step e) (counted_steps xs) (feed_step plain (step_map r) (plain_token t)) ≡ map_if region_map (exit_by es e xs (feed_step written r t))
exit_goes es e xs r t = ap (exit_by (counted_steps es) (counted_step e) (counted_steps xs)) (step_state r t) ∙ exit_state es e xs (feed_step written r t)

-- a step ends among the entries, and its region goes on
entry_ends : (es : List StepForm) (r : StepReader EventForm StepForm) → entries_sign plain (counted_steps es) (step_map r) g.Comma ≡ map_if region_map (entries_sign written es r g.Comma)
entry_ends es r = rw (finish_step_state r) (go (finish_step written r))
  where
    go : (o : Option StepForm) → after (map_if counted_step o) (λ e. Some (Entries (counted_steps es ++ e ∷ []) File)) ≡ map_if region_map (after o (λ e. Some (Entries (es ++ e ∷ []) File)))
    go None = refl
    go (Some e) = ap (λ z. Some (Entries z File)) (pushed es e)

entries_end : (es : List StepForm) (r : StepReader EventForm StepForm) → entries_sign plain (counted_steps es) (step_map r) g.Semicolon ≡ map_if region_map (entries_sign written es r g.Semicolon)
entries_end es r = rw (finish_step_state r) (go (finish_step written r))
  where
    go : (o : Option StepForm) → after (map_if counted_step o) (λ e. Some (Exits (counted_steps es) e [] File)) ≡ map_if region_map (after o (λ e. Some (Exits es e [] File)))
    go None = refl
    go (Some e) = refl

entries_state : (es : List StepForm) (r : StepReader EventForm StepForm) (s : FilterSign) → entries_sign plain (counted_steps es) (step_map r) s ≡ map_if region_map (entries_sign written es r s)
entries_state es r g.Colon = entry_goes es r (sign g.Colon)
entries_state es r g.Comma = entry_ends es r
entries_state es r g.Semicolon = entries_end es r
entries_state es r g.Before = entry_goes es r (sign g.Before)
entries_state es r g.Apart = entry_goes es r (sign g.Apart)
entries_state es r g.All = entry_goes es r (sign g.All)
entries_state es r g.BraceOpen = entry_goes es r (sign g.BraceOpen)
entries_state es r g.BraceClose = entry_goes es r (sign g.BraceClose)
entries_state es r g.Call = entry_goes es r (sign g.Call)

exit_ends : (es : List StepForm) (e : StepForm) (xs : List StepForm) (r : StepReader EventForm StepForm)
    → exits_sign plain (counted_steps es) (counted_step e) (counted_steps xs) (step_map r) g.Comma ≡ map_if region_map (exits_sign written es e xs r g.Comma)
exit_ends es e xs r = rw (finish_step_state r) (go (finish_step written r))
  where
    go : (o : Option StepForm) → after (map_if counted_step o) (λ x. Some (Exits (counted_steps es) (counted_step e) (counted_steps xs ++ x ∷ []) File)) ≡ map_if region_map (after o (λ x. Some (Exits es e (xs ++ x ∷ []) File)))
    go None = refl
    go (Some x) = ap (λ z. Some (Exits (counted_steps es) (counted_step e) z File)) (pushed xs x)

exits_end : (es : List StepForm) (e : StepForm) (xs : List StepForm) (r : StepReader EventForm StepForm)
    → exits_close plain (counted_steps es) (counted_step e) (counted_steps xs) (step_map r) ≡ map_if region_map (exits_close written es e xs r)
exits_end es e xs r = rw (in_count_state r, finish_step_state r) (go (is_in_count r) (finish_step written r))
  where
    -- by cases on whether the `}` is that of a count, and on the step's end
    go : (b : Bool) (o : Option StepForm)
        → (if b then exit_by (counted_steps es) (counted_step e) (counted_steps xs) (feed_step plain (step_map r) (sign g.BraceClose)) else after (map_if counted_step o) (λ x. Some (Whole (plain_between (counted_steps es) (counted_step e) (counted_steps xs) x))))
        ≡ map_if region_map (if b then exit_by es e xs (feed_step written r (sign g.BraceClose)) else after o (λ x. Some (Whole (form_between es e xs x))))
    go true o = exit_goes es e xs r (sign g.BraceClose)
    go false None = refl
    go false (Some x) = ap (λ z. Some (Whole z)) (between_is es e xs x)

exits_state : (es : List StepForm) (e : StepForm) (xs : List StepForm) (r : StepReader EventForm StepForm) (s : FilterSign)
    → exits_sign plain (counted_steps es) (counted_step e) (counted_steps xs) (step_map r) s ≡ map_if region_map (exits_sign written es e xs r s)
exits_state es e xs r g.Colon = exit_goes es e xs r (sign g.Colon)
exits_state es e xs r g.Comma = exit_ends es e xs r
exits_state es e xs r g.Semicolon = exit_goes es e xs r (sign g.Semicolon)
exits_state es e xs r g.Before = exit_goes es e xs r (sign g.Before)
exits_state es e xs r g.Apart = exit_goes es e xs r (sign g.Apart)
exits_state es e xs r g.All = exit_goes es e xs r (sign g.All)
exits_state es e xs r g.BraceOpen = exit_goes es e xs r (sign g.BraceOpen)
exits_state es e xs r g.BraceClose = exits_end es e xs r
exits_state es e xs r g.Call = exit_goes es e xs r (sign g.Call)

pub region_state : (r : RegionReader EventForm StepForm RegionForm) (t : FilterToken TestForm) → feed_region plain (region_map r) (plain_token t) ≡ map_if region_map (feed_region written r t)
region_state Region (name w) = refl
region_state Region (word w) = refl
region_state Region (sign s) = region_sign_state s
region_state Region (test x) = refl
region_state (Call f) (name w) = refl
region_state (Call f) (word w) = refl
region_state (Call f) (sign s) = call_state f s
region_state (Call f) (test x) = refl
region_state (Bare f) (name w) = refl
region_state (Bare f) (word w) = refl
region_state (Bare f) (sign s) = refl
region_state (Bare f) (test x) = refl
region_state (Entries es r) (name w) = entry_goes es r (name w)
region_state (Entries es r) (word w) = entry_goes es r (word w)
region_state (Entries es r) (sign s) = entries_state es r s
region_state (Entries es r) (test x) = entry_goes es r (test x)
region_state (Exits es e xs r) (name w) = exit_goes es e xs r (name w)
region_state (Exits es e xs r) (word w) = exit_goes es e xs r (word w)
region_state (Exits es e xs r) (sign s) = exits_state es e xs r s
region_state (Exits es e xs r) (test x) = exit_goes es e xs r (test x)
region_state (Whole z) (name w) = refl
region_state (Whole z) (word w) = refl
region_state (Whole z) (sign s) = refl
region_state (Whole z) (test x) = refl

pub finish_region_state : (r : RegionReader EventForm StepForm RegionForm) → finish_region plain (region_map r) ≡ map_if counted_region (finish_region written r)
finish_region_state Region = refl
finish_region_state (Call f) = refl
finish_region_state (Bare f) = refl
finish_region_state (Entries es r) = refl
finish_region_state (Exits es e xs r) = refl
finish_region_state (Whole z) = refl

braces_state : (r : RegionReader EventForm StepForm RegionForm) → is_in_braces (region_map r) ≡ is_in_braces r
braces_state Region = refl
braces_state (Call f) = refl
braces_state (Bare f) = refl
braces_state (Entries es r) = refl
braces_state (Exits es e xs r) = refl
braces_state (Whole z) = refl

-- Clauses

abbrev pub clause_map : ClauseReader EventForm StepForm RegionForm → ClauseReader tree.LineEvent CountedEvent CountedRegion
clause_map Begin = Begin
clause_map (Named f) = Named f
clause_map (Order ss r) = Order (counted_steps ss) (step_map r)
clause_map (Regions rs r) = Regions (counted_regions rs) (region_map r)
clause_map (Unilateral x) = Unilateral (counted_region x)

abbrev pub next_map : ClauseNext EventForm StepForm RegionForm ClauseForm → ClauseNext tree.LineEvent CountedEvent CountedRegion CountedClause
next_map (Goes r) = Goes (clause_map r)
next_map (Ends c) = Ends (counted_clause c)

begin_state : (s : FilterSign) → begin_sign s ≡ map_if clause_map (begin_sign s)
begin_state g.Colon = refl
begin_state g.Comma = refl
begin_state g.Semicolon = refl
begin_state g.Before = refl
begin_state g.Apart = refl
begin_state g.All = refl
begin_state g.BraceOpen = refl
begin_state g.BraceClose = refl
begin_state g.Call = refl

named_state : (f : List ℕ) (s : FilterSign) → named_sign f s ≡ map_if clause_map (named_sign f s)
named_state f g.Colon = refl
named_state f g.Comma = refl
named_state f g.Semicolon = refl
named_state f g.Before = refl
named_state f g.Apart = refl
named_state f g.All = refl
named_state f g.BraceOpen = refl
named_state f g.BraceClose = refl
named_state f g.Call = refl

order_by_state : (ss : List StepForm) (o : Option (StepReader EventForm StepForm)) → order_by (counted_steps ss) (map_if step_map o) ≡ map_if clause_map (order_by ss o)
order_by_state ss None = refl
order_by_state ss (Some r) = refl

order_goes : (ss : List StepForm) (r : StepReader EventForm StepForm) (t : FilterToken TestForm)
    → order_by (counted_steps ss) (feed_step plain (step_map r) (plain_token t)) ≡ map_if clause_map (order_by ss (feed_step written r t))
order_goes ss r t = ap (order_by (counted_steps ss)) (step_state r t) ∙ order_by_state ss (feed_step written r t)

step_ends : (ss : List StepForm) (r : StepReader EventForm StepForm) → order_sign plain (counted_steps ss) (step_map r) g.Before ≡ map_if clause_map (order_sign written ss r g.Before)
step_ends ss r = rw (finish_step_state r) (go (finish_step written r))
  where
    go : (o : Option StepForm) → after (map_if counted_step o) (λ s. Some (Order (counted_steps ss ++ s ∷ []) File)) ≡ map_if clause_map (after o (λ s. Some (Order (ss ++ s ∷ []) File)))
    go None = refl
    go (Some s) = ap (λ z. Some (Order z File)) (pushed ss s)

order_state : (ss : List StepForm) (r : StepReader EventForm StepForm) (s : FilterSign) → order_sign plain (counted_steps ss) (step_map r) s ≡ map_if clause_map (order_sign written ss r s)
order_state ss r g.Colon = order_goes ss r (sign g.Colon)
order_state ss r g.Comma = order_goes ss r (sign g.Comma)
order_state ss r g.Semicolon = order_goes ss r (sign g.Semicolon)
order_state ss r g.Before = step_ends ss r
order_state ss r g.Apart = order_goes ss r (sign g.Apart)
order_state ss r g.All = order_goes ss r (sign g.All)
order_state ss r g.BraceOpen = order_goes ss r (sign g.BraceOpen)
order_state ss r g.BraceClose = order_goes ss r (sign g.BraceClose)
order_state ss r g.Call = order_goes ss r (sign g.Call)

regions_by_state : (rs : List RegionForm) (o : Option (RegionReader EventForm StepForm RegionForm)) → regions_by (counted_regions rs) (map_if region_map o) ≡ map_if clause_map (regions_by rs o)
regions_by_state rs None = refl
regions_by_state rs (Some r) = refl

regions_goes : (rs : List RegionForm) (r : RegionReader EventForm StepForm RegionForm) (t : FilterToken TestForm)
    → regions_by (counted_regions rs) (feed_region plain (region_map r) (plain_token t)) ≡ map_if clause_map (regions_by rs (feed_region written r t))
regions_goes rs r t = ap (regions_by (counted_regions rs)) (region_state r t) ∙ regions_by_state rs (feed_region written r t)

region_ends : (rs : List RegionForm) (r : RegionReader EventForm StepForm RegionForm) → regions_sign plain (counted_regions rs) (region_map r) g.Apart ≡ map_if clause_map (regions_sign written rs r g.Apart)
region_ends rs r = rw (finish_region_state r) (go (finish_region written r))
  where
    go : (o : Option RegionForm) → after (map_if counted_region o) (λ x. Some (Regions (counted_regions rs ++ x ∷ []) Region)) ≡ map_if clause_map (after o (λ x. Some (Regions (rs ++ x ∷ []) Region)))
    go None = refl
    go (Some x) = ap (λ z. Some (Regions z Region)) (sym (map-append counted_region rs (x ∷ [])))

all_state : (rs : List RegionForm) (r : RegionReader EventForm StepForm RegionForm) → all_sign (counted_regions rs) (region_map r) ≡ map_if clause_map (all_sign rs r)
all_state [] Region = refl
all_state (x ∷ []) Region = refl
all_state (x ∷ y ∷ rs) Region = refl
all_state rs (Call f) = refl
all_state rs (Bare f) = refl
all_state rs (Entries es r) = refl
all_state rs (Exits es e xs r) = refl
all_state rs (Whole z) = refl

regions_state : (rs : List RegionForm) (r : RegionReader EventForm StepForm RegionForm) (s : FilterSign) → regions_sign plain (counted_regions rs) (region_map r) s ≡ map_if clause_map (regions_sign written rs r s)
regions_state rs r g.Colon = regions_goes rs r (sign g.Colon)
regions_state rs r g.Comma = regions_goes rs r (sign g.Comma)
regions_state rs r g.Semicolon = regions_goes rs r (sign g.Semicolon)
regions_state rs r g.Before = regions_goes rs r (sign g.Before)
regions_state rs r g.Apart = region_ends rs r
regions_state rs r g.All = all_state rs r
regions_state rs r g.BraceOpen = regions_goes rs r (sign g.BraceOpen)
regions_state rs r g.BraceClose = regions_goes rs r (sign g.BraceClose)
regions_state rs r g.Call = regions_goes rs r (sign g.Call)

pub clause_state : (r : ClauseReader EventForm StepForm RegionForm) (t : FilterToken TestForm) → step_clause plain (clause_map r) (plain_token t) ≡ map_if clause_map (step_clause written r t)
clause_state Begin (name w) = refl
clause_state Begin (word w) = refl
clause_state Begin (sign s) = begin_state s
clause_state Begin (test x) = refl
clause_state (Named f) (name w) = refl
clause_state (Named f) (word w) = refl
clause_state (Named f) (sign s) = named_state f s
clause_state (Named f) (test x) = refl
clause_state (Order ss r) (name w) = order_goes ss r (name w)
clause_state (Order ss r) (word w) = order_goes ss r (word w)
clause_state (Order ss r) (sign s) = order_state ss r s
clause_state (Order ss r) (test x) = order_goes ss r (test x)
clause_state (Regions rs r) (name w) = regions_goes rs r (name w)
clause_state (Regions rs r) (word w) = regions_goes rs r (word w)
clause_state (Regions rs r) (sign s) = regions_state rs r s
clause_state (Regions rs r) (test x) = regions_goes rs r (test x)
clause_state (Unilateral z) (name w) = refl
clause_state (Unilateral z) (word w) = refl
clause_state (Unilateral z) (sign s) = refl
clause_state (Unilateral z) (test x) = refl

order_end_state : (ss : List StepForm) (o : Option StepForm) → after (map_if counted_step o) (λ s. order_end plain (counted_steps ss) s) ≡ map_if counted_clause (after o (λ s. order_end written ss s))
order_end_state ss None = refl
order_end_state [] (Some s) = refl
order_end_state (a ∷ ss) (Some s) = ap Some (order_is a ss s)

exclusive_state : (rs : List RegionForm) (o : Option RegionForm) → after (map_if counted_region o) (λ x. Some (plain_exclusive (counted_regions rs) x)) ≡ map_if counted_clause (after o (λ x. Some (form_exclusive rs x)))
exclusive_state rs None = refl
exclusive_state rs (Some x) = ap Some (exclusive_is rs x)

pub finish_clause_state : (r : ClauseReader EventForm StepForm RegionForm) → finish_clause plain (clause_map r) ≡ map_if counted_clause (finish_clause written r)
finish_clause_state Begin = refl
finish_clause_state (Named f) = refl
finish_clause_state (Order ss r) = rw (finish_step_state r) (order_end_state ss (finish_step written r))
finish_clause_state (Regions rs r) = rw (finish_region_state r) (exclusive_state rs (finish_region written r))
finish_clause_state (Unilateral x) = refl

outside_state : (r : ClauseReader EventForm StepForm RegionForm) → is_outside (clause_map r) ≡ is_outside r
outside_state Begin = refl
outside_state (Named f) = refl
outside_state (Order ss r) = refl
outside_state (Regions rs r) = rw (braces_state r) refl
outside_state (Unilateral x) = refl

semicolon_state : (t : FilterToken TestForm) → is_semicolon (plain_token t) ≡ is_semicolon t
semicolon_state (name w) = refl
semicolon_state (word w) = refl
semicolon_state (sign s) = refl
semicolon_state (test x) = refl

pub feed_state : (r : ClauseReader EventForm StepForm RegionForm) (t : FilterToken TestForm) → feed plain (clause_map r) (plain_token t) ≡ map_if next_map (feed written r t)
feed_state r t = rw (semicolon_state t, outside_state r, finish_clause_state r, clause_state r t) (go (is_semicolon t && is_outside r) (finish_clause written r) (step_clause written r t))
  where
    go : (b : Bool) (c : Option ClauseForm) (s : Option (ClauseReader EventForm StepForm RegionForm))
        → (if b then after (map_if counted_clause c) (λ x. Some (Ends x)) else after (map_if clause_map s) (λ x. Some (Goes x))) ≡ map_if next_map (if b then after c (λ x. Some (Ends x)) else after s (λ x. Some (Goes x)))
    go true None s = refl
    go true (Some c) s = refl
    go false c None = refl
    go false c (Some r) = refl

-- Filters

abbrev pub reader_map : FilterReader EventForm StepForm RegionForm ClauseForm → FilterReader tree.LineEvent CountedEvent CountedRegion CountedClause
reader_map z = record { clauses = counted_clauses z.clauses; reader = clause_map z.reader }

next_state : (cs : List ClauseForm) (n : ClauseNext EventForm StepForm RegionForm ClauseForm) → next (counted_clauses cs) (next_map n) ≡ reader_map (next cs n)
next_state cs (Goes r) = refl
next_state cs (Ends c) = rw (map-append counted_clause cs (c ∷ [])) refl

pub filter_state : (z : FilterReader EventForm StepForm RegionForm ClauseForm) (t : FilterToken TestForm) → feed_filter plain (reader_map z) (plain_token t) ≡ map_if reader_map (feed_filter written z t)
filter_state z t = rw (feed_state z.reader t) (go (feed written z.reader t))
  where
    go : (o : Option (ClauseNext EventForm StepForm RegionForm ClauseForm)) → after (map_if next_map o) (λ n. Some (next (counted_clauses z.clauses) n)) ≡ map_if reader_map (after o (λ n. Some (next z.clauses n)))
    go None = refl
    go (Some n) = ap Some (next_state z.clauses n)

pub finish_state : (z : FilterReader EventForm StepForm RegionForm ClauseForm) → finish plain (reader_map z) ≡ map_if counted_clauses (finish written z)
finish_state z = rw (finish_clause_state z.reader) (go (finish_clause written z.reader))
  where
    go : (o : Option ClauseForm) → after (map_if counted_clause o) (λ c. Some (counted_clauses z.clauses ++ c ∷ [])) ≡ map_if counted_clauses (after o (λ c. Some (z.clauses ++ c ∷ [])))
    go None = refl
    go (Some c) = ap Some (sym (map-append counted_clause z.clauses (c ∷ [])))
