-- The text of a journal as it is written, line by line.
use Rattle.std.proofs.Common.{ℕ, ◌+◌, ◌≤◌, ◌≡◌, ◌≢◌, List, [], ◌∷◌, ◌++◌, map, take, drop, length, Option, Some, Result, Ok, Err, OnOk, OnErr, codes, refl, ap, sym, subst, ◌∙◌, append_assoc, append-nil}
use Rattle.std.specs.List.{slice_get}
use Rattle.std.proofs.lemmas.List.{take_more, take_all, take-append-drop, map-append}
use Rattle.std.proofs.lemmas.Option.{slice_get_within, get_or_from_slice_get}
use Rattle.loom_io.specs.Sink.{TookFront}
use Rattle.loom_io.specs.Page.{PageTook}
use Rattle.loom_io.proofs.Pages.{paged_then, front_longer, front_behind}
use Rattle.loom_trace.specs.declared.entry.Entry.{Entry}
use Rattle.loom_trace.specs.declared.entry.Entry.TheVariants as e
use Rattle.loom_tree.specs.Lines.{ended}
use Rattle.loom_trace.specs.Text.{entry_line, printed_line, printed_lines, journal_text}

-- what an answer says, and what follows from it

pub at_err : {T E P : Type 0} (r : Result T E) → P → OnErr r P
at_err (Ok x) h = tt
at_err (Err e) h = h

pub then_ok : {T E P Q : Type 0} (r : Result T E) → (P → Q) → OnOk r P → OnOk r Q
then_ok (Ok x) f h = f h
then_ok (Err e) f h = tt

pub then_err : {T E P Q : Type 0} (r : Result T E) → (P → Q) → OnErr r P → OnErr r Q
then_err (Ok x) f h = tt
then_err (Err e) f h = f h

-- lines

pub ended-append : (xs ys : List (List ℕ)) → ended (xs ++ ys) ≡ ended xs ++ ended ys
ended-append [] ys = refl
ended-append (x ∷ xs) ys = ap (λ z. x ++ 10 ∷ z) (ended-append xs ys) ∙ sym (append_assoc x (10 ∷ ended xs) (ended ys))

pub printed_lines-append : (xs ys : List Entry) → printed_lines (xs ++ ys) ≡ printed_lines xs ++ printed_lines ys
printed_lines-append [] ys = refl
printed_lines-append (x ∷ xs) ys = ap (λ z. printed_line x ++ z) (printed_lines-append xs ys) ∙ sym (append_assoc (printed_line x) (printed_lines xs) (printed_lines ys))

-- a text of entries that is the texts of its parts, one behind the other
pub record IsByEntry (text : List Entry → List ℕ) : Type 0 where
  pub parts : (xs ys : List Entry) → text (xs ++ ys) ≡ text xs ++ text ys

abbrev pub printed_text : List Entry → List ℕ
printed_text es = ended (printed_lines es)

abbrev pub entries_text : List Entry → List ℕ
entries_text es = ended (map entry_line es)

pub printed_parts : IsByEntry printed_text
printed_parts = record { parts = λ xs ys. ap ended (printed_lines-append xs ys) ∙ ended-append (printed_lines xs) (printed_lines ys) }

pub entries_parts : IsByEntry entries_text
entries_parts = record { parts = λ xs ys. ap ended (map-append entry_line xs ys) ∙ ended-append (map entry_line xs) (map entry_line ys) }

pub one_printed : (x : Entry) → ended (printed_line x) ≡ printed_text (x ∷ [])
one_printed x = ap ended (sym (append-nil (printed_line x)))

-- an entry that prints nothing
pub none_printed : (x : Entry) → ((t l : ℕ) → (v : _) → x ≢ e.Print t l v) → printed_line x ≡ []
none_printed (e.Print t l v) h = absurd (h t l v refl)
none_printed x h = refl

pub one_more : (es : List Entry) (i : ℕ) (x : Entry) → slice_get es i ≡ Some x → take (i + 1) es ≡ take i es ++ x ∷ []
one_more es i x h = take_more es i x (slice_get_within es i x h) ∙ ap (λ z. take i es ++ z ∷ []) (get_or_from_slice_get es i x x h)

pub text_more : (text : List Entry → List ℕ) (es : List Entry) (i : ℕ) (x : Entry) (line : List ℕ) → IsByEntry text → slice_get es i ≡ Some x → line ≡ text (x ∷ [])
    → text (take (i + 1) es) ≡ text (take i es) ++ line
text_more text es i x line by h is = ap text (one_more es i x h) ∙ by.parts (take i es) (x ∷ []) ∙ ap (λ z. text (take i es) ++ z) (sym is)

-- one entry more
pub paged_more : (text : List Entry → List ℕ) (a b c : Option (List ℕ)) (p q r line : List ℕ) (es : List Entry) (i : ℕ) (x : Entry) → IsByEntry text → slice_get es i ≡ Some x
    → line ≡ text (x ∷ []) → PageTook a b p q (text (take i es)) → PageTook b c q r line → PageTook a c p r (text (take (i + 1) es))
paged_more text a b c p q r line es i x by h is before more =
    subst (PageTook a c p r) (sym (text_more text es i x line by h is)) (paged_then a b c p q r (text (take i es)) line before more)

-- a front of one entry more
pub front_more : (text : List Entry → List ℕ) (a b c : Option (List ℕ)) (p q line : List ℕ) (es : List Entry) (i : ℕ) (x : Entry) → IsByEntry text → slice_get es i ≡ Some x
    → line ≡ text (x ∷ []) → PageTook a b p q (text (take i es)) → TookFront b c (q ++ line) → TookFront a c (p ++ text es)
front_more text a b c p q line es i x by h is before more =
    let rest : List ℕ = text (drop (i + 1) es) in
    let whole : (p ++ (text (take i es) ++ line)) ++ rest ≡ p ++ text es =
    append_assoc p (text (take i es) ++ line) rest
    ∙ ap (λ z. p ++ (z ++ rest)) (sym (text_more text es i x line by h is))
    ∙ ap (λ z. p ++ z) (sym (by.parts (take (i + 1) es) (drop (i + 1) es)) ∙ ap text (take-append-drop (i + 1) es)) in
    subst (TookFront a c) whole (front_longer a c (p ++ (text (take i es) ++ line)) rest (front_behind a b c p q (text (take i es)) line before more))

-- all entries
pub paged_all : (text : List Entry → List ℕ) (a b : Option (List ℕ)) (p q : List ℕ) (es : List Entry) (i : ℕ) → length es ≤ i → PageTook a b p q (text (take i es)) → PageTook a b p q (text es)
paged_all text a b p q es i h k = subst (PageTook a b p q) (ap text (take_all i es h)) k

-- the parts of a journal's text

abbrev pub dashes : List ℕ
dashes = codes "---" ++ 10 ∷ []

pub journal_parts : (es : List Entry) → (printed_text es ++ dashes) ++ entries_text es ≡ journal_text es
journal_parts es = append_assoc (printed_text es) dashes (entries_text es) ∙ sym (ended-append (printed_lines es) (codes "---" ∷ map entry_line es))

-- a page is filled with the values, the dashes and the entries, and each error came in the one part that is last

pub front_values : (a b : Option (List ℕ)) (p : List ℕ) (es : List Entry) → p ≡ [] → TookFront a b (p ++ printed_text es) → TookFront a b (journal_text es)
front_values a b p es none h =
    let first : TookFront a b (printed_text es) = subst (λ (z : List ℕ). TookFront a b (z ++ printed_text es)) none h in
    subst (TookFront a b) (journal_parts es) (front_longer a b (printed_text es ++ dashes) (entries_text es) (front_longer a b (printed_text es) dashes first))

pub front_dashes : (a b c : Option (List ℕ)) (p q : List ℕ) (es : List Entry) → p ≡ [] → PageTook a b p q (printed_text es) → TookFront b c (q ++ dashes) → TookFront a c (journal_text es)
front_dashes a b c p q es none h k =
    let first : TookFront a c (printed_text es ++ dashes) = subst (λ (z : List ℕ). TookFront a c (z ++ (printed_text es ++ dashes))) none (front_behind a b c p q (printed_text es) dashes h k) in
    subst (TookFront a c) (journal_parts es) (front_longer a c (printed_text es ++ dashes) (entries_text es) first)

-- what comes before the entries
pub paged_head : (a b c : Option (List ℕ)) (p q r : List ℕ) (es : List Entry) → PageTook a b p q (printed_text es) → PageTook b c q r dashes → PageTook a c p r (printed_text es ++ dashes)
paged_head a b c p q r es values line = paged_then a b c p q r (printed_text es) dashes values line

pub front_entries : (a b c d : Option (List ℕ)) (p q r : List ℕ) (es : List Entry) → p ≡ [] → PageTook a b p q (printed_text es) → PageTook b c q r dashes
    → TookFront c d (r ++ entries_text es) → TookFront a d (journal_text es)
front_entries a b c d p q r es none values line k =
    let head = paged_head a b c p q r es values line in
    let all : TookFront a d (p ++ ((printed_text es ++ dashes) ++ entries_text es)) = front_behind a c d p r (printed_text es ++ dashes) (entries_text es) head k in
    subst (TookFront a d) (journal_parts es) (subst (λ (z : List ℕ). TookFront a d (z ++ ((printed_text es ++ dashes) ++ entries_text es))) none all)

-- and the whole text
pub paged_journal : (a b c d : Option (List ℕ)) (p q r s : List ℕ) (es : List Entry) → p ≡ [] → PageTook a b p q (printed_text es) → PageTook b c q r dashes
    → PageTook c d r s (entries_text es) → PageTook a d [] s (journal_text es)
paged_journal a b c d p q r s es none values line entries =
    let head = paged_head a b c p q r es values line in
    let all : PageTook a d p s ((printed_text es ++ dashes) ++ entries_text es) = paged_then a c d p r s (printed_text es ++ dashes) (entries_text es) head entries in
    subst (PageTook a d [] s) (journal_parts es) (subst (λ (z : List ℕ). PageTook a d z s ((printed_text es ++ dashes) ++ entries_text es)) none all)
