-- Names that are declared a second time.
use Rattle.std.proofs.Common.{ℕ, ◌+◌, ◌<◌, ◌≡◌, List, [], ◌∷◌, ◌++◌, length, get_or, take, drop, Option, refl, ap, sym, ◌∙◌, append_assoc}
use Rattle.std.proofs.lemmas.List.{map-append, take_more}
use Rattle.loom_tree.specs.Tree.{Body, end, simple, if_, while_, Function, FileItem, word, mutex, sema, func}
use Rattle.loom_lang.specs.declared.local.Local.{Local}
use Rattle.loom_lang.specs.declared.refusal.Reason.{Reason}
use Rattle.loom_lang.specs.declared.refusal.LangRefusal.{LangRefusal}
use Rattle.loom_lang.specs.Rules.{is_in, let_names, lets, locals_of}
use Rattle.loom_lang.specs.Refusal.{line_if, at_line, lets_at, locals_at, repeated, twice_lines}
use Rattle.loom_lang.specs.Fault.{names_of, name_of, line_of, locals_in, behind_faults}
use Rattle.loom_lang.proofs.Distinct.{AreSame, same_swapped, same_append, same_more}
use Rattle.loom_lang.proofs.Faults.{noted_on, drop_at}

at_line_names : (l : ℕ) (xs : List (List ℕ)) → names_of (at_line l xs) ≡ xs
at_line_names l [] = refl
at_line_names l (x ∷ xs) = ap (λ z. x ∷ z) (at_line_names l xs)

both_parts : (a b : List Local) (x y : List (List ℕ)) → names_of a ≡ x → names_of b ≡ y → names_of (a ++ b) ≡ x ++ y
both_parts a b x y e h = map-append _ a b ∙ ap (λ z. z ++ names_of b) e ∙ ap (λ z. x ++ z) h

-- the locals' names are those of the rules
lets_names : (b : Body) → names_of (lets_at b) ≡ lets b
lets_names end = refl
lets_names (simple l s rest) = both_parts (at_line l (let_names s)) (lets_at rest) _ _ (at_line_names l (let_names s)) (lets_names rest)
lets_names (if_ l e a b rest) = both_parts (lets_at a) (lets_at b ++ lets_at rest) _ _ (lets_names a) (both_parts (lets_at b) (lets_at rest) _ _ (lets_names b) (lets_names rest))
lets_names (while_ l e a rest) = both_parts (lets_at a) (lets_at rest) _ _ (lets_names a) (lets_names rest)

pub locals_names : (f : Function) → names_of (locals_at f) ≡ locals_of f
locals_names f = both_parts (at_line f.line f.params) (lets_at f.body) _ _ (at_line_names f.line f.params) (lets_names f.body)

pub found_names : (f : Function) (none names : List (List ℕ)) (start found got : List Local) → start ≡ [] → found ≡ start ++ locals_at f → got ≡ found → none ≡ [] → names ≡ none ++ names_of got → names ≡ locals_of f
found_names f none names start found got a b c d e = e ∙ ap (λ z. z ++ names_of got) d ∙ ap names_of (c ∙ b ∙ ap (λ z. z ++ locals_at f) a) ∙ locals_names f

repeated_same : (ds : List Local) (xs ys : List (List ℕ)) → AreSame xs ys → repeated xs ds ≡ repeated ys ds
repeated_same [] xs ys h = refl
repeated_same (d ∷ ds) xs ys h =
    ap (λ z. line_if z d.line ++ repeated (d.name ∷ xs) ds) (h d.name) ∙ ap (λ z. line_if (is_in d.name ys) d.line ++ z) (repeated_same ds (d.name ∷ xs) (d.name ∷ ys) (same_more d.name xs ys h))

-- what one item declares a second time, and then the items behind it
pub twice_step : (names locals : List (List ℕ)) (i : FileItem) (is : List FileItem) → twice_lines names locals (i ∷ is) ≡ line_if (is_in (name_of i) (names ++ locals)) (line_of i) ++ (repeated (name_of i ∷ names) (locals_in i) ++ twice_lines (name_of i ∷ names) (names_of (locals_in i) ++ locals) is)
twice_step names locals (word l w) is = refl
twice_step names locals (mutex l x) is = refl
twice_step names locals (sema l s) is = refl
twice_step names locals (func f) is = ap (λ z. line_if (is_in f.name (names ++ locals)) f.line ++ (repeated (f.name ∷ names) (locals_at f) ++ twice_lines (f.name ∷ names) (z ++ locals) is)) (sym (locals_names f))

twice_same : (is : List FileItem) (xs ys ls ms : List (List ℕ)) → AreSame xs ys → AreSame ls ms → twice_lines xs ls is ≡ twice_lines ys ms is
twice_same [] xs ys ls ms h g = refl
twice_same (i ∷ is) xs ys ls ms h g =
    let more : AreSame (name_of i ∷ xs) (name_of i ∷ ys) = same_more (name_of i) xs ys h in
    let own : List (List ℕ) = names_of (locals_in i) in
    twice_step xs ls i is
    ∙ ap (λ z. line_if z (line_of i) ++ (repeated (name_of i ∷ xs) (locals_in i) ++ twice_lines (name_of i ∷ xs) (own ++ ls) is)) (same_append xs ys ls ms h g (name_of i))
    ∙ ap (λ z. line_if (is_in (name_of i) (ys ++ ms)) (line_of i) ++ (z ++ twice_lines (name_of i ∷ xs) (own ++ ls) is)) (repeated_same (locals_in i) (name_of i ∷ xs) (name_of i ∷ ys) more)
    ∙ ap (λ z. line_if (is_in (name_of i) (ys ++ ms)) (line_of i) ++ (repeated (name_of i ∷ ys) (locals_in i) ++ z)) (twice_same is (name_of i ∷ xs) (name_of i ∷ ys) (own ++ ls) (own ++ ms) more (same_append own own ls ms (λ x. refl) g))
    ∙ sym (twice_step ys ms i is)

-- the steps of walks, which put names and locals behind those before

pub repeated_on : (first new : Option LangRefusal) (why : Reason) (names : List (List ℕ)) (locals : List Local) (i : ℕ) (d : Local) → i < length locals → d ≡ get_or locals i d → new ≡ behind_faults first why (line_if (is_in d.name (names ++ names_of (take i locals))) d.line) → behind_faults new why (repeated (names ++ names_of (take (i + 1) locals)) (drop (i + 1) locals)) ≡ behind_faults first why (repeated (names ++ names_of (take i locals)) (drop i locals))
repeated_on first new why names locals i d l e h =
    let before : List (List ℕ) = names_of (take i locals) in
    let more : names_of (take (i + 1) locals) ≡ before ++ d.name ∷ [] = ap names_of (take_more locals i d l ∙ ap (λ z. take i locals ++ z ∷ []) (sym e)) ∙ map-append _ (take i locals) (d ∷ []) in
    let same : AreSame (names ++ names_of (take (i + 1) locals)) (d.name ∷ (names ++ before)) = λ x. ap (λ z. is_in x (names ++ z)) more ∙ ap (is_in x) (sym (append_assoc names before (d.name ∷ []))) ∙ same_swapped (names ++ before) (d.name ∷ []) x in
    ap (behind_faults new why) (repeated_same (drop (i + 1) locals) _ _ same)
    ∙ noted_on first new why (line_if (is_in d.name (names ++ before)) d.line) _ _ (ap (repeated (names ++ before)) (drop_at locals i d l e)) h

pub twice_on : (first new : Option LangRefusal) (why : Reason) (names more : List (List ℕ)) (locals others : List Local) (i : FileItem) (is all : List FileItem) → all ≡ i ∷ is → more ≡ names ++ name_of i ∷ [] → others ≡ locals ++ locals_in i → new ≡ behind_faults first why (line_if (is_in (name_of i) (names ++ names_of locals)) (line_of i) ++ repeated more (locals_in i)) → behind_faults new why (twice_lines more (names_of others) is) ≡ behind_faults first why (twice_lines names (names_of locals) all)
twice_on first new why names more locals others i is all e m o h =
    let own : List (List ℕ) = names_of (locals_in i) in
    let head : List ℕ = line_if (is_in (name_of i) (names ++ names_of locals)) (line_of i) in
    let same : AreSame (name_of i ∷ names) more = λ x. same_swapped (name_of i ∷ []) names x ∙ ap (is_in x) (sym m) in
    let same_locals : AreSame (own ++ names_of locals) (names_of others) = λ x. same_swapped own (names_of locals) x ∙ ap (is_in x) (sym (ap names_of o ∙ map-append _ locals (locals_in i))) in
    noted_on first new why (head ++ repeated more (locals_in i)) (twice_lines more (names_of others) is) _
    (ap (twice_lines names (names_of locals)) e
    ∙ twice_step names (names_of locals) i is
    ∙ ap (λ z. head ++ (z ++ twice_lines (name_of i ∷ names) (own ++ names_of locals) is)) (repeated_same (locals_in i) _ _ same)
    ∙ ap (λ z. head ++ (repeated more (locals_in i) ++ z)) (twice_same is _ _ _ _ same same_locals)
    ∙ sym (append_assoc head (repeated more (locals_in i)) (twice_lines more (names_of others) is)))
    h
