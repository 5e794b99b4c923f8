-- Lists of words, and what they ask for.
use Rattle.std.proofs.Common.{ℕ, ◌≡◌, ◌≢◌, ◌≤◌, ◌-◌, ◌⊎◌, inl, inr, List, [], ◌∷◌, codes, length, map, take, drop, slice_index_or, Option, Some, None, IfSome, IfNone, Result, Ok, Bor, refl, sym, ap, subst, ◌∙◌, arith}
use Rattle.std.specs.Str.Parse.{ParsesUnsigned}
use Rattle.std.proofs.lemmas.Fmt.{parse-decimal}
use Rattle.std.proofs.lemmas.List.{take_all}
use Rattle.loom_tree.specs.Decimal.{decimal}
use Rattle.loom_trace.specs.Limits.{entry_limit}
use Rattle.loom_trace.proofs.Decimal.{same_decimal}
use Rattle.loom_command.proofs.Digits.{one_decimal}
use Rattle.loom_filter.specs.FilterError.{text_limit}
use Rattle.loom_top.specs.Invocation.{Task, run, show, show_filter, Invocation, IsFileName, AreLimitWords, AreRunWords, AreTaskWords, IsInvocation}

-- Words of the code

abbrev pub texts : List (Bor (List ℕ)) → List (List ℕ)
texts ws = map (λ w. w.now) ws

abbrev pub word_at : List (Bor (List ℕ)) → Bor (List ℕ) → ℕ → List ℕ
word_at ws d n = (slice_index_or ws n d).now

pub no_words : (ws : List (Bor (List ℕ))) → length ws ≡ 0 → texts ws ≡ []
no_words [] h = refl
no_words (x ∷ ws) h = absurd (omega (arith, h))

pub one_word : (ws : List (Bor (List ℕ))) (d : Bor (List ℕ)) → length ws ≡ 1 → texts ws ≡ word_at ws d 0 ∷ []
one_word [] d h = absurd (omega (arith, h))
one_word (a ∷ []) d h = refl
one_word (a ∷ b ∷ ws) d h = absurd (omega (arith, h))

pub two_words : (ws : List (Bor (List ℕ))) (d : Bor (List ℕ)) → length ws ≡ 2 → texts ws ≡ word_at ws d 0 ∷ word_at ws d 1 ∷ []
two_words [] d h = absurd (omega (arith, h))
two_words (a ∷ []) d h = absurd (omega (arith, h))
two_words (a ∷ b ∷ []) d h = refl
two_words (a ∷ b ∷ c ∷ ws) d h = absurd (omega (arith, h))

-- the first one and the others
pub one_and_others : (ws : List (Bor (List ℕ))) (d : Bor (List ℕ)) → 1 ≤ length ws → texts ws ≡ word_at ws d 0 ∷ texts (take (length ws - 1) (drop 1 ws))
one_and_others [] d h = absurd (omega (arith, h))
one_and_others (a ∷ ws) d h = ap (λ (z : List (Bor (List ℕ))). a.now ∷ texts z) (sym (take_all (length (a ∷ ws) - 1) ws (omega arith)))

-- what holds is told where nothing is answered
pub if_none : {A P : Type 0} (o : Option A) → P → IfNone o P
if_none None h = h
if_none (Some x) h = tt

-- Limits

-- A limit in decimal is read.
pub limit_read : {E : Type 0} (text : List ℕ) (r : Result ℕ E) (limit : ℕ) → ParsesUnsigned 32 10 text r → limit ≤ entry_limit → text ≡ decimal limit → r ≡ Ok limit
limit_read text r limit h l is = parse-decimal 32 limit text r (omega (arith, l)) (omega (arith, l)) (is ∙ sym (same_decimal limit (omega (arith, l)))) h

-- The words are `--steps` and another one, which gives a limit.
pub limit_given : (words : List (List ℕ)) (digits : List ℕ) (o : Option ℕ) → words ≡ codes "--steps" ∷ digits ∷ [] → IfSome o (λ limit. digits ≡ decimal limit)
    → IfSome o (λ limit. 1 ≤ limit) → IfSome o (λ limit. limit ≤ entry_limit) → IfSome o (λ limit. AreLimitWords words limit)
limit_given words digits None is written least most = tt
limit_given words digits (Some limit) is written least most =
    let P : List ℕ → Type 0 = λ z. words ≡ codes "--steps" ∷ z ∷ [] in
    inr (record { is = subst P written is; least = least; most = most })

-- It gives none.
pub no_limit_given : (words : List (List ℕ)) (digits : List ℕ) → words ≡ codes "--steps" ∷ digits ∷ [] → ((limit : ℕ) → 1 ≤ limit → limit ≤ entry_limit → digits ≡ decimal limit → ⊥)
    → (limit : ℕ) → AreLimitWords words limit → ⊥
no_limit_given words digits is none limit (inl h) = let e : codes "--steps" ∷ digits ∷ [] ≡ [] = sym is ∙ h.is in absurd cc
no_limit_given words digits is none limit (inr h) =
    let e : codes "--steps" ∷ digits ∷ [] ≡ codes "--steps" ∷ decimal limit ∷ [] = sym is ∙ h.is in
    let same : digits ≡ decimal limit = cc e in
    none limit h.least h.most same

pub no_limit_if_none : (words : List (List ℕ)) (digits : List ℕ) (o : Option ℕ) → words ≡ codes "--steps" ∷ digits ∷ []
    → IfNone o ((limit : ℕ) → 1 ≤ limit → limit ≤ entry_limit → digits ≡ decimal limit → ⊥) → IfNone o ((limit : ℕ) → AreLimitWords words limit → ⊥)
no_limit_if_none words digits None is none = no_limit_given words digits is none
no_limit_if_none words digits (Some limit) is none = tt

-- Words that give a limit are none, or two of which the first is `--steps`.
pub limit_shape : (ws : List (Bor (List ℕ))) (d : Bor (List ℕ)) (limit : ℕ) → AreLimitWords (texts ws) limit → (length ws ≡ 0) ⊎ ((length ws ≡ 2) × (word_at ws d 0 ≡ codes "--steps"))
limit_shape [] d limit h = inl refl
limit_shape (a ∷ []) d limit (inl h) = let e : a.now ∷ [] ≡ [] = h.is in absurd cc
limit_shape (a ∷ []) d limit (inr h) = let e : a.now ∷ [] ≡ codes "--steps" ∷ decimal limit ∷ [] = h.is in absurd cc
limit_shape (a ∷ b ∷ []) d limit (inl h) = let e : a.now ∷ b.now ∷ [] ≡ [] = h.is in absurd cc
limit_shape (a ∷ b ∷ []) d limit (inr h) = let e : a.now ∷ b.now ∷ [] ≡ codes "--steps" ∷ decimal limit ∷ [] = h.is in inr (refl, cc)
limit_shape (a ∷ b ∷ c ∷ ws) d limit (inl h) = let e : a.now ∷ b.now ∷ c.now ∷ texts ws ≡ [] = h.is in absurd cc
limit_shape (a ∷ b ∷ c ∷ ws) d limit (inr h) = let e : a.now ∷ b.now ∷ c.now ∷ texts ws ≡ codes "--steps" ∷ decimal limit ∷ [] = h.is in absurd cc

-- `--steps` is no file's name.
no_file : (x : List ℕ) → x ≡ codes "--steps" → IsFileName x → ⊥
no_file x e h = let P : List ℕ → Type 0 = λ z. IsFileName z in subst P e h refl

-- so no word that is one stands before a limit
no_file_before : (x : List ℕ) (rest words : List (List ℕ)) (limit : ℕ) → words ≡ x ∷ rest → AreLimitWords words limit → IsFileName x → ⊥
no_file_before x rest words limit is (inl h) file = let e : [] ≡ x ∷ rest = sym h.is ∙ is in absurd cc
no_file_before x rest words limit is (inr h) file =
    let e : codes "--steps" ∷ decimal limit ∷ [] ≡ x ∷ rest = sym h.is ∙ is in
    let same : x ≡ codes "--steps" = cc e in
    no_file x same file

-- Runs

first_word : {a b : List ℕ} {r s : List (List ℕ)} → a ∷ r ≡ b ∷ s → a ≡ b
first_word h = cc

other_words : {a b : List ℕ} {r s : List (List ℕ)} → a ∷ r ≡ b ∷ s → r ≡ s
other_words h = cc

-- Behind the name of a script the words don't give a limit.
pub no_run_with_script : (x : List ℕ) (rest words : List (List ℕ)) → words ≡ x ∷ rest → IsFileName x → ((limit : ℕ) → AreLimitWords rest limit → ⊥)
    → (t : Task) → AreTaskWords (codes "run") words t → ⊥
no_run_with_script x rest words is file none (run None limit) h =
    no_file_before x rest h.1.behind limit (sym h.1.is ∙ is) h.1.steps file
no_run_with_script x rest words is file none (run (Some name) limit) h =
    let same : h.1.behind ≡ rest = other_words (sym h.1.is ∙ is) in
    let P : List (List ℕ) → Type 0 = λ z. AreLimitWords z limit in
    none limit (subst P same h.1.steps)
no_run_with_script x rest words is file none show h = let e : codes "run" ≡ codes "show" = h.0 in absurd cc
no_run_with_script x rest words is file none (show_filter text) h = let e : codes "run" ≡ codes "show" = h.0 in absurd cc

-- The first one names no script, and they don't give a limit.
pub no_run_alone : (words : List (List ℕ)) → ((x : List ℕ) (rest : List (List ℕ)) → words ≡ x ∷ rest → IsFileName x → ⊥) → ((limit : ℕ) → AreLimitWords words limit → ⊥)
    → (t : Task) → AreTaskWords (codes "run") words t → ⊥
no_run_alone words no_script none (run None limit) h =
    let P : List (List ℕ) → Type 0 = λ z. AreLimitWords z limit in
    none limit (subst P (sym h.1.is) h.1.steps)
no_run_alone words no_script none (run (Some name) limit) h = no_script name h.1.behind h.1.is h.1.file
no_run_alone words no_script none show h = let e : codes "run" ≡ codes "show" = h.0 in absurd cc
no_run_alone words no_script none (show_filter text) h = let e : codes "run" ≡ codes "show" = h.0 in absurd cc

-- The first one is no file's name.
pub no_first_file : (ws : List (Bor (List ℕ))) (d : Bor (List ℕ)) → (1 ≤ length ws → IsFileName (word_at ws d 0) → ⊥) → (x : List ℕ) (rest : List (List ℕ)) → texts ws ≡ x ∷ rest → IsFileName x → ⊥
no_first_file [] d none x rest e h = absurd cc
no_first_file (w ∷ ws) d none x rest e h =
    let here : w.now ∷ texts ws ≡ x ∷ rest = e in
    let P : List ℕ → Type 0 = λ z. IsFileName z in
    none (omega arith) (subst P (sym (first_word here)) h)

-- Showing

-- Words behind `show PROG` are none, or one that isn't too long.
pub show_shape : (ws : List (Bor (List ℕ))) (d : Bor (List ℕ)) (t : Task) → AreTaskWords (codes "show") (texts ws) t → (length ws ≡ 0) ⊎ ((length ws ≡ 1) × (length (word_at ws d 0) ≤ text_limit))
show_shape ws d (run script limit) h = let e : codes "show" ≡ codes "run" = h.0 in absurd cc
show_shape [] d show h = inl refl
show_shape (a ∷ ws) d show h = let e : a.now ∷ texts ws ≡ [] = h.1 in absurd cc
show_shape [] d (show_filter text) h = inl refl
show_shape (a ∷ []) d (show_filter text) h =
    let e : a.now ∷ [] ≡ text ∷ [] = h.1.0 in
    let P : List ℕ → Type 0 = λ z. length z ≤ text_limit in
    inr (refl, subst P (sym (first_word e)) h.1.1)
show_shape (a ∷ b ∷ ws) d (show_filter text) h = let e : a.now ∷ b.now ∷ texts ws ≡ text ∷ [] = h.1.0 in absurd cc

-- The first word

pub no_task : (first : List ℕ) (words : List (List ℕ)) → first ≢ codes "run" → first ≢ codes "show" → (t : Task) → AreTaskWords first words t → ⊥
no_task first words not_run not_show (run script limit) h = not_run h.0
no_task first words not_run not_show show h = not_show h.0
no_task first words not_run not_show (show_filter text) h = not_show h.0

-- The words are split so.
pub no_invocation : (first name : List ℕ) (rest words : List (List ℕ)) → words ≡ first ∷ name ∷ rest → ((t : Task) → AreTaskWords first rest t → ⊥)
    → (c : Invocation) → IsInvocation words c → ⊥
no_invocation first name rest words is none c h =
    let e : first ∷ name ∷ rest ≡ h.first ∷ c.name ∷ h.behind = sym is ∙ h.are in
    let here : first ≡ h.first = first_word e in
    let there : rest ≡ h.behind = other_words (other_words e) in
    let P : List ℕ → Type 0 = λ z. AreTaskWords z h.behind c.task in
    let Q : List (List ℕ) → Type 0 = λ z. AreTaskWords first z c.task in
    none c.task (subst Q (sym there) (subst P (sym here) h.task))

pub no_program : (first name : List ℕ) (rest words : List (List ℕ)) → words ≡ first ∷ name ∷ rest → (IsFileName name → ⊥) → (c : Invocation) → IsInvocation words c → ⊥
no_program first name rest words is none c h =
    let e : first ∷ name ∷ rest ≡ h.first ∷ c.name ∷ h.behind = sym is ∙ h.are in
    let same : name ≡ c.name = first_word (other_words e) in
    let P : List ℕ → Type 0 = λ z. IsFileName z in
    none (subst P (sym same) h.file)

pub too_few_words : (words : List (List ℕ)) → length words ≤ 1 → (c : Invocation) → IsInvocation words c → ⊥
too_few_words words few c h =
    let e : length words ≡ length (h.first ∷ c.name ∷ h.behind) = ap length h.are in
    absurd (omega (arith, few, e))

-- Words ask for one thing.

one_limit : (words others : List (List ℕ)) (m n : ℕ) → words ≡ others → AreLimitWords words m → AreLimitWords others n → m ≡ n
one_limit words others m n e (inl h) (inl k) = h.default ∙ sym k.default
one_limit words others m n e (inl h) (inr k) = let x : [] ≡ codes "--steps" ∷ decimal n ∷ [] = sym h.is ∙ (e ∙ k.is) in absurd cc
one_limit words others m n e (inr h) (inl k) = let x : codes "--steps" ∷ decimal m ∷ [] ≡ [] = sym h.is ∙ (e ∙ k.is) in absurd cc
one_limit words others m n e (inr h) (inr k) = one_decimal m n (first_word (other_words (sym h.is ∙ (e ∙ k.is))))

one_run : (words : List (List ℕ)) (s t : Option (List ℕ)) (m n : ℕ) → AreRunWords words s m → AreRunWords words t n → run s m ≡ run t n
one_run words None None m n h k = ap (run None) (one_limit h.behind k.behind m n (sym h.is ∙ k.is) h.steps k.steps)
one_run words None (Some y) m n h k = absurd (no_file_before y k.behind h.behind m (sym h.is ∙ k.is) h.steps k.file)
one_run words (Some x) None m n h k = absurd (no_file_before x h.behind k.behind n (sym k.is ∙ h.is) k.steps h.file)
one_run words (Some x) (Some y) m n h k =
    let e : x ∷ h.behind ≡ y ∷ k.behind = sym h.is ∙ k.is in
    let names : x ≡ y = first_word e in
    let limits : m ≡ n = one_limit h.behind k.behind m n (other_words e) h.steps k.steps in
    cc (names, limits)

one_task : (first : List ℕ) (words : List (List ℕ)) (t u : Task) → AreTaskWords first words t → AreTaskWords first words u → t ≡ u
one_task first words (run s m) (run t n) h k = one_run words s t m n h.1 k.1
one_task first words (run s m) show h k = let e : codes "run" ≡ codes "show" = sym h.0 ∙ k.0 in absurd cc
one_task first words (run s m) (show_filter x) h k = let e : codes "run" ≡ codes "show" = sym h.0 ∙ k.0 in absurd cc
one_task first words show (run t n) h k = let e : codes "show" ≡ codes "run" = sym h.0 ∙ k.0 in absurd cc
one_task first words show show h k = refl
one_task first words show (show_filter x) h k = let e : [] ≡ x ∷ [] = sym h.1 ∙ k.1.0 in absurd cc
one_task first words (show_filter x) (run t n) h k = let e : codes "show" ≡ codes "run" = sym h.0 ∙ k.0 in absurd cc
one_task first words (show_filter x) show h k = let e : x ∷ [] ≡ [] = sym h.1.0 ∙ k.1 in absurd cc
one_task first words (show_filter x) (show_filter y) h k = ap show_filter (first_word (sym h.1.0 ∙ k.1.0))

same_invocation : (m n : List ℕ) (t u : Task) → m ≡ n → t ≡ u → let a : Invocation = record { name = m; task = t } in a ≡ record { name = n; task = u }
same_invocation m n t u e f = cc (e, f)

pub one_invocation : (words : List (List ℕ)) (a b : Invocation) → IsInvocation words a → IsInvocation words b → a ≡ b
one_invocation words a b h k =
    let e : h.first ∷ a.name ∷ h.behind ≡ k.first ∷ b.name ∷ k.behind = sym h.are ∙ k.are in
    let firsts : h.first ≡ k.first = first_word e in
    let names : a.name ≡ b.name = first_word (other_words e) in
    let others : h.behind ≡ k.behind = other_words (other_words e) in
    let P : List ℕ → Type 0 = λ z. AreTaskWords z h.behind a.task in
    let Q : List (List ℕ) → Type 0 = λ z. AreTaskWords k.first z a.task in
    same_invocation a.name b.name a.task b.task names (one_task k.first k.behind a.task b.task (subst Q others (subst P firsts h.task)) k.task)
