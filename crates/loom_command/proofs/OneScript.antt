-- The same bytes are at most one script.
use Rattle.std.proofs.Common.{ℕ, suc, ◌≡◌, inl, inr, Bool, false, List, [], ◌∷◌, ◌++◌, refl, sym, ap, subst, ◌∙◌, arith}
use Rattle.loom_lexer.specs.Lexeme.{Each}
use Rattle.loom_command.specs.FilterText.{is_blank}
use Rattle.loom_command.specs.Script.{Trigger, at, stall, ScriptAction, install, remove, ScriptCommand, HasFields, IsSkipped, EndsDark, IsTrimmed, WhenFields, ActionFields, IsCommandLine, AreCommands, script_lines}
use Rattle.loom_command.specs.Laws.{HasOneScript}
use Rattle.loom_command.proofs.Digits.{one_decimal}
use Rattle.loom_lexer.proofs.Unique.{one_cut}
use Rattle.loom_command.proofs.Fields.{SameField, same_behind, one_field, has_dark}

-- four fields

record SameFields (a a' b b' c c' d d' rest rest' : List ℕ) : Type 0 where
  pub first : a ≡ a'
  pub second : b ≡ b'
  pub third : c ≡ c'
  pub fourth : d ≡ d'
  pub behind : rest ≡ rest'

-- one field less, of the same bytes
record Shorter (f g : List ℕ) (fs gs : List (List ℕ)) (rest rest' : List ℕ) : Type 0 where
  pub field : f ≡ g
  pub more : List ℕ
  pub left : HasFields fs rest more
  pub right : HasFields gs rest' more

shorter : (f g : List ℕ) (fs gs : List (List ℕ)) (rest rest' bytes : List ℕ) → HasFields (f ∷ fs) rest bytes → HasFields (g ∷ gs) rest' bytes → Shorter f g fs gs rest rest'
shorter f g fs gs rest rest' bytes h k =
    let s : SameField f g h.1 k.1 = one_field h.0 k.0 f g h.1 k.1 h.3 k.3 h.4 k.4 h.5 k.5 (sym h.2 ∙ k.2) in
    record { field = s.field; more = k.1; left = subst (λ z. HasFields fs rest z) s.behind h.6; right = k.6 }

four : (a a' b b' c c' d d' rest rest' bytes : List ℕ) → HasFields (a ∷ b ∷ c ∷ d ∷ []) rest bytes → HasFields (a' ∷ b' ∷ c' ∷ d' ∷ []) rest' bytes
    → SameFields a a' b b' c c' d d' rest rest'
four a a' b b' c c' d d' rest rest' bytes h k =
    let p = shorter a a' (b ∷ c ∷ d ∷ []) (b' ∷ c' ∷ d' ∷ []) rest rest' bytes h k in
    let q = shorter b b' (c ∷ d ∷ []) (c' ∷ d' ∷ []) rest rest' p.more p.left p.right in
    let r = shorter c c' (d ∷ []) (d' ∷ []) rest rest' q.more q.left q.right in
    let s = shorter d d' [] [] rest rest' r.more r.left r.right in
    record { first = p.field; second = q.field; third = r.field; fourth = s.field; behind = sym s.left ∙ s.right }

-- when, and what

abbrev first_byte : List ℕ → ℕ
first_byte [] = 0
first_byte (b ∷ bs) = b

one_trigger : (x y : Trigger) (a b : List ℕ) → WhenFields x a b → WhenFields y a b → x ≡ y
one_trigger (at n) (at m) a b h k = ap at (one_decimal n m (sym h.1 ∙ k.1))
one_trigger (at n) stall a b h k = let e : 97 ≡ 111 = ap first_byte (sym h.0 ∙ k.0) in absurd (omega (arith, e))
one_trigger stall (at m) a b h k = let e : 111 ≡ 97 = ap first_byte (sym h.0 ∙ k.0) in absurd (omega (arith, e))
one_trigger stall stall a b h k = refl

-- Blanks behind a text that ends with none

ends : (c : ℕ) (zs : List ℕ) → EndsDark (c ∷ zs) → EndsDark zs
ends c [] h = tt
ends c (z ∷ zs) h = h

not_blank : (zs ws : List ℕ) (c : ℕ) (vs : List ℕ) → EndsDark (c ∷ zs) → Each is_blank vs → (c ∷ zs) ++ ws ≡ vs → ⊥
not_blank [] ws c [] h k g = let z : c ∷ ws ≡ [] = g in cc
not_blank [] ws c (v ∷ vs) h k g = let q : c ≡ v = cc in let j : is_blank c ≡ is_blank v = ap is_blank q in let l = k.0 in cc
not_blank (z ∷ zs) ws c [] h k g = let y : c ∷ z ∷ (zs ++ ws) ≡ [] = g in cc
not_blank (z ∷ zs) ws c (v ∷ vs) h k g = not_blank zs ws z vs h k.1 (let y : (z ∷ zs) ++ ws ≡ vs = cc in y)

one_end : (v w : List ℕ) → EndsDark v → EndsDark w → (ps bs : List ℕ) → Each is_blank ps → Each is_blank bs → v ++ ps ≡ w ++ bs → v ≡ w
one_end [] [] hv hw ps bs ha hb g = refl
one_end [] (z ∷ w) hv hw ps bs ha hb g = absurd (not_blank w bs z ps hw ha (sym g))
one_end (z ∷ v) [] hv hw ps bs ha hb g = absurd (not_blank v ps z bs hv hb g)
one_end (z ∷ v) (y ∷ w) hv hw ps bs ha hb g =
    let q : z ≡ y = cc in
    let r : v ++ ps ≡ w ++ bs = cc in
    let i : v ≡ w = one_end v w (ends z v hv) (ends y w hw) ps bs ha hb r in
    cc

each_both : (p : ℕ → Bool) (xs ys : List ℕ) → Each p xs → Each p ys → Each p (xs ++ ys)
each_both p [] ys h k = k
each_both p (x ∷ xs) ys h k = (h.0, each_both p xs ys h.1 k)

one_dark : (ps : List ℕ) (b : ℕ) (xs : List ℕ) → is_blank b ≡ false → Each is_blank (ps ++ (b ∷ xs)) → ⊥
one_dark [] b xs n e = let y = e.0 in cc
one_dark (a ∷ ps) b xs n e = one_dark ps b xs n e.1

one_trimmed : (rest t u : List ℕ) → IsTrimmed rest t → IsTrimmed rest u → t ≡ u
one_trimmed rest [] [] h k = refl
one_trimmed rest [] (b ∷ u) h k =
    let all : Each is_blank (h.before ++ h.behind) = each_both is_blank h.before h.behind h.blank_before h.blank_behind in
    absurd (one_dark k.before b (u ++ k.behind) k.begins (subst (λ z. Each is_blank z) (sym h.is ∙ k.is) all))
one_trimmed rest (b ∷ t) [] h k =
    let all : Each is_blank (k.before ++ k.behind) = each_both is_blank k.before k.behind k.blank_before k.blank_behind in
    absurd (one_dark h.before b (t ++ h.behind) h.begins (subst (λ z. Each is_blank z) (sym k.is ∙ h.is) all))
one_trimmed rest (a ∷ t) (b ∷ u) h k =
    let before : h.before ≡ k.before = one_cut is_blank h.before k.before _ _ h.blank_before k.blank_before h.begins k.begins (sym h.is ∙ k.is) in
    let behind : (a ∷ t) ++ h.behind ≡ (b ∷ u) ++ k.behind = same_behind k.before _ _ (ap (λ z. z ++ ((a ∷ t) ++ h.behind)) (sym before) ∙ sym h.is ∙ k.is) in
    one_end (a ∷ t) (b ∷ u) h.ends k.ends h.behind k.behind h.blank_behind k.blank_behind behind

one_action : (x y : ScriptAction) (a rest : List ℕ) → ActionFields x a rest → ActionFields y a rest → x ≡ y
one_action (install t) (install u) a rest h k = ap install (one_trimmed rest t u h.1 k.1)
one_action (install t) remove a rest h k = let e : 105 ≡ 114 = ap first_byte (sym h.0 ∙ k.0) in absurd (omega (arith, e))
one_action remove (install u) a rest h k = let e : 114 ≡ 105 = ap first_byte (sym h.0 ∙ k.0) in absurd (omega (arith, e))
one_action remove remove a rest h k = refl

-- Lines

same_command : (l m : ℕ) (x y : Trigger) (f g : List ℕ) (a b : ScriptAction) → l ≡ m → x ≡ y → f ≡ g → a ≡ b
    → ◌≡◌ {A = ScriptCommand} (record { line = l; trigger = x; name = f; action = a }) (record { line = m; trigger = y; name = g; action = b })
same_command l m x y f g a b e h i j = rw (e, h, i, j) refl

one_command : (n : ℕ) (line : List ℕ) (c d : ScriptCommand) → IsCommandLine n line c → IsCommandLine n line d → c ≡ d
one_command n line c d h k =
    let s = four h.when k.when h.which k.which h.verb k.verb c.name d.name h.rest k.rest line h.fields k.fields in
    let trigger : c.trigger ≡ d.trigger =
    one_trigger c.trigger d.trigger h.when h.which h.trigger (subst (λ z. WhenFields d.trigger z h.which) (sym s.first) (subst (λ z. WhenFields d.trigger k.when z) (sym s.second) k.trigger)) in
    let action : c.action ≡ d.action =
    one_action c.action d.action h.verb h.rest h.action (subst (λ z. ActionFields d.action z h.rest) (sym s.third) (subst (λ z. ActionFields d.action k.verb z) (sym s.behind) k.action)) in
    let name : c.name ≡ d.name = s.fourth in
    same_command c.line d.line c.trigger d.trigger c.name d.name c.action d.action (h.number_is ∙ sym k.number_is) trigger name action

-- a command isn't skipped

not_hash : (x : Trigger) (f b : List ℕ) → WhenFields x (35 ∷ f) b → ⊥
not_hash (at n) f b h = let e : 35 ≡ 97 = ap first_byte h.0 in omega (arith, e)
not_hash stall f b h = let e : 35 ≡ 111 = ap first_byte h.0 in omega (arith, e)

pub not_skipped : (n : ℕ) (line : List ℕ) (c : ScriptCommand) → IsCommandLine n line c → IsSkipped line → ⊥
not_skipped n line c h (inl blank) = has_dark h.fields.0 h.when h.fields.1 h.fields.4 (subst (λ z. Each is_blank z) h.fields.2 blank)
not_skipped n line c h (inr k) =
    let s = shorter h.when (35 ∷ k.0) (h.which ∷ h.verb ∷ c.name ∷ []) [] h.rest k.1 line h.fields k.2 in
    not_hash c.trigger k.0 h.which (subst (λ z. WhenFields c.trigger z h.which) s.field h.trigger)

one_list : (n : ℕ) (ls : List (List ℕ)) (cs ds : List ScriptCommand) → AreCommands n ls cs → AreCommands n ls ds → cs ≡ ds
one_list n [] cs ds h k = h ∙ sym k
one_list n (l ∷ ls) cs ds (inl h) (inl k) = one_list (suc n) ls cs ds h.1 k.1
one_list n (l ∷ ls) cs ds (inl h) (inr k) = absurd (not_skipped n l k.0 k.3 h.0)
one_list n (l ∷ ls) cs ds (inr h) (inl k) = absurd (not_skipped n l h.0 h.3 k.0)
one_list n (l ∷ ls) cs ds (inr h) (inr k) =
    let first : h.0 ≡ k.0 = one_command n l h.0 k.0 h.3 k.3 in
    let others : h.1 ≡ k.1 = one_list (suc n) ls h.1 k.1 h.4 k.4 in
    h.2 ∙ ap (λ z. z ∷ h.1) first ∙ ap (λ z. k.0 ∷ z) others ∙ sym k.2

pub one_script : HasOneScript
one_script bytes cs ds h k = one_list 1 (script_lines bytes) cs ds h.commands k.commands
