-- What is noted of all faults is the first of them.
use Rattle.std.proofs.Common.{ℕ, suc, ◌<◌, ◌≤◌, ◌≡◌, Bool, true, false, ◌&&◌, ◌||◌, cond, nat_lt, ◌⊎◌, inl, inr, List, [], ◌∷◌, Option, Some, None, MatchOption, refl, ap, sym, subst, arith}
use Rattle.std.specs.Prelude.{nat_eq}
use Rattle.std.proofs.lemmas.Bool.Decides.{leb_tells, nat_tests}
use Rattle.loom_tree.specs.Tree.{FileItem}
use Rattle.loom_lang.specs.declared.refusal.Which.TheVariants as which
use Rattle.loom_lang.specs.declared.refusal.Reason.{Reason}
use Rattle.loom_lang.specs.declared.refusal.Reason.TheVariants as reason
use Rattle.loom_lang.specs.declared.refusal.LangRefusal.{LangRefusal}
use Rattle.loom_lang.specs.Refusal.{rank, lines_of_reason, IsAmong, IsFaultless, IsFirstFault}
use Rattle.loom_lang.specs.Fault.{is_before, sooner, behind_faults, noted_all, reasons}

-- the line and the reason of a fault stand at this one or behind it
abbrev IsAtOrBehind : LangRefusal → ℕ → Reason → Type 0
IsAtOrBehind f l r = (f.line < l) ⊎ ((f.line ≡ l) × (rank f.reason ≤ rank r))

-- one of these faults, and none of them stands before it
record IsLeast (Is : ℕ → Reason → Type 0) (f : LangRefusal) : Type 0 where
  pub stands : Is f.line f.reason
  pub first : (l : ℕ) (r : Reason) → Is l r → IsAtOrBehind f l r

abbrev AreLeast : (ℕ → Reason → Type 0) → Option LangRefusal → Type 0
AreLeast Is None = (l : ℕ) (r : Reason) → Is l r → ⊥
AreLeast Is (Some f) = IsLeast Is f

-- of these faults, or this one
abbrev Or : (ℕ → Reason → Type 0) → ℕ → Reason → ℕ → Reason → Type 0
Or Is line why l r = Is l r ⊎ ((l ≡ line) × (r ≡ why))

at_itself : (f : LangRefusal) (l : ℕ) (r : Reason) → (l ≡ f.line) × (r ≡ f.reason) → IsAtOrBehind f l r
at_itself f l r h = inr (sym h.0, let e : rank r ≡ rank f.reason = ap rank h.1 in omega arith)

passed_on : (f g : LangRefusal) (l : ℕ) (r : Reason) → IsAtOrBehind f g.line g.reason → IsAtOrBehind g l r → IsAtOrBehind f l r
passed_on f g l r (inl a) (inl b) = inl (omega arith)
passed_on f g l r (inl a) (inr b) = inl (omega arith)
passed_on f g l r (inr a) (inl b) = inl (omega arith)
passed_on f g l r (inr a) (inr b) = inr (omega arith, omega arith)

-- what the tests tell of the lines a and b, and the ranks c and d

told : (a b c d : ℕ) → (nat_lt a b || (nat_eq a b && nat_lt c d)) ≡ true → (a < b) ⊎ ((a ≡ b) × (c ≤ d))
told a b c d h = go (leb_tells (suc a) b)
  where
    go : ((nat_lt a b ≡ true) × (a < b)) ⊎ ((nat_lt a b ≡ false) × (b < suc a)) → (a < b) ⊎ ((a ≡ b) × (c ≤ d))
    go (inl x) = inl x.1
    go (inr x) = inr (grind (arith, nat_tests), grind (arith, nat_tests))

told_not : (a b c d : ℕ) → (nat_lt a b || (nat_eq a b && nat_lt c d)) ≡ false → (b < a) ⊎ ((b ≡ a) × (d ≤ c))
told_not a b c d h = go (leb_tells (suc b) a)
  where
    go : ((nat_lt b a ≡ true) × (b < a)) ⊎ ((nat_lt b a ≡ false) × (a < suc b)) → (b < a) ⊎ ((b ≡ a) × (d ≤ c))
    go (inl x) = inl x.1
    go (inr x) = inr (grind (arith, nat_tests), grind (arith, nat_tests))

-- one fault more

sooner_first : (Is : ℕ → Reason → Type 0) (f : LangRefusal) → AreLeast Is None → IsLeast (Or Is f.line f.reason) f
sooner_first Is f h = record { stands = inr (refl, refl); first = go }
  where
    go : (l : ℕ) (r : Reason) → Or Is f.line f.reason l r → IsAtOrBehind f l r
    go l r (inl x) = absurd (h l r x)
    go l r (inr e) = at_itself f l r e

sooner_new : (Is : ℕ → Reason → Type 0) (f g : LangRefusal) → IsLeast Is g → is_before f g ≡ true → IsLeast (Or Is f.line f.reason) f
sooner_new Is f g h b = record { stands = inr (refl, refl); first = go }
  where
    go : (l : ℕ) (r : Reason) → Or Is f.line f.reason l r → IsAtOrBehind f l r
    go l r (inl x) = passed_on f g l r (told f.line g.line (rank f.reason) (rank g.reason) b) (h.first l r x)
    go l r (inr e) = at_itself f l r e

sooner_old : (Is : ℕ → Reason → Type 0) (f g : LangRefusal) → IsLeast Is g → is_before f g ≡ false → IsLeast (Or Is f.line f.reason) g
sooner_old Is f g h b = record { stands = inl h.stands; first = go }
  where
    go : (l : ℕ) (r : Reason) → Or Is f.line f.reason l r → IsAtOrBehind g l r
    go l r (inl x) = h.first l r x
    go l r (inr e) = passed_on g f l r (told_not f.line g.line (rank f.reason) (rank g.reason) b) (at_itself f l r e)

sooner_least : (Is : ℕ → Reason → Type 0) (first : Option LangRefusal) (f : LangRefusal) → AreLeast Is first → IsLeast (Or Is f.line f.reason) (sooner first f)
sooner_least Is None f h = sooner_first Is f h
sooner_least Is (Some g) f h = go (is_before f g) refl
  where
    go : (b : Bool) → is_before f g ≡ b → IsLeast (Or Is f.line f.reason) (cond b f g)
    go true e = sooner_new Is f g h e
    go false e = sooner_old Is f g h e

-- the same faults

least_of_same : (Is Are : ℕ → Reason → Type 0) (first : Option LangRefusal) → ((l : ℕ) (r : Reason) → Is l r → Are l r) → ((l : ℕ) (r : Reason) → Are l r → Is l r) → AreLeast Is first → AreLeast Are first
least_of_same Is Are None there back h = λ l r x. h l r (back l r x)
least_of_same Is Are (Some f) there back h = record { stands = there f.line f.reason h.stands; first = λ l r x. h.first l r (back l r x) }

-- of these faults, or for this reason at one of these lines
abbrev OrAmong : (ℕ → Reason → Type 0) → Reason → List ℕ → ℕ → Reason → Type 0
OrAmong Is why ls l r = Is l r ⊎ (IsAmong l ls × (r ≡ why))

noted_least : (Is : ℕ → Reason → Type 0) (first : Option LangRefusal) (why : Reason) (ls : List ℕ) → AreLeast Is first → AreLeast (OrAmong Is why ls) (behind_faults first why ls)
noted_least Is first why [] h = least_of_same Is (OrAmong Is why []) first (λ l r x. inl x) back h
  where
    back : (l : ℕ) (r : Reason) → OrAmong Is why [] l r → Is l r
    back l r (inl x) = x
    back l r (inr x) = absurd x.0
noted_least Is first why (k ∷ ls) h =
    least_of_same (OrAmong (Or Is k why) why ls) (OrAmong Is why (k ∷ ls)) (behind_faults first why (k ∷ ls)) there back
    (noted_least (Or Is k why) (Some (sooner first (record { line = k; reason = why }))) why ls (sooner_least Is first (record { line = k; reason = why }) h))
  where
    there : (l : ℕ) (r : Reason) → OrAmong (Or Is k why) why ls l r → OrAmong Is why (k ∷ ls) l r
    there l r (inl (inl x)) = inl x
    there l r (inl (inr x)) = inr (inl x.0, x.1)
    there l r (inr x) = inr (inr x.0, x.1)

    back : (l : ℕ) (r : Reason) → OrAmong Is why (k ∷ ls) l r → OrAmong (Or Is k why) why ls l r
    back l r (inl x) = inl (inl x)
    back l r (inr (inl e, x)) = inl (inr (e, x))
    back l r (inr (inr a, x)) = inr (a, x)

abbrev IsOne : Reason → List Reason → Type 0
IsOne r [] = ⊥
IsOne r (why ∷ whys) = (r ≡ why) ⊎ IsOne r whys

-- of these faults, or for one of these reasons in the items of a file
abbrev OrFound : (ℕ → Reason → Type 0) → List FileItem → ℕ → List Reason → ℕ → Reason → Type 0
OrFound Is items last whys l r = Is l r ⊎ (IsOne r whys × IsAmong l (lines_of_reason items last r))

all_least : (Is : ℕ → Reason → Type 0) (items : List FileItem) (last : ℕ) (first : Option LangRefusal) (whys : List Reason) → AreLeast Is first → AreLeast (OrFound Is items last whys) (noted_all items last first whys)
all_least Is items last first [] h = least_of_same Is (OrFound Is items last []) first (λ l r x. inl x) back h
  where
    back : (l : ℕ) (r : Reason) → OrFound Is items last [] l r → Is l r
    back l r (inl x) = x
    back l r (inr x) = absurd x.0
all_least Is items last first (why ∷ whys) h =
    let found : List ℕ = lines_of_reason items last why in
    least_of_same (OrFound (OrAmong Is why found) items last whys) (OrFound Is items last (why ∷ whys)) (noted_all items last first (why ∷ whys)) there back
    (all_least (OrAmong Is why found) items last (behind_faults first why found) whys (noted_least Is first why found h))
  where
    there : (l : ℕ) (r : Reason) → OrFound (OrAmong Is why (lines_of_reason items last why)) items last whys l r → OrFound Is items last (why ∷ whys) l r
    there l r (inl (inl x)) = inl x
    there l r (inl (inr x)) = inr (inl x.1, subst (λ (z : Reason). IsAmong l (lines_of_reason items last z)) (sym x.1) x.0)
    there l r (inr x) = inr (inr x.0, x.1)

    back : (l : ℕ) (r : Reason) → OrFound Is items last (why ∷ whys) l r → OrFound (OrAmong Is why (lines_of_reason items last why)) items last whys l r
    back l r (inl x) = inl (inl x)
    back l r (inr (inl e, x)) = inl (inr (subst (λ (z : Reason). IsAmong l (lines_of_reason items last z)) e x, e))
    back l r (inr (inr o, x)) = inr (o, x)

-- each reason is looked for but the grammar's, which the tokens tell
looked_for : (items : List FileItem) (last l : ℕ) (r : Reason) → IsAmong l (lines_of_reason items last r) → IsOne r reasons
looked_for items last l reason.Syntax h = absurd h
looked_for items last l reason.SecondOnLine h = inl refl
looked_for items last l (reason.TooMany which.Statements) h = inr (inl refl)
looked_for items last l reason.UnknownName h = inr (inr (inl refl))
looked_for items last l reason.NameTwice h = inr (inr (inr (inl refl)))
looked_for items last l reason.WrongCount h = inr (inr (inr (inr (inl refl))))
looked_for items last l reason.NoMain h = inr (inr (inr (inr (inr (inl refl)))))
looked_for items last l (reason.TooMany which.Functions) h = inr (inr (inr (inr (inr (inr (inl refl))))))
looked_for items last l (reason.TooMany which.Params) h = inr (inr (inr (inr (inr (inr (inr (inl refl)))))))
looked_for items last l (reason.TooMany which.Locals) h = inr (inr (inr (inr (inr (inr (inr (inr (inl refl))))))))
looked_for items last l (reason.TooMany which.Names) h = inr (inr (inr (inr (inr (inr (inr (inr (inr (inl refl)))))))))
looked_for items last l (reason.TooMany which.Cells) h = inr (inr (inr (inr (inr (inr (inr (inr (inr (inr (inl refl))))))))))

fault_told : (items : List FileItem) (last : ℕ) (first : Option LangRefusal) → AreLeast (λ l r. IsAmong l (lines_of_reason items last r)) first → MatchOption first (IsFaultless items last) (λ (f : LangRefusal). IsFirstFault items last f.line f.reason)
fault_told items last None h = h
fault_told items last (Some f) h = record { stands = h.stands; first = h.first }

pub first_told : (items : List FileItem) (last : ℕ) (first : Option LangRefusal) → first ≡ noted_all items last None reasons → MatchOption first (IsFaultless items last) (λ (f : LangRefusal). IsFirstFault items last f.line f.reason)
first_told items last first e =
    let Found : ℕ → Reason → Type 0 = λ l r. IsAmong l (lines_of_reason items last r) in
    let least : AreLeast Found (noted_all items last None reasons) = least_of_same (OrFound (λ l r. ⊥) items last reasons) Found (noted_all items last None reasons) there (λ l r x. inr (looked_for items last l r x, x)) (all_least (λ l r. ⊥) items last None reasons (λ l r x. x)) in
    fault_told items last first (subst (AreLeast Found) (sym e) least)
  where
    there : (l : ℕ) (r : Reason) → OrFound (λ l r. ⊥) items last reasons l r → IsAmong l (lines_of_reason items last r)
    there l r (inl x) = absurd x
    there l r (inr x) = x.1
