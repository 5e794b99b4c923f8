-- What a sink and a page hold, together.
use Rattle.std.proofs.Common.{ℕ, ◌+◌, ◌≡◌, List, [], ◌++◌, Option, Some, None, take, length, length-append, ap, sym, subst, ◌∙◌, append_assoc, append-nil, arith}
use Rattle.std.proofs.lemmas.List.{take-append-le}
use Rattle.std.proofs.Math.Seq.{take-append-add}
use Rattle.std.specs.Io.KnownBytes.{Appends}
use Rattle.loom_io.specs.Sink.{TookFront}
use Rattle.loom_io.specs.Page.{PageTook}

pub appends_none : (a : Option (List ℕ)) → Appends a a []
appends_none None = tt
appends_none (Some xs) = sym (append-nil xs)

pub appends_then : (a b c : Option (List ℕ)) (x y : List ℕ) → Appends a b x → Appends b c y → Appends a c (x ++ y)
appends_then None b c x y h k = tt
appends_then (Some xs) None c x y h k = absurd h
appends_then (Some xs) (Some ys) None x y h k = absurd k
appends_then (Some xs) (Some ys) (Some zs) x y h k = k ∙ ap (λ z. z ++ y) h ∙ append_assoc xs x y

-- nothing was done
pub paged_none : (a : Option (List ℕ)) (p : List ℕ) → PageTook a a p p []
paged_none a p = record { taken = []; appended = appends_none a; whole = append-nil p }

-- the page was put
pub paged_put : (a b : Option (List ℕ)) (p q : List ℕ) → Appends a b p → q ≡ [] → PageTook a b p q []
paged_put a b p q h e = record { taken = p; appended = h; whole = ap (λ z. p ++ z) (sym e) }

-- the page took a text
pub paged_add : (a b : Option (List ℕ)) (p q r x : List ℕ) → PageTook a b p q [] → r ≡ q ++ x → PageTook a b p r x
paged_add a b p q r x h e = record {
  taken = h.taken;
  appended = h.appended;
  whole = ap (λ z. z ++ x) (sym (append-nil p) ∙ h.whole) ∙ append_assoc h.taken q x ∙ ap (λ z. h.taken ++ z) (sym e);
}

-- a text, and then another
pub paged_then : (a b c : Option (List ℕ)) (p q r x y : List ℕ) → PageTook a b p q x → PageTook b c q r y → PageTook a c p r (x ++ y)
paged_then a b c p q r x y h k = record {
  taken = h.taken ++ k.taken;
  appended = appends_then a b c h.taken k.taken h.appended k.appended;
  whole =
      sym (append_assoc p x y)
      ∙ ap (λ z. z ++ y) h.whole
      ∙ append_assoc h.taken q y
      ∙ ap (λ z. h.taken ++ z) k.whole
      ∙ sym (append_assoc h.taken k.taken r);
}

-- a text that began on an empty page, and then the page was put
pub paged_whole : (a b c : Option (List ℕ)) (q x : List ℕ) → PageTook a b [] q x → Appends b c q → Appends a c x
paged_whole a b c q x h k = subst (Appends a c) (sym h.whole) (appends_then a b c h.taken q h.appended k)

-- a front of a text is one of a longer text
pub front_longer : (a b : Option (List ℕ)) (t u : List ℕ) → TookFront a b t → TookFront a b (t ++ u)
front_longer a b t u h = record {
  count = h.count;
  within = omega (arith, h.within, length-append t u);
  taken = subst (Appends a b) (sym (take-append-le h.count t u h.within)) h.taken;
}

-- a text, and then a front of what the page holds and of more
pub front_behind : (a b c : Option (List ℕ)) (p q x y : List ℕ) → PageTook a b p q x → TookFront b c (q ++ y) → TookFront a c (p ++ (x ++ y))
front_behind a b c p q x y h k =
    let same : h.taken ++ (q ++ y) ≡ p ++ (x ++ y) =
    sym (append_assoc h.taken q y) ∙ ap (λ z. z ++ y) (sym h.whole) ∙ append_assoc p x y in
    subst (TookFront a c) same (record {
      count = length h.taken + k.count;
      within = omega (arith, k.within, length-append h.taken (q ++ y));
      taken =
          subst (Appends a c) (sym (take-append-add h.taken (q ++ y) k.count))
          (appends_then a b c h.taken (take k.count (q ++ y)) h.appended k.taken);
    })

-- a text that began on an empty page, and then a front of what the page holds
pub front_put : (a b c : Option (List ℕ)) (q x : List ℕ) → PageTook a b [] q x → TookFront b c q → TookFront a c x
front_put a b c q x h k =
    subst (TookFront a c) (append-nil x)
    (front_behind a b c [] q x [] h (subst (TookFront b c) (sym (append-nil q)) k))
