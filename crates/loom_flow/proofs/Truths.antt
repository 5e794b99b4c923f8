-- What a conjunction and a disjunction of tests tell.
use Rattle.std.proofs.Common.{◌≡◌, Bool, true, false, ◌&&◌, ◌||◌, ◌⊎◌, inl, inr, refl}

pub both : (a b : Bool) → (a && b) ≡ true → (a ≡ true) × (b ≡ true)
both true b h = (refl, h)
both false b h = cc

pub first_of : (a b : Bool) → (a && b) ≡ true → a ≡ true
first_of a b h = (both a b h).0

pub second_of : (a b : Bool) → (a && b) ≡ true → b ≡ true
second_of a b h = (both a b h).1

pub or_else : (a b : Bool) → (a || b) ≡ true → (a ≡ true) ⊎ (b ≡ true)
or_else true b h = inl refl
or_else false b h = inr h
