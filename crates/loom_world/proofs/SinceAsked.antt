-- What stands behind the last `Asked`, and which places are listed, with one more entry.
use Rattle.std.proofs.Common.{ℕ, ◌≡◌, ◌==◌, Bool, true, false, List, [], ◌∷◌, ◌++◌, Some, refl, ap, ◌∙◌, if◌then◌else◌}
use Rattle.loom_trace.specs.declared.entry.Entry.{Entry}
use Rattle.loom_trace.specs.declared.entry.Entry.TheVariants as e
use Rattle.loom_event.specs.Entries.{thread_of, is_thread}
use Rattle.loom_law.specs.Control.{entries_of, listed_places, since_asked, since_asked_from}
use Rattle.loom_law.proofs.Longer.{mine, not_mine}
use Rattle.loom_world.proofs.OwnVersions.{listed_last, listed_by_thread}

-- a command is asked with this entry
abbrev pub is_asking : Entry → Bool
is_asking (e.Asked k) = true
is_asking _ = false

since_last : (so_far es : List Entry) (x : Entry) → is_asking x ≡ false → since_asked_from so_far (es ++ x ∷ []) ≡ since_asked_from so_far es ++ x ∷ []
since_last so_far [] (e.Asked k) h = cc
since_last so_far [] _ h = refl
since_last so_far (e.Asked k ∷ es) x h = since_last [] es x h
since_last so_far (y ∷ es) x h = since_last (so_far ++ y ∷ []) es x h

pub since_more : (es : List Entry) (x : Entry) → is_asking x ≡ false → since_asked (es ++ x ∷ []) ≡ since_asked es ++ x ∷ []
since_more es x h = since_last [] es x h

since_now : (so_far es : List Entry) (k : ℕ) → since_asked_from so_far (es ++ e.Asked k ∷ []) ≡ []
since_now so_far [] k = refl
since_now so_far (e.Asked j ∷ es) k = since_now [] es k
since_now so_far (y ∷ es) k = since_now (so_far ++ y ∷ []) es k

-- Directly behind `Asked` nothing stands.
pub nothing_since : (es : List Entry) (k : ℕ) → since_asked (es ++ e.Asked k ∷ []) ≡ []
nothing_since es k = since_now [] es k

not_asking : (x : Entry) (w : ℕ) → thread_of x ≡ Some w → is_asking x ≡ false
not_asking (e.Asked k) w h = cc
not_asking _ w h = refl

-- an entry of thread w is no entry of another one, there too
pub since_other : (es : List Entry) (x : Entry) (w t : ℕ) → thread_of x ≡ Some w → (w == t) ≡ false → entries_of t (since_asked (es ++ x ∷ [])) ≡ entries_of t (since_asked es)
since_other es x w t of other =
    ap (entries_of t) (since_more es x (not_asking x w of)) ∙ not_mine t x (since_asked es) (ap (is_thread t) of ∙ other)

pub since_own : (es : List Entry) (x : Entry) (w t : ℕ) → thread_of x ≡ Some w → (w == t) ≡ true → entries_of t (since_asked (es ++ x ∷ [])) ≡ entries_of t (since_asked es) ++ x ∷ []
since_own es x w t of same =
    ap (entries_of t) (since_more es x (not_asking x w of)) ∙ mine t x (since_asked es) (ap (is_thread t) of ∙ same)

-- Behind an entry of its own no place is listed for a thread, and that of another one leaves what is.
pub none_listed : (es : List Entry) (x : Entry) (w t : ℕ) → thread_of x ≡ Some w → (w == t) ≡ true → listed_places t (es ++ x ∷ []) ≡ []
none_listed es x w t of same =
    listed_last t [] es x ∙ (listed_by_thread t (listed_places t es) x w of ∙ ap (λ (c : Bool). if c then [] else listed_places t es) same)

pub listed_stays : (es : List Entry) (x : Entry) (w t : ℕ) → thread_of x ≡ Some w → (w == t) ≡ false → listed_places t (es ++ x ∷ []) ≡ listed_places t es
listed_stays es x w t of other =
    listed_last t [] es x ∙ (listed_by_thread t (listed_places t es) x w of ∙ ap (λ (c : Bool). if c then [] else listed_places t es) other)
