-- The parts of an entry's line.
use Rattle.std.proofs.Common.{ℕ, ◌+◌, ◌<◌, length, get_or, take, ◌≡◌, List, [], ◌∷◌, ◌++◌, map, refl, sym, ap, ◌∙◌, append_assoc, append-nil}
use Rattle.std.proofs.lemmas.List.{take_more, map-append}
use Rattle.loom_trace.specs.declared.entry.Entry.{Entry}
use Rattle.loom_trace.specs.declared.entry.Entry.TheVariants as e
use Rattle.loom_trace.specs.Text.{spaced, entry_line}
use Rattle.loom_trace.specs.Parts.{thread_and_line, place_prefix, word_of, fields_of}

pub spaced-append : (fs gs : List (List ℕ)) → spaced (fs ++ gs) ≡ spaced fs ++ spaced gs
spaced-append [] gs = refl
spaced-append (f ∷ fs) gs = ap (λ z. 32 ∷ f ++ z) (spaced-append fs gs) ∙ sym (append_assoc (32 ∷ f) (spaced fs) (spaced gs))

-- one field more
pub spaced_more : {A : Type 0} (text : A → List ℕ) (xs : List A) (i : ℕ) (d : A) (old mid new : List ℕ) → i < length xs → mid ≡ old ++ spaced (map text (take i xs)) → new ≡ mid ++ spaced (text (get_or xs i d) ∷ []) → new ≡ old ++ spaced (map text (take (i + 1) xs))
spaced_more text xs i d old mid new h is e =
    rw (e, is, take_more xs i d h, map-append, spaced-append) (simp (append_assoc, append-nil))

pub line_parts : (x : Entry) → entry_line x ≡ place_prefix (thread_and_line x) ++ word_of x ++ spaced (fields_of x)
line_parts (e.Begin t l) = simp append_assoc
line_parts (e.End t l) = simp append_assoc
line_parts (e.Trap t l reason) = simp append_assoc
line_parts (e.Read t l word value) = simp append_assoc
line_parts (e.Write t l word value) = simp append_assoc
line_parts (e.Lock t l m) = simp append_assoc
line_parts (e.Unlock t l m) = simp append_assoc
line_parts (e.Down t l s) = simp append_assoc
line_parts (e.Up t l s) = simp append_assoc
line_parts (e.Spawn t l child func args) = simp append_assoc
line_parts (e.Join t l child) = simp append_assoc
line_parts (e.Print t l value) = simp append_assoc
line_parts (e.Tick t l place) = simp append_assoc
line_parts (e.Blocked t l what) = simp append_assoc
line_parts (e.At t l k events) = simp append_assoc
line_parts (e.Past t l k events) = simp append_assoc
line_parts (e.Back t l) = simp append_assoc
line_parts (e.Enter t l k clause) = simp append_assoc
line_parts (e.Leave t l k clause) = simp append_assoc
line_parts (e.Post t l k event) = simp append_assoc
line_parts (e.Wait t l k event) = simp append_assoc
line_parts (e.Cross t l place version passed) = simp append_assoc
line_parts (e.Asked k) = refl
line_parts (e.Refused k number clause) = refl
line_parts (e.Installed k version places) = refl
line_parts (e.Removed k version places) = refl
line_parts (e.Stalled k thread line) = refl
line_parts (e.Cut k) = refl
line_parts (e.Unreached k) = refl
line_parts (e.Finish kind) = refl
