-- Where threads were found: at places of the program, flagged ones or others.
use Rattle.std.proofs.Common.{ℕ, zero, suc, ◌+◌, ◌-◌, ◌<◌, ◌≤◌, ◌≡◌, ◌⊎◌, inl, inr, true, false, List, [], ◌∷◌, length, get_or, slice_get, slice_set, Option, Some, None, refl, sym, ap, ◌∙◌, subst, arith}
use Rattle.std.specs.Prelude.{IfSome, IfNone, option_map}
use Rattle.std.specs.Prelude as std
use Rattle.std.specs.Option.{option_flatten}
use Rattle.std.proofs.lemmas.List.{length-set}
use Rattle.std.proofs.lemmas.Option.{slice_get_within, slice_get_read}
use Rattle.loom_tree.specs.Tree.{Source}
use Rattle.loom_lang.specs.Places.{Place, nowhere, places, place_at, line_of_place}
use Rattle.loom_flow.proofs.Places.{few_places}
use Rattle.loom_trace.specs.Limits.{thread_limit, place_limit}
use Rattle.loom_trace.specs.Places.{has_place}
use Rattle.loom_event.specs.Replay.{ThreadState, thread_at}
use Rattle.loom_law.specs.Filter.{is_some}
use Rattle.loom_law.specs.Control.{Control}
use Rattle.loom_law.specs.Lawful.{running_thread, Lives, IsBlocked, IsFlagged, refusal}
use Rattle.loom_world.specs.declared.found.Halt.TheVariants as halt
use Rattle.loom_world.specs.declared.found.Stall.{Stall}
use Rattle.loom_world.specs.Answers.{IsFoundFlagged, IsFoundUnflagged, row_number, AreFound, IsFoundStalled}
use Rattle.loom_world.specs.Book.{Book, setting, front, stand_at, found_at, found_place, HasLawfulJournal}
use Rattle.loom_world.specs.BookInvariant.{Notes, BookInvariant}
use Rattle.loom_world.specs.Flags.{AreFlags}
use Rattle.loom_world.specs.Halts.{IsHaltedAt, MayStillMove, HaltsSo, first_stall}
use Rattle.loom_world.proofs.InvariantReadings.{live_number, up_to}

-- Places

-- It is a place of the program.
pub found_number : (b : Book) → HasLawfulJournal b → (t k : ℕ) → found_place b t ≡ Some k → (y : Place) × (place_at b.program k ≡ Some y)
found_number b j t k found = by_state (running_thread (thread_at b.store t)) refl
  where
    by_state : (o : Option ThreadState) → running_thread (thread_at b.store t) ≡ o → (y : Place) × (place_at b.program k ≡ Some y)
    by_state None rests =
        let first : Some 0 ≡ Some k = sym (ap (λ (o : Option ThreadState). found_at o (stand_at b.stands t)) rests) ∙ found in
        let zero_so : 0 ≡ k = cc in
        (nowhere, subst (λ z. place_at b.program z ≡ Some nowhere) zero_so refl)
    by_state (Some x) runs =
        let noted : stand_at b.stands t ≡ Some k = sym (ap (λ (o : Option ThreadState). found_at o (stand_at b.stands t)) runs) ∙ found in
        let s = j.stands.each t x k runs noted in
        (s.place, s.number)

pub found_within : (b : Book) → HasLawfulJournal b → (t k : ℕ) → found_place b t ≡ Some k → k < length (places b.program)
found_within b j t k found = let y = found_number b j t k found in slice_get_within (places b.program) k y.0 y.1

-- where its note is read
pub stand_read : (xs : List (Option ℕ)) (t : ℕ) (o : Option ℕ) → 1 ≤ t → t ≤ length xs → o ≡ get_or xs (t - 1) o → stand_at xs t ≡ o
stand_read xs t o first last is =
    let next : suc (t - 1) ≡ t = omega (arith, first) in
    subst (λ z. stand_at xs z ≡ o) next (ap option_flatten (slice_get_read xs (length xs) (t - 1) o refl (omega (arith, first, last)) is))

pub found_runs : (b : Book) (t : ℕ) (o : Option ℕ) → is_some (running_thread (thread_at b.store t)) ≡ true → stand_at b.stands t ≡ o → o ≡ found_place b t
found_runs b t o runs note = by_state (running_thread (thread_at b.store t)) refl runs
  where
    by_state : (r : Option ThreadState) → running_thread (thread_at b.store t) ≡ r → is_some r ≡ true → o ≡ found_place b t
    by_state None is some = cc
    by_state (Some x) is some = sym note ∙ sym (ap (λ (r : Option ThreadState). found_at r (stand_at b.stands t)) is)

pub found_rests : (b : Book) (t : ℕ) → is_some (running_thread (thread_at b.store t)) ≡ false → Some 0 ≡ found_place b t
found_rests b t rests = by_state (running_thread (thread_at b.store t)) refl rests
  where
    by_state : (r : Option ThreadState) → running_thread (thread_at b.store t) ≡ r → is_some r ≡ false → Some 0 ≡ found_place b t
    by_state None is none = sym (ap (λ (r : Option ThreadState). found_at r (stand_at b.stands t)) is)
    by_state (Some x) is none = cc

-- It has a number below the limit.
pub found_low : (b : Book) → HasLawfulJournal b → (t k : ℕ) → found_place b t ≡ Some k → k < place_limit
found_low b j t k found = let few = few_places b.program j.rules in let less = found_within b j t k found in omega (arith, few, less)

-- Flagged ones

pub is_flagged : (b : Book) → HasLawfulJournal b → (k t n : ℕ) (set : List ℕ) → Control.asked (front b).control ≡ Some k → refusal (setting b) (front b).control k ≡ None → AreFlags b set
    → found_place b t ≡ Some n → has_place set n ≡ true → IsFoundFlagged b k t
is_flagged b j k t n set asked accepted flags found there =
    let y = found_number b j t n found in
    record { number = n; found = found; place = y.0; is = y.1; flagged = (flags.up k (record { asked = asked; not_refused = accepted }) n y.0 y.1).0 there }

pub not_flagged : (b : Book) (k t n : ℕ) (set : List ℕ) → Control.asked (front b).control ≡ Some k → refusal (setting b) (front b).control k ≡ None → AreFlags b set
    → found_place b t ≡ Some n → has_place set n ≡ false → IsFoundFlagged b k t → ⊥
not_flagged b k t n set asked accepted flags found none x =
    let same : x.number ≡ n = cc (x.found, found) in
    let at_n : place_at b.program n ≡ Some x.place = subst (λ z. place_at b.program z ≡ Some x.place) same x.is in
    let yes : has_place set n ≡ true = (flags.up k (record { asked = asked; not_refused = accepted }) n x.place at_n).1 x.flagged in
    let no : true ≡ false = sym yes ∙ none in cc

pub found_nowhere : (b : Book) (k t : ℕ) → found_place b t ≡ None → IsFoundFlagged b k t → ⊥
found_nowhere b k t none x = let no : None ≡ Some x.number = sym none ∙ x.found in cc

-- where none was told
pub none_told : (o : Option ℕ) (P : Type 0) → IfNone o P → std.is_some o ≡ false → P
none_told None P h none = h
none_told (Some n) P h none = cc

-- what isn't flagged
pub is_unflagged : (b : Book) → HasLawfulJournal b → (k t n : ℕ) → found_place b t ≡ Some n → (IsFoundFlagged b k t → ⊥) → (l : ℕ) × IsFoundUnflagged b k t l
is_unflagged b j k t n found none =
    let y = found_number b j t n found in (
      line_of_place b.program y.0,
      record {
        number = n;
        found = found;
        place = y.0;
        is = y.1;
        not_flagged = λ f. none (record { number = n; found = found; place = y.0; is = y.1; flagged = f });
        line = refl;
      },
    )

not_both : (b : Book) (k t l : ℕ) → IsFoundFlagged b k t → IsFoundUnflagged b k t l → ⊥
not_both b k t l x y =
    let same : x.number ≡ y.number = cc (x.found, y.found) in
    let at_y : place_at b.program y.number ≡ Some x.place = subst (λ z. place_at b.program z ≡ Some x.place) same x.is in
    let one : x.place ≡ y.place = cc (at_y, y.is) in
    y.not_flagged (subst (IsFlagged (setting b) k) one x.flagged)

-- Rows

set_there : (xs : List ℕ) (i y : ℕ) → i < length xs → slice_get (slice_set xs i y) i ≡ Some y
set_there [] i y h = let no : ⊥ = omega (arith, h) in absurd no
set_there (x ∷ xs) zero y h = refl
set_there (x ∷ xs) (suc i) y h = set_there xs i y (omega (arith, h))

set_away : (xs : List ℕ) (i j y : ℕ) → (i ≡ j → ⊥) → slice_get (slice_set xs i y) j ≡ slice_get xs j
set_away [] i j y h = refl
set_away (x ∷ xs) zero zero y h = absurd (h refl)
set_away (x ∷ xs) zero (suc j) y h = refl
set_away (x ∷ xs) (suc i) zero y h = refl
set_away (x ∷ xs) (suc i) (suc j) y h = set_away xs i j y (λ g. h (ap suc g))

-- the threads before this one were found at flagged places, and the row lists these
pub record AreFoundBefore (b : Book) (k n : ℕ) (row : List ℕ) : Type 0 where
  pub each : (t : ℕ) → 1 ≤ t → t < n → IsFoundFlagged b k t
  pub count : length row ≡ thread_limit
  pub listed : (t : ℕ) → 1 ≤ t → t < n → found_place b t ≡ row_number row t

pub none_before : (b : Book) (k : ℕ) (row : List ℕ) → length row ≡ thread_limit → AreFoundBefore b k 1 row
none_before b k row count = record {
  each = λ t first last. (let no : ⊥ = omega (arith, first, last) in absurd no);
  count = count;
  listed = λ t first last. (let no : ⊥ = omega (arith, first, last) in absurd no);
}

pub found_more : (b : Book) (k n y : ℕ) (row : List ℕ) → 1 ≤ n → n ≤ thread_limit → AreFoundBefore b k n row → found_place b n ≡ Some y → IsFoundFlagged b k n
    → AreFoundBefore b k (n + 1) (slice_set row (n - 1) y)
found_more b k n y row first last before found flagged = record { each = each; count = length-set row (n - 1) y ∙ before.count; listed = listed }
  where
    each : (t : ℕ) → 1 ≤ t → t < n + 1 → IsFoundFlagged b k t
    each t one less = either (up_to t n less)
      where
        either : (t < n) ⊎ (t ≡ n) → IsFoundFlagged b k t
        either (inl h) = before.each t one h
        either (inr h) = subst (IsFoundFlagged b k) (sym h) flagged

    here_ : row_number (slice_set row (n - 1) y) n ≡ Some y
    here_ =
        let next : suc (n - 1) ≡ n = omega (arith, first) in
        subst (λ z. row_number (slice_set row (n - 1) y) z ≡ Some y) next (set_there row (n - 1) y (omega (arith, first, last, before.count)))

    away : (t : ℕ) → 1 ≤ t → t < n → row_number (slice_set row (n - 1) y) t ≡ row_number row t
    away zero one less = refl
    away (suc i) one less = set_away row (n - 1) i y (λ g. (let no : ⊥ = omega (arith, g, less, first) in no))

    listed : (t : ℕ) → 1 ≤ t → t < n + 1 → found_place b t ≡ row_number (slice_set row (n - 1) y) t
    listed t one less = either (up_to t n less)
      where
        either : (t < n) ⊎ (t ≡ n) → found_place b t ≡ row_number (slice_set row (n - 1) y) t
        either (inl h) = before.listed t one h ∙ sym (away t one h)
        either (inr h) = ap (found_place b) h ∙ (found ∙ (sym here_ ∙ ap (row_number (slice_set row (n - 1) y)) (sym h)))

pub all_found : (b : Book) (k n : ℕ) (row : List ℕ) → n ≡ suc thread_limit → AreFoundBefore b k n row → AreFound b k row
all_found b k n row is before = record {
  each = λ t first last. before.each t first (omega (arith, last, is));
  count = before.count;
  listed = λ t first last. before.listed t first (omega (arith, last, is));
}

-- What is found of a thread

pub halts_at : (b : Book) → HasLawfulJournal b → (k t n : ℕ) → Lives b.store t → (IsFoundFlagged b k t → ⊥) → IsBlocked (setting b) (front b) t → found_place b t ≡ Some n → HaltsSo b k t (halt.Blocked n)
halts_at b j k t n lives none blocked found =
    let x = is_unflagged b j k t n found none in
    record { lives = lives; line = x.0; found = found; unflagged = x.1; blocked = blocked }

-- it is blocked where it was found, and its line is that
line_is : (p : Source) (o : Option Place) (y : Place) (l m : ℕ) → o ≡ Some y → option_map (line_of_place p) o ≡ Some l → m ≡ line_of_place p y → l ≡ m
line_is p o y l m is told line = let same : Some (line_of_place p y) ≡ Some l = sym (ap (option_map (line_of_place p)) is) ∙ told in let one : line_of_place p y ≡ l = cc in sym one ∙ sym line

pub halted_line : (b : Book) (k t n l : ℕ) → IsHaltedAt b k t n → option_map (line_of_place b.program) (place_at b.program n) ≡ Some l → IsFoundUnflagged b k t l
halted_line b k t n l x told =
    let u = x.unflagged in
    let same : u.number ≡ n = cc (u.found, x.found) in
    let at_n : place_at b.program n ≡ Some u.place = subst (λ z. place_at b.program z ≡ Some u.place) same u.is in
    subst (IsFoundUnflagged b k t) (sym (line_is b.program (place_at b.program n) u.place l x.line at_n told u.line)) u

pub halted_within : (b : Book) (k t n : ℕ) → IsHaltedAt b k t n → n < length (places b.program)
halted_within b k t n x =
    let u = x.unflagged in
    let same : u.number ≡ n = cc (u.found, x.found) in
    slice_get_within (places b.program) n u.place (subst (λ z. place_at b.program z ≡ Some u.place) same u.is)

-- Stalls

-- a thread stands at a flagged place, or is blocked at another one
abbrev pub IsHalted : Book → ℕ → ℕ → Type 0
IsHalted b k u = IsFoundFlagged b k u ⊎ (((m : ℕ) × IsFoundUnflagged b k u m) × IsBlocked (setting b) (front b) u)

pub record IsLowest (b : Book) (k n : ℕ) (x : Stall) : Type 0 where
  pub lives : Lives b.store x.thread
  pub here : IsFoundUnflagged b k x.thread x.line
  pub before : x.thread < n
  pub lowest : (u : ℕ) → Lives b.store u → u < x.thread → IsFoundFlagged b k u

-- of the threads before this one, the lowest that isn't at a flagged place
abbrev pub TellsLowest : Book → ℕ → ℕ → Option Stall → Type 0
TellsLowest b k n None = (u : ℕ) → Lives b.store u → u < n → IsFoundFlagged b k u
TellsLowest b k n (Some x) = IsLowest b k n x

pub record AreHalted (b : Book) (k n : ℕ) (o : Option Stall) : Type 0 where
  pub each : (u : ℕ) → Lives b.store u → u < n → IsHalted b k u
  pub lowest : TellsLowest b k n o

no_thread : (b : Book) (u : ℕ) → u < 1 → Lives b.store u → ⊥
no_thread b zero less lives = cc (lives.is)
no_thread b (suc u) less lives = omega (arith, less)

pub none_halted : (b : Book) (k : ℕ) → AreHalted b k 1 None
none_halted b k = record { each = λ u lives less. absurd (no_thread b u less lives); lowest = λ u lives less. absurd (no_thread b u less lives) }

-- one more, at a flagged place, or dead
pub flagged_more : (b : Book) (k n : ℕ) (o : Option Stall) → AreHalted b k n o → HaltsSo b k n halt.Flagged → AreHalted b k (n + 1) o
flagged_more b k n o before x = record { each = each; lowest = still o before.lowest }
  where
    flagged : Lives b.store n → IsFoundFlagged b k n
    flagged lives = by x
      where
        by : (Lives b.store n → ⊥) ⊎ IsFoundFlagged b k n → IsFoundFlagged b k n
        by (inl dead) = absurd (dead lives)
        by (inr f) = f

    each : (u : ℕ) → Lives b.store u → u < n + 1 → IsHalted b k u
    each u lives less = either (up_to u n less)
      where
        either : (u < n) ⊎ (u ≡ n) → IsHalted b k u
        either (inl g) = before.each u lives g
        either (inr g) = inl (subst (IsFoundFlagged b k) (sym g) (flagged (subst (Lives b.store) g lives)))

    none_more : ((u : ℕ) → Lives b.store u → u < n → IsFoundFlagged b k u) → (u : ℕ) → Lives b.store u → u < n + 1 → IsFoundFlagged b k u
    none_more none u lives less = either (up_to u n less)
      where
        either : (u < n) ⊎ (u ≡ n) → IsFoundFlagged b k u
        either (inl g) = none u lives g
        either (inr g) = subst (IsFoundFlagged b k) (sym g) (flagged (subst (Lives b.store) g lives))

    still : (o : Option Stall) → TellsLowest b k n o → TellsLowest b k (n + 1) o
    still None none = none_more none
    still (Some y) low = let less : y.thread < n = low.before in record { lives = low.lives; here = low.here; before = omega (arith, less); lowest = low.lowest }

-- one more that is blocked
pub blocked_more_halted : (b : Book) (k n l : ℕ) (o : Option Stall) → AreHalted b k n o → Lives b.store n → IsFoundUnflagged b k n l → IsBlocked (setting b) (front b) n
    → AreHalted b k (n + 1) (first_stall o n l)
blocked_more_halted b k n l o before lives here blocked = record { each = each; lowest = low o before.lowest }
  where
    each : (u : ℕ) → Lives b.store u → u < n + 1 → IsHalted b k u
    each u alive less = either (up_to u n less)
      where
        either : (u < n) ⊎ (u ≡ n) → IsHalted b k u
        either (inl g) = before.each u alive g
        either (inr g) = subst (IsHalted b k) (sym g) (inr ((l, here), blocked))

    low : (o : Option Stall) → TellsLowest b k n o → TellsLowest b k (n + 1) (first_stall o n l)
    low None none = record { lives = lives; here = here; before = omega arith; lowest = none }
    low (Some y) x = let less : y.thread < n = x.before in record { lives = x.lives; here = x.here; before = omega (arith, less); lowest = x.lowest }

pub is_stalled : (b : Book) (n : Notes) → BookInvariant b n → (k m : ℕ) (x : Stall) → m ≡ suc thread_limit → AreHalted b k m (Some x) → IsFoundStalled b k x.thread x.line
is_stalled b n i k m x is halted = record {
  lives = halted.lowest.lives;
  here = halted.lowest.here;
  each = λ u lives. (let number = live_number b n i u lives in halted.each u lives (omega (arith, number.1, is)));
  lowest = halted.lowest.lowest;
}

pub not_stalled : (b : Book) (n : Notes) → BookInvariant b n → (k m : ℕ) → m ≡ suc thread_limit → AreHalted b k m None → (t l : ℕ) → IsFoundStalled b k t l → ⊥
not_stalled b n i k m is halted t l x =
    let number = live_number b n i t x.lives in
    not_both b k t l (halted.lowest t x.lives (omega (arith, number.1, is))) x.here

-- what is told of both
pub stall_told : (b : Book) (n : Notes) → BookInvariant b n → (k m : ℕ) (o : Option Stall) → m ≡ suc thread_limit → AreHalted b k m o → IfSome o (λ (x : Stall). IsFoundStalled b k x.thread x.line)
stall_told b n i k m None is halted = tt
stall_told b n i k m (Some x) is halted = is_stalled b n i k m x is halted

pub none_stalled : (b : Book) (n : Notes) → BookInvariant b n → (k m : ℕ) (o : Option Stall) → m ≡ suc thread_limit → AreHalted b k m o → IfNone o ((t l : ℕ) → IsFoundStalled b k t l → ⊥)
none_stalled b n i k m None is halted = not_stalled b n i k m is halted
none_stalled b n i k m (Some x) is halted = tt

-- where a thread may still move
pub moves_still : (b : Book) (k u : ℕ) → MayStillMove b k u → (t l : ℕ) → IsFoundStalled b k t l → ⊥
moves_still b k u x t l stalled = by_each (stalled.each u x.lives)
  where
    by_free : (m : ℕ) → IsFoundUnflagged b k u m → IsBlocked (setting b) (front b) u → (IsBlocked (setting b) (front b) u → ⊥) ⊎ (found_place b u ≡ None) → ⊥
    by_free m f blocked (inl free) = free blocked
    by_free m f blocked (inr none) = let no : None ≡ Some f.number = sym none ∙ f.found in cc

    by_each : IsHalted b k u → ⊥
    by_each (inl f) = x.not_flagged f
    by_each (inr f) = by_free f.0.0 f.0.1 f.1 x.free
