-- What the counts and the bytes of an answer say of the promises of shelves and sinks.
use Rattle.std.proofs.Common.{ℕ, ◌+◌, ◌≤◌, ◌≡◌, List, ◌++◌, Option, Some, None, Result, Ok, Err, IfOk, IfErr, OnOk, OnErr, IsNone, take, length, min, refl, ap, arith}
use Rattle.std.proofs.lemmas.List.{length-take}
use Rattle.std.specs.Option.{option_map}
use Rattle.loom_io.specs.FaultCount.{Rose}
use Rattle.loom_io.specs.Shelf.{Untold, Missing, state_of, IsRead, faults_after_read}
use Rattle.loom_io.specs.Buffer.{Buffer}
use Rattle.loom_io.specs.Sink.{Took, faults_after_put}
use Rattle.loom_io.specs.declared.shelf.ShelfError.{ShelfError}
use Rattle.loom_io.specs.declared.shelf.ShelfError.TheVariants as error

-- behind a failed read the count rose
pub failed_read : {T : Type 0} (r : Result T ShelfError) (before now : ℕ) → now ≡ faults_after_read before r → IfErr r (λ e. e ≡ error.Failed → Rose before now)
failed_read (Ok bytes) before now h = tt
failed_read (Err error.Failed) before now h = λ _. omega (arith, h)
failed_read (Err error.NoMemory) before now h = λ e. cc

-- behind a failed put the count rose
pub failed_put : {T E : Type 0} (r : Result T E) (before now : ℕ) → now ≡ faults_after_put before r → OnErr r (Rose before now)
failed_put (Ok n) before now h = tt
failed_put (Err e) before now h = omega (arith, h)

-- behind a put without a fault the count is as it was
pub calm_put : {T E : Type 0} (r : Result T E) (before now : ℕ) → now ≡ faults_after_put before r → OnOk r (now ≡ before)
calm_put (Ok n) before now h = h
calm_put (Err e) before now h = tt

-- the front of a file that is told is what a read has to give
pub whole_read : (r : Result (List ℕ) ShelfError) (told : Option (List ℕ)) (limit : ℕ) → IfOk r (λ bytes. option_map (take (limit + 1)) told ≡ Some bytes) → IfOk r (λ bytes. IsRead (state_of told) limit bytes)
whole_read (Ok bytes) None limit h = cc
whole_read (Ok bytes) (Some file) limit h = cc
whole_read (Err e) told limit h = tt

-- a file that is told to be missing isn't there
pub no_file : (told : Option (List ℕ)) → state_of told ≡ Missing → IsNone told
no_file None h = refl
no_file (Some file) h = cc

-- and is short
pub short_read : (r : Result (List ℕ) ShelfError) (told : Option (List ℕ)) (limit : ℕ) → IfOk r (λ bytes. option_map (take (limit + 1)) told ≡ Some bytes) → IfOk r (λ bytes. length bytes ≤ limit + 1)
short_read (Ok bytes) None limit h = cc
short_read (Ok bytes) (Some file) limit h = let e : bytes ≡ take (limit + 1) file = cc in rw e (omega (arith, length-take (limit + 1) file))
short_read (Err e) told limit h = tt

-- a shelf that tells no file promises no bytes
pub untold_read : {E : Type 0} (r : Result (List ℕ) E) (limit : ℕ) → IfOk r (λ bytes. IsRead Untold limit bytes)
untold_read (Ok bytes) limit = tt
untold_read (Err e) limit = tt

pub never_missing : {A : Type 0} → Untold ≡ Missing → A
never_missing h = cc

-- a sink that doesn't tell what it took promises no bytes
pub untold_put : {E : Type 0} (r : Result ℕ E) (piece : List ℕ) → Took None None r piece
untold_put (Ok n) piece = tt
untold_put (Err e) piece = tt

-- a call that takes the least of the piece and of something else takes no more than the piece
pub within_put : {E : Type 0} (r : Result ℕ E) (piece : List ℕ) (most : ℕ) → IfOk r (λ n. n ≡ min (length piece) most) → IfOk r (λ n. n ≤ length piece)
within_put (Ok n) piece most h = omega (arith, h)
within_put (Err e) piece most h = tt

-- a sink that tells what it took has the first bytes of the piece behind what it had
pub told_put : {E : Type 0} (r : Result ℕ E) (old new : Buffer) (piece : List ℕ) → IfOk r (λ n. new.bytes ≡ old.bytes ++ take n piece) → OnErr r (new ≡ old) → Took (Some old.bytes) (Some new.bytes) r piece
told_put (Ok n) old new piece h k = h
told_put (Err e) old new piece h k = ap (λ (b : Buffer). b.bytes) k
