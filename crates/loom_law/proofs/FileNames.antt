-- The name of a file is what stands behind the last slash.
use Rattle.std.proofs.Common.{◌≡◌, [], ◌∷◌, refl}
use Rattle.loom_law.specs.Judgement.{file_name}

-- `a`, `/a`, `a/b/c`, `a/`
without : file_name (97 ∷ []) ≡ 97 ∷ []
without = refl

at_root : file_name (47 ∷ 97 ∷ []) ≡ 97 ∷ []
at_root = refl

deep : file_name (97 ∷ 47 ∷ 98 ∷ 47 ∷ 99 ∷ []) ≡ 99 ∷ []
deep = refl

folder : file_name (97 ∷ 47 ∷ []) ≡ []
folder = refl
