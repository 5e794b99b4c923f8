-- The text of a filter in a script is no longer than the script.
use Rattle.std.proofs.Common.{ℕ, suc, ◌+◌, ◌≤◌, ◌≡◌, Bool, true, false, nat_eq, if◌then◌else◌, List, [], ◌∷◌, ◌++◌, length, inl, inr, sym, ap, subst, length-append, arith}
use Rattle.std.specs.List.{AllByRecursion}
use Rattle.std.proofs.lemmas.List.{length_push}
use Rattle.loom_command.specs.Script.{ScriptAction, install, remove, ScriptCommand, without_return, lines_from, script_lines, HasFields, ActionFields, IsCommandLine, AreCommands}
use Rattle.loom_script.specs.Laws.{text_in, HaveShortTexts, HasShortTexts}

-- Lines

return_short : (line : List ℕ) → length (without_return line) ≤ length line
return_short [] = omega arith
return_short (b ∷ []) = go (nat_eq b 13)
  where
    go : (v : Bool) → length (if v then [] else b ∷ []) ≤ 1
    go true = omega arith
    go false = omega arith
return_short (b ∷ c ∷ bs) = omega (arith, return_short (c ∷ bs))

abbrev AreShort : ℕ → List (List ℕ) → Type 0
AreShort n ls = AllByRecursion (λ (l : List ℕ). length l ≤ n) ls

lines_short : (n : ℕ) (so_far bs : List ℕ) → length so_far + length bs ≤ n → AreShort n (lines_from so_far bs)
lines_short n so_far [] l = (omega (arith, l), tt)
lines_short n so_far (b ∷ bs) l = go (nat_eq b 10) (lines_short n [] bs (omega (arith, l))) (lines_short n (so_far ++ b ∷ []) bs (omega (arith, l, length_push so_far b)))
  where
    go : (v : Bool) → AreShort n (lines_from [] bs) → AreShort n (lines_from (so_far ++ b ∷ []) bs)
        → AreShort n (if v then without_return so_far ∷ lines_from [] bs else lines_from (so_far ++ b ∷ []) bs)
    go true h k = (omega (arith, l, return_short so_far), h)
    go false h k = k

-- Fields

rest_short : (fs : List (List ℕ)) (rest bytes : List ℕ) → HasFields fs rest bytes → length rest ≤ length bytes
rest_short [] rest bytes h = let e : length bytes ≡ length rest = ap length h in omega (arith, e)
rest_short (f ∷ fs) rest bytes h =
    let e : length bytes ≡ length (h.0 ++ (f ++ h.1)) = ap length h.2 in
    omega (arith, e, length-append h.0 (f ++ h.1), length-append f h.1, rest_short fs rest h.1 h.6)

text_short : (a : ScriptAction) (verb rest : List ℕ) → ActionFields a verb rest → length (text_in a) ≤ length rest
text_short (install text) verb rest h =
    let t = h.1 in
    let e : length rest ≡ length (t.before ++ (text ++ t.behind)) = ap length t.is in
    omega (arith, e, length-append t.before (text ++ t.behind), length-append text t.behind)
text_short remove verb rest h = omega arith

line_short : (n : ℕ) (line : List ℕ) (c : ScriptCommand) → IsCommandLine n line c → length (text_in c.action) ≤ length line
line_short n line c h = omega (arith, text_short c.action h.verb h.rest h.action, rest_short (h.when ∷ h.which ∷ h.verb ∷ c.name ∷ []) h.rest line h.fields)

commands_short : (m n : ℕ) (ls : List (List ℕ)) (cs : List ScriptCommand) → AreShort m ls → AreCommands n ls cs → HaveShortTexts m cs
commands_short m n [] cs s h = subst (HaveShortTexts m) (sym h) tt
commands_short m n (l ∷ ls) cs s (inl h) = commands_short m (suc n) ls cs s.1 h.1
commands_short m n (l ∷ ls) cs s (inr h) =
    subst (HaveShortTexts m) (sym h.2) (omega (arith, line_short n l h.0 h.3, s.0), commands_short m (suc n) ls h.1 s.1 h.4)

pub texts_are_short : HasShortTexts
texts_are_short bytes cs h = commands_short (length bytes) 1 (script_lines bytes) cs (lines_short (length bytes) [] bytes (omega arith)) h.commands
