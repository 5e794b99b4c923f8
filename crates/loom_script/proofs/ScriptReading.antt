-- A script is read line by line.
use Rattle.std.proofs.Common.{ℕ, suc, ◌+◌, ◌-◌, ◌<◌, ◌≤◌, ◌≡◌, ◌⊎◌, false, List, [], ◌∷◌, ◌++◌, length, take, drop, Err, Some, None, inl, inr, refl, sym, ap, subst, ◌∙◌, append-nil, append_assoc, arith}
use Rattle.std.specs.List.{slice_get}
use Rattle.std.proofs.lemmas.List.{take_at, length_push}
use Rattle.loom_lexer.specs.Scan.{run_len}
use Rattle.loom_command.specs.Script.{ScriptCommand, script_lines, IsSkipped, IsCommandLine, most_commands, AreCommands}
use Rattle.loom_script.specs.Lines.{is_inside_line, line_text, lines_left}
use Rattle.loom_script.specs.Stalls.{is_stall, HasNoStall}
use Rattle.loom_script.specs.Reading.{behind_line}
use Rattle.loom_script.specs.declared.parse.ScriptError.{ScriptError}
use Rattle.loom_script.specs.declared.parse.ScriptError.TheVariants as err
use Rattle.loom_script.specs.ScriptError.{IsScriptWithoutStall, IsRefusedWithoutStall, TellsPut, TellsScript}
use Rattle.loom_script.proofs.LineReading.{IsOneMore, line_told, line_refused}
use Rattle.loom_script.proofs.LineCuts.{left_some, left_none, lines_there}

-- The lines before a place are these commands; the line there has this number.
pub record HasCommands (bytes : List ℕ) (at number : ℕ) (cs : List ScriptCommand) : Type 0 where
  pub front : List (List ℕ)
  pub lines : script_lines bytes ≡ front ++ lines_left bytes at
  pub counted : number ≡ suc (length front)
  pub are : AreCommands 1 front cs
  pub few : length cs ≤ most_commands
  pub no_stall : HasNoStall cs

pub none_yet : (bytes : List ℕ) → HasCommands bytes 0 1 []
none_yet bytes = record { front = []; lines = sym (left_some bytes 0 (omega arith)); counted = refl; are = refl; few = omega arith; no_stall = tt }

-- One line more

one_skipped : (n : ℕ) (ls : List (List ℕ)) (l : List ℕ) (cs : List ScriptCommand) → AreCommands n ls cs → IsSkipped l → AreCommands n (ls ++ l ∷ []) cs
one_skipped n [] l cs h s = inl (s, h)
one_skipped n (k ∷ ls) l cs (inl h) s = inl (h.0, one_skipped (suc n) ls l cs h.1 s)
one_skipped n (k ∷ ls) l cs (inr h) s = inr (h.0, h.1, h.2, h.3, one_skipped (suc n) ls l h.1 h.4 s)

one_more : (n : ℕ) (ls : List (List ℕ)) (l : List ℕ) (cs : List ScriptCommand) (c : ScriptCommand) → AreCommands n ls cs → IsCommandLine (n + length ls) l c → AreCommands n (ls ++ l ∷ []) (cs ++ c ∷ [])
one_more n [] l cs c h i =
    let number : n + 0 ≡ n = omega arith in
    let P : ℕ → Type 0 = λ z. IsCommandLine z l c in
    inr (c, [], ap (λ z. z ++ c ∷ []) h, subst P number i, refl)
one_more n (k ∷ ls) l cs c (inl h) i =
    let number : n + suc (length ls) ≡ suc n + length ls = omega arith in
    let P : ℕ → Type 0 = λ z. IsCommandLine z l c in
    inl (h.0, one_more (suc n) ls l cs c h.1 (subst P number i))
one_more n (k ∷ ls) l cs c (inr h) i =
    let number : n + suc (length ls) ≡ suc n + length ls = omega arith in
    let P : ℕ → Type 0 = λ z. IsCommandLine z l c in
    inr (h.0, h.1 ++ c ∷ [], ap (λ z. z ++ c ∷ []) h.2, h.3, one_more (suc n) ls l h.1 c h.4 (subst P number i))

no_stall_more : (cs : List ScriptCommand) (c : ScriptCommand) → HasNoStall cs → is_stall c.trigger ≡ false → HasNoStall (cs ++ c ∷ [])
no_stall_more [] c h e = (e, tt)
no_stall_more (d ∷ cs) c h e = (h.0, no_stall_more cs c h.1 e)

-- the lines with one more in front of the place
lines_more : (front : List (List ℕ)) (l : List ℕ) (left rest whole : List (List ℕ)) → whole ≡ front ++ left → left ≡ l ∷ rest → whole ≡ (front ++ l ∷ []) ++ rest
lines_more front l left rest whole h e = h ∙ ap (λ z. front ++ z) e ∙ sym (append_assoc front (l ∷ []) rest)

pub read_on : (bytes : List ℕ) (at end number : ℕ) (line : List ℕ) (cs ds : List ScriptCommand) → HasCommands bytes at number cs → at ≤ length bytes
    → end ≡ at + run_len is_inside_line (drop at bytes) → line ≡ line_text bytes at end → behind_line number line cs ≡ Some ds → HasCommands bytes (end + 1) (number + 1) ds
read_on bytes at end number line cs ds h l e t b = go (line_told number line cs ds b)
  where
    left : lines_left bytes at ≡ line ∷ lines_left bytes (end + 1)
    left = lines_there bytes at end l e ∙ ap (λ z. z ∷ lines_left bytes (end + 1)) (sym t)

    counted : number + 1 ≡ suc (length (h.front ++ line ∷ []))
    counted = omega (arith, h.counted, length_push h.front line)

    go : (IsSkipped line × (ds ≡ cs)) ⊎ IsOneMore number line cs ds → HasCommands bytes (end + 1) (number + 1) ds
    go (inl s) =
        let P : List ScriptCommand → Type 0 = λ z. HasCommands bytes (end + 1) (number + 1) z in
        subst P (sym s.1) (record {
          front = h.front ++ line ∷ [];
          lines = lines_more h.front line (lines_left bytes at) (lines_left bytes (end + 1)) (script_lines bytes) h.lines left;
          counted = counted;
          are = one_skipped 1 h.front line cs h.are s.0;
          few = h.few;
          no_stall = h.no_stall;
        })
    go (inr s) =
        let P : List ScriptCommand → Type 0 = λ z. HasCommands bytes (end + 1) (number + 1) z in
        let N : ℕ → Type 0 = λ z. IsCommandLine z line s.command in
        let is : number ≡ 1 + length h.front = omega (arith, h.counted) in
        let room = s.room in
        subst P (sym s.more) (record {
          front = h.front ++ line ∷ [];
          lines = lines_more h.front line (lines_left bytes at) (lines_left bytes (end + 1)) (script_lines bytes) h.lines left;
          counted = counted;
          are = one_more 1 h.front line cs s.command h.are (subst N is s.is);
          few = omega (arith, room, length_push cs s.command);
          no_stall = no_stall_more cs s.command h.no_stall s.no_stall;
        })

-- Where it stops

get_at : (xs : List (List ℕ)) (y : List ℕ) (ys : List (List ℕ)) → slice_get (xs ++ y ∷ ys) (length xs) ≡ Some y
get_at [] y ys = refl
get_at (x ∷ xs) y ys = get_at xs y ys

pub refused_there : (bytes : List ℕ) (at end number : ℕ) (line : List ℕ) (cs : List ScriptCommand) → HasCommands bytes at number cs → at ≤ length bytes
    → end ≡ at + run_len is_inside_line (drop at bytes) → line ≡ line_text bytes at end → behind_line number line cs ≡ None → IsRefusedWithoutStall bytes number
refused_there bytes at end number line cs h l e t b =
    let left : lines_left bytes at ≡ line ∷ lines_left bytes (end + 1) = lines_there bytes at end l e ∙ ap (λ z. z ∷ lines_left bytes (end + 1)) (sym t) in
    let whole : script_lines bytes ≡ h.front ++ line ∷ lines_left bytes (end + 1) = h.lines ∙ ap (λ z. h.front ++ z) left in
    let place : number - 1 ≡ length h.front = omega (arith, h.counted) in
    let front : take (number - 1) (script_lines bytes) ≡ h.front = ap (take (number - 1)) whole ∙ take_at h.front (line ∷ lines_left bytes (end + 1)) (number - 1) (sym place) in
    let there : slice_get (script_lines bytes) (number - 1) ≡ Some line =
    ap (slice_get (script_lines bytes)) place ∙ ap (λ z. slice_get z (length h.front)) whole ∙ get_at h.front line (lines_left bytes (end + 1)) in
    let P : List (List ℕ) → Type 0 = λ z. AreCommands 1 z cs in
    record {
      commands = cs;
      before = subst P (sym front) h.are;
      few = h.few;
      no_stall = h.no_stall;
      line = line;
      there = there;
      counted = omega (arith, h.counted);
      bad = line_refused number line cs b;
    }

pub all_read : (bytes : List ℕ) (at number : ℕ) (cs : List ScriptCommand) → HasCommands bytes at number cs → length bytes < at → IsScriptWithoutStall bytes cs
all_read bytes at number cs h l =
    let whole : script_lines bytes ≡ h.front = h.lines ∙ ap (λ z. h.front ++ z) (left_none bytes at l) ∙ append-nil h.front in
    let P : List (List ℕ) → Type 0 = λ z. AreCommands 1 z cs in
    record { script = record { commands = subst P (sym whole) h.are; few = h.few }; no_stall = h.no_stall }

-- what an error at a line tells of the whole
pub error_told : (bytes : List ℕ) (at end number : ℕ) (line : List ℕ) (cs ds : List ScriptCommand) (y : ScriptError) → HasCommands bytes at number cs → at ≤ length bytes
    → end ≡ at + run_len is_inside_line (drop at bytes) → line ≡ line_text bytes at end → TellsPut {T = Unit {0}} number (behind_line number line cs) ds (Err y) → TellsScript bytes (Err y)
error_told bytes at end number line cs ds (err.Refused r) h l f t w =
    subst (λ z. IsRefusedWithoutStall bytes z) (sym w.0) (refused_there bytes at end number line cs h l f t w.1)
error_told bytes at end number line cs ds err.NoMemory h l f t w = tt
