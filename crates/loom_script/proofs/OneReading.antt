-- A script without commands that wait for a stall isn't refused.
use Rattle.std.proofs.Common.{ℕ, zero, suc, ◌+◌, ◌-◌, ◌≡◌, ◌⊎◌, true, false, List, [], ◌∷◌, length, Some, None, inl, inr, refl, sym, ap, subst, ◌∙◌, arith}
use Rattle.std.specs.List.{slice_get}
use Rattle.loom_command.specs.Script.{Trigger, at, stall, ScriptCommand, script_lines, IsSkipped, WhenFields, IsCommandLine, AreCommands, IsBadLine}
use Rattle.loom_command.proofs.OneScript.{not_skipped}
use Rattle.loom_command.proofs.OneBadLine.{no_refused_script}
use Rattle.loom_script.specs.Fields.{first_field, behind_field}
use Rattle.loom_script.specs.Stalls.{is_stall, HasNoStall}
use Rattle.loom_script.specs.ScriptError.{IsScriptWithoutStall, IsStallLine, IsRefusedWithoutStall}
use Rattle.loom_script.specs.Laws.{HasNoRefusalWithoutStall}
use Rattle.loom_script.proofs.LineReading.{cuts, fields_say}

abbrev first_byte : List ℕ → ℕ
first_byte [] = 0
first_byte (b ∷ bs) = b

-- the fields tell whether it waits
one_kind : (t u : Trigger) (a b : List ℕ) → WhenFields t a b → WhenFields u a b → is_stall t ≡ is_stall u
one_kind (at n) (at m) a b h k = refl
one_kind (at n) stall a b h k = let e : 97 ≡ 111 = ap first_byte (sym h.0 ∙ k.0) in absurd (omega (arith, e))
one_kind stall (at m) a b h k = let e : 111 ≡ 97 = ap first_byte (sym h.0 ∙ k.0) in absurd (omega (arith, e))
one_kind stall stall a b h k = refl

line_kind : (number : ℕ) (line : List ℕ) (c d : ScriptCommand) → IsCommandLine number line c → IsCommandLine number line d → is_stall c.trigger ≡ is_stall d.trigger
line_kind number line c d h k =
    let p = fields_say number line _ _ _ _ _ c (cuts line) h in
    let q = fields_say number line _ _ _ _ _ d (cuts line) k in
    one_kind c.trigger d.trigger (first_field line) (first_field (behind_field line)) p.due q.due

-- The line is a command that doesn't wait.
record IsPrompt (number : ℕ) (line : List ℕ) : Type 0 where
  pub command : ScriptCommand
  pub is : IsCommandLine number line command
  pub no_stall : is_stall command.trigger ≡ false

further : (n i : ℕ) (line : List ℕ) → IsPrompt (suc n + i) line → IsPrompt (n + suc i) line
further n i line h = let number : suc n + i ≡ n + suc i = omega arith in subst (λ z. IsPrompt z line) number h

prompt_line : (n : ℕ) (ls : List (List ℕ)) (i : ℕ) (line : List ℕ) (cs : List ScriptCommand) → AreCommands n ls cs → HasNoStall cs → slice_get ls i ≡ Some line → (IsSkipped line → ⊥) → IsPrompt (n + i) line
prompt_line n [] i line cs h k e s = let none : None ≡ Some line = e in absurd cc
prompt_line n (l ∷ ls) zero line cs (inl h) k e s = let same : l ≡ line = cc in absurd (s (subst (λ z. IsSkipped z) same h.0))
prompt_line n (l ∷ ls) zero line cs (inr h) k e s =
    let same : l ≡ line = cc in
    let number : n ≡ n + 0 = omega arith in
    let none : HasNoStall (h.0 ∷ h.1) = subst HasNoStall h.2 k in
    let P : List ℕ → Type 0 = λ z. IsCommandLine n z h.0 in
    record { command = h.0; is = subst (λ z. IsCommandLine z line h.0) number (subst P same h.3); no_stall = none.0 }
prompt_line n (l ∷ ls) (suc i) line cs (inl h) k e s = further n i line (prompt_line (suc n) ls i line cs h.1 k e s)
prompt_line n (l ∷ ls) (suc i) line cs (inr h) k e s =
    let none : HasNoStall (h.0 ∷ h.1) = subst HasNoStall h.2 k in
    further n i line (prompt_line (suc n) ls i line h.1 h.4 none.1 e s)

waits_not : (bytes : List ℕ) (cs : List ScriptCommand) (n : ℕ) (h : IsScriptWithoutStall bytes cs) (k : IsRefusedWithoutStall bytes n) → IsStallLine n k.line → ⊥
waits_not bytes cs n h k s =
    let number : 1 + (n - 1) ≡ n = omega (arith, k.counted) in
    let p : IsPrompt (1 + (n - 1)) k.line = prompt_line 1 (script_lines bytes) (n - 1) k.line cs h.script.commands h.no_stall k.there (not_skipped n k.line s.command s.is) in
    let same : is_stall s.command.trigger ≡ is_stall p.command.trigger = line_kind n k.line s.command p.command s.is (subst (λ z. IsCommandLine z k.line p.command) number p.is) in
    let clash : true ≡ false = sym s.waits ∙ same ∙ p.no_stall in
    cc

pub no_refusal_without_stall : HasNoRefusalWithoutStall
no_refusal_without_stall bytes cs n h k = go k.bad
  where
    go : IsBadLine n k.line (length k.commands) ⊎ IsStallLine n k.line → ⊥
    go (inl b) = no_refused_script bytes cs n h.script (record { commands = k.commands; before = k.before; few = k.few; line = k.line; there = k.there; counted = k.counted; bad = b })
    go (inr s) = waits_not bytes cs n h k s
