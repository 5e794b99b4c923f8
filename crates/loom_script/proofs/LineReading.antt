-- What is read of a line is its command, or it has none.
use Rattle.std.proofs.Common.{ℕ, ◌<◌, ◌≡◌, ◌⊎◌, Bool, true, false, nat_le, ◌&&◌, if◌then◌else◌, List, [], ◌∷◌, ◌++◌, length, codes, Option, Some, None, inl, inr, refl, sym, ap, subst, ◌∙◌}
use Rattle.std.specs.Str.{bytes_eq}
use Rattle.std.proofs.lemmas.Bool.{leb-true, leb-false}
use Rattle.std.proofs.lemmas.Slice.Eq.{bytes_eq-Decides}
use Rattle.loom_command.specs.Script.{Trigger, at, stall, ScriptAction, install, remove, ScriptCommand, HasFields, IsSkipped, IsFilterName, WhenFields, ActionFields, IsCommandLine, most_commands, IsBadLine}
use Rattle.loom_script.specs.Words.{moment_by, is_filter_name, filter_text}
use Rattle.loom_script.specs.Fields.{first_field, behind_field, are_blanks, is_skipped}
use Rattle.loom_script.specs.Stalls.{is_stall}
use Rattle.loom_script.specs.Reading.{at_moment, trigger_by, action_by, command_with, command_from, command_by, with_command, behind_line}
use Rattle.loom_script.specs.ScriptError.{IsStallLine}
use Rattle.loom_script.proofs.FieldCuts.{IsCut, cut, cut_told, cut_field, skipped_told, not_skipped_told, blanks_told, blanks_read}
use Rattle.loom_script.proofs.Moments.{moment_told, moment_most, moment_read, decimal_some}
use Rattle.loom_script.proofs.Texts.{name_told, name_read, name_some, text_told}

-- Words

same_told : (xs ys : List ℕ) → bytes_eq xs ys ≡ true → xs ≡ ys
same_told xs ys h = (bytes_eq-Decides xs ys).0 h

same_read : (xs ys : List ℕ) → xs ≡ ys → bytes_eq xs ys ≡ true
same_read xs ys h = (bytes_eq-Decides xs ys).1 h

-- a word isn't another one
other_word : (xs ys zs : List ℕ) → bytes_eq ys zs ≡ false → xs ≡ ys → bytes_eq xs zs ≡ false
other_word xs ys zs n h = ap (λ w. bytes_eq w zs) h ∙ n

-- When

trigger_told : (when which : List ℕ) (t : Trigger) → trigger_by when which ≡ Some t → WhenFields t when which
trigger_told when which t h = go (bytes_eq when (codes "at")) (bytes_eq when (codes "on")) (bytes_eq which (codes "stall")) (moment_by which) refl refl refl refl h
  where
    go : (x y z : Bool) (o : Option ℕ) → bytes_eq when (codes "at") ≡ x → bytes_eq when (codes "on") ≡ y → bytes_eq which (codes "stall") ≡ z → moment_by which ≡ o
        → (if x then at_moment o else (if y && z then Some stall else None)) ≡ Some t → WhenFields t when which
    go true y z (Some n) e f g m i =
        let same : at n ≡ t = cc in
        subst (λ u. WhenFields u when which) same (same_told when (codes "at") e, moment_told which n m, moment_most which n m)
    go true y z None e f g m i = absurd cc
    go false true true o e f g m i = let same : stall ≡ t = cc in subst (λ u. WhenFields u when which) same (same_told when (codes "on") f, same_told which (codes "stall") g)
    go false true false o e f g m i = absurd cc
    go false false z o e f g m i = absurd cc

no_trigger : (when which : List ℕ) → trigger_by when which ≡ None → (t : Trigger) → WhenFields t when which → ⊥
no_trigger when which h (at n) k =
    let first : bytes_eq when (codes "at") ≡ true = same_read when (codes "at") k.0 in
    let second : moment_by which ≡ Some n = ap moment_by k.1 ∙ moment_read n k.2 in
    let found : trigger_by when which ≡ Some (at n) = rw (first, second) refl in
    let clash : None ≡ Some (at n) = sym h ∙ found in
    cc
no_trigger when which h stall k =
    let other : bytes_eq when (codes "at") ≡ false = other_word when (codes "on") (codes "at") refl k.0 in
    let first : bytes_eq when (codes "on") ≡ true = same_read when (codes "on") k.0 in
    let second : bytes_eq which (codes "stall") ≡ true = same_read which (codes "stall") k.1 in
    let found : trigger_by when which ≡ Some stall = rw (other, first, second) refl in
    let clash : None ≡ Some stall = sym h ∙ found in
    cc

-- these fields aren't empty
pub record AreSome (a b : List ℕ) : Type 0 where
  pub first : a ≡ [] → ⊥
  pub second : b ≡ [] → ⊥

not_empty : (b : ℕ) (bs xs : List ℕ) → xs ≡ b ∷ bs → xs ≡ [] → ⊥
not_empty b bs xs h e = let f : b ∷ bs ≡ [] = sym h ∙ e in cc

when_some : (t : Trigger) (a b : List ℕ) → WhenFields t a b → AreSome a b
when_some (at n) a b h = record { first = not_empty 97 (codes "t") a h.0; second = λ e. decimal_some n h.2 (sym h.1 ∙ e) }
when_some stall a b h = record { first = not_empty 111 (codes "n") a h.0; second = not_empty 115 (codes "tall") b h.1 }

-- What

action_told : (verb rest : List ℕ) (a : ScriptAction) → action_by verb rest ≡ Some a → ActionFields a verb rest
action_told verb rest a h = go (bytes_eq verb (codes "install")) (bytes_eq verb (codes "remove")) (are_blanks rest) refl refl refl h
  where
    go : (x y z : Bool) → bytes_eq verb (codes "install") ≡ x → bytes_eq verb (codes "remove") ≡ y → are_blanks rest ≡ z
        → (if x then Some (install (filter_text rest)) else (if y && z then Some remove else None)) ≡ Some a → ActionFields a verb rest
    go true y z e f g i = let same : install (filter_text rest) ≡ a = cc in subst (λ u. ActionFields u verb rest) same (same_told verb (codes "install") e, text_told rest)
    go false true true e f g i = let same : remove ≡ a = cc in subst (λ u. ActionFields u verb rest) same (same_told verb (codes "remove") f, blanks_told rest g)
    go false true false e f g i = absurd cc
    go false false z e f g i = absurd cc

no_action : (verb rest : List ℕ) → action_by verb rest ≡ None → (a : ScriptAction) → ActionFields a verb rest → ⊥
no_action verb rest h (install text) k =
    let first : bytes_eq verb (codes "install") ≡ true = same_read verb (codes "install") k.0 in
    let found : action_by verb rest ≡ Some (install (filter_text rest)) = rw first refl in
    let clash : None ≡ Some (install (filter_text rest)) = sym h ∙ found in
    cc
no_action verb rest h remove k =
    let other : bytes_eq verb (codes "install") ≡ false = other_word verb (codes "remove") (codes "install") refl k.0 in
    let first : bytes_eq verb (codes "remove") ≡ true = same_read verb (codes "remove") k.0 in
    let second : are_blanks rest ≡ true = blanks_read rest k.1 in
    let found : action_by verb rest ≡ Some remove = rw (other, first, second) refl in
    let clash : None ≡ Some remove = sym h ∙ found in
    cc

verb_some : (a : ScriptAction) (verb rest : List ℕ) → ActionFields a verb rest → verb ≡ [] → ⊥
verb_some (install text) verb rest h e = not_empty 105 (codes "nstall") verb h.0 e
verb_some remove verb rest h e = not_empty 114 (codes "emove") verb h.0 e

-- A line that is cut at four fields

pub record AreCuts (line when which verb name rest : List ℕ) : Type 0 where
  pub second : List ℕ
  pub third : List ℕ
  pub fourth : List ℕ
  pub first_cut : IsCut line when second
  pub second_cut : IsCut second which third
  pub third_cut : IsCut third verb fourth
  pub fourth_cut : IsCut fourth name rest

abbrev whole_command : ℕ → Trigger → List ℕ → ScriptAction → ScriptCommand
whole_command number t name a = record { line = number; trigger = t; name = name; action = a }

whole_told : (number : ℕ) (line when which verb name rest : List ℕ) (t : Trigger) (a : ScriptAction) → AreCuts line when which verb name rest
    → is_filter_name name ≡ true → trigger_by when which ≡ Some t → action_by verb rest ≡ Some a → IsCommandLine number line (whole_command number t name a)
whole_told number line when which verb name rest t a c e f g =
    let due : WhenFields t when which = trigger_told when which t f in
    let does : ActionFields a verb rest = action_told verb rest a g in
    let some : AreSome when which = when_some t when which due in
    let d : HasFields (name ∷ []) rest c.fourth = cut_field c.fourth name rest [] rest c.fourth_cut (name_some name e) refl in
    let b : HasFields (verb ∷ name ∷ []) rest c.third = cut_field c.third verb c.fourth (name ∷ []) rest c.third_cut (verb_some a verb rest does) d in
    let p : HasFields (which ∷ verb ∷ name ∷ []) rest c.second = cut_field c.second which c.third (verb ∷ name ∷ []) rest c.second_cut some.second b in
    record {
      number_is = refl;
      when = when;
      which = which;
      verb = verb;
      rest = rest;
      fields = cut_field line when c.second (which ∷ verb ∷ name ∷ []) rest c.first_cut some.first p;
      trigger = due;
      action = does;
      name = name_told name e;
    }

from_told : (number : ℕ) (line when which verb name rest : List ℕ) (c : ScriptCommand) → AreCuts line when which verb name rest → command_from number when which verb name rest ≡ Some c → IsCommandLine number line c
from_told number line when which verb name rest c s h = go (is_filter_name name) (trigger_by when which) (action_by verb rest) refl refl refl h
  where
    go : (v : Bool) (o : Option Trigger) (q : Option ScriptAction) → is_filter_name name ≡ v → trigger_by when which ≡ o → action_by verb rest ≡ q
        → (if v then command_with number name o q else None) ≡ Some c → IsCommandLine number line c
    go true (Some t) (Some a) e f g i =
        let same : whole_command number t name a ≡ c = cc in
        subst (λ u. IsCommandLine number line u) same (whole_told number line when which verb name rest t a s e f g)
    go true (Some t) None e f g i = absurd cc
    go true None q e f g i = absurd cc
    go false o q e f g i = absurd cc

-- the fields of a command are those at which its line is cut
pub record FieldsSay (c : ScriptCommand) (when which verb name rest : List ℕ) : Type 0 where
  pub due : WhenFields c.trigger when which
  pub does : ActionFields c.action verb rest
  pub is_name : IsFilterName name

pub fields_say : (number : ℕ) (line when which verb name rest : List ℕ) (c : ScriptCommand) → AreCuts line when which verb name rest → IsCommandLine number line c → FieldsSay c when which verb name rest
fields_say number line when which verb name rest c s h =
    let p = cut_told line when s.second h.when (h.which ∷ h.verb ∷ c.name ∷ []) h.rest s.first_cut h.fields in
    let q = cut_told s.second which s.third h.which (h.verb ∷ c.name ∷ []) h.rest s.second_cut p.1 in
    let r = cut_told s.third verb s.fourth h.verb (c.name ∷ []) h.rest s.third_cut q.1 in
    let u = cut_told s.fourth name rest c.name [] h.rest s.fourth_cut r.1 in
    record {
      due = subst (λ z. WhenFields c.trigger when z) q.0 (subst (λ z. WhenFields c.trigger z h.which) p.0 h.trigger);
      does = subst (λ z. ActionFields c.action verb z) (sym u.1) (subst (λ z. ActionFields c.action z h.rest) r.0 h.action);
      is_name = subst IsFilterName u.0 h.name;
    }

none_from : (number : ℕ) (when which verb name rest : List ℕ) → command_from number when which verb name rest ≡ None → (c : ScriptCommand) → FieldsSay c when which verb name rest → ⊥
none_from number when which verb name rest h c k = go (is_filter_name name) (trigger_by when which) (action_by verb rest) refl refl refl h
  where
    go : (v : Bool) (o : Option Trigger) (q : Option ScriptAction) → is_filter_name name ≡ v → trigger_by when which ≡ o → action_by verb rest ≡ q
        → (if v then command_with number name o q else None) ≡ None → ⊥
    go true (Some t) (Some a) e f g i = cc
    go true (Some t) None e f g i = no_action verb rest g c.action k.does
    go true None q e f g i = no_trigger when which f c.trigger k.due
    go false o q e f g i = let there : is_filter_name name ≡ true = name_read name k.is_name in let clash : false ≡ true = sym e ∙ there in cc

pub cuts : (line : List ℕ)
    → AreCuts line (first_field line) (first_field (behind_field line)) (first_field (behind_field (behind_field line)))
    (first_field (behind_field (behind_field (behind_field line)))) (behind_field (behind_field (behind_field (behind_field line))))
cuts line =
    record {
      second = behind_field line;
      third = behind_field (behind_field line);
      fourth = behind_field (behind_field (behind_field line));
      first_cut = cut line;
      second_cut = cut (behind_field line);
      third_cut = cut (behind_field (behind_field line));
      fourth_cut = cut (behind_field (behind_field (behind_field line)));
    }

pub command_told : (number : ℕ) (line : List ℕ) (c : ScriptCommand) → command_by number line ≡ Some c → IsCommandLine number line c
command_told number line c h = from_told number line _ _ _ _ _ c (cuts line) h

pub no_command : (number : ℕ) (line : List ℕ) → command_by number line ≡ None → (c : ScriptCommand) → IsCommandLine number line c → ⊥
no_command number line h c k = none_from number _ _ _ _ _ h c (fields_say number line _ _ _ _ _ c (cuts line) k)

-- Behind a line

-- The line is a command that doesn't wait for a stall, and stands behind the others.
pub record IsOneMore (number : ℕ) (line : List ℕ) (cs ds : List ScriptCommand) : Type 0 where
  pub command : ScriptCommand
  pub is : IsCommandLine number line command
  pub no_stall : is_stall command.trigger ≡ false
  pub room : length cs < most_commands
  pub more : ds ≡ cs ++ command ∷ []

put_told : (cs ds : List ScriptCommand) (c : ScriptCommand) → with_command cs (Some c) ≡ Some ds → (is_stall c.trigger ≡ false) × (ds ≡ cs ++ c ∷ [])
put_told cs ds c h = go (is_stall c.trigger) refl h
  where
    go : (v : Bool) → is_stall c.trigger ≡ v → (if v then None else Some (cs ++ c ∷ [])) ≡ Some ds → (is_stall c.trigger ≡ false) × (ds ≡ cs ++ c ∷ [])
    go true e f = absurd cc
    go false e f = (e, cc)

put_none : (cs : List ScriptCommand) (c : ScriptCommand) → with_command cs (Some c) ≡ None → is_stall c.trigger ≡ true
put_none cs c h = go (is_stall c.trigger) refl h
  where
    go : (v : Bool) → is_stall c.trigger ≡ v → (if v then None else Some (cs ++ c ∷ [])) ≡ None → is_stall c.trigger ≡ true
    go true e f = e
    go false e f = absurd cc

pub line_told : (number : ℕ) (line : List ℕ) (cs ds : List ScriptCommand) → behind_line number line cs ≡ Some ds → (IsSkipped line × (ds ≡ cs)) ⊎ IsOneMore number line cs ds
line_told number line cs ds h = go (is_skipped line) (nat_le most_commands (length cs)) (command_by number line) refl refl refl h
  where
    go : (v w : Bool) (o : Option ScriptCommand) → is_skipped line ≡ v → nat_le most_commands (length cs) ≡ w → command_by number line ≡ o
        → (if v then Some cs else (if w then None else with_command cs o)) ≡ Some ds → (IsSkipped line × (ds ≡ cs)) ⊎ IsOneMore number line cs ds
    go true w o e f g i = inl (skipped_told line e, cc)
    go false true o e f g i = absurd cc
    go false false None e f g i = absurd cc
    go false false (Some c) e f g i =
        let p = put_told cs ds c i in
        inr (record { command = c; is = command_told number line c g; no_stall = p.0; room = leb-false most_commands (length cs) f; more = p.1 })

pub line_refused : (number : ℕ) (line : List ℕ) (cs : List ScriptCommand) → behind_line number line cs ≡ None → IsBadLine number line (length cs) ⊎ IsStallLine number line
line_refused number line cs h = go (is_skipped line) (nat_le most_commands (length cs)) (command_by number line) refl refl refl h
  where
    go : (v w : Bool) (o : Option ScriptCommand) → is_skipped line ≡ v → nat_le most_commands (length cs) ≡ w → command_by number line ≡ o
        → (if v then Some cs else (if w then None else with_command cs o)) ≡ None → IsBadLine number line (length cs) ⊎ IsStallLine number line
    go true w o e f g i = absurd cc
    go false true o e f g i = inl (record { not_skipped = not_skipped_told line e; bad = inr (leb-true most_commands (length cs) f) })
    go false false None e f g i = inl (record { not_skipped = not_skipped_told line e; bad = inl (no_command number line g) })
    go false false (Some c) e f g i = inr (record { command = c; is = command_told number line c g; waits = put_none cs c i })
