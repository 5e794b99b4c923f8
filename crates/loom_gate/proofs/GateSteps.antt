-- Each kind of step keeps the rule of the table.
use Rattle.std.proofs.Common.{◌≡◌, ℕ, ◌+◌, ◌-◌, ◌/◌, ◌<◌, ◌≤◌, Bool, true, false, true≢false, if◌then◌else◌, List, [], ◌∷◌, ◌++◌, length, get_or, set, replicate, sym, refl, ap, ◌∙◌, subst, ◌⊎◌, inr, arith, Some, length-set, get_or-set_same, get_or-set_other}
use mathlib.Core.Logic.{dite}
use mathlib.Core.Option.{some, none}
use native.Mathlib.Decide.{ℕ_discrete}
use Rattle.atomic_table.specs.Table.{State, Me, step, keeps, Allows, Splits, Joins, Final, Seen}
use Rattle.atomic_table.proofs.Lists.{set_else}
use Rattle.loom_trace.specs.Places.{has_bit, has_place}
use Rattle.loom_gate.specs.declared.view.Stage.{Stage}
use Rattle.loom_gate.specs.declared.view.Stage.TheVariants.{Stands, Tries, Clear, Inside}
use Rattle.loom_gate.specs.declared.view.PassView.{PassView}
use Rattle.loom_gate.specs.declared.view.Look.TheVariants.{Unknown}
use Rattle.loom_gate.specs.declared.view.KeyView.{KeyView}
use Rattle.loom_gate.specs.declared.view.View.{View}
use Rattle.loom_gate.specs.declared.view.View.TheVariants.{Pass, Key, Nobody}
use Rattle.loom_gate.specs.View.{mark, stand_word, flag_words, look_of, place_of, start, more, joined, tried, checked, polled, with_row, entered, left, flagged, looked, switch_rows, switched, pass_of, key_of}
use Rattle.loom_gate.specs.GateMachine.{IsThread, GateMachine, Lawful, AllStood}
use Rattle.loom_gate.specs.Rule.{GateHolds}
use Rattle.loom_gate.specs.Tells as tells
use Rattle.loom_gate.specs.Tells.{passed, keyed}
use Rattle.loom_gate.proofs.Machines.{upd, tries_lawful, flagged_lawful, clear_lawful, reads_lawful, polls_lawful, leaves_lawful, flags_lawful, looks_lawful, switches_lawful, word_low, nobody_inside}
use Rattle.loom_gate.proofs.Words.{same_word, up_after, store_stand, load_pass, found_up, raised_of, key_seats, key_makes, key_joins}

module _ {S : Type 0} (n places : ℕ) where
  abbrev Rule : State S View → Type 0
  Rule s = GateHolds n places s.words s.views

  -- kind 1
  tries : (slots id t place : ℕ) (p : PassView) (c : List (ℕ × S)) → p.stage ≡ Stands place
      → Allows Rule slots id (Pass t p, c) t (λ _. mark) (λ _. tells.Tries (step slots t mark 0 none) (Pass t p, c) mark)
  tries slots id t place p c at s k len here small =
      let mine = k.seats id (Pass t p) here in
      let law = subst (λ (x : PassView). x.stage ≡ Stands place → Lawful n record { passes = upd k.machine.passes t (record x { stage = Tries place; tries = x.tries + 1 }); key = k.machine.key }) (sym mine.2)
      (λ at'. tries_lawful n k.machine t place mine.0 at' k.lawful) at in
      let q : PassView = record p { stage = Tries place; tries = p.tries + 1 } in
      let is : q ≡ tried p = λ i. record p { stage = Tries (place_of (sym at i)); tries = p.tries + 1 } in
      (Pass t (tried p), keeps, tt, subst (λ (x : PassView). GateHolds n places (set s.words t mark) (set s.views id (Pass t x))) is (store_stand n places s.words s.views k id t p q mark here refl law), refl)

  -- kind 4
  leaves : (slots id t place : ℕ) (p : PassView) (c : List (ℕ × S)) → place < places → (p.stage ≡ Tries place) ⊎ ((v : ℕ) × (p.stage ≡ Inside v))
      → Allows Rule slots id (Pass t p, c) t (λ _. place) (λ _. tells.Leaves (step slots t place 0 none) (Pass t p, c) place)
  leaves slots id t place p c low from s k len here small =
      let mine = k.seats id (Pass t p) here in
      let size = k.size in
      let law = subst (λ (x : PassView). (x.stage ≡ Tries place) ⊎ ((v : ℕ) × (x.stage ≡ Inside v)) → Lawful n record { passes = upd k.machine.passes t (record x { stage = Stands place }); key = k.machine.key }) (sym mine.2)
      (λ from'. leaves_lawful n k.machine t place mine.0 (omega arith) from' k.lawful) from in
      (Pass t (left place p), keeps, tt, store_stand n places s.words s.views k id t p (left place p) place here refl law, (refl, (n, k.machine, k.lawful, mine.0, sym mine.2, tt)))

  -- kind 3
  reads : (slots id t place : ℕ) (p : PassView) (c : List (ℕ × S)) → p.stage ≡ Clear place
      → Allows Rule slots id (Pass t p, c) 0 (λ x. x) (tells.Reads (step slots 0 0 0 none) (Pass t p, c))
  reads slots id t place p c at s k len here small =
      let mine = k.seats id (Pass t p) here in
      let v : ℕ = k.machine.key.version in
      let law = subst (λ (x : PassView). x.stage ≡ Clear place → Lawful n record { passes = upd k.machine.passes t (record x { stage = Inside v; fresh = v + 1; rows = with_row x.fresh t v place x.rows }); key = k.machine.key }) (sym mine.2)
      (λ at'. reads_lawful n k.machine t place mine.0 at' k.lawful) at in
      let q : ℕ → ℕ → PassView = λ w x. record p { stage = Inside w; fresh = w + 1; rows = with_row p.fresh t w x p.rows } in
      let ok = load_pass n places s.words s.views k id t 0 p (q v place) here (ap stand_word at) law in (
        Pass t (entered t (get_or s.words 0 0) p),
        keeps,
        tt,
        subst (λ (x : ℕ). GateHolds n places (set s.words 0 (get_or s.words 0 0)) (set s.views id (Pass t (q (get_or s.words 0 0) x)))) (ap place_of (sym at))
            (subst (λ (w : ℕ). GateHolds n places (set s.words 0 (get_or s.words 0 0)) (set s.views id (Pass t (q w place)))) (sym k.version) ok),
        (refl, (n, k.machine, k.lawful, mine.0, sym mine.2, k.version)),
      )

  -- kind 2, in `enter`
  checks : (slots id t place : ℕ) (p : PassView) (c : List (ℕ × S)) → p.stage ≡ Tries place → place / 64 < flag_words places
      → Allows Rule slots id (Pass t p, c) ((n + 1) + place / 64) (λ x. x) (tells.Checks (step slots ((n + 1) + place / 64) 0 0 none) (Pass t p, c))
  checks slots id t place p c at low s k len here small =
      let i : ℕ = (n + 1) + place / 64 in
      let word : ℕ = get_or s.words i 0 in
      let mine = k.seats id (Pass t p) here in
      let at' : (k.machine.passes t).stage ≡ Tries place = ap (λ (x : PassView). x.stage) (sym mine.2) ∙ at in
      let wide = k.wide in let many = k.many in
      let inside : place / 64 < length k.machine.key.up = omega arith in
      let same = found_up n places s.words s.views k place inside in
      let raised = raised_of n places s.words s.views k i (omega arith) in
      let made : Bool → PassView = λ b. record p { stage = (if b then Tries place else Clear place); checks = p.checks + 1; latest = Some (i, word) } in
      let law : (b : Bool) → has_bit word place ≡ b → Lawful n record { passes = upd k.machine.passes t (made b); key = k.machine.key } =
      elim [
        | true ↦ λ e. subst (λ (x : PassView). Lawful n record { passes = upd k.machine.passes t (record x { stage = Tries place; checks = x.checks + 1; latest = Some (i, word) }); key = k.machine.key }) (sym mine.2)
            (flagged_lawful n k.machine t place mine.0 at' i word raised k.lawful)
        | false ↦ λ e. subst (λ (x : PassView). Lawful n record { passes = upd k.machine.passes t (record x { stage = Clear place; checks = x.checks + 1; latest = Some (i, word) }); key = k.machine.key }) (sym mine.2)
            (clear_lawful n k.machine t place mine.0 at' (λ on. true≢false (sym on ∙ (sym same ∙ e))) i word raised k.lawful)
      ] in
      let mark_of : (b : Bool) → mark ≡ stand_word (if b then Tries place else Clear place) = elim [ true ↦ refl | false ↦ refl ] in
      let ok = load_pass n places s.words s.views k id t i p (made (has_bit word place)) here (ap stand_word at ∙ mark_of (has_bit word place)) (law (has_bit word place) refl) in
      let is : made (has_bit word place) ≡ checked i word p = λ j. record p { stage = (if has_bit word (place_of (sym at j)) then Tries (place_of (sym at j)) else Clear (place_of (sym at j))); checks = p.checks + 1; latest = Some (i, word) } in (
        Pass t (checked i word p),
        keeps,
        tt,
        subst (λ (x : PassView). GateHolds n places (set s.words i word) (set s.views id (Pass t x))) is ok,
        (refl, (n, k.machine, k.lawful, mine.0, sym mine.2, subst (λ (st : Stage). has_bit word (place_of st) ≡ has_place k.machine.key.up (place_of st)) (sym at) same)),
      )

  -- kind 2, in `poll`
  polls : (slots id t v place : ℕ) (p : PassView) (c : List (ℕ × S)) → p.stage ≡ Inside v → place / 64 < flag_words places
      → Allows Rule slots id (Pass t p, c) ((n + 1) + place / 64) (λ x. x) (tells.Polls (step slots ((n + 1) + place / 64) 0 0 none) (Pass t p, c))
  polls slots id t v place p c at low s k len here small =
      let i : ℕ = (n + 1) + place / 64 in
      let word : ℕ = get_or s.words i 0 in
      let mine = k.seats id (Pass t p) here in
      let law = subst (λ (x : PassView). Lawful n record { passes = upd k.machine.passes t (record x { checks = x.checks + 1; latest = Some (i, word) }); key = k.machine.key }) (sym mine.2)
      (polls_lawful n k.machine t mine.0 i word (raised_of n places s.words s.views k i (omega arith)) k.lawful) in
      (Pass t (polled i word p), keeps, tt, load_pass n places s.words s.views k id t i p (polled i word p) here refl law, (refl, (n, k.machine, k.lawful, mine.0, sym mine.2, tt)))

  -- kinds 5 and 8
  flags : (slots id w x : ℕ) (l : KeyView) (c : List (ℕ × S)) → l.threads ≡ n → w < flag_words places
      → Allows Rule slots id (Key l, c) ((n + 1) + w) (λ _. x) (λ _. tells.Flags (step slots ((n + 1) + w) x 0 none) (Key l, c) x)
  flags slots id w x l c is_n low s k len here small =
      let i : ℕ = (n + 1) + w in
      let mine = k.seats id (Key l) here in
      let back : i - (l.threads + 1) ≡ w = omega arith in
      let old : KeyView = k.machine.key in
      let many = k.many in let wide = k.wide in
      let set_wide = length-set s.words i x in
      let new : KeyView = record old { up = set old.up w x; looks = replicate (length old.looks) Unknown; ever = (w, x) ∷ old.ever } in
      let is : new ≡ flagged i x l = (λ j. record (sym mine.1 j) { up = set (sym mine.1 j).up w x; looks = replicate (length (sym mine.1 j).looks) Unknown; ever = (w, x) ∷ (sym mine.1 j).ever })
      ∙ (λ j. record l { up = set l.up (sym back j) x; looks = replicate (length l.looks) Unknown; ever = (sym back j, x) ∷ l.ever }) in
      let ok : GateHolds n places (set s.words i x) (set s.views id (Key new)) = record {
        machine = record { passes = k.machine.passes; key = new };
        owner = k.owner;
        holder = k.holder;
        wide = omega arith;
        many = length-set old.up w x ∙ k.many;
        size = k.size;
        version = get_or-set_other s.words i 0 x 0 (λ e. omega arith) ∙ k.version;
        stands = λ t h. let a = h.1 in get_or-set_other s.words i t x 0 (λ e. omega arith) ∙ k.stands t h;
        flags = λ j h. dite (ℕ_discrete j w)
            (λ e. subst (λ (y : ℕ). get_or (set s.words i x) ((n + 1) + y) 0 ≡ get_or (set old.up w x) y 0) (sym e)
            (get_or-set_same s.words i x 0 (omega arith) ∙ sym (get_or-set_same old.up w x 0 (omega arith))))
            (λ other. let p = length-set old.up w x in get_or-set_other s.words i ((n + 1) + j) x 0 (λ e. other (omega arith)) ∙ (k.flags j (omega arith) ∙ sym (get_or-set_other old.up w j x 0 other)));
        seats = key_seats n places s.words s.views k id l new here (omega arith) refl;
        unborn = k.unborn;
        finals = k.finals;
        lawful = flags_lawful n k.machine (set old.up w x) ((w, x) ∷ old.ever) (up_after old.up old.ever w x (omega arith) k.lawful.raised) (λ q h. inr h) k.lawful;
      } in
      (Key (flagged i x l), keeps, tt, subst (λ (y : KeyView). GateHolds n places (set s.words i x) (set s.views id (Key y))) is ok, refl)

  -- kind 6
  looks : (slots id t : ℕ) (l : KeyView) (c : List (ℕ × S)) → IsThread n t
      → Allows Rule slots id (Key l, c) t (λ x. x) (tells.Looks (step slots t 0 0 none) (Key l, c))
  looks slots id t l c is_t s k len here small =
      let mine = k.seats id (Key l) here in
      let old : KeyView = k.machine.key in
      let word : ℕ = get_or s.words t 0 in
      let new : KeyView = record old { looks = set old.looks t (look_of (stand_word (k.machine.passes t).stage)); count = old.count + 1 } in
      let fits : (word ≤ mark) × (word < mark → word < l.places) = subst (λ (x : ℕ × KeyView). (x.0 ≤ mark) × (x.0 < mark → x.0 < x.1.places)) (λ j. (sym (k.stands t is_t) j, sym mine.1 j))
      (word_low old.places old.version (k.machine.passes t).tries (k.machine.passes t).fresh (k.machine.passes t).stage k.lawful.small (k.lawful.stages t is_t)) in
      let is : new ≡ looked t word l = (λ j. record (sym mine.1 j) { looks = set (sym mine.1 j).looks t (look_of (sym (k.stands t is_t) j)); count = (sym mine.1 j).count + 1 }) in
      let ok : GateHolds n places (set s.words t word) (set s.views id (Key new)) = subst (λ (ws : List ℕ). GateHolds n places ws (set s.views id (Key new))) (sym (same_word s.words t)) record {
        machine = record { passes = k.machine.passes; key = new };
        owner = k.owner;
        holder = k.holder;
        wide = k.wide;
        many = k.many;
        size = k.size;
        version = k.version;
        stands = k.stands;
        flags = k.flags;
        seats = key_seats n places s.words s.views k id l new here (omega arith) refl;
        unborn = k.unborn;
        finals = k.finals;
        lawful = looks_lawful n k.machine t is_t k.lawful;
      } in (
        Key (looked t word l),
        keeps,
        tt,
        subst (λ (y : KeyView). GateHolds n places (set s.words t word) (set s.views id (Key y))) is ok,
        (refl, fits.0, fits.1),
      )

  -- kind 7
  switches : (slots id v : ℕ) (l : KeyView) (c : List (ℕ × S)) → v ≡ l.version + 1 → l.version < 128 → AllStood n l
      → Allows Rule slots id (Key l, c) 0 (λ _. v) (λ _. tells.Switches (step slots 0 v 0 none) (Key l, c) v)
  switches slots id v l c next low all s k len here small =
      let mine = k.seats id (Key l) here in
      let old : KeyView = k.machine.key in
      let new : KeyView = record old { version = old.version + 1; switches = old.switches ++ switch_rows (old.version + 1) old.looks old.threads } in
      let is : new ≡ switched l = λ j. record (sym mine.1 j) { version = (sym mine.1 j).version + 1; switches = (sym mine.1 j).switches ++ switch_rows ((sym mine.1 j).version + 1) (sym mine.1 j).looks (sym mine.1 j).threads } in
      let wide = k.wide in let set_wide = length-set s.words 0 v in
      let same : l.version ≡ old.version = ap (λ (y : KeyView). y.version) mine.1 in
      let ok : GateHolds n places (set s.words 0 v) (set s.views id (Key new)) = record {
        machine = record { passes = k.machine.passes; key = new };
        owner = k.owner;
        holder = k.holder;
        wide = omega arith;
        many = k.many;
        size = k.size;
        version = get_or-set_same s.words 0 v 0 (omega arith) ∙ (next ∙ ap (λ (y : KeyView). y.version + 1) mine.1);
        stands = λ t h. let a = h.0 in get_or-set_other s.words 0 t v 0 (λ e. omega arith) ∙ k.stands t h;
        flags = λ j h. get_or-set_other s.words 0 ((n + 1) + j) v 0 (λ e. omega arith) ∙ k.flags j h;
        seats = key_seats n places s.words s.views k id l new here (omega arith) refl;
        unborn = k.unborn;
        finals = k.finals;
        lawful = switches_lawful n k.machine (subst (AllStood n) mine.1 all) (omega arith) k.lawful;
      } in (
        Key (switched l),
        keeps,
        tt,
        subst (λ (y : KeyView). GateHolds n places (set s.words 0 v) (set s.views id (Key y))) is ok,
        (refl, (n, k.machine, k.lawful, sym mine.1, nobody_inside n k.machine (subst (AllStood n) mine.1 all) k.lawful)),
      )

  -- the same at a view that is known to be of a pass or of the key
  pub tries_at : (slots id i t place : ℕ) (p : PassView) (m : Me S View) → i ≡ t → m ≡ (Pass t p, []) → p.stage ≡ Stands place → Allows Rule slots id m i (λ _. mark) (λ _. tells.Tries (step slots i mark 0 none) m mark)
  tries_at slots id i t place p m here e at = subst (λ (x : ℕ × Me S View). Allows Rule slots id x.1 x.0 (λ _. mark) (λ _. tells.Tries (step slots x.0 mark 0 none) x.1 mark)) (λ j. (sym here j, sym e j)) (tries slots id t place p [] at)

  pub leaves_at : (slots id i t place : ℕ) (p : PassView) (m : Me S View) → i ≡ t → m ≡ (Pass t p, []) → place < places → (p.stage ≡ Tries place) ⊎ ((v : ℕ) × (p.stage ≡ Inside v))
      → Allows Rule slots id m i (λ _. place) (λ _. tells.Leaves (step slots i place 0 none) m place)
  leaves_at slots id i t place p m here e low from = subst (λ (x : ℕ × Me S View). Allows Rule slots id x.1 x.0 (λ _. place) (λ _. tells.Leaves (step slots x.0 place 0 none) x.1 place)) (λ j. (sym here j, sym e j)) (leaves slots id t place p [] low from)

  pub reads_at : (slots id t place : ℕ) (p : PassView) (m : Me S View) → m ≡ (Pass t p, []) → p.stage ≡ Clear place → Allows Rule slots id m 0 (λ x. x) (tells.Reads (step slots 0 0 0 none) m)
  reads_at slots id t place p m e at = subst (λ (x : Me S View). Allows Rule slots id x 0 (λ x. x) (tells.Reads (step slots 0 0 0 none) x)) (sym e) (reads slots id t place p [] at)

  pub checks_at : (slots id t place i : ℕ) (p : PassView) (m : Me S View) → i ≡ (n + 1) + place / 64 → m ≡ (Pass t p, []) → p.stage ≡ Tries place → place / 64 < flag_words places
      → Allows Rule slots id m i (λ x. x) (tells.Checks (step slots i 0 0 none) m)
  checks_at slots id t place i p m here e at low = subst (λ (x : ℕ × Me S View). Allows Rule slots id x.1 x.0 (λ x. x) (tells.Checks (step slots x.0 0 0 none) x.1)) (λ j. (sym here j, sym e j)) (checks slots id t place p [] at low)

  pub polls_at : (slots id t v place i : ℕ) (p : PassView) (m : Me S View) → i ≡ (n + 1) + place / 64 → m ≡ (Pass t p, []) → p.stage ≡ Inside v → place / 64 < flag_words places
      → Allows Rule slots id m i (λ x. x) (tells.Polls (step slots i 0 0 none) m)
  polls_at slots id t v place i p m here e at low = subst (λ (x : ℕ × Me S View). Allows Rule slots id x.1 x.0 (λ x. x) (tells.Polls (step slots x.0 0 0 none) x.1)) (λ j. (sym here j, sym e j)) (polls slots id t v place p [] at low)

  pub flags_at : (slots id w x i : ℕ) (l : KeyView) (m : Me S View) → i ≡ (n + 1) + w → m ≡ (Key l, []) → l.threads ≡ n → w < flag_words places
      → Allows Rule slots id m i (λ _. x) (λ _. tells.Flags (step slots i x 0 none) m x)
  flags_at slots id w x i l m here e is_n low = subst (λ (y : ℕ × Me S View). Allows Rule slots id y.1 y.0 (λ _. x) (λ _. tells.Flags (step slots y.0 x 0 none) y.1 x)) (λ j. (sym here j, sym e j)) (flags slots id w x l [] is_n low)

  pub looks_at : (slots id t : ℕ) (l : KeyView) (m : Me S View) → m ≡ (Key l, []) → IsThread n t → Allows Rule slots id m t (λ x. x) (tells.Looks (step slots t 0 0 none) m)
  looks_at slots id t l m e is = subst (λ (y : Me S View). Allows Rule slots id y t (λ x. x) (tells.Looks (step slots t 0 0 none) y)) (sym e) (looks slots id t l [] is)

  pub switches_at : (slots id v : ℕ) (l : KeyView) (m : Me S View) → m ≡ (Key l, []) → v ≡ l.version + 1 → l.version < 128 → AllStood n l
      → Allows Rule slots id m 0 (λ _. v) (λ _. tells.Switches (step slots 0 v 0 none) m v)
  switches_at slots id v l m e next low all = subst (λ (y : Me S View). Allows Rule slots id y 0 (λ _. v) (λ _. tells.Switches (step slots 0 v 0 none) y v)) (sym e) (switches slots id v l [] next low all)

  pub makes_at : (id : ℕ) (v : View) (l : KeyView) → v ≡ Key l → l.born < n → l.finals ≡ [] → Splits Rule id v (Key (more (key_of v))) (Pass ((key_of v).born + 1) start)
  makes_at id v l e room alone = subst (λ (x : View). Splits Rule id x (Key (more (key_of x))) (Pass ((key_of x).born + 1) start)) (sym e) (λ s k at. key_makes n places s.words s.views k id l room alone at)

  pub joins_at : (id other : ℕ) (v w : View) (l : KeyView) (t : ℕ) (p : PassView) → v ≡ Key l → w ≡ Pass t p → length l.finals + 1 ≡ t → Joins Rule id v other w (Key (joined (key_of v) (pass_of w))) Nobody
  joins_at id other v w l t p e d next = subst (λ (x : View × View). Joins Rule id x.0 other x.1 (Key (joined (key_of x.0) (pass_of x.1))) Nobody) (λ j. (sym e j, sym d j))
      (λ s k at apart there. key_joins n places s.words s.views k id l other t p next at apart (sym (set_else s.views id other (Key (joined l p)) apart) ∙ there))

  -- the table at the end: a lawful machine with what the key and the passes that were joined knew
  pub closes : (id : ℕ) (v : View) (l : KeyView) (ws : List ℕ) (xs : List S) → v ≡ Key l → Final (Seen Rule id v) ws xs
      → (m : GateMachine) × Lawful n m × (m.key ≡ l) × ((t : ℕ) → t < length l.finals → m.passes (t + 1) ≡ get_or l.finals t start)
  closes id v l ws xs e done =
      let k = done.1.0 in
      let mine = k.seats id (Key l) (done.1.1 ∙ ap some e) in
      (k.machine, k.lawful, sym mine.1, λ t h. k.finals t (subst (λ (y : KeyView). t < length y.finals) mine.1 h) ∙ ap (λ (y : KeyView). get_or y.finals t start) (sym mine.1))
