-- The code of statements with blocks, whose jumps get their targets once these are known.
use Rattle.std.proofs.Common.{ℕ, suc, ◌+◌, ◌<◌, ◌≡◌, List, [], ◌∷◌, ◌++◌, length, slice_set, ap, sym, ◌∙◌, arith, append_assoc, length-append, length-set}
use Rattle.std.proofs.Math.Seq.{set-append_seam}
use Rattle.loom_tree.specs.Tree.{Expression, Body, end, if_, while_, Source}
use Rattle.loom_flow.specs.declared.code.Operand.{Operand}
use Rattle.loom_flow.specs.declared.code.Instr.{Instr}
use Rattle.loom_flow.specs.declared.code.CodeStep.{CodeStep}
use Rattle.loom_flow.specs.declared.code.CodeStep.TheVariants as s
use Rattle.loom_flow.specs.declared.code.Control.TheVariants.{Begin, Done, Edge, Jump, JumpIfZero}
use Rattle.loom_flow.specs.FlatCode.{operand_of, operand_steps, instr, instrs, size, place_count, flat_body}
use Rattle.loom_flow.proofs.Sizes.{instrs_append, instrs_length, code_length}
use Rattle.loom_flow.proofs.Bodies.{moved_code}

patched : {A : Type 0} (xs ys : List A) (x y : A) (at : ℕ) → at ≡ length xs → slice_set (xs ++ x ∷ ys) at y ≡ xs ++ y ∷ ys
patched xs ys x y at h = ap (λ n. slice_set (xs ++ x ∷ ys) n y) h ∙ set-append_seam xs x ys y

-- one jump behind a front, then a block and one instruction more
aimed_once : {A : Type 0} (front cs : List A) (x0 x y : A) (at : ℕ) (tested ran jumps aimed : List A) →
    tested ≡ front ++ x0 ∷ [] →
    ran ≡ tested ++ cs →
    jumps ≡ ran ++ y ∷ [] →
    at ≡ length front →
    aimed ≡ slice_set jumps at x →
    aimed ≡ (front ++ x ∷ cs) ++ y ∷ []
aimed_once front cs x0 x y at tested ran jumps aimed h1 h2 h3 h4 h5 =
    let one : jumps ≡ ((front ++ x0 ∷ []) ++ cs) ++ y ∷ [] = h3 ∙ ap (λ z. z ++ y ∷ []) (h2 ∙ ap (λ z. z ++ cs) h1) in
    let two : ((front ++ x0 ∷ []) ++ cs) ++ y ∷ [] ≡ front ++ x0 ∷ (cs ++ y ∷ []) = simp append_assoc in
    h5 ∙ ap (λ z. slice_set z at x) (one ∙ two) ∙ patched front (cs ++ y ∷ []) x0 x at h4 ∙ sym (append_assoc front (x ∷ cs) (y ∷ []))

-- a second block, behind the jump over it
aimed_twice : {A : Type 0} (front bs : List A) (y0 y z : A) (over : ℕ) (aimed otherwise over_it new : List A) →
    aimed ≡ front ++ y0 ∷ [] →
    otherwise ≡ aimed ++ bs →
    over ≡ length front →
    over_it ≡ slice_set otherwise over y →
    new ≡ over_it ++ z ∷ [] →
    new ≡ front ++ y ∷ (bs ++ z ∷ [])
aimed_twice front bs y0 y z over aimed otherwise over_it new h1 h2 h3 h4 h5 =
    let one : otherwise ≡ front ++ y0 ∷ bs = h2 ∙ ap (λ w. w ++ bs) h1 ∙ append_assoc front (y0 ∷ []) bs in
    h5 ∙ ap (λ w. w ++ z ∷ []) (h4 ∙ ap (λ w. slice_set w over y) one ∙ patched front bs y0 y over h3) ∙ append_assoc front (y ∷ bs) (z ∷ [])

-- the test of a statement, which begins it
test_front : (l place : ℕ) (steps : List CodeStep) (x : CodeStep) (old rest : List Instr) → ((old ++ instr l place (s.Control Begin) ∷ []) ++ instrs l place steps) ++ instr l place x ∷ rest ≡ old ++ (instrs l place (s.Control Begin ∷ (steps ++ x ∷ [])) ++ rest)
test_front l place steps x old rest =
    let is = instrs_append l place steps (x ∷ []) in
    let one : ((old ++ instr l place (s.Control Begin) ∷ []) ++ instrs l place steps) ++ instr l place x ∷ rest ≡ old ++ instr l place (s.Control Begin) ∷ ((instrs l place steps ++ instr l place x ∷ []) ++ rest) = simp append_assoc in
    one ∙ ap (λ z. old ++ instr l place (s.Control Begin) ∷ (z ++ rest)) (sym is)

-- how far the front is
front_length : (l place : ℕ) (steps : List CodeStep) (old begun : List Instr) → begun ≡ old ++ instr l place (s.Control Begin) ∷ [] → length (begun ++ instrs l place steps) ≡ length old + (1 + length steps)
front_length l place steps old begun h =
    let one = ap length h in
    let two = length-append old (instr l place (s.Control Begin) ∷ []) in
    let three = length-append begun (instrs l place steps) in
    let four = instrs_length l place steps in
    omega arith

-- a test stands behind its operand
tested_front : (l place : ℕ) (steps : List CodeStep) (x : CodeStep) (begun tested : List Instr) → tested ≡ begun ++ instrs l place (steps ++ x ∷ []) → tested ≡ (begun ++ instrs l place steps) ++ instr l place x ∷ []
tested_front l place steps x begun tested h = h ∙ ap (λ z. begun ++ z) (instrs_append l place steps (x ∷ [])) ∙ sym (append_assoc begun (instrs l place steps) (instr l place x ∷ []))

at_front : (l place at : ℕ) (steps : List CodeStep) (begun : List Instr) → at ≡ length begun + length steps → at ≡ length (begun ++ instrs l place steps)
at_front l place at steps begun h =
    let one = length-append begun (instrs l place steps) in
    let two = instrs_length l place steps in
    omega arith

pub pushed : {A : Type 0} (xs ys : List A) (x : A) → ys ≡ xs ++ x ∷ [] → length ys ≡ length xs + 1
pushed xs ys x h = ap length h ∙ length-append xs (x ∷ [])

behind_code : (p : Source) (names : List (List ℕ)) (b : Body) (n place : ℕ) (xs ys : List Instr) → ys ≡ xs ++ flat_body p names n place b → length ys ≡ length xs + size p names b
behind_code p names b n place xs ys h = ap length h ∙ length-append xs (flat_body p names n place b) ∙ ap (λ m. length xs + m) (code_length p names b n place)

-- how long the code is behind the test, and behind a target that was put in
pub tested_long : (l place : ℕ) (steps : List CodeStep) (x : CodeStep) (old begun tested : List Instr) → begun ≡ old ++ instr l place (s.Control Begin) ∷ [] → tested ≡ begun ++ instrs l place (steps ++ x ∷ []) → length tested ≡ length old + (2 + length steps)
tested_long l place steps x old begun tested h1 h2 =
    let front : length tested ≡ length (begun ++ instrs l place steps) + 1 = pushed (begun ++ instrs l place steps) tested (instr l place x) (tested_front l place steps x begun tested h2) in
    let is = front_length l place steps old begun h1 in
    omega arith

pub aimed_long : (p : Source) (names : List (List ℕ)) (a : Body) (n place at : ℕ) (x y : Instr) (tested ran jumps aimed : List Instr) → ran ≡ tested ++ flat_body p names n place a → jumps ≡ ran ++ y ∷ [] → aimed ≡ slice_set jumps at x → length aimed ≡ length tested + (size p names a + 1)
aimed_long p names a n place at x y tested ran jumps aimed h1 h2 h3 =
    let one = behind_code p names a n place tested ran h1 in
    let two = pushed ran jumps y h2 in
    let three = ap length h3 ∙ length-set jumps at x in
    omega arith

pub at_within : (l place at : ℕ) (steps : List CodeStep) (x : CodeStep) (y : Instr) (begun tested bs ran jumps : List Instr) → tested ≡ begun ++ instrs l place (steps ++ x ∷ []) → ran ≡ tested ++ bs → jumps ≡ ran ++ y ∷ [] → at ≡ length begun + length steps → at < length jumps
at_within l place at steps x y begun tested bs ran jumps h1 h2 h3 h4 =
    let front : length tested ≡ length (begun ++ instrs l place steps) + 1 = pushed (begun ++ instrs l place steps) tested (instr l place x) (tested_front l place steps x begun tested h1) in
    let at_is : at ≡ length (begun ++ instrs l place steps) = at_front l place at steps begun h4 in
    let more = ap length h2 ∙ length-append tested bs in
    let last = pushed ran jumps y h3 in
    omega arith

-- The code of an `if`: the jump to the second block, and then the one over it, get their targets.
pub if_code : (p : Source) (names : List (List ℕ)) (l place : ℕ) (e : Expression) (a b : Body) (o : Operand) (at over second done first_place second_place : ℕ) (old begun tested ran jumps aimed otherwise over_it new : List Instr) →
    begun ≡ old ++ instr l place (s.Control Begin) ∷ [] →
    tested ≡ begun ++ instrs l place (operand_steps p names e ++ s.Control (JumpIfZero (operand_of names e) 0) ∷ []) →
    at ≡ length begun + length (operand_steps p names e) →
    o ≡ operand_of names e →
    ran ≡ tested ++ flat_body p names (length tested) first_place a →
    over ≡ length ran →
    jumps ≡ ran ++ instr l place (s.Control (Jump 0)) ∷ [] →
    second ≡ length jumps →
    aimed ≡ slice_set jumps at (instr l place (s.Control (JumpIfZero o second))) →
    otherwise ≡ aimed ++ flat_body p names (length aimed) second_place b →
    done ≡ length otherwise →
    over_it ≡ slice_set otherwise over (instr l place (s.Control (Jump done))) →
    new ≡ over_it ++ instr l place (s.Control Done) ∷ [] →
    first_place ≡ suc place →
    second_place ≡ suc place + place_count a →
    new ≡ old ++ flat_body p names (length old) place (if_ l e a b end)
if_code p names l place e a b o at over second done first_place second_place old begun tested ran jumps aimed otherwise over_it new h1 h2 h3 h4 h5 h6 h7 h8 h9 h10 h11 h12 h13 h14 h15 =
    let steps : List CodeStep = operand_steps p names e in
    let jump : ℕ → Instr = λ (n : ℕ). instr l place (s.Control (JumpIfZero (operand_of names e) n)) in
    let over_to : ℕ → Instr = λ (n : ℕ). instr l place (s.Control (Jump n)) in
    let front : List Instr = begun ++ instrs l place steps in
    let first : ℕ = length old + (2 + length steps) in
    let next : ℕ = first + (1 + size p names a) in
    let cs : List Instr = flat_body p names first (suc place) a in
    let bs : List Instr = flat_body p names next (suc place + place_count a) b in
    let tested_is : tested ≡ front ++ jump 0 ∷ [] = tested_front l place steps (s.Control (JumpIfZero (operand_of names e) 0)) begun tested h2 in
    let front_is : length front ≡ length old + (1 + length steps) = front_length l place steps old begun h1 in
    let tested_long : length tested ≡ length front + 1 = pushed front tested (jump 0) tested_is in
    let first_is : length tested ≡ first = omega arith in
    let ran_is : ran ≡ tested ++ cs = h5 ∙ ap (λ z. tested ++ z) (moved_code p names a _ _ _ _ first_is h14) in
    let ran_long : length ran ≡ length tested + size p names a = behind_code p names a first (suc place) tested ran ran_is in
    let jumps_long : length jumps ≡ length ran + 1 = pushed ran jumps (over_to 0) h7 in
    let aimed_is : aimed ≡ (front ++ jump second ∷ cs) ++ over_to 0 ∷ [] =
    aimed_once front cs (jump 0) (jump second) (over_to 0) at tested ran jumps aimed tested_is ran_is h7 (at_front l place at steps begun h3) (h9 ∙ ap (λ z. slice_set jumps at (instr l place (s.Control (JumpIfZero z second)))) h4) in
    let longer : length (front ++ jump second ∷ cs) ≡ length front + (1 + size p names a) = length-append front (jump second ∷ cs) ∙ ap (λ n. length front + suc n) (code_length p names a first (suc place)) ∙ omega arith in
    let aimed_long : length aimed ≡ length (front ++ jump second ∷ cs) + 1 = pushed (front ++ jump second ∷ cs) aimed (over_to 0) aimed_is in
    let next_is : length aimed ≡ next = omega arith in
    let otherwise_is : otherwise ≡ aimed ++ bs = h10 ∙ ap (λ z. aimed ++ z) (moved_code p names b _ _ _ _ next_is h15) in
    let otherwise_long : length otherwise ≡ length aimed + size p names b = behind_code p names b next (suc place + place_count a) aimed otherwise otherwise_is in
    let over_is : over ≡ length (front ++ jump second ∷ cs) = omega arith in
    let new_is : new ≡ (front ++ jump second ∷ cs) ++ over_to done ∷ (bs ++ instr l place (s.Control Done) ∷ []) =
    aimed_twice (front ++ jump second ∷ cs) bs (over_to 0) (over_to done) (instr l place (s.Control Done)) over aimed otherwise over_it new aimed_is otherwise_is over_is h12 h13 in
    let second_is : second ≡ next = omega arith in
    let done_is : done ≡ next + size p names b = omega arith in
    new_is
    ∙ append_assoc front (jump second ∷ cs) (over_to done ∷ (bs ++ instr l place (s.Control Done) ∷ []))
    ∙ ap (λ z. (z ++ instrs l place steps) ++ jump second ∷ (cs ++ over_to done ∷ (bs ++ instr l place (s.Control Done) ∷ []))) h1
    ∙ test_front l place steps (s.Control (JumpIfZero (operand_of names e) second)) old (cs ++ over_to done ∷ (bs ++ instr l place (s.Control Done) ∷ []))
    ∙ ap (λ n. old ++ (instrs l place (s.Control Begin ∷ (steps ++ s.Control (JumpIfZero (operand_of names e) n) ∷ [])) ++ (cs ++ over_to done ∷ (bs ++ instr l place (s.Control Done) ∷ [])))) second_is
    ∙ ap (λ n. old ++ (instrs l place (s.Control Begin ∷ (steps ++ s.Control (JumpIfZero (operand_of names e) next) ∷ [])) ++ (cs ++ over_to n ∷ (bs ++ instr l place (s.Control Done) ∷ [])))) done_is

-- The code of a `while`: the back edge leads to the test, whose jump gets its target behind that.
pub while_code : (p : Source) (names : List (List ℕ)) (l place : ℕ) (e : Expression) (a : Body) (o : Operand) (head at done first_place : ℕ) (old begun tested ran jumps aimed new : List Instr) →
    begun ≡ old ++ instr l place (s.Control Begin) ∷ [] →
    head ≡ length begun →
    tested ≡ begun ++ instrs l place (operand_steps p names e ++ s.Control (JumpIfZero (operand_of names e) 0) ∷ []) →
    at ≡ length begun + length (operand_steps p names e) →
    o ≡ operand_of names e →
    ran ≡ tested ++ flat_body p names (length tested) first_place a →
    jumps ≡ ran ++ instr l (suc place) (s.Control (Edge head)) ∷ [] →
    done ≡ length jumps →
    aimed ≡ slice_set jumps at (instr l place (s.Control (JumpIfZero o done))) →
    new ≡ aimed ++ instr l place (s.Control Done) ∷ [] →
    first_place ≡ suc (suc place) →
    new ≡ old ++ flat_body p names (length old) place (while_ l e a end)
while_code p names l place e a o head at done first_place old begun tested ran jumps aimed new h1 h2 h3 h4 h5 h6 h7 h8 h9 h10 h11 =
    let steps : List CodeStep = operand_steps p names e in
    let jump : ℕ → Instr = λ (n : ℕ). instr l place (s.Control (JumpIfZero (operand_of names e) n)) in
    let back : ℕ → Instr = λ (n : ℕ). instr l (suc place) (s.Control (Edge n)) in
    let front : List Instr = begun ++ instrs l place steps in
    let first : ℕ = length old + 1 + (1 + length steps) in
    let cs : List Instr = flat_body p names first (suc (suc place)) a in
    let tested_is : tested ≡ front ++ jump 0 ∷ [] = tested_front l place steps (s.Control (JumpIfZero (operand_of names e) 0)) begun tested h3 in
    let front_is : length front ≡ length old + (1 + length steps) = front_length l place steps old begun h1 in
    let tested_long : length tested ≡ length front + 1 = pushed front tested (jump 0) tested_is in
    let first_is : length tested ≡ first = omega arith in
    let ran_is : ran ≡ tested ++ cs = h6 ∙ ap (λ z. tested ++ z) (moved_code p names a _ _ _ _ first_is h11) in
    let ran_long : length ran ≡ length tested + size p names a = behind_code p names a first (suc (suc place)) tested ran ran_is in
    let jumps_long : length jumps ≡ length ran + 1 = pushed ran jumps (back head) h7 in
    let aimed_is : aimed ≡ (front ++ jump done ∷ cs) ++ back head ∷ [] =
    aimed_once front cs (jump 0) (jump done) (back head) at tested ran jumps aimed tested_is ran_is h7 (at_front l place at steps begun h4) (h9 ∙ ap (λ z. slice_set jumps at (instr l place (s.Control (JumpIfZero z done)))) h5) in
    let done_is : done ≡ first + (1 + size p names a) = omega arith in
    let head_is : head ≡ length old + 1 = h2 ∙ pushed old begun (instr l place (s.Control Begin)) h1 in
    let flat : ((front ++ jump done ∷ cs) ++ back head ∷ []) ++ instr l place (s.Control Done) ∷ [] ≡ front ++ jump done ∷ (cs ++ back head ∷ instr l place (s.Control Done) ∷ []) = simp append_assoc in
    h10
    ∙ ap (λ z. z ++ instr l place (s.Control Done) ∷ []) aimed_is
    ∙ flat
    ∙ ap (λ z. (z ++ instrs l place steps) ++ jump done ∷ (cs ++ back head ∷ instr l place (s.Control Done) ∷ [])) h1
    ∙ test_front l place steps (s.Control (JumpIfZero (operand_of names e) done)) old (cs ++ back head ∷ instr l place (s.Control Done) ∷ [])
    ∙ ap (λ n. old ++ (instrs l place (s.Control Begin ∷ (steps ++ s.Control (JumpIfZero (operand_of names e) n) ∷ [])) ++ (cs ++ back head ∷ instr l place (s.Control Done) ∷ []))) done_is
    ∙ ap (λ n. old ++ (instrs l place (s.Control Begin ∷ (steps ++ s.Control (JumpIfZero (operand_of names e) (first + (1 + size p names a))) ∷ [])) ++ (cs ++ back n ∷ instr l place (s.Control Done) ∷ []))) head_is
