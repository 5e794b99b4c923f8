-- Texts that are written out: filters of each kind, and one that is refused.
use Rattle.std.proofs.Common.{ℕ, ◌≡◌, inl, inr, List, [], ◌∷◌, Some, None, refl, sym, codes, arith, ◌≤◌, true, false}
use Rattle.std.proofs.lemmas.Bool.{both_ways}
use Rattle.loom_tree.specs.Tree.{var}
use Rattle.loom_lexer.specs.declared.lexeme.LexemeKind.{LexemeKind}
use Rattle.loom_lexer.specs.declared.lexeme.LexemeKind.TheVariants as k
use Rattle.loom_lexer.specs.Lexeme.{Lexeme, is_digit}
use Rattle.loom_expression.specs.Text.{Text}
use Rattle.loom_command.specs.FilterFault.{FilterFault, IsNoLater, HasFault, IsFaultOf, IsRefusedText, IsFilter}
use Rattle.loom_command.specs.FilterForm.{TestForm, EventForm, StepForm, RegionForm, ClauseForm, IsFileWord, IsTest, IsNumber, IsStep, IsRegion, IsClause, filter_tree}
use Rattle.loom_command.specs.FilterForm as form
use Rattle.loom_command.specs.FilterText.{AreWritten, filter_pieces}

-- an order, with a count and a test: `a.lm:1{2} > a.lm:2( p)`

abbrev test : TestForm
test = record { bytes = codes " p"; tree = var (codes "p") }

abbrev lexeme_of : List ℕ → LexemeKind → Lexeme
lexeme_of text kind = record { kind = kind; text = text }

is_test : IsTest test
is_test = record {
  lexemes = lexeme_of (codes " ") k.White ∷ lexeme_of (codes "p") k.Name ∷ [];
  lexed = (codes "p", refl, (refl, refl), ([], refl, (refl, tt, tt), refl));
  one_line = (refl, (refl, tt));
  no_comment = (refl, (refl, tt));
  is = record { written = Text.var (codes "p"); rules = record { level = tt; small = omega arith; nests = omega arith }; spelled = refl; stands = refl };
}

abbrev first : StepForm
first = record { event = record { file = codes "a.lm"; line = codes "1"; test = None }; count = Some (codes "2") }

abbrev second : StepForm
second = record { event = record { file = codes "a.lm"; line = codes "2"; test = Some test }; count = None }

abbrev steps : ClauseForm
steps = form.order first second []

digit : (d : ℕ) → 49 ≤ d → d ≤ 57 → is_digit d ≡ true → IsNumber (d ∷ [])
digit d l h e = record { digits_alone = (e, tt); least = omega arith; most = omega arith }

file_name : IsFileWord (codes "a.lm")
file_name = (refl, (refl, (refl, (refl, tt))))

first_step : IsStep first
first_step = record { event = record { file = file_name; line = digit 49 (omega arith) (omega arith) refl; test = tt }; count = digit 50 (omega arith) (omega arith) refl }

second_step : IsStep second
second_step = record { event = record { file = file_name; line = digit 50 (omega arith) (omega arith) refl; test = is_test }; count = tt }

steps_written : AreWritten (filter_pieces (steps ∷ [])) [] (codes "a.lm:1{2} > a.lm:2( p)")
steps_written = (
  [],
  codes ":1{2} > a.lm:2( p)",
  refl,
  tt,
  refl,
  (
    [],
    codes "1{2} > a.lm:2( p)",
    refl,
    tt,
    tt,
    (
      [],
      codes "{2} > a.lm:2( p)",
      refl,
      tt,
      refl,
      (
        [],
        codes "2} > a.lm:2( p)",
        refl,
        tt,
        tt,
        (
          [],
          codes "} > a.lm:2( p)",
          refl,
          tt,
          refl,
          (
            [],
            codes " > a.lm:2( p)",
            refl,
            tt,
            tt,
            (
              codes " ",
              codes " a.lm:2( p)",
              refl,
              (refl, tt),
              tt,
              (
                codes " ",
                codes ":2( p)",
                refl,
                (refl, tt),
                refl,
                (
                  [],
                  codes "2( p)",
                  refl,
                  tt,
                  tt,
                  (
                    [],
                    codes "( p)",
                    refl,
                    tt,
                    refl,
                    ([], [], refl, tt, tt, refl),
                  ),
                ),
              ),
            ),
          ),
        ),
      ),
    ),
  ),
)

steps_faultless : (x : FilterFault) → IsFaultOf 1 0 (steps ∷ []) x → ⊥
steps_faultless x (inl h) = go h.1
  where
    go : HasFault 1 0 steps x.number → ⊥
    go (inl i) = both_ways false refl i.1
    go (inr (inl i)) = elim i.1 [ inl t ↦ elim t [ inl s ↦ omega (arith, s.line) | inr n ↦ absurd n ] | inr t ↦ elim t [ inl n ↦ absurd n | inr n ↦ absurd n ] ]
    go (inr (inr i)) = both_ways false refl i.1
steps_faultless x (inr h) = absurd h

pub is_order : IsFilter (codes "a.lm:1{2} > a.lm:2( p)") (filter_tree (steps ∷ []))
is_order = record {
  first = steps;
  others = [];
  form = record { rules = ((first_step, second_step, tt), tt); blanks = []; written = steps_written; blank = tt };
  faultless = steps_faultless;
  tree = refl;
}

-- regions that exclude each other: `f() <> {a.lm:1; a.lm:2( p)}`

abbrev plain : StepForm
plain = record { event = record { file = codes "a.lm"; line = codes "1"; test = None }; count = None }

plain_step : IsStep plain
plain_step = record { event = record { file = file_name; line = digit 49 (omega arith) (omega arith) refl; test = tt }; count = tt }

abbrev regions : ClauseForm
regions = form.exclusive (form.whole (codes "f") None) (form.between plain [] second [] ∷ [])

regions_written : AreWritten (filter_pieces (regions ∷ [])) [] (codes "f() <> {a.lm:1; a.lm:2( p)}")
regions_written = (
  [],
  codes "() <> {a.lm:1; a.lm:2( p)}",
  refl,
  tt,
  refl,
  (
    [],
    codes ") <> {a.lm:1; a.lm:2( p)}",
    refl,
    tt,
    tt,
    (
      [],
      codes " <> {a.lm:1; a.lm:2( p)}",
      refl,
      tt,
      tt,
      (
        codes " ",
        codes " {a.lm:1; a.lm:2( p)}",
        refl,
        (refl, tt),
        tt,
        (
          codes " ",
          codes "a.lm:1; a.lm:2( p)}",
          refl,
          (refl, tt),
          tt,
          (
            [],
            codes ":1; a.lm:2( p)}",
            refl,
            tt,
            refl,
            (
              [],
              codes "1; a.lm:2( p)}",
              refl,
              tt,
              tt,
              (
                [],
                codes "; a.lm:2( p)}",
                refl,
                tt,
                refl,
                (
                  [],
                  codes " a.lm:2( p)}",
                  refl,
                  tt,
                  tt,
                  (
                    codes " ",
                    codes ":2( p)}",
                    refl,
                    (refl, tt),
                    refl,
                    (
                      [],
                      codes "2( p)}",
                      refl,
                      tt,
                      tt,
                      (
                        [],
                        codes "( p)}",
                        refl,
                        tt,
                        refl,
                        (
                          [],
                          codes "}",
                          refl,
                          tt,
                          tt,
                          ([], [], refl, tt, tt, refl),
                        ),
                      ),
                    ),
                  ),
                ),
              ),
            ),
          ),
        ),
      ),
    ),
  ),
)

regions_faultless : (x : FilterFault) → IsFaultOf 1 0 (regions ∷ []) x → ⊥
regions_faultless x (inl h) = go h.1
  where
    go : HasFault 1 0 regions x.number → ⊥
    go (inl i) = both_ways false refl i.1
    go (inr (inl i)) = absurd i.1
    go (inr (inr i)) = both_ways false refl i.1
regions_faultless x (inr h) = absurd h

pub is_exclusion : IsFilter (codes "f() <> {a.lm:1; a.lm:2( p)}") (filter_tree (regions ∷ []))
is_exclusion = record {
  first = regions;
  others = [];
  form = record { rules = ((((refl, tt, refl), tt), (((plain_step, tt), (second_step, tt)), tt)), tt); blanks = []; written = regions_written; blank = tt };
  faultless = regions_faultless;
  tree = refl;
}

-- a count on the last event: `a.lm:1>a.lm:1{2}`, which has the same event twice too

abbrev twice : ClauseForm
twice = form.order plain first []

twice_written : AreWritten (filter_pieces (twice ∷ [])) (codes " ") (codes "a.lm:1>a.lm:1{2} ")
twice_written = (
  [],
  codes ":1>a.lm:1{2} ",
  refl,
  tt,
  refl,
  (
    [],
    codes "1>a.lm:1{2} ",
    refl,
    tt,
    tt,
    (
      [],
      codes ">a.lm:1{2} ",
      refl,
      tt,
      refl,
      (
        [],
        codes "a.lm:1{2} ",
        refl,
        tt,
        tt,
        (
          [],
          codes ":1{2} ",
          refl,
          tt,
          refl,
          (
            [],
            codes "1{2} ",
            refl,
            tt,
            tt,
            (
              [],
              codes "{2} ",
              refl,
              tt,
              refl,
              (
                [],
                codes "2} ",
                refl,
                tt,
                tt,
                (
                  [],
                  codes "} ",
                  refl,
                  tt,
                  refl,
                  ([], codes " ", refl, tt, tt, refl),
                ),
              ),
            ),
          ),
        ),
      ),
    ),
  ),
)

abbrev misplaced : FilterFault
misplaced = record { clause = 1; number = 5 }

misplaced_first : (y : FilterFault) → IsFaultOf 1 0 (twice ∷ []) y → IsNoLater misplaced y
misplaced_first y (inl h) = inr (sym h.0, go h.1)
  where
    go : HasFault 1 0 twice y.number → 5 ≤ y.number
    go (inl i) = omega (arith, i.0)
    go (inr (inl i)) = omega (arith, i.0)
    go (inr (inr i)) = omega (arith, i.0)
misplaced_first y (inr h) = absurd h

pub is_misplaced : IsRefusedText (codes "a.lm:1>a.lm:1{2} ") misplaced
is_misplaced = inr (record {
  first = twice;
  others = [];
  form = record { rules = ((plain_step, first_step, tt), tt); blanks = codes " "; written = twice_written; blank = (refl, tt) };
  is = inl (refl, inl (refl, refl));
  least = misplaced_first;
})
