-- The conditions of lines, the steps that they choose, and those for each tree of a list.
use Rattle.std.specs.Prelude.{true, false, [], ◌∷◌, codes}
use Rattle.demangle_core.specs.Lookups.{as_prefix}
use Rattle.demangle_printing.specs.Step.{Piece, Test, Step}
use Rattle.demangle_printing.specs.State as kind

abbrev pub condition_1_is : Test
condition_1_is = (Test.either (Test.is_word 0 39 (0 ∷ 0 ∷ [])) (Test.is_word 0 40 (0 ∷ 0 ∷ [])))

abbrev pub choice_1_if : Test
choice_1_if = (Test.either (Test.is_word 0 39 (0 ∷ 0 ∷ [])) (Test.is_word 0 40 (0 ∷ 0 ∷ [])))

abbrev pub choice_1_yes : Step
choice_1_yes = (Step.operand (1 ∷ []) (Step.line (0 ∷ []) Step.done))

abbrev pub choice_1_no : Step
choice_1_no = (Step.line (0 ∷ []) (Step.operand (1 ∷ []) Step.done))

abbrev pub choice_2_if : Test
choice_2_if = (Test.is_word 0 33 (0 ∷ 0 ∷ []))

abbrev pub choice_2_yes : Step
choice_2_yes = (Step.say (Piece.quoted (codes "((")) (Step.line (1 ∷ []) (Step.say (Piece.quoted (codes ")>("))
    (Step.line (2 ∷ []) (Step.say (Piece.quoted (codes "))")) Step.done)))))

abbrev pub choice_2_no : Step
choice_2_no = (Step.operand (1 ∷ []) (Step.line (0 ∷ []) (Step.operand (2 ∷ []) Step.done)))

abbrev pub choice_3_if : Test
choice_3_if = (Test.is_word 0 46 (0 ∷ 0 ∷ []))

abbrev pub choice_3_yes : Step
choice_3_yes = (Step.operand (1 ∷ []) (Step.say (Piece.quoted (codes "?")) (Step.operand (2 ∷ []) (Step.say
    (Piece.quoted (codes " : ")) (Step.operand (3 ∷ []) Step.done)))))

abbrev pub choice_3_no : Step
choice_3_no = (Step.line (0 ∷ []) (Step.say (Piece.quoted (codes "(")) (Step.line (1 ∷ []) (Step.say (Piece.quoted
    (codes ", ")) (Step.line (2 ∷ []) (Step.say (Piece.quoted (codes ", ")) (Step.line (3 ∷ []) (Step.say
    (Piece.quoted (codes ")")) Step.done))))))))

abbrev pub choice_4_if : Test
choice_4_if = (Test.has_args as_prefix (0 ∷ []))

abbrev pub choice_4_yes : Step
choice_4_yes = (Step.say (Piece.quoted (codes "(")) (Step.line (0 ∷ []) (Step.say (Piece.quoted (codes ")"))
    Step.done)))

abbrev pub choice_4_no : Step
choice_4_no = (Step.line (0 ∷ []) Step.done)

abbrev pub condition_2_is : Test
condition_2_is = (Test.both (Test.is_word 1 2 (0 ∷ 0 ∷ 0 ∷ [])) (Test.spells (codes "0") (1 ∷ [])))

abbrev pub condition_3_is : Test
condition_3_is = (Test.both (Test.is_word 1 2 (0 ∷ 0 ∷ 0 ∷ [])) (Test.spells (codes "1") (1 ∷ [])))

abbrev pub choice_8_if : Test
choice_8_if = (Test.negative (1 ∷ []))

abbrev pub choice_8_yes : Step
choice_8_yes = (Step.say (Piece.quoted (codes "-")) Step.done)

abbrev pub choice_8_no : Step
choice_8_no = Step.done

abbrev pub condition_4_is : Test
condition_4_is = (Test.either (Test.is_word 1 16 (0 ∷ 0 ∷ 0 ∷ [])) (Test.is_word 1 17 (0 ∷ 0 ∷ 0 ∷ [])))

abbrev pub choice_11_if : Test
choice_11_if = (Test.flag kind.littypes)

abbrev pub choice_11_yes : Step
choice_11_yes = (Step.say (Piece.quoted (codes "(")) (Step.line (0 ∷ []) (Step.say (Piece.quoted (codes ")"))
    Step.done)))

abbrev pub choice_11_no : Step
choice_11_no = Step.done

abbrev pub choice_12_if : Test
choice_12_if = (Test.negative (1 ∷ []))

abbrev pub choice_12_yes : Step
choice_12_yes = (Step.say (Piece.quoted (codes "-[")) Step.done)

abbrev pub choice_12_no : Step
choice_12_no = (Step.say (Piece.quoted (codes "[")) Step.done)

abbrev pub choice_13_if : Test
choice_13_if = (Test.is_word 1 8 (0 ∷ 0 ∷ 0 ∷ []))

abbrev pub choice_13_yes : Step
choice_13_yes = (Step.block (Step.test (Test.negative (1 ∷ [])) (Step.say (Piece.quoted (codes "-")) Step.done)
    Step.done (Step.say (Piece.magnitude (1 ∷ [])) Step.done)) Step.done)

abbrev pub choice_13_no : Step
choice_13_no = (Step.block (Step.test (Test.flag kind.littypes) (Step.say (Piece.quoted (codes "(")) (Step.line (0 ∷
    []) (Step.say (Piece.quoted (codes ")")) Step.done))) Step.done Step.done) (Step.block (Step.test (Test.negative
    (1 ∷ [])) (Step.say (Piece.quoted (codes "-")) Step.done) Step.done (Step.say (Piece.magnitude (1 ∷ []))
    Step.done)) Step.done))

abbrev pub choice_10_if : Test
choice_10_if = (Test.either (Test.is_word 1 16 (0 ∷ 0 ∷ 0 ∷ [])) (Test.is_word 1 17 (0 ∷ 0 ∷ 0 ∷ [])))

abbrev pub choice_10_yes : Step
choice_10_yes = (Step.block (Step.test (Test.flag kind.littypes) (Step.say (Piece.quoted (codes "(")) (Step.line (0 ∷
    []) (Step.say (Piece.quoted (codes ")")) Step.done))) Step.done Step.done) (Step.block (Step.test (Test.negative
    (1 ∷ [])) (Step.say (Piece.quoted (codes "-[")) Step.done) (Step.say (Piece.quoted (codes "[")) Step.done)
    (Step.say (Piece.magnitude (1 ∷ [])) (Step.say (Piece.quoted (codes "]")) Step.done))) Step.done))

abbrev pub choice_10_no : Step
choice_10_no = (Step.test (Test.is_word 1 8 (0 ∷ 0 ∷ 0 ∷ [])) (Step.block (Step.test (Test.negative (1 ∷ []))
    (Step.say (Piece.quoted (codes "-")) Step.done) Step.done (Step.say (Piece.magnitude (1 ∷ [])) Step.done))
    Step.done) (Step.block (Step.test (Test.flag kind.littypes) (Step.say (Piece.quoted (codes "(")) (Step.line (0 ∷
    []) (Step.say (Piece.quoted (codes ")")) Step.done))) Step.done Step.done) (Step.block (Step.test (Test.negative
    (1 ∷ [])) (Step.say (Piece.quoted (codes "-")) Step.done) Step.done (Step.say (Piece.magnitude (1 ∷ []))
    Step.done)) Step.done)) Step.done)

abbrev pub choice_9_if : Test
choice_9_if = (Test.is_word 1 31 (0 ∷ 0 ∷ 0 ∷ []))

abbrev pub choice_9_yes : Step
choice_9_yes = (Step.say (Piece.quoted (codes "nullptr")) Step.done)

abbrev pub choice_9_no : Step
choice_9_no = (Step.test (Test.either (Test.is_word 1 16 (0 ∷ 0 ∷ 0 ∷ [])) (Test.is_word 1 17 (0 ∷ 0 ∷ 0 ∷ [])))
    (Step.block (Step.test (Test.flag kind.littypes) (Step.say (Piece.quoted (codes "(")) (Step.line (0 ∷ [])
    (Step.say (Piece.quoted (codes ")")) Step.done))) Step.done Step.done) (Step.block (Step.test (Test.negative (1 ∷
    [])) (Step.say (Piece.quoted (codes "-[")) Step.done) (Step.say (Piece.quoted (codes "[")) Step.done) (Step.say
    (Piece.magnitude (1 ∷ [])) (Step.say (Piece.quoted (codes "]")) Step.done))) Step.done)) (Step.test (Test.is_word
    1 8 (0 ∷ 0 ∷ 0 ∷ [])) (Step.block (Step.test (Test.negative (1 ∷ [])) (Step.say (Piece.quoted (codes "-"))
    Step.done) Step.done (Step.say (Piece.magnitude (1 ∷ [])) Step.done)) Step.done) (Step.block (Step.test (Test.flag
    kind.littypes) (Step.say (Piece.quoted (codes "(")) (Step.line (0 ∷ []) (Step.say (Piece.quoted (codes ")"))
    Step.done))) Step.done Step.done) (Step.block (Step.test (Test.negative (1 ∷ [])) (Step.say (Piece.quoted (codes
    "-")) Step.done) Step.done (Step.say (Piece.magnitude (1 ∷ [])) Step.done)) Step.done)) Step.done) Step.done)

abbrev pub choice_7_if : Test
choice_7_if = (Test.is_word 1 2 (0 ∷ 0 ∷ 0 ∷ []))

abbrev pub choice_7_yes : Step
choice_7_yes = (Step.say (Piece.quoted (codes "(bool)")) (Step.block (Step.test (Test.negative (1 ∷ [])) (Step.say
    (Piece.quoted (codes "-")) Step.done) Step.done (Step.say (Piece.magnitude (1 ∷ [])) Step.done)) Step.done))

abbrev pub choice_7_no : Step
choice_7_no = (Step.test (Test.is_word 1 31 (0 ∷ 0 ∷ 0 ∷ [])) (Step.say (Piece.quoted (codes "nullptr")) Step.done)
    (Step.test (Test.either (Test.is_word 1 16 (0 ∷ 0 ∷ 0 ∷ [])) (Test.is_word 1 17 (0 ∷ 0 ∷ 0 ∷ []))) (Step.block
    (Step.test (Test.flag kind.littypes) (Step.say (Piece.quoted (codes "(")) (Step.line (0 ∷ []) (Step.say
    (Piece.quoted (codes ")")) Step.done))) Step.done Step.done) (Step.block (Step.test (Test.negative (1 ∷ []))
    (Step.say (Piece.quoted (codes "-[")) Step.done) (Step.say (Piece.quoted (codes "[")) Step.done) (Step.say
    (Piece.magnitude (1 ∷ [])) (Step.say (Piece.quoted (codes "]")) Step.done))) Step.done)) (Step.test (Test.is_word
    1 8 (0 ∷ 0 ∷ 0 ∷ [])) (Step.block (Step.test (Test.negative (1 ∷ [])) (Step.say (Piece.quoted (codes "-"))
    Step.done) Step.done (Step.say (Piece.magnitude (1 ∷ [])) Step.done)) Step.done) (Step.block (Step.test (Test.flag
    kind.littypes) (Step.say (Piece.quoted (codes "(")) (Step.line (0 ∷ []) (Step.say (Piece.quoted (codes ")"))
    Step.done))) Step.done Step.done) (Step.block (Step.test (Test.negative (1 ∷ [])) (Step.say (Piece.quoted (codes
    "-")) Step.done) Step.done (Step.say (Piece.magnitude (1 ∷ [])) Step.done)) Step.done)) Step.done) Step.done)
    Step.done)

abbrev pub choice_6_if : Test
choice_6_if = (Test.both (Test.is_word 1 2 (0 ∷ 0 ∷ 0 ∷ [])) (Test.spells (codes "1") (1 ∷ [])))

abbrev pub choice_6_yes : Step
choice_6_yes = (Step.say (Piece.quoted (codes "true")) Step.done)

abbrev pub choice_6_no : Step
choice_6_no = (Step.test (Test.is_word 1 2 (0 ∷ 0 ∷ 0 ∷ [])) (Step.say (Piece.quoted (codes "(bool)")) (Step.block
    (Step.test (Test.negative (1 ∷ [])) (Step.say (Piece.quoted (codes "-")) Step.done) Step.done (Step.say
    (Piece.magnitude (1 ∷ [])) Step.done)) Step.done)) (Step.test (Test.is_word 1 31 (0 ∷ 0 ∷ 0 ∷ [])) (Step.say
    (Piece.quoted (codes "nullptr")) Step.done) (Step.test (Test.either (Test.is_word 1 16 (0 ∷ 0 ∷ 0 ∷ []))
    (Test.is_word 1 17 (0 ∷ 0 ∷ 0 ∷ []))) (Step.block (Step.test (Test.flag kind.littypes) (Step.say (Piece.quoted
    (codes "(")) (Step.line (0 ∷ []) (Step.say (Piece.quoted (codes ")")) Step.done))) Step.done Step.done)
    (Step.block (Step.test (Test.negative (1 ∷ [])) (Step.say (Piece.quoted (codes "-[")) Step.done) (Step.say
    (Piece.quoted (codes "[")) Step.done) (Step.say (Piece.magnitude (1 ∷ [])) (Step.say (Piece.quoted (codes "]"))
    Step.done))) Step.done)) (Step.test (Test.is_word 1 8 (0 ∷ 0 ∷ 0 ∷ [])) (Step.block (Step.test (Test.negative (1 ∷
    [])) (Step.say (Piece.quoted (codes "-")) Step.done) Step.done (Step.say (Piece.magnitude (1 ∷ [])) Step.done))
    Step.done) (Step.block (Step.test (Test.flag kind.littypes) (Step.say (Piece.quoted (codes "(")) (Step.line (0 ∷
    []) (Step.say (Piece.quoted (codes ")")) Step.done))) Step.done Step.done) (Step.block (Step.test (Test.negative
    (1 ∷ [])) (Step.say (Piece.quoted (codes "-")) Step.done) Step.done (Step.say (Piece.magnitude (1 ∷ []))
    Step.done)) Step.done)) Step.done) Step.done) Step.done) Step.done)

abbrev pub choice_5_if : Test
choice_5_if = (Test.both (Test.is_word 1 2 (0 ∷ 0 ∷ 0 ∷ [])) (Test.spells (codes "0") (1 ∷ [])))

abbrev pub choice_5_yes : Step
choice_5_yes = (Step.say (Piece.quoted (codes "false")) Step.done)

abbrev pub choice_5_no : Step
choice_5_no = (Step.test (Test.both (Test.is_word 1 2 (0 ∷ 0 ∷ 0 ∷ [])) (Test.spells (codes "1") (1 ∷ []))) (Step.say
    (Piece.quoted (codes "true")) Step.done) (Step.test (Test.is_word 1 2 (0 ∷ 0 ∷ 0 ∷ [])) (Step.say (Piece.quoted
    (codes "(bool)")) (Step.block (Step.test (Test.negative (1 ∷ [])) (Step.say (Piece.quoted (codes "-")) Step.done)
    Step.done (Step.say (Piece.magnitude (1 ∷ [])) Step.done)) Step.done)) (Step.test (Test.is_word 1 31 (0 ∷ 0 ∷ 0 ∷
    [])) (Step.say (Piece.quoted (codes "nullptr")) Step.done) (Step.test (Test.either (Test.is_word 1 16 (0 ∷ 0 ∷ 0 ∷
    [])) (Test.is_word 1 17 (0 ∷ 0 ∷ 0 ∷ []))) (Step.block (Step.test (Test.flag kind.littypes) (Step.say
    (Piece.quoted (codes "(")) (Step.line (0 ∷ []) (Step.say (Piece.quoted (codes ")")) Step.done))) Step.done
    Step.done) (Step.block (Step.test (Test.negative (1 ∷ [])) (Step.say (Piece.quoted (codes "-[")) Step.done)
    (Step.say (Piece.quoted (codes "[")) Step.done) (Step.say (Piece.magnitude (1 ∷ [])) (Step.say (Piece.quoted
    (codes "]")) Step.done))) Step.done)) (Step.test (Test.is_word 1 8 (0 ∷ 0 ∷ 0 ∷ [])) (Step.block (Step.test
    (Test.negative (1 ∷ [])) (Step.say (Piece.quoted (codes "-")) Step.done) Step.done (Step.say (Piece.magnitude (1 ∷
    [])) Step.done)) Step.done) (Step.block (Step.test (Test.flag kind.littypes) (Step.say (Piece.quoted (codes "("))
    (Step.line (0 ∷ []) (Step.say (Piece.quoted (codes ")")) Step.done))) Step.done Step.done) (Step.block (Step.test
    (Test.negative (1 ∷ [])) (Step.say (Piece.quoted (codes "-")) Step.done) Step.done (Step.say (Piece.magnitude (1 ∷
    [])) Step.done)) Step.done)) Step.done) Step.done) Step.done) Step.done) Step.done)

abbrev pub each_1_steps : Step
each_1_steps = (Step.line [] (Step.say (Piece.quoted (codes "::")) Step.done))

abbrev pub choice_14_if : Test
choice_14_if = (Test.there (1 ∷ []))

abbrev pub choice_14_yes : Step
choice_14_yes = (Step.with_these (1 ∷ 0 ∷ []) (Step.line (0 ∷ []) (Step.line (1 ∷ []) Step.done)) Step.done)

abbrev pub choice_14_no : Step
choice_14_no = (Step.line (0 ∷ []) Step.done)
