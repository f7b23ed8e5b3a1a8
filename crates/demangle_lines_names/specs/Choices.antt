-- The conditions of lines, the steps that they choose, and those for each tree of a list.
use Rattle.std.specs.Prelude.{true, false, [], ◌∷◌, codes}
use Rattle.demangle_printing.specs.Step.{Piece, Test, Step}
use Rattle.demangle_printing.specs.State as kind

abbrev pub each_1_steps : Step
each_1_steps = (Step.line [] Step.done)

abbrev pub choice_1_if : Test
choice_1_if = (Test.flag kind.params)

abbrev pub choice_1_yes : Step
choice_1_yes = (Step.each (1 ∷ []) (Step.line [] Step.done) Step.done)

abbrev pub choice_1_no : Step
choice_1_no = Step.done

abbrev pub each_2_steps : Step
each_2_steps = (Step.say (Piece.quoted (codes ".")) (Step.say (Piece.spelled []) Step.done))

abbrev pub choice_2_if : Test
choice_2_if = (Test.there (2 ∷ []))

abbrev pub choice_2_yes : Step
choice_2_yes = (Step.line (2 ∷ []) (Step.say (Piece.quoted (codes "::")) Step.done))

abbrev pub choice_2_no : Step
choice_2_no = Step.done

abbrev pub condition_1_is : Test
condition_1_is = (Test.both (Test.qualified (0 ∷ [])) (Test.flag kind.params))

abbrev pub choice_3_if : Test
choice_3_if = (Test.both (Test.qualified (0 ∷ [])) (Test.flag kind.params))

abbrev pub choice_3_yes : Step
choice_3_yes = (Step.line (0 ∷ []) Step.done)

abbrev pub choice_3_no : Step
choice_3_no = Step.done

abbrev pub choice_4_if : Test
choice_4_if = (Test.there (1 ∷ []))

abbrev pub choice_4_yes : Step
choice_4_yes = (Step.space (Step.line (1 ∷ []) Step.done))

abbrev pub choice_4_no : Step
choice_4_no = Step.done

abbrev pub choice_5_if : Test
choice_5_if = (Test.there (0 ∷ []))

abbrev pub choice_5_yes : Step
choice_5_yes = (Step.line (0 ∷ []) (Step.say (Piece.quoted (codes "::")) Step.done))

abbrev pub choice_5_no : Step
choice_5_no = Step.done

abbrev pub choice_6_if : Test
choice_6_if = (Test.there (1 ∷ []))

abbrev pub choice_6_yes : Step
choice_6_yes = (Step.say (Piece.quoted (codes "::")) (Step.line (1 ∷ []) Step.done))

abbrev pub choice_6_no : Step
choice_6_no = (Step.say (Piece.quoted (codes "::string literal")) Step.done)

abbrev pub choice_8_if : Test
choice_8_if = (Test.flag kind.nprefix)

abbrev pub choice_8_yes : Step
choice_8_yes = (Step.set kind.nprefix false (Step.event kind.nested_name (Step.fence (Step.line (0 ∷ []) Step.done)
    Step.done) Step.done))

abbrev pub choice_8_no : Step
choice_8_no = (Step.event kind.prefix (Step.fence (Step.line (0 ∷ []) Step.done) Step.done) Step.done)

abbrev pub choice_7_if : Test
choice_7_if = (Test.flag kind.tprefix)

abbrev pub choice_7_yes : Step
choice_7_yes = (Step.set kind.tprefix false (Step.event kind.template_prefix (Step.fence (Step.line (0 ∷ [])
    Step.done) Step.done) Step.done))

abbrev pub choice_7_no : Step
choice_7_no = (Step.test (Test.flag kind.nprefix) (Step.set kind.nprefix false (Step.event kind.nested_name
    (Step.fence (Step.line (0 ∷ []) Step.done) Step.done) Step.done)) (Step.event kind.prefix (Step.fence (Step.line
    (0 ∷ []) Step.done) Step.done) Step.done) Step.done)

abbrev pub choice_10_if : Test
choice_10_if = (Test.flag kind.nprefix)

abbrev pub choice_10_yes : Step
choice_10_yes = (Step.set kind.nprefix false (Step.event kind.nested_name (Step.fence (Step.line (0 ∷ []) (Step.say
    (Piece.quoted (codes "::")) (Step.line (1 ∷ []) Step.done))) Step.done) Step.done))

abbrev pub choice_10_no : Step
choice_10_no = (Step.event kind.prefix (Step.fence (Step.line (0 ∷ []) (Step.say (Piece.quoted (codes "::"))
    (Step.line (1 ∷ []) Step.done))) Step.done) Step.done)

abbrev pub choice_9_if : Test
choice_9_if = (Test.flag kind.tprefix)

abbrev pub choice_9_yes : Step
choice_9_yes = (Step.set kind.tprefix false (Step.event kind.template_prefix (Step.fence (Step.line (0 ∷ []) (Step.say
    (Piece.quoted (codes "::")) (Step.line (1 ∷ []) Step.done))) Step.done) Step.done))

abbrev pub choice_9_no : Step
choice_9_no = (Step.test (Test.flag kind.nprefix) (Step.set kind.nprefix false (Step.event kind.nested_name
    (Step.fence (Step.line (0 ∷ []) (Step.say (Piece.quoted (codes "::")) (Step.line (1 ∷ []) Step.done))) Step.done)
    Step.done)) (Step.event kind.prefix (Step.fence (Step.line (0 ∷ []) (Step.say (Piece.quoted (codes "::"))
    (Step.line (1 ∷ []) Step.done))) Step.done) Step.done) Step.done)

abbrev pub choice_12_if : Test
choice_12_if = (Test.flag kind.nprefix)

abbrev pub choice_12_yes : Step
choice_12_yes = (Step.set kind.nprefix false (Step.event kind.nested_name (Step.fence (Step.set kind.tprefix true
    (Step.line (0 ∷ []) (Step.set kind.tprefix false (Step.line (1 ∷ []) Step.done)))) Step.done) Step.done))

abbrev pub choice_12_no : Step
choice_12_no = (Step.event kind.prefix (Step.fence (Step.set kind.tprefix true (Step.line (0 ∷ []) (Step.set
    kind.tprefix false (Step.line (1 ∷ []) Step.done)))) Step.done) Step.done)

abbrev pub choice_11_if : Test
choice_11_if = (Test.flag kind.tprefix)

abbrev pub choice_11_yes : Step
choice_11_yes = (Step.set kind.tprefix false (Step.event kind.template_prefix (Step.fence (Step.set kind.tprefix true
    (Step.line (0 ∷ []) (Step.set kind.tprefix false (Step.line (1 ∷ []) Step.done)))) Step.done) Step.done))

abbrev pub choice_11_no : Step
choice_11_no = (Step.test (Test.flag kind.nprefix) (Step.set kind.nprefix false (Step.event kind.nested_name
    (Step.fence (Step.set kind.tprefix true (Step.line (0 ∷ []) (Step.set kind.tprefix false (Step.line (1 ∷ [])
    Step.done)))) Step.done) Step.done)) (Step.event kind.prefix (Step.fence (Step.set kind.tprefix true (Step.line (0
    ∷ []) (Step.set kind.tprefix false (Step.line (1 ∷ []) Step.done)))) Step.done) Step.done) Step.done)

abbrev pub choice_13_if : Test
choice_13_if = (Test.anonymous (0 ∷ []))

abbrev pub choice_13_yes : Step
choice_13_yes = (Step.say (Piece.quoted (codes "(anonymous namespace)")) Step.done)

abbrev pub choice_13_no : Step
choice_13_no = (Step.named (0 ∷ []) (Step.say (Piece.spelled (0 ∷ [])) Step.done))

abbrev pub condition_2_is : Test
condition_2_is = (Test.either (Test.is_word 0 0 (0 ∷ [])) (Test.either (Test.is_word 0 1 (0 ∷ [])) (Test.either
    (Test.is_word 0 2 (0 ∷ [])) (Test.is_word 0 3 (0 ∷ [])))))

abbrev pub condition_3_is : Test
condition_3_is = (Test.either (Test.is_word 0 1 (0 ∷ [])) (Test.either (Test.is_word 0 2 (0 ∷ [])) (Test.is_word 0 3
    (0 ∷ []))))

abbrev pub condition_4_is : Test
condition_4_is = (Test.either (Test.is_word 0 2 (0 ∷ [])) (Test.is_word 0 3 (0 ∷ [])))

abbrev pub choice_14_if : Test
choice_14_if = (Test.either (Test.is_word 0 0 (0 ∷ [])) (Test.either (Test.is_word 0 1 (0 ∷ [])) (Test.either
    (Test.is_word 0 2 (0 ∷ [])) (Test.is_word 0 3 (0 ∷ [])))))

abbrev pub choice_14_yes : Step
choice_14_yes = (Step.space Step.done)

abbrev pub choice_14_no : Step
choice_14_no = Step.done

abbrev pub choice_15_if : Test
choice_15_if = (Test.there (0 ∷ []))

abbrev pub choice_15_yes : Step
choice_15_yes = (Step.leaf_of (0 ∷ 0 ∷ []) Step.done)

abbrev pub choice_15_no : Step
choice_15_no = (Step.leaf Step.done)
