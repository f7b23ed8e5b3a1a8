-- The conditions of lines, the steps that they choose, and those for each tree of a list.
use Rattle.std.specs.Prelude.{[], ◌∷◌, codes}
use Rattle.demangle_printing.specs.Step.{Piece, Test, Step}
use Rattle.demangle_printing.specs.State as kind

abbrev pub choice_1_if : Test
choice_1_if = (Test.flag kind.lambda)

abbrev pub choice_1_yes : Step
choice_1_yes = (Step.say (Piece.quoted (codes "auto:")) (Step.say (Piece.ordinal (0 ∷ []) 0 1) Step.done))

abbrev pub choice_1_no : Step
choice_1_no = (Step.argument (0 ∷ []) Step.done)

abbrev pub choice_2_if : Test
choice_2_if = (Test.there (2 ∷ []))

abbrev pub choice_2_yes : Step
choice_2_yes = (Step.say (Piece.quoted (codes "{parm#")) (Step.say (Piece.ordinal (2 ∷ 0 ∷ []) 0 1) (Step.say
    (Piece.quoted (codes "}")) Step.done)))

abbrev pub choice_2_no : Step
choice_2_no = (Step.say (Piece.quoted (codes "this")) Step.done)

abbrev pub choice_3_if : Test
choice_3_if = (Test.last_is 60)

abbrev pub choice_3_yes : Step
choice_3_yes = (Step.say (Piece.quoted (codes " ")) Step.done)

abbrev pub choice_3_no : Step
choice_3_no = Step.done

abbrev pub choice_4_if : Test
choice_4_if = (Test.last_is 62)

abbrev pub choice_4_yes : Step
choice_4_yes = (Step.say (Piece.quoted (codes " ")) Step.done)

abbrev pub choice_4_no : Step
choice_4_no = Step.done
