-- The conditions of lines, the steps that they choose, and those for each tree of a list.
use Rattle.std.specs.Prelude.{[], ◌∷◌, codes}
use Rattle.demangle_printing.specs.Step.{Piece, Test, Step}
use Rattle.demangle_printing.specs.State as kind

abbrev pub choice_1_if : Test
choice_1_if = (Test.is_true (2 ∷ []))

abbrev pub choice_1_yes : Step
choice_1_yes = (Step.space (Step.say (Piece.quoted (codes "const")) Step.done))

abbrev pub choice_1_no : Step
choice_1_no = Step.done

abbrev pub choice_2_if : Test
choice_2_if = (Test.is_true (1 ∷ []))

abbrev pub choice_2_yes : Step
choice_2_yes = (Step.space (Step.say (Piece.quoted (codes "volatile")) Step.done))

abbrev pub choice_2_no : Step
choice_2_no = Step.done

abbrev pub choice_3_if : Test
choice_3_if = (Test.is_true (0 ∷ []))

abbrev pub choice_3_yes : Step
choice_3_yes = (Step.space (Step.say (Piece.quoted (codes "restrict")) Step.done))

abbrev pub choice_3_no : Step
choice_3_no = Step.done

abbrev pub condition_1_is : Test
condition_1_is = (Test.isnt (Test.flag kind.pack))

abbrev pub choice_4_if : Test
choice_4_if = (Test.isnt (Test.flag kind.pack))

abbrev pub choice_4_yes : Step
choice_4_yes = (Step.say (Piece.quoted (codes "...")) Step.done)

abbrev pub choice_4_no : Step
choice_4_no = Step.done
