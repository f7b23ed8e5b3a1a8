-- The conditions of lines, the steps that they choose, and those for each tree of a list.
use Rattle.std.specs.Prelude.{[], ◌∷◌}
use Rattle.demangle_printing.specs.Step.{Test, Step}

abbrev pub choice_1_if : Test
choice_1_if = (Test.qualified (0 ∷ []))

abbrev pub choice_1_yes : Step
choice_1_yes = (Step.line (0 ∷ []) Step.done)

abbrev pub choice_1_no : Step
choice_1_no = Step.done

abbrev pub choice_2_if : Test
choice_2_if = (Test.there (5 ∷ []))

abbrev pub choice_2_yes : Step
choice_2_yes = (Step.space (Step.line (5 ∷ []) Step.done))

abbrev pub choice_2_no : Step
choice_2_no = Step.done

abbrev pub condition_1_is : Test
condition_1_is = (Test.isnt (Test.last_is 40))

abbrev pub choice_3_if : Test
choice_3_if = (Test.isnt (Test.last_is 40))

abbrev pub choice_3_yes : Step
choice_3_yes = (Step.space Step.done)

abbrev pub choice_3_no : Step
choice_3_no = Step.done
