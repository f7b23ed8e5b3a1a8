-- The conditions of lines, the steps that they choose, and those for each tree of a list.
use Rattle.std.specs.Prelude.{false, [], ◌∷◌, codes}
use Rattle.demangle_core.specs.Lookups.{as_prefix}
use Rattle.demangle_printing.specs.Step.{Piece, Test, Step}
use Rattle.demangle_printing.specs.State as kind

abbrev pub under_1_steps : Step
under_1_steps = (Step.with_args as_prefix (0 ∷ []) (Step.block (Step.block (Step.test (Test.both (Test.has_args
    as_prefix (0 ∷ [])) (Test.both (Test.flag kind.returns) (Test.isnt (Test.special (0 ∷ []))))) (Step.line (1 ∷ 0 ∷
    0 ∷ []) (Step.say (Piece.quoted (codes " ")) Step.done)) Step.done Step.done) (Step.block (Step.test (Test.flag
    kind.params) (Step.held [] false (Step.line (0 ∷ []) Step.done) Step.done) (Step.line (0 ∷ []) Step.done)
    Step.done) Step.done)) Step.done) Step.done)

abbrev pub condition_1_is : Test
condition_1_is = (Test.both (Test.has_args as_prefix (0 ∷ [])) (Test.both (Test.flag kind.returns) (Test.isnt
    (Test.special (0 ∷ [])))))

abbrev pub condition_2_is : Test
condition_2_is = (Test.both (Test.flag kind.returns) (Test.isnt (Test.special (0 ∷ []))))

abbrev pub condition_3_is : Test
condition_3_is = (Test.isnt (Test.special (0 ∷ [])))

abbrev pub choice_1_if : Test
choice_1_if = (Test.both (Test.has_args as_prefix (0 ∷ [])) (Test.both (Test.flag kind.returns) (Test.isnt
    (Test.special (0 ∷ [])))))

abbrev pub choice_1_yes : Step
choice_1_yes = (Step.line (1 ∷ 0 ∷ 0 ∷ []) (Step.say (Piece.quoted (codes " ")) Step.done))

abbrev pub choice_1_no : Step
choice_1_no = Step.done

abbrev pub choice_2_if : Test
choice_2_if = (Test.flag kind.params)

abbrev pub choice_2_yes : Step
choice_2_yes = (Step.held [] false (Step.line (0 ∷ []) Step.done) Step.done)

abbrev pub choice_2_no : Step
choice_2_no = (Step.line (0 ∷ []) Step.done)

abbrev pub choice_3_if : Test
choice_3_if = (Test.there (1 ∷ []))

abbrev pub choice_3_yes : Step
choice_3_yes = (Step.space (Step.line (1 ∷ []) Step.done))

abbrev pub choice_3_no : Step
choice_3_no = Step.done
