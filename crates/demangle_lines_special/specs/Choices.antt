-- The conditions of lines, the steps that they choose, and those for each tree of a list.
use Rattle.std.specs.Prelude.{[]}
use Rattle.demangle_printing.specs.Step.{Step}

abbrev pub each_1_steps : Step
each_1_steps = (Step.line [] Step.done)
