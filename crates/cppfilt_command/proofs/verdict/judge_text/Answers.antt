use Rattle.std.proofs.Common.{◌≡◌, ◌∙◌, [], ap, refl, sym, true}
use Rattle.clap.specs.Faults.{is_simple_and_free}
use Rattle.clap.specs.Simple.{App, built, is_simple}
use Rattle.cppfilt_command.proofs.Verdicts.{text_command-free, text_command-simple}
use Rattle.cppfilt_command.proofs.verdict.judge_text.Goals as goal

pub judge_by-requires-clause-simple : goal.judge_by-requires-clause-simple
judge_by-requires-clause-simple c = ap is_simple c.in_ok-text_command.ensures ∙ text_command-simple

pub judge_by-requires-clause-free : goal.judge_by-requires-clause-free
judge_by-requires-clause-free c = ap is_simple_and_free c.in_ok-text_command.ensures ∙ text_command-free

pub judge_by-requires-clause-leaves : goal.judge_by-requires-clause-leaves
judge_by-requires-clause-leaves c = ap (λ (a : App). (built a).subs) c.in_ok-text_command.ensures ∙ refl

pub judge_by-requires-clause-leaf : goal.judge_by-requires-clause-leaf
judge_by-requires-clause-leaf c = ap (λ (a : App). (built a).top.is_leaf) c.in_ok-text_command.ensures ∙ refl
