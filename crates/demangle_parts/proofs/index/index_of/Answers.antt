use Rattle.std.proofs.Common.{◌∙◌}
use Rattle.demangle_parts.proofs.IndexLaws.{refused-names}
use Rattle.demangle_parts.proofs.index.index_of.Goals as goal

pub returns-in-Ok-clause-refused : goal.returns-in-Ok-clause-refused
returns-in-Ok-clause-refused c = c.in-Ok.ensures.refuses ∙ refused-names c.args.print.now c.args.names.now
