use Rattle.demangle_context.specs.View.{view}
use Rattle.demangle_context.proofs.Characters.{ascii_last}
use Rattle.demangle_context.proofs.context.Context.ends_in.Goals as goal

pub returns-in-Some : goal.returns-in-Some
unfolding view
returns-in-Some g c = rw c.in-Some.is (ascii_last c.args.c c.in-Some.last c.requires)
