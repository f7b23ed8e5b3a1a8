use Rattle.std.proofs.Common.{subst}
use Rattle.demangle_lines_print.specs.Telling.{Tells}
use Rattle.cpp_demangle.proofs.KeptNames.{tells_same}
use Rattle.cpp_demangle.proofs.kept.KeptName.tell.Goals as goal

pub returns : goal.returns
returns g c =
    subst (λ t. Tells (g.W.DemangleWrite.seen c.args.out.now) (g.W.DemangleWrite.seen c.tell_tree.new.out)
    c.args.options.now.limit t c.tell_tree.result)
    (tells_same c.args.self.now.made c.args.input.now c.args.options.now) c.tell_tree.ensures
