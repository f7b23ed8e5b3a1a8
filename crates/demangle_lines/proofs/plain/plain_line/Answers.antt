use Rattle.std.proofs.Common.{◌≡◌, refl, subst, sym}
use Rattle.demangle_grammar.specs.Sound.{bytes_of}
use Rattle.demangle_printing.specs.Act.{call, done, line}
use Rattle.demangle_printing.specs.Print.{body}
use Rattle.demangle_meets.specs.Meets.{Meets}
use Rattle.demangle_meets.specs.Place.{Refers}
use Rattle.demangle_meets.proofs.Parts.{meets_deep, meets_line}
use Rattle.demangle_context.specs.PageOf.{page}
use Rattle.demangle_lines.specs.Known.{plain_name}
use Rattle.demangle_lines.proofs.plain.plain_line.Goals as goal

pub returns-in_default : goal.returns-in_default
returns-in_default g c = λ x sc h. meets_deep c.in_default.ensures

pub returns : goal.returns
unfolding body
returns g c = λ x sc h.
    subst (λ y. Meets (g.B.Below.at c.args.below) (page g.T.InnerNode.tree g.T.RefersTo.table g.W.DemangleWrite.seen
    c.args.ctx.now) (page g.T.InnerNode.tree g.T.RefersTo.table g.W.DemangleWrite.seen c.plain_name.new.ctx)
    (call (line y) sc done)) (sym h.is) (meets_line c.in-Some.ensures.0
    (c.plain_name.ensures (plain_name h.start h.stop) sc (record {
      start = h.start;
      stop = h.stop;
      is = refl;
      here = subst (λ (r : Refers). c.args.bytes.now ≡ bytes_of r.input h.start h.stop)
          (sym c.in-Some.ensures.0.deeper.refers) h.here;
    })).meets)
