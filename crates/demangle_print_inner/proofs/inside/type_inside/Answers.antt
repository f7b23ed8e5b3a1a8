use Rattle.std.proofs.Common.{sym}
use Rattle.demangle_entries.specs.TreeEntries.{tree_of_type_node}
use Rattle.demangle_printing.specs.Print.{body}
use Rattle.demangle_printing.specs.Lines.{inside_steps}
use Rattle.demangle_meets.proofs.Acts.{meets_done, meets_text}
use Rattle.demangle_meets.proofs.Parts.{inside_at, meets_at, meets_part}
use Rattle.demangle_print_inner.proofs.Behind.{nothing_behind}
use Rattle.demangle_print_inner.proofs.inside.type_inside.Goals as goal

pub returns-in-Qualified : goal.returns-in-Qualified
unfolding body inside_steps
returns-in-Qualified g c = λ sc.
    inside_at tree_of_type_node c.in-Qualified.is
    (record { meets = meets_part (c.cv_qualifiers.ensures sc) meets_done })

pub returns-in-PointerTo : goal.returns-in-PointerTo
unfolding body inside_steps
returns-in-PointerTo g c = λ sc.
    inside_at tree_of_type_node c.in-PointerTo.is (record { meets = meets_text c.text.ensures meets_done })

pub returns-in-LvalueRef : goal.returns-in-LvalueRef
unfolding body inside_steps
returns-in-LvalueRef g c = λ sc.
    inside_at tree_of_type_node c.in-LvalueRef.is (record { meets = c.joined.ensures _ })

pub returns-in-RvalueRef : goal.returns-in-RvalueRef
unfolding body inside_steps
returns-in-RvalueRef g c = λ sc.
    inside_at tree_of_type_node c.in-RvalueRef.is (record { meets = c.joined-in-RvalueRef.ensures _ })

pub returns-in_default : goal.returns-in_default
returns-in_default g c = λ sc. record {
  meets = meets_at (λ f. f) (sym (nothing_behind (g.B.Below.at c.args.below).refers sc c.args.node.now
      c.in_default.not-Qualified c.in_default.not-PointerTo c.in_default.not-LvalueRef c.in_default.not-RvalueRef))
      meets_done;
}
