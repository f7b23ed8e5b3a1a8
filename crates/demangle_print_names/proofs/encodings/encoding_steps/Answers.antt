use Rattle.std.proofs.Common.{sym}
use Rattle.demangle_nodes.proofs.Parts.{encoding_data, encoding_special}
use Rattle.demangle_nodes.specs.TreeNodes.{parts_of_encoding, tag_of_encoding, tree_of_special_name}
use Rattle.demangle_printing.specs.Lines.{line_steps}
use Rattle.demangle_printing.specs.Print.{body}
use Rattle.demangle_meets.proofs.Acts.{meets_done}
use Rattle.demangle_meets.proofs.Around.{meets_fence}
use Rattle.demangle_meets.proofs.Parts.{line_parts, meets_part, prints_at}
use Rattle.demangle_print_names.proofs.encodings.encoding_steps.Goals as goal

pub returns-in-Function : goal.returns-in-Function
returns-in-Function g c = c.function.ensures

pub returns-in-Data : goal.returns-in-Data
unfolding body line_steps
returns-in-Data g c =
    line_parts tag_of_encoding parts_of_encoding c.in-Data.is
    (encoding_data _) (record {
      meets =
          meets_fence c.fence-items.ensures (meets_part c.name.ensures meets_done) c.unfence.ensures meets_done;
    })

pub returns-in-Special : goal.returns-in-Special
unfolding body line_steps
returns-in-Special g c =
    line_parts tag_of_encoding parts_of_encoding c.in-Special.is
    (encoding_special _) (record {
      meets =
          meets_fence c.fence-items-in-Special.ensures
          (meets_part (prints_at tree_of_special_name (sym c.deref.ensures) c.special_name.ensures) meets_done)
          c.unfence-in-Special.ensures meets_done;
    })
