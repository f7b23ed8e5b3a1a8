use Rattle.std.proofs.Common.{refl}
use Rattle.demangle_printing.specs.Print.{body}
use Rattle.demangle_printing.specs.Lines.{line_steps}
use Rattle.demangle_meets.proofs.Acts.{meets_block, meets_done, meets_text}
use Rattle.demangle_meets.proofs.Around.{meets_fence}
use Rattle.demangle_meets.proofs.Events.{meets_event}
use Rattle.demangle_meets.proofs.Lines.{meets_rest}
use Rattle.demangle_meets.proofs.Parts.{prints_deep, prints_node}
use Rattle.demangle_print_parts.proofs.arguments.template_args.Goals as goal

pub returns-in_default : goal.returns-in_default
returns-in_default g c = prints_deep refl c.in_default.ensures

pub returns : goal.returns
unfolding body line_steps
returns g c =
    prints_node refl c.in-Some.ensures.0
    (meets_fence c.fence-items.ensures
    (meets_rest (c.apart_from.ensures _ _) (meets_text c.text.ensures
    (meets_event c.begin_node-told.ensures (meets_block c.members_apart.ensures meets_done) c.end_node.ensures
    (meets_text c.text-2.ensures meets_done))))
    c.unfence.ensures meets_done)
