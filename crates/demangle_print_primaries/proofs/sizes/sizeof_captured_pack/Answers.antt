use Rattle.demangle_nodes.specs.TreeNodes.{parts_of_template_arg, tag_of_template_arg}
use Rattle.demangle_printing.specs.Print.{body}
use Rattle.demangle_printing.specs.Lines.{line_steps}
use Rattle.demangle_meets.proofs.Acts.{meets_done, meets_text}
use Rattle.demangle_scope.specs.ScopeOf.{scope_of}
use Rattle.demangle_print_primaries.proofs.Lists.{meets_list}
use Rattle.demangle_print_primaries.proofs.sizes.sizeof_captured_pack.Goals as goal

pub returns : goal.returns
unfolding body line_steps
returns g c =
    record {
      meets = meets_text c.text.ensures (meets_list (scope_of c.args.scope) tag_of_template_arg
          parts_of_template_arg _ c.template_arg_list.ensures (meets_text c.text-2.ensures meets_done));
    }
