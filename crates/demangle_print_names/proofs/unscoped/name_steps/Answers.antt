use Rattle.demangle_nodes.proofs.Parts.{name_local, name_nested, name_unscoped, name_unscoped_template}
use Rattle.demangle_nodes.specs.TreeNodes.{parts_of_name, tag_of_name}
use Rattle.demangle_printing.specs.Lines.{line_steps}
use Rattle.demangle_printing.specs.Print.{body}
use Rattle.demangle_meets.proofs.Acts.{meets_block, meets_done}
use Rattle.demangle_meets.proofs.Parts.{line_parts, meets_part}
use Rattle.demangle_print_names.proofs.unscoped.name_steps.Goals as goal

pub returns-in-Nested : goal.returns-in-Nested
unfolding body line_steps
returns-in-Nested g c =
    line_parts tag_of_name parts_of_name c.in-Nested.is
    (name_nested _) (record { meets = meets_part c.nested_name.ensures meets_done })

pub returns-in-Unscoped : goal.returns-in-Unscoped
unfolding body line_steps
returns-in-Unscoped g c =
    line_parts tag_of_name parts_of_name c.in-Unscoped.is
    (name_unscoped _) (record { meets = meets_part c.unscoped_name.ensures meets_done })

pub returns-in-UnscopedTemplate : goal.returns-in-UnscopedTemplate
unfolding body line_steps
returns-in-UnscopedTemplate g c =
    line_parts tag_of_name parts_of_name c.in-UnscopedTemplate.is
    (name_unscoped_template _ _) (record {
      meets =
          meets_block (meets_part
          (rw c.scope_push-inner.ensures.pushed at c.unscoped_template_name_handle.ensures) meets_done)
          (meets_part c.template_args.ensures meets_done);
    })

pub returns-in-Local : goal.returns-in-Local
unfolding body line_steps
returns-in-Local g c =
    line_parts tag_of_name parts_of_name c.in-Local.is
    (name_local _) (record { meets = meets_part c.local_name.ensures meets_done })
