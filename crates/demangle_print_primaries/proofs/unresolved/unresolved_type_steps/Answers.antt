use Rattle.demangle_entries.specs.TreeEntries.{tree_of_unresolved_type}
use Rattle.demangle_printing.specs.Print.{body}
use Rattle.demangle_printing.specs.Lines.{line_steps}
use Rattle.demangle_meets.proofs.Acts.{meets_done}
use Rattle.demangle_meets.proofs.Parts.{line_at, meets_part}
use Rattle.demangle_print_primaries.proofs.unresolved.unresolved_type_steps.Goals as goal

pub returns-in-Template : goal.returns-in-Template
returns-in-Template g c = line_at tree_of_unresolved_type c.in-Template.is c.template_type.ensures

pub returns-in-Decltype : goal.returns-in-Decltype
unfolding body line_steps
returns-in-Decltype g c =
    line_at tree_of_unresolved_type c.in-Decltype.is (record { meets = meets_part c.decltype.ensures meets_done })
