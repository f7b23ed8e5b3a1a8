use Rattle.std.proofs.Common.{sym, ◌∙◌}
use Rattle.std.proofs.lemmas.List.{nil_from_length}
use Rattle.demangle_scope.specs.ScopeOf.{scope_of}
use Rattle.demangle_print_names.proofs.Functions.{first_printed, none_printed}
use Rattle.demangle_print_names.proofs.encodings.first_type.Goals as goal

pub returns-in_default : goal.returns-in_default
returns-in_default g c =
    none_printed (scope_of c.args.scope) c.args.types.now
    (sym c.as_slice.ensures.value ∙ nil_from_length c.as_slice.result.now c.in_default.ensures.cases)

pub returns : goal.returns
returns g c =
    first_printed (scope_of c.args.scope) c.args.types.now _ _
    (sym c.as_slice.ensures.value ∙ c.in-Some.ensures.cases.0) c.type_handle.ensures
