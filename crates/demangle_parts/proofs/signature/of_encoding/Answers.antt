use Rattle.std.proofs.Common.{◌∙◌, sym, ap}
use Rattle.demangle_nodes.specs.TreeNodes.{tree_of_encoding}
use Rattle.demangle_table.specs.TableOf.{table_of}
use Rattle.demangle_parts.specs.Parts.{of_encoding}
use Rattle.demangle_parts.proofs.SignatureLaws.{data-signature, function-signature}
use Rattle.demangle_parts.proofs.signature.of_encoding.Goals as goal

pub returns-in-Function : goal.returns-in-Function
returns-in-Function c =
    function-signature (table_of c.args.subs.now) c.args.encoding.now c.in-Function.name c.in-Function.types
    c.is_local.result c.has_args.result c.as_slice.result.now c.count.result c.in-Function.is c.is_local.ensures
    c.has_args.ensures c.as_slice.ensures.value c.count.ensures

pub returns-in-Data : goal.returns-in-Data
returns-in-Data c =
    data-signature (table_of c.args.subs.now) c.args.encoding.now c.in-Data.name c.is_local-in-Data.result c.in-Data.is
    c.is_local-in-Data.ensures

pub returns-in-Special : goal.returns-in-Special
returns-in-Special c =
    c.whole.ensures ∙ ap (λ x. of_encoding (table_of c.args.subs.now) (tree_of_encoding x)) (sym c.in-Special.is)
