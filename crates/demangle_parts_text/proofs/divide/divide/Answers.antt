use Rattle.std.proofs.Common.{◌∙◌, ap, codes, sym}
use Rattle.std.specs.Str.{bytes_eq}
use Rattle.demangle_parts_text.proofs.DivideLaws.{divides-name, divides-nested, divides-std}
use Rattle.demangle_parts_text.proofs.divide.divide.Goals as goal

pub returns-in-Some : goal.returns-in-Some
returns-in-Some c =
    let a = c.arguments_size.ensures in
    divides-std c.args.front c.text_at-size.result.1 c.in-Some.behind c.text_at-size.result.0 c.in-Some.name
    c.arguments_size.result c.requires.text c.requires.all c.text_at-size.ensures
    (ap (λ l. bytes_eq l (codes "std::")) (sym c.first.ensures) ∙ sym c.is_std.ensures ∙ c.if-not-is_std.false)
    c.in-Some.ensures a.size a.within a.end

pub returns-in-Some-node_at : goal.returns-in-Some-node_at
returns-in-Some-node_at c =
    let a = c.arguments_size-in-Some-node_at.ensures in
    divides-name c.args.front c.in-Some-node_at.behind c.in-Some-node_at.name
    c.arguments_size-in-Some-node_at.result c.requires.text c.requires.all c.in-Some-node_at.ensures a.size a.within
    a.end

pub returns-in-Some-node_at-2 : goal.returns-in-Some-node_at-2
returns-in-Some-node_at-2 c =
    divides-nested c.args.front c.in-Some-node_at-2.field-0-1 c.in-Some-node_at-2.end c.nested_scope.result
    c.requires.text c.requires.all c.in-Some-node_at-2.ensures c.nested_scope.ensures
