use Rattle.std.proofs.Common.{◌∙◌, ap, sym}
use Rattle.std.specs.Str.{bytes_eq}
use Rattle.demangle_parts_text.specs.Split.{colons}
use Rattle.demangle_parts_text.proofs.DivideLaws.{in-scope}
use Rattle.demangle_parts_text.proofs.divide.name_in_scope.Goals as goal

pub returns : goal.returns
returns c =
    in-scope c.args.front c.text_at-size.result.1 c.text_at-size.result.0 c.name.result c.text_at-size.ensures
    (ap (λ l. bytes_eq l colons) (sym c.first.ensures) ∙ sym c.is_colons.ensures ∙ c.if-not-is_colons.false)
    c.name.ensures
