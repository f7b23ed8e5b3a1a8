use Rattle.std.proofs.Common.{drop, sym, ◌∙◌, ap}
use Rattle.std.proofs.lemmas.List.{nil_from_length}
use Rattle.demangle_print_inner.proofs.inside.behind_result.Goals as goal

pub returns-in-None : goal.returns-in-None
returns-in-None c =
    let
    none = nil_from_length c.args.types.now c.in-None.ensures.cases
    in
    none ∙ sym (ap (drop 1) none)

pub returns-in-Some : goal.returns-in-Some
returns-in-Some c = ap (drop 1) (sym c.in-Some.ensures.cases.0)
