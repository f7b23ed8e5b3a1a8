use Rattle.std.specs.Prelude.{nat_le}
use Rattle.std.proofs.Common.{◌≡◌, ℕ, ◌≤◌, true, arith, map, length, sym, ◌∙◌}
use Rattle.std.proofs.lemmas.List.{length-map}
use Rattle.std.proofs.lemmas.List.Folds.{list_all-map}
use Rattle.cpp_mangle.specs.Declarations.{is_param}
use Rattle.cpp_mangle.specs.Plain.{plain_type}
use Rattle.cpp_mangle.proofs.decl.are_params.Goals as goal

le_true : (n m : ℕ) → n ≤ m → nat_le n m ≡ true
le_true n m h = grind (arith, h)

pub returns-then-params-le-MOST_PARAMS : goal.returns-then-params-le-MOST_PARAMS
returns-then-params-le-MOST_PARAMS c =
    let ps = c.args.params.now in
    let e : nat_le (length (map plain_type ps)) 64 ≡ true =
    rw (length-map ps plain_type) (le_true (length ps) 64 c.if-params-le-MOST_PARAMS.true) in
    rw e (c.each_is_param.ensures ∙ sym (list_all-map is_param plain_type ps))
