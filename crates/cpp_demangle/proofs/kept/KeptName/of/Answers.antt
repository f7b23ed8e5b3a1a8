use Rattle.demangle_nodes.specs.TreeNodes.{tree_of_mangled_name}
use Rattle.demangle_table.specs.TableOf.{table_of}
use Rattle.cpp_demangle.proofs.KeptNames.{made_of, made_of_copy}
use Rattle.cpp_demangle.proofs.kept.KeptName.of.Goals as goal

pub invariant_of-result : goal.invariant_of-result
invariant_of-result c =
    let made =
    made_of c.in_ok-arena.arena c.args.root (tree_of_mangled_name c.in-Ok.parsed) (table_of c.new-substitutions.result)
    (table_of c.taken_out.new.subs) c.new-substitutions.ensures c.in-Ok.ensures.made in
    record { made = ∣ made ∣₁ }

pub returns-in-Ok : goal.returns-in-Ok
returns-in-Ok c =
    let made =
    made_of c.in_ok-arena.arena c.args.root (tree_of_mangled_name c.in-Ok.parsed) (table_of c.new-substitutions.result)
    (table_of c.taken_out.new.subs) c.new-substitutions.ensures c.in-Ok.ensures.made in
    made_of_copy c.args.read.now c.in_ok-arena.arena c.args.root (tree_of_mangled_name c.in-Ok.parsed)
    (table_of c.taken_out.new.subs) c.in_ok-arena.ensures.cells c.in_ok-arena.ensures.list
    c.in_ok-arena.ensures.entries made
