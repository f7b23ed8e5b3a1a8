use Rattle.std.proofs.Common.{Some, codes, refl}
use Rattle.demangle_nodes.proofs.Parts.{global_ctor_dtor_ctor, global_ctor_dtor_dtor}
use Rattle.demangle_nodes.specs.TreeNodes.{parts_of_global_ctor_dtor, tag_of_global_ctor_dtor, tree_of_mangled_name}
use Rattle.demangle_printing.specs.Act.{block, done, fence, text, with_params}
use Rattle.demangle_printing.specs.Lines.{line_steps}
use Rattle.demangle_printing.specs.Print.{body}
use Rattle.demangle_printing.specs.Rules.{line_of}
use Rattle.demangle_meets.proofs.Parts.{meets_at, prints_deep, prints_node, prints_parts}
use Rattle.demangle_meets.specs.Place.{world_of}
use Rattle.demangle_scope.specs.ScopeOf.{scope_of}
use Rattle.demangle_print_unqualified.proofs.Itself.{global_is_itself}
use Rattle.demangle_print_names.proofs.globals.global_ctor_dtor.Goals as goal

pub returns-in_default : goal.returns-in_default
returns-in_default g c = prints_deep (global_is_itself _ c.args.node.now) c.in_default.ensures

pub returns-in-Ctor : goal.returns-in-Ctor
unfolding body line_steps
returns-in-Ctor g c =
    prints_parts tag_of_global_ctor_dtor parts_of_global_ctor_dtor c.in-Ctor.is (global_ctor_dtor_ctor _)
    (prints_node refl c.in-Some.ensures.0
    (meets_at (λ x. fence (with_params (text (codes "global constructors keyed to ")
    (block (line_of (world_of (g.B.Below.at c.in-Some.below).refers) (Some (tree_of_mangled_name x))
    (scope_of c.args.scope)) done)) done) done)
    c.deref.ensures c.keyed_to.ensures))

pub returns-in-Dtor : goal.returns-in-Dtor
unfolding body line_steps
returns-in-Dtor g c =
    prints_parts tag_of_global_ctor_dtor parts_of_global_ctor_dtor c.in-Dtor.is (global_ctor_dtor_dtor _)
    (prints_node refl c.in-Some.ensures.0
    (meets_at (λ x. fence (with_params (text (codes "global destructors keyed to ")
    (block (line_of (world_of (g.B.Below.at c.in-Some.below).refers) (Some (tree_of_mangled_name x))
    (scope_of c.args.scope)) done)) done) done)
    c.deref-in-Dtor.ensures c.keyed_to-in-Dtor.ensures))
