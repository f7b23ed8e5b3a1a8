use Rattle.std.proofs.Common.{refl}
use Rattle.demangle_core.specs.Core.{◌⊕◌, Tag}
use Rattle.demangle_leaf_nodes.specs.TreeLeaves.{tree_of_option, tree_of_template_param}
use Rattle.demangle_nodes.specs.TreeNodes.{tree_of_template_args}
use Rattle.demangle_printing.specs.Print.{body}
use Rattle.demangle_printing.specs.Lines.{line_steps}
use Rattle.demangle_meets.proofs.Acts.{meets_ask, meets_block, meets_done}
use Rattle.demangle_meets.proofs.Parts.{line_at, meets_part}
use Rattle.demangle_print_primaries.specs.Made.{made}
use Rattle.demangle_print_primaries.proofs.unresolved.template_type.Goals as goal

pub returns-in-Some : goal.returns-in-Some
unfolding body line_steps
returns-in-Some g c =
    line_at (λ o. made Tag.UnresolvedTypeTemplate (tree_of_template_param c.args.param.now
    ⊕ tree_of_option tree_of_template_args o)) c.in-Some.is (record {
      meets = meets_ask (λ _. refl) (meets_block c.template_in_scope.ensures meets_done) meets_done;
    })

pub returns-in-None : goal.returns-in-None
unfolding body line_steps
returns-in-None g c =
    line_at (λ o. made Tag.UnresolvedTypeTemplate (tree_of_template_param c.args.param.now
    ⊕ tree_of_option tree_of_template_args o)) c.in-None.is (record {
      meets = meets_ask (λ _. refl) (meets_part c.template_param.ensures meets_done) meets_done;
    })
