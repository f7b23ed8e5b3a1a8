use Rattle.std.proofs.Common.{◌∙◌, ap, sym, arith}
use Rattle.std.proofs.lemmas.Bool.Decides.{nat_tests}
use Rattle.demangle_core.specs.Core.{Tag, node, end}
use Rattle.demangle_grammar.specs.Code.{Found, here}
use Rattle.demangle_cells.specs.Reads.{spot_at}
use Rattle.demangle_cells.specs.View.{table, view}
use Rattle.demangle_read_rows.proofs.Places.{empty_below}
use Rattle.demangle_read_names.proofs.ResourceParts.{resource_taken}
use Rattle.demangle_read_names.proofs.java_resources.java_resource.Goals as goal

pub returns-in_ok-id-in-empty-clause-reads : goal.returns-in_ok-id-in-empty-clause-reads
returns-in_ok-id-in-empty-clause-reads c F h =
    let k = c.push.ensures.grown.holds F h in
    let t = c.resource_names.ensures.table F in
    let r =
    resource_taken c.args.depth.levels c.args.depth.conversion c.args.text c.front_text-inner.result c.args.at
    c.in_ok-length.length c.in_ok-length.start c.in_ok-from.from c.in_ok-names.names.end (F c.in_ok-names.names.id)
    (table F (view c.args.arena.now)) _ c.in_ok-length.ensures.number (omega arith) (grind (arith, nat_tests))
    c.front_text-inner.ensures c.in_ok-from.ensures (c.in_ok-names.ensures.reads F k) t
    (empty_below _ _ c.rest.ensures c.in-empty.len_below) in
    let stop = c.behind-stop.result in
    r
    ∙ (ap (λ i. Found (node Tag.SpecialNameJavaResource (F c.in_ok-names.names.id) end)
    (here (spot_at c.args.text i) (table F (view c.args.arena.now)))) (sym c.behind-stop.ensures)
    ∙ (ap (λ x. Found x (here (spot_at c.args.text stop) (table F (view c.args.arena.now))))
    (sym (c.in_ok-id-in-empty.ensures.made F h))
    ∙ ap (λ z. Found (F c.in_ok-id-in-empty.id) (here (spot_at c.args.text stop) z)) (sym (c.push.ensures.table F ∙ t))))
