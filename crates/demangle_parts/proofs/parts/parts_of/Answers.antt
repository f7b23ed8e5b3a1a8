use Rattle.std.proofs.Common.{◌∙◌, ap, refl}
use Rattle.demangle_nodes.specs.TreeNodes.{tree_of_mangled_name}
use Rattle.demangler.specs.Contents.{telling_of}
use Rattle.cpp_demangle.specs.SymbolOf.{contents_of}
use Rattle.demangle_parts.specs.Parts.{signature_of}
use Rattle.demangle_parts.proofs.PartsLaws.{are-parts, join-to, refused-by}
use Rattle.demangle_parts.proofs.parts.parts_of.Goals as goal

pub returns-in-Err-clause-parts : goal.returns-in-Err-clause-parts
returns-in-Err-clause-parts g c =
    refused-by c.args.print.now (contents_of c.args.symbol.now) c.in-Err.error c.in-Err.ensures.told
    (ap (λ o. telling_of o (contents_of c.args.symbol.now)) c.no_return_type-options.ensures) refl refl

pub returns-in-Some-clause-parts : goal.returns-in-Some-clause-parts
returns-in-Some-clause-parts g c =
    are-parts c.args.print.now (contents_of c.args.symbol.now) c.in-Some.divided c.signature_of-signature.result
    c.in-Ok.ensures.told
    (ap (λ o. telling_of o (contents_of c.args.symbol.now)) c.no_return_type-options.ensures)
    c.new-heard.ensures.calls
    (c.signature_of-signature.ensures
    ∙ ap (λ t. signature_of t (tree_of_mangled_name c.parsed.result.now)) c.substitutions.ensures
    ∙ ap (λ x. signature_of (contents_of c.args.symbol.now).table x) c.parsed.ensures)
    c.in-Some.ensures

pub returns-in-Some-clause-joins : goal.returns-in-Some-clause-joins
returns-in-Some-clause-joins g c =
    join-to c.args.print.now (contents_of c.args.symbol.now) c.in-Some.divided c.signature_of-signature.result.has_parts
    c.in-Ok.ensures.told
    (ap (λ o. telling_of o (contents_of c.args.symbol.now)) c.no_return_type-options.ensures)
    c.new-heard.ensures.calls c.in-Some.ensures c.joins_cut.ensures c.keeps_text.ensures
