use Rattle.std.proofs.Common.{◌≡◌, sym, subst, ◌∙◌, map}
use Rattle.demangle_printing.specs.Outcome.{outcome, Shown}
use Rattle.cpp_mangle.specs.Declarations.{decl_text}
use Rattle.cpp_mangle.specs.Laws.{plain_options, NumbersEntities}
use Rattle.cpp_mangle.specs.Plain.{plain_type}
use Rattle.cpp_mangle.proofs.Known.{same_name}
use Rattle.cpp_mangle.proofs.Theorem.{shown, numbered}
use Rattle.cpp_mangle.proofs.mangling.mangle.Goals as goal

pub returns-clause-shown : goal.returns-clause-shown
returns-clause-shown c =
    subst (λ z. outcome 96 plain_options z ≡ Shown (decl_text c.args.decl.now))
    (sym (c.in_ok-put_function.ensures
    ∙ same_name c.path.result.now c.args.decl.now.path (map plain_type c.params.result.now) c.args.decl.now.params
    c.path.ensures.path c.params.ensures))
    (shown c.args.decl.now c.path.ensures.decl)

pub returns-clause-numbered : goal.returns-clause-numbered
returns-clause-numbered c =
    subst (λ z. NumbersEntities z c.args.decl.now)
    (sym (c.in_ok-put_function.ensures
    ∙ same_name c.path.result.now c.args.decl.now.path (map plain_type c.params.result.now) c.args.decl.now.params
    c.path.ensures.path c.params.ensures))
    (numbered c.args.decl.now c.path.ensures.decl)
