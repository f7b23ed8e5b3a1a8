use Rattle.std.proofs.Common.{◌≡◌, arith}
use Rattle.demangle_parts_text.proofs.DivideLaws.{no-scope, no-scope-within, scope-prefix-none, scope-prefix-some}
use Rattle.demangle_parts_text.proofs.DivideLaws.{template-scope}
use Rattle.demangle_parts_text.proofs.divide.+scope_in.Goals as goal

pub returns-in-None-name_in_scope : goal.returns-in-None-name_in_scope
returns-in-None-name_in_scope t c =
    scope-prefix-none c.args.front c.in-Some.behind c.in-Some.size c.in-Some.ensures c.in-None-name_in_scope.ensures

pub returns-in-Some-name_in_scope : goal.returns-in-Some-name_in_scope
returns-in-Some-name_in_scope t c =
    scope-prefix-some c.args.front c.in-Some.behind c.in-Some-name_in_scope.end c.in-Some.size c.in-Some.ensures
    c.in-Some-name_in_scope.ensures

pub returns-in-None-enter : goal.returns-in-None-enter
returns-in-None-enter t c =
    let none = c.if-size-gt0.false in
    let empty : c.text_at-size.result.0 ≡ 0 = omega arith in
    no-scope c.args.front c.text_at-size.result.1 c.text_at-size.result.0 c.text_at-size.ensures empty
    c.in-None.ensures c.in-None-enter.ensures

pub returns-in-None-scope_in : goal.returns-in-None-scope_in
returns-in-None-scope_in t c =
    no-scope-within c.args.front c.in-Some-enter.within c.in-Some-enter.ensures c.in-None-scope_in.ensures

pub returns-in-Some-scope_in : goal.returns-in-Some-scope_in
returns-in-Some-scope_in t c =
    template-scope c.args.front c.in-Some-enter.within c.in-Some-scope_in.end c.in-Some-scope_in.scope
    c.scope_of_template.result c.in-Some-enter.ensures c.in-Some-scope_in.ensures c.scope_of_template.ensures
