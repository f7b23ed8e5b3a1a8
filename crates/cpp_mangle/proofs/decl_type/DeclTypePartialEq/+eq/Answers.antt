use Rattle.std.proofs.Common.{◌∙◌}
use Rattle.cpp_mangle.proofs.Builtins.{numbers_tell}
use Rattle.cpp_mangle.proofs.decl_type.DeclTypePartialEq.+eq.Goals as goal

pub returns-in-Builtin-other : goal.returns-in-Builtin-other
returns-in-Builtin-other t c =
    rw (c.in-Builtin.is, c.in-Builtin-other.is) (c.eq.ensures ∙ numbers_tell c.in-Builtin.a c.in-Builtin-other.b)
