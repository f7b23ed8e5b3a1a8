-- The builtin types are told apart by their numbers.
use Rattle.std.specs.Prelude.{◌==◌}
use Rattle.std.proofs.Common.{◌≡◌, refl, ap, ◌∙◌}
use Rattle.demangle_vocab.specs.Builtins.{number_of_builtin}
use Rattle.demangle_vocab.specs.declared.builtin.StandardBuiltinType.{StandardBuiltinType}
use Rattle.demangle_vocab.specs.contracts.builtin.StandardBuiltinType.{the_type}
use Rattle.demangle_vocab.specs.declared.builtin.StandardBuiltinType.TheVariants.{Void}
use denote.Enum.Declared.{tag_of}
use denote.Enum.Bare.{sameb}

tag_is : (x : StandardBuiltinType) → tag_of the_type x ≡ number_of_builtin x
tag_is Void = refl
tag_is _ = refl

pub numbers_tell : (x y : StandardBuiltinType) → sameb the_type x y ≡ (number_of_builtin x == number_of_builtin y)
numbers_tell x y = ap (λ n. n == tag_of the_type y) (tag_is x) ∙ ap (λ n. number_of_builtin x == n) (tag_is y)
