-- What the line of qualifiers does.
use Rattle.std.specs.Prelude.{List, ℕ, Bool, codes}
use Rattle.demangle_core.specs.Core.{Core}
use Rattle.demangle_leaf_nodes.specs.declared.leaves.CvQualifiers.{CvQualifiers}
use Rattle.demangle_printing.specs.Act.{Act, done, text, space, ask}
use Rattle.demangle_printing.specs.Reader.{chosen}

-- a qualifier, where it is there, and then another act
abbrev pub qualifier : Bool → List ℕ → Act Core → Act Core
qualifier b word k = ask (λ s. chosen b (space (text word done)) done) k

-- qualifiers, each behind a space
abbrev pub qualifiers : CvQualifiers → Act Core
qualifiers q = qualifier q.const_ (codes "const") (qualifier q.volatile (codes "volatile")
    (qualifier q.restrict (codes "restrict") done))
