-- What a declared type is as plain data, and a declaration, an entity, what was written.
use Rattle.std.specs.Prelude.{List, map}
use Rattle.demangle_vocab.specs.Builtins.{number_of_builtin}
use Rattle.cpp_mangle.specs.Declarations.{Modifier, pointer, lvalue, rvalue, const}
use Rattle.cpp_mangle.specs.Declarations.{PlainType, builtin, class, of, PlainDecl, Path}
use Rattle.cpp_mangle.specs.declared.decl_type.DeclType.{DeclType, Builtin, Class, Pointer', Ref', RvalueRef', Const'}
use Rattle.cpp_mangle.specs.declared.entity.Modifier as modifier
use Rattle.cpp_mangle.specs.declared.entity.Modifier.TheVariants as modifiers
use Rattle.cpp_mangle.specs.declared.entity.Entity.{Entity}
use Rattle.cpp_mangle.specs.declared.entity.Entity.TheVariants.{Front, Modified}
use Rattle.cpp_mangle.specs.declared.writer.Writer.{Writer}

abbrev pub plain_type : DeclType → PlainType
plain_type (Builtin b) = builtin (number_of_builtin b)
plain_type (Class p) = class p
plain_type (Pointer' q t) = of pointer (plain_type t)
plain_type (Ref' q t) = of lvalue (plain_type t)
plain_type (RvalueRef' q t) = of rvalue (plain_type t)
plain_type (Const' q t) = of const (plain_type t)

abbrev pub declared : Path → List DeclType → PlainDecl
declared path params = record { path = path; params = map plain_type params }

abbrev pub plain_modifier : modifier.Modifier → Modifier
plain_modifier modifiers.Pointer = pointer
plain_modifier modifiers.Ref = lvalue
plain_modifier modifiers.RvalueRef = rvalue
plain_modifier modifiers.Const = const

abbrev pub plain_entity : Entity → PlainType
plain_entity (Front parts) = class parts.now
plain_entity (Modified m t) = of (plain_modifier m) (plain_type t.now)

-- the entities so far
abbrev pub known : Writer → List PlainType
known w = map plain_entity w.known.items
