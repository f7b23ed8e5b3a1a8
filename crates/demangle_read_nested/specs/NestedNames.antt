-- What is made of the parts of nested names.
use Rattle.std.specs.Prelude.{◌≡◌, ◌⊎◌, ℕ, true, List, [], ◌∷◌, ◌++◌, Result, Ok, Err}
use Rattle.demangle_text.specs.Kind.{kind, ends}
use Rattle.demangle_text.specs.declared.error.Error.{Error}
use Rattle.demangle_text.specs.declared.error.Error.TheVariants.{OutOfMemory}
use Rattle.demangle_core.specs.Core.{Core}
use Rattle.demangle_grammar.specs.Code.{joined, taken_over, here, Here, Out, Yes, No}
use Rattle.demangle_cells.specs.View.{View, Holds, table}
use Rattle.demangle_cells.specs.Reads.{spot_at}
use Rattle.demangle_cells.specs.declared.text.Text.{Text}
use Rattle.demangle_read_nested.specs.Shapes.{is_node, is_word}
use Rattle.demangle_read_nested.specs.declared.qualifiers.NestedQualifiers.{NestedQualifiers}
use Rattle.demangle_read_nested.specs.declared.qualifiers.NestedQualifiers.TheVariants.{ExplicitObject, Plain}

-- the parts before the prefix of a nested name
abbrev pub qualifier_parts : (ℕ → Core) → NestedQualifiers → List Core
qualifier_parts F (ExplicitObject object) = F object ∷ []
qualifier_parts F (Plain cv reference) = F cv ∷ F reference ∷ []

-- a word, or two nodes
abbrev pub IsQualifiers : (ℕ → Core) → NestedQualifiers → Type 0
IsQualifiers F (ExplicitObject object) = is_word (F object) ≡ true
IsQualifiers F (Plain cv reference) = (is_node (F cv) ≡ true) × (is_node (F reference) ≡ true)

-- all parts of a nested name, as its row joins them
abbrev pub nested_parts : (ℕ → Core) → NestedQualifiers → Core → Core
nested_parts F qualifiers prefix = joined (qualifier_parts F qualifiers ++ prefix ∷ [])

-- what stands before the prefix
abbrev pub AnswersQualifiers : (ℕ → Core) → Text → Result (NestedQualifiers × ℕ) Error → (old new : View) → Out → Type 0
AnswersQualifiers F text (Ok x) old new out =
    out ≡ Yes (here (spot_at text x.1) (table F new)) (qualifier_parts F x.0)
AnswersQualifiers F text (Err e) old new out = (e ≡ OutOfMemory) ⊎ (out ≡ No (ends (kind e)) (kind e))

abbrev pub ReadsQualifiers : Text → (at : ℕ) → Result (NestedQualifiers × ℕ) Error → (old new : View) → (Here → Out)
    → Type 0
ReadsQualifiers text at result old new out =
    (F : ℕ → Core) → Holds F new
    → AnswersQualifiers F text result old new (out (here (spot_at text at) (table F old)))

-- the nested name that takes over the last name of its prefix
abbrev pub TakesOver : NestedQualifiers → (prefix : ℕ) → Result ℕ Error → View → Type 0
TakesOver qualifiers prefix (Ok i) v =
    (F : ℕ → Core) → Holds F v → IsQualifiers F qualifiers
    → taken_over (nested_parts F qualifiers (F prefix)) (table F v) ≡ Ok (F i)
TakesOver qualifiers prefix (Err e) v =
    (e ≡ OutOfMemory)
    ⊎ ((F : ℕ → Core) → Holds F v → IsQualifiers F qualifiers
    → taken_over (nested_parts F qualifiers (F prefix)) (table F v) ≡ Err (kind e))
