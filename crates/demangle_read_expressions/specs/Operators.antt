-- Operators with how many operands they take, and what is read behind one.
use Rattle.std.specs.Prelude.{◌≡◌, ◌⊎◌, ℕ, Bool, [], Result, Ok, Err}
use Rattle.demangle_text.specs.Kind.{kind}
use Rattle.demangle_text.specs.declared.error.Error.{Error}
use Rattle.demangle_text.specs.declared.error.Error.TheVariants.{OutOfMemory}
use Rattle.demangle_core.specs.Core.{Core, chosen, end}
use Rattle.demangle_core.specs.Table.{Table}
use Rattle.demangle_grammar.specs.Rule.{Row}
use Rattle.demangle_grammar.specs.Reading.{arity_in}
use Rattle.demangle_grammar.specs.Code.{here, Here, Reply, Found, Refused, cread}
use Rattle.demangle_cells.specs.View.{View, Holds, table}
use Rattle.demangle_cells.specs.Reads.{Answer, Answers, spot_at}
use Rattle.demangle_cells.specs.declared.text.Text.{Text}
use Rattle.demangle_read_expressions.specs.declared.operators.Word as word
use Rattle.demangle_read_expressions.specs.declared.operators.Operator as operator

-- a part of a row behind parts that were read: the form is given by what F says they are
abbrev pub ReadsBehind : Text → (at : ℕ) → Answer → (old new : View) → ((ℕ → Core) → Here → Reply) → Type 0
ReadsBehind text at result old new reply =
    (F : ℕ → Core) → Holds F new → Answers F text result old new (reply F (here (spot_at text at) (table F old)))

-- the word of an operator, whatever the components are
abbrev pub ReadsSimple : (levels : ℕ) → Bool → Text → (at : ℕ) → Result word.Word Error → Type 0
ReadsSimple levels conversion text at (Ok x) =
    ((table : Table) → cread levels Row.simple_operator_name conversion (here (spot_at text at) table) []
    ≡ Found (chosen 0 x.word end) (here (spot_at text x.end) table))
    × (arity_in (chosen 0 x.word end) ≡ x.count)
ReadsSimple levels conversion text at (Err e) = (table : Table)
    → cread levels Row.simple_operator_name conversion (here (spot_at text at) table) [] ≡ Refused (kind e)

-- the name of an operator
abbrev pub AnswersOperator : (ℕ → Core) → Text → Result operator.Operator Error → (old new : View) → Reply → Type 0
AnswersOperator F text (Ok x) old new reply =
    (reply ≡ Found (F x.id) (here (spot_at text x.end) (table F new))) × (arity_in (F x.id) ≡ x.count)
AnswersOperator F text (Err e) old new reply =
    (e ≡ OutOfMemory) ⊎ ((reply ≡ Refused (kind e)) × (table F new ≡ table F old))

abbrev pub ReadsOperator : (levels : ℕ) → Bool → Text → (at : ℕ) → Result operator.Operator Error
    → (old new : View) → Type 0
ReadsOperator levels conversion text at result old new =
    (F : ℕ → Core) → Holds F new
    → AnswersOperator F text result old new
    (cread levels Row.operator_name conversion (here (spot_at text at) (table F old)) [])

-- what is read behind an operator that takes so many operands
abbrev pub ReadsOperands : Text → operator.Operator → Answer → (old new : View) → (Core → Here → Reply) → Type 0
ReadsOperands text operator result old new reply =
    (F : ℕ → Core) → Holds F new → arity_in (F operator.id) ≡ operator.count
    → Answers F text result old new (reply (F operator.id) (here (spot_at text operator.end) (table F old)))
