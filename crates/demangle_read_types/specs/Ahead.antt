-- A test ahead that reads no part: the inner failure is that of the test, the outer one ends all reading.
use Rattle.std.specs.Prelude.{◌≡◌, ◌⊎◌, ℕ, true, false, [], Result, Ok, Err}
use Rattle.demangle_text.specs.Kind.{kind}
use Rattle.demangle_text.specs.declared.error.Error.{Error}
use Rattle.demangle_text.specs.declared.error.Error.TheVariants.{OutOfMemory}
use Rattle.demangle_core.specs.Core.{Core}
use Rattle.demangle_grammar.specs.Code.{here, Here, Out, Yes, No}
use Rattle.demangle_cells.specs.View.{View, Holds, table}
use Rattle.demangle_cells.specs.Reads.{spot_at}
use Rattle.demangle_cells.specs.declared.text.Text.{Text}

abbrev pub AnswersAhead : {X : Type 0} → (ℕ → Core) → Text → (at : ℕ) → Result (Result X Error) Error → (old new : View)
    → Out → Type 0
AnswersAhead F text at (Ok (Ok x)) old new out =
    (out ≡ Yes (here (spot_at text at) (table F old)) []) × (table F new ≡ table F old)
AnswersAhead F text at (Ok (Err e)) old new out = (out ≡ No false (kind e)) × (table F new ≡ table F old)
AnswersAhead F text at (Err e) old new out =
    (e ≡ OutOfMemory) ⊎ ((out ≡ No true (kind e)) × (table F new ≡ table F old))

abbrev pub TestsAhead : {X : Type 0} → Text → (at : ℕ) → Result (Result X Error) Error → (old new : View)
    → (Here → Out) → Type 0
TestsAhead text at result old new out =
    (F : ℕ → Core) → Holds F new → AnswersAhead F text at result old new (out (here (spot_at text at) (table F old)))
