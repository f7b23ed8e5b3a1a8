-- What a reader of a row answers: `old` and `new` are the arena before and behind it, and F says what each index stands
-- for. A refusal is the row's, and leaves the components as they were; want of memory says nothing.
use Rattle.std.specs.Prelude.{◌≡◌, ◌⊎◌, ℕ, Bool, true, false, [], ◌∷◌, drop, Result, Ok, Err}
use Rattle.demangle_text.specs.Kind.{kind, ends}
use Rattle.demangle_text.specs.Spot.{Spot}
use Rattle.demangle_text.specs.declared.error.Error.{Error}
use Rattle.demangle_text.specs.declared.error.Error.TheVariants.{OutOfMemory}
use Rattle.demangle_core.specs.Core as core
use Rattle.demangle_core.specs.Core.{Core, Tag, node}
use Rattle.demangle_grammar.specs.Rule.{Row}
use Rattle.demangle_grammar.specs.Code.{here, Here, Reply, Found, Refused, Out, Yes, No, cread}
use Rattle.demangle_cells.specs.Cells.{row}
use Rattle.demangle_cells.specs.Stored.{View, Holds, table, since}
use Rattle.demangle_cells.specs.declared.text.Text.{Text}
use Rattle.demangle_cells.specs.declared.text.Part as part

-- the place at an index of the text
abbrev pub spot_at : Text → ℕ → Spot
spot_at text at = record { index = at; left = drop at text.bytes.now }

abbrev pub Answer : Type 0
Answer = Result part.Part Error

-- ---- a row, or the last alternatives of one
abbrev pub Answers : (ℕ → Core) → Text → Answer → (old new : View) → Reply → Type 0
Answers F text (Ok x) old new reply = reply ≡ Found (F x.id) (here (spot_at text x.end) (table F new))
Answers F text (Err e) old new reply = (e ≡ OutOfMemory) ⊎ ((reply ≡ Refused (kind e)) × (table F new ≡ table F old))

abbrev pub Reads : Text → (at : ℕ) → Answer → (old new : View) → (Here → Reply) → Type 0
Reads text at result old new reply =
    (F : ℕ → Core) → Holds F new → Answers F text result old new (reply (here (spot_at text at) (table F old)))

abbrev pub ReadsRow : Row → (levels : ℕ) → Bool → Text → (at : ℕ) → Answer → (old new : View) → Type 0
ReadsRow row levels conversion text at result old new =
    Reads text at result old new (λ s. cread levels row conversion s [])

-- ---- where a row ends that is read ahead; the components stay as they were
-- of a reply where it ends alone
abbrev pub ended : Reply → Reply
ended (Found x s) = Found core.end (here s.spot [])
ended (Refused k) = Refused k

abbrev pub AnswersEnd : (ℕ → Core) → Text → Result ℕ Error → (old new : View) → Reply → Type 0
AnswersEnd F text (Ok stop) old new reply =
    (ended reply ≡ Found core.end (here (spot_at text stop) [])) × (table F new ≡ table F old)
AnswersEnd F text (Err e) old new reply = (e ≡ OutOfMemory) ⊎ ((reply ≡ Refused (kind e)) × (table F new ≡ table F old))

abbrev pub EndsRow : Row → (levels : ℕ) → Bool → Text → (at : ℕ) → Result ℕ Error → (old new : View) → Type 0
EndsRow row levels conversion text at result old new =
    (F : ℕ → Core) → Holds F new → AnswersEnd F text result old new
    (cread levels row conversion (here (spot_at text at) (table F old)) [])

-- ---- an alternative with a mark in it: the inner failure is one before the mark, so that the next one is to be tried
abbrev pub AnswersTry : (ℕ → Core) → Text → Result Answer Error → (old new : View) → Out → Type 0
AnswersTry F text (Ok (Ok x)) old new out = out ≡ Yes (here (spot_at text x.end) (table F new)) (F x.id ∷ [])
AnswersTry F text (Ok (Err e)) old new out = (out ≡ No false (kind e)) × (table F new ≡ table F old)
AnswersTry F text (Err e) old new out =
    (e ≡ OutOfMemory) ⊎ ((out ≡ No true (kind e)) × (table F new ≡ table F old))

abbrev pub Tries : Text → (at : ℕ) → Result Answer Error → (old new : View) → (Here → Out) → Type 0
Tries text at result old new out =
    (F : ℕ → Core) → Holds F new → AnswersTry F text result old new (out (here (spot_at text at) (table F old)))

-- ---- a part of a row that has no mark in it
abbrev pub AnswersPart : (ℕ → Core) → Text → Answer → (old new : View) → Out → Type 0
AnswersPart F text (Ok x) old new out = out ≡ Yes (here (spot_at text x.end) (table F new)) (F x.id ∷ [])
AnswersPart F text (Err e) old new out =
    (e ≡ OutOfMemory) ⊎ ((out ≡ No (ends (kind e)) (kind e)) × (table F new ≡ table F old))

abbrev pub ReadsPart : Text → (at : ℕ) → Answer → (old new : View) → (Here → Out) → Type 0
ReadsPart text at result old new out =
    (F : ℕ → Core) → Holds F new → AnswersPart F text result old new (out (here (spot_at text at) (table F old)))

-- ---- a failure to read the bytes, inside of the answer; outside those that end the whole reading
abbrev pub Passes : {X : Type 0} → Result X Error → Result (Result X Error) Error → Type 0
Passes answer (Ok (Ok x)) = answer ≡ Ok x
Passes answer (Ok (Err e)) = (answer ≡ Err e) × (ends (kind e) ≡ false)
Passes answer (Err e) = (answer ≡ Err e) × (ends (kind e) ≡ true)

-- ---- a list of rows: where it ended; the indexes of its trees wait
abbrev pub AnswersList : (ℕ → Core) → Text → Result ℕ Error → (old new : View) → Out → Type 0
AnswersList F text (Ok stop) old new out =
    out ≡ Yes (here (spot_at text stop) (table F new)) (node Tag.Several (row F (since old new)) core.end ∷ [])
AnswersList F text (Err e) old new out =
    (e ≡ OutOfMemory) ⊎ ((out ≡ No (ends (kind e)) (kind e)) × (table F new ≡ table F old))

abbrev pub ListsPart : Text → (at : ℕ) → Result ℕ Error → (old new : View) → (Here → Out) → Type 0
ListsPart text at result old new out =
    (F : ℕ → Core) → Holds F new → AnswersList F text result old new (out (here (spot_at text at) (table F old)))

-- the node of a list that was read
abbrev pub Gathers : Result ℕ Error → Answer → (ℕ → Type 0) → Type 0
Gathers answer (Ok x) made = (answer ≡ Ok x.end) × made x.id
Gathers answer (Err e) made = (e ≡ OutOfMemory) ⊎ (answer ≡ Err e)
