-- Turns of a prefix: what one begins with, and what is read behind the prefix so far.
use Rattle.std.specs.Prelude.{ℕ, List, [], ◌∷◌}
use Rattle.demangle_core.specs.Core.{Core}
use Rattle.demangle_forms.specs.NameForms as forms
use Rattle.demangle_grammar.specs.Code.{here, Here, Reply}
use Rattle.demangle_cells.specs.View.{View, Holds, table}
use Rattle.demangle_cells.specs.Reads.{Answer, Answers, spot_at}
use Rattle.demangle_cells.specs.declared.text.Text.{Text}
use Rattle.demangle_read_nested.specs.declared.turn_starts.Turn.{Turn}
use Rattle.demangle_read_nested.specs.declared.turn_starts.Turn.TheVariants as of_turn

abbrev pub form_of_turn : Turn → forms.Turn
form_of_turn of_turn.Substitution = forms.Turn.substitution
form_of_turn of_turn.Parameter = forms.Turn.parameter
form_of_turn of_turn.Decltype = forms.Turn.decltype
form_of_turn of_turn.Template = forms.Turn.template
form_of_turn of_turn.Name = forms.Turn.name
form_of_turn of_turn.None = forms.Turn.none

-- a row, or a part of one, that goes on from the prefix so far
abbrev pub ReadsBehind : Text → (at prefix : ℕ) → Answer → (old new : View) → (Here → List Core → Reply) → Type 0
ReadsBehind text at prefix result old new reply =
    (F : ℕ → Core) → Holds F new
    → Answers F text result old new (reply (here (spot_at text at) (table F old)) (F prefix ∷ []))
