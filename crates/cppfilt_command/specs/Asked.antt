-- What the words of a command line ask for.
use Rattle.std.specs.Prelude.{ℕ, Bool, true, false, ◌==◌, ◌&&◌, List, [], ◌∷◌, length, nat_le, codes, Option}
use Rattle.std.specs.Prelude.{Some, None, is_some, if◌then◌else◌, unwrap_or, option_and_then, Result, Ok, Err, map}
use Rattle.std.specs.Prelude.{String, string_bytes}
use Rattle.std.specs.declared.alloc.Global.{Global}
use Rattle.std.specs.Option.{option_map_or}
use Rattle.std.specs.Str.{bytes_eq}
use Rattle.clap.specs.Faults.{fault_of}
use Rattle.clap.specs.Kinds.{Kinds}
use Rattle.clap.specs.Simple.{App, matches_of}
use Rattle.clap.specs.Walk.{Row, all_of, first_of}
use Rattle.clap.specs.declared.error.kind.ErrorKind.TheVariants.{DisplayHelp}
use Rattle.demangle_text.specs.Kind.{Kind}
use Rattle.demangle_text.specs.Number.{natural_from}
use Rattle.demangle_text.specs.Spot.{Spot}
use Rattle.demangle_printing.specs.Outcome.{Options}
use Rattle.cppfilt_lines.specs.Work.{Work, lines, names, sample}
use Rattle.cppfilt_lines.specs.declared.options.FilterOptions.{FilterOptions}
use Rattle.cppfilt_command.specs.Command.{command, text_command}

-- ---- numbers
-- nothing is left behind it, and it lies from 1 to `most`
abbrev pub in_range : (most : ℕ) → Result (ℕ × Spot) Kind → Option ℕ
in_range most (Ok read) =
    if (length read.1.left == 0) && (nat_le 1 read.0 && nat_le read.0 most) then Some read.0 else None
in_range most (Err kind) = None

-- A number from 1 to `most`: decimal digits and nothing else, without a leading zero.
abbrev pub number_upto : ℕ → List ℕ → Option ℕ
number_upto most text = in_range most (natural_from 10 (record { index = 0; left = text }))

-- the greatest numbers that the options take
abbrev pub limit_most : ℕ
limit_most = 1024

abbrev pub output_most : ℕ
output_most = 1073741824

abbrev pub sample_most : ℕ
sample_most = 100000

-- ---- what the command found in the words
abbrev pub is_set : List ℕ → List Row → Bool
is_set option rows = option_map_or (λ value. bytes_eq value (codes "true")) (first_of option rows) false

-- the option isn't given, or its value is such a number
abbrev pub is_good : ℕ → List ℕ → List Row → Bool
is_good most option rows = option_map_or (λ text. is_some (number_upto most text)) (first_of option rows) true

abbrev pub has_good_numbers : List Row → Bool
has_good_numbers rows =
    is_good limit_most (codes "parse-limit") rows
    && (is_good limit_most (codes "print-limit") rows
    && (is_good output_most (codes "max-output") rows && is_good sample_most (codes "sample") rows))

abbrev pub number_in : ℕ → List ℕ → List Row → Option ℕ
number_in most option rows = option_and_then (number_upto most) (first_of option rows)

abbrev pub print_with : (limit bytes : Option ℕ) → List Row → Options
print_with limit bytes rows =
    record {
      limit = unwrap_or limit 128;
      no_params = is_set (codes "no-params") rows;
      no_return_type = is_set (codes "no-return-type") rows;
      hide_expression_literal_types = is_set (codes "hide-literal-types") rows;
      output_limit = bytes;
    }

abbrev pub options_with : (parse_limit print_limit bytes : Option ℕ) → List Row → FilterOptions
options_with parse_limit print_limit bytes rows =
    record {
      parse = unwrap_or parse_limit 96;
      print = print_with print_limit bytes rows;
      types = is_set (codes "types") rows;
      why = is_set (codes "why") rows;
    }

abbrev pub options_in : List Row → FilterOptions
options_in rows =
    options_with (number_in limit_most (codes "parse-limit") rows) (number_in limit_most (codes "print-limit") rows)
    (number_in output_most (codes "max-output") rows) rows

-- a sample comes before names, and names before the input
abbrev pub work_by : Option ℕ → List (List ℕ) → Work
work_by (Some n) given = sample n
work_by None [] = lines
work_by None (name ∷ more) = names (name ∷ more)

abbrev pub work_in : List Row → Work
work_in rows = work_by (number_in sample_most (codes "sample") rows) (unwrap_or (all_of (codes "names") rows) [])

-- ---- the verdict
-- The words are wrong, or ask for help, or for a task under options.
pub data Verdict : Type 0 where
  Mistaken : Verdict
  AsksHelp : Verdict
  Asks : FilterOptions → Work → Verdict

abbrev pub judged : Kinds → List Row → Verdict
judged [] rows = if has_good_numbers rows then Asks (options_in rows) (work_in rows) else Mistaken
judged (DisplayHelp ∷ more) rows = AsksHelp
judged (kind ∷ more) rows = Mistaken

-- what all the words say to a command, of which the first is the name of the program
unfoldable pub judgement_by : App → List (List ℕ) → Verdict
judgement_by app all = judged (fault_of app all) (matches_of app all)

-- the command is given its name, and then the words
abbrev pub verdict : List (List ℕ) → Verdict
verdict words = judgement_by command (codes "cppfilt" ∷ words)

abbrev pub verdict_on : List (String Global) → Verdict
verdict_on words = verdict (map string_bytes words)

-- The same for the filter of texts. Of what they ask, how names are read and printed is all that counts there.
abbrev pub text_verdict : List (List ℕ) → Verdict
text_verdict words = judgement_by text_command (codes "cppfilt_text" ∷ words)

abbrev pub text_verdict_on : List (String Global) → Verdict
text_verdict_on words = text_verdict (map string_bytes words)
