-- The commands that take the words: each is one simple command of `clap`.
use Rattle.std.specs.Prelude.{ℕ, List, Some, codes}
use Rattle.clap.specs.Walk.{Rule}
use Rattle.clap.specs.Simple.{App, new_app, new_rule, with_rule}
use Rattle.clap.specs.declared.builder.action.ArgAction.TheVariants.{SetTrue, Append}

-- `--name`, and its letter
abbrev pub flag : (name : List ℕ) → (letter : ℕ) → Rule
flag name letter = record (new_rule name) { long = Some name; short = Some letter; action = Some SetTrue }

-- `--name N`
abbrev pub number : (name : List ℕ) → Rule
number name = record (new_rule name) { long = Some name; value_names = 1 }

-- any number of words that are no options
abbrev pub names : Rule
names = record (new_rule (codes "names")) { value_names = 1; action = Some Append }

-- the letters are p, r and l
abbrev pub with_printing_flags : App → App
with_printing_flags a =
    with_rule (with_rule (with_rule a (flag (codes "no-params") 112))
    (flag (codes "no-return-type") 114))
    (flag (codes "hide-literal-types") 108)

-- and t and w
abbrev pub with_flags : App → App
with_flags a =
    with_rule (with_rule (with_printing_flags a) (flag (codes "types") 116))
    (flag (codes "why") 119)

abbrev pub with_limits : App → App
with_limits a =
    with_rule (with_rule (with_rule a (number (codes "parse-limit")))
    (number (codes "print-limit")))
    (number (codes "max-output"))

abbrev pub with_numbers : App → App
with_numbers a = with_rule (with_limits a) (number (codes "sample"))

abbrev pub command : App
command = with_rule (with_numbers (with_flags (new_app (codes "cppfilt")))) names

-- the command of the filter of texts: no word but an option
abbrev pub text_command : App
text_command = with_limits (with_printing_flags (new_app (codes "cppfilt_text")))
