-- What the getters of the matches read, by their rows.
use Rattle.std.proofs.Common.{◌≡◌, ◌∙◌, ap, sym, ℕ, true, false, List, [], Option, map}
use Rattle.std.specs.Borrow.{Bor}
use Rattle.std.specs.Option.{option_map, option_map_or}
use Rattle.std.specs.Prelude.{codes, is_some, option_and_then, unwrap_or}
use Rattle.std.specs.Str.{bytes_eq}
use Rattle.clap.specs.Matches.{first_value, matched_of, raw_values}
use Rattle.clap.specs.Walk.{all_of, first_of, rows_of}
use Rattle.clap.specs.declared.parser.matches.Found.{Found}
use Rattle.clap.proofs.WalkLemmas.{first_value-rows, raw_values-rows}
use Rattle.cppfilt_command.specs.Asked.{is_good, is_set, number_in, number_upto}

abbrev Text : Type 0
Text = List ℕ

-- the first value of an option
abbrev Reads : Found → Text → Option (Bor Text) → Type 0
Reads f id o = option_map (λ s. s.now) o ≡ first_value f id

first-row : (f : Found) (id : Text) (o : Option (Bor Text)) → Reads f id o
    → first_of id (rows_of f) ≡ option_map (λ s. s.now) o
first-row f id o e = sym (e ∙ first_value-rows f id)

pub set-by : (f : Found) (id : Text) (o : Option (Bor Text)) → option_map (λ s. s.now) o ≡ first_value f id
    → is_set id (rows_of f) ≡ option_map_or (λ value. bytes_eq value (codes "true")) (option_map (λ s. s.now) o) false
set-by f id o e = ap (λ x. option_map_or (λ value. bytes_eq value (codes "true")) x false) (first-row f id o e)

pub good-by : (most : ℕ) (f : Found) (id : Text) (o : Option (Bor Text)) → option_map (λ s. s.now) o ≡ first_value f id
    → is_good most id (rows_of f)
    ≡ option_map_or (λ text. is_some (number_upto most text)) (option_map (λ s. s.now) o) true
good-by most f id o e = ap (λ x. option_map_or (λ text. is_some (number_upto most text)) x true) (first-row f id o e)

pub number-by : (most : ℕ) (f : Found) (id : Text) (o : Option (Bor Text))
    → option_map (λ s. s.now) o ≡ first_value f id
    → number_in most id (rows_of f) ≡ option_and_then (number_upto most) (option_map (λ s. s.now) o)
number-by most f id o e = ap (option_and_then (number_upto most)) (first-row f id o e)

-- all values of an option
pub all-by : (f : Found) (id : Text) (o : Option (Bor (List (Bor Text))))
    → option_map (λ s. map (λ v. v.now) s.now) o ≡ option_map raw_values (matched_of f id)
    → unwrap_or (all_of id (rows_of f)) [] ≡ unwrap_or (option_map (λ s. map (λ v. v.now) s.now) o) []
all-by f id o e = ap (λ x. unwrap_or x []) (sym (e ∙ raw_values-rows f id))
