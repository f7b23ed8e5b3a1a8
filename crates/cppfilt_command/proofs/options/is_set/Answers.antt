use Rattle.std.proofs.Common.{◌≡◌, ℕ, Bool, false, List, None, Some, rules}
use Rattle.std.specs.Borrow.{Bor}
use Rattle.std.specs.Option.{option_map, option_map_or}
use Rattle.std.specs.Prelude.{Option, MatchOption, codes}
use Rattle.std.specs.Str.{bytes_eq}
use Rattle.clap.specs.Matches.{found_of}
use Rattle.cppfilt_command.proofs.Rows.{set-by}
use Rattle.cppfilt_command.proofs.options.is_set.Goals as goal

-- whether a value is given and set, by the test on it
by-value : {P : Bor (List ℕ) → Type 0} (o : Option (Bor (List ℕ))) (r : Bool) → MatchOption o (r ≡ false) P
    → ((v : Bor (List ℕ)) → P v → r ≡ bytes_eq v.now (codes "true"))
    → r ≡ option_map_or (λ value. bytes_eq value (codes "true")) (option_map (λ s. s.now) o) false
by-value None r m says = m
by-value (Some v) r m says = says v m

pub returns : goal.returns
returns c =
    let o = c.get_str.result in
    rw (set-by (found_of c.args.matches.now) c.args.flag.now o c.get_str.ensures)
    (by-value o c.is_some_and.result c.is_some_and.ensures (λ v q. search rules))
