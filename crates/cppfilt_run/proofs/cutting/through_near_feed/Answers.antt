use Rattle.std.proofs.Common.{◌≡◌, ◌<◌, ◌≤◌, Bool, true, false, cond, ltb, eqb, not, List, ℕ, length, refl}
use Rattle.std.proofs.Common.{◌+◌, arith, rules, tests, Some, None, MatchOption}
use Rattle.std.specs.Option.{IsSomeAnd}
use Rattle.std.proofs.lemmas.Iterator.{YieldsList-from_slice}
use Rattle.std.proofs.lemmas.Iterator.Search.{position_from_yields_List}
use Rattle.std.proofs.lemmas.List.Sums.{prefix_len-le-length}
use Rattle.std.specs.Prelude.{Option}
use Rattle.cppfilt_lines.specs.Lines.{before_feed}
use Rattle.cppfilt_run.proofs.cutting.through_near_feed.Goals as goal

-- what a search for a line feed says
abbrev At : List ℕ → Option ℕ → Type 0
At xs o = MatchOption o (before_feed xs ≡ length xs) (λ at. (before_feed xs ≡ at) × (at < length xs))

found : (xs : List ℕ) (t : Bool) → ltb (before_feed xs) (length xs) ≡ t → At xs (cond t (Some (before_feed xs)) None)
found xs true e = (refl, search (rules, tests))
found xs false e =
    let le = prefix_len-le-length (λ b. not (eqb b 10)) xs in
    let ge : length xs ≤ before_feed xs = search (rules, tests) in
    omega arith

at_is : (xs : List ℕ) (o p : Option ℕ) → o ≡ p → At xs p → At xs o
at_is xs o p e h = rw e h

-- and what lies through it
abbrev Through : List ℕ → Option ℕ → Type 0
Through xs o = MatchOption o (before_feed xs ≡ length xs) (λ end. (before_feed xs + 1 ≡ end) × (end ≤ length xs))

through : {P : ℕ → ℕ → Type 0} (xs : List ℕ) (o p : Option ℕ) → At xs o
    → MatchOption o (p ≡ None) (λ at. IsSomeAnd p (P at)) → ((at end : ℕ) → P at end → end ≡ at + 1) → Through xs p
through xs None p h m next = rw m h
through xs (Some at) (Some end) h m next = let e = next at end m in (omega arith, omega arith)
through xs (Some at) None h m next = absurd m

pub returns : goal.returns
returns c =
    let xs = c.args.bytes.now in
    let e = position_from_yields_List (λ b. eqb b 10) _ _ _ c.position.ensures.ran (YieldsList-from_slice xs cc)
    (λ x b q k. search (rules, tests)) in
    let h = at_is xs c.position.result _ e (found xs (ltb (before_feed xs) (length xs)) refl) in
    through xs c.position.result c.map.result h c.map.ensures.cases (λ at end q. search rules)
