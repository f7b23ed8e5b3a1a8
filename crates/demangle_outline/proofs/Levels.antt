-- More levels change nothing of a reading that isn't refused for its depth.
use Rattle.std.specs.Prelude.{◌≡◌, ◌≢◌, ℕ, suc, ◌-◌, ◌≤◌, ◌<◌, Bool, []}
use Rattle.std.proofs.Common.{ap, sym, subst, ◌∙◌, arith, ⊎_elim}
use Rattle.std.proofs.lemmas.Bool.{cases_lt}
use Rattle.demangle_text.specs.Kind as kind
use Rattle.demangle_grammar.specs.Rule.{Row}
use Rattle.demangle_grammar.specs.Tree.{trees, nil}
use Rattle.demangle_grammar.specs.Reading.{State, Deep, read_from, levels_of}
use Rattle.demangle_grammar.specs.Laws.{cored}
use Rattle.demangle_grammar.specs.Code.{Here, Refused, cread}
use Rattle.demangle_grammar.specs.Seen.{replied}
use Rattle.demangle_grammar.proofs.CodeLaws.{of_trees, state_of}
use Rattle.demangle_grammar.proofs.Limits.{is_limited, reads_all}

-- as deep as the row goes without a limit
enough : (levels : ℕ) (row : Row) (conv : Bool) (s : State) → read_from trees levels row conv s nil ≢ Deep → levels_of row conv s ≤ levels
enough levels row conv s h = ⊎_elim (λ l. absurd (h (deep l))) (λ l. l) (cases_lt levels (levels_of row conv s))
  where
    deep : levels < levels_of row conv s → read_from trees levels row conv s nil ≡ Deep
    deep l = subst (λ n. read_from trees n row conv s nil ≡ Deep) (let e : suc levels - 1 ≡ levels = omega arith in e) ((is_limited (suc levels) 0 row conv s (omega arith)).0.1 (omega (arith, l)))

pub more_levels : (levels more : ℕ) (row : Row) (conv : Bool) (s : Here) → levels ≤ more → cread levels row conv s [] ≢ Refused kind.Deep → cread more row conv s [] ≡ cread levels row conv s []
more_levels levels more row conv s l h =
    let m : State = state_of s in
    let e = enough levels row conv m (λ d. h (sym (of_trees levels row conv s []) ∙ ap (λ x. replied (cored x)) d)) in
    sym (of_trees more row conv s [])
    ∙ ap (λ x. replied (cored x)) (reads_all row conv m more (omega (arith, e, l)) ∙ sym (reads_all row conv m levels e))
    ∙ of_trees levels row conv s []
