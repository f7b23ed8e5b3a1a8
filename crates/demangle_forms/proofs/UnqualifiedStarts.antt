-- The alternatives of a name without its scope before those with which the next bytes leave it are passed over.
use Rattle.std.specs.Prelude.{◌≤◌, ◌==◌, codes}
use Rattle.std.proofs.Common.{◌≡◌, refl, sym, ap, subst, ◌∙◌, ℕ, Bool, true, false, List, []}
use Rattle.demangle_text.specs.Spot.{Spot}
use Rattle.demangle_text.specs.Word.{starts}
use Rattle.demangle_grammar.specs.Rule.{Row}
use Rattle.demangle_grammar.specs.Rows.{rule}
use Rattle.demangle_grammar.specs.First.{takes_in, first_in, idle_in}
use Rattle.demangle_grammar.specs.Code.{at, Go, Here, taken_if, taken_word, cread}
use Rattle.demangle_grammar.specs.Parts.{alone}
use Rattle.demangle_forms.specs.NameForms.{behind_on_at, operator_name, unqualified_rest_at}
use Rattle.demangle_forms.specs.UnqualifiedForms.{unnamed_at, unqualified_alternatives}
use Rattle.demangle_forms.specs.Starts.{UnqualifiedStart, leaves_unqualified, unqualified_from, unqualified_names_at}
use Rattle.demangle_forms.specs.Starts.{source_names_at}
use Rattle.demangle_forms.proofs.Missed.{IsMissed, IsPassed, none_of, is_apart, end_or_one, apart_missed, no_start}
use Rattle.demangle_forms.proofs.Missed.{one_or_end, digit_or_one, row_passed, word_passed, passed_on}
use Rattle.demangle_forms.proofs.UnqualifiedLaws.{unqualified_rest_is}

-- ---- one alternative after the other
no_on : (p : Spot) → starts (codes "on") p.left ≡ false → behind_on_at p ≡ p
unfolding behind_on_at taken_word
no_on p e = ap (λ z. (taken_if z 2 p).1) e

module _ (go : Go) (c : Bool) (s : Here) where
  to_constructors : IsMissed (go Row.operator_name c s []) → starts (codes "on") s.spot.left ≡ false
      → unqualified_names_at go c s ≡ unqualified_rest_at go c s
  unfolding unqualified_names_at
  to_constructors o e =
      passed_on _ _ (subst (λ p. IsPassed (alone operator_name go c (at s p))) (sym (no_on s.spot e))
      (row_passed (go Row.operator_name c s []) _ o))

  to_sources : IsMissed (go Row.ctor_dtor_name c s []) → unqualified_rest_at go c s ≡ source_names_at go c s
  unfolding unqualified_alternatives source_names_at
  to_sources d =
      unqualified_rest_is go c s ∙ passed_on _ _ (row_passed (go Row.ctor_dtor_name c s []) _ d)

  to_unnamed : starts (codes "L") s.spot.left ≡ false → IsMissed (go Row.source_name c s [])
      → source_names_at go c s ≡ unnamed_at go c s
  unfolding source_names_at
  to_unnamed e n =
      passed_on _ _ (word_passed (codes "L") s.spot _ e)
      ∙ passed_on _ _ (row_passed (go Row.source_name c s []) _ n)

-- ---- what is passed over where levels enough are left
module _ (f : ℕ) (c : Bool) (s : Here) (l : 2 ≤ f) where
  gone : (r : Row) (xs : List ℕ) → is_apart r 2 xs ≡ true → end_or_one xs s.spot.left ≡ true
      → IsMissed (cread f r c s [])
  gone r xs a e = apart_missed r 2 xs f c s a l e

  from_constructors : (xs : List ℕ) → is_apart Row.operator_name 2 xs ≡ true → none_of (λ b. 111 == b) xs ≡ true
      → end_or_one xs s.spot.left ≡ true → unqualified_names_at (cread f) c s ≡ unqualified_rest_at (cread f) c s
  from_constructors xs a o e =
      to_constructors (cread f) c s (gone Row.operator_name xs a e) (no_start 111 (codes "n") xs s.spot.left o e)

-- ---- where the next bytes leave these alternatives, the name is what they answer
pub unqualified_starts : (x : UnqualifiedStart) (f : ℕ) (c : Bool) (s : Here) → 2 ≤ f
    → leaves_unqualified x s.spot.left ≡ true
    → unqualified_names_at (cread f) c s ≡ unqualified_from x (cread f) c s
unfolding rule takes_in first_in idle_in
unqualified_starts UnqualifiedStart.all f c s l e = refl
unqualified_starts UnqualifiedStart.constructors f c s l e =
    from_constructors f c s l (codes "CD") refl refl (one_or_end (codes "CD") s.spot.left e)
unqualified_starts UnqualifiedStart.sources f c s l e =
    let xs = codes "0123456789L" in
    let n = digit_or_one (codes "L") s.spot.left e in
    from_constructors f c s l xs refl refl n
    ∙ to_sources (cread f) c s (gone f c s l Row.ctor_dtor_name xs refl n)
unqualified_starts UnqualifiedStart.unnamed f c s l e =
    let xs = codes "USTGNZE_" in
    from_constructors f c s l xs refl refl e
    ∙ to_sources (cread f) c s (gone f c s l Row.ctor_dtor_name xs refl e)
    ∙ to_unnamed (cread f) c s (no_start 76 [] xs s.spot.left refl e) (gone f c s l Row.source_name xs refl e)
