-- Arguments that are read ahead: only where they end is told.
use Rattle.std.proofs.Common.{◌≡◌, refl, ap, sym, subst, ℕ, Bool, false, [], inl, inr, Result, Ok, Err, arith, codes}
use Rattle.std.specs.Prelude.{if◌then◌else◌}
use Rattle.demangle_text.specs.Kind.{Kind, Unread, Text, kind}
use Rattle.demangle_text.specs.Spot.{Spot}
use Rattle.demangle_text.specs.declared.error.Error.{Error}
use Rattle.demangle_core.specs.Core.{Core}
use Rattle.demangle_core.specs.Core as core
use Rattle.demangle_core.specs.Table.{Table}
use Rattle.demangle_grammar.specs.Rule.{Class, Row}
use Rattle.demangle_grammar.specs.Reading.{next_is}
use Rattle.demangle_grammar.specs.Code.{here, Reply, Found, Refused, Out, No, tried, cread}
use Rattle.demangle_cells.specs.Reads.{AnswersEnd, EndsRow, ended, spot_at}
use Rattle.demangle_cells.specs.View.{View, Holds, table}
use Rattle.demangle_cells.specs.declared.text.Text as text

-- it is told of the arena behind them alone, too
pub ends_here : (row : Row) (levels : ℕ) (conversion : Bool) (t : text.Text) (at : ℕ) (result : Result ℕ Error)
    (old new : View) → EndsRow row levels conversion t at result old new
    → EndsRow row levels conversion t at result new new
ends_here row levels conversion t at result old new h = λ F f. by F result (h F f)
  where
    reply : Table → Reply
    reply u = cread levels row conversion (here (spot_at t at) u) []

    by : (F : ℕ → Core) (r : Result ℕ Error) → AnswersEnd F t r old new (reply (table F old))
        → AnswersEnd F t r new new (reply (table F new))
    by F (Ok stop) e = (subst (λ u. ended (reply u) ≡ Found core.end (here (spot_at t stop) [])) (sym e.1) e.0, refl)
    by F (Err e) (inl m) = inl m
    by F (Err e) (inr d) = inr (subst (λ u. reply u ≡ Refused (kind e)) (sym d.1) d.0, refl)

abbrev spot_or : Spot → Reply → Spot
spot_or p (Found x h) = h.spot
spot_or p (Refused k) = p

spot_is : (m p : Spot) → Found core.end (here m []) ≡ Found core.end (here p []) → m ≡ p
spot_is m p e = ap (spot_or p) e

-- the trial looks at nothing else of them
pub tried_end : (x : Reply) (p : Spot) (f : Unit {0} → Out) → ended x ≡ Found core.end (here p [])
    → tried x f ≡ (if next_is (Class.these (codes "I")) p.left then No false (Unread Text) else f tt)
tried_end (Found t m) p f e =
    ap (λ q. if next_is (Class.these (codes "I")) q.left then No false (Unread Text) else f tt) (spot_is m.spot p e)
tried_end (Refused k) p f e = absurd (grind (arith, e))
