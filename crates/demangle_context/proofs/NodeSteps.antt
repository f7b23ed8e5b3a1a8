-- Nodes as steps from page to page.
use Rattle.std.proofs.Common.{◌≡◌, Bool, true, false, [], ◌∷◌, None, arith, refl, sym, subst}
use Rattle.demangle_core.specs.Table.{Table}
use Rattle.demangle_printing.specs.State.{closed}
use Rattle.demangle_meets.specs.Seen.{ends}
use Rattle.demangle_meets.specs.Calls.{Ends}
use Rattle.demangle_meets.proofs.Goes.{no_trouble as never}
use Rattle.demangle_meets.proofs.Steps.{goes_on}
use Rattle.demangle_context.specs.View.{View}
use Rattle.demangle_context.specs.Calls.{Announces}
use Rattle.demangle_context.specs.PageOf.{page_of}
use Rattle.demangle_context.proofs.Heard.{told_ends}

module _ {S : Type 0} (table : S → Table) where
  -- the listener was told that a node ended which it was told of, or where there was no trouble
  pub ends_node : (a b : View S) (was_told : Bool) → (was_told ≡ false → a.trouble ≡ None) → Announces a b ends →
      Ends was_told (page_of table a) (page_of table b)
  ends_node a b true quiet h =
      subst (λ z. Ends true (page_of table a) (page_of table z)) (sym h.others) (record {
        at_place = λ p n. goes_on (closed ∷ []) n n refl (told_ends h.heard) refl
            (record { faults = h.heard.faults; refusals = h.heard.refusals; fixed = refl });
        no_trouble = λ n. n;
        aside = λ _. refl;
        trouble = refl;
        fixed = refl;
        counts = (h.heard.faults, h.heard.refusals);
        ended = 1;
        most = omega (arith);
        told = λ t e. told_ends h.heard;
      })
  ends_node a b false quiet h =
      subst (λ z. Ends false (page_of table a) (page_of table z)) (sym h.others) (record {
        at_place = λ p n. goes_on (closed ∷ []) n n refl (told_ends h.heard) refl
            (record { faults = h.heard.faults; refusals = h.heard.refusals; fixed = refl });
        no_trouble = λ n. n;
        aside = λ _. refl;
        trouble = refl;
        fixed = refl;
        counts = (h.heard.faults, h.heard.refusals);
        ended = 0;
        most = omega (arith);
        told = λ t e. never t a.trouble (quiet refl) e;
      })
