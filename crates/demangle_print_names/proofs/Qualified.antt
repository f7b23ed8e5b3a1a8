-- The qualifiers of a member function, which are printed where there are some and parameters are shown.
use Rattle.std.proofs.Common.{◌≡◌, ◌&&◌, true, false, ap, ◌∙◌}
use Rattle.demangle_core.specs.Core.{Core}
use Rattle.demangle_printing.specs.World.{parts}
use Rattle.demangle_printing.specs.State.{is_on, params}
use Rattle.demangle_printing.specs.Scope.{Scope}
use Rattle.demangle_printing.specs.Act.{Act, done, block}
use Rattle.demangle_printing.specs.Rules.{line_of}
use Rattle.std.specs.Prelude.{Some}
use Rattle.demangle_printing.specs.Parameters.{any_set}
use Rattle.demangle_meets.specs.Page.{Page}
use Rattle.demangle_meets.specs.Place.{Place, world_of}
use Rattle.demangle_meets.specs.Meets.{Prints, Remains}
use Rattle.demangle_meets.proofs.Acts.{meets_choose_off, meets_choose_on, meets_done}
use Rattle.demangle_meets.proofs.Parts.{meets_part}
use Rattle.demangle_print_unqualified.specs.Pieces.{qualifiers_act}

module _ (p : Place) (x : Core) (sc : Scope Core) (k : Act Core) where
  pub not_qualified : {a : Page} → any_set (world_of p.refers) (parts (world_of p.refers) x) ≡ false →
      Remains p a a (qualifiers_act (world_of p.refers) x sc k) k
  not_qualified {a} e =
      record {
        rest = λ b d. meets_choose_off
            (λ s. any_set (world_of p.refers) (parts (world_of p.refers) x) && is_on params s.flags)
            (block (line_of (world_of p.refers) (Some x) sc) done)
            (λ _. ap (λ v. v && a.flags.params) e) meets_done d;
      }

  pub not_shown : {a : Page} → any_set (world_of p.refers) (parts (world_of p.refers) x) ≡ true →
      a.flags.params ≡ false → Remains p a a (qualifiers_act (world_of p.refers) x sc k) k
  not_shown {a} e f =
      record {
        rest = λ b d. meets_choose_off
            (λ s. any_set (world_of p.refers) (parts (world_of p.refers) x) && is_on params s.flags)
            (block (line_of (world_of p.refers) (Some x) sc) done)
            (λ _. ap (λ v. v && a.flags.params) e ∙ f) meets_done d;
      }

  pub shown : {a b : Page} → any_set (world_of p.refers) (parts (world_of p.refers) x) ≡ true →
      a.flags.params ≡ true → Prints p a b x sc → Remains p a b (qualifiers_act (world_of p.refers) x sc k) k
  shown {a} {b} e f q =
      record {
        rest = λ c d. meets_choose_on
            (λ s. any_set (world_of p.refers) (parts (world_of p.refers) x) && is_on params s.flags) done
            (λ _. ap (λ v. v && a.flags.params) e ∙ f) (meets_part q meets_done) d;
      }
