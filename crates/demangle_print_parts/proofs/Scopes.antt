-- What look-ups in a scope answer, and what is printed for it.
use Rattle.std.proofs.Common.{◌≡◌, ℕ, [], Option, Some, None, Ok, Err, option_map, refl, ap, subst}
use Rattle.demangle_core.specs.Core.{Core}
use Rattle.demangle_printing.specs.State.{Fault, no}
use Rattle.demangle_printing.specs.Scope.{Scope, scope_argument}
use Rattle.demangle_printing.specs.Reader.{argument_act}
use Rattle.demangle_meets.specs.Page.{Page}
use Rattle.demangle_meets.specs.Place.{Place, world_of}
use Rattle.demangle_meets.specs.Calls.{Steps}
use Rattle.demangle_meets.specs.Meets.{Meets, Prints}
use Rattle.demangle_meets.proofs.Acts.{meets_fail}
use Rattle.demangle_print_parts.specs.Arguments.{argument_of}

abbrev of_some : {A : Type 0} → A → Option A → A
of_some d None = d
of_some d (Some x) = x

pub argument_found : {p : Place} {a b : Page} (sc : Scope Core) (k : ℕ) (x : Core) →
    Some (Ok x) ≡ Some (scope_argument (world_of p.refers) sc k) → Prints p a b x sc →
    Meets p a b (argument_of (world_of p.refers) sc k)
argument_found {p} {a} {b} sc k x e d =
    subst (λ y. Meets p a b (argument_act (world_of p.refers) y sc)) (ap (of_some (Ok x)) e) d.meets

pub argument_missing : {p : Place} {a b : Page} (sc : Scope Core) (k : ℕ) (o : Option Fault) →
    option_map Err o ≡ Some (scope_argument (world_of p.refers) sc k) →
    ((f : Fault) → o ≡ Some f → Steps a b (λ s. no [] f)) → Meets p a b (argument_of (world_of p.refers) sc k)
argument_missing {p} {a} {b} sc k None e d =
    absurd (let h : None ≡ Some (scope_argument (world_of p.refers) sc k) = e in cc)
argument_missing {p} {a} {b} sc k (Some f) e d =
    subst (λ y. Meets p a b (argument_act (world_of p.refers) y sc)) (ap (of_some (Err f)) e) (meets_fail (d f refl))
