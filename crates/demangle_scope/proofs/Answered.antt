-- What an answer of a look-up in a scope says of its definition, in each of its arms.
use Rattle.std.proofs.Common.{◌≡◌, Option, Some, None, refl}
use Rattle.std.specs.Prelude.{Result, Ok, Err, option_map}
use Rattle.demangle_core.specs.Core.{Core}
use Rattle.demangle_text.specs.declared.error.Error.{Error}
use Rattle.demangle_printing.specs.State.{Fault}
use Rattle.demangle_context.specs.Errors.{reference_fault}
use Rattle.demangle_scope.specs.ScopeOf.{answered}

pub found_is : {A : Type 0} (tree : A → Core) (x : A) (r : Result Core Fault) → answered tree (Ok x) ≡ Some r →
    Ok (tree x) ≡ r
found_is tree x r h = let e : Some (Ok (tree x)) ≡ Some r = h in cc

-- The definition has this fault.
pub record Refused (e : Error) (r : Result Core Fault) : Type 0 where
  pub fault : Fault
  pub named : reference_fault e ≡ Some fault
  pub is : Err fault ≡ r

pub refused_is : {A : Type 0} (tree : A → Core) (e : Error) (r : Result Core Fault) → answered tree (Err e) ≡ Some r →
    Refused e r
refused_is tree e r h = by (reference_fault e) refl h
  where
    by : (o : Option Fault) → reference_fault e ≡ o → option_map Err o ≡ Some r → Refused e r
    by None k i = absurd (cc i)
    by (Some f) k i =
        let same : Some (Err f) ≡ Some r = i in
        let is : Err f ≡ r = cc in
        record { fault = f; named = k; is = is }
