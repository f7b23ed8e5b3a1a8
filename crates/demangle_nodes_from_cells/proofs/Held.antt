-- What holds of an answer holds of what is inside of it.
use Rattle.std.proofs.Common.{◌≡◌, subst, Ok}
use Rattle.std.specs.Prelude.{Result, IfOk}
use Rattle.demangle_text.specs.declared.error.Error.{Error}

pub holds_of : {A : Type 0} (P : A → Type 0) (r : Result A Error) (x : A) → r ≡ Ok x → IfOk r P → P x
holds_of P r x e h = subst (λ r. IfOk r P) e h
