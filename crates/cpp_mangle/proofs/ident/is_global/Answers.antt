use Rattle.std.proofs.Common.{◌≡◌, refl, ap, ℕ, List, [], ◌∷◌, ◌&&◌, codes, ◌∙◌}
use Rattle.std.specs.Prelude.{◌==◌, nat_eq}
use Rattle.std.specs.List.{starts_with}
use Rattle.demangle_text.specs.Word.{starts}
use Rattle.cpp_mangle.proofs.ident.is_global.Goals as goal

starts_is : (ws bs : List ℕ) → starts_with nat_eq bs ws ≡ starts ws bs
starts_is [] bs = refl
starts_is (w ∷ ws) [] = refl
starts_is (w ∷ ws) (b ∷ bs) = ap (λ z. (w == b) && z) (starts_is ws bs)

pub returns : goal.returns
returns c = c.starts_with.ensures.value ∙ starts_is (codes "_GLOBAL_") c.args.bytes.now
