use Rattle.std.proofs.Common.{eqb, bytes_eq}
use Rattle.std.proofs.lemmas.Bool.Decides.{Decides-and, Decides-eqb}
use Rattle.std.proofs.lemmas.Slice.Eq.{bytes_eq-Decides}
use Rattle.demangle_text.proofs.laws.equal_is_same.Goals as goal

pub returns : goal.returns
returns c = λ p q. Decides-and (eqb p.index q.index) (bytes_eq p.left q.left) (Decides-eqb p.index q.index) (bytes_eq-Decides p.left q.left)
