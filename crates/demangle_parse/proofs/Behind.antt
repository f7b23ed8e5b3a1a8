-- Bytes behind others.
use Rattle.std.proofs.Common.{◌≡◌, ap, ◌∙◌, ℕ, ◌+◌, List, ◌++◌, drop, length}
use Rattle.std.proofs.lemmas.List.{drop_at}
use Rattle.std.proofs.Common.{length-append}

pub behind_pad : (pad left bytes : List ℕ) (n : ℕ) → length pad ≡ n → bytes ≡ pad ++ left → drop n bytes ≡ left
behind_pad pad left bytes n l e = ap (drop n) e ∙ drop_at pad left n l

pub ruleset padding = (behind_pad, length-append)
