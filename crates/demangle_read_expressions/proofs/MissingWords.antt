-- A word that is missing doesn't end the whole reading.
use Rattle.std.specs.Prelude.{if◌then◌else◌}
use Rattle.std.proofs.Common.{◌≡◌, refl, ℕ, Bool, true, false, List, length, Ok, Err}
use Rattle.demangle_text.specs.Kind.{Kind, Unread, ends}
use Rattle.demangle_text.specs.Spot.{Spot, skip}
use Rattle.demangle_text.specs.Word.{starts, missing_word, word_at}

pub word_missing : (w : List ℕ) (p : Spot) (k : Kind) → word_at w p ≡ Err k → ends k ≡ false
unfolding word_at
word_missing w p k h = by (starts w p.left) h
  where
    by : (z : Bool) → (if z then Ok (skip (length w) p) else Err (Unread (missing_word w p.left))) ≡ Err k
        → ends k ≡ false
    by true h = absurd (cc)
    by false h = let e : k ≡ Unread (missing_word w p.left) = cc in rw e refl
