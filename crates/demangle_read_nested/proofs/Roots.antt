-- Trees that are one node or one word alone.
use Rattle.std.proofs.Common.{◌≡◌, refl, ℕ, Bool, true, false}
use Rattle.demangle_core.specs.Core.{Core, Tag, node, end, place, number, flag, chosen, ref, mark}
use Rattle.demangle_read_nested.specs.Shapes.{is_node, is_word}

pub record IsNode (p : Core) : Type 0 where
  pub tag : Tag
  pub inner : Core
  pub is : p ≡ node tag inner end

pub record IsWord (p : Core) : Type 0 where
  pub table : ℕ
  pub word : ℕ
  pub is : p ≡ chosen table word end

pub as_node : (p : Core) → is_node p ≡ true → IsNode p
as_node (node t c end) h = record { tag = t; inner = c; is = refl }
as_node (node t c (node u d n)) h = absurd (cc)
as_node (node t c (place i j n)) h = absurd (cc)
as_node (node t c (number v n)) h = absurd (cc)
as_node (node t c (flag b n)) h = absurd (cc)
as_node (node t c (chosen u k n)) h = absurd (cc)
as_node (node t c (ref w k n)) h = absurd (cc)
as_node (node t c (mark i n)) h = absurd (cc)
as_node end h = absurd (cc)
as_node (place i j n) h = absurd (cc)
as_node (number v n) h = absurd (cc)
as_node (flag b n) h = absurd (cc)
as_node (chosen u k n) h = absurd (cc)
as_node (ref w k n) h = absurd (cc)
as_node (mark i n) h = absurd (cc)

pub as_word : (p : Core) → is_word p ≡ true → IsWord p
as_word (chosen t k end) h = record { table = t; word = k; is = refl }
as_word (chosen t k (node u d n)) h = absurd (cc)
as_word (chosen t k (place i j n)) h = absurd (cc)
as_word (chosen t k (number v n)) h = absurd (cc)
as_word (chosen t k (flag b n)) h = absurd (cc)
as_word (chosen t k (chosen u l n)) h = absurd (cc)
as_word (chosen t k (ref w l n)) h = absurd (cc)
as_word (chosen t k (mark i n)) h = absurd (cc)
as_word end h = absurd (cc)
as_word (node t c n) h = absurd (cc)
as_word (place i j n) h = absurd (cc)
as_word (number v n) h = absurd (cc)
as_word (flag b n) h = absurd (cc)
as_word (ref w k n) h = absurd (cc)
as_word (mark i n) h = absurd (cc)
