-- Where no word is a prefix of another one, each word of a table is found where it stands at the front.
use Rattle.std.proofs.Common.{◌≡◌, ℕ, suc, ◌+◌, List, [], ◌∷◌, ◌++◌, length, refl, sym, ap, ◌∙◌, subst, arith, zero-add, true, false, ◌||◌, Some}
use Rattle.demangle_text.specs.Word.{starts}
use Rattle.demangle_vocab.specs.WordTable.{word_in, word_or, no_word, is_apart, is_prefix_free}
use Rattle.demangle_vocab.specs.Order.{ReadsEachWord}

-- of two words at the front one is a prefix of the other
starts-both : (v w bs : List ℕ) → starts v bs ≡ true → starts w bs ≡ true → (starts v w || starts w v) ≡ true
starts-both [] w bs f g = refl
starts-both (x ∷ v) [] bs f g = grind arith
starts-both (x ∷ v) (y ∷ w) [] f g = cc
starts-both (x ∷ v) (y ∷ w) (b ∷ bs) f g = grind (arith, starts-both v w bs, f, g)

-- a word before another one isn't at the front
apart-misses : (v w bs : List ℕ) (before behind : List (List ℕ)) → is_apart v (before ++ w ∷ behind) ≡ true → starts w bs ≡ true → starts v bs ≡ false
apart-misses v w bs [] behind h g = grind (arith, starts-both v w bs, h, g)
apart-misses v w bs (u ∷ us) behind h g = apart-misses v w bs us behind (grind (arith, h)) g

word_in-each : (k : ℕ) (before behind : List (List ℕ)) (w bs : List ℕ) → is_prefix_free (before ++ w ∷ behind) ≡ true → starts w bs ≡ true → word_in k (before ++ w ∷ behind) bs ≡ Some (k + length before, length w)
word_in-each k [] behind w bs h g = grind (arith, g)
word_in-each k (v ∷ vs) behind w bs h g =
    grind (arith, apart-misses v w bs vs behind (grind (arith, h)) g, word_in-each (suc k) vs behind w bs (grind (arith, h)) g)

pub reads_each : (ws : List (List ℕ)) → is_prefix_free ws ≡ true → ReadsEachWord ws
reads_each ws h before behind w bs e g = ap (λ x. word_or x (no_word ws bs)) (found ∙ ap (λ n. Some (n, length w)) (zero-add (length before)))
  where
    found : word_in 0 ws bs ≡ Some (0 + length before, length w)
    found = subst (λ us. word_in 0 us bs ≡ Some (0 + length before, length w)) (sym e) (word_in-each 0 before behind w bs (subst (λ us. is_prefix_free us ≡ true) e h) g)
