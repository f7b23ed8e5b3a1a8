-- ABI tags, one after the other.
use Rattle.std.proofs.Common.{◌≡◌, ℕ, suc, ◌<◌, Bool, true, false, List, [], ◌∷◌, ◌++◌, length, map, refl, ap, sym}
use Rattle.std.proofs.Common.{◌∙◌, subst, Result, Ok, Err}
use Rattle.demangle_core.specs.Core.{Core, Tag, node, end, trees}
use Rattle.demangle_core.specs.Table.{Table}
use Rattle.demangle_text.specs.Kind.{Kind, kind, ends}
use Rattle.demangle_text.specs.Spot.{Spot, spot}
use Rattle.demangle_text.specs.declared.index_str.IndexStr.{IndexStr}
use Rattle.demangle_text.specs.declared.error.Error.{Error}
use Rattle.demangle_leaf_nodes.specs.declared.leaves.AbiTag.{AbiTag}
use Rattle.demangle_leaf_nodes.specs.TreeLeaves.{tree_of_abi_tag, tag_of_abi_tag, parts_of_abi_tag}
use Rattle.demangle_grammar.specs.Rule.{Row}
use Rattle.demangle_grammar.specs.Rows.{rule}
use Rattle.demangle_grammar.specs.First.{takes_in, takes_row}
use Rattle.demangle_grammar.specs.Code.{joined, joined_to, Here, here, Reply, Found, Refused, Out, Yes, one_row}
use Rattle.demangle_grammar.specs.Code.{from_row, rows_of, all_of, rows_at, all_at, cread}
use Rattle.demangle_grammar.proofs.CodeLaws.{byte_taken}
use Rattle.demangle_leaf_rows.specs.Answers.{AnswersLeaf}
use Rattle.demangle_leaf_rows.specs.Hidden.{IsHidden}
use Rattle.demangle_leaf_rows.proofs.Turns.{goes_on, stops, breaks, map-more}

-- what the list reads from `now` on, behind these tags, it reads from `first` on
pub record TagsSoFar (levels : ℕ) (c : Bool) (first now : Spot) (xs : List AbiTag) : Type 0 where
  pub same : (table : Table)
      → rows_of (cread levels) c Row.abi_tag (here first table) []
      ≡ rows_of (cread levels) c Row.abi_tag (here now table) (map tree_of_abi_tag xs)

pub tag_takes : (levels : ℕ) (c : Bool) (s m : Here) (t : Core) → cread levels Row.abi_tag c s [] ≡ Found t m
    → length m.spot.left < length s.spot.left
unfolding takes_in rule
tag_takes levels c s m t e = byte_taken levels Row.abi_tag c s m [] t refl e

turn_takes : (levels : ℕ) (c : Bool) (s m : Here) (acc b : List Core)
    → one_row (cread levels) c Row.abi_tag s acc ≡ Yes m b → length m.spot.left < length s.spot.left
turn_takes levels c s m acc b = by (cread levels Row.abi_tag c s []) (λ q t e. tag_takes levels c s q t e)
  where
    by : (a : Reply) → ((q : Here) (t : Core) → a ≡ Found t q → length q.spot.left < length s.spot.left)
        → from_row a (λ q t. Yes q (acc ++ t ∷ [])) ≡ Yes m b
        → length m.spot.left < length s.spot.left
    by (Found t q) shorter e = let l : q ≡ m = cc in
        subst (λ n. length n.spot.left < length s.spot.left) l (shorter q t refl)
    by (Refused k) shorter e = absurd (cc)

joined-tags : (xs : List AbiTag) → joined (map tree_of_abi_tag xs) ≡ trees tag_of_abi_tag parts_of_abi_tag xs
joined-tags [] = refl
joined-tags (x ∷ xs) = rest x xs
  where
    rest : (x : AbiTag) (xs : List AbiTag)
        → joined_to (tree_of_abi_tag x) (map tree_of_abi_tag xs) ≡ trees tag_of_abi_tag parts_of_abi_tag (x ∷ xs)
    rest x [] = refl
    rest x (y ∷ ys) = ap (λ r. node (tag_of_abi_tag x) (parts_of_abi_tag x) r) (rest y ys)

pub tags_begin : (levels : ℕ) (c : Bool) (p : Spot) → TagsSoFar levels c p p []
tags_begin levels c p = record { same = λ table. refl }

pub tags_go_on : (levels : ℕ) (c : Bool) (p q r : Spot) (xs ys : List AbiTag) (x : AbiTag)
    → TagsSoFar levels c p q xs
    → ((table : Table) → cread levels Row.abi_tag c (here q table) [] ≡ Found (tree_of_abi_tag x) (here r table))
    → ys ≡ xs ++ x ∷ [] → TagsSoFar levels c p r ys
unfolding rows_of
tags_go_on levels c p q r xs ys x h read l =
    record {
      same = λ table.
          h.same table
          ∙ goes_on (one_row (cread levels) c Row.abi_tag) (turn_takes levels c) (here q table) (here r table)
          (map tree_of_abi_tag xs) (map tree_of_abi_tag xs ++ tree_of_abi_tag x ∷ []) (turned table)
          ∙ ap (λ b. all_of (one_row (cread levels) c Row.abi_tag) (here r table) b)
          (sym (map-more tree_of_abi_tag xs x) ∙ ap (map tree_of_abi_tag) (sym l));
    }
  where
    turned : (table : Table)
        → one_row (cread levels) c Row.abi_tag (here q table) (map tree_of_abi_tag xs)
        ≡ Yes (here r table) (map tree_of_abi_tag xs ++ tree_of_abi_tag x ∷ [])
    turned table = rw (read table) refl

pub tags_stop : (levels : ℕ) (c : Bool) (p q : Spot) (xs : List AbiTag) (k : Kind) → TagsSoFar levels c p q xs
    → ((table : Table) → cread levels Row.abi_tag c (here q table) [] ≡ Refused k) → ends k ≡ false
    → (table : Table)
    → cread (suc levels) Row.abi_tags c (here p table) []
    ≡ Found (node Tag.AbiTags (node Tag.Several (trees tag_of_abi_tag parts_of_abi_tag xs) end) end) (here q table)
unfolding cread rule rows_of rows_at all_at
tags_stop levels c p q xs k h read l table =
    let e : rows_of (cread levels) c Row.abi_tag (here q table) (map tree_of_abi_tag xs)
    ≡ Yes (here q table) (map tree_of_abi_tag xs) =
    stops (one_row (cread levels) c Row.abi_tag) (here q table) (map tree_of_abi_tag xs) (ends k) k
    (rw (read table) refl) l in
    rw (h.same table ∙ e, joined-tags xs) refl

pub tags_break : (levels : ℕ) (c : Bool) (p q : Spot) (xs : List AbiTag) (k : Kind) → TagsSoFar levels c p q xs
    → ((table : Table) → cread levels Row.abi_tag c (here q table) [] ≡ Refused k) → ends k ≡ true
    → (table : Table) → cread (suc levels) Row.abi_tags c (here p table) [] ≡ Refused k
unfolding cread rule rows_of rows_at all_at
tags_break levels c p q xs k h read l table =
    let e = breaks (one_row (cread levels) c Row.abi_tag) (here q table) (map tree_of_abi_tag xs) (ends k) k
    (rw (read table) refl) l in
    rw (h.same table ∙ e) refl

-- ---- the same, as the code knows what it read
pub tag_shortens : (levels : ℕ) (c : Bool) (rest after : IndexStr) (x : AbiTag) (a : Result (AbiTag × IndexStr) Error)
    → AnswersLeaf tree_of_abi_tag Row.abi_tag levels c rest a → a ≡ Ok (x, after)
    → length after.string.now < length rest.string.now
tag_shortens levels c rest after x a h e =
    let k = subst (λ z. AnswersLeaf tree_of_abi_tag Row.abi_tag levels c rest z) e h in
    tag_takes levels c (here (spot rest) []) (here (spot after) []) (tree_of_abi_tag x) (k [])

pub tags_end : (levels n : ℕ) (c b : Bool) (p : Spot) (rest : IndexStr) (xs : List AbiTag)
    (a : Result (AbiTag × IndexStr) Error) → TagsSoFar levels c p (spot rest) xs
    → AnswersLeaf tree_of_abi_tag Row.abi_tag levels c rest a → IsHidden a → (n ≡ suc levels) × (c ≡ b)
    → (table : Table)
    → cread n Row.abi_tags b (here p table) []
    ≡ Found (node Tag.AbiTags (node Tag.Several (trees tag_of_abi_tag parts_of_abi_tag xs) end) end)
    (here (spot rest) table)
tags_end levels n c b p rest xs (Ok x) h k hides l table = absurd hides
tags_end levels n c b p rest xs (Err e) h k hides l table =
    rw (l.0, ← l.1) (tags_stop levels c p (spot rest) xs (kind e) h k hides table)

pub tags_fail : (levels n : ℕ) (c b : Bool) (p : Spot) (rest : IndexStr) (xs : List AbiTag)
    (a : Result (AbiTag × IndexStr) Error) (e : Error) → TagsSoFar levels c p (spot rest) xs
    → AnswersLeaf tree_of_abi_tag Row.abi_tag levels c rest a → a ≡ Err e → ends (kind e) ≡ true
    → (n ≡ suc levels) × (c ≡ b)
    → (table : Table) → cread n Row.abi_tags b (here p table) [] ≡ Refused (kind e)
tags_fail levels n c b p rest xs a e h k is over l table =
    let read = subst (λ z. AnswersLeaf tree_of_abi_tag Row.abi_tag levels c rest z) is k in
    rw (l.0, ← l.1) (tags_break levels c p (spot rest) xs (kind e) h read over table)

pub ruleset tags = (tags_begin, tags_go_on, tag_shortens, tags_end, tags_fail)
