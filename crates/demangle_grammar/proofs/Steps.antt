-- A leaf and what comes after it.
use Rattle.std.specs.Prelude.{◌≡◌, Bool, true, false, length, take, nat_lt}
use Rattle.std.proofs.Common.{refl}
use Rattle.demangle_core.specs.Table.{count}
use Rattle.demangle_core.specs.Core.{end, N, Core}
use Rattle.demangle_grammar.specs.Rule.{Leaf}
use Rattle.demangle_grammar.specs.Tree.{trees, Tree, How, core, component_of}
use Rattle.demangle_grammar.specs.Reading.{State, Answer, Yes, step, stepped, found, where_so, next_do, answer, go_on, find, holds, refusal, prefix_entry, is_nestable, ahead_by}
use Rattle.demangle_text.specs.Word.{starts, missing_word}
use Rattle.demangle_text.specs.Kind.{Cause, Text, Bad}
use Rattle.demangle_text.specs.Found.{Found, took, none}

module _ {M : Type 0} (ret : Answer Tree → M) (bind : M → (Answer Tree → M) → M) (go : State → Tree → M) where
  so_then : (b : Bool) (k : Cause) (t : State) (x : Tree) → where_so trees ret bind b k (λ u. go t x) ≡ next_do trees ret bind go (where_so trees answer go_on b k (λ u. Yes t x))
  so_then true k t x = refl
  so_then false k t x = refl

  found_then : (s : State) (a : Tree) (f : Found Core)
      → found trees ret bind f (λ n v. go (ahead_by n s) (Tree.cat a (Tree.leaf (take n s.rest) v))) ≡ next_do trees ret bind go (found trees answer go_on f (λ n v. Yes (ahead_by n s) (Tree.cat a (Tree.leaf (take n s.rest) v))))
  found_then s a (took n v) = refl
  found_then s a (none k) = refl

  pub step_then : (l : Leaf) (s : State) (a : Tree) → step trees ret bind l s a go ≡ next_do trees ret bind go (stepped l s a)
  step_then (Leaf.word w) s a = so_then (starts w s.rest) (missing_word w s.rest) (ahead_by (length w) s) (Tree.cat a (Tree.leaf w end))
  step_then (Leaf.eat x) s a = found_then s a (find x s.at s.rest)
  step_then (Leaf.check c) s a = so_then (holds c s.rest (core a)) (refusal c) s a
  step_then (Leaf.make m) s a = refl
  step_then (Leaf.mark m) s a = refl
  step_then Leaf.refer s a = let k = component_of (core a) in so_then (nat_lt k (count N s.entries)) Bad s (Tree.over (How.refers k) a)
  step_then Leaf.take_over s a = let x = prefix_entry (core a) s.entries in so_then (is_nestable x) Text s (Tree.over (How.taken x) a)
  step_then Leaf.no_prefix s a = refl
  step_then Leaf.mark_first s a = refl
