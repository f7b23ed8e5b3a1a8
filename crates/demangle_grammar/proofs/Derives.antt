-- The grammar with no order of alternatives, no level and no trial: what a rule leads to from a state and the parts so far.
use Rattle.std.specs.Prelude.{◌≡◌, ℕ, ◌≤◌, Bool, [], length, take, drop}
use Rattle.demangle_core.specs.Core.{end}
use Rattle.demangle_grammar.specs.Rule.{Row, Make, Leaf, Rule}
use Rattle.demangle_grammar.specs.Tree.{Tree, How, nil}
use Rattle.demangle_grammar.specs.Rows.{rule}
use Rattle.demangle_grammar.specs.Reading.{State, Yes, stepped, ahead_by, widened}
use Rattle.demangle_text.specs.Number.{natural_at}
use Rattle.demangle_text.specs.Found.{took}

-- the next n bytes alone
abbrev pub narrowed : ℕ → State → State
narrowed n s = record { at = s.at; rest = take n s.rest; entries = s.entries }

abbrev pub digits_of : ℕ → State → Tree
digits_of n s = Tree.leaf (take n s.rest) end

pub data Derives : Rule → State → Tree → State → Tree → Type 0 where
  nothing : {s : State} {a : Tree} → Derives Rule.done s a s a
  leaf : {l : Leaf} {k : Rule} {s m t : State} {a b c : Tree} → stepped l s a ≡ Yes m b → Derives k m b t c → Derives (Rule.leaf l k) s a t c
  call : {on : Bool} {r : Row} {k : Rule} {s m t : State} {a b c : Tree} → Derives (rule r) s nil m b → Derives k m (Tree.cat a b) t c → Derives (Rule.call on r k) s a t c
  last_turn : {r : Row} {k : Rule} {s m t : State} {a b c : Tree} → Derives (rule r) s a m b → length m.rest ≡ length s.rest → Derives k m b t c → Derives (Rule.loop r k) s a t c
  turn : {r : Row} {k : Rule} {s m t : State} {a b c : Tree} → Derives (rule r) s a m b → Derives (Rule.loop r k) m b t c → Derives (Rule.loop r k) s a t c
  no_more : {x k : Rule} {s t : State} {a c : Tree} → Derives k s a t c → Derives (Rule.star x k) s a t c
  one_more : {x k : Rule} {s m t : State} {a b c : Tree} → Derives x s a m b → Derives (Rule.star x k) m b t c → Derives (Rule.star x k) s a t c
  first : {x y k : Rule} {s m t : State} {a b c : Tree} → Derives x s a m b → Derives k m b t c → Derives (Rule.alt x y k) s a t c
  second : {x y k : Rule} {s m t : State} {a b c : Tree} → Derives y s a m b → Derives k m b t c → Derives (Rule.alt x y k) s a t c
  committed : {k : Rule} {s t : State} {a c : Tree} → Derives k s a t c → Derives (Rule.commit k) s a t c
  block : {x k : Rule} {s m t : State} {a b c : Tree} {n v : ℕ}
      → natural_at 10 s.rest ≡ took n v
      → v ≤ length (drop n s.rest)
      → Derives x (narrowed (v) (ahead_by n s)) nil m b
      → m.rest ≡ []
      → Derives k (widened (drop (v) (drop n s.rest)) m) (Tree.cat (Tree.cat a (digits_of n s)) b) t c
      → Derives (Rule.block x k) s a t c
  part : {h : Make} {x k : Rule} {s m t : State} {a b c : Tree} → Derives x s nil m b → Derives k m (Tree.cat a (Tree.over (How.shaped h) b)) t c → Derives (Rule.part h x k) s a t c
  no_trial : {r : Row} {k : Rule} {s t : State} {a c : Tree} → Derives k s a t c → Derives (Rule.trial r k) s a t c
