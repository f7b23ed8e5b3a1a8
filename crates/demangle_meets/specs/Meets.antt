-- The word of printing functions: from one page to another an act was done.
use Rattle.std.specs.Prelude.{ℕ, List, Bool, Some}
use Rattle.demangle_core.specs.Core.{Core}
use Rattle.demangle_printing.specs.State.{Held, State, Answer, is_own}
use Rattle.demangle_printing.specs.Scope.{Scope}
use Rattle.demangle_printing.specs.Act.{Job, line, Act, done, act, owned, sifted}
use Rattle.demangle_printing.specs.Rules.{line_of, inside_of, inner_of, lines_after, members_after, turns, rvalues}
use Rattle.demangle_printing.specs.Arrays.{array_turns}
use Rattle.demangle_printing.specs.Print.{body, print}
use Rattle.demangle_printing.specs.Laws.{Does, OwnDoes, SiftsAll, BeginsFitting}
use Rattle.demangle_meets.specs.Page.{Page, at}
use Rattle.demangle_meets.specs.Goes.{Goes}
use Rattle.demangle_meets.specs.Place.{Place, world_of}
use Rattle.demangle_meets.specs.Calls.{Keeps}

-- What is done one level deeper.
abbrev pub deeper : Place → Job Core → Scope Core → State Core → Answer Core
deeper p = print (world_of p.refers) p.left

-- So it begins where all levels fit.
abbrev pub fitting : Place → List (Held Core) → Job Core → Scope Core → State Core → Type 0
fitting p = BeginsFitting (world_of p.refers) p.left

-- Wherever the act puts an item on a stack, its level is above those of all items.
abbrev pub Ready : Place → Act Core → List (Held Core) → State Core → Type 0
Ready p f = Does (deeper p) (fitting p) f

-- From a to b the act was done at a place.
pub record Meets (p : Place) (a b : Page) (f : Act Core) : Type 0 where
  pub goes : Goes p a b (act (deeper p) f) (Ready p f a.aside (at p.level a))
  pub same : Keeps a b

-- The line of a part: of what an optional part holds, of what a handle holds or refers to, of what a component holds.
pub record Prints (p : Place) (a b : Page) (x : Core) (sc : Scope Core) : Type 0 where
  pub meets : Meets p a b (line_of (world_of p.refers) (Some x) sc)

-- What of an item stands behind.
pub record Inner (p : Place) (a b : Page) (x : Core) (sc : Scope Core) : Type 0 where
  pub meets : Meets p a b (inner_of (world_of p.refers) x sc done)

-- The line of a node, its level entered.
pub record Line (p : Place) (a b : Page) (x : Core) (sc : Scope Core) : Type 0 where
  pub meets : Meets p a b (body (world_of p.refers) (line x) sc)

-- What of an item stands behind, its level entered.
pub record Inside (p : Place) (a b : Page) (x : Core) (sc : Scope Core) : Type 0 where
  pub meets : Meets p a b (body (world_of p.refers) (inside_of (world_of p.refers) sc x).0
      (inside_of (world_of p.refers) sc x).1)

-- Where the item that was pushed at this level is on top, it is popped, and its own act done.
pub record Closes (p : Place) (a b : Page) (own : Act Core) : Type 0 where
  pub goes : Goes p a b (λ t. owned (deeper p) (is_own t) (act (deeper p) own) t)
      (OwnDoes (deeper p) (fitting p) (is_own (at p.level a)) (Ready p own a.aside) (at p.level a))
  pub same : Keeps a b

-- At most so many items are done or kept, from the top.
pub record Sifts (p : Place) (a b : Page) (is_kept : Core → Bool) (doing : Core → Job Core × Scope Core) (n : ℕ)
    : Type 0 where
  pub goes : Goes p a b (sifted (deeper p) is_kept doing n)
      (SiftsAll (deeper p) (fitting p) is_kept doing a.aside n (at p.level a))
  pub same : Keeps a b

-- Of an act that began at a, what is left to do at c is another act.
pub record Remains (p : Place) (a c : Page) (whole left : Act Core) : Type 0 where
  pub rest : (b : Page) → Meets p c b left → Meets p a b whole

-- The same of items that are sifted.
pub record RemainsToSift (p : Place) (a c : Page) (is_kept : Core → Bool) (doing : Core → Job Core × Scope Core)
    (whole left : ℕ) : Type 0 where
  pub rest : (b : Page) → Sifts p c b is_kept doing left → Sifts p a b is_kept doing whole

-- What remains is the rest of a list, behind its first; of template arguments, from this one on.
pub record ListRemains (p : Place) (a c : Page) (whole : Act Core) (xs : List Core) (sc : Scope Core) : Type 0 where
  pub remains : Remains p a c whole (lines_after (world_of p.refers) xs sc)

pub record MembersRemain (p : Place) (a c : Page) (whole : Act Core) (n list : ℕ) (xs : List Core) (sc : Scope Core)
    : Type 0 where
  pub remains : Remains p a c whole (members_after (world_of p.refers) n list xs sc)

-- What remains is at most so many items: each done; each right reference taken; each before the bounds of an array.
pub record TurnsRemain (p : Place) (a c : Page) (whole : Act Core) (n : ℕ) (sc : Scope Core) : Type 0 where
  pub remains : Remains p a c whole (turns (world_of p.refers) n sc)

pub record RvaluesRemain (p : Place) (a c : Page) (whole : Act Core) (n : ℕ) : Type 0 where
  pub remains : Remains p a c whole (rvalues (world_of p.refers) n)

pub record ArraysRemain (p : Place) (a c : Page) (whole : Act Core) (n : ℕ) (spaced : Bool) (sc : Scope Core)
    : Type 0 where
  pub remains : Remains p a c whole (array_turns (world_of p.refers) n sc spaced)
