-- What the calls of a context do, each one step.
use Rattle.std.specs.Prelude.{◌≡◌, ℕ, zero, ◌≤◌, Bool, true, false, List, [], ◌∷◌, ◌++◌, length, Some, None}
use Rattle.demangle_core.specs.Core.{Core}
use Rattle.demangle_printing.specs.State.{Kind, opened, closed, TooMuchRecursion, Held, State, Answer, yes, no, pushed}
use Rattle.demangle_printing.specs.State.{popped, is_own}
use Rattle.demangle_printing.specs.Act.{keeping, returned}
use Rattle.demangle_printing.specs.Laws.{IsReady}
use Rattle.demangle_meets.specs.Seen.{Told}
use Rattle.demangle_meets.specs.Page.{Page, Trouble, at}
use Rattle.demangle_meets.specs.Place.{Place, IsDeeper}
use Rattle.demangle_meets.specs.Goes.{Goes, ends}

-- The items that are set aside are as before.
pub record Keeps (a b : Page) : Type 0 where
  pub is : a.trouble ≡ None → b.trouble ≡ None → b.aside ≡ a.aside

-- A step that depends on no place and takes no room: a text, a space, a fault, a flag, a name.
pub record Steps (a b : Page) (go : State Core → Answer Core) : Type 0 where
  pub at_place : (p : Place) → Goes p a b go (Unit {0})
  pub same : Keeps a b

-- A level is entered.
pub record Enters (p q : Place) (a b : Page) : Type 0 where
  pub deeper : IsDeeper p q
  pub step : Steps a b (λ s. yes [] s)

-- None is, since none is left, or since printing has stopped.
pub record Stops (p : Place) (a b : Page) : Type 0 where
  pub left : a.trouble ≡ None → p.left ≡ zero
  pub step : Steps a b (λ s. no [] TooMuchRecursion)

-- An item is pushed at a level.
pub record Pushes (l : ℕ) (a b : Page) (x : Core) : Type 0 where
  pub at_place : (p : Place) → p.level ≡ l → Goes p a b (λ s. yes [] (pushed x s)) (IsReady a.aside (at p.level a))
  pub same : Keeps a b

-- Whether the top item was pushed at this level: if so it is popped.
abbrev pub PopsOwn : ℕ → Page → Page → Bool → Type 0
PopsOwn l a b true = (a.trouble ≡ None → is_own (at l a) ≡ true) × Steps a b (λ s. yes [] (popped s))
PopsOwn l a b false = (a.trouble ≡ None → is_own (at l a) ≡ false) × Steps a b (λ s. yes [] s)

-- The top item is popped, and which it was.
pub record TakesTop (a b : Page) (x : Core) : Type 0 where
  pub held : Held Core
  pub others : List (Held Core)
  pub top : a.trouble ≡ None → a.inner ≡ held ∷ others
  pub is : held.item ≡ x
  pub step : Steps a b (λ s. yes [] (popped s))

-- There is no item.
pub record TakesNone (a b : Page) : Type 0 where
  pub none : a.trouble ≡ None → a.inner ≡ []
  pub step : Steps a b (λ s. yes [] s)

-- The top item is kept.
pub record KeepsTop (a b : Page) (h : Held Core) : Type 0 where
  pub at_place : (p : Place) → Goes p a b (λ s. yes [] (keeping h s)) (IsReady a.aside (at p.level a))
  pub same : Keeps a b

-- The items that were kept since there were so many are items again.
pub record Returns (count : ℕ) (a b : Page) : Type 0 where
  pub at_place : (p : Place) → Goes p a b (λ s. yes [] (returned count s))
      (IsReady a.aside (returned count (at p.level a)))
  pub same : Keeps a b

-- The items are set aside; so many were so before.
pub record SetsAside (a b : Page) (before : ℕ) : Type 0 where
  pub at_place : (p : Place) → Goes p a b (λ s. yes [] (record s { inner = [] })) (Unit {0})
  pub aside : a.trouble ≡ None → b.trouble ≡ None → b.aside ≡ a.inner ++ a.aside
  pub count : a.trouble ≡ None → before ≡ length a.aside

-- The items that were set aside behind so many are the items again.
pub record BringsBack (before : ℕ) (a b : Page) : Type 0 where
  pub at_place : (p : Place) (items others : List (Held Core)) → (a.trouble ≡ None → a.aside ≡ items ++ others) →
      (a.trouble ≡ None → before ≡ length others) →
      Goes p a b (λ s. yes [] (record s { inner = items })) (Unit {0})
  pub aside : (items others : List (Held Core)) → (a.trouble ≡ None → a.aside ≡ items ++ others) →
      (a.trouble ≡ None → before ≡ length others) →
      a.trouble ≡ None → b.trouble ≡ None → b.aside ≡ others

-- A node begins, and whether the listener was told so.
pub record Begins (a b : Page) (kind : Kind) (is_told : Bool) : Type 0 where
  pub step : Steps a b (λ s. yes (opened kind ∷ []) s)
  pub no_trouble : a.trouble ≡ None → b.trouble ≡ None
  pub silent : (t : Trouble) → a.trouble ≡ Some t → is_told ≡ false

-- at most one node that was told of
abbrev pub most_ended : Bool → ℕ
most_ended true = 1
most_ended false = 0

-- The last node that began ends. After trouble the listener may be told so, where it was told that the node began.
pub record Ends (is_told : Bool) (a b : Page) : Type 0 where
  pub at_place : (p : Place) → a.trouble ≡ None → Goes p a b (λ s. yes (closed ∷ []) s) (Unit {0})
  pub no_trouble : a.trouble ≡ None → b.trouble ≡ None
  pub aside : a.trouble ≡ None → b.aside ≡ a.aside
  pub trouble : b.trouble ≡ a.trouble
  pub fixed : b.fixed ≡ a.fixed
  pub counts : (b.seen.faults ≡ a.seen.faults) × (b.seen.refusals ≡ a.seen.refusals)
  pub ended : ℕ
  pub most : ended ≤ most_ended is_told
  pub told : (t : Trouble) → a.trouble ≡ Some t → Told a.seen b.seen (ends ended)
