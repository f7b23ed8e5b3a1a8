-- Loops over the items that wait, each at most as many times as there were at the beginning.
use Rattle.std.proofs.Common.{◌≡◌, ℕ, ◌+◌, ◌-◌, ◌<◌, ◌≤◌, Bool, true, false, List, [], ◌∷◌, Some, None, sym}
use Rattle.std.proofs.Common.{◌∙◌, ap, subst, arith}
use Rattle.demangle_core.specs.Core.{Core}
use Rattle.demangle_printing.specs.State.{Held, yes, popped}
use Rattle.demangle_printing.specs.Scope.{Scope}
use Rattle.demangle_printing.specs.Act.{Job, Act, call, pop, done}
use Rattle.demangle_printing.specs.Rules.{inner_of, tag, turns}
use Rattle.demangle_printing.specs.Arrays.{Turn, array, elements, array_turn, array_turns, before_bounds, turn_node}
use Rattle.demangle_meets.specs.Page.{Page}
use Rattle.demangle_meets.specs.Place.{Place, world_of}
use Rattle.demangle_meets.specs.Calls.{KeepsTop, Steps, TakesTop}
use Rattle.demangle_meets.specs.Meets.{ArraysRemain, Inner, Meets, Remains, RemainsToSift, Sifts, TurnsRemain}
use Rattle.demangle_meets.proofs.Lines.{arrays_all, arrays_end, arrays_other, arrays_over, meets_rest, turn_taken}
use Rattle.demangle_meets.proofs.Lines.{turns_all, turns_over}
use Rattle.demangle_meets.proofs.Sifted.{remains_to_sift, sifts_none, sifts_over, then_done, then_kept}
use Rattle.demangle_context.specs.Items.{item_at}
use Rattle.demangle_lines.proofs.Counts.{all_left, none_left, one_left}
use Rattle.demangle_lines.proofs.Tops.{no_top, top_of}

-- ---- what of each item stands behind
pub turns_begin : {p : Place} {a : Page} {sc : Scope Core} (n : ℕ) →
    TurnsRemain p a a (turns (world_of p.refers) n sc) (n - 0) sc
turns_begin {p} {a} {sc} n =
    all_left (λ m. TurnsRemain p a a (turns (world_of p.refers) n sc) m sc) n (turns_all n)

pub turns_next : {p : Place} {a c d e : Page} {sc : Scope Core} {x : Core} {f : Act Core} (j n k : ℕ) → j ≡ n → k < j →
    TurnsRemain p a c f (n - k) sc → TakesTop c d x → Inner p d e x sc → TurnsRemain p a e f (n - (k + 1)) sc
turns_next {p} {a} {c} {sc = sc} {f = f} j n k e h w t i =
    turn_taken (one_left (λ m. TurnsRemain p a c f m sc) n k (omega (arith, e, h)) w) t i

pub turns_done : {p : Place} {a c : Page} {sc : Scope Core} {f : Act Core} (j n k : ℕ) → j ≡ n → j ≤ k →
    TurnsRemain p a c f (n - k) sc → Meets p a c f
turns_done {p} {a} {c} {sc} {f} j n k e h w =
    turns_over (none_left (λ m. TurnsRemain p a c f m sc) n k (omega (arith, e, h)) w)

-- ---- items that are done or kept
module _ {p : Place} {is_kept : Core → Bool} {doing : Core → Job Core × Scope Core} where
  pub sift_begins : {a : Page} (n : ℕ) → RemainsToSift p a a is_kept doing n (n - 0)
  sift_begins {a} n = all_left (λ m. RemainsToSift p a a is_kept doing n m) n remains_to_sift

  -- the item on top is kept
  pub sift_keeps : {a c d : Page} {x : Core} (j n k : ℕ) → j ≡ n → k < j →
      RemainsToSift p a c is_kept doing n (n - k) → Some x ≡ item_at 0 c.inner → is_kept x ≡ true →
      ((h : Held Core) (hs : List (Held Core)) → c.inner ≡ h ∷ hs → KeepsTop c d h) →
      RemainsToSift p a d is_kept doing n (n - (k + 1))
  sift_keeps {a} {c} {x = x} j n k e h w there kept keeps =
      let
      t = top_of c.inner x there
      in
      then_kept (one_left (λ m. RemainsToSift p a c is_kept doing n m) n k (omega (arith, e, h)) w) (λ _. t.top)
      (ap is_kept t.is ∙ kept) (keeps t.held t.others t.top)

  -- the item on top is done
  pub sift_does : {a c d o : Page} {x : Core} (j n k : ℕ) → j ≡ n → k < j →
      RemainsToSift p a c is_kept doing n (n - k) → Some x ≡ item_at 0 c.inner → is_kept x ≡ false →
      Steps c d (λ s. yes [] (popped s)) → Meets p d o (call (doing x).0 (doing x).1 done) →
      RemainsToSift p a o is_kept doing n (n - (k + 1))
  sift_does {a} {c} {d} {o} {x} j n k e h w there kept s q =
      let
      t = top_of c.inner x there
      in
      then_done (one_left (λ m. RemainsToSift p a c is_kept doing n m) n k (omega (arith, e, h)) w) (λ _. t.top)
      (ap is_kept t.is ∙ kept) s (subst (λ y. Meets p d o (call (doing y).0 (doing y).1 done)) (sym t.is) q)

  -- none is left
  pub sift_stops : {a c : Page} (n k : ℕ) → RemainsToSift p a c is_kept doing n k → None ≡ item_at 0 c.inner →
      Sifts p a c is_kept doing n
  sift_stops {a} {c} n k w none = w.rest c (sifts_none (λ _. no_top c.inner none))

  pub sift_done : {a c : Page} (j n k : ℕ) → j ≡ n → j ≤ k → RemainsToSift p a c is_kept doing n (n - k) →
      Sifts p a c is_kept doing n
  sift_done {a} {c} j n k e h w =
      (none_left (λ m. RemainsToSift p a c is_kept doing n m) n k (omega (arith, e, h)) w).rest c sifts_over

-- ---- items before the bounds of an array
pub arrays_begin : {p : Place} {a : Page} {sc : Scope Core} (n : ℕ) (v : Bool) →
    ArraysRemain p a a (array_turns (world_of p.refers) n sc v) (n - 0) v sc
arrays_begin {p} {a} {sc} n v =
    all_left (λ m. ArraysRemain p a a (array_turns (world_of p.refers) n sc v) m v sc) n (arrays_all n v)

-- the item on top is of this kind, and all is done with it
pub arrays_stop : {p : Place} {a c b : Page} {sc : Scope Core} {v : Bool} {f : Act Core} {x : Core} (t : Turn)
    (j n k : ℕ) → j ≡ n → k < j → ArraysRemain p a c f (n - k) v sc → Some x ≡ item_at 0 c.inner →
    turn_node (world_of p.refers) x (tag (world_of p.refers) x) ≡ t →
    Meets p c b (array_turn (world_of p.refers) t x sc v (λ u. array_turns (world_of p.refers) (n - (k + 1)) sc u)) →
    Meets p a b f
arrays_stop {p} {a} {c} {b} {sc} {v} {f} {x} t j n k e h w there is d =
    let
    first = top_of c.inner x there
    in
    arrays_other t (one_left (λ m. ArraysRemain p a c f m v sc) n k (omega (arith, e, h)) w) (λ _. first.top)
    (ap (λ y. turn_node (world_of p.refers) y (tag (world_of p.refers) y)) first.is ∙ is)
    (subst (λ y. Meets p c b (array_turn (world_of p.refers) t y sc v (λ u. array_turns (world_of p.refers)
    (n - (k + 1)) sc u))) (sym first.is) d)

-- it is a qualified array
pub arrays_qualified : {p : Place} {a c d : Page} {sc : Scope Core} {v : Bool} {f : Act Core} {x : Core} (j n k : ℕ) →
    j ≡ n → k < j → ArraysRemain p a c f (n - k) v sc → Some x ≡ item_at 0 c.inner →
    turn_node (world_of p.refers) x (tag (world_of p.refers) x) ≡ elements →
    ((g : Act Core) → Remains p c d (pop (inner_of (world_of p.refers) x sc g)) g) →
    ArraysRemain p a d f (n - (k + 1)) v sc
arrays_qualified j n k e h w there is taken =
    record { remains = record { rest = λ b q. arrays_stop elements j n k e h w there is (meets_rest (taken _) q) } }

-- it is an array
pub arrays_next : {p : Place} {a c d : Page} {sc : Scope Core} {v : Bool} {f : Act Core} {x : Core} (j n k : ℕ) →
    j ≡ n → k < j → ArraysRemain p a c f (n - k) v sc → Some x ≡ item_at 0 c.inner →
    turn_node (world_of p.refers) x (tag (world_of p.refers) x) ≡ array →
    ((g : Act Core) → Remains p c d (pop (inner_of (world_of p.refers) x sc g)) g) →
    ArraysRemain p a d f (n - (k + 1)) false sc
arrays_next j n k e h w there is taken =
    record { remains = record { rest = λ b q. arrays_stop array j n k e h w there is (meets_rest (taken _) q) } }

-- none is left
pub arrays_none : {p : Place} {a c b : Page} {sc : Scope Core} {v : Bool} {f : Act Core} (k : ℕ) →
    ArraysRemain p a c f k v sc → None ≡ item_at 0 c.inner → Meets p c b (before_bounds (world_of p.refers) v) →
    Meets p a b f
arrays_none {c = c} k w none d = arrays_end w (λ _. no_top c.inner none) d

pub arrays_done : {p : Place} {a c b : Page} {sc : Scope Core} {v : Bool} {f : Act Core} (j n k : ℕ) → j ≡ n → j ≤ k →
    ArraysRemain p a c f (n - k) v sc → Meets p c b (before_bounds (world_of p.refers) v) → Meets p a b f
arrays_done {p} {a} {c} {sc = sc} {v = v} {f = f} j n k e h w d =
    arrays_over (none_left (λ m. ArraysRemain p a c f m v sc) n k (omega (arith, e, h)) w) d
