-- What is asked of a function that is passed to lines: it may be called where no more levels are left than so many, and
-- does its job there.
use Rattle.std.specs.Prelude.{ℕ, ◌≤◌, Option}
use Rattle.std.specs.Borrow.{Bor, MutBor}
use Rattle.demangle_core.specs.Core.{Core}
use Rattle.demangle_core.specs.Table.{Table}
use Rattle.demangle_printing.specs.Act as job
use Rattle.demangle_printing.specs.Act.{call, done}
use Rattle.demangle_printing.specs.Scope as spec
use Rattle.demangle_meets.specs.Seen.{Seen}
use Rattle.demangle_meets.specs.Page.{Page}
use Rattle.demangle_meets.specs.Place.{Place}
use Rattle.demangle_meets.specs.Meets.{Meets}
use Rattle.demangle_context.specs.declared.context.Context.{Context}
use Rattle.demangle_context.specs.PageOf.{page}
use Rattle.demangle_lines.specs.declared.scope.Scope.{Scope}
use Rattle.demangle_lines.specs.ScopeOf.{lent_scope}
use Rattle.demangle_lines_tied.specs.declared.depth.Depth.{Depth}
use Rattle.demangle_lines_tied.specs.PlaceOf.{place_of}

-- what is done for a tree in a scope, from page to page
abbrev pub Doing : Type 1
Doing = Place → (a b : Page) → Core → spec.Scope Core → Type 0

-- its line, and that of an unnamed type as a leaf name
abbrev pub PrintsLine : Doing
PrintsLine p a b x sc = Meets p a b (call (job.line x) sc done)

abbrev pub PrintsLeaf : Doing
PrintsLeaf p a b x sc = Meets p a b (call (job.leaf x) sc done)

pub record MayPrint {T S W : Type 0} (tree : T → Core) (table : S → Table) (seen : W → Seen) (does : Doing)
    (pre : T → Option (Bor (Scope T)) → MutBor (Context T S W) → Depth S → Type 0)
    (post : T → Option (Bor (Scope T)) → MutBor (Context T S W) → Depth S → Unit {0} → MutBor (Context T S W) →
    Type 0) (most : ℕ) : Type 0 where
  pub may : (x : T) (s : Option (Bor (Scope T))) (c : MutBor (Context T S W)) (d : Depth S) →
      (place_of table d).left ≤ most → pre x s c d
  pub prints : (x : T) (s : Option (Bor (Scope T))) (c e : MutBor (Context T S W)) (d : Depth S) (r : Unit {0}) →
      post x s c d r e →
      does (place_of table d) (page tree table seen c.now) (page tree table seen e.now) (tree x) (lent_scope tree s)
