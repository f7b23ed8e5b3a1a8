-- What is asked of the function that is passed to lines: it may be called where no more levels are left than so many,
-- and prints its node there.
use Rattle.std.specs.Prelude.{ℕ, ◌≤◌, Option}
use Rattle.std.specs.Borrow.{MutBor}
use Rattle.demangle_core.specs.Core.{Core}
use Rattle.demangle_nodes.specs.TreeNodes.{tree_of_encoding, tree_of_expression, tree_of_mangled_name, tree_of_name}
use Rattle.demangle_nodes.specs.TreeNodes.{tree_of_template_arg}
use Rattle.demangle_entries.specs.TreeEntries.{tree_of_substitutable}
use Rattle.demangle_table.specs.declared.table.SubstitutionTable.{SubstitutionTable}
use Rattle.demangle_printing.specs.Scope.{Scope}
use Rattle.demangle_meets.specs.Seen.{Seen}
use Rattle.demangle_meets.specs.Page.{Page}
use Rattle.demangle_meets.specs.Place.{Place}
use Rattle.demangle_meets.specs.Meets.{Prints, Inner}
use Rattle.demangle_context.specs.declared.context.Context.{Context}
use Rattle.demangle_scope.specs.declared.scope.ArgScopeStack.{ArgScopeStack}
use Rattle.demangle_scope.specs.declared.inner.InnerItem.{InnerItem}
use Rattle.demangle_scope.specs.ItemTree.{item_tree}
use Rattle.demangle_scope.specs.ScopeOf.{scope_of}
use Rattle.demangle_print_below.specs.declared.depth.Depth.{Depth}
use Rattle.demangle_print_below.specs.PageOf.{page}
use Rattle.demangle_print_below.specs.PlaceOf.{place_of}
use Rattle.demangle_print.specs.declared.tied.Named.{Named}
use Rattle.demangle_print.specs.declared.tied.Named.TheVariants as of_named
use Rattle.demangle_print.specs.declared.tied.Part.{Part}
use Rattle.demangle_print.specs.declared.tied.Part.TheVariants as of_part

-- the line of a name was done
abbrev pub DoesNamed : Place → (a b : Page) → Named → Scope Core → Type 0
DoesNamed p a b (of_named.MangledName x) sc = Prints p a b (tree_of_mangled_name x.now) sc
DoesNamed p a b (of_named.Encoding x) sc = Prints p a b (tree_of_encoding x.now) sc
DoesNamed p a b (of_named.Name x) sc = Prints p a b (tree_of_name x.now) sc

-- that of another node, or what of an item stands behind
abbrev pub DoesPart : Place → (a b : Page) → Part → Scope Core → Type 0
DoesPart p a b (of_part.Expression x) sc = Prints p a b (tree_of_expression x.now) sc
DoesPart p a b (of_part.TemplateArg x) sc = Prints p a b (tree_of_template_arg x.now) sc
DoesPart p a b (of_part.Substitutable x) sc = Prints p a b (tree_of_substitutable x.now) sc
DoesPart p a b (of_part.Inner i) sc = Inner p a b (item_tree i) sc

abbrev pub Printing : Type 0 → Type 0
Printing W = MutBor (Context InnerItem SubstitutionTable W)

pub record MayPrint {X W : Type 0} (seen : W → Seen) (does : Place → (a b : Page) → X → Scope Core → Type 0)
    (pre : X → Option ArgScopeStack → Printing W → Depth → Type 0)
    (post : X → Option ArgScopeStack → Printing W → Depth → Unit {0} → Printing W → Type 0)
    (most : ℕ) : Type 0 where
  pub may : (x : X) (s : Option ArgScopeStack) (c : Printing W) (d : Depth) → (place_of d).left ≤ most → pre x s c d
  pub prints : (x : X) (s : Option ArgScopeStack) (c e : Printing W) (d : Depth) (r : Unit {0}) →
      post x s c d r e → does (place_of d) (page seen c.now) (page seen e.now) x (scope_of s)
