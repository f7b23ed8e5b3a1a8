-- What a symbol holds, its equality, and what the printing of its tree tells.
use Rattle.std.specs.Prelude.{ℕ, Bool, ◌&&◌, List, bytes_eq}
use Rattle.std.specs.Cmp.{IsEquivalence, nat_eq_equiv, first_so, second_so}
use Rattle.std.proofs.lemmas.Cmp.{lists_equiv}
use Rattle.demangle_core.specs.Core.{Core, same}
use Rattle.demangle_core.specs.Table.{Table, same_tables}
use Rattle.demangle_core.specs.Same.{same_equiv, same_tables_equiv}
use Rattle.demangle_grammar.specs.Expand.{Expanded, expand}
use Rattle.demangle_printing.specs.Trees.{without_table}
use Rattle.demangle_printing.specs.Outcome.{Options, printed}
use Rattle.demangle_printing.specs.Laws.{told}
use Rattle.demangle_lines_print.specs.Telling.{Telling, telling}

pub record Contents : Type 0 where
  pub bytes : List ℕ
  pub table : Table
  pub tree : Core

abbrev pub contents : List ℕ → Table → Core → Contents
contents bytes table tree = record { bytes = bytes; table = table; tree = tree }

-- ---- equality
-- The bytes, the tables and the trees are equal. The order of a table's entries over both lists is left out, and so is
-- where a list of template arguments began.
abbrev pub same_contents : Contents → Contents → Bool
same_contents a b = bytes_eq a.bytes b.bytes && (same_tables a.table b.table && same a.tree b.tree)

bytes_equiv : IsEquivalence bytes_eq
bytes_equiv = lists_equiv nat_eq_equiv

pub same_contents_equiv : IsEquivalence same_contents
same_contents_equiv = record {
  refl = λ a. λ i. bytes_equiv.refl a.bytes i && (same_tables_equiv.refl a.table i && same_equiv.refl a.tree i);
  symm = λ a b. λ i.
      bytes_equiv.symm a.bytes b.bytes i
      && (same_tables_equiv.symm a.table b.table i && same_equiv.symm a.tree b.tree i);
  congr = λ a b c h.
      let rest = second_so (bytes_eq a.bytes b.bytes) (same_tables a.table b.table && same a.tree b.tree) h in
      let bytes = first_so (bytes_eq a.bytes b.bytes) (same_tables a.table b.table && same a.tree b.tree) h in
      let tables = first_so (same_tables a.table b.table) (same a.tree b.tree) rest in
      let trees = second_so (same_tables a.table b.table) (same a.tree b.tree) rest in
      λ i.
      bytes_equiv.congr a.bytes b.bytes c.bytes bytes i
      && (same_tables_equiv.congr a.table b.table c.table tables i && same_equiv.congr a.tree b.tree c.tree trees i);
}

-- ---- printing
abbrev pub telling_of : Options → Contents → Telling
telling_of o s = telling s.table s.bytes o s.tree

-- the tree, with a component in the place of each reference to it
abbrev pub expanded : Contents → Expanded
expanded s = expand s.table s.bytes s.tree

-- what the printing of that tree tells, with no table and no bytes
abbrev pub telling_unshared : Options → Contents → Telling
telling_unshared o s = told (printed without_table o (expanded s))
