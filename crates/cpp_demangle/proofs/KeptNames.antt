-- From what is read into an arena to what is kept of it, by what each of the arena's indexes stands for.
use Rattle.std.specs.Prelude.{◌≡◌, ℕ, ◌-◌, ◌+◌, ◌≤◌, List, [], map, take, drop, length, if◌then◌else◌}
use Rattle.std.specs.Prelude.{Result, Ok, Err, MatchResult}
use Rattle.std.proofs.Common.{sym, subst, ap, ◌∙◌, arith, length-drop}
use Rattle.std.proofs.lemmas.List.{take_all}
use Rattle.demangle_core.specs.Core.{Core}
use Rattle.demangle_core.specs.Table.{Table, empty_table}
use Rattle.demangle_text.specs.declared.error.Error.{Error}
use Rattle.demangle_text.specs.declared.error.Error.TheVariants.{OutOfMemory}
use Rattle.demangle_grammar.specs.Rule.{Row}
use Rattle.demangle_grammar.specs.Code.{Reply, Found, here}
use Rattle.demangle_grammar.proofs.CodeLaws.{index_kept}
use Rattle.demangle_nodes.specs.TreeNodes.{tree_of_mangled_name}
use Rattle.demangle_printing.specs.Outcome.{Options}
use Rattle.demangle_table.specs.TableOf.{table_of}
use Rattle.demangle_cells.specs.Behind.{is_known}
use Rattle.demangle_cells.specs.Fixed.{first_cell}
use Rattle.demangle_cells.specs.Model.{model, valued, values}
use Rattle.demangle_cells.specs.View.{View, Holds, Grown, entry, table, view}
use Rattle.demangle_cells.specs.declared.arena.Arena.{Arena}
use Rattle.demangle_cells.specs.declared.text.Part as parts
use Rattle.demangle_cell_trees.specs.ArenaTrees.{absent, tree_at, trees}
use Rattle.demangle_cell_trees.specs.ArenaTrees as cells
use Rattle.demangle_cell_trees.proofs.Hold.{trees_hold}
use Rattle.demangle_lines_print.specs.Telling.{telling}
use Rattle.demangle_read.specs.Reading.{reading, at_front}
use Rattle.demangle_read.specs.Found as read
use Rattle.demangle_read.specs.Found.{FindsFront, FindsWhole}
use Rattle.demangle_parse.specs.Adds.{HasTable}
use Rattle.demangler.proofs.Tellings.{same_telling}
use Rattle.cpp_demangle.specs.Found.{IsFound, IsMissing}
use Rattle.cpp_demangle.specs.Made.{IsMade}
use Rattle.cpp_demangle.specs.declared.kept.KeptName.{KeptName}

-- ---- made out of cells
none_before : (F : ℕ → Core) (v : View) (t : Table) → t ≡ empty_table → map (entry F) (take 0 v.entries) ≡ t
unfolding empty_table
none_before F v t e = sym e

pub made_of : (a : Arena) (id : ℕ) (x : Core) (before behind : Table) → before ≡ empty_table →
    ((F : ℕ → Core) → Holds F (view a) → map (entry F) (take 0 (view a).entries) ≡ before
    → (F id ≡ x) × (table F (view a) ≡ behind)) →
    IsMade a id x behind
unfolding cells.table_of
made_of a id x before behind e made =
    let d = made (tree_at a) (trees_hold a) (none_before (tree_at a) (view a) before e) in
    record { tree = d.0; table = d.1 }

-- ---- copied
-- The trees are told by the cells and the list of indexes.
same_trees : (u v : View) → u.cells ≡ v.cells → u.list ≡ v.list → trees u ≡ trees v
unfolding model
same_trees u v c l =
    ap (λ cs k. if is_known (first_cell + length cs) k then valued (values [] u.list cs) k else absent) c
    ∙ ap (λ list k. if is_known (first_cell + length v.cells) k then valued (values [] list v.cells) k else absent) l

pub made_of_copy : (a b : Arena) (id : ℕ) (x : Core) (t : Table) → (view b).cells ≡ (view a).cells →
    (view b).list ≡ (view a).list → (view b).entries ≡ (view a).entries → IsMade b id x t → IsMade a id x t
unfolding tree_at cells.table_of table
made_of_copy a b id x t c l e made =
    record {
      tree = ap (λ f. f id) (same_trees (view a) (view b) (sym c) (sym l)) ∙ made.tree;
      table =
          ap (λ es. map (entry (trees (view a))) es) (sym e)
          ∙ (ap (λ f. map (entry f) (view b).entries) (same_trees (view a) (view b) (sym c) (sym l)) ∙ made.table);
    }

-- ---- put into cells
tree_put : (a : Arena) (id : ℕ) (x : Core) → ((F : ℕ → Core) → Holds F (view a) → F id ≡ x) → tree_at a id ≡ x
tree_put a id x made = made (tree_at a) (trees_hold a)

table_put : (old a : Arena) (t : Table) → HasTable (view old) t → Grown (view old) (view a) →
    ((F : ℕ → Core) → table F (view a) ≡ table F (view old)) → cells.table_of a ≡ t
unfolding cells.table_of
table_put old a t has grown same = same (tree_at a) ∙ has (tree_at a) (grown.holds (tree_at a) (trees_hold a))

abbrev IsMadeInto : Arena → ℕ → Result KeptName Error → Type 0
IsMadeInto a id r =
    MatchResult r (λ k. IsMade a id (tree_of_mangled_name k.parsed) (table_of k.substitutions))
    (λ e. e ≡ OutOfMemory)

pub copy_kept : (r : Result KeptName Error) (old a : Arena) (id : ℕ) (x : Core) (t : Table) → HasTable (view old) t →
    Grown (view old) (view a) → ((F : ℕ → Core) → table F (view a) ≡ table F (view old)) →
    ((F : ℕ → Core) → Holds F (view a) → F id ≡ x) → IsMadeInto a id r →
    MatchResult r (λ k. (tree_of_mangled_name k.parsed ≡ x) × (table_of k.substitutions ≡ t)) (λ e. e ≡ OutOfMemory)
copy_kept (Ok k) old a id x t has grown same made d = (
  sym d.tree ∙ tree_put a id x made,
  sym d.table ∙ table_put old a t has grown same,
)
copy_kept (Err e) old a id x t has grown same made d = d

-- ---- printed
-- The printing of what is kept tells what that of the cells does: a telling is data.
pub tells_same : {a : Arena} {id : ℕ} {x : Core} {t : Table} → ∥ IsMade a id x t ∥₁ → (input : List ℕ) (o : Options) →
    telling (cells.table_of a) input o (tree_at a id) ≡ telling t input o x
tells_same {a} {id} {x} {t} made input o =
    same_telling made
    (λ d. ap (λ s. telling s input o (tree_at a id)) d.table ∙ ap (λ y. telling t input o y) d.tree)

-- ---- read
-- The name ends in the bytes.
pub ends_inside : (limit : ℕ) (bytes : List ℕ) (a : Arena) (x : parts.Part) →
    FindsFront (view a) bytes (reading limit bytes) (Ok x) → x.end ≤ length bytes
ends_inside limit bytes a x found =
    let i = index_kept _ Row.mangled_name _ (at_front bytes)
    (here (record { index = x.end; left = drop x.end bytes }) (table (tree_at a) (view a))) [] (tree_at a x.id)
    (found (tree_at a) (trees_hold a)) in
    omega (arith, i)

pub rest_is : (n : ℕ) (bytes : List ℕ) → take (length bytes - n) (drop n bytes) ≡ drop n bytes
rest_is n bytes = take_all (length bytes - n) (drop n bytes) (omega (arith, length-drop n bytes))

found_kept : (k : KeptName) (a : Arena) (id end : ℕ) (left : List ℕ) (reply : Reply) →
    IsMade a id (tree_of_mangled_name k.parsed) (table_of k.substitutions) →
    reply ≡ Found (tree_at a id) (here (record { index = end; left = left }) (cells.table_of a)) →
    reply ≡ Found (tree_of_mangled_name k.parsed)
    (here (record { index = end; left = left }) (table_of k.substitutions))
found_kept k a id end left reply d e =
    e
    ∙ ap (λ x. Found x (here (record { index = end; left = left }) (cells.table_of a))) d.tree
    ∙ ap (λ t. Found (tree_of_mangled_name k.parsed) (here (record { index = end; left = left }) t)) d.table

pub front_kept : (k : KeptName) (a : Arena) (bytes left : List ℕ) (reply : Reply) (x : parts.Part) →
    FindsFront (view a) bytes reply (Ok x) →
    IsMade a x.id (tree_of_mangled_name k.parsed) (table_of k.substitutions) → left ≡ drop x.end bytes →
    IsFound reply left k
unfolding cells.table_of
front_kept k a bytes left reply x found d l = (
  x.end,
  subst (λ bs. reply ≡ Found (tree_of_mangled_name k.parsed)
      (here (record { index = x.end; left = bs }) (table_of k.substitutions))) (sym l)
      (found_kept k a x.id x.end (drop x.end bytes) reply d (found (tree_at a) (trees_hold a))),
)

pub whole_kept : (k : KeptName) (a : Arena) (reply : Reply) (id : ℕ) → FindsWhole (view a) reply (Ok id) →
    IsMade a id (tree_of_mangled_name k.parsed) (table_of k.substitutions) → IsFound reply [] k
unfolding cells.table_of
whole_kept k a reply id found d =
    let e = found (tree_at a) (trees_hold a) in (e.0, found_kept k a id e.0 [] reply d e.1)

-- ---- not read
missing_front : (F : ℕ → Core) (v : View) (bytes : List ℕ) (reply : Reply) (e : Error) →
    read.IsFront F v bytes reply (Err e) → IsMissing reply e
missing_front F v bytes reply OutOfMemory d = tt
missing_front F v bytes reply e d = d

missing_whole : (F : ℕ → Core) (v : View) (reply : Reply) (e : Error) →
    read.IsFound F v reply (Err e) → IsMissing reply e
missing_whole F v reply OutOfMemory d = tt
missing_whole F v reply e d = d

pub front_missing : (a : Arena) (bytes : List ℕ) (reply : Reply) (e : Error) →
    FindsFront (view a) bytes reply (Err e) → IsMissing reply e
front_missing a bytes reply e found =
    missing_front (tree_at a) (view a) bytes reply e (found (tree_at a) (trees_hold a))

pub whole_missing : (a : Arena) (reply : Reply) (e : Error) → FindsWhole (view a) reply (Err e) → IsMissing reply e
whole_missing a reply e found = missing_whole (tree_at a) (view a) reply e (found (tree_at a) (trees_hold a))
