-- Leaf names and template arguments that were looked up, in scope; and a leaf name that must be.
use Rattle.std.proofs.Common.{◌≡◌, [], ◌∷◌, Option, Some, None, Ok, Err, option_map, refl, sym, ap, subst, ◌∙◌}
use Rattle.demangle_core.specs.Core.{Core}
use Rattle.demangle_core.specs.Lookups.{as_prefix}
use Rattle.demangle_text.specs.declared.error.Error.{Error}
use Rattle.demangle_context.specs.Errors.{reference_fault}
use Rattle.demangle_printing.specs.World.{find}
use Rattle.demangle_printing.specs.State.{Fault, no}
use Rattle.demangle_printing.specs.Scope.{Scope, scope_leaf, with_args, with_leaf}
use Rattle.demangle_printing.specs.Act.{Act, block}
use Rattle.demangle_printing.specs.Rules.{args_of, leaf_act, leaf_name_of, leaf_seen}
use Rattle.demangle_printing.specs.Reader.{need_leaf, run}
use Rattle.demangle_printing.specs.Lines.Functions.{in_function, in_leaf_scope}
use Rattle.demangle_meets.specs.Page.{Page}
use Rattle.demangle_meets.specs.Place.{Place, world_of}
use Rattle.demangle_meets.specs.Calls.{Steps}
use Rattle.demangle_meets.specs.Meets.{Meets}
use Rattle.demangle_meets.proofs.Acts.{meets_block, meets_done}
use Rattle.demangle_meets.proofs.Parts.{meets_at}
use Rattle.demangle_print_parts.proofs.Spellings.{meets_failed}

-- the template arguments of a function's name
pub with_its_args : {p : Place} {a b : Page} (sc : Scope Core) (x name : Core) (found : Option Core) →
    found ≡ args_of (world_of p.refers) as_prefix (Some name) →
    find (world_of p.refers) (Some x) (0 ∷ []) ≡ Some name →
    Meets p a b (run (world_of p.refers) (Some x) (with_args found sc) in_function) →
    Meets p a b (run (world_of p.refers) (Some x) sc in_leaf_scope)
with_its_args {p} {a} {b} sc x name found e is d =
    meets_block (meets_block
    (subst (λ z. Meets p a b (run (world_of p.refers) (Some x) (with_args (args_of
    (world_of p.refers) as_prefix z) sc)
    in_function)) (sym is)
    (subst (λ z. Meets p a b (run (world_of p.refers) (Some x) (with_args z sc) in_function)) e
    d)) meets_done) meets_done

-- its leaf name
pub with_leaf_found : {p : Place} {a b : Page} (sc : Scope Core) (x name : Core) (found : Option Core) →
    found ≡ leaf_name_of (world_of p.refers) (Some name) →
    Meets p a b (run (world_of p.refers) (Some x) (with_leaf found sc) in_leaf_scope) →
    Meets p a b
    (run (world_of p.refers) (Some x) (with_leaf (leaf_name_of (world_of p.refers) (Some name)) sc) in_leaf_scope)
with_leaf_found {p} {a} {b} sc x name found e d =
    subst (λ z. Meets p a b (run (world_of p.refers) (Some x) (with_leaf z sc) in_leaf_scope)) e d

-- ---- the leaf name in scope
pub leaf_given : (sc : Scope Core) (x : Core) → Some (Ok x) ≡ Some (scope_leaf sc) → scope_leaf sc ≡ Ok x
leaf_given sc x e = let k : Ok x ≡ scope_leaf sc = cc in sym k

pub needs : {p : Place} {a b : Page} (sc : Scope Core) {x : Core} {k : Act Core} → scope_leaf sc ≡ Ok x →
    Meets p a b k → Meets p a b (block (need_leaf (world_of p.refers) (scope_leaf sc)) k)
needs {p} {a} sc e d = meets_block (meets_at (need_leaf (world_of p.refers)) (sym e) meets_done) d

pub borne : {p : Place} {a b : Page} (sc : Scope Core) {x : Core} → scope_leaf sc ≡ Ok x →
    Meets p a b (leaf_seen (world_of p.refers) x ((world_of p.refers).look x)) →
    Meets p a b (leaf_act (world_of p.refers) (scope_leaf sc))
borne {p} sc e d = meets_at (leaf_act (world_of p.refers)) (sym e) d

-- none is there
pub no_leaf : {p : Place} {a b : Page} (sc : Scope Core) {k : Act Core} (error : Error) →
    option_map Err (reference_fault error) ≡ Some (scope_leaf sc) →
    ((f : Fault) → reference_fault error ≡ Some f → Steps a b (λ s. no [] f)) →
    Meets p a b (block (need_leaf (world_of p.refers) (scope_leaf sc)) k)
no_leaf {p} {a} {b} sc {k} error e steps = by (reference_fault error) refl
  where
    by : (o : Option Fault) → reference_fault error ≡ o →
        Meets p a b (block (need_leaf (world_of p.refers) (scope_leaf sc)) k)
    by None is = absurd (let none : None ≡ Some (scope_leaf sc) = sym (ap (option_map Err) is) ∙ e in cc)
    by (Some f) is =
        let same : Some (Err f) ≡ Some (scope_leaf sc) = sym (ap (option_map Err) is) ∙ e in
        let err : Err f ≡ scope_leaf sc = cc in
        meets_at (λ y. block (need_leaf (world_of p.refers) y) k) err (meets_failed (steps f is))
