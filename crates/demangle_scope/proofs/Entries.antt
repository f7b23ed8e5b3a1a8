-- What an entry of a scope says of a leaf name and of an argument, by what it has.
use Rattle.std.proofs.Common.{◌≡◌, ℕ, true, false, ◌∷◌, Option, Some, None, refl, sym, ◌∙◌, ap, subst}
use Rattle.std.specs.Prelude.{Result, Ok, Err, option_map, IfOk}
use Rattle.std.specs.Borrow.{Bor}
use Rattle.demangle_core.specs.Core.{Core}
use Rattle.demangle_text.specs.declared.error.Error.{Error}
use Rattle.demangle_text.specs.declared.error.Error.TheVariants as of_error
use Rattle.demangle_nodes.specs.declared.nodes.TemplateArg.{TemplateArg}
use Rattle.demangle_nodes.specs.declared.nodes.TemplateArgs.{TemplateArgs}
use Rattle.demangle_nodes.specs.TreeNodes.{tree_of_template_args}
use Rattle.demangle_printing.specs.World.{World}
use Rattle.demangle_printing.specs.State.{Fault}
use Rattle.demangle_printing.specs.State as fault
use Rattle.demangle_printing.specs.Scope.{Scope, Entry, Mark, Meant, leaf, arguments, scope_leaf, leaf_in}
use Rattle.demangle_printing.specs.Scope.{scope_argument, argument_in, member_in, is_forward, refused_if}
use Rattle.demangle_meets.specs.Place.{Refers, world_of}
use Rattle.demangle_scope.specs.declared.scope.ArgScopeStack.{ArgScopeStack, ArgScopeStack', out-ArgScopeStack}
use Rattle.demangle_scope.specs.declared.scope.ArgScopeStack.{None', Some'}
use Rattle.demangle_scope.specs.declared.scope.ScopeItem.{ScopeItem}
use Rattle.demangle_scope.specs.declared.scope.ScopeItem.TheVariants as of_item
use Rattle.demangle_scope.specs.ScopeOf.{stack_scope, lent_scope, top_of, leaf_of, member_of, meant_of}
use Rattle.demangle_scope.specs.ScopeOf.{list_if, list_in, argument_list, member_tree, scope_of, answered}
use Rattle.demangle_scope.specs.OneEntry.{PassesOn, Decides}

-- ---- the entries of a scope
pub stack_is : (s : ArgScopeStack) → stack_scope s ≡ top_of s ∷ lent_scope (out-ArgScopeStack s).previous
unfolding out-ArgScopeStack denote.Hole.Carrier.out
stack_is (ArgScopeStack' i m None') = refl
stack_is (ArgScopeStack' i m (Some' p s)) = refl

-- a list of arguments means itself
pub meant_is : (i : ScopeItem) (list : Bor TemplateArgs) → i ≡ of_item.Args list →
    meant_of i ≡ arguments (tree_of_template_args list.now)
meant_is i list e = ap meant_of e

-- ---- leaf names
leaf_found : {X : Type 0} (m : Meant X) (o : Result X Fault) (x : X) → leaf_of m ≡ Some x → leaf_in m o ≡ Ok x
leaf_found (leaf y) o x e = let k : y ≡ x = cc in ap Ok k
leaf_found (arguments list) o x e = absurd (cc e)

no_leaf : {X : Type 0} (m : Meant X) (o : Result X Fault) → leaf_of m ≡ None → leaf_in m o ≡ o
no_leaf (leaf y) o e = absurd (cc e)
no_leaf (arguments list) o e = refl

-- ---- arguments
module _ {X : Type 0} (w : World X) where
  argument_found : (m : Meant X) (mark : Option Mark) (k : ℕ) (list x : X) (o : Result X Fault) → m ≡ arguments list →
      member_of w m k ≡ Some x → argument_in w m mark k o ≡ refused_if (is_forward mark (w.began list) k) x
  argument_found m mark k list x o e f =
      ap (λ z. argument_in w z mark k o) e
      ∙ ap (λ z. member_in w mark list k z o) (sym (ap (λ z. member_of w z k) e) ∙ f)

  no_argument : (m : Meant X) (mark : Option Mark) (k : ℕ) (o : Result X Fault) → member_of w m k ≡ None →
      argument_in w m mark k o ≡ o
  no_argument (leaf y) mark k o e = refl
  no_argument (arguments list) mark k o e = ap (λ z. member_in w mark list k z o) e

  list_found : (m : Meant X) (k : ℕ) (list x : X) (o : Option X) → m ≡ arguments list → member_of w m k ≡ Some x →
      list_in w m k o ≡ Some list
  list_found m k list x o e f =
      ap (λ z. list_in w z k o) e ∙ ap (λ z. list_if w z list o) (sym (ap (λ z. member_of w z k) e) ∙ f)

  no_list : (m : Meant X) (k : ℕ) (o : Option X) → member_of w m k ≡ None → list_in w m k o ≡ o
  no_list (leaf y) k o e = refl
  no_list (arguments list) k o e = ap (λ z. list_if w z list o) e

-- ---- one entry
pub passes_on : (e : Entry Core) (k : ℕ) → ((r : Refers) → None ≡ member_of (world_of r) e.meant k) → PassesOn e k
unfolding scope_argument argument_list
passes_on e k none =
    record {
      argument = λ r others. no_argument (world_of r) e.meant e.mark k (scope_argument (world_of r) others k)
          (sym (none r));
      list = λ r others. no_list (world_of r) e.meant k (argument_list (world_of r) others k) (sym (none r));
    }

-- the list has the member, and it is not the one that is being printed nor a later one
pub decides : (e : Entry Core) (k : ℕ) (found : Bor TemplateArg × Bor TemplateArgs) →
    e.meant ≡ arguments (tree_of_template_args found.1.now) →
    ((r : Refers) → Some (member_tree found) ≡ member_of (world_of r) e.meant k) →
    is_forward e.mark found.1.now.1 k ≡ false → Decides e k (Ok found)
unfolding scope_argument argument_list
decides e k found is has behind =
    record {
      argument = λ r others. ap Some (sym
          (argument_found (world_of r) e.meant e.mark k (tree_of_template_args found.1.now) (member_tree found)
          (scope_argument (world_of r) others k) is (sym (has r))
          ∙ ap (λ b. refused_if b (member_tree found)) behind));
      list = λ r others. list_found (world_of r) e.meant k (tree_of_template_args found.1.now) (member_tree found)
          (argument_list (world_of r) others k) is (sym (has r));
    }

-- the list has the member, and it is the one that is being printed, or a later one
pub decides_forward : (e : Entry Core) (k : ℕ) (found : Bor TemplateArg × Bor TemplateArgs) →
    e.meant ≡ arguments (tree_of_template_args found.1.now) →
    ((r : Refers) → Some (member_tree found) ≡ member_of (world_of r) e.meant k) →
    is_forward e.mark found.1.now.1 k ≡ true → Decides e k (Err of_error.ForwardTemplateArgReference)
unfolding scope_argument argument_list
decides_forward e k found is has before =
    record {
      argument = λ r others. ap Some (sym
          (argument_found (world_of r) e.meant e.mark k (tree_of_template_args found.1.now) (member_tree found)
          (scope_argument (world_of r) others k) is (sym (has r))
          ∙ ap (λ b. refused_if b (member_tree found)) before));
      list = λ r others. tt;
    }

-- ---- the entries from the newest on
-- a scope that is lent is the scope
pub lent_is : (o : Option (Bor ArgScopeStack)) (p : Option ArgScopeStack) → option_map (λ x. x.now) o ≡ p →
    lent_scope o ≡ scope_of p
lent_is None p e = ap scope_of e
lent_is (Some s) p e = ap scope_of e

pub leaf_here : (s : ArgScopeStack) (x : Core) → Some x ≡ leaf_of (top_of s).meant → scope_leaf (stack_scope s) ≡ Ok x
unfolding scope_leaf
leaf_here s x e =
    ap scope_leaf (stack_is s)
    ∙ leaf_found (top_of s).meant (scope_leaf (lent_scope (out-ArgScopeStack s).previous)) x (sym e)

pub leaf_behind : (s : ArgScopeStack) → None ≡ leaf_of (top_of s).meant →
    scope_leaf (stack_scope s) ≡ scope_leaf (lent_scope (out-ArgScopeStack s).previous)
unfolding scope_leaf
leaf_behind s e =
    ap scope_leaf (stack_is s)
    ∙ no_leaf (top_of s).meant (scope_leaf (lent_scope (out-ArgScopeStack s).previous)) (sym e)

pub no_leaves : (o : Option (Bor ArgScopeStack)) → o ≡ None → scope_leaf (lent_scope o) ≡ Err fault.BadLeafNameReference
unfolding scope_leaf
no_leaves o e = ap (λ z. scope_leaf (lent_scope z)) e

-- Two scopes have one argument of this number, in one list.
pub record SameArgument (a b : Scope Core) (k : ℕ) : Type 0 where
  pub argument : (r : Refers) → scope_argument (world_of r) a k ≡ scope_argument (world_of r) b k
  pub list : (r : Refers) → argument_list (world_of r) a k ≡ argument_list (world_of r) b k

pub same_lent : (o : Option (Bor ArgScopeStack)) (p : Option ArgScopeStack) (k : ℕ) →
    option_map (λ x. x.now) o ≡ p → SameArgument (scope_of p) (lent_scope o) k
same_lent o p k e =
    record {
      argument = λ r. ap (λ z. scope_argument (world_of r) z k) (sym (lent_is o p e));
      list = λ r. ap (λ z. argument_list (world_of r) z k) (sym (lent_is o p e));
    }

pub same_behind : {a : Scope Core} {k : ℕ} (s : ArgScopeStack) → SameArgument a (stack_scope s) k →
    PassesOn (top_of s) k → SameArgument a (lent_scope (out-ArgScopeStack s).previous) k
same_behind {a} {k} s same p =
    record {
      argument = λ r. same.argument r
          ∙ (ap (λ z. scope_argument (world_of r) z k) (stack_is s)
          ∙ p.argument r (lent_scope (out-ArgScopeStack s).previous));
      list = λ r. same.list r
          ∙ (ap (λ z. argument_list (world_of r) z k) (stack_is s)
          ∙ p.list r (lent_scope (out-ArgScopeStack s).previous));
    }

pub argument_here : {a : Scope Core} {k : ℕ} {answer : Result (Bor TemplateArg × Bor TemplateArgs) Error}
    (s : ArgScopeStack) → SameArgument a (stack_scope s) k → Decides (top_of s) k answer → (r : Refers) →
    answered member_tree answer ≡ Some (scope_argument (world_of r) a k)
argument_here {a} {k} s same d r =
    d.argument r (lent_scope (out-ArgScopeStack s).previous)
    ∙ ap Some (sym (same.argument r ∙ ap (λ z. scope_argument (world_of r) z k) (stack_is s)))

pub list_here : {a : Scope Core} {k : ℕ} {answer : Result (Bor TemplateArg × Bor TemplateArgs) Error}
    (s : ArgScopeStack) → SameArgument a (stack_scope s) k → Decides (top_of s) k answer → (r : Refers) →
    IfOk answer (λ found. argument_list (world_of r) a k ≡ Some (tree_of_template_args found.1.now))
list_here {a} {k} {answer} s same d r =
    subst (λ z. IfOk answer (λ found. z ≡ Some (tree_of_template_args found.1.now)))
    (sym (same.list r ∙ ap (λ z. argument_list (world_of r) z k) (stack_is s)))
    (d.list r (lent_scope (out-ArgScopeStack s).previous))

pub no_arguments : {a : Scope Core} {k : ℕ} (o : Option (Bor ArgScopeStack)) → SameArgument a (lent_scope o) k →
    o ≡ None → (r : Refers) → Some (Err fault.BadTemplateArgReference) ≡ Some (scope_argument (world_of r) a k)
unfolding scope_argument
no_arguments {a} {k} o same e r =
    ap Some (sym (same.argument r ∙ ap (λ z. scope_argument (world_of r) (lent_scope z) k) e))
