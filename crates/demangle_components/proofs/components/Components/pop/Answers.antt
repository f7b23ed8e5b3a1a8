use Rattle.std.proofs.Common.{◌≡◌, ◌∙◌, ap, sym, subst, List, [], ◌∷◌, ◌++◌, length, map, min, ℕ, Vec, Global, Option, Some, rules}
use Rattle.std.specs.Option.{option_to_list}
use Rattle.demangle_components.specs.View.{table_from, Rise}
use Rattle.demangle_components.proofs.Calls.{popped_paired, popped_rising, popped_table, popped_last}
use Rattle.demangle_components.proofs.components.Components.pop.Goals as goal

last_of : {A : Type 0} (ns ms : List A) (r : Option A) (x : A) → ns ≡ ms ++ option_to_list r → r ≡ Some x → ns ≡ ms ++ x ∷ []
last_of ns ms r x e was = e ∙ ap (λ o. ms ++ option_to_list o) was

lowered : {A : Type 0} (ks now : List ℕ) (ms : Vec A Global) (n : ℕ) → now ≡ map (min n) ks → n ≡ ms.len → now ≡ map (min (length ms.items)) ks
lowered ks now ms n e is = let long : n ≡ length ms.items = search rules in e ∙ ap (λ m. map (min m) ks) long

pub returns-clause-last : goal.returns-clause-last
returns-clause-last g c =
    popped_last g.T.Component.tree _ _ _ _ _ c.args.self.now.paired c.args.self.now.rising (last_of _ _ _ _ c.pop.ensures.items c.in_ok-last.was)

pub returns-clause-shorter : goal.returns-clause-shorter
returns-clause-shorter g c =
    ap (table_from g.T.Component.tree c.pop.new.self.items c.args.self.now.others.items) (lowered _ _ c.pop.new.self _ c.lower.ensures c.len.ensures)
    ∙ popped_table g.T.Component.tree _ _ _ _ _ c.args.self.now.paired c.args.self.now.rising (last_of _ _ _ _ c.pop.ensures.items c.in_ok-last.was)

pub invariant_of-self-2-clause-paired : goal.invariant_of-self-2-clause-paired
invariant_of-self-2-clause-paired g c =
    rw (lowered _ _ c.pop.new.self _ c.lower.ensures c.len.ensures)
    (popped_paired g.T.Component.tree _ _ _ _ _ c.args.self.now.paired c.args.self.now.rising (last_of _ _ _ _ c.pop.ensures.items c.in_ok-last.was))

pub invariant_of-self-2-clause-rising : goal.invariant_of-self-2-clause-rising
invariant_of-self-2-clause-rising g c =
    subst (Rise 0 (length c.pop.new.self.items)) (sym (lowered _ _ c.pop.new.self _ c.lower.ensures c.len.ensures))
    (popped_rising g.T.Component.tree _ _ _ _ _ c.args.self.now.paired c.args.self.now.rising (last_of _ _ _ _ c.pop.ensures.items c.in_ok-last.was))
