use Rattle.std.proofs.Common.{◌≡◌, map, take}
use Rattle.demangle_components.proofs.components.copied.Given as goal

abbrev pub invariant-loop-component : goal.invariant-loop-component
invariant-loop-component g l = map g.T.Component.tree l.copy.items ≡ map g.T.Component.tree (take l.component-index l.components)
