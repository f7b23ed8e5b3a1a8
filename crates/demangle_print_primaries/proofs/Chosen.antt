-- Of two acts the one that a condition on the node chooses, where code has asked for the condition.
use Rattle.std.proofs.Common.{◌≡◌, Bool, true, false, sym, ◌∙◌}
use Rattle.demangle_core.specs.Core.{Core}
use Rattle.demangle_printing.specs.Act.{Act, ask}
use Rattle.demangle_printing.specs.Reader.{chosen}
use Rattle.demangle_meets.specs.Page.{Page}
use Rattle.demangle_meets.specs.Place.{Place}
use Rattle.demangle_meets.specs.Meets.{Meets}
use Rattle.demangle_meets.proofs.Acts.{meets_choose_off, meets_choose_on}

pub meets_if : {p : Place} {a m b : Page} {asked condition : Bool} {f k : Act Core} (g : Act Core) →
    asked ≡ condition → asked ≡ true → Meets p a m f → Meets p m b k →
    Meets p a b (ask (λ s. chosen condition f g) k)
meets_if {condition = condition} g e h d q = meets_choose_on (λ s. condition) g (λ _. sym e ∙ h) d q

pub meets_else : {p : Place} {a m b : Page} {asked condition : Bool} {g k : Act Core} (f : Act Core) →
    asked ≡ condition → asked ≡ false → Meets p a m g → Meets p m b k →
    Meets p a b (ask (λ s. chosen condition f g) k)
meets_else {condition = condition} f e h d q = meets_choose_off (λ s. condition) f (λ _. sym e ∙ h) d q
