-- A plain type is printed as its declarator.
use Rattle.std.proofs.Common.{◌≡◌, true, false, List, [], ℕ, Some, Ok, Err, sym, ◌∙◌, ap, subst, true≢false, refl}
use Rattle.demangle_core.specs.Core.{Core}
use Rattle.demangle_printing.specs.State.{Fault, BadTemplateArgReference, ForwardTemplateArgReference}
use Rattle.demangle_printing.specs.State.{BadLeafNameReference, TooMuchRecursion, NotUtf8, TooLong, Answer}
use Rattle.demangle_printing.specs.Scope.{Scope}
use Rattle.demangle_printing.specs.World.{World}
use Rattle.demangle_printing.specs.Rules.{optional_seen, handle_seen, of_handle, of_part}
use Rattle.demangle_printing.specs.Declarators.{Plain, builtin, class, const, to, function, is_type, RefersTo, Is}
use Rattle.demangle_printing.specs.Declarators.{declared, is_limit, Adds, PrintsDeclared}
use Rattle.demangle_meets.specs.Page.{Page}
use Rattle.demangle_meets.specs.Place.{world_of}
use Rattle.demangle_context.specs.declared.error.DemangleError.{DemangleError}
use Rattle.demangle_context.specs.declared.error.DemangleError.TheVariants as error
use Rattle.demangle_context.specs.TroubleOf.{error_at}
use Rattle.demangle_lines_tied.specs.PlaceOf.{place_in}
use Rattle.demangle_lines_print.specs.Demangled.{Reply, state, line_at, printed_line, StopsAt, Ends, may_end, Declares}

limit_ends : (f : Fault) → is_limit f ≡ true → may_end (error_at f) ≡ true
limit_ends TooMuchRecursion e = refl
limit_ends TooLong e = refl
limit_ends NotUtf8 e = absurd (true≢false (sym e))
limit_ends BadTemplateArgReference e = absurd (true≢false (sym e))
limit_ends ForwardTemplateArgReference e = absurd (true≢false (sym e))
limit_ends BadLeafNameReference e = absurd (true≢false (sym e))

module _ (a b : Page) (x : Answer Core) (text : List ℕ) (adds : Adds text x) where
  stops_at : (e : DemangleError) → StopsAt a b x e → may_end e ≡ true
  stops_at e d =
      subst (λ v. may_end v ≡ true) d.is (limit_ends d.fault (subst (Adds text) d.told.is adds))

  declares_by : (r : Reply) → Ends a b x r → Declares a.seen b.seen text r
  declares_by (Ok v) d = record { all = d.told.all; told = d.told.told; is = subst (Adds text) d.told.is adds }
  declares_by (Err error.Sink) d = refl
  declares_by (Err error.OutOfMemory) d = refl
  declares_by (Err error.TooMuchRecursion) d = refl
  declares_by (Err error.TooLong) d = refl
  declares_by (Err error.NotUtf8) d = stops_at error.NotUtf8 d
  declares_by (Err (error.Reference e)) d = stops_at (error.Reference e) d

-- what is printed for a handle of such a type
module _ (w : World Core) where
  held : (x y : Core) → RefersTo w x y → of_part w (Some x) ≡ Some y
  held x y r = ap (of_handle w) (ap (optional_seen w x) r) ∙ ap (handle_seen w x) r

  part_of : (x : Core) (p : Plain) → Is w x p → (y : Core) × (of_part w (Some x) ≡ Some y)
  part_of x (builtin k) i = (i.1.0, ap (of_handle w) (ap (optional_seen w x) i.1.1) ∙ ap (handle_seen w x) i.1.1)
  part_of x (class name) i = (i.0, held x i.0 i.2)
  part_of x (const p) i = (i.0, held x i.0 i.3)
  part_of x (to m p) i = (i.0, held x i.0 i.2)
  part_of x (function r ps) i = (i.0, held x i.0 i.6)

pub declares_line : (a b : Page) (r : Reply) → PrintsDeclared Core → (x : Core) (sc : Scope Core) (p : Plain) →
    Is (world_of a.fixed.refers) x p → is_type p ≡ true → a.inner ≡ [] → a.flags.object ≡ false →
    Ends a b (printed_line a.fixed x sc (state a)) r → Declares a.seen b.seen (declared p) r
declares_line a b r law x sc p i e none off d =
    let y = part_of (world_of a.fixed.refers) x p i in
    declares_by a b (line_at (place_in a.fixed) (Some y.0) sc (state a)) (declared p)
    (law (world_of a.fixed.refers) (place_in a.fixed).left x y.0 p sc (state a) i e y.1 none off) r
    (subst (λ o. Ends a b (line_at (place_in a.fixed) o sc (state a)) r) y.1 d)
