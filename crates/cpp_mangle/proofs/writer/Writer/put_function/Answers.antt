use Rattle.std.specs.Prelude.{OnOk}
use Rattle.std.proofs.Common.{◌≡◌, ap, sym, subst, ◌∙◌, map}
use Rattle.cpp_mangle.specs.Closed.{Closed}
use Rattle.cpp_mangle.specs.Plain.{known, plain_type}
use Rattle.cpp_mangle.proofs.Known.{closed_fronts_of, fronts_known, whole_name}
use Rattle.cpp_mangle.proofs.writer.Writer.put_function.Goals as goal

pub put_params-requires : goal.put_params-requires
put_params-requires c =
    subst Closed
    (sym (fronts_known c.saturating_sub.result c.parts-parts.result.now c.args.path.now (known c.put_path.new.self)
    (known c.add_fronts.new.self) c.saturating_sub.ensures c.parts-parts.ensures.parts
    (c.put_path.ensures.known ∙ c.requires.known) c.in_ok-add_fronts.ensures.known))
    (closed_fronts_of c.args.path.now)

pub returns : goal.returns
returns c =
    subst (λ z. OnOk c.put_params.result (c.put_params.new.self.out.items ≡ z))
    (whole_name c.parts-parts.result.now c.args.path.now (map plain_type c.args.params.now) (known c.args.self.now)
    (known c.add_fronts.new.self) c.args.self.now.out.items c.extend_from_slice.new.self.items
    c.put_path.new.self.out.items c.add_fronts.new.self.out.items c.parts-parts.ensures.parts c.requires.known
    c.requires.out c.in_ok-extend_from_slice.ensures.items c.in_ok-put_path.ensures.out
    (ap (λ o. o.items) c.add_fronts.ensures.out)
    (fronts_known c.saturating_sub.result c.parts-parts.result.now c.args.path.now (known c.put_path.new.self)
    (known c.add_fronts.new.self) c.saturating_sub.ensures c.parts-parts.ensures.parts
    (c.put_path.ensures.known ∙ c.requires.known) c.in_ok-add_fronts.ensures.known))
    c.put_params.ensures
