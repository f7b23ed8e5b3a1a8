use Rattle.demangle_read_rows.proofs.Places.{empty_below}
use Rattle.demangle_read_rows.proofs.SourceNames.{source_found}
use Rattle.demangle_read_rows.proofs.names.source_place.Goals as goal

pub returns-in-empty : goal.returns-in-empty
returns-in-empty c table =
    source_found _ _ _ _ c.args.text c.front-inner.result _ _ _ _ _ table c.in_ok-depth.ensures.0 c.in_ok-depth.ensures.1
    c.in_ok-length.ensures.reads c.in_ok-length.ensures.fits.1 c.front-inner.ensures c.in_ok-place.ensures
    (empty_below _ _ c.rest.ensures c.in-empty.len_below)
