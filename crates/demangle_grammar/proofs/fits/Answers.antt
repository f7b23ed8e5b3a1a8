use Rattle.demangle_grammar.proofs.Fit.{is_fit}
use Rattle.demangle_grammar.proofs.fits.Goals as goal

pub returns : goal.returns
returns c = is_fit
