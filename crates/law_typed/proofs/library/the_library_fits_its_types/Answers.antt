use Rattle.law_typed.proofs.Fitting.{library_fits}
use Rattle.law_typed.proofs.library.the_library_fits_its_types.Goals as goal

pub returns : goal.returns
returns c = library_fits
