-- What amounts_fit promises is a theorem: no join passes the ceiling.
use Rattle.calculus.proofs.Ceiling.{amounts_fit}
use Rattle.calculus.proofs.amounts_fit.Goals as goal

pub returns : goal.returns
returns c = amounts_fit
