-- What runs_safe promises is a theorem: runs of accepted processes are safe.
use Rattle.calculus.proofs.Safety.{runs_safe}
use Rattle.calculus.proofs.runs_safe.Goals as goal

pub returns : goal.returns
returns c = runs_safe
