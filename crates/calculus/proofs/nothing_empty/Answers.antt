-- What nothing_empty promises is a theorem: the worked process is accepted and runs, under both countings.
use Rattle.calculus.proofs.Worked.{nothing_empty}
use Rattle.calculus.proofs.nothing_empty.Goals as goal

pub returns : goal.returns
returns c = nothing_empty
