-- What labels_ordered promises is a theorem: labels stand in one strict order.
use Rattle.calculus.proofs.Orders.{labels_ordered}
use Rattle.calculus.proofs.labels_ordered.Goals as goal

pub returns : goal.returns
returns c = labels_ordered
