use Rattle.std.proofs.Common.{◌≡◌, List, ℕ, Bor}
use Rattle.tables.specs.Encoding.{parts}
use Rattle.tables.specs.declared.tables.Node.{Node}
use Rattle.sheet.specs.Scope.{Holders}
use Rattle.sheet.proofs.chart.find_holders.Given as goal

abbrev pub invariant-loop-n : goal.invariant-loop-n
invariant-loop-n g l = (of : Node → List ℕ) → ((node : Bor Node) (r : _) → g.F.Fn.post l.held (node, tt) r → parts r ≡ of node.now) → Holders of l.nodes l.n l.table
