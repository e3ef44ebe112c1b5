use Rattle.std.proofs.Common.{◌*◌}
use Rattle.effects.specs.Rows.{Filled}
use Rattle.effects.proofs.rows.fill_rows.Given as goal

abbrev pub invariant-loop-n : goal.invariant-loop-n
invariant-loop-n l = Filled l.full l.types l.owners l.nodes l.rows (8 * l.n)
