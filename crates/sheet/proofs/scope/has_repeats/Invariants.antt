use Rattle.std.proofs.Common.{◌≡◌, length}
use Rattle.fault.specs.Items.{things}
use Rattle.tables.specs.Encoding.{parts}
use Rattle.sheet.specs.Scope.{repeats}
use Rattle.sheet.proofs.scope.has_repeats.Given as goal

abbrev pub invariant-loop-left : goal.invariant-loop-left
invariant-loop-left l = repeats (parts l.names) ≡ repeats (things l.left)

abbrev pub decreases-loop-left : goal.decreases-loop-left
decreases-loop-left l = length (things l.left)
