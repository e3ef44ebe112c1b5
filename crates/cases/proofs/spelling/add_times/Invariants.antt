use Rattle.std.proofs.Common.{◌≡◌, ◌++◌, ◌-◌, ◌<◌, ◌≤◌, length}
use Rattle.std.specs.List.{repeat}
use Rattle.cases.proofs.spelling.add_times.Given as goal

abbrev pub invariant-loop-done : goal.invariant-loop-done
invariant-loop-done l = (0 < l.done) × (l.done ≤ l.times) × (l.start ≡ length l.fn.bytes.items) × (l.bytes.items ≡ l.fn.bytes.items ++ repeat l.done l.piece)

abbrev pub decreases-loop-done : goal.decreases-loop-done
decreases-loop-done l = l.times - l.done
