use Rattle.std.proofs.Common.{◌≡◌, ◌+◌, ◌≤◌, List, ◌++◌, length}
use Rattle.std.specs.List.{flat_map}
use Rattle.records.specs.Records.{codes}
use Rattle.sheet.specs.Order.{Seen}
use Rattle.records.specs.declared.record.Record.{Record}
use Rattle.sheet.proofs.scan.scan.Given as goal

abbrev pub invariant-loop-left : goal.invariant-loop-left
invariant-loop-left l = (l.seen.place + length l.left ≤ length l.bytes) × ((rs : List Record) × (flat_map codes rs ++ l.left ≡ l.bytes) × Seen rs l.seen)

abbrev pub decreases-loop-left : goal.decreases-loop-left
decreases-loop-left l = length l.left
