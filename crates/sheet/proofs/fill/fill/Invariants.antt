use Rattle.std.proofs.Common.{◌+◌, ◌≤◌, List, length}
use Rattle.sheet.specs.Filling.{Readable}
use Rattle.records.specs.declared.record.Record.{Record}
use Rattle.sheet.proofs.Progress.{Progress}
use Rattle.sheet.proofs.fill.fill.Given as goal

abbrev pub invariant-loop-left : goal.invariant-loop-left
invariant-loop-left l =
    (l.place + length l.left ≤ length l.bytes) × ((rs : List Record) × Readable l.bytes l.fn.totals rs × Progress l.fn.basis rs l.place l.left l.tables)

abbrev pub decreases-loop-left : goal.decreases-loop-left
decreases-loop-left l = length l.left
