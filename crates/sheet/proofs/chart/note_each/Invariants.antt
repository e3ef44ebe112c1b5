use Rattle.std.proofs.Common.{◌≡◌, ℕ, ◌<◌, length, get_or, None}
use Rattle.std.specs.Option.{option_or}
use Rattle.std.specs.Bool.{then_some}
use Rattle.sheet.specs.Scope.{member}
use Rattle.sheet.proofs.chart.note_each.Given as goal

abbrev pub invariant-loop-number : goal.invariant-loop-number
invariant-loop-number l =
    (y : ℕ) → y < length l.table → get_or l.table y None ≡ option_or (get_or l.initial.table y None) (then_some (member y l.yielded) l.n)
