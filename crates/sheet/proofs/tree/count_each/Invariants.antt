use Rattle.std.proofs.Common.{◌≡◌, ℕ, ◌+◌, ◌<◌, ◌≤◌, length, get_or}
use Rattle.fault.specs.Items.{things}
use Rattle.sheet.specs.Tree.{times}
use Rattle.sheet.proofs.tree.count_each.Given as goal

-- those so far are counted, and there is room for what is left
abbrev pub invariant-loop-child : goal.invariant-loop-child
invariant-loop-child l =
    ((k : ℕ) → k < length l.counts → get_or l.counts k 0 ≡ get_or l.initial.counts k 0 + times k l.yielded)
    × ((k : ℕ) → k < length l.counts → get_or l.counts k 0 + length (things l.child-iterator.0) ≤ 4100)
