use Rattle.std.proofs.Common.{◌≡◌, ℕ, ◌*◌, ◌<◌, ◌≤◌, length, get_or, take}
use Rattle.sheet.specs.Tree.{named}
use Rattle.sheet.proofs.tree.count_children.Given as goal

-- the nodes so far are counted, at most four children each
abbrev pub invariant-loop-node : goal.invariant-loop-node
invariant-loop-node l =
    ((k : ℕ) → k < length l.counts → get_or l.counts k 0 ≡ named (take l.node-index l.nodes) k)
    × ((k : ℕ) → k < length l.counts → get_or l.counts k 0 ≤ 4 * l.node-index)
