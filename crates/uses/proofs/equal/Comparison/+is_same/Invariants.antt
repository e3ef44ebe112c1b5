use Rattle.std.proofs.Common.{ℕ, ◌-◌, ◌<◌, length}
use Rattle.tables.specs.Encoding.{parts}
use Rattle.uses.proofs.Within.{Inner}
use Rattle.uses.proofs.equal.Comparison.+is_same.Given as goal

abbrev pub decreases-is_same : goal.decreases-is_same
decreases-is_same g l = 4 - l.level

-- the components so far are the same
abbrev pub invariant-loop-component : goal.invariant-loop-component
invariant-loop-component g l = (i : ℕ) → i < length l.yielded → Inner (g.C.Counting.operations l.self.counting.now) l.self.types.now (parts l.self.arguments.now) l.level l.left l.right i
