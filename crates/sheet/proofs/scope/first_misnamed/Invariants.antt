use Rattle.std.proofs.Common.{ℕ, ◌<◌}
use Rattle.sheet.specs.Scope.{Misnamed}
use Rattle.sheet.proofs.scope.first_misnamed.Given as goal

abbrev pub invariant-loop-n : goal.invariant-loop-n
invariant-loop-n l = (j : ℕ) → j < l.n → Misnamed l.nodes j → ⊥
