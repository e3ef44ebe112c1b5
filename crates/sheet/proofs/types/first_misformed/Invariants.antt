use Rattle.std.proofs.Common.{ℕ, ◌<◌}
use Rattle.sheet.specs.Types.{Misformed}
use Rattle.sheet.proofs.types.first_misformed.Given as goal

abbrev pub invariant-loop-at : goal.invariant-loop-at
invariant-loop-at l = (j : ℕ) → j < l.at → Misformed l.types j → ⊥
