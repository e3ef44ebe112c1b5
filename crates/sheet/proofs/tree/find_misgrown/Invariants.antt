use Rattle.std.proofs.Common.{◌≡◌, ℕ, ◌<◌, true}
use Rattle.sheet.specs.Tree.{misgrown}
use Rattle.sheet.proofs.tree.find_misgrown.Given as goal

abbrev pub invariant-loop-n : goal.invariant-loop-n
invariant-loop-n l = (j : ℕ) → j < l.n → misgrown l.nodes j ≡ true → ⊥
