use Rattle.std.proofs.Common.{◌≡◌, ℕ, ◌≤◌, length, get_or}
use Rattle.effects.specs.Steps.{Amounts, NonePast}
use Rattle.effects.proofs.work.Work.write_amounts.Given as goal

abbrev pub invariant-loop-n : goal.invariant-loop-n
invariant-loop-n g l =
    (length l.amounts ≡ 1024)
    × NonePast (length l.self.nodes.now) l.amounts
    × ((A : ℕ → ℕ) → Amounts (g.C.Counting.operations l.self.counting.now) l.self.nodes.now l.self.rows.now l.label A → (m : ℕ) → l.n ≤ m → get_or l.amounts m 0 ≡ A m)
