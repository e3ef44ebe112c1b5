use Rattle.std.proofs.Common.{ℕ, length}
use Rattle.fault.specs.declared.label.Label.{Label}
use Rattle.effects.specs.Found.{FirstIn, tried}
use Rattle.effects.specs.Steps.{Amounts, NonePast}
use Rattle.effects.proofs.work.Work.first_fault.Given as goal

abbrev pub invariant-loop-n : goal.invariant-loop-n
invariant-loop-n g l =
    NonePast (length l.self.nodes.now) l.amounts
    × ((A : Label ℕ → ℕ → ℕ) → ((M : Label ℕ) → Amounts (g.C.Counting.operations l.self.counting.now) l.self.nodes.now l.self.rows.now M (A M)) →
    FirstIn (g.C.Counting.operations l.self.counting.now) l.self.nodes.now A (tried l.self.nodes.now l.self.rows.now l.n) l.best)
