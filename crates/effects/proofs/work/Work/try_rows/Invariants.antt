use Rattle.std.proofs.Common.{ℕ, List, length, take}
use Rattle.fault.specs.declared.label.Label.{Label}
use Rattle.effects.specs.Found.{FirstIn, brought}
use Rattle.effects.specs.Steps.{Amounts, NonePast}
use Rattle.effects.proofs.work.Work.try_rows.Given as goal

abbrev pub invariant-loop-row : goal.invariant-loop-row
invariant-loop-row g l =
    NonePast (length l.self.nodes.now) l.amounts
    × ((A : Label ℕ → ℕ → ℕ) → ((M : Label ℕ) → Amounts (g.C.Counting.operations l.self.counting.now) l.self.nodes.now l.self.rows.now M (A M)) → (S : List (Label ℕ)) →
    FirstIn (g.C.Counting.operations l.self.counting.now) l.self.nodes.now A S l.fn.best →
    FirstIn (g.C.Counting.operations l.self.counting.now) l.self.nodes.now A (brought (take l.row-index l.rows) S) l.best)
