use Rattle.std.proofs.Common.{refl, arith, below_more}
use Rattle.sheet.specs.Types.{Misformed}
use Rattle.sheet.proofs.Labelling.{refuted}
use Rattle.sheet.proofs.types.first_misformed.Goals as goal

pub returns-then-is_misformed : goal.returns-then-is_misformed
returns-then-is_misformed c = (omega arith, c.if-is_misformed.ensures.0 refl, c.loop-at.invariant)

pub loop-at-preserved : goal.loop-at-preserved
loop-at-preserved c = below_more (λ j. Misformed c.args.types.now j → ⊥) c.loop-at.at c.loop-at.invariant (refuted c.if-is_misformed.ensures)

pub returns : goal.returns
returns c = λ i h. c.loop-at.invariant i (omega arith)
