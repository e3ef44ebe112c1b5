use Rattle.std.proofs.Common.{refl}
use Rattle.sheet.proofs.Labelling.{decided, undecided, refuted, repeated_here, unrepeated_more, unrepeated_all}
use Rattle.sheet.proofs.types.repeats_label.Goals as goal

pub returns-then-has_label : goal.returns-then-has_label
returns-then-has_label c =
    decided (repeated_here c.args.all.now c.loop-i.i _ c.loop-i-test.true (c.if-has_label.ensures.0 refl))

pub loop-i-preserved : goal.loop-i-preserved
loop-i-preserved c =
    unrepeated_more c.args.all.now c.loop-i.i _ c.loop-i.invariant (refuted c.if-has_label.ensures)

pub returns : goal.returns
returns c =
    undecided (unrepeated_all c.args.all.now c.loop-i.i c.loop-i-test.false c.loop-i.invariant)
