use Rattle.sheet.proofs.Labelling.{Unrepeated}
use Rattle.sheet.proofs.types.repeats_label.Given as goal

abbrev pub invariant-loop-i : goal.invariant-loop-i
invariant-loop-i l = Unrepeated l.all l.i
