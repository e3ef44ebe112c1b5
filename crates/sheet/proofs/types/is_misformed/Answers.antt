use Rattle.std.proofs.Common.{refl}
use Rattle.sheet.proofs.Labelling.{refuted, misformed_twice, misformed_by_depth}
use Rattle.sheet.proofs.types.is_misformed.Goals as goal

pub returns-then-repeats_label : goal.returns-then-repeats_label
returns-then-repeats_label c = (
  λ _. misformed_twice c.args.types.now c.args.at _ c.entries_of.ensures (c.if-repeats_label.ensures.0 refl),
  λ _. c.if-repeats_label.true,
)

pub returns-else-repeats_label : goal.returns-else-repeats_label
returns-else-repeats_label c =
    misformed_by_depth c.args.types.now c.args.at _ c.nests_within.result c.entries_of.ensures
    (refuted c.if-repeats_label.ensures)
    c.nests_within.ensures
