use Rattle.std.proofs.Common.{refl}
use Rattle.judge.proofs.Examples.{all_right}
use Rattle.judge.proofs.nine.nine_sheets.Goals as goal

pub returns : goal.returns
returns c = record { count = refl; verdicts = all_right }
