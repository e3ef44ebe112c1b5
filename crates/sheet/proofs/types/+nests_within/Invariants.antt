use Rattle.std.proofs.Common.{◌-◌, ◌*◌}
use Rattle.sheet.proofs.types.+nests_within.Given as goal

abbrev pub decreases-all : goal.decreases-all
decreases-all l = 2 * l.levels - 1

abbrev pub decreases-nests_within : goal.decreases-nests_within
decreases-nests_within l = 2 * l.levels
