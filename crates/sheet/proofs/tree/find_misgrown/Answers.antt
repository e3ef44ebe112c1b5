use Rattle.std.proofs.Common.{◌<◌, length, arith, below_more}
use Rattle.sheet.proofs.Grown.{grown}
use Rattle.sheet.proofs.tree.find_misgrown.Goals as goal

pub loop-n-preserved : goal.loop-n-preserved
loop-n-preserved c =
    let l : c.loop-n.n < length c.args.counts.now = omega arith in
    below_more _ _ c.loop-n.invariant (grown c.args.nodes.now c.loop-n.n _ (c.requires.counted _ l) c.if-is_misgrown.ensures)
