use Rattle.std.proofs.Common.{arith, below_more}
use Rattle.std.proofs.lemmas.Bool.Decides.{not_from_Decides}
use Rattle.sheet.proofs.Charts.{charted, misnamed_decides}
use Rattle.sheet.proofs.scope.first_misnamed.Goals as goal

pub invariant_of-tree : goal.invariant_of-tree
invariant_of-tree c =
    let e = c.new-chart.ensures in
    let chart = charted c.args.nodes.now c.requires.ranged c.new-chart.result.binders c.new-chart.result.parents e.sizes.0 (omega (arith, c.requires.few, e.sizes.1)) c.requires.tree e.binders e.parents in
    record { falls = chart.falls }

pub returns-then-is_misnamed : goal.returns-then-is_misnamed
returns-then-is_misnamed c =
    let e = c.new-chart.ensures in
    let chart = charted c.args.nodes.now c.requires.ranged c.new-chart.result.binders c.new-chart.result.parents e.sizes.0 (omega (arith, c.requires.few, e.sizes.1)) c.requires.tree e.binders e.parents in
    (c.loop-n-test.true, (misnamed_decides chart c.loop-n.n c.is_misnamed.result c.loop-n-test.true c.is_misnamed.ensures).0 c.if-is_misnamed.true, c.loop-n.invariant)

pub loop-n-preserved : goal.loop-n-preserved
loop-n-preserved c =
    let e = c.new-chart.ensures in
    let chart = charted c.args.nodes.now c.requires.ranged c.new-chart.result.binders c.new-chart.result.parents e.sizes.0 (omega (arith, c.requires.few, e.sizes.1)) c.requires.tree e.binders e.parents in
    below_more _ _ c.loop-n.invariant (not_from_Decides _ (misnamed_decides chart c.loop-n.n c.is_misnamed.result c.loop-n-test.true c.is_misnamed.ensures) c.if-is_misnamed.false)

pub returns : goal.returns
returns c i l = c.loop-n.invariant i (omega (arith, c.loop-n-test.false))
