use Rattle.std.proofs.Common.{◌<◌, length, ap, ◌∙◌, arith}
use Rattle.std.proofs.lemmas.List.{take_all}
use Rattle.tables.specs.Encoding.{parts}
use Rattle.sheet.specs.Tree.{named}
use Rattle.sheet.proofs.Grown.{times_few, named_more}
use Rattle.sheet.proofs.tree.count_children.Goals as goal

pub loop-node-preserved : goal.loop-node-preserved
loop-node-preserved c =
    let i = c.loop-node.node-index in (
      λ k l.
          let l₀ : k < length c.loop-node.counts = omega arith in
          let n = named_more c.args.nodes.now i k (parts c.children_of.result) c.loop-node-test.true c.children_of.ensures in
          omega (arith, n, c.loop-node.invariant.0 k l₀, c.count_each.ensures k l₀),
      λ k l.
          let l₀ : k < length c.loop-node.counts = omega arith in
          omega (arith, times_few k c.children_of.result.0, c.loop-node.invariant.1 k l₀, c.count_each.ensures k l₀),
    )

pub returns : goal.returns
returns c k l =
    let l₀ : k < length c.loop-node.counts = omega arith in
    c.loop-node.invariant.0 k l₀ ∙ ap (λ ns. named ns k) (take_all c.loop-node.node-index c.args.nodes.now c.loop-node-test.false)
