use Rattle.std.proofs.Common.{◌<◌, [], ◌∷◌, length, ap, arith}
use Rattle.tables.specs.Encoding.{parts}
use Rattle.tables.proofs.Iterated.{all_yielded, few}
use Rattle.sheet.specs.Tree.{times}
use Rattle.sheet.proofs.Grown.{times_one, times_more}
use Rattle.sheet.proofs.tree.count_each.Goals as goal

pub loop-child-init : goal.loop-child-init
loop-child-init c = (
  λ k l. omega arith,
  λ k l. omega (arith, c.requires k l, few c.into_iter-child-iterator.result.0),
)

pub loop-child-preserved : goal.loop-child-preserved
loop-child-preserved c = (
  λ k l.
      let l₀ : k < length c.loop-child.counts = omega arith in
      let same = ap (λ x. times k (x ∷ [])) c.from.ensures in
      omega (arith, c.loop-child.invariant.0 k l₀, c.count_child.ensures k l₀, times_more k c.in-Some.child c.loop-child.yielded, same),
  λ k l.
      let l₀ : k < length c.loop-child.counts = omega arith in
      let step = ap length c.in-Some.ensures.steps in
      omega (arith, c.loop-child.invariant.1 k l₀, c.count_child.ensures k l₀, times_one k c.from.result, step),
)

pub returns : goal.returns
returns c k l =
    let l₀ : k < length c.loop-child.counts = omega arith in
    let all = all_yielded _ _ _ (parts c.args.children) _ _ c.into_iter-child-iterator.ensures.into_iter_gives c.loop-child.yielded_by c.in-None.is c.next.ensures.steps in
    omega (arith, c.loop-child.invariant.0 k l₀, ap (times k) all)
