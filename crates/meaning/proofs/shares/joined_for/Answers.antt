use Rattle.std.proofs.Common.{◌≡◌, ap, sym, ◌∙◌, arith}
use Rattle.std.proofs.lemmas.List.{take_all}
use Rattle.calculus.specs.Joins.{join_over}
use Rattle.meaning.proofs.Joining.{joined_more}
use Rattle.meaning.proofs.shares.joined_for.Goals as goal
use Rattle.meaning.proofs.shares.joined_for.Goals.{then-given-ne0, else-given-ne0}

pub loop-share-preserved : goal.loop-share-preserved
loop-share-preserved g c =
    let K = g.C.Counting.operations c.args.counting.now in
    let W = g.met.C.Counting.lawful c.args.counting.now in
    let sum = c.loop-share.sum in
    let more = joined_more K W c.args.shares.now c.args.label.now c.loop-share.share-index c.share-item.result sum c.given_to-given.result c.if-given-ne0.sum
    c.loop-share-test.true c.share-item.is c.loop-share.invariant c.given_to-given.ensures in
    elim c.if-given-ne0.branch [
      | then-given-ne0 w ↦ more (λ fits. w.sum-is ∙ w.join_or_zero-sum.ensures.within fits)
      | else-given-ne0 w ↦
          let none : c.given_to-given.result ≡ 0 = omega (arith, w.if-given-ne0.false) in
          more (λ fits. w.sum-is ∙ sym (ap (K.join sum) none ∙ W.neutral sum))
    ]

pub returns : goal.returns
returns g c f gives fits =
    c.loop-share.invariant f gives fits
    ∙ ap (λ xs. join_over (g.C.Counting.operations c.args.counting.now) xs f) (take_all c.loop-share.share-index c.args.shares.now c.loop-share-test.false)
