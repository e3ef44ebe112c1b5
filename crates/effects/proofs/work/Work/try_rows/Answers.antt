use Rattle.std.proofs.Common.{ℕ, List, take, add-one, sym, ap, ◌∙◌, subst}
use Rattle.std.proofs.lemmas.List.{take_all}
use Rattle.fault.specs.declared.label.Label.{Label}
use Rattle.effects.specs.Found.{FirstIn, brought}
use Rattle.effects.proofs.Tried.{brought_more}
use Rattle.effects.proofs.work.Work.try_rows.Goals as goal

pub loop-row-preserved : goal.loop-row-preserved
loop-row-preserved g c =
    let K = g.C.Counting.operations c.args.self.now.counting.now in
    let rows = c.args.rows.now in
    let i = c.loop-row.row-index in (
      c.try_row-best.ensures.past,
      λ A a S b. subst (λ (X : List (Label ℕ)). FirstIn K c.args.self.now.nodes.now A X c.try_row-best.result)
          (brought_more rows i _ S c.loop-row-test.true ∙ ap (λ k. brought (take k rows) S) (sym (add-one i)))
          (c.try_row-best.ensures.first A a (brought (take i rows) S) (c.loop-row.invariant.1 A a S b)),
    )

pub returns-clause-first : goal.returns-clause-first
returns-clause-first g c A a S b =
    let K = g.C.Counting.operations c.args.self.now.counting.now in
    subst (λ X. FirstIn K c.args.self.now.nodes.now A (brought X S) c.loop-row.best) (take_all c.loop-row.row-index c.args.rows.now c.loop-row-test.false)
    (c.loop-row.invariant.1 A a S b)
