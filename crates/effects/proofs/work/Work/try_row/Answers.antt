use Rattle.std.proofs.Common.{cond, ◌∷◌, sym, subst}
use Rattle.std.proofs.lemmas.Bool.{ne_eqb}
use Rattle.effects.specs.Found.{FirstIn}
use Rattle.effects.proofs.work.Work.try_row.Goals as goal

pub returns-else-row-eq0-clause-first : goal.returns-else-row-eq0-clause-first
returns-else-row-eq0-clause-first g c A a S b =
    let r = c.args.row.now in
    subst (λ t. FirstIn (g.C.Counting.operations c.args.self.now.counting.now) c.args.self.now.nodes.now A (cond t S (r.label ∷ S)) c.try_label.result)
    (sym (ne_eqb r.amount 0 c.if-row-eq0.false)) (c.try_label.ensures.first A (a r.label) S b)
