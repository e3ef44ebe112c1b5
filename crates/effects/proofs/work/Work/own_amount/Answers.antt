use Rattle.std.proofs.Common.{subst}
use Rattle.meaning.specs.Shares.{JoinedFor}
use Rattle.effects.specs.Steps.{gives}
use Rattle.effects.specs.Rows.{places}
use Rattle.effects.proofs.Naming.{gives_each}
use Rattle.effects.proofs.work.Work.own_amount.Goals as goal

pub returns : goal.returns
returns g c =
    let K = g.C.Counting.operations c.args.self.now.counting.now in
    let L = c.args.label.now in
    let joined = subst (λ rows. JoinedFor K rows L c.joined_for.result) c.node_rows.ensures c.joined_for.ensures in
    joined (gives L) (gives_each L (places c.args.self.now.rows.now c.args.n))
