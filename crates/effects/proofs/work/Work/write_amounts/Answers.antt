use Rattle.std.proofs.Common.{◌≡◌, ℕ, ◌-◌, ◌<◌, length, get_or, sym, ◌∙◌, arith, rules, length-set}
use Rattle.std.proofs.lemmas.List.{get_or-set_other}
use Rattle.meaning.proofs.Joining.{below_bound}
use Rattle.effects.proofs.Steps.{amount_past, amount_from, filled_more}
use Rattle.effects.proofs.work.Work.write_amounts.Goals as goal

pub loop-n-init : goal.loop-n-init
loop-n-init g c = (
  search rules,
  c.requires,
  λ A a m l. c.requires m l
      ∙ sym (amount_past (g.C.Counting.operations c.args.self.now.counting.now) c.args.self.now.nodes.now c.args.self.now.rows.now c.args.label.now A a m l),
)

pub loop-n-preserved : goal.loop-n-preserved
loop-n-preserved g c =
    let K = g.C.Counting.operations c.args.self.now.counting.now in
    let nodes = c.args.self.now.nodes.now in
    let rows = c.args.self.now.rows.now in
    let L = c.args.label.now in
    let n = c.loop-n.n - 1 in
    let within : n < length nodes = omega arith in (
      length-set c.loop-n.amounts n c.node_amount-amount.result ∙ c.loop-n.invariant.0,
      λ m l. get_or-set_other c.loop-n.amounts n m c.node_amount-amount.result 0 (omega arith) ∙ c.loop-n.invariant.1 m l,
      λ A a.
          let after : (m : ℕ) → n < m → get_or c.loop-n.amounts m 0 ≡ A m = λ m l. c.loop-n.invariant.2 A a m (omega arith) in
          let same = amount_from K nodes rows L A a c.loop-n.amounts n within after in
          filled_more A c.loop-n.amounts n c.node_amount-amount.result (omega (arith, c.args.self.now.few, c.loop-n.invariant.0)) after
          (c.node_amount-amount.ensures (a.own_fits n within) (below_bound same (a.fits n)) ∙ same),
    )
