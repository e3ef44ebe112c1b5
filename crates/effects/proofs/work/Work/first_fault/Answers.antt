use Rattle.std.proofs.Common.{◌≡◌, ℕ, ◌+◌, List, length, Option, sym, ap, ◌∙◌, subst, arith, rules}
use Rattle.fault.specs.declared.label.Label.{Label}
use Rattle.effects.specs.Rows.{Row}
use Rattle.effects.specs.Found.{FirstIn, brought, tried}
use Rattle.effects.specs.declared.found.Found.{Found}
use Rattle.effects.proofs.Lists.{all_same}
use Rattle.effects.proofs.Tried.{tried_asked, tried_unasked, all_tried}
use Rattle.effects.proofs.work.Work.first_fault.Goals as goal
use Rattle.effects.proofs.work.Work.first_fault.Goals.{then-is_asking, else-is_asking}

pub loop-n-init : goal.loop-n-init
loop-n-init g c = (λ m l. all_same 1024 m 0, λ A a L e p. absurd e)

pub loop-n-preserved : goal.loop-n-preserved
loop-n-preserved g c =
    let K = g.C.Counting.operations c.args.self.now.counting.now in
    let nodes = c.args.self.now.nodes.now in
    let rows = c.args.self.now.rows.now in
    let n = c.loop-n.n in
    elim c.if-is_asking.branch [
      | then-is_asking w ↦ (
        search rules,
        λ A a. subst (λ (r : Option Found). FirstIn K nodes A (tried nodes rows (n + 1)) r) (sym w.best-is)
            (subst (λ (S : List (Label ℕ)). FirstIn K nodes A S w.try_rows-best.result)
            (ap (λ (xs : List Row). brought xs (tried nodes rows n)) w.node_rows.ensures ∙ tried_asked nodes rows n (sym c.is_asking.ensures ∙ w.if-is_asking.true))
            (w.try_rows-best.ensures.first A a (tried nodes rows n) (c.loop-n.invariant.1 A a))),
      )
      | else-is_asking w ↦ (
        search rules,
        λ A a. subst (λ (r : Option Found). FirstIn K nodes A (tried nodes rows (n + 1)) r) (sym w.best-is)
            (subst (λ (S : List (Label ℕ)). FirstIn K nodes A S c.loop-n.best) (tried_unasked nodes rows n (sym c.is_asking.ensures ∙ w.if-is_asking.false)) (c.loop-n.invariant.1 A a)),
      )
    ]

pub returns : goal.returns
returns g c A a =
    let K = g.C.Counting.operations c.args.self.now.counting.now in
    let nodes = c.args.self.now.nodes.now in
    let rows = c.args.self.now.rows.now in
    let end : c.loop-n.n ≡ length nodes = omega arith in
    all_tried K (g.met.C.Counting.lawful c.args.self.now.counting.now) nodes rows A a c.loop-n.best
    (subst (λ (k : ℕ). FirstIn K nodes A (tried nodes rows k) c.loop-n.best) end (c.loop-n.invariant.1 A a))
