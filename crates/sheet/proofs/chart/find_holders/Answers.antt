use Rattle.std.proofs.Common.{◌≡◌, ◌+◌, ◌<◌, length, get_or, None, ap, ◌∙◌, subst, arith, rules}
use Rattle.fault.specs.First.{Lowest}
use Rattle.tables.specs.Encoding.{parts}
use Rattle.sheet.specs.Tree.{node_at}
use Rattle.sheet.specs.Scope.{member}
use Rattle.sheet.proofs.Charts.{lowest_more}
use Rattle.sheet.proofs.chart.find_holders.Goals as goal

pub loop-n-preserved : goal.loop-n-preserved
loop-n-preserved g c of says x l =
    let l₀ : x < length c.loop-n.table = omega arith in
    let e = says _ _ c.held.ensures in
    lowest_more _ c.loop-n.n _ _ (member x (parts c.held.result)) (c.loop-n.invariant of says x l₀) (c.note_each.ensures x l₀) (search rules) (search rules)

pub returns : goal.returns
returns g c of says x l =
    let e : c.loop-n.n ≡ length c.args.nodes.now = omega (arith, c.loop-n-test.false, c.loop-n.auto.n-end) in
    subst (λ n. Lowest (λ m. member x (of (node_at c.args.nodes.now m)) ≡ Rattle.std.proofs.Common.true) n (get_or c.loop-n.table x None)) e (c.loop-n.invariant of says x l)
