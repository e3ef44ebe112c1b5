use Rattle.sheet.specs.Scope.{Over}
use Rattle.sheet.proofs.scope.TreeChart.is_below.Given as goal

-- what stands over the node reached stands over n; so does b, if it does over n
abbrev pub invariant-loop-parent : goal.invariant-loop-parent
invariant-loop-parent l = (Over l.self.chart.now.parents l.b l.n → Over l.self.chart.now.parents l.b l.from) × (Over l.self.chart.now.parents l.b l.from → Over l.self.chart.now.parents l.b l.n)

abbrev pub decreases-loop-parent : goal.decreases-loop-parent
decreases-loop-parent l = l.from
