use Rattle.std.proofs.Common.{rules}
use Rattle.std.proofs.lemmas.Bool.Decides.{not_from_Decides}
use Rattle.sheet.specs.Scope.{Outside}
use Rattle.sheet.proofs.Scoped.{any_decides, any_first, others_decide}
use Rattle.sheet.proofs.scope.TreeChart.uses_wrongly.Goals as goal

pub returns-then-any : goal.returns-then-any
returns-then-any c =
    let P = Outside c.args.self.now.chart.now.binders c.args.self.now.chart.now.parents c.args.n in
    let first = any_decides P _ _ c.any.ensures (λ x b h. search rules) in
    (λ t. any_first P _ _ _ c.names_used.ensures (first.0 c.if-any.true), λ _. c.if-any.true)

pub returns-else-any : goal.returns-else-any
returns-else-any c =
    let P = Outside c.args.self.now.chart.now.binders c.args.self.now.chart.now.parents c.args.n in
    let first = any_decides P _ _ c.any.ensures (λ x b h. search rules) in
    others_decide P _ _ _ _ c.names_used.ensures (not_from_Decides c.any.result first c.if-any.false) (any_decides P _ _ c.any-else-any.ensures (λ x b h. search rules))
