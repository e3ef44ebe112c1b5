use Rattle.std.proofs.Common.{Decides, rules, sym, ap, ◌∙◌, subst, inr, ⊎_elim}
use Rattle.std.proofs.lemmas.Bool.{false≢true}
use Rattle.sheet.specs.Scope.{repeats, Any, Taken}
use Rattle.sheet.proofs.Scoped.{any_decides}
use Rattle.sheet.proofs.scope.TreeChart.binds_wrongly.Goals as goal

pub returns-else-has_repeats : goal.returns-else-has_repeats
returns-else-has_repeats c =
    let Any-taken = Any (Taken c.args.self.now.chart.now.binders c.args.n) in
    let taken = any_decides (Taken c.args.self.now.chart.now.binders c.args.n) _ _ c.any.ensures (λ x b h. search rules) in
    let here = subst (λ xs. Decides c.any.result (Any-taken xs)) c.names_bound-names.ensures taken in
    let once = sym c.if-has_repeats.false ∙ c.has_repeats.ensures ∙ ap repeats c.names_bound-names.ensures in
    (λ t. inr (here.0 t), ⊎_elim (λ twice. absurd (false≢true (once ∙ twice))) here.1)
