use Rattle.std.proofs.Common.{Some, sym, refl, ap, ◌∙◌}
use Rattle.std.proofs.lemmas.Bool.{false≢true}
use Rattle.sheet.specs.Scope.Over.{nearest, beyond}
use Rattle.sheet.proofs.Scoped.{over_parent, over_none}
use Rattle.sheet.proofs.scope.TreeChart.is_below.Goals as goal

pub returns-then-parent-b : goal.returns-then-parent-b
returns-then-parent-b c =
    let e = sym c.in-Some.ensures ∙ ap Some c.if-parent-b.true in
    (λ _. c.loop-parent.invariant.1 (nearest e), λ _. refl)

pub loop-parent-smaller : goal.loop-parent-smaller
loop-parent-smaller c = c.args.self.now.falls _ _ (sym c.in-Some.ensures)

pub loop-parent-preserved : goal.loop-parent-preserved
loop-parent-preserved c =
    let e = sym c.in-Some.ensures in
    (λ o. over_parent _ (c.loop-parent.invariant.0 o) e c.if-parent-b.false, λ o. c.loop-parent.invariant.1 (beyond o e))

pub returns : goal.returns
returns c = (λ f. absurd (false≢true f), λ o. absurd (over_none (c.loop-parent.invariant.0 o) (sym c.in_default.ensures)))
