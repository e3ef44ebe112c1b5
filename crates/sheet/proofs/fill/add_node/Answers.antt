use Rattle.std.proofs.Common.{sym, refl, arith, rules}
use Rattle.sheet.specs.Filling.{grown_node}
use Rattle.sheet.proofs.Growing.{when_pushed}
use Rattle.sheet.proofs.fill.add_node.Goals as goal

pub returns-in_err-made : goal.returns-in_err-made
returns-in_err-made c = rw c.from_residual.ensures (search rules)

pub returns : goal.returns
returns c =
    when_pushed _ _ c.push.result _ c.ok.ensures.value c.push.ensures
    (λ e. grown_node c.in_ok-made.made c.in_ok-made.ensures.back (sym c.if-not-node_fits.ensures) e refl refl)
    (λ h. absurd (omega (arith, h.1, c.requires)))
