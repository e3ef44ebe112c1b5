use Rattle.std.proofs.Common.{sym, refl, arith}
use Rattle.sheet.specs.Filling.{grown_name}
use Rattle.sheet.proofs.Growing.{when_pushed}
use Rattle.sheet.proofs.fill.add_name.Goals as goal

pub returns-in-Name : goal.returns-in-Name
returns-in-Name c =
    when_pushed _ _ c.push.result _ c.ok.ensures.value c.push.ensures
    (λ e. grown_name c.in-Name.sort (sym c.in-Name.is) (omega (arith, c.from.ensures, c.if-from-limits.true)) e refl refl)
    (λ h. absurd (omega (arith, h.1, c.requires)))
