use Rattle.std.proofs.Common.{◌≡◌, true, refl, subst, arith}
use Rattle.tables.specs.Range.{type_fits}
use Rattle.sheet.specs.Filling.{grown_type}
use Rattle.sheet.proofs.Growing.{when_pushed}
use Rattle.sheet.proofs.fill.add_type.Goals as goal

pub returns : goal.returns
returns c =
    let made = c.in_ok-made.ensures in
    let largest = c.args.limits.basis.largest in
    let names = c.args.limits.totals.names in
    when_pushed _ _ c.push.result _ c.ok.ensures.value c.push.ensures
    (λ e. grown_type c.in_ok-made.made made.written (subst (λ n. type_fits largest names n c.in_ok-made.made ≡ true) c.len.ensures.value (made.fits largest names)) e refl refl)
    (λ h. absurd (omega (arith, h.1, c.requires)))
