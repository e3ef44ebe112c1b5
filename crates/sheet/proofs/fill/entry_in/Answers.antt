use Rattle.std.proofs.Common.{sym, ◌∙◌, subst}
use Rattle.sheet.specs.Filling.{totals_of, NoEntryFits}
use Rattle.sheet.proofs.Growing.{no_entry, other_entry, when_kept}
use Rattle.sheet.proofs.fill.entry_in.Goals as goal

pub returns-in_err-made : goal.returns-in_err-made
returns-in_err-made c =
    rw c.from_residual.ensures
    (subst (NoEntryFits c.args.limits.basis (totals_of c.args.limits.totals)) (sym c.in-Entry.is) (no_entry c.args.limits.basis (totals_of c.args.limits.totals) c.args.limits.few _ _ c.in_err-made.ensures.value))

pub returns : goal.returns
returns c =
    let b = c.args.limits.basis in
    let n = totals_of c.args.limits.totals in
    when_kept _ _ c.entry_fits.result c.in_ok-made.made _ c.then_some.ensures
    (λ fits. record { written = c.in_ok-made.ensures.back ∙ sym c.in-Entry.is; fits = sym c.entry_fits.ensures ∙ fits })
    (λ unfit. subst (NoEntryFits b n) (sym c.in-Entry.is) (other_entry b n c.args.limits.few _ _ c.in_ok-made.made c.in_ok-made.ensures.value (sym unfit ∙ c.entry_fits.ensures)))
