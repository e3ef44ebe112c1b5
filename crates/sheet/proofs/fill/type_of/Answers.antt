use Rattle.std.proofs.Common.{◌≡◌, ℕ, sym, ◌∙◌, subst, arith, MatchOption}
use Rattle.sheet.specs.Filling.{NoTypeFits, IsType}
use Rattle.sheet.proofs.Growing.{no_channel}
use Rattle.sheet.proofs.fill.type_of.Goals as goal

pub returns-in_err-components-in-Channel : goal.returns-in_err-components-in-Channel
returns-in_err-components-in-Channel c =
    let is = c.in-Channel.is in
    subst (λ o. MatchOption o (NoTypeFits c.args.own c.args.given) (IsType c.args.own c.args.given)) (sym c.from_residual.ensures)
    (record {
      not_pure = λ e. let z : ◌≡◌ {A = ℕ} 0 1 = cc in omega arith;
      not_public = λ e. let z : ◌≡◌ {A = ℕ} 0 1 = cc in omega arith;
      not_channel = λ xs h e. no_channel c.args.own c.requires _ _ c.in_err-components-in-Channel.ensures.value xs h (sym is ∙ e);
    })
