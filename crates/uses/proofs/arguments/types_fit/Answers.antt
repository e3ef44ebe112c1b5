use Rattle.std.proofs.Common.{Decides, sym, subst, ⊎_elim}
use Rattle.meaning.specs.Types.{types_of}
use Rattle.meaning.specs.Uses.{TypesFit}
use Rattle.uses.proofs.arguments.types_fit.Goals as goal

pub returns-in-Send : goal.returns-in-Send
returns-in-Send g c =
    let K = g.C.Counting.operations c.args.sheet.now.counting in
    let types = types_of c.args.sheet.now.tables in
    let r = c.arguments_fit.result in
    ⊎_elim (λ e. subst (λ node. Decides r (TypesFit K types node)) (sym e) c.arguments_fit.ensures)
    (λ e. subst (λ node. Decides r (TypesFit K types node)) (sym e.1) c.arguments_fit.ensures)
    c.in-Send.is
