use Rattle.std.proofs.Common.{Ok, Err, sym, subst}
use Rattle.std.proofs.lemmas.Result.{err_from_is_err_and}
use Rattle.sheet.specs.Opening.{Means}
use Rattle.sheet.proofs.Readings.{one_way}
use Rattle.sheet.proofs.opened.open.Goals as goal

pub returns-in_err-tables-clause-meaning : goal.returns-in_err-tables-clause-meaning
returns-in_err-tables-clause-meaning g c =
    let p = err_from_is_err_and c.from_residual.result c.from_residual.ensures.1 in
    rw (p.1, p.2) (subst (λ b. Means b c.args.bytes.now (Err c.in_err-tables.field-0.0)) c.basis_of.ensures c.in_err-tables.ensures)

pub returns-in_err-tables-clause-one : goal.returns-in_err-tables-clause-one
returns-in_err-tables-clause-one g c = one_way c.args.bytes.now

pub returns-clause-meaning : goal.returns-clause-meaning
returns-clause-meaning g c =
    let held = subst (λ t. Means c.basis_of.result c.args.bytes.now (Ok t)) (sym c.seal.ensures.tables) c.in_ok-tables.ensures in
    subst (λ b. Means b c.args.bytes.now (Ok c.seal.result.tables)) c.basis_of.ensures held

pub returns-clause-one : goal.returns-clause-one
returns-clause-one g c = one_way c.args.bytes.now
