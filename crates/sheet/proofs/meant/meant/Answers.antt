use Rattle.std.proofs.lemmas.Result.{err_from_is_err_and}
use Rattle.sheet.proofs.Meaning.{scan_means, range_means, check_means, sheet_means}
use Rattle.sheet.proofs.meant.meant.Goals as goal

pub returns-in_err-totals : goal.returns-in_err-totals
returns-in_err-totals c =
    let a = c.in_err-totals.ensures in
    let p = err_from_is_err_and c.from_residual.result c.from_residual.ensures.1 in
    rw (p.1, p.2) (scan_means c.args.basis _ a.0 a.1 a.2 a.3 _ a.4)

pub returns-in_err-tables : goal.returns-in_err-tables
returns-in_err-tables c =
    let a = c.in_err-tables.ensures in
    let p = err_from_is_err_and c.from_residual-in_err-tables.result c.from_residual-in_err-tables.ensures.1 in
    rw (p.1, p.2, a.1) (range_means c.args.basis _ _ a.2 a.3 _ a.4 a.5 a.6)

pub returns-in_err-check : goal.returns-in_err-check
returns-in_err-check c =
    let a = c.in_ok-tables.ensures in
    let p = err_from_is_err_and c.from_residual-in_err-check.result c.from_residual-in_err-check.ensures.1 in
    rw (p.1, p.2) (check_means c.args.basis _ _ a.0 a.1 _ a.2 a.3 _ c.in_err-check.ensures.first)

pub returns : goal.returns
returns c =
    let a = c.in_ok-tables.ensures in
    sheet_means c.args.basis _ _ a.0 a.1 _ a.2 a.3 a.4 c.in_ok-check.ensures.limits c.in_ok-check.ensures.first
