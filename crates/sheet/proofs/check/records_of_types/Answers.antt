use Rattle.std.proofs.Common.{ℕ, length, sym, ◌∙◌, arith, rules}
use Rattle.std.proofs.lemmas.Iterator.{YieldsList-from_slice, YieldsList-from_map}
use Rattle.std.proofs.lemmas.Iterator.Consumers.{sum_by_from_yields_List}
use Rattle.std.proofs.lemmas.List.Concat.{length-flat_map}
use Rattle.tables.specs.Encoding.{type_records}
use Rattle.tables.specs.declared.tables.SheetType.{SheetType}
use Rattle.sheet.proofs.Checking.{types_few}
use Rattle.sheet.proofs.check.records_of_types.Goals as goal

pub returns-clause-value : goal.returns-clause-value
returns-clause-value c =
    let records : SheetType → ℕ = λ t. length (type_records t) in
    let given = YieldsList-from_slice c.args.types.now (search rules) in
    sum_by_from_yields_List records c.args.types.now _ c.sum.result c.sum.ensures.ran (YieldsList-from_map _ records given (search rules) (λ x r q k. search rules))
    ∙ sym (length-flat_map type_records c.args.types.now)

pub returns-clause-few : goal.returns-clause-few
returns-clause-few c = omega (arith, returns-clause-value c, types_few c.args.types.now, c.requires)
