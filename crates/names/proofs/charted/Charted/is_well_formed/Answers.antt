use Rattle.std.proofs.Common.{replicate}
use Rattle.names.proofs.Forming.{no_counts, well_tested}
use Rattle.names.proofs.charted.Charted.is_well_formed.Goals as goal

pub returns : goal.returns
returns c =
    well_tested c.args.self.now.tables.now c.args.x c.type_number.result c.scope_for.result (replicate 4 0) c.as_slice.result.now c.is_formed.result
    c.scope_for.ensures no_counts c.as_slice.ensures.value c.type_number.ensures c.is_formed.ensures
