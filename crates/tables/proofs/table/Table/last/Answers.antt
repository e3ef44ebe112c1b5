use Rattle.std.proofs.Common.{ap, ◌∙◌}
use Rattle.tables.specs.Elements.{last_of}
use Rattle.tables.proofs.Tabled.{last_given}
use Rattle.tables.proofs.table.Table.last.Goals as goal

pub returns : goal.returns
returns g c = c.copied.ensures ∙ last_given c.as_slice.result.now c.last.result c.last.ensures.item ∙ ap last_of c.as_slice.ensures.value
