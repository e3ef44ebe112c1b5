use Rattle.std.proofs.Common.{rules}
use Rattle.tables.proofs.Tabled.{replaced}
use Rattle.tables.proofs.table.Table.replace_last.Goals as goal

pub returns-then-self-gt0 : goal.returns-then-self-gt0
returns-then-self-gt0 g c = let t = c.args.self.now in replaced t.count t.items c.args.item c.if-self-gt0.true (search rules)
