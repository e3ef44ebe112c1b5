-- What a channel carries; other types carry nothing.
use Rattle.std.specs.Prelude.{ℕ, List, []}
use Rattle.tables.specs.Elements.{elements}
use Rattle.tables.specs.Encoding.{parts}
use Rattle.tables.specs.Shares.{Entry}
use Rattle.tables.specs.declared.tables.SheetType.{SheetType}
use Rattle.tables.specs.declared.tables.SheetType.TheVariants.{Pure, Public, Channel}

abbrev pub components : SheetType → List ℕ
components Pure = []
components Public = []
components (Channel c) = parts c.components

abbrev pub entries : SheetType → List Entry
entries Pure = []
entries Public = []
entries (Channel c) = elements c.entries
