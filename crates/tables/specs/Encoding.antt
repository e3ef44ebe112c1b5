-- A sheet as its records, in the order of the file: the head, each type with its entries, the names, the nodes.
use Rattle.std.specs.Prelude.{ℕ, ◌+◌, ◌-◌, ◌*◌, List, [], ◌∷◌, ◌++◌, map, length, slice_index_or}
use Rattle.std.specs.List.{flat_map}
use Rattle.fault.specs.Items.{list, things}
use Rattle.tables.specs.Elements.{elements}
use Rattle.tables.specs.declared.basis.Basis.{Basis}
use Rattle.records.specs.declared.record.Quad.{Quad}
use Rattle.records.specs.declared.record.Record.{Record}
use Rattle.records.specs.declared.record.Record.TheVariants as raw
use Rattle.tables.specs.declared.tuple.Tuple.{Tuple}
use Rattle.tables.specs.declared.tables.Item.{Item}
use Rattle.tables.specs.declared.tables.Item.TheVariants.{Name, Index}
use Rattle.tables.specs.Shares.{Entry}
use Rattle.tables.specs.declared.tables.SheetType.{SheetType}
use Rattle.tables.specs.declared.tables.SheetType.TheVariants.{Pure, Public, Channel}
use Rattle.tables.specs.declared.tables.Node.{Node}
use Rattle.tables.specs.declared.tables.Node.TheVariants.{Stop, Send, Receive, Both, Copy, New, Test, Begin, End}
use Rattle.tables.specs.declared.tables.Tables.{Tables}

-- the things of a tuple in their order
abbrev pub parts : {T : Type 0} → Tuple T → List T
parts t = things t.0

-- four bytes that begin with these; those that are not used hold 255
abbrev pub spread : List ℕ → Quad
spread xs = record { 0 = slice_index_or xs 0 255; 1 = slice_index_or xs 1 255; 2 = slice_index_or xs 2 255; 3 = slice_index_or xs 3 255 }

-- a name is its own byte; index p under u arrows is 64 + 4 u + (p - 1)
abbrev pub item_byte : Item → ℕ
item_byte (Name x) = x
item_byte (Index u p) = 64 + 4 * u + (p - 1)

abbrev pub entry_record : Entry → Record
entry_record e = raw.Entry e.amount (spread (map item_byte (list e.label.items)))

-- a type's record, and for a channel those of its entries
abbrev pub type_records : SheetType → List Record
type_records Pure = raw.Pure ∷ []
type_records Public = raw.Public ∷ []
type_records (Channel c) = raw.Channel (length (parts c.components)) (spread (parts c.components)) ∷ map entry_record (elements c.entries)

abbrev pub node_record : Node → Record
node_record Stop = raw.Stop
node_record (Send channel names) = raw.Send channel (length (parts names)) (spread (parts names))
node_record (Receive channel names next) = raw.Receive channel (length (parts names)) (spread (parts names)) next
node_record (Both first second) = raw.Both first second
node_record (Copy next) = raw.Copy next
node_record (New name next) = raw.New name next
node_record (Test left right same other) = raw.Test left right same other
node_record (Begin label next) = raw.Begin (spread (list label.items)) next
node_record (End label next) = raw.End (spread (list label.items)) next

-- the records of the tables
abbrev pub body : Tables → List Record
body t = flat_map type_records (elements t.types) ++ (map raw.Name (elements t.names) ++ map node_record (elements t.nodes))

-- the records of a sheet: the head has edition 1, the counting's code and its full right
abbrev pub records : Basis → Tables → List Record
records b t = raw.Head 1 b.code b.full ∷ body t
