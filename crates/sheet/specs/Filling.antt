-- How the tables grow by one record, and what a fill of them answers.
use Rattle.std.specs.Prelude.{◌≡◌, ℕ, ◌<◌, true, List, [], ◌∷◌, ◌++◌, length, take, Some, None, Ok, Err, Option, Result, ◌≢◌, slice_index_or}
use Rattle.std.specs.List.{flat_map}
use Rattle.fault.specs.declared.fault.Fault.{Fault}
use Rattle.fault.specs.declared.fault.Fault.TheVariants.{OutOfRange}
use Rattle.tables.specs.Elements.{elements, last_of}
use Rattle.records.specs.Records.{codes}
use Rattle.tables.specs.Encoding.{parts, spread, type_records, entry_record, node_record, records}
use Rattle.tables.specs.Range.{Totals, totals, below, type_fits, entry_fits, node_fits, ranged, Fits}
use Rattle.sheet.specs.Order.{census, Ordered}
use Rattle.tables.specs.declared.basis.Basis.{Basis}
use Rattle.sheet.specs.declared.census.Census.{Census}
use Rattle.sheet.specs.declared.census.Class.{Class}
use Rattle.sheet.specs.declared.census.Class.TheVariants as class
use Rattle.records.specs.declared.record.Record.{Record}
use Rattle.records.specs.declared.record.Record.TheVariants as raw
use Rattle.tables.specs.declared.tuple.Tuple.{Tuple}
use Rattle.tables.specs.declared.tables.ChannelType.{ChannelType}
use Rattle.tables.specs.Shares.{Entry}
use Rattle.tables.specs.declared.tables.SheetType.{SheetType}
use Rattle.tables.specs.declared.tables.SheetType.TheVariants.{Pure, Public, Channel}
use Rattle.tables.specs.declared.tables.Node.{Node}
use Rattle.tables.specs.declared.tables.Tables.{Tables}

-- the totals that a census of the whole sheet gives
abbrev pub totals_of : Census → Totals
totals_of c = record { types = c.types; names = c.names; nodes = c.nodes }

-- the last type is this channel, after those
pub record LastChannel (t : Tables) (before : List SheetType) (c : ChannelType) : Type 0 where
  pub last : elements t.types ≡ before ++ Channel c ∷ []

abbrev pub channel_in : Option SheetType → Option ChannelType
channel_in None = None
channel_in (Some Pure) = None
channel_in (Some Public) = None
channel_in (Some (Channel c)) = Some c

-- the last type, where it is a channel
abbrev pub last_channel : Tables → Option ChannelType
last_channel t = channel_in (last_of (elements t.types))

-- there is a place for one more of this class
abbrev pub Room : Tables → Class → Type 0
Room t class.Head = ⊥
Room t class.Plain = length (elements t.types) < 64
Room t class.Channel = length (elements t.types) < 64
Room t class.Entry = (before : List SheetType) × (c : ChannelType) × LastChannel t before c × (length (elements c.entries) < 8)
Room t class.Name = length (elements t.names) < 64
Room t class.Node = length (elements t.nodes) < 1024

-- the tables t' are the tables t with what record r means, which is in range
pub data Grown (b : Basis) (n : Totals) (t t' : Tables) (r : Record) : Type 0 where
  grown_type : (x : SheetType) → type_records x ≡ r ∷ [] → type_fits b.largest n.names (length (elements t.types)) x ≡ true
      → elements t'.types ≡ elements t.types ++ x ∷ [] → t'.names ≡ t.names → t'.nodes ≡ t.nodes → Grown b n t t' r
  grown_entry : (before : List SheetType) (c c' : ChannelType) (e : Entry) → entry_record e ≡ r → entry_fits b.largest n.names e ≡ true
      → LastChannel t before c → LastChannel t' before c' → c'.components ≡ c.components → elements c'.entries ≡ elements c.entries ++ e ∷ []
      → t'.names ≡ t.names → t'.nodes ≡ t.nodes → Grown b n t t' r
  grown_name : (x : ℕ) → raw.Name x ≡ r → x < n.types → elements t'.names ≡ elements t.names ++ x ∷ [] → t'.types ≡ t.types → t'.nodes ≡ t.nodes → Grown b n t t' r
  grown_node : (x : Node) → node_record x ≡ r → node_fits n.names n.nodes x ≡ true → elements t'.nodes ≡ elements t.nodes ++ x ∷ []
      → t'.types ≡ t.types → t'.names ≡ t.names → Grown b n t t' r

-- record number p is in range
abbrev pub FitsAt : Basis → List Record → ℕ → Type 0
FitsAt b rs p = Fits b (totals_of (census rs)) (census (take p rs)).types (slice_index_or rs p raw.Stop)

-- bytes that are all records, in order, with a node among them; and this is how many there are of each
pub record Readable (given : List ℕ) (n : Census) (rs : List Record) : Type 0 where
  pub whole : flat_map codes rs ≡ given
  pub order : Ordered rs
  pub counts : n ≡ census rs
  pub some : 0 < (census rs).nodes

-- the sheet is the one that the records mean: these are its records, and all its fields are in range
pub record Spells (b : Basis) (rs : List Record) (t : Tables) : Type 0 where
  pub in_order : records b t ≡ rs
  pub in_range : ranged b.largest (totals t) t ≡ true

-- a fill answers the sheet that the records mean, or the first record that is out of range
abbrev pub Filled : Basis → List ℕ → Census → Result Tables Fault → Type 0
Filled b given n (Ok t) = (rs : List Record) × Readable given n rs × Spells b rs t × ((q : ℕ) → q < length rs → FitsAt b rs q) × (0 < length (elements t.nodes))
Filled b given n (Err f) = (p : ℕ) × (f ≡ OutOfRange p) × (rs : List Record) × Readable given n rs × (p < length rs) × (FitsAt b rs p → ⊥) × ((q : ℕ) → q < p → FitsAt b rs q)

-- the type that a record means, without entries, in range as type number own
pub record IsType (own : ℕ) (r : Record) (x : SheetType) : Type 0 where
  pub written : type_records x ≡ r ∷ []
  pub fits : (largest names : ℕ) → type_fits largest names own x ≡ true

-- the entry that a record means, in range
pub record IsEntry (b : Basis) (n : Totals) (r : Record) (e : Entry) : Type 0 where
  pub written : entry_record e ≡ r
  pub fits : entry_fits b.largest n.names e ≡ true

-- no type, entry, name or node in range has this record
pub record NoTypeFits (own : ℕ) (r : Record) : Type 0 where
  pub not_pure : r ≡ raw.Pure → ⊥
  pub not_public : r ≡ raw.Public → ⊥
  pub not_channel : (xs : Tuple ℕ) → below own (parts xs) ≡ true → r ≢ raw.Channel (length (parts xs)) (spread (parts xs))

abbrev pub NoEntryFits : Basis → Totals → Record → Type 0
NoEntryFits b n r = (e : Entry) → entry_fits b.largest n.names e ≡ true → r ≢ entry_record e

abbrev pub NoNameFits : Totals → Record → Type 0
NoNameFits n r = (x : ℕ) → x < n.types → r ≢ raw.Name x

abbrev pub NoNodeFits : Totals → Record → Type 0
NoNodeFits n r = (x : Node) → node_fits n.names n.nodes x ≡ true → r ≢ node_record x
