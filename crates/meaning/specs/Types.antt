-- Types of the tables as types of the calculus.
use Rattle.std.specs.Prelude.{ℕ, zero, suc, ◌-◌, List, map, length, slice_index, slice_index_or}
use Rattle.calculus.specs.Types as calculus
use Rattle.tables.specs.Channels.{components, entries}
use Rattle.tables.specs.Elements.{elements}
use Rattle.tables.specs.declared.tables.Item.{Item}
use Rattle.tables.specs.declared.tables.Item.TheVariants.{Name, Index}
use Rattle.tables.specs.Shares.{Entry}
use Rattle.tables.specs.declared.tables.SheetType.{SheetType}
use Rattle.tables.specs.declared.tables.SheetType.TheVariants.{Pure, Public, Channel}
use Rattle.tables.specs.declared.tables.Tables.{Tables}
use Rattle.sheet.specs.Types.{type_at}
use Rattle.meaning.specs.Labels.{label_of}

-- positions of the tables count from 1, places of the calculus from 0
abbrev pub item : Item → calculus.Item
item (Name x) = calculus.name x
item (Index u p) = calculus.index u (p - 1)

abbrev pub entry : Entry → calculus.Entry
entry e = record { label = label_of item e.label.items; amount = e.amount }

-- a type whose components mean this
abbrev pub form : (ℕ → calculus.NameType) → SheetType → calculus.NameType
form component Pure = calculus.pure
form component Public = calculus.public
form component (Channel c) =
    calculus.channel (length (components (Channel c))) (λ i. component (slice_index (components (Channel c)) i)) (map entry (entries (Channel c)))

-- the type of number i, so many levels in
abbrev pub type_within : List SheetType → (levels i : ℕ) → calculus.NameType
type_within types zero i = calculus.pure
type_within types (suc levels) i = form (type_within types levels) (type_at types i)

-- the type of a name; nesting is at most 4. A name that there is not has the pure type
abbrev pub types_of : Tables → calculus.Assignment
types_of t x = type_within (elements t.types) 4 (slice_index_or (elements t.names) x (length (elements t.types)))
