-- Work rows: what each node gives labels of itself, eight rows a node.
use Rattle.std.specs.Prelude.{◌≡◌, ℕ, ◌*◌, ◌/◌, ◌%◌, ◌<◌, List, [], ◌∷◌, map, length, take, drop, slice_index_or}
use Rattle.calculus.specs.Effects.{named}
use Rattle.fault.specs.declared.items.Items.{Items}
use Rattle.fault.specs.declared.items.Items.TheVariants.{One, Two, Three, Four}
use Rattle.tables.specs.Channels.{entries}
use Rattle.tables.specs.Encoding.{parts}
use Rattle.tables.specs.Shares.{Entry}
use Rattle.tables.specs.declared.share.Share.{Share}
use Rattle.tables.specs.declared.tables.Node.{Node}
use Rattle.tables.specs.declared.tables.Node.TheVariants.{Stop, Send, Receive, Both, Copy, New, Test, Begin, End}
use Rattle.tables.specs.declared.tables.SheetType.{SheetType}
use Rattle.sheet.specs.Tree.{node_at}
use Rattle.sheet.specs.Types.{type_at}
use Rattle.meaning.specs.Types.{item}

-- a work row: a share whose label has names
abbrev pub Row : Type 0
Row = Share ℕ

-- a row of nothing
abbrev pub blank : Row
blank = record { label = record { items = One 0 }; amount = 0 }

-- the items, each as f has it
abbrev pub map_items : {A B : Type 0} → (A → B) → Items A → Items B
map_items f (One a) = One (f a)
map_items f (Two a b) = Two (f a) (f b)
map_items f (Three a b c) = Three (f a) (f b) (f c)
map_items f (Four a b c d) = Four (f a) (f b) (f c) (f d)

-- the row of an entry with the names put in
abbrev pub entry_row : List ℕ → Entry → Row
entry_row ys e = record { label = record { items = map_items (λ i. named ys (item i)) e.label.items }; amount = e.amount }

-- the entries of the type of a name
abbrev pub carried : List SheetType → List ℕ → ℕ → List Entry
carried kinds owners x = entries (type_at kinds (slice_index_or owners x (length kinds)))

-- the rows of a node: those of what its message carries, or one full right
abbrev pub rows_of : (full : ℕ) → List SheetType → List ℕ → Node → List Row
rows_of full kinds owners Stop = []
rows_of full kinds owners (Send channel xs) = map (entry_row (parts xs)) (carried kinds owners channel)
rows_of full kinds owners (Receive channel xs next) = map (entry_row (parts xs)) (carried kinds owners channel)
rows_of full kinds owners (Both first second) = []
rows_of full kinds owners (Copy next) = []
rows_of full kinds owners (New name next) = []
rows_of full kinds owners (Test left right same other) = []
rows_of full kinds owners (Begin l next) = record { label = l; amount = full } ∷ []
rows_of full kinds owners (End l next) = record { label = l; amount = full } ∷ []

-- the first k places of a table hold the rows of the nodes, eight places a node
abbrev pub Filled : (full : ℕ) → List SheetType → List ℕ → List Node → List Row → ℕ → Type 0
Filled full kinds owners all table k = (i : ℕ) → i < k → slice_index_or table i blank ≡ slice_index_or (rows_of full kinds owners (node_at all (i / 8))) (i % 8) blank

-- the eight places of a node
abbrev pub places : List Row → ℕ → List Row
places table n = take 8 (drop (8 * n) table)
