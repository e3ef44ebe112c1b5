-- Labels among the entries of a type.
use Rattle.std.specs.Prelude.{◌≡◌, ℕ, ◌<◌, List, length, slice_index_or}
use Rattle.fault.specs.declared.label.Label.{Label}
use Rattle.tables.specs.Shares.{Entry}
use Rattle.tables.specs.declared.tables.Item.{Item}

-- entry number j has this label
pub data Labelled (entries : List Entry) (label : Label Item) : Type 0 where
  labelled : (j : ℕ) (e : Entry) → j < length entries → (slice_index_or entries j e).label ≡ label → Labelled entries label

-- two entries have one label
pub data Repeated (entries : List Entry) : Type 0 where
  repeated : (i j : ℕ) (e : Entry) → i < j → j < length entries → (slice_index_or entries i e).label ≡ (slice_index_or entries j e).label → Repeated entries
