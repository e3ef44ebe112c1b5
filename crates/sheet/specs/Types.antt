-- What a type must keep beyond its ranges: no label twice, and nesting at most 4.
use Rattle.std.specs.Prelude.{◌≡◌, ℕ, zero, suc, ◌<◌, Bool, false, List, length, slice_index_or}
use Rattle.tables.specs.Channels.{components, entries}
use Rattle.tables.specs.Range.{all}
use Rattle.tables.specs.Shares.{Entry}
use Rattle.tables.specs.declared.tables.SheetType.{SheetType}
use Rattle.tables.specs.declared.tables.SheetType.TheVariants.{Pure}

abbrev pub type_at : List SheetType → ℕ → SheetType
type_at types t = slice_index_or types t Pure

-- the nesting of type t is at most d: a type without components has nesting 1, a channel with components one more
-- than its deepest component
abbrev pub nests : List SheetType → (d t : ℕ) → Bool
nests types zero t = false
nests types (suc d) t = all (nests types d) (components (type_at types t))

-- what is wrong with type t
pub data Misformed (types : List SheetType) (t : ℕ) : Type 0 where
  -- two of its entries have one label
  same_label : (i j : ℕ) (e : Entry) → i < j → j < length (entries (type_at types t))
      → (slice_index_or (entries (type_at types t)) i e).label ≡ (slice_index_or (entries (type_at types t)) j e).label → Misformed types t
  too_deep : nests types 4 t ≡ false → Misformed types t
