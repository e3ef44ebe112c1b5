-- Two types that are to be the same, the right one with arguments put in.
use Rattle.std.specs.Prelude.{◌≡◌, ℕ, suc, List, map, length}
use Rattle.calculus.specs.Countings.{Operations}
use Rattle.calculus.specs.Types.{SameType, fill_type, fill_entry}
use Rattle.tables.specs.Channels.{components, entries}
use Rattle.tables.specs.declared.tables.SheetType.{SheetType}
use Rattle.tables.specs.declared.tables.SheetType.TheVariants.{Pure, Public, Channel}
use Rattle.meaning.specs.Types.{entry, type_within}
use Rattle.uses.specs.Entries.{SameEffects}

-- two types are of one kind and, for channels, have equal counts and equal effects, once the arguments ys are put into the
-- right one at this level; their components are left out
abbrev pub SameHead : Operations → (ys : List ℕ) (level : ℕ) → (left right : SheetType) → Type 0
SameHead K ys level Pure Pure = Unit {0}
SameHead K ys level Pure Public = ⊥
SameHead K ys level Pure (Channel d) = ⊥
SameHead K ys level Public Pure = ⊥
SameHead K ys level Public Public = Unit {0}
SameHead K ys level Public (Channel d) = ⊥
SameHead K ys level (Channel c) Pure = ⊥
SameHead K ys level (Channel c) Public = ⊥
SameHead K ys level (Channel c) (Channel d) =
    (length (components (Channel c)) ≡ length (components (Channel d)))
    × SameEffects K (map entry (entries (Channel c))) (map (fill_entry ys level) (map entry (entries (Channel d))))

-- left is the same as right with the arguments put in at this level, where right is read so many levels in and left one more
abbrev pub SameWithin : Operations → List SheetType → (ys : List ℕ) → (level levels left right : ℕ) → Type 0
SameWithin K types ys level levels left right = SameType K (type_within types (suc levels) left) (fill_type ys level (type_within types levels right))
