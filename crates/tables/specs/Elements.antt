-- What a table of bounded length holds.
use Rattle.std.specs.Prelude.{ℕ, List, [], ◌∷◌, take, Some, None, Option}
use Rattle.tables.specs.declared.table.Table.{Table}

-- the things in the places that are used
abbrev pub elements : {T : Type 0} {N : ℕ} → Table T N → List T
elements t = take t.count t.items

-- the last element, or none
abbrev pub last_of : {T : Type 0} → List T → Option T
last_of [] = None
last_of (x ∷ []) = Some x
last_of (x ∷ x' ∷ xs) = last_of (x' ∷ xs)

-- the list with another last element
abbrev pub with_last : {T : Type 0} → List T → T → List T
with_last [] y = []
with_last (x ∷ []) y = y ∷ []
with_last (x ∷ x' ∷ xs) y = x ∷ with_last (x' ∷ xs) y
