-- The first of some numbers that fails what is asked of each.
use Rattle.std.specs.Prelude.{ℕ, ◌<◌, Some, None, Option}

-- every number below n is good; or this is the first that is not
abbrev pub FirstFailure : (Good : ℕ → Type 0) (n : ℕ) → Option ℕ → Type 0
FirstFailure Good n None = (i : ℕ) → i < n → Good i
FirstFailure Good n (Some i) = (i < n) × (Good i → ⊥) × ((j : ℕ) → j < i → Good j)
