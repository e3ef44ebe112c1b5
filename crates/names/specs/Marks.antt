-- Scopes and counts of arguments as arrays.
use Rattle.std.specs.Prelude.{◌≡◌, ℕ, ◌+◌, ◌<◌, ◌≤◌, Bool, false, List, length, slice_index, slice_index_or}
use Rattle.calculus.specs.Scopes.{Scope}

-- the scope of the names that are marked
abbrev pub marked : List Bool → Scope
marked marks y = slice_index_or marks y false

-- there is a mark for each of the 64 names, and those in scope are marked
pub record Marks (marks : List Bool) (Γ : Scope) : Type 0 where
  pub size : length marks ≡ 64
  pub each : (y : ℕ) → y < 64 → marked marks y ≡ Γ y

-- how many arguments of the channel u levels out come before; there are none further out
abbrev pub outer : List ℕ → ℕ → ℕ
outer counts u = slice_index counts u

-- with so many levels left to look into, the other levels are those that have a count
pub record Counts (levels : ℕ) (counts : List ℕ) : Type 0 where
  pub deep : levels ≤ 4
  pub none : (u : ℕ) → 4 ≤ u + levels → outer counts u ≡ 0
