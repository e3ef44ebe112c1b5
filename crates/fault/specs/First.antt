-- The first of the faults that there are: the lower number comes first, then the lower place.
use Rattle.std.specs.Prelude.{◌≡◌, ℕ, ◌<◌, ◌≤◌, ◌⊎◌, Some, None, Option}
use Rattle.fault.specs.declared.fault.Fault.{Fault}
use Rattle.fault.specs.Faults.{number_of, place_of}

-- f is told no later than g
abbrev pub Precedes : Fault → Fault → Type 0
Precedes f g = (number_of f < number_of g) ⊎ ((number_of f ≡ number_of g) × (place_of f ≤ place_of g))

-- there is no fault; or this is one, and it is told no later than any other
abbrev pub First : (Fault → Type 0) → Option Fault → Type 0
First Faulty None = (g : Fault) → Faulty g → ⊥
First Faulty (Some f) = Faulty f × ((g : Fault) → Faulty g → Precedes f g)

-- there is no number below n with P; or this is the lowest
abbrev pub Lowest : (ℕ → Type 0) → ℕ → Option ℕ → Type 0
Lowest P n None = (i : ℕ) → i < n → P i → ⊥
Lowest P n (Some i) = (i < n) × P i × ((j : ℕ) → j < i → P j → ⊥)
