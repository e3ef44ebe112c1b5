-- Joins: amounts that count only on a condition, amounts joined over a list, full rights joined.
use Rattle.std.specs.Prelude.{ℕ, List, map, replicate}
use Rattle.calculus.specs.Countings.{Operations, joined}

-- the amount where the question is answered yes, else 0
abbrev pub amount_if : {A : Type 0} → Dec A → ℕ → ℕ
amount_if (yes h) a = a
amount_if (no h) a = 0

-- the amounts that f gives the members of a list, joined
abbrev pub join_over : {A : Type 0} → Operations → List A → (A → ℕ) → ℕ
join_over K xs f = joined K (map f xs)

-- so many full rights, joined
abbrev pub rights : Operations → ℕ → ℕ
rights K n = joined K (replicate n K.full)
