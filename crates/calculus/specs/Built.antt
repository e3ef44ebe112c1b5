-- Two countings: parts, which adds, and once, which takes the larger.
use Rattle.std.specs.Prelude.{ℕ, ◌+◌, ◌-◌, max, cond, nat_le}
use Rattle.calculus.specs.Countings.{Operations}

-- rights come in parts; so many of them are one full right
abbrev pub parts : ℕ → Operations
parts n = record { full = n; largest = 100000; ceiling = 1000000000; join = λ a b. a + b; lack = λ a b. a - b }

-- a right is there or it is not
abbrev pub once : Operations
once = record { full = 1; largest = 1; ceiling = 1; join = max; lack = λ a b. cond (nat_le a b) 0 a }
