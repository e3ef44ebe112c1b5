-- The ceiling: how many amounts of an entry's size an amount is made of.
use Rattle.std.specs.Prelude.{ℕ, ◌≤◌, List, length}
use Rattle.std.specs.List.{AllByRecursion}
use Rattle.calculus.specs.Countings.{Operations, joined, Each≤}
use Rattle.calculus.specs.Types.{NameType, pure, public, channel}

-- a type has at most 8 entries, none larger than an entry may be
abbrev pub EntriesSmall : Operations → NameType → Type 0
EntriesSmall K pure = Unit {0}
EntriesSmall K public = Unit {0}
EntriesSmall K (channel n components entries) = (length entries ≤ 8) × AllByRecursion (λ e. e.amount ≤ K.largest) entries

-- the amount a is at most a join of at most n amounts, each at most the largest entry
pub record Few (K : Operations) (n a : ℕ) : Type 0 where
  pub amounts : List ℕ
  pub few : length amounts ≤ n
  pub each : Each≤ K.largest amounts
  pub bound : a ≤ joined K amounts
