-- What a list of shares gives a label.
use Rattle.std.specs.Prelude.{◌≡◌, ℕ, ◌≤◌, List}
use Rattle.std.specs.List.{AllByRecursion}
use Rattle.calculus.specs.Countings.{Operations}
use Rattle.calculus.specs.Joins.{join_over}
use Rattle.fault.specs.declared.label.Label.{Label}
use Rattle.tables.specs.Shares.{Gives}
use Rattle.tables.specs.declared.share.Share.{Share}

-- f says of each of the shares what it gives the label
abbrev pub GivesEach : {A : Type 0} → Label A → List (Share A) → (Share A → ℕ) → Type 0
GivesEach L shares f = AllByRecursion (λ s. Gives L s (f s)) shares

-- what they give it, joined, where that does not pass the ceiling
abbrev pub JoinedFor : {A : Type 0} → Operations → List (Share A) → Label A → ℕ → Type 0
JoinedFor {A} K shares L sum =
    (f : Share A → ℕ) → GivesEach L shares f → join_over K shares f ≤ K.ceiling → sum ≡ join_over K shares f
