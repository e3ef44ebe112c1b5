-- Lists: their members, sets of numbers with a list of further members, and what is left of a bag once one member is taken out.
use Rattle.std.specs.Prelude.{◌≡◌, ℕ, Bool, true, cond, ◌&&◌, ◌⊎◌, List, [], ◌∷◌, ◌==◌}

-- x is a member of the list
infix 45 ◌∈◌
abbrev pub ◌∈◌ : {A : Type 0} → A → List A → Type 0
x ∈ [] = ⊥
x ∈ (y ∷ rest) = (x ≡ y) ⊎ (x ∈ rest)

-- the test holds of each member
abbrev pub every : {A : Type 0} → (A → Bool) → List A → Bool
every test [] = true
every test (x ∷ rest) = test x && every test rest

-- a set of numbers (which says of each number whether it is in), with further members
abbrev pub extend : List ℕ → (ℕ → Bool) → ℕ → Bool
extend [] set x = set x
extend (z ∷ zs) set x = cond (z == x) true (extend zs set x)

-- a list read as a bag: taking x out of the first leaves the second, wherever x stood
pub data Removal {A : Type 0} (x : A) : List A → List A → Type 0 where
  here : {rest : List A} → Removal x (x ∷ rest) rest
  there : {y : A} {l rest : List A} → Removal x l rest → Removal x (y ∷ l) (y ∷ rest)
