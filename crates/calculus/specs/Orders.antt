-- Orders: labels in the order of their items, from the left. A place without an item comes after every item, so a longer label comes before its own front.
use Rattle.std.specs.Prelude.{◌≡◌, ◌⊎◌, List, [], ◌∷◌}
use Rattle.calculus.specs.Labels.{Label, items}

-- a strict order in which any two are comparable
pub record StrictOrder {A : Type 0} (less : A → A → Type 0) : Type 0 where
  pub irreflexive : (x : A) → less x x → ⊥
  pub transitive : (x y z : A) → less x y → less y z → less x z
  pub comparable : (x y : A) → less x y ⊎ ((x ≡ y) ⊎ less y x)

-- the first items that differ decide
abbrev pub ItemsBefore : {A : Type 0} → (A → A → Type 0) → List A → List A → Type 0
ItemsBefore less [] m = ⊥
ItemsBefore less (x ∷ l) [] = Unit {0}
ItemsBefore less (x ∷ l) (y ∷ m) = less x y ⊎ ((x ≡ y) × ItemsBefore less l m)

-- one label comes before another
abbrev pub LabelBefore : {A : Type 0} → (A → A → Type 0) → Label A → Label A → Type 0
LabelBefore less L M = ItemsBefore less (items L) (items M)
