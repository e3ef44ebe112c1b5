-- The amounts of all nodes at one label, from the work rows.
use Rattle.std.specs.Prelude.{◌≡◌, ℕ, ◌<◌, ◌≤◌, max, List, length, slice_index}
use Rattle.std.specs.List.{AllByRecursion}
use Rattle.calculus.specs.Countings.{Operations}
use Rattle.calculus.specs.Effects.{◌≟◌}
use Rattle.calculus.specs.Joins.{amount_if, join_over}
use Rattle.fault.specs.declared.label.Label.{Label}
use Rattle.tables.specs.declared.tables.Node.{Node}
use Rattle.tables.specs.declared.tables.Node.TheVariants.{Stop, Send, Receive, Both, Copy, New, Test, Begin, End}
use Rattle.sheet.specs.Tree.{children, node_at}
use Rattle.meaning.specs.Faults.{names_label}
use Rattle.effects.specs.Rows.{Row, places}

-- what a row gives a label
abbrev pub gives : Label ℕ → Row → ℕ
gives L r = amount_if (names_label r.label ≟ names_label L) r.amount

-- what the rows of a node give a label, joined
abbrev pub own_at : Operations → List Row → Label ℕ → ℕ → ℕ
own_at K table L n = join_over K (places table n) (gives L)

-- the amount of a node, from what its own rows give and from the amounts of its children
abbrev pub step_by : Operations → (own : ℕ) → (ℕ → ℕ) → Node → ℕ
step_by K own child Stop = 0
step_by K own child (Send channel xs) = own
step_by K own child (Receive channel xs next) = K.lack (child next) own
step_by K own child (Both first second) = K.join (child first) (child second)
step_by K own child (Copy next) = child next
step_by K own child (New name next) = child next
step_by K own child (Test left right same other) = max (child same) (child other)
step_by K own child (Begin l next) = K.lack (child next) own
step_by K own child (End l next) = K.join (child next) own

-- the children of node n come after it, and there are such nodes
abbrev pub LaterChildren : (n count : ℕ) → Node → Type 0
LaterChildren n count x = AllByRecursion (λ c. (n < c) × (c < count)) (children x)

-- past so many nodes the amounts are 0
abbrev pub NonePast : ℕ → List ℕ → Type 0
NonePast count amounts = (n : ℕ) → count ≤ n → slice_index amounts n ≡ 0

-- A has the amounts of all nodes at a label: each comes from the children's and from the node's rows, and none passes the ceiling
pub record Amounts (K : Operations) (all : List Node) (table : List Row) (L : Label ℕ) (A : ℕ → ℕ) : Type 0 where
  pub steps : (n : ℕ) → A n ≡ step_by K (own_at K table L n) A (node_at all n)
  pub later : (n : ℕ) → n < length all → LaterChildren n (length all) (node_at all n)
  pub own_fits : (n : ℕ) → n < length all → own_at K table L n ≤ K.ceiling
  pub fits : (n : ℕ) → A n ≤ K.ceiling
