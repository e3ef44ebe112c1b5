-- Nodes form a tree: a child's number is above its parent's, and every node but 0 is a child just once.
use Rattle.std.specs.Prelude.{ℕ, Bool, not, ◌&&◌, ◌||◌, List, [], ◌∷◌, sum_by, count_by, ◌==◌, nat_eq, nat_lt, slice_index_or}
use Rattle.tables.specs.Range.{all}
use Rattle.tables.specs.declared.tables.Node.{Node}
use Rattle.tables.specs.declared.tables.Node.TheVariants.{Stop, Send, Receive, Both, Copy, New, Test, Begin, End}

-- the nodes that go on from a node
abbrev pub children : Node → List ℕ
children Stop = []
children (Send channel names) = []
children (Receive channel names next) = next ∷ []
children (Both first second) = first ∷ second ∷ []
children (Copy next) = next ∷ []
children (New name next) = next ∷ []
children (Test left right same other) = same ∷ other ∷ []
children (Begin label next) = next ∷ []
children (End label next) = next ∷ []

abbrev pub node_at : List Node → ℕ → Node
node_at nodes n = slice_index_or nodes n Stop

-- how often a number stands in a list
abbrev pub times : ℕ → List ℕ → ℕ
times n xs = count_by (λ x. nat_eq x n) xs

-- how often n is named as a child
abbrev pub named : List Node → ℕ → ℕ
named nodes n = sum_by (λ x. times n (children x)) nodes

-- node n has a child not above it, or is not 0 and not a child just once
abbrev pub misgrown : List Node → ℕ → Bool
misgrown nodes n = not (all (λ c. nat_lt n c) (children (node_at nodes n))) || (nat_lt 0 n && not (named nodes n == 1))
