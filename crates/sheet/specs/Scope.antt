-- Scope: a name has at most one binder, and is used only below it; a name without a binder is free.
use Rattle.std.specs.Prelude.{◌≡◌, ℕ, ◌<◌, Bool, true, false, ◌||◌, List, [], ◌∷◌, length, Some, None, Option, ◌==◌, slice_index_or}
use Rattle.fault.specs.First.{Lowest}
use Rattle.fault.specs.Items.{list}
use Rattle.tables.specs.Encoding.{parts}
use Rattle.sheet.specs.Tree.{children, node_at}
use Rattle.tables.specs.declared.tables.Node.{Node}
use Rattle.tables.specs.declared.tables.Node.TheVariants.{Stop, Send, Receive, Both, Copy, New, Test, Begin, End}

-- x stands in the list
abbrev pub member : ℕ → List ℕ → Bool
member x [] = false
member x (y ∷ ys) = x == y || member x ys

-- some number stands in the list twice
abbrev pub repeats : List ℕ → Bool
repeats [] = false
repeats (x ∷ xs) = member x xs || repeats xs

-- the names that a node binds
abbrev pub binds : Node → List ℕ
binds Stop = []
binds (Send channel names) = []
binds (Receive channel names next) = parts names
binds (Both first second) = []
binds (Copy next) = []
binds (New name next) = name ∷ []
binds (Test left right same other) = []
binds (Begin label next) = []
binds (End label next) = []

-- the names that a node uses
abbrev pub uses : Node → List ℕ
uses Stop = []
uses (Send channel names) = channel ∷ parts names
uses (Receive channel names next) = channel ∷ []
uses (Both first second) = []
uses (Copy next) = []
uses (New name next) = []
uses (Test left right same other) = left ∷ right ∷ []
uses (Begin label next) = list label.items
uses (End label next) = list label.items

-- node n stands below node b: it is a child of b, or of a node below b
pub data Below (nodes : List Node) (b : ℕ) : ℕ → Type 0 where
  child : {n : ℕ} → member n (children (node_at nodes b)) ≡ true → Below nodes b n
  further : {m n : ℕ} → Below nodes b m → member n (children (node_at nodes m)) ≡ true → Below nodes b n

-- node b is the one that binds x: the lowest that does
pub record Binder (nodes : List Node) (x b : ℕ) : Type 0 where
  pub here : member x (binds (node_at nodes b)) ≡ true
  pub first : (a : ℕ) → a < b → member x (binds (node_at nodes a)) ≡ false

-- what is wrong with the names of node n
pub data Misnamed (nodes : List Node) (n : ℕ) : Type 0 where
  -- it binds a name twice
  binds_twice : repeats (binds (node_at nodes n)) ≡ true → Misnamed nodes n
  -- it binds a name that a lower node binds
  bound_already : (x a : ℕ) → a < n → member x (binds (node_at nodes a)) ≡ true → member x (binds (node_at nodes n)) ≡ true → Misnamed nodes n
  -- it uses a name that is bound, and does not stand below its binder
  out_of_scope : (x b : ℕ) → Binder nodes x b → member x (uses (node_at nodes n)) ≡ true → (Below nodes b n → ⊥) → Misnamed nodes n

-- some name of the list has P
abbrev pub Any : (ℕ → Type 0) → List ℕ → Type 0
Any P xs = (x : ℕ) × (member x xs ≡ true) × P x

-- the table has for each number the lowest of the first i nodes with it in its list
abbrev pub Holders : (Node → List ℕ) → List Node → ℕ → List (Option ℕ) → Type 0
Holders of nodes i table = (x : ℕ) → x < length table → Lowest (λ m. member x (of (node_at nodes m)) ≡ true) i (slice_index_or table x None)

-- node b stands over node n, by a table of parents: it is the parent of n, or stands over it
pub data Over (parents : List (Option ℕ)) (b : ℕ) : ℕ → Type 0 where
  nearest : {n : ℕ} → slice_index_or parents n None ≡ Some b → Over parents b n
  beyond : {m n : ℕ} → Over parents b m → slice_index_or parents n None ≡ Some m → Over parents b n

-- every parent has a lower number
abbrev pub Falling : List (Option ℕ) → Type 0
Falling parents = (k m : ℕ) → slice_index_or parents k None ≡ Some m → m < k

-- a node with a number lower than n binds x, by a table of binders
abbrev pub Taken : List (Option ℕ) → (n x : ℕ) → Type 0
Taken binders n x = (b : ℕ) × (slice_index_or binders x None ≡ Some b) × (b < n)

-- x is bound, and its binder does not stand over n, by tables of binders and parents
abbrev pub Outside : (binders parents : List (Option ℕ)) → (n x : ℕ) → Type 0
Outside binders parents n x = (b : ℕ) × (slice_index_or binders x None ≡ Some b) × (Over parents b n → ⊥)

-- the tables are those of the nodes: the lowest node that binds each name, and the parent of each node
pub record Charted (nodes : List Node) (binders parents : List (Option ℕ)) : Type 0 where
  pub bound : (x : ℕ) → Lowest (λ b. member x (binds (node_at nodes b)) ≡ true) (length nodes) (slice_index_or binders x None)
  pub down : (k m : ℕ) → slice_index_or parents k None ≡ Some m → member k (children (node_at nodes m)) ≡ true
  pub up : (k m : ℕ) → member k (children (node_at nodes m)) ≡ true → slice_index_or parents k None ≡ Some m
  pub falls : Falling parents
