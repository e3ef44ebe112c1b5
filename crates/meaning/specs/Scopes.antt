-- Which names are free in a sheet, and which are in scope at a node.
use Rattle.std.specs.Prelude.{◌≡◌, ℕ, zero, suc, Bool, true, false, cond, not, ◌&&◌, ◌||◌, List, [], ◌∷◌, length, Some, None, Option, ◌==◌, nat_lt}
use Rattle.calculus.specs.Lists.{◌∈◌}
use Rattle.calculus.specs.Processes.{Process, stop, send, receive, both, copy, new, test, begin, end}
use Rattle.calculus.specs.Scopes.{Scope, in_scope, label_in_scope, Fresh}
use Rattle.calculus.specs.Lists as lists
use Rattle.std.specs.List.{AllByRecursion}
use Rattle.tables.specs.Elements.{elements}
use Rattle.tables.specs.declared.tables.Node.{Node}
use Rattle.tables.specs.declared.tables.Tables.{Tables}
use Rattle.sheet.specs.Scope.{member, binds}
use Rattle.sheet.specs.Tree.{children, node_at}

-- some node of the list binds x
abbrev pub bound : List Node → ℕ → Bool
bound [] x = false
bound (node ∷ nodes) x = member x (binds node) || bound nodes x

-- a name that there is and that no node binds
abbrev pub free : Tables → Scope
free t x = nat_lt x (length (elements t.names)) && not (bound (elements t.nodes) x)

-- the number of the first node that has x in its list, counted from i
abbrev pub first_with : (Node → List ℕ) → List Node → (i x : ℕ) → Option ℕ
first_with of [] i x = None
first_with of (node ∷ nodes) i x = cond (member x (of node)) (Some i) (first_with of nodes (suc i) x)

-- the node that n is a child of, and the node that binds x
abbrev pub parent_of : List Node → ℕ → Option ℕ
parent_of nodes n = first_with children nodes 0 n

abbrev pub binder_of : List Node → ℕ → Option ℕ
binder_of nodes x = first_with binds nodes 0 x

-- the scope below a parent, where `outer` says the scope at the parent: what the parent binds is added. Without a parent, the free names
abbrev pub scope_below : Tables → (ℕ → Scope) → Option ℕ → Scope
scope_below t outer None = free t
scope_below t outer (Some m) = lists.extend (binds (node_at (elements t.nodes) m)) (outer m)

-- the names in scope at node n, so many levels up
abbrev pub scope_within : Tables → (levels n : ℕ) → Scope
scope_within t zero n = free t
scope_within t (suc levels) n = scope_below t (scope_within t levels) (parent_of (elements t.nodes) n)

-- the names in scope at node n: the free ones, and those that nodes above it bind. A parent's number is lower, so n levels are all
abbrev pub scope_at : Tables → ℕ → Scope
scope_at t n = scope_within t n n

-- the names of a list that stand before x
abbrev pub earlier : ℕ → List ℕ → List ℕ
earlier x [] = []
earlier x (y ∷ ys) = cond (x == y) [] (y ∷ earlier x ys)

-- the names that the type of x may mention, where x is bound at a node: those in scope there, and those earlier in the same receive.
-- The type of a free name may mention the free names
abbrev pub scope_beside : Tables → ℕ → Option ℕ → Scope
scope_beside t x None = free t
scope_beside t x (Some b) = lists.extend (earlier x (binds (node_at (elements t.nodes) b))) (scope_at t b)

abbrev pub scope_for : Tables → ℕ → Scope
scope_for t x = scope_beside t x (binder_of (elements t.nodes) x)

-- every name of a process is in scope where it is used, and fresh where it is bound
abbrev pub Scoped : Scope → Process → Type 0
Scoped Γ stop = Unit {0}
Scoped Γ (send x ys) = (in_scope Γ x ≡ true) × AllByRecursion (λ y. in_scope Γ y ≡ true) ys
Scoped Γ (receive x zs p) = (in_scope Γ x ≡ true) × Fresh zs Γ × Scoped (lists.extend zs Γ) p
Scoped Γ (both p q) = Scoped Γ p × Scoped Γ q
Scoped Γ (copy p) = Scoped Γ p
Scoped Γ (new x p) = Fresh (x ∷ []) Γ × Scoped (lists.extend (x ∷ []) Γ) p
Scoped Γ (test x y p q) = (in_scope Γ x ≡ true) × (in_scope Γ y ≡ true) × Scoped Γ p × Scoped Γ q
Scoped Γ (begin l p) = (label_in_scope Γ l ≡ true) × Scoped Γ p
Scoped Γ (end l p) = (label_in_scope Γ l ≡ true) × Scoped Γ p
