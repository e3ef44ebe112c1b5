-- The scope at a node: the scope at its parent, and what the parent binds; every node but 0 has a parent.
use Rattle.std.proofs.Common.{◌≡◌, ℕ, zero, suc, ◌+◌, ◌<◌, ◌≤◌, true, false, eqb, ◌⊎◌, List, [], ◌∷◌, length, Some, None, Option, sym, refl, ap, ◌∙◌, inl, inr, ⊎_elim, arith}
use Rattle.std.proofs.lemmas.Bool.{cases_Bool, cond-true, cond-false, or_parts, eqb-false}
use Rattle.calculus.specs.Lists as lists
use Rattle.calculus.specs.Scopes.{Scope}
use Rattle.tables.specs.Elements.{elements}
use Rattle.tables.specs.declared.tables.Node.{Node}
use Rattle.tables.specs.declared.tables.Tables.{Tables}
use Rattle.sheet.specs.Scope.{member, binds}
use Rattle.sheet.specs.Tree.{children, node_at, misgrown}
use Rattle.sheet.proofs.Parents.{higher, one_parent, once, placed}
use Rattle.meaning.specs.Scopes.{free, first_with, parent_of, scope_below, scope_within, scope_at}
use Rattle.meaning.proofs.Sizes.{total, on, on_other, named_total}

-- what is found is a node that has the number in its list
pub found_at : (of : Node → List ℕ) (nodes : List Node) (i x m : ℕ) → first_with of nodes i x ≡ Some m → (b : ℕ) × (m ≡ i + b) × (b < length nodes) × (member x (of (node_at nodes b)) ≡ true)
found_at of [] i x m h = let z : ◌≡◌ {A = ℕ} 0 1 = cc in absurd (omega arith)
found_at of (y ∷ ys) i x m h =
    ⊎_elim
    (λ t. let e : Some i ≡ Some m = sym (cond-true (member x (of y)) (Some i) (first_with of ys (suc i) x) t) ∙ h in let z : i ≡ m = cc in (0, omega arith, omega arith, t))
    (λ f.
    let r = found_at of ys (suc i) x m (sym (cond-false (member x (of y)) (Some i) (first_with of ys (suc i) x) f) ∙ h) in
    (suc r.0, omega (arith, r.1), omega (arith, r.2), r.3))
    (cases_Bool (member x (of y)))

-- the lowest node that has a number in its list is found
pub finds : (of : Node → List ℕ) (nodes : List Node) (i x b : ℕ) → b < length nodes → member x (of (node_at nodes b)) ≡ true → ((a : ℕ) → a < b → member x (of (node_at nodes a)) ≡ false) → first_with of nodes i x ≡ Some (i + b)
finds of [] i x b l h f = absurd (omega arith)
finds of (y ∷ ys) i x zero l h f = let z : i ≡ i + 0 = omega arith in cond-true (member x (of y)) (Some i) (first_with of ys (suc i) x) h ∙ ap (λ k. Some k) z
finds of (y ∷ ys) i x (suc b) l h f =
    let z : suc i + b ≡ i + suc b = omega arith in
    cond-false (member x (of y)) (Some i) (first_with of ys (suc i) x) (f 0 (omega arith))
    ∙ finds of ys (suc i) x b (omega arith) h (λ a k. f (suc a) (omega arith)) ∙ ap (λ k. Some k) z

-- none is found where no node has the number in its list
pub finds_none : (of : Node → List ℕ) (nodes : List Node) (i x : ℕ) → ((a : ℕ) → member x (of (node_at nodes a)) ≡ false) → first_with of nodes i x ≡ None
finds_none of [] i x f = refl
finds_none of (y ∷ ys) i x f = cond-false (member x (of y)) (Some i) (first_with of ys (suc i) x) (f 0) ∙ finds_none of ys (suc i) x (λ a. f (suc a))

-- a number that is not in the list is not counted
none_on : (xs : List ℕ) (k : ℕ) → member k xs ≡ false → total (λ a. on a k 1) xs ≡ 0
none_on [] k f = refl
none_on (a ∷ xs) k f =
    let p = or_parts (eqb k a) (member k xs) f in
    let z = on_other a k 1 (λ e. eqb-false k a p.0 (sym e)) in
    let r = none_on xs k p.1 in
    omega arith

-- a number that is named has a parent
named_by : (nodes : List Node) (k : ℕ) → 1 ≤ total (λ x. total (λ a. on a k 1) (children x)) nodes → (p : ℕ) × (member k (children (node_at nodes p)) ≡ true)
named_by [] k h = absurd (omega arith)
named_by (y ∷ ys) k h =
    ⊎_elim
    (λ t. (0, t))
    (λ f. let z = none_on (children y) k f in let r = named_by ys k (omega arith) in (suc r.0, r.1))
    (cases_Bool (member k (children y)))

-- a question is answered by none or by some number
option_cases : (o : Option ℕ) → (o ≡ None) ⊎ ((m : ℕ) × (o ≡ Some m))
option_cases None = inl refl
option_cases (Some m) = inr (m, refl)

module _ (t : Tables) (tree : (n : ℕ) → n < length (elements t.nodes) → misgrown (elements t.nodes) n ≡ false) where
  -- every node but 0 is a child of a node with a lower number
  pub has_parent : (n : ℕ) → 0 < n → n < length (elements t.nodes) → (p : ℕ) × (p < n) × (member n (children (node_at (elements t.nodes) p)) ≡ true)
  has_parent n p l =
      let one = once (elements t.nodes) n (tree n l) p in
      let r = named_by (elements t.nodes) n (omega (arith, named_total (elements t.nodes) n)) in
      (r.0, higher (elements t.nodes) tree n r.0 r.1, r.1)

  -- the parent that is found is the parent
  pub parent_found : (c n : ℕ) → c < length (elements t.nodes) → member c (children (node_at (elements t.nodes) n)) ≡ true → parent_of (elements t.nodes) c ≡ Some n
  parent_found c n l h =
      let z : 0 + n ≡ n = omega arith in
      finds children (elements t.nodes) 0 c n (placed children refl (elements t.nodes) c n h) h
      (λ a k. ⊎_elim (λ e. let s = one_parent (elements t.nodes) tree c a n l (omega arith) e h in absurd (omega arith)) (λ f. f) (cases_Bool (member c (children (node_at (elements t.nodes) a)))))
      ∙ ap (λ k. Some k) z

  -- a parent that is found has a lower number
  parent_lower : (n m : ℕ) → parent_of (elements t.nodes) n ≡ Some m → m < n
  parent_lower n m e =
      let r = found_at children (elements t.nodes) 0 n m e in
      let k = higher (elements t.nodes) tree n r.0 r.3 in
      omega (arith, r.1)

  -- scopes that agree at lower numbers agree below a parent
  by_parent : (f g : ℕ → Scope) (n : ℕ) → ((m : ℕ) → m < n → f m ≡ g m) → (o : Option ℕ) → parent_of (elements t.nodes) n ≡ o → scope_below t f o ≡ scope_below t g o
  by_parent f g n go None e = refl
  by_parent f g n go (Some m) e = ap (λ Γ. lists.extend (binds (node_at (elements t.nodes) m)) Γ) (go m (parent_lower n m e))

  -- node 0 has no parent
  at_root : (f : ℕ → Scope) (n : ℕ) → n ≤ 0 → (o : Option ℕ) → parent_of (elements t.nodes) n ≡ o → scope_below t f o ≡ free t
  at_root f n z None e = refl
  at_root f n z (Some m) e = let l = parent_lower n m e in absurd (omega arith)

  root_scope : (k n : ℕ) → n ≤ 0 → scope_within t k n ≡ free t
  root_scope zero n z = refl
  root_scope (suc k) n z = at_root (scope_within t k) n z (parent_of (elements t.nodes) n) refl

  -- enough levels are enough
  enough : (k j n : ℕ) → n ≤ k → n ≤ j → scope_within t k n ≡ scope_within t j n
  enough zero j n a b = sym (root_scope j n a)
  enough (suc k) zero n a b = root_scope (suc k) n b
  enough (suc k) (suc j) n a b = by_parent (scope_within t k) (scope_within t j) n (λ m l. enough k j m (omega arith) (omega arith)) (parent_of (elements t.nodes) n) refl

  -- the scope at a child is the scope at its parent, with what the parent binds
  pub child_scope_at : (c n : ℕ) → c < length (elements t.nodes) → member c (children (node_at (elements t.nodes) n)) ≡ true →
      scope_at t c ≡ lists.extend (binds (node_at (elements t.nodes) n)) (scope_at t n)
  child_scope_at zero n l h = let k = higher (elements t.nodes) tree 0 n h in absurd (omega arith)
  child_scope_at (suc c) n l h =
      let k = higher (elements t.nodes) tree (suc c) n h in
      ap (scope_below t (scope_within t c)) (parent_found (suc c) n l h)
      ∙ ap (λ Γ. lists.extend (binds (node_at (elements t.nodes) n)) Γ) (enough c n n (omega arith) (omega arith))
