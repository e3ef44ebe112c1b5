-- A chart of nodes agrees with what the nodes mean; the scope at a node, from the scope at its parent.
use Rattle.std.proofs.Common.{◌≡◌, ℕ, zero, suc, ◌+◌, ◌<◌, ◌≤◌, Bool, true, false, cond, ◌||◌, eqb, List, [], ◌∷◌, length, get_or, is_some, Some, None, Option, sym, refl, ap, ◌∙◌, subst, ⊎_elim, arith}
use Rattle.std.proofs.lemmas.Bool.{false≢true, cases_Bool, cases_eq, cases_order, cond-true, cond-false, eq-eqb, ne_eqb, or_right}
use Rattle.calculus.specs.Lists.{extend}
use Rattle.calculus.specs.Scopes.{Scope}
use Rattle.fault.specs.First.{Lowest}
use Rattle.tables.specs.Elements.{elements}
use Rattle.tables.specs.declared.tables.Node.{Node}
use Rattle.tables.specs.declared.tables.Tables.{Tables}
use Rattle.sheet.specs.declared.chart.Chart.{Chart}
use Rattle.sheet.specs.Tree.{children, node_at}
use Rattle.sheet.specs.Scope.{member, binds, Holders}
use Rattle.sheet.specs.Opening.{Sound}
use Rattle.sheet.proofs.Parents.{higher}
use Rattle.meaning.specs.Scopes.{bound, free, first_with, parent_of, binder_of, scope_below, scope_within, scope_at}
use Rattle.meaning.proofs.Scopes.{tree_of}
use Rattle.names.specs.Charts.{Charts}

-- there is no place below n with P; or the number is that of the lowest such place, counted from i
abbrev Found : (ℕ → Type 0) → (n i : ℕ) → Option ℕ → Type 0
Found P n i None = (j : ℕ) → j < n → P j → ⊥
Found P n i (Some k) = (j : ℕ) × (k ≡ i + j) × (j < n) × P j × ((a : ℕ) → a < j → P a → ⊥)

none_more : (P : ℕ → Type 0) (n : ℕ) → (P 0 → ⊥) → ((j : ℕ) → j < n → P (suc j) → ⊥) → (j : ℕ) → j < suc n → P j → ⊥
none_more P n away h zero l p = away p
none_more P n away h (suc j) l p = h j (omega arith) p

-- one place more in front
found_more : (P : ℕ → Type 0) (n i : ℕ) (o : Option ℕ) → (P 0 → ⊥) → Found (λ j. P (suc j)) n (suc i) o → Found P (suc n) i o
found_more P n i None away h = none_more P n away h
found_more P n i (Some k) away h = (suc h.0, omega (arith, h.1), omega (arith, h.2), h.3, none_more P h.0 away h.4)

found : (of : Node → List ℕ) (nodes : List Node) (i x : ℕ) → Found (λ j. member x (of (node_at nodes j)) ≡ true) (length nodes) i (first_with of nodes i x)
found of [] i x = λ j l m. absurd (omega arith)
found of (y ∷ ys) i x =
    let P : ℕ → Type 0 = λ j. member x (of (node_at (y ∷ ys) j)) ≡ true in
    let rest = first_with of ys (suc i) x in
    ⊎_elim
    (λ here. subst (Found P (length (y ∷ ys)) i) (sym (cond-true (member x (of y)) (Some i) rest here)) (0, omega arith, omega arith, here, λ a l. absurd (omega arith)))
    (λ away. subst (Found P (length (y ∷ ys)) i) (sym (cond-false (member x (of y)) (Some i) rest away))
    (found_more P (length ys) i rest (λ here. false≢true (sym away ∙ here)) (found of ys (suc i) x)))
    (cases_Bool (member x (of y)))

from_zero : (P : ℕ → Type 0) (n : ℕ) (o : Option ℕ) → Found P n 0 o → Lowest P n o
from_zero P n None h = h
from_zero P n (Some k) h =
    let e : h.0 ≡ k = omega (arith, h.1) in
    subst (λ m. Lowest P n (Some m)) e (h.2, h.3, h.4)

-- the first node with x in its list is the lowest
pub first_lowest : (of : Node → List ℕ) (nodes : List Node) (x : ℕ) → Lowest (λ j. member x (of (node_at nodes j)) ≡ true) (length nodes) (first_with of nodes 0 x)
first_lowest of nodes x = from_zero _ (length nodes) (first_with of nodes 0 x) (found of nodes 0 x)

-- there is one lowest
lowest_same : (P : ℕ → Type 0) (n : ℕ) (a b : Option ℕ) → Lowest P n a → Lowest P n b → a ≡ b
lowest_same P n None None h k = refl
lowest_same P n None (Some b) h k = absurd (h b k.0 k.1)
lowest_same P n (Some a) None h k = absurd (k a h.0 h.1)
lowest_same P n (Some a) (Some b) h k =
    ⊎_elim (λ e. ap Some e) (⊎_elim (λ l. absurd (k.2 a l h.1)) (λ l. absurd (h.2 b l k.1))) (cases_order a b)

-- a table of the lowest nodes has the first
held : (of : Node → List ℕ) (nodes : List Node) (table : List (Option ℕ)) (x : ℕ) → Holders of nodes (length nodes) table → x < length table → get_or table x None ≡ first_with of nodes 0 x
held of nodes table x h l = lowest_same _ (length nodes) (get_or table x None) (first_with of nodes 0 x) (h x l) (first_lowest of nodes x)

-- what the first is
first_here : (of : Node → List ℕ) (nodes : List Node) (x m : ℕ) → first_with of nodes 0 x ≡ Some m → (m < length nodes) × (member x (of (node_at nodes m)) ≡ true)
first_here of nodes x m e =
    let h = subst (Lowest (λ j. member x (of (node_at nodes j)) ≡ true) (length nodes)) e (first_lowest of nodes x) in
    (h.0, h.1)

-- a binder is a node that there is
pub binder_within : (nodes : List Node) (x b : ℕ) → binder_of nodes x ≡ Some b → b < length nodes
binder_within nodes x b e = (first_here binds nodes x b e).0

-- the chart of a sheet's nodes, as they mean it
pub charts : (largest : ℕ) (t : Tables) → Sound largest t → (nodes : List Node) → nodes ≡ elements t.nodes → (chart : Chart)
    → Holders binds nodes (length nodes) chart.binders → Holders children nodes (length nodes) chart.parents
    → (length chart.binders ≡ 64) × (length chart.parents ≡ 1024) → Charts (elements t.nodes) chart
charts largest t sound nodes e chart bs ps sizes =
    let all = elements t.nodes in
    record {
      few = sound.limited.nodes;
      binders = λ x l. held binds all chart.binders x (subst (λ ns. Holders binds ns (length ns) chart.binders) e bs) (omega (arith, sizes.0));
      parents = λ n l. held children all chart.parents n (subst (λ ns. Holders children ns (length ns) chart.parents) e ps) (omega (arith, sizes.1));
      lower = λ n m h. higher all (tree_of largest t sound) n m (first_here children all n m h).1;
    }

some_or : (b c : Bool) (i : ℕ) (o : Option ℕ) → is_some o ≡ c → is_some (cond b (Some i) o) ≡ (b || c)
some_or true c i o h = refl
some_or false c i o h = h

some_from : (nodes : List Node) (i x : ℕ) → is_some (first_with binds nodes i x) ≡ bound nodes x
some_from [] i x = refl
some_from (y ∷ ys) i x = some_or (member x (binds y)) (bound ys x) i (first_with binds ys (suc i) x) (some_from ys (suc i) x)

-- a name has a binder where it is bound
pub binder_bound : (nodes : List Node) (x : ℕ) → is_some (binder_of nodes x) ≡ bound nodes x
binder_bound nodes x = some_from nodes 0 x

eqb_sym : (a b : ℕ) → eqb a b ≡ eqb b a
eqb_sym a b = ⊎_elim (λ e. eq-eqb a b e ∙ sym (eq-eqb b a (sym e))) (λ n. ne_eqb a b n ∙ sym (ne_eqb b a (λ e. n (sym e)))) (cases_eq a b)

cond_or : (b c : Bool) → cond b true c ≡ (b || c)
cond_or true c = refl
cond_or false c = refl

or_assoc : (a b c : Bool) → (a || (b || c)) ≡ ((a || b) || c)
or_assoc true b c = refl
or_assoc false b c = refl

-- a scope with further names: one of these, or in the scope
pub extend_is : (zs : List ℕ) (Γ : Scope) (x : ℕ) → extend zs Γ x ≡ (member x zs || Γ x)
extend_is [] Γ x = refl
extend_is (z ∷ zs) Γ x =
    ap (λ b. cond b true (extend zs Γ x)) (eqb_sym z x)
    ∙ ap (cond (eqb x z) true) (extend_is zs Γ x)
    ∙ cond_or (eqb x z) (member x zs || Γ x)
    ∙ or_assoc (eqb x z) (member x zs) (Γ x)

-- two scopes below a parent are the same where those at the parent are
below_same : (t : Tables) (Γ Δ : ℕ → Scope) (y : ℕ) (o : Option ℕ) → ((m : ℕ) → o ≡ Some m → Γ m y ≡ Δ m y) → scope_below t Γ o y ≡ scope_below t Δ o y
below_same t Γ Δ y None h = refl
below_same t Γ Δ y (Some m) h =
    let zs = binds (node_at (elements t.nodes) m) in
    extend_is zs (Γ m) y ∙ ap (λ b. member y zs || b) (h m refl) ∙ sym (extend_is zs (Δ m) y)

-- node 0 has no parent
no_parent : (t : Tables) (Γ : ℕ → Scope) (n y : ℕ) (o : Option ℕ) → n ≤ 0 → ((m : ℕ) → o ≡ Some m → m < n) → free t y ≡ scope_below t Γ o y
no_parent t Γ n y None l h = refl
no_parent t Γ n y (Some m) l h = absurd (omega (arith, h m refl))

module _ (t : Tables) (lower : (n m : ℕ) → parent_of (elements t.nodes) n ≡ Some m → m < n) where
  -- as many levels as the node's number are enough
  enough : (j k n y : ℕ) → n ≤ j → n ≤ k → scope_within t j n y ≡ scope_within t k n y
  enough zero zero n y p q = refl
  enough zero (suc k) n y p q = no_parent t (scope_within t k) n y (parent_of (elements t.nodes) n) p (lower n)
  enough (suc j) zero n y p q = sym (no_parent t (scope_within t j) n y (parent_of (elements t.nodes) n) q (lower n))
  enough (suc j) (suc k) n y p q =
      below_same t (scope_within t j) (scope_within t k) y (parent_of (elements t.nodes) n)
      (λ m e. let l = lower n m e in enough j k m y (omega arith) (omega arith))

  -- the scope at a node, from that at its parent
  scope_step : (n y : ℕ) → scope_at t n y ≡ scope_below t (scope_at t) (parent_of (elements t.nodes) n) y
  scope_step n y =
      enough n (suc n) n y (omega arith) (omega arith)
      ∙ below_same t (scope_within t n) (scope_at t) y (parent_of (elements t.nodes) n)
      (λ m e. let l = lower n m e in enough n m m y (omega arith) (omega arith))

  -- at a node without a parent, and at one with a parent
  pub scope_root : (n y : ℕ) → parent_of (elements t.nodes) n ≡ None → scope_at t n y ≡ free t y
  scope_root n y e = scope_step n y ∙ ap (λ o. scope_below t (scope_at t) o y) e

  pub scope_child : (n m y : ℕ) → parent_of (elements t.nodes) n ≡ Some m → scope_at t n y ≡ (member y (binds (node_at (elements t.nodes) m)) || scope_at t m y)
  scope_child n m y e =
      scope_step n y ∙ ap (λ o. scope_below t (scope_at t) o y) e ∙ extend_is (binds (node_at (elements t.nodes) m)) (scope_at t m) y

-- a free name is in scope everywhere
pub free_in : (t : Tables) (levels n y : ℕ) → free t y ≡ true → scope_within t levels n y ≡ true
free_in t zero n y h = h
free_in t (suc levels) n y h = below (parent_of (elements t.nodes) n) (λ m. free_in t levels m y h)
  where
    below : (o : Option ℕ) → ((m : ℕ) → scope_within t levels m y ≡ true) → scope_below t (scope_within t levels) o y ≡ true
    below None r = h
    below (Some m) r =
        let zs = binds (node_at (elements t.nodes) m) in
        extend_is zs (scope_within t levels m) y ∙ or_right (member y zs) (scope_within t levels m y) (r m)
