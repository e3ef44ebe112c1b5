-- A child has one parent, which has a lower number: what the nodes of a tree keep.
use Rattle.std.proofs.Common.{◌≡◌, ℕ, ◌<◌, ◌≤◌, Bool, true, false, cond, not, ◌&&◌, eqb, ltb, List, [], ◌∷◌, length, get_or, take, sym, refl, ap, ◌∙◌, ⊎_elim, arith}
use Rattle.std.proofs.lemmas.List.{get_or_past, get_or-take, length-take-le}
use Rattle.std.proofs.lemmas.List.Sums.{sum_by-cons, sum_by-drop_more, sum_by-take-drop, get_or-le-sum_by}
use Rattle.std.proofs.lemmas.Bool.{both_ways, not-false, ltb-true, eqb-true, eq-eqb, and_parts, and_cases, or_cases, or_parts, cases_lt, lt-ltb, false≢true}
use Rattle.tables.specs.Range.{all}
use Rattle.sheet.specs.Tree.{children, node_at, times, named, misgrown}
use Rattle.sheet.specs.Scope.{member}
use Rattle.tables.specs.declared.tables.Node.{Node}
use Rattle.tables.specs.declared.tables.Node.TheVariants.{Stop}

-- what passes of each element passes of a member
pub all_member : (p : ℕ → Bool) (xs : List ℕ) (x : ℕ) → all p xs ≡ true → member x xs ≡ true → p x ≡ true
all_member p [] x a m = absurd (false≢true m)
all_member p (y ∷ ys) x a m =
    let h = and_parts (p y) (all p ys) a in
    ⊎_elim
    (λ e. ap p (eqb-true x y e) ∙ h.0)
    (λ n. all_member p ys x h.1 n)
    (or_cases (eqb x y) (member x ys) m)

-- a member of a node's list: there is such a node
pub placed : (of : Node → List ℕ) → of Stop ≡ [] → (nodes : List Node) (x m : ℕ) → member x (of (node_at nodes m)) ≡ true → m < length nodes
placed of e nodes x m h =
    ⊎_elim
    (λ l. l)
    (λ l.
    let g = get_or_past nodes m Stop l in
    absurd (false≢true (ap (member x) (sym e ∙ ap of (sym g)) ∙ h)))
    (cases_lt m (length nodes))

-- a member stands in the list at least once
times_member : (k : ℕ) (xs : List ℕ) → member k xs ≡ true → 1 ≤ times k xs
times_member k [] m = absurd (false≢true m)
times_member k (y ∷ ys) m =
    let s = sum_by-cons (λ x. cond (eqb x k) 1 0) y ys in
    ⊎_elim
    (λ e. let o : ◌≡◌ {A = ℕ} (cond (eqb y k) 1 0) 1 = ap (λ b. cond b 1 0) (eq-eqb y k (sym (eqb-true k y e))) in omega arith)
    (λ n. omega (arith, times_member k ys n))
    (or_cases (eqb k y) (member k ys) m)

-- a child of two nodes is named twice
named_twice : (nodes : List Node) (k p m : ℕ) → p < m → m < length nodes → member k (children (node_at nodes p)) ≡ true → member k (children (node_at nodes m)) ≡ true → 2 ≤ named nodes k
named_twice nodes k p m l l' hp hm =
    let f : Node → ℕ = λ x. times k (children x) in
    let a = get_or-le-sum_by f (take m nodes) p Stop (omega (arith, length-take-le m nodes (omega arith))) in
    let a' : f (get_or (take m nodes) p Stop) ≡ f (node_at nodes p) = ap f (get_or-take m nodes p Stop l) in
    let b = sum_by-drop_more f nodes m Stop l' in
    let s = sum_by-take-drop f nodes m in
    omega (arith, times_member k (children (node_at nodes p)) hp, times_member k (children (node_at nodes m)) hm)

-- a child has a higher number
above : (nodes : List Node) (k m : ℕ) → misgrown nodes m ≡ false → member k (children (node_at nodes m)) ≡ true → m < k
above nodes k m g h =
    let a = (or_parts (not (all (λ c. ltb m c) (children (node_at nodes m)))) (ltb 0 m && not (eqb (named nodes m) 1)) g).0 in
    ltb-true m k (all_member (λ c. ltb m c) (children (node_at nodes m)) k (not-false _ a) h)

-- every node but 0 is named once
pub once : (nodes : List Node) (k : ℕ) → misgrown nodes k ≡ false → 0 < k → named nodes k ≡ 1
once nodes k g l =
    let b = (or_parts (not (all (λ c. ltb k c) (children (node_at nodes k)))) (ltb 0 k && not (eqb (named nodes k) 1)) g).1 in
    ⊎_elim
    (λ z. absurd (both_ways (ltb 0 k) z (lt-ltb 0 k l)))
    (λ e. eqb-true (named nodes k) 1 (not-false _ e))
    (and_cases (ltb 0 k) (not (eqb (named nodes k) 1)) b)

-- in a tree a child has a higher number, and one parent
module _ (nodes : List Node) (tree : (n : ℕ) → n < length nodes → misgrown nodes n ≡ false) where
  pub higher : (k m : ℕ) → member k (children (node_at nodes m)) ≡ true → m < k
  higher k m h = above nodes k m (tree m (placed children refl nodes k m h)) h

  pub one_parent : (k p m : ℕ) → k < length nodes → p ≤ m → member k (children (node_at nodes p)) ≡ true → member k (children (node_at nodes m)) ≡ true → p ≡ m
  one_parent k p m l le hp hm =
      let one = once nodes k (tree k l) (omega (arith, higher k m hm)) in
      ⊎_elim
      (λ lower. absurd (omega (arith, named_twice nodes k p m lower (placed children refl nodes k m hm) hp hm)))
      (λ same. omega arith)
      (cases_lt p m)
