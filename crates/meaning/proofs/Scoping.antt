-- Every name of an opened sheet's process is in scope where it is used, and fresh where it is bound.
use Rattle.std.proofs.Common.{◌≡◌, ℕ, zero, suc, ◌<◌, ◌≤◌, true, false, cond, eqb, ltb, ◌⊎◌, List, [], ◌∷◌, length, sym, ap, ◌∙◌, subst, inl, inr, ⊎_elim, arith}
use Rattle.std.proofs.lemmas.Bool.{false≢true, both_ways, eqb-true, eq-eqb, ltb-true, lt-ltb, or_cases, or_left, or_right, and_parts, and_from, cases_Bool, cases_lt}
use Rattle.calculus.specs.Lists as lists
use Rattle.calculus.specs.Scopes.{Scope, in_scope}
use Rattle.tables.specs.Range.{below}
use Rattle.tables.specs.declared.tables.Node.{Node}
use Rattle.sheet.specs.Tree.{children, node_at, misgrown}
use Rattle.sheet.specs.Scope.{member, binds, uses, Below, child, further, Binder, Misnamed, bound_already, out_of_scope}
use Rattle.sheet.proofs.Parents.{higher, one_parent}
use Rattle.meaning.specs.Scopes.{bound}

-- no lower node binds x, with one node more in front
later : (y : Node) (ys : List Node) (x b : ℕ) → member x (binds y) ≡ false → ((a : ℕ) → a < b → member x (binds (node_at ys a)) ≡ false) → (a : ℕ) → a < suc b → member x (binds (node_at (y ∷ ys) a)) ≡ false
later y ys x b away f zero l = away
later y ys x b away f (suc a) l = f a (omega arith)

-- a bound name has a lowest binder, and a binder makes a name bound
pub find_binder : (nodes : List Node) (x : ℕ) → bound nodes x ≡ true → (b : ℕ) × Binder nodes x b
find_binder [] x h = absurd (false≢true h)
find_binder (y ∷ ys) x h =
    ⊎_elim
    (λ here. (0, record { here = here; first = λ a l. absurd (omega arith) }))
    (λ away.
    let rest : bound ys x ≡ true = ⊎_elim (λ here. absurd (both_ways _ away here)) (λ r. r) (or_cases (member x (binds y)) (bound ys x) h) in
    let found = find_binder ys x rest in
    (suc found.0, record { here = found.1.here; first = later y ys x found.0 away found.1.first }))
    (cases_Bool (member x (binds y)))

pub is_bound : (nodes : List Node) (x b : ℕ) → member x (binds (node_at nodes b)) ≡ true → bound nodes x ≡ true
is_bound [] x zero h = h
is_bound [] x (suc b) h = h
is_bound (y ∷ ys) x zero h = or_left (member x (binds y)) (bound ys x) h
is_bound (y ∷ ys) x (suc b) h = or_right (member x (binds y)) (bound ys x) (is_bound ys x b h)

-- x is in scope at node n: it is there, and either free or bound by a node that n stands below
abbrev pub Reaches : List Node → ℕ → ℕ → ℕ → Type 0
Reaches nodes names n x = (x < names) × ((bound nodes x ≡ false) ⊎ ((b : ℕ) × Binder nodes x b × Below nodes b n))

-- a scope is that of a node
pub record ScopeOf (nodes : List Node) (names n : ℕ) (Γ : Scope) : Type 0 where
  pub only : (x : ℕ) → Γ x ≡ true → Reaches nodes names n x
  pub each : (x : ℕ) → Reaches nodes names n x → Γ x ≡ true

extend_cases : (zs : List ℕ) (Γ : Scope) (x : ℕ) → lists.extend zs Γ x ≡ true → (member x zs ≡ true) ⊎ (Γ x ≡ true)
extend_cases [] Γ x h = inr h
extend_cases (z ∷ zs) Γ x h =
    ⊎_elim
    (λ same. inl (or_left (eqb x z) (member x zs) (eq-eqb x z (sym (eqb-true z x same)))))
    (λ other. ⊎_elim (λ m. inl (or_right (eqb x z) (member x zs) m)) inr (extend_cases zs Γ x (sym (ap (λ b. cond b true (lists.extend zs Γ x)) other) ∙ h)))
    (cases_Bool (eqb z x))

extend_member : (zs : List ℕ) (Γ : Scope) (x : ℕ) → member x zs ≡ true → lists.extend zs Γ x ≡ true
extend_member [] Γ x h = absurd (false≢true h)
extend_member (z ∷ zs) Γ x h =
    ⊎_elim
    (λ same. ap (λ b. cond b true (lists.extend zs Γ x)) (eq-eqb z x (sym (eqb-true x z same))))
    (λ m. let r = extend_member zs Γ x m in ⊎_elim (λ s. ap (λ b. cond b true (lists.extend zs Γ x)) s) (λ o. ap (λ b. cond b true (lists.extend zs Γ x)) o ∙ r) (cases_Bool (eqb z x)))
    (or_cases (eqb x z) (member x zs) h)

extend_keeps : (zs : List ℕ) (Γ : Scope) (x : ℕ) → Γ x ≡ true → lists.extend zs Γ x ≡ true
extend_keeps [] Γ x h = h
extend_keeps (z ∷ zs) Γ x h =
    let r = extend_keeps zs Γ x h in
    ⊎_elim (λ s. ap (λ b. cond b true (lists.extend zs Γ x)) s) (λ o. ap (λ b. cond b true (lists.extend zs Γ x)) o ∙ r) (cases_Bool (eqb z x))

below_member : (n : ℕ) (xs : List ℕ) (x : ℕ) → below n xs ≡ true → member x xs ≡ true → x < n
below_member n [] x h m = absurd (false≢true m)
below_member n (y ∷ ys) x h m =
    let p = and_parts (ltb y n) (below n ys) h in
    ⊎_elim (λ same. let e = eqb-true x y same in let l = ltb-true y n p.0 in omega arith) (λ r. below_member n ys x p.1 r) (or_cases (eqb x y) (member x ys) m)

module _ (nodes : List Node) (names : ℕ) (few : names ≤ 64) (tree : (n : ℕ) → n < length nodes → misgrown nodes n ≡ false) (scoped : (n : ℕ) → n < length nodes → Misnamed nodes n → ⊥) where
  -- what a node stands below has a lower number
  pub lower : {b n : ℕ} → Below nodes b n → b < n
  lower {b} {n} (child h) = higher nodes tree n b h
  lower {b} {n} (further {m} o h) = let l = lower o in let k = higher nodes tree n m h in omega arith

  same_parent : (m n c : ℕ) → c < length nodes → member c (children (node_at nodes m)) ≡ true → member c (children (node_at nodes n)) ≡ true → m ≡ n
  same_parent m n c l g h =
      ⊎_elim (λ k. one_parent nodes tree c m n l (omega arith) g h) (λ k. sym (one_parent nodes tree c n m l k h g)) (cases_lt m n)

  -- what a child stands below is its parent, or what the parent stands below
  up : {b n c : ℕ} → c < length nodes → member c (children (node_at nodes n)) ≡ true → Below nodes b c → (b ≡ n) ⊎ Below nodes b n
  up {b} {n} {c} l h (child g) = inl (same_parent b n c l g h)
  up {b} {n} {c} l h (further {m} o g) = inr (subst (λ k. Below nodes b k) (same_parent m n c l g h) o)

  module _ (n : ℕ) (there : n < length nodes) (Γ : Scope) (at : ScopeOf nodes names n Γ) where
    -- a name that is used there is in scope
    pub use_scoped : (x : ℕ) → x < names → member x (uses (node_at nodes n)) ≡ true → in_scope Γ x ≡ true
    use_scoped x l u =
        and_from (ltb x 64) (Γ x) (lt-ltb x 64 (omega arith))
        (⊎_elim
        (λ b. ⊎_elim (λ t. t) (λ f.
        let found = find_binder nodes x b in
        absurd (scoped n there (out_of_scope x found.0 found.1 u (λ o. both_ways (Γ x) f (at.each x (l, inr (found.0, found.1, o))))))) (cases_Bool (Γ x)))
        (λ f. at.each x (l, inl f))
        (cases_Bool (bound nodes x)))

    -- a name that is bound there is new
    pub bind_fresh : (x : ℕ) → member x (binds (node_at nodes n)) ≡ true → Γ x ≡ false
    bind_fresh x h =
        ⊎_elim
        (λ t. ⊎_elim
        (λ f. absurd (both_ways (bound nodes x) f (is_bound nodes x n h)))
        (λ o. absurd (scoped n there (bound_already x o.0 (lower o.2) o.1.here h)))
        (at.only x t).1)
        (λ f. f)
        (cases_Bool (Γ x))

    -- the node is the binder of what it binds
    binder : (x : ℕ) → member x (binds (node_at nodes n)) ≡ true → Binder nodes x n
    binder x h = record {
      here = h;
      first = λ a l. ⊎_elim (λ t. absurd (scoped n there (bound_already x a l t h))) (λ f. f) (cases_Bool (member x (binds (node_at nodes a))));
    }

    -- the scope of a child
    pub child_scope : (c : ℕ) → c < length nodes → member c (children (node_at nodes n)) ≡ true → below names (binds (node_at nodes n)) ≡ true → ScopeOf nodes names c (lists.extend (binds (node_at nodes n)) Γ)
    child_scope c l h small = record {
      only = λ x t. ⊎_elim
          (λ m. (below_member names (binds (node_at nodes n)) x small m, inr (n, binder x m, child h)))
          (λ g. let r = at.only x g in (r.0, ⊎_elim inl (λ o. inr (o.0, o.1, further o.2 h)) r.1))
          (extend_cases (binds (node_at nodes n)) Γ x t);
      each = λ x r. ⊎_elim
          (λ f. extend_keeps (binds (node_at nodes n)) Γ x (at.each x (r.0, inl f)))
          (λ o. ⊎_elim
          (λ e. extend_member (binds (node_at nodes n)) Γ x (subst (λ k. member x (binds (node_at nodes k)) ≡ true) e o.1.here))
          (λ b. extend_keeps (binds (node_at nodes n)) Γ x (at.each x (r.0, inr (o.0, o.1, b))))
          (up l h o.2))
          r.1;
    }
