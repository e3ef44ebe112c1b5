-- The process of an opened sheet is scoped.
use Rattle.std.proofs.Common.{◌≡◌, ℕ, zero, suc, ◌+◌, ◌<◌, ◌≤◌, Bool, true, false, not, ◌&&◌, eqb, ltb, List, [], ◌∷◌, length, sym, refl, ap, ◌∙◌, subst, inl, ⊎_elim, arith}
use Rattle.std.specs.List.{AllByRecursion}
use Rattle.std.proofs.lemmas.List.{get_or_past}
use Rattle.std.proofs.lemmas.Bool.{false≢true, both_ways, eqb-true, eq-eqb, ltb-true, lt-ltb, or_cases, or_left, or_right, or_parts, and_parts, and_from, cases_lt, not_from_false, not-true}
use Rattle.fault.specs.Items.{list}
use Rattle.fault.specs.declared.items.Items.{Items}
use Rattle.fault.specs.declared.items.Items.TheVariants.{One, Two, Three, Four}
use Rattle.calculus.specs.Lists as lists
use Rattle.calculus.specs.Labels.{items}
use Rattle.calculus.specs.Scopes.{Scope, in_scope, Fresh}
use Rattle.tables.specs.Elements.{elements}
use Rattle.tables.specs.Encoding.{parts}
use Rattle.tables.specs.Range.{all, below, node_fits}
use Rattle.tables.specs.declared.tables.Node.{Node}
use Rattle.tables.specs.declared.tables.Node.TheVariants.{Stop, Send, Receive, Both, Copy, New, Test, Begin, End}
use Rattle.tables.specs.declared.tables.Tables.{Tables}
use Rattle.sheet.specs.Tree.{children, node_at, misgrown}
use Rattle.sheet.specs.Scope.{member, repeats, binds, uses, Misnamed, binds_twice}
use Rattle.sheet.specs.Opening as opening
use Rattle.sheet.proofs.Checking.{nodes_fit}
use Rattle.sheet.proofs.Parents.{higher}
use Rattle.sheet.proofs.Scanning.{is_false}
use Rattle.meaning.specs.Labels.{label_of}
use Rattle.meaning.specs.Processes.{shape, process_at}
use Rattle.meaning.specs.Scopes.{bound, free, Scoped}
use Rattle.meaning.proofs.Unfolding.{first, second, process_unfolds}
use Rattle.meaning.proofs.Scoping.{ScopeOf, lower, use_scoped, bind_fresh, child_scope}

-- a property of every member, as one of the list
each_member : (P : ℕ → Type 0) (xs : List ℕ) → ((x : ℕ) → member x xs ≡ true → P x) → AllByRecursion P xs
each_member P [] h = tt
each_member P (x ∷ xs) h = (h x (first x xs), each_member P xs (λ y m. h y (or_right (eqb y x) (member y xs) m)))

every_member : (p : ℕ → Bool) (xs : List ℕ) → ((x : ℕ) → member x xs ≡ true → p x ≡ true) → lists.every p xs ≡ true
every_member p [] h = refl
every_member p (x ∷ xs) h = and_from (p x) (lists.every p xs) (h x (first x xs)) (every_member p xs (λ y m. h y (or_right (eqb y x) (member y xs) m)))

-- the items of a label of names are its names
pub items_of : (xs : Items ℕ) → items (label_of (λ x. x) xs) ≡ list xs
items_of (One a) = refl
items_of (Two a b) = refl
items_of (Three a b c) = refl
items_of (Four a b c d) = refl

pub member_of : (x : ℕ) (xs : List ℕ) → lists.◌∈◌ x xs → member x xs ≡ true
member_of x [] h = elim h [ ]
member_of x (y ∷ ys) h = ⊎_elim (λ e. or_left (eqb x y) (member x ys) (eq-eqb x y e)) (λ m. or_right (eqb x y) (member x ys) (member_of x ys m)) h

-- names that are new, below 64 and not repeated are fresh
fresh : (Γ : Scope) (zs : List ℕ) → ((z : ℕ) → member z zs ≡ true → (z < 64) × (Γ z ≡ false)) → repeats zs ≡ false → Fresh zs Γ
fresh Γ [] h r = tt
fresh Γ (z ∷ zs) h r =
    let here = h z (first z zs) in
    let p = or_parts (member z zs) (repeats zs) r in
    (here.0, here.1, (λ m. both_ways (member z zs) p.0 (member_of z zs m)), fresh Γ zs (λ y m. h y (or_right (eqb y z) (member y zs) m)) p.1)

pub member_below : (n : ℕ) (xs : List ℕ) (x : ℕ) → below n xs ≡ true → member x xs ≡ true → x < n
member_below n [] x h m = absurd (false≢true m)
member_below n (y ∷ ys) x h m =
    let p = and_parts (ltb y n) (below n ys) h in
    ⊎_elim (λ same. let e = eqb-true x y same in let l = ltb-true y n p.0 in omega arith) (λ r. member_below n ys x p.1 r) (or_cases (eqb x y) (member x ys) m)

-- a node of the list passes what all pass
node_passes : (p : Node → Bool) (xs : List Node) (n : ℕ) → n < length xs → all p xs ≡ true → p (node_at xs n) ≡ true
node_passes p [] n l h = absurd (omega arith)
node_passes p (x ∷ xs) zero l h = (and_parts (p x) (all p xs) h).0
node_passes p (x ∷ xs) (suc n) l h = node_passes p xs n (omega arith) (and_parts (p x) (all p xs) h).1

module _ (nodes : List Node) (names : ℕ) (few : names ≤ 64) (tree : (n : ℕ) → n < length nodes → misgrown nodes n ≡ false) (named : (n : ℕ) → n < length nodes → Misnamed nodes n → ⊥)
    (fits : (n : ℕ) → n < length nodes → node_fits names (length nodes) (node_at nodes n) ≡ true) where
  module _ (n : ℕ) (there : n < length nodes) (Γ : Scope) (at : ScopeOf nodes names n Γ)
      (go : (c : ℕ) → n < c → (Δ : Scope) → ScopeOf nodes names c Δ → Scoped Δ (process_at nodes c)) where
    used : (x : ℕ) → ltb x names ≡ true → member x (uses (node_at nodes n)) ≡ true → in_scope Γ x ≡ true
    used x l m = use_scoped nodes names few tree named n there Γ at x (ltb-true x names l) m

    uses_all : (xs : List ℕ) → below names xs ≡ true → ((x : ℕ) → member x xs ≡ true → member x (uses (node_at nodes n)) ≡ true) → (x : ℕ) → member x xs ≡ true → in_scope Γ x ≡ true
    uses_all xs b h x m = use_scoped nodes names few tree named n there Γ at x (member_below names xs x b m) (h x m)

    new_names : (zs : List ℕ) → binds (node_at nodes n) ≡ zs → below names zs ≡ true → Fresh zs Γ
    new_names zs e b =
        fresh Γ zs
        (λ z m. (let l = member_below names zs z b m in omega arith, bind_fresh nodes names few tree named n there Γ at z (ap (member z) e ∙ m)))
        (is_false (repeats zs) (λ r. named n there (binds_twice (ap repeats e ∙ r))))

    kid : (c : ℕ) (zs : List ℕ) → ltb c (length nodes) ≡ true → member c (children (node_at nodes n)) ≡ true → binds (node_at nodes n) ≡ zs → below names zs ≡ true → Scoped (lists.extend zs Γ) (process_at nodes c)
    kid c zs l m e b =
        go c (higher nodes tree c n m) (lists.extend zs Γ)
        (subst (λ ys. ScopeOf nodes names c (lists.extend ys Γ)) e
        (child_scope nodes names few tree named n there Γ at c (ltb-true c (length nodes) l) m (ap (below names) e ∙ b)))

    by_node : (x : Node) → node_at nodes n ≡ x → node_fits names (length nodes) x ≡ true → Scoped Γ (shape (process_at nodes) x)
    by_node Stop e f = tt
    by_node (Send channel xs) e f =
        let p = and_parts (ltb channel names) (below names (parts xs)) f in (
          used channel p.0 (ap (λ y. member channel (uses y)) e ∙ first channel (parts xs)),
          each_member (λ y. in_scope Γ y ≡ true) (parts xs) (uses_all (parts xs) p.1 (λ x m. ap (λ y. member x (uses y)) e ∙ or_right (eqb x channel) (member x (parts xs)) m)),
        )
    by_node (Receive channel zs next) e f =
        let q = and_parts (ltb channel names && below names (parts zs)) (ltb next (length nodes)) f in
        let p = and_parts (ltb channel names) (below names (parts zs)) q.0 in (
          used channel p.0 (ap (λ y. member channel (uses y)) e ∙ first channel []),
          new_names (parts zs) (ap binds e) p.1,
          kid next (parts zs) q.1 (ap (λ y. member next (children y)) e ∙ first next []) (ap binds e) p.1,
        )
    by_node (Both a b) e f =
        let p = and_parts (ltb a (length nodes)) (ltb b (length nodes)) f in (
          kid a [] p.0 (ap (λ y. member a (children y)) e ∙ first a (b ∷ [])) (ap binds e) refl,
          kid b [] p.1 (ap (λ y. member b (children y)) e ∙ second b a []) (ap binds e) refl,
        )
    by_node (Copy next) e f = kid next [] f (ap (λ y. member next (children y)) e ∙ first next []) (ap binds e) refl
    by_node (New x next) e f =
        let p = and_parts (ltb x names) (ltb next (length nodes)) f in
        let small : below names (x ∷ []) ≡ true = and_from (ltb x names) true p.0 refl in (
          new_names (x ∷ []) (ap binds e) small,
          kid next (x ∷ []) p.1 (ap (λ y. member next (children y)) e ∙ first next []) (ap binds e) small,
        )
    by_node (Test left right same other) e f =
        let q = and_parts (ltb left names && ltb right names) (ltb same (length nodes) && ltb other (length nodes)) f in
        let p = and_parts (ltb left names) (ltb right names) q.0 in
        let r = and_parts (ltb same (length nodes)) (ltb other (length nodes)) q.1 in (
          used left p.0 (ap (λ y. member left (uses y)) e ∙ first left (right ∷ [])),
          used right p.1 (ap (λ y. member right (uses y)) e ∙ second right left []),
          kid same [] r.0 (ap (λ y. member same (children y)) e ∙ first same (other ∷ [])) (ap binds e) refl,
          kid other [] r.1 (ap (λ y. member other (children y)) e ∙ second other same []) (ap binds e) refl,
        )
    by_node (Begin label next) e f =
        let p = and_parts (below names (list label.items)) (ltb next (length nodes)) f in (
          ap (lists.every (in_scope Γ)) (items_of label.items) ∙ every_member (in_scope Γ) (list label.items) (uses_all (list label.items) p.0 (λ x m. ap (λ y. member x (uses y)) e ∙ m)),
          kid next [] p.1 (ap (λ y. member next (children y)) e ∙ first next []) (ap binds e) refl,
        )
    by_node (End label next) e f =
        let p = and_parts (below names (list label.items)) (ltb next (length nodes)) f in (
          ap (lists.every (in_scope Γ)) (items_of label.items) ∙ every_member (in_scope Γ) (list label.items) (uses_all (list label.items) p.0 (λ x m. ap (λ y. member x (uses y)) e ∙ m)),
          kid next [] p.1 (ap (λ y. member next (children y)) e ∙ first next []) (ap binds e) refl,
        )

  -- in the scope of a node, its process is scoped
  scoped_at : (k n : ℕ) → length nodes ≤ k + n → (Γ : Scope) → ScopeOf nodes names n Γ → Scoped Γ (process_at nodes n)
  scoped_at zero n l Γ at =
      subst (Scoped Γ) (sym (process_unfolds nodes tree n ∙ ap (shape (process_at nodes)) (get_or_past nodes n Stop (omega arith)))) tt
  scoped_at (suc k) n l Γ at =
      ⊎_elim
      (λ there. subst (Scoped Γ) (sym (process_unfolds nodes tree n)) (by_node n there Γ at (λ c m Δ d. scoped_at k c (omega arith) Δ d) (node_at nodes n) refl (fits n there)))
      (λ past. subst (Scoped Γ) (sym (process_unfolds nodes tree n ∙ ap (shape (process_at nodes)) (get_or_past nodes n Stop past))) tt)
      (cases_lt n (length nodes))

  pub process_scoped : (n : ℕ) (Γ : Scope) → ScopeOf nodes names n Γ → Scoped Γ (process_at nodes n)
  process_scoped n Γ at = scoped_at (length nodes) n (omega arith) Γ at

  -- the scope of the root: the free names
  pub root_scope : ScopeOf nodes names 0 (λ x. ltb x names && not (bound nodes x))
  root_scope = record {
    only = λ x h. let p = and_parts (ltb x names) (not (bound nodes x)) h in (ltb-true x names p.0, inl (not-true (bound nodes x) p.1));
    each = λ x r. and_from (ltb x names) (not (bound nodes x)) (lt-ltb x names r.0)
        (not_from_false (bound nodes x) (⊎_elim (λ f. f) (λ o. let l = lower nodes names few tree named o.2 in absurd (omega arith)) r.1));
  }

module _ (largest : ℕ) (t : Tables) (sound : opening.Sound largest t) where
  pub tree_of : (n : ℕ) → n < length (elements t.nodes) → misgrown (elements t.nodes) n ≡ false
  tree_of n l = is_false (misgrown (elements t.nodes) n) (λ e. sound.straight _ (opening.not_a_tree n l e))

  pub names_of : (n : ℕ) → n < length (elements t.nodes) → Misnamed (elements t.nodes) n → ⊥
  names_of n l e = sound.straight _ (opening.out_of_scope n l e)

  pub fits_of : (n : ℕ) → n < length (elements t.nodes) → node_fits (length (elements t.names)) (length (elements t.nodes)) (node_at (elements t.nodes) n) ≡ true
  fits_of n l = node_passes (node_fits (length (elements t.names)) (length (elements t.nodes))) (elements t.nodes) n l (nodes_fit largest t sound.in_range)

  -- the process of an opened sheet is scoped by its free names
  pub sheet_scoped : Scoped (free t) (process_at (elements t.nodes) 0)
  sheet_scoped =
      let few = sound.limited.names in
      process_scoped (elements t.nodes) (length (elements t.names)) few tree_of names_of fits_of 0 (free t)
      (root_scope (elements t.nodes) (length (elements t.names)) few tree_of names_of fits_of)
