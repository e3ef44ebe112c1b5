-- A sheet with nothing to refuse is a sheet that the rules accept, and the other way round.
use Rattle.std.proofs.Common.{◌≡◌, ℕ, zero, suc, ◌+◌, ◌<◌, ◌≤◌, true, false, not, ◌&&◌, eqb, ltb, ◌⊎◌, List, [], ◌∷◌, length, get_or, take, Some, sym, refl, ap, ◌∙◌, subst, inl, inr, ⊎_elim, arith}
use Rattle.std.proofs.lemmas.List.{get_or_past}
use Rattle.std.proofs.lemmas.Bool.{false≢true, both_ways, cases_Bool, cases_lt, cond-true, cond-false, or_cases, or_right, or_parts, and_parts, and_from, eq-eqb, eqb-true, ne_eqb, ltb-true, lt-ltb, not_from_false}
use Rattle.calculus.specs.Checks.{Checks, Passes}
use Rattle.calculus.specs.Countings.{Operations, Laws}
use Rattle.calculus.specs.Effects.{amount}
use Rattle.calculus.specs.Labels.{Label, items}
use Rattle.calculus.specs.Lists as lists
use Rattle.calculus.specs.Scopes.{Scope, in_scope, WellFormed, WellFormedEnvironment}
use Rattle.calculus.specs.Types.{Name, public}
use Rattle.calculus.specs.Typing.{Accepted, WellFormedInTurn}
use Rattle.calculus.proofs.Scopes.{environment_new, environment_receive}
use Rattle.calculus.proofs.Typing.{acceptance_agrees, public_environment, typing_agrees}
use Rattle.fault.specs.Items.{list}
use Rattle.tables.specs.Elements.{elements}
use Rattle.tables.specs.Encoding.{parts}
use Rattle.tables.specs.Range.{below, node_fits}
use Rattle.tables.specs.declared.tables.Node.{Node}
use Rattle.tables.specs.declared.tables.Node.TheVariants.{Stop, Send, Receive, Both, Copy, New, Test, Begin, End}
use Rattle.tables.specs.declared.tables.Tables.{Tables}
use Rattle.sheet.specs.Opening.{Sound}
use Rattle.sheet.specs.Scope.{member, repeats, binds, binds_twice, bound_already}
use Rattle.sheet.specs.Tree.{children, node_at}
use Rattle.sheet.proofs.Parents.{higher, placed}
use Rattle.sheet.proofs.Scanning.{is_false}
use Rattle.meaning.specs.Amounts.{amount_at, Least}
use Rattle.meaning.specs.Judged.{Judged}
use Rattle.meaning.specs.Processes.{shape, process_at}
use Rattle.meaning.specs.Scopes.{bound, free, binder_of, scope_at, earlier, scope_beside, scope_for}
use Rattle.meaning.specs.Types.{types_of}
use Rattle.meaning.specs.Uses.{CountFits, TypesFit}
use Rattle.meaning.proofs.Above.{finds, finds_none, has_parent, child_scope_at}
use Rattle.meaning.proofs.Judging.{checked}
use Rattle.meaning.proofs.Scopes.{tree_of, names_of, fits_of, sheet_scoped, member_below, member_of}
use Rattle.meaning.proofs.Scoping.{find_binder, is_bound}
use Rattle.meaning.proofs.Unfolding.{first, second, process_unfolds}

-- nothing is to be refused: what each rule of refusal asks, said of every name and node
pub record Clean (K : Operations) (t : Tables) : Type 0 where
  pub free_public : (x : ℕ) → in_scope (free t) x ≡ true → types_of t x ≡ public
  pub well_formed : (x : ℕ) → x < length (elements t.names) → WellFormed (scope_for t x) (types_of t x)
  pub counts : (n : ℕ) → CountFits (types_of t) (node_at (elements t.nodes) n)
  pub types : (n : ℕ) → TypesFit K (types_of t) (node_at (elements t.nodes) n)
  pub contained : (n z : ℕ) (L : Label Name) → lists.◌∈◌ z (binds (node_at (elements t.nodes) n)) → lists.◌∈◌ z (items L) → amount_at K t n L ≡ 0
  pub copyable : (n next : ℕ) (L : Label Name) → node_at (elements t.nodes) n ≡ Copy next → K.join (amount_at K t n L) (amount_at K t n L) ≡ amount_at K t n L
  pub nothing_owed : (L : Label Name) → amount_at K t 0 L ≡ 0

-- an element is a member, and a member has a place
get_or_member : (zs : List ℕ) (i : ℕ) → i < length zs → member (get_or zs i 0) zs ≡ true
get_or_member [] i l = absurd (omega arith)
get_or_member (z ∷ zs) zero l = first z zs
get_or_member (z ∷ zs) (suc i) l = or_right (eqb (get_or zs i 0) z) (member (get_or zs i 0) zs) (get_or_member zs i (omega arith))

place_of : (x : ℕ) (zs : List ℕ) → member x zs ≡ true → (i : ℕ) × (i < length zs) × (get_or zs i 0 ≡ x)
place_of x [] m = absurd (false≢true m)
place_of x (z ∷ zs) m =
    ⊎_elim
    (λ e. (0, omega arith, sym (eqb-true x z e)))
    (λ r. let p = place_of x zs r in (suc p.0, omega (arith, p.1), p.2))
    (or_cases (eqb x z) (member x zs) m)

-- what stands before a name that is there once is what comes before its place
earlier_take : (zs : List ℕ) (i : ℕ) → i < length zs → repeats zs ≡ false → earlier (get_or zs i 0) zs ≡ take i zs
earlier_take [] i l r = absurd (omega arith)
earlier_take (z ∷ zs) zero l r = cond-true (eqb z z) [] (z ∷ earlier z zs) (eq-eqb z z refl)
earlier_take (z ∷ zs) (suc i) l r =
    let p = or_parts (member z zs) (repeats zs) r in
    let x = get_or zs i 0 in
    let other : eqb x z ≡ false = ne_eqb x z (λ e. both_ways (member z zs) p.0 (subst (λ y. member y zs ≡ true) e (get_or_member zs i (omega arith)))) in
    cond-false (eqb x z) [] (z ∷ earlier x zs) other ∙ ap (λ ys. z ∷ ys) (earlier_take zs i (omega arith) p.1)

-- a member of one or two
one_of : (c a : ℕ) → member c (a ∷ []) ≡ true → c ≡ a
one_of c a m = ⊎_elim (λ e. eqb-true c a e) (λ f. absurd (false≢true f)) (or_cases (eqb c a) false m)

two_of : (c a b : ℕ) → member c (a ∷ b ∷ []) ≡ true → (c ≡ a) ⊎ (c ≡ b)
two_of c a b m = ⊎_elim (λ e. inl (eqb-true c a e)) (λ r. inr (one_of c b r)) (or_cases (eqb c a) (member c (b ∷ [])) m)

module _ (K : Operations) (t : Tables) (sound : Sound K.largest t) where
  unfolds : (n : ℕ) → process_at (elements t.nodes) n ≡ shape (process_at (elements t.nodes)) (node_at (elements t.nodes) n)
  unfolds = process_unfolds (elements t.nodes) (tree_of K.largest t sound)

  -- the process at a node of this form, and its amount
  formed : (n : ℕ) (x : Node) → node_at (elements t.nodes) n ≡ x → process_at (elements t.nodes) n ≡ shape (process_at (elements t.nodes)) x
  formed n x e = unfolds n ∙ ap (shape (process_at (elements t.nodes))) e

  amount_here : (n : ℕ) (x : Node) → node_at (elements t.nodes) n ≡ x → (L : Label Name) → amount K (types_of t) (shape (process_at (elements t.nodes)) x) L ≡ amount_at K t n L
  amount_here n x e L = ap (λ p. amount K (types_of t) p L) (sym (formed n x e))

  -- a node that binds a name is its binder
  binder_found : (n x : ℕ) → n < length (elements t.nodes) → member x (binds (node_at (elements t.nodes) n)) ≡ true → binder_of (elements t.nodes) x ≡ Some n
  binder_found n x l h =
      let z : 0 + n ≡ n = omega arith in
      finds binds (elements t.nodes) 0 x n l h
      (λ a k. is_false (member x (binds (node_at (elements t.nodes) a))) (λ e. names_of K.largest t sound n l (bound_already x a k e h)))
      ∙ ap (λ k. Some k) z

  once_each : (n : ℕ) → n < length (elements t.nodes) → repeats (binds (node_at (elements t.nodes) n)) ≡ false
  once_each n l = is_false (repeats (binds (node_at (elements t.nodes) n))) (λ r. names_of K.largest t sound n l (binds_twice r))

  -- the names that the type of a bound name may mention, by its place among the names bound there
  scope_turn : (n i : ℕ) → n < length (elements t.nodes) → (zs : List ℕ) → binds (node_at (elements t.nodes) n) ≡ zs → i < length zs →
      scope_for t (get_or zs i 0) ≡ lists.extend (take i zs) (scope_at t n)
  scope_turn n i l zs e j =
      let x = get_or zs i 0 in
      let m : member x (binds (node_at (elements t.nodes) n)) ≡ true = ap (member x) e ∙ get_or_member zs i j in
      ap (scope_beside t x) (binder_found n x l m)
      ∙ ap (λ ys. lists.extend ys (scope_at t n)) (ap (earlier x) e ∙ earlier_take zs i j (sym (ap repeats e) ∙ once_each n l))

  module _ (clean : Clean K t) where
    -- the types of the names that a node binds are well formed in turn
    in_turn : (n : ℕ) → n < length (elements t.nodes) → (zs : List ℕ) → binds (node_at (elements t.nodes) n) ≡ zs → below (length (elements t.names)) zs ≡ true →
        WellFormedInTurn (types_of t) (scope_at t n) zs
    in_turn n l zs e b i j =
        subst (λ Γ. WellFormed Γ (types_of t (get_or zs i 0))) (scope_turn n i l zs e j)
        (clean.well_formed (get_or zs i 0) (member_below (length (elements t.names)) zs (get_or zs i 0) b (get_or_member zs i j)))

    module _ (n : ℕ) (there : n < length (elements t.nodes)) (go : (c : ℕ) → n < c → Judged K (types_of t) (scope_at t c) (process_at (elements t.nodes) c)) where
      kid : (c : ℕ) (zs : List ℕ) → ltb c (length (elements t.nodes)) ≡ true → member c (children (node_at (elements t.nodes) n)) ≡ true → binds (node_at (elements t.nodes) n) ≡ zs →
          Judged K (types_of t) (lists.extend zs (scope_at t n)) (process_at (elements t.nodes) c)
      kid c zs l m e =
          subst (λ Γ. Judged K (types_of t) Γ (process_at (elements t.nodes) c))
          (child_scope_at t (tree_of K.largest t sound) c n (ltb-true c (length (elements t.nodes)) l) m ∙ ap (λ ys. lists.extend ys (scope_at t n)) e)
          (go c (higher (elements t.nodes) (tree_of K.largest t sound) c n m))

      by_node : (x : Node) → node_at (elements t.nodes) n ≡ x → node_fits (length (elements t.names)) (length (elements t.nodes)) x ≡ true →
          Judged K (types_of t) (scope_at t n) (shape (process_at (elements t.nodes)) x)
      by_node Stop e f = tt
      by_node (Send channel xs) e f =
          record { count = subst (CountFits (types_of t)) e (clean.counts n); arguments = subst (TypesFit K (types_of t)) e (clean.types n) }
      by_node (Receive channel zs next) e f =
          let q = and_parts (ltb channel (length (elements t.names)) && below (length (elements t.names)) (parts zs)) (ltb next (length (elements t.nodes))) f in
          let p = and_parts (ltb channel (length (elements t.names))) (below (length (elements t.names)) (parts zs)) q.0 in (
            record { count = subst (CountFits (types_of t)) e (clean.counts n); arguments = subst (TypesFit K (types_of t)) e (clean.types n) },
            in_turn n there (parts zs) (ap binds e) p.1,
            (λ L z m k. amount_here n (Receive channel zs next) e L ∙ clean.contained n z L (subst (λ y. lists.◌∈◌ z (binds y)) (sym e) m) k),
            kid next (parts zs) q.1 (ap (λ y. member next (children y)) e ∙ first next []) (ap binds e),
          )
      by_node (Both a b) e f =
          let p = and_parts (ltb a (length (elements t.nodes))) (ltb b (length (elements t.nodes))) f in (
            kid a [] p.0 (ap (λ y. member a (children y)) e ∙ first a (b ∷ [])) (ap binds e),
            kid b [] p.1 (ap (λ y. member b (children y)) e ∙ second b a []) (ap binds e),
          )
      by_node (Copy next) e f = (
        kid next [] f (ap (λ y. member next (children y)) e ∙ first next []) (ap binds e),
        λ L. subst (λ (a : ℕ). K.join a a ≡ a) (sym (amount_here n (Copy next) e L)) (clean.copyable n next L e),
      )
      by_node (New x next) e f =
          let p = and_parts (ltb x (length (elements t.names))) (ltb next (length (elements t.nodes))) f in
          let small : below (length (elements t.names)) (x ∷ []) ≡ true = and_from (ltb x (length (elements t.names))) true p.0 refl in (
            in_turn n there (x ∷ []) (ap binds e) small 0 (omega arith),
            (λ L m. amount_here n (New x next) e L ∙ clean.contained n x L (subst (λ y. lists.◌∈◌ x (binds y)) (sym e) (inl refl)) m),
            kid next (x ∷ []) p.1 (ap (λ y. member next (children y)) e ∙ first next []) (ap binds e),
          )
      by_node (Test left right same other) e f =
          let q = and_parts (ltb left (length (elements t.names)) && ltb right (length (elements t.names))) (ltb same (length (elements t.nodes)) && ltb other (length (elements t.nodes))) f in
          let r = and_parts (ltb same (length (elements t.nodes))) (ltb other (length (elements t.nodes))) q.1 in (
            kid same [] r.0 (ap (λ y. member same (children y)) e ∙ first same (other ∷ [])) (ap binds e),
            kid other [] r.1 (ap (λ y. member other (children y)) e ∙ second other same []) (ap binds e),
          )
      by_node (Begin label next) e f =
          let p = and_parts (below (length (elements t.names)) (list label.items)) (ltb next (length (elements t.nodes))) f in
          kid next [] p.1 (ap (λ y. member next (children y)) e ∙ first next []) (ap binds e)
      by_node (End label next) e f =
          let p = and_parts (below (length (elements t.names)) (list label.items)) (ltb next (length (elements t.nodes))) f in
          kid next [] p.1 (ap (λ y. member next (children y)) e ∙ first next []) (ap binds e)

    judged_at : (k n : ℕ) → length (elements t.nodes) ≤ k + n → Judged K (types_of t) (scope_at t n) (process_at (elements t.nodes) n)
    judged_at zero n l = subst (Judged K (types_of t) (scope_at t n)) (sym (formed n Stop (get_or_past (elements t.nodes) n Stop (omega arith)))) tt
    judged_at (suc k) n l =
        ⊎_elim
        (λ there. subst (Judged K (types_of t) (scope_at t n)) (sym (unfolds n)) (by_node n there (λ c m. judged_at k c (omega arith)) (node_at (elements t.nodes) n) refl (fits_of K.largest t sound n there)))
        (λ past. subst (Judged K (types_of t) (scope_at t n)) (sym (formed n Stop (get_or_past (elements t.nodes) n Stop past))) tt)
        (cases_lt n (length (elements t.nodes)))

    passes : Passes K (types_of t) (free t) (process_at (elements t.nodes) 0)
    passes = record {
      free_public = clean.free_public;
      checked = checked K (types_of t) (free t) (process_at (elements t.nodes) 0) (sheet_scoped K.largest t sound) (judged_at (length (elements t.nodes)) 0 (omega arith));
      needs_nothing = clean.nothing_owed;
    }

    -- with nothing to refuse, the rules accept
    pub clean_accepted : Laws K → Accepted K (types_of t) (free t) (process_at (elements t.nodes) 0)
    clean_accepted W = (acceptance_agrees K W (types_of t) (free t) (process_at (elements t.nodes) 0)).1 passes

  -- what a checked node says of a child: it is checked in its own scope, and the names in scope there have well-formed types
  Checked : Scope → ℕ → Type 0
  Checked Γ c = Checks K (types_of t) Γ (process_at (elements t.nodes) c) × WellFormedEnvironment (types_of t) Γ

  child_checked : (Γ : Scope) (c : ℕ) (x : Node) → member c (children x) ≡ true → Checks K (types_of t) Γ (shape (process_at (elements t.nodes)) x) →
      WellFormedEnvironment (types_of t) Γ → Checked (lists.extend (binds x) Γ) c
  unfolding Checked
  child_checked Γ c Stop m k v = absurd (false≢true m)
  child_checked Γ c (Send channel xs) m k v = absurd (false≢true m)
  child_checked Γ c (Receive channel zs next) m k v =
      (subst (λ a. Checks K (types_of t) (lists.extend (parts zs) Γ) (process_at (elements t.nodes) a)) (sym (one_of c next m)) k.5, environment_receive (types_of t) (parts zs) Γ v k.3)
  child_checked Γ c (Both a b) m k v = (
    ⊎_elim
        (λ e. subst (λ d. Checks K (types_of t) Γ (process_at (elements t.nodes) d)) (sym e) k.0)
        (λ e. subst (λ d. Checks K (types_of t) Γ (process_at (elements t.nodes) d)) (sym e) k.1)
        (two_of c a b m),
    v,
  )
  child_checked Γ c (Copy next) m k v = (subst (λ d. Checks K (types_of t) Γ (process_at (elements t.nodes) d)) (sym (one_of c next m)) k.0, v)
  child_checked Γ c (New x next) m k v =
      (subst (λ d. Checks K (types_of t) (lists.extend (x ∷ []) Γ) (process_at (elements t.nodes) d)) (sym (one_of c next m)) k.3, environment_new (types_of t) x Γ v k.1)
  child_checked Γ c (Test left right same other) m k v = (
    ⊎_elim
        (λ e. subst (λ d. Checks K (types_of t) Γ (process_at (elements t.nodes) d)) (sym e) k.2)
        (λ e. subst (λ d. Checks K (types_of t) Γ (process_at (elements t.nodes) d)) (sym e) k.3)
        (two_of c same other m),
    v,
  )
  child_checked Γ c (Begin label next) m k v = (subst (λ d. Checks K (types_of t) Γ (process_at (elements t.nodes) d)) (sym (one_of c next m)) k.1, v)
  child_checked Γ c (End label next) m k v = (subst (λ d. Checks K (types_of t) Γ (process_at (elements t.nodes) d)) (sym (one_of c next m)) k.1, v)

  module _ (whole : Passes K (types_of t) (free t) (process_at (elements t.nodes) 0)) where
    -- every node of a sheet that passes is checked in its own scope
    checked_at : (k n : ℕ) → n ≤ k → n < length (elements t.nodes) → Checked (scope_at t n) n
    unfolding Checked
    checked_at k zero l there = (whole.checked, public_environment (types_of t) (free t) whole.free_public)
    checked_at zero (suc n) l there = absurd (omega arith)
    checked_at (suc k) (suc n) l there =
        let p = has_parent t (tree_of K.largest t sound) (suc n) (omega arith) there in
        let lower = p.1 in
        let above = checked_at k p.0 (omega arith) (omega arith) in
        subst (λ Γ. Checked Γ (suc n)) (sym (child_scope_at t (tree_of K.largest t sound) (suc n) p.0 there p.2))
        (child_checked (scope_at t p.0) (suc n) (node_at (elements t.nodes) p.0) p.2
        (subst (Checks K (types_of t) (scope_at t p.0)) (unfolds p.0) above.0) above.1)

    -- the checks at a node of this form
    here : (n : ℕ) → n < length (elements t.nodes) → (x : Node) → node_at (elements t.nodes) n ≡ x → Checks K (types_of t) (scope_at t n) (shape (process_at (elements t.nodes)) x)
    unfolding Checked
    here n l x e = subst (Checks K (types_of t) (scope_at t n)) (formed n x e) (checked_at n n (omega arith) l).0

    count_here : (n : ℕ) → n < length (elements t.nodes) → (x : Node) → node_at (elements t.nodes) n ≡ x → CountFits (types_of t) x
    count_here n l Stop e = tt
    count_here n l (Send channel xs) e = (here n l (Send channel xs) e).2.count
    count_here n l (Receive channel zs next) e = (here n l (Receive channel zs next) e).2.count
    count_here n l (Both a b) e = tt
    count_here n l (Copy next) e = tt
    count_here n l (New x next) e = tt
    count_here n l (Test left right same other) e = tt
    count_here n l (Begin label next) e = tt
    count_here n l (End label next) e = tt

    types_here : (n : ℕ) → n < length (elements t.nodes) → (x : Node) → node_at (elements t.nodes) n ≡ x → TypesFit K (types_of t) x
    types_here n l Stop e = tt
    types_here n l (Send channel xs) e = (here n l (Send channel xs) e).2.arguments
    types_here n l (Receive channel zs next) e = (here n l (Receive channel zs next) e).2.arguments
    types_here n l (Both a b) e = tt
    types_here n l (Copy next) e = tt
    types_here n l (New x next) e = tt
    types_here n l (Test left right same other) e = tt
    types_here n l (Begin label next) e = tt
    types_here n l (End label next) e = tt

    contained_here : (n z : ℕ) (L : Label Name) → n < length (elements t.nodes) → (x : Node) → node_at (elements t.nodes) n ≡ x → lists.◌∈◌ z (binds x) → lists.◌∈◌ z (items L) →
        amount K (types_of t) (shape (process_at (elements t.nodes)) x) L ≡ 0
    contained_here n z L l Stop e m k = elim m [ ]
    contained_here n z L l (Send channel xs) e m k = elim m [ ]
    contained_here n z L l (Receive channel zs next) e m k = (here n l (Receive channel zs next) e).4 L z m k
    contained_here n z L l (Both a b) e m k = elim m [ ]
    contained_here n z L l (Copy next) e m k = elim m [ ]
    contained_here n z L l (New x next) e m k =
        ⊎_elim (λ s. (here n l (New x next) e).2 L (subst (λ y. lists.◌∈◌ y (items L)) s k)) (λ f. absurd f) m
    contained_here n z L l (Test left right same other) e m k = elim m [ ]
    contained_here n z L l (Begin label next) e m k = elim m [ ]
    contained_here n z L l (End label next) e m k = elim m [ ]

    -- a name that is bound at a node has a well-formed type there
    bound_here : (n x : ℕ) → n < length (elements t.nodes) → (y : Node) → node_at (elements t.nodes) n ≡ y → member x (binds y) ≡ true → WellFormed (scope_for t x) (types_of t x)
    bound_here n x l Stop e m = absurd (false≢true m)
    bound_here n x l (Send channel xs) e m = absurd (false≢true m)
    bound_here n x l (Receive channel zs next) e m =
        let p = place_of x (parts zs) m in
        subst (λ y. WellFormed (scope_for t y) (types_of t y)) p.2
        (subst (λ Γ. WellFormed Γ (types_of t (get_or (parts zs) p.0 0))) (sym (scope_turn n p.0 l (parts zs) (ap binds e) p.1))
        ((here n l (Receive channel zs next) e).3 p.0 p.1))
    bound_here n x l (Both a b) e m = absurd (false≢true m)
    bound_here n x l (Copy next) e m = absurd (false≢true m)
    bound_here n x l (New z next) e m =
        subst (λ y. WellFormed (scope_for t y) (types_of t y)) (sym (one_of x z m))
        (subst (λ Γ. WellFormed Γ (types_of t z)) (sym (scope_turn n 0 l (z ∷ []) (ap binds e) (omega arith))) (here n l (New z next) e).1)
    bound_here n x l (Test left right same other) e m = absurd (false≢true m)
    bound_here n x l (Begin label next) e m = absurd (false≢true m)
    bound_here n x l (End label next) e m = absurd (false≢true m)

    -- a name without a binder is free, so its type is public
    free_here : (x : ℕ) → x < length (elements t.names) → bound (elements t.nodes) x ≡ false → WellFormed (free t) (types_of t x)
    free_here x l f =
        let few = sound.limited.names in
        let scope : in_scope (free t) x ≡ true = and_from (ltb x 64) (free t x) (lt-ltb x 64 (omega arith)) (and_from (ltb x (length (elements t.names))) (not (bound (elements t.nodes) x)) (lt-ltb x (length (elements t.names)) l) (not_from_false (bound (elements t.nodes) x) f)) in
        subst (WellFormed (free t)) (sym (whole.free_public x scope)) tt

    name_here : (x : ℕ) → x < length (elements t.names) → WellFormed (scope_for t x) (types_of t x)
    name_here x l =
        ⊎_elim
        (λ b.
        let f = find_binder (elements t.nodes) x b in
        let m = f.1.here in
        bound_here f.0 x (placed binds refl (elements t.nodes) x f.0 m) (node_at (elements t.nodes) f.0) refl m)
        (λ f.
        let none = finds_none binds (elements t.nodes) 0 x (λ a. is_false (member x (binds (node_at (elements t.nodes) a))) (λ m. both_ways (bound (elements t.nodes) x) f (is_bound (elements t.nodes) x a m))) in
        subst (λ Γ. WellFormed Γ (types_of t x)) (sym (ap (scope_beside t x) none)) (free_here x l f))
        (cases_Bool (bound (elements t.nodes) x))

    -- a fact of a node's form holds at every node, if it holds at each that there is and past the last one
    everywhere : (P : Node → Type 0) → P Stop → ((n : ℕ) → n < length (elements t.nodes) → P (node_at (elements t.nodes) n)) → (n : ℕ) → P (node_at (elements t.nodes) n)
    everywhere P s h n = ⊎_elim (λ l. h n l) (λ p. subst P (sym (get_or_past (elements t.nodes) n Stop p)) s) (cases_lt n (length (elements t.nodes)))

    passes_clean : Clean K t
    passes_clean = record {
      free_public = whole.free_public;
      well_formed = name_here;
      counts = everywhere (CountFits (types_of t)) tt (λ n l. count_here n l (node_at (elements t.nodes) n) refl);
      types = everywhere (TypesFit K (types_of t)) tt (λ n l. types_here n l (node_at (elements t.nodes) n) refl);
      contained = λ n z L m k.
          let l = placed binds refl (elements t.nodes) z n (member_of z (binds (node_at (elements t.nodes) n)) m) in
          sym (amount_here n (node_at (elements t.nodes) n) refl L) ∙ contained_here n z L l (node_at (elements t.nodes) n) refl m k;
      copyable = λ n next L e.
          let l = placed children refl (elements t.nodes) next n (ap (λ y. member next (children y)) e ∙ first next []) in
          subst (λ (a : ℕ). K.join a a ≡ a) (amount_here n (Copy next) e L) ((here n l (Copy next) e).1 L);
      nothing_owed = whole.needs_nothing;
    }

  -- where the rules accept, there is nothing to refuse
  pub accepted_clean : Laws K → Accepted K (types_of t) (free t) (process_at (elements t.nodes) 0) → Clean K t
  accepted_clean W a = passes_clean ((acceptance_agrees K W (types_of t) (free t) (process_at (elements t.nodes) 0)).0 a)

  -- at each node of an accepted sheet, the amount is the least that the rules give
  pub least_at : Laws K → Accepted K (types_of t) (free t) (process_at (elements t.nodes) 0) → (n : ℕ) → n < length (elements t.nodes) → (L : Label Name) →
      Least K (types_of t) (scope_at t n) (process_at (elements t.nodes) n) L (amount_at K t n L)
  unfolding Checked
  least_at W a n l L =
      let c = checked_at ((acceptance_agrees K W (types_of t) (free t) (process_at (elements t.nodes) 0)).0 a) n n (omega arith) l in
      let g = typing_agrees K W (types_of t) (scope_at t n) (process_at (elements t.nodes) n) c.1 in
      record { effect = amount_at K t n; derived = g.accepted_derivable c.0; given = refl; least = λ e d. g.least e d L }
