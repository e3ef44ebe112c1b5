-- Which nodes are at fault at one label, where no other label can be: the verdict by looking at each node.
use Rattle.std.proofs.Common.{◌≡◌, ℕ, ◌<◌, ◌≤◌, Bool, true, false, not, ◌&&◌, ◌||◌, eqb, ◌⊎◌, List, [], ◌∷◌, Some, None, sym, refl, ap, ◌∙◌, subst, inl, inr, ⊎_elim, arith}
use Rattle.std.proofs.lemmas.Bool.{both_ways, cases_order, and_from, or_left, or_right, ne_eqb, not_from_false}
use Rattle.calculus.specs.Countings.{Operations}
use Rattle.calculus.specs.Effects.{◌≟◌}
use Rattle.calculus.specs.Labels.{one, two, three, four}
use Rattle.calculus.specs.Labels as calculus
use Rattle.calculus.specs.Lists.{◌∈◌}
use Rattle.calculus.specs.Types.{Name}
use Rattle.fault.specs.Faults.{place_of}
use Rattle.fault.specs.declared.items.Items.{Items}
use Rattle.fault.specs.declared.items.Items.TheVariants.{One, Two, Three, Four}
use Rattle.fault.specs.declared.label.Label.{Label}
use Rattle.fault.specs.declared.fault.Fault.{Fault}
use Rattle.fault.specs.declared.fault.Fault.TheVariants.{Escapes, NotCopyable, RootOwes}
use Rattle.tables.specs.Elements.{elements}
use Rattle.tables.specs.Encoding.{parts}
use Rattle.tables.specs.declared.tables.Node.{Node}
use Rattle.tables.specs.declared.tables.Node.TheVariants.{Stop, Send, Receive, Both, Copy, New, Test, Begin, End}
use Rattle.tables.specs.declared.tables.Tables.{Tables}
use Rattle.sheet.specs.Scope.{member, binds}
use Rattle.sheet.specs.Tree.{node_at}
use Rattle.meaning.specs.Amounts.{amount_at}
use Rattle.meaning.specs.Faults.{names_label, Faulty, few_rows, free_not_public, ill_formed, bad_channel, wrong_type, escapes, not_copyable, root_owes, stage, Before, earlier_stage, higher_node, FirstTold}
use Rattle.meaning.proofs.Scopes.{member_of}
use Rattle.effects.specs.Faults.{OfEffects}
use Rattle.judge.specs.Typed.{OfTypes, Typed}
use Rattle.judge.proofs.Stages.{Rule, free_names, formed_types, channel_counts, argument_types, Good, none_of_types}
use Rattle.judge.proofs.Verdicts.{effects_first}

-- some number stands in both lists
abbrev pub shared : List ℕ → List ℕ → Bool
shared [] ys = false
shared (x ∷ xs) ys = member x ys || shared xs ys

-- the node is at fault at a label of these names, of which it has this amount
abbrev pub loud : Operations → Node → List ℕ → ℕ → Bool
loud K Stop names a = false
loud K (Send channel xs) names a = false
loud K (Receive channel xs next) names a = shared (parts xs) names && not (eqb a 0)
loud K (Both first second) names a = false
loud K (Copy next) names a = not (eqb (K.join a a) a)
loud K (New x next) names a = shared (x ∷ []) names && not (eqb a 0)
loud K (Test left right same other) names a = false
loud K (Begin label next) names a = false
loud K (End label next) names a = false

-- the fault of a node
abbrev pub fault_of_node : Node → ℕ → Label ℕ → ℕ → Fault
fault_of_node Stop n l a = Escapes n l a
fault_of_node (Send channel xs) n l a = Escapes n l a
fault_of_node (Receive channel xs next) n l a = Escapes n l a
fault_of_node (Both first second) n l a = Escapes n l a
fault_of_node (Copy next) n l a = NotCopyable n l a
fault_of_node (New x next) n l a = Escapes n l a
fault_of_node (Test left right same other) n l a = Escapes n l a
fault_of_node (Begin label next) n l a = Escapes n l a
fault_of_node (End label next) n l a = Escapes n l a

-- a number of both lists is shared
is_shared : (xs ys : List ℕ) (z : ℕ) → z ∈ xs → z ∈ ys → shared xs ys ≡ true
is_shared [] ys z m k = elim m [ ]
is_shared (x ∷ xs) ys z m k =
    ⊎_elim
    (λ e. or_left (member x ys) (shared xs ys) (subst (λ y. member y ys ≡ true) e (member_of z ys k)))
    (λ r. or_right (member x ys) (shared xs ys) (is_shared xs ys z r k))
    m

-- a node that binds a name of the label, and has something there, is at fault
loud_bound : (K : Operations) (x : Node) (n z : ℕ) (l : Label ℕ) (names : List ℕ) (a : ℕ) → z ∈ binds x → z ∈ names → (a ≡ 0 → ⊥) → (loud K x names a ≡ true) × (fault_of_node x n l a ≡ Escapes n l a)
loud_bound K Stop n z l names a m k b = elim m [ ]
loud_bound K (Send channel xs) n z l names a m k b = elim m [ ]
loud_bound K (Receive channel xs next) n z l names a m k b = (and_from (shared (parts xs) names) (not (eqb a 0)) (is_shared (parts xs) names z m k) (not_from_false (eqb a 0) (ne_eqb a 0 b)), refl)
loud_bound K (Both first second) n z l names a m k b = elim m [ ]
loud_bound K (Copy next) n z l names a m k b = elim m [ ]
loud_bound K (New x next) n z l names a m k b = (and_from (shared (x ∷ []) names) (not (eqb a 0)) (is_shared (x ∷ []) names z m k) (not_from_false (eqb a 0) (ne_eqb a 0 b)), refl)
loud_bound K (Test left right same other) n z l names a m k b = elim m [ ]
loud_bound K (Begin label next) n z l names a m k b = elim m [ ]
loud_bound K (End label next) n z l names a m k b = elim m [ ]

loud_copy : (K : Operations) (x : Node) (n next : ℕ) (l : Label ℕ) (names : List ℕ) (a : ℕ) → x ≡ Copy next → (K.join a a ≡ a → ⊥) → (loud K x names a ≡ true) × (fault_of_node x n l a ≡ NotCopyable n l a)
loud_copy K x n next l names a e b =
    subst (λ y. (loud K y names a ≡ true) × (fault_of_node y n l a ≡ NotCopyable n l a)) (sym e) (not_from_false (eqb (K.join a a) a) (ne_eqb (K.join a a) a b), refl)

-- the faults of nodes are of stage 12, at the node
node_stage : (x : Node) (n : ℕ) (l : Label ℕ) (a : ℕ) → (stage (fault_of_node x n l a) ≡ 12) × (place_of (fault_of_node x n l a) ≡ n)
node_stage Stop n l a = (refl, refl)
node_stage (Send channel xs) n l a = (refl, refl)
node_stage (Receive channel xs next) n l a = (refl, refl)
node_stage (Both first second) n l a = (refl, refl)
node_stage (Copy next) n l a = (refl, refl)
node_stage (New x next) n l a = (refl, refl)
node_stage (Test left right same other) n l a = (refl, refl)
node_stage (Begin label next) n l a = (refl, refl)
node_stage (End label next) n l a = (refl, refl)

-- a label of the tables, back from its label of the calculus
abbrev back : calculus.Label Name → Label ℕ
back (one a) = record { items = One a }
back (two a b) = record { items = Two a b }
back (three a b c) = record { items = Three a b c }
back (four a b c d) = record { items = Four a b c d }

back_label : (xs : Items ℕ) → back (names_label (record { items = xs })) ≡ record { items = xs }
back_label (One a) = refl
back_label (Two a b) = refl
back_label (Three a b c) = refl
back_label (Four a b c d) = refl

label_same : (l m : Label ℕ) → names_label l ≡ names_label m → l ≡ m
label_same l m e = sym (back_label l.items) ∙ ap back e ∙ back_label m.items

module _ (K : Operations) (t : Tables) (l : Label ℕ) (elsewhere : (n : ℕ) (L : calculus.Label Name) → (names_label l ≡ L → ⊥) → amount_at K t n L ≡ 0) (nothing : K.join 0 0 ≡ 0) where
  -- a node is at fault at the label
  abbrev pub loud_at : ℕ → Bool
  loud_at n = loud K (node_at (elements t.nodes) n) (calculus.items (names_label l)) (amount_at K t n (names_label l))

  abbrev pub fault_at_node : ℕ → Fault
  fault_at_node n = fault_of_node (node_at (elements t.nodes) n) n l (amount_at K t n (names_label l))

  abbrev Found : Fault → Type 0
  Found g = ((n : ℕ) × (loud_at n ≡ true) × (g ≡ fault_at_node n)) ⊎ ((amount_at K t 0 (names_label l) ≡ 0 → ⊥) × (g ≡ RootOwes l (amount_at K t 0 (names_label l))))

  -- a fault at some label is one at this label, since at any other there is nothing
  at_label : (m : Label ℕ) → ((names_label l ≡ names_label m → ⊥) → ⊥) → (F : Label ℕ → Fault) → (l ≡ m → Found (F l)) → Found (F m)
  at_label m there F h = by (names_label l ≟ names_label m)
    where
      by : Dec (names_label l ≡ names_label m) → Found (F m)
      by (yes e) = subst (λ (x : Label ℕ). Found (F x)) (label_same l m e) (h (label_same l m e))
      by (no n) = absurd (there n)

  -- a fault of effects is that of a node that is at fault, or the root's, at this label
  found : (rows : ℕ) (g : Fault) → 8192 ≤ rows → Faulty K t rows g → OfEffects g → Found g
  found rows g enough (few_rows h) o = absurd (omega arith)
  found rows g enough (free_not_public x i b) o = absurd (⊎_elim (λ e. omega arith) (λ e. omega arith) o)
  found rows g enough (ill_formed x i b) o = absurd (⊎_elim (λ e. omega arith) (λ e. omega arith) o)
  found rows g enough (bad_channel n b) o = absurd (⊎_elim (λ e. omega arith) (λ e. omega arith) o)
  found rows g enough (wrong_type n b) o = absurd (⊎_elim (λ e. omega arith) (λ e. omega arith) o)
  found rows g enough (escapes n z m i k b) o =
      at_label m (λ e. b (elsewhere n (names_label m) e)) (λ h. Escapes n h (amount_at K t n (names_label h)))
      (λ e. let h = loud_bound K (node_at (elements t.nodes) n) n z l (calculus.items (names_label l)) (amount_at K t n (names_label l)) i (subst (λ (h : Label ℕ). z ∈ calculus.items (names_label h)) (sym e) k) (subst (λ (h : Label ℕ). amount_at K t n (names_label h) ≡ 0 → ⊥) (sym e) b) in
      inl (n, h.0, sym h.1))
  found rows g enough (not_copyable n next m e b) o =
      at_label m (λ d. b (let z = elsewhere n (names_label m) d in subst (λ (a : ℕ). K.join a a ≡ a) (sym z) nothing)) (λ h. NotCopyable n h (amount_at K t n (names_label h)))
      (λ d. let h = loud_copy K (node_at (elements t.nodes) n) n next l (calculus.items (names_label l)) (amount_at K t n (names_label l)) e (subst (λ (h : Label ℕ). K.join (amount_at K t n (names_label h)) (amount_at K t n (names_label h)) ≡ amount_at K t n (names_label h) → ⊥) (sym d) b) in
      inl (n, h.0, sym h.1))
  found rows g enough (root_owes m b) o =
      at_label m (λ e. b (elsewhere 0 (names_label m) e)) (λ h. RootOwes h (amount_at K t 0 (names_label h)))
      (λ e. inr (subst (λ (h : Label ℕ). amount_at K t 0 (names_label h) ≡ 0 → ⊥) (sym e) b, refl))

  module _ (rows : ℕ) (enough : 8192 ≤ rows) (typed : Typed K t) where
    -- names and uses have no fault
    no_types : FirstTold (λ g. Faulty K t rows g × OfTypes g) None
    no_types = none_of_types K t rows good
      where
        good : (s : Rule) (p : ℕ) → Good K t s p
        good free_names p = typed.free_public p
        good formed_types p = typed.well_formed p
        good channel_counts p = typed.counts p
        good argument_types p = typed.types p

    -- no node is at fault, and the root owes nothing: no fault at all
    pub quiet : ((n : ℕ) → loud_at n ≡ false) → amount_at K t 0 (names_label l) ≡ 0 → FirstTold (Faulty K t rows) None
    quiet still zero-root = effects_first K t rows None no_types (λ g h.
        ⊎_elim (λ f. both_ways (loud_at f.0) (still f.0) f.1) (λ r. r.0 zero-root) (found rows g enough h.0 h.1))

    -- no node is at fault, and the root owes something
    pub owing : (a : ℕ) → ((n : ℕ) → loud_at n ≡ false) → amount_at K t 0 (names_label l) ≡ a → (a ≡ 0 → ⊥) → FirstTold (Faulty K t rows) (Some (RootOwes l a))
    owing a still e some = effects_first K t rows (Some (RootOwes l a)) no_types (
      (subst (λ (b : ℕ). Faulty K t rows (RootOwes l b)) e (root_owes l (λ z. some (sym e ∙ z))), inr (omega arith)),
      λ g h. ⊎_elim (λ f. absurd (both_ways (loud_at f.0) (still f.0) f.1)) (λ r. inl (r.1 ∙ ap (λ (b : ℕ). RootOwes l b) e)) (found rows g enough h.0 h.1),
    )

    -- a node is at fault, and none above it
    pub loudest : (n : ℕ) → ((m : ℕ) → n < m → loud_at m ≡ false) → Faulty K t rows (fault_at_node n) → FirstTold (Faulty K t rows) (Some (fault_at_node n))
    loudest n still f =
        let here = node_stage (node_at (elements t.nodes) n) n l (amount_at K t n (names_label l)) in
        let s = here.0 in let p = here.1 in
        effects_first K t rows (Some (fault_at_node n)) no_types (
          (f, inr (omega arith)),
          λ g h. ⊎_elim
              (λ w.
              let m = w.0 in
              let there = node_stage (node_at (elements t.nodes) m) m l (amount_at K t m (names_label l)) in
              let s' = there.0 in let p' = there.1 in
              ⊎_elim
              (λ e. inl (w.2 ∙ ap fault_at_node (sym e)))
              (⊎_elim
              (λ higher. absurd (both_ways (loud_at m) (still m higher) w.1))
              (λ lower. inr (subst (λ y. Before (fault_at_node n) y) (sym w.2) (higher_node s s' (omega arith)))))
              (cases_order n m))
              (λ r. inr (subst (λ y. Before (fault_at_node n) y) (sym r.1) (earlier_stage (omega arith))))
              (found rows g enough h.0 h.1),
        )
