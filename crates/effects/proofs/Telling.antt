-- From what was found among the amounts to the fault that is told.
use Rattle.std.proofs.Common.{◌≡◌, ℕ, ◌<◌, ◌≤◌, true, false, not, ◌||◌, eqb, ◌⊎◌, List, [], ◌∷◌, Some, None, Option, sym, refl, ap, ◌∙◌, subst, ap₂, inl, inr, ⊎_elim, arith}
use mathlib.Core.Bool.{false≢true}
use Rattle.std.proofs.lemmas.Bool.{and_parts, and_from, or_cases, or_left, or_right, eq-eqb, ne_eqb, eqb-true, not-true, not_from_false, both_ways}
use Rattle.calculus.specs.Countings.{Operations, Laws}
use Rattle.calculus.specs.Labels as calculus
use Rattle.calculus.specs.Lists.{◌∈◌}
use Rattle.fault.specs.Faults.{place_of, amiss_of}
use Rattle.fault.specs.Items.{list}
use Rattle.fault.specs.declared.fault.Fault.{Fault}
use Rattle.fault.specs.declared.fault.Fault.TheVariants.{FewRows, Escapes, NotCopyable, RootOwes}
use Rattle.fault.specs.declared.label.Label.{Label}
use Rattle.tables.specs.Elements.{elements}
use Rattle.tables.specs.declared.tables.Node.{Node}
use Rattle.tables.specs.declared.tables.Node.TheVariants.{Stop, Send, Receive, Both, Copy, New, Test, Begin, End}
use Rattle.tables.specs.declared.tables.Tables.{Tables}
use Rattle.sheet.specs.Scope.{member, binds}
use Rattle.sheet.specs.Tree.{node_at}
use Rattle.meaning.specs.Amounts.{amount_at}
use Rattle.meaning.specs.Faults.{names_label, Faulty, few_rows, free_not_public, ill_formed, bad_channel, wrong_type, escapes, not_copyable, root_owes, stage, Before, earlier_stage, higher_node, lower_label, FirstTold}
use Rattle.meaning.proofs.Scopes.{items_of, member_of}
use Rattle.effects.specs.Faults.{OfEffects, node_fault, fault_at}
use Rattle.effects.specs.Found.{meets, label_before, uncopyable, bad, fails, node_of, rank, FirstOf}
use Rattle.effects.specs.declared.found.Found.{Found}
use Rattle.effects.proofs.Orders.{label_after}

-- members by the test
of_member : (x : ℕ) (xs : List ℕ) → member x xs ≡ true → x ∈ xs
of_member x [] h = false≢true h
of_member x (y ∷ xs) h = ⊎_elim (λ e. inl (eqb-true x y e)) (λ m. inr (of_member x xs m)) (or_cases (eqb x y) (member x xs) h)

meets_from : (z : ℕ) (zs xs : List ℕ) → z ∈ zs → z ∈ xs → meets zs xs ≡ true
meets_from z [] xs h m = elim h [ ]
meets_from z (y ∷ zs) xs (inl e) m = or_left (member y xs) (meets zs xs) (member_of y xs (subst (λ (v : ℕ). v ∈ xs) e m))
meets_from z (y ∷ zs) xs (inr h) m = or_right (member y xs) (meets zs xs) (meets_from z zs xs h m)

meets_some : (zs xs : List ℕ) → meets zs xs ≡ true → (z : ℕ) × (z ∈ zs) × (z ∈ xs)
meets_some [] xs h = absurd (false≢true h)
meets_some (y ∷ zs) xs h =
    ⊎_elim
    (λ m. (y, inl refl, of_member y xs m))
    (λ r. let s = meets_some zs xs r in (s.0, inr s.1, s.2))
    (or_cases (member y xs) (meets zs xs) h)

-- something that is not 0
not_none : (a : ℕ) → (a ≡ 0 → ⊥) → not (eqb a 0) ≡ true
not_none a n = not_from_false (eqb a 0) (ne_eqb a 0 n)

some_left : (a : ℕ) → not (eqb a 0) ≡ true → a ≡ 0 → ⊥
some_left a h e = both_ways (eqb a 0) (not-true (eqb a 0) h) (eq-eqb a 0 e)

-- a node that binds a name is no copy
binder_fault : (z n : ℕ) (L : Label ℕ) (a : ℕ) (x : Node) → z ∈ binds x → Escapes n L a ≡ node_fault x n L a
binder_fault z n L a Stop m = refl
binder_fault z n L a (Send channel xs) m = refl
binder_fault z n L a (Receive channel xs next) m = refl
binder_fault z n L a (Both b c) m = refl
binder_fault z n L a (Copy next) m = elim m [ ]
binder_fault z n L a (New x next) m = refl
binder_fault z n L a (Test x y b c) m = refl
binder_fault z n L a (Begin l next) m = refl
binder_fault z n L a (End l next) m = refl

-- the stage, the place and the label of what is told
stage_at : (n : ℕ) (L : Label ℕ) (a : ℕ) (x : Node) → (stage (node_fault x n L a) ≡ 12) × (place_of (node_fault x n L a) ≡ n) × (amiss_of (node_fault x n L a) ≡ Some (L, a))
stage_at n L a Stop = (refl, refl, refl)
stage_at n L a (Send channel xs) = (refl, refl, refl)
stage_at n L a (Receive channel xs next) = (refl, refl, refl)
stage_at n L a (Both b c) = (refl, refl, refl)
stage_at n L a (Copy next) = (refl, refl, refl)
stage_at n L a (New x next) = (refl, refl, refl)
stage_at n L a (Test x y b c) = (refl, refl, refl)
stage_at n L a (Begin l next) = (refl, refl, refl)
stage_at n L a (End l next) = (refl, refl, refl)

amiss_at : (all : List Node) (p : Option ℕ) (L : Label ℕ) (a : ℕ) → amiss_of (fault_at all p L a) ≡ Some (L, a)
amiss_at all None L a = refl
amiss_at all (Some n) L a = (stage_at n L a (node_at all n)).2

from_twelve : (all : List Node) (p : Option ℕ) (L : Label ℕ) (a : ℕ) → 12 ≤ stage (fault_at all p L a)
from_twelve all None L a = omega arith
from_twelve all (Some n) L a = let h = (stage_at n L a (node_at all n)).0 in omega arith

-- places of one rank are one
rank_same : (p q : Option ℕ) → rank p ≡ rank q → p ≡ q
rank_same None None e = refl
rank_same None (Some n) e = absurd (omega arith)
rank_same (Some n) None e = absurd (omega arith)
rank_same (Some n) (Some m) e = let h : n ≡ m = omega arith in ap Some h

module _ (all : List Node) where
  -- a place of higher rank is told first
  higher_first : (p q : Option ℕ) (L M : Label ℕ) (a b : ℕ) → rank q < rank p → Before (fault_at all p L a) (fault_at all q M b)
  higher_first None None L M a b l = absurd (omega arith)
  higher_first None (Some m) L M a b l = absurd (omega arith)
  higher_first (Some n) None L M a b l = let h = (stage_at n L a (node_at all n)).0 in earlier_stage (omega arith)
  higher_first (Some n) (Some m) L M a b l =
      let h = stage_at n L a (node_at all n) in
      let k = stage_at m M b (node_at all m) in
      let i = h.1 in
      let j = k.1 in
      higher_node h.0 k.0 (omega arith)

  -- at one place the lower label is
  label_first : (p : Option ℕ) (L M : Label ℕ) (a b : ℕ) → label_before M L ≡ false → (M ≡ L) ⊎ Before (fault_at all p L a) (fault_at all p M b)
  label_first p L M a b h =
      ⊎_elim (λ e. inl e) (λ l. inr (lower_label (same_stage p) (same_place p) L M a b (amiss_at all p L a) (amiss_at all p M b) l)) (label_after M L h)
    where
      same_stage : (q : Option ℕ) → stage (fault_at all q L a) ≡ stage (fault_at all q M b)
      same_stage None = refl
      same_stage (Some n) = (stage_at n L a (node_at all n)).0 ∙ sym (stage_at n M b (node_at all n)).0

      same_place : (q : Option ℕ) → place_of (fault_at all q L a) ≡ place_of (fault_at all q M b)
      same_place None = refl
      same_place (Some n) = (stage_at n L a (node_at all n)).1 ∙ sym (stage_at n M b (node_at all n)).1

module _ (K : Operations) (W : Laws K) (t : Tables) (rows : ℕ) where
  abbrev nodes : List Node
  nodes = elements t.nodes

  abbrev A : Label ℕ → ℕ → ℕ
  A L n = amount_at K t n (names_label L)

  -- a fault that the effects can have, by place and label
  pub record Placed (f : Fault) : Type 0 where
    pub place : Option ℕ
    pub label : Label ℕ
    pub at_fault : fails K nodes label (A label) place ≡ true
    pub same : f ≡ fault_at nodes place label (A label (node_of place))

  escaped : (n z : ℕ) (L : Label ℕ) → z ∈ binds (node_at nodes n) → z ∈ calculus.items (names_label L) → (A L n ≡ 0 → ⊥) → Placed (Escapes n L (A L n))
  escaped n z L b m h = record {
    place = Some n;
    label = L;
    at_fault = and_from (not (eqb (A L n) 0)) _ (not_none (A L n) h)
        (or_left (meets (binds (node_at nodes n)) (list L.items)) (uncopyable K (A L n) (node_at nodes n))
        (meets_from z (binds (node_at nodes n)) (list L.items) b (subst (λ (xs : List ℕ). z ∈ xs) (items_of L.items) m)));
    same = binder_fault z n L (A L n) (node_at nodes n) b;
  }

  copied : (n next : ℕ) (L : Label ℕ) → node_at nodes n ≡ Copy next → (K.join (A L n) (A L n) ≡ A L n → ⊥) → Placed (NotCopyable n L (A L n))
  copied n next L e h = record {
    place = Some n;
    label = L;
    at_fault = and_from (not (eqb (A L n) 0)) _ (not_none (A L n) (λ z. h (ap₂ K.join z z ∙ W.neutral 0 ∙ sym z)))
        (or_right (meets (binds (node_at nodes n)) (list L.items)) (uncopyable K (A L n) (node_at nodes n))
        (ap (uncopyable K (A L n)) e ∙ not_from_false (eqb (K.join (A L n) (A L n)) (A L n)) (ne_eqb (K.join (A L n) (A L n)) (A L n) h)));
    same = sym (ap (λ (x : Node). node_fault x n L (A L n)) e);
  }

  owed : (L : Label ℕ) → (A L 0 ≡ 0 → ⊥) → Placed (RootOwes L (A L 0))
  owed L h = record { place = None; label = L; at_fault = not_none (A L 0) h; same = refl }

  -- every fault that the effects can have is one of the rows, or has a place and a label
  placed : {f : Fault} → Faulty K t rows f → OfEffects f → ((f ≡ FewRows) × (rows < 8192)) ⊎ Placed f
  placed (few_rows h) o = inl (refl, h)
  placed (free_not_public x a b) o = absurd (⊎_elim (λ e. omega arith) (λ l. omega arith) o)
  placed (ill_formed x a b) o = absurd (⊎_elim (λ e. omega arith) (λ l. omega arith) o)
  placed (bad_channel n a) o = absurd (⊎_elim (λ e. omega arith) (λ l. omega arith) o)
  placed (wrong_type n a) o = absurd (⊎_elim (λ e. omega arith) (λ l. omega arith) o)
  placed (escapes n z L b m h) o = inr (escaped n z L b m h)
  placed (not_copyable n next L e h) o = inr (copied n next L e h)
  placed (root_owes L h) o = inr (owed L h)

  -- what is at fault at a place is a fault
  escape : (n : ℕ) (L : Label ℕ) (x : Node) → node_at nodes n ≡ x → bad K x L (A L n) ≡ true → uncopyable K (A L n) x ≡ false → Faulty K t rows (Escapes n L (A L n))
  escape n L x e h u =
      let p = and_parts (not (eqb (A L n) 0)) (meets (binds x) (list L.items) || uncopyable K (A L n) x) h in
      ⊎_elim
      (λ m. let s = meets_some (binds x) (list L.items) m in
      escapes n s.0 L (subst (λ (y : Node). s.0 ∈ binds y) (sym e) s.1) (subst (λ (xs : List ℕ). s.0 ∈ xs) (sym (items_of L.items)) s.2) (some_left (A L n) p.0))
      (λ c. absurd (both_ways (uncopyable K (A L n) x) u c))
      (or_cases (meets (binds x) (list L.items)) (uncopyable K (A L n) x) p.1)

  node_faulty : (n : ℕ) (L : Label ℕ) (x : Node) → node_at nodes n ≡ x → bad K x L (A L n) ≡ true → Faulty K t rows (node_fault x n L (A L n))
  node_faulty n L Stop e h = escape n L Stop e h refl
  node_faulty n L (Send channel xs) e h = escape n L (Send channel xs) e h refl
  node_faulty n L (Receive channel xs next) e h = escape n L (Receive channel xs next) e h refl
  node_faulty n L (Both b c) e h = escape n L (Both b c) e h refl
  node_faulty n L (Copy next) e h =
      let p = and_parts (not (eqb (A L n) 0)) (uncopyable K (A L n) (Copy next)) h in
      not_copyable n next L e (λ s. both_ways (eqb (K.join (A L n) (A L n)) (A L n)) (not-true (eqb (K.join (A L n) (A L n)) (A L n)) p.1) (eq-eqb (K.join (A L n) (A L n)) (A L n) s))
  node_faulty n L (New x next) e h = escape n L (New x next) e h refl
  node_faulty n L (Test x y b c) e h = escape n L (Test x y b c) e h refl
  node_faulty n L (Begin l next) e h = escape n L (Begin l next) e h refl
  node_faulty n L (End l next) e h = escape n L (End l next) e h refl

  faulty_at : (p : Option ℕ) (L : Label ℕ) → fails K nodes L (A L) p ≡ true → Faulty K t rows (fault_at nodes p L (A L (node_of p)))
  faulty_at None L h = root_owes L (some_left (A L 0) h)
  faulty_at (Some n) L h = node_faulty n L (node_at nodes n) refl h

  -- too few rows are told first
  pub few_told : rows < 8192 → FirstTold (λ f. Faulty K t rows f × OfEffects f) (Some FewRows)
  few_told h = (
    (few_rows h, inl refl),
    λ g o. ⊎_elim (λ r. inl r.0)
        (λ r. inr (earlier_stage (subst (λ (f : Fault). 7 < stage f) (sym r.same) (let l = from_twelve nodes r.place r.label (A r.label (node_of r.place)) in omega arith))))
        (placed o.0 o.1),
  )

  -- where nothing was found, there is no fault
  pub none_told : 8192 ≤ rows → FirstOf K nodes A None → FirstTold (λ f. Faulty K t rows f × OfEffects f) None
  none_told l h = λ g o. ⊎_elim (λ r. let k = r.1 in omega arith) (λ r. both_ways _ (h r.label r.place) r.at_fault) (placed o.0 o.1)

  -- what was found first is told first
  pub found_told : 8192 ≤ rows → (f : Found) → FirstOf K nodes A (Some f) → FirstTold (λ f. Faulty K t rows f × OfEffects f) (Some (fault_at nodes f.place f.label f.amount))
  found_told l f h =
      let told = fault_at nodes f.place f.label f.amount in
      let exact = ap (fault_at nodes f.place f.label) (sym h.1) in (
        (subst (Faulty K t rows) exact (faulty_at f.place f.label h.0), inr (from_twelve nodes f.place f.label f.amount)),
        λ g o. ⊎_elim (λ r. let k = r.1 in absurd (omega arith))
            (λ r.
            let other = fault_at nodes r.place r.label (A r.label (node_of r.place)) in
            ⊎_elim
            (λ q. inr (subst (Before told) (sym r.same) (higher_first nodes f.place r.place f.label r.label f.amount _ q)))
            (λ q.
            let p = rank_same r.place f.place q.0 in
            ⊎_elim
            (λ e. inl (r.same ∙ ap₂ (λ (x : Option ℕ) (M : Label ℕ). fault_at nodes x M (A M (node_of x))) p e ∙ exact))
            (λ b. inr (subst (Before told) (sym (r.same ∙ ap (λ (x : Option ℕ). fault_at nodes x r.label (A r.label (node_of x))) p)) b))
            (label_first nodes f.place f.label r.label f.amount (A r.label (node_of f.place)) q.1))
            (h.2 r.label r.place r.at_fault))
            (placed o.0 o.1),
      )

-- the first of equal amounts
pub first_same : (K J : Operations) (all more : List Node) (A : Label ℕ → ℕ → ℕ) (r : Option Found) → J ≡ K → more ≡ all → FirstOf J more A r → FirstOf K all A r
first_same K J all more A r k e h = subst (λ (X : Operations). FirstOf X all A r) k (subst (λ (x : List Node). FirstOf J x A r) e h)
