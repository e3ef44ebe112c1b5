-- Orders: labels are strictly ordered where their items are.
use Rattle.std.proofs.Common.{◌≡◌, ℕ, ◌<◌, ◌⊎◌, List, [], ◌∷◌, sym, refl, ◌∙◌, subst, ap₂, inl, inr, arith}
use native.Mathlib.Decide.{dec_lt}
use Rattle.calculus.specs.Labels.{items, items_determine}
use Rattle.calculus.specs.Orders.{StrictOrder, ItemsBefore, LabelBefore}
use Rattle.calculus.specs.Theorems.{LabelsOrdered}

module _ {A : Type 0} (less : A → A → Type 0) (o : StrictOrder less) where
  items_irreflexive : (l : List A) → ItemsBefore less l l → ⊥
  items_irreflexive [] h = h
  items_irreflexive (x ∷ l) (inl h) = o.irreflexive x h
  items_irreflexive (x ∷ l) (inr h) = items_irreflexive l h.1

  items_transitive : (l m n : List A) → ItemsBefore less l m → ItemsBefore less m n → ItemsBefore less l n
  items_transitive [] m n h k = elim h [ ]
  items_transitive (x ∷ l) [] n h k = elim k [ ]
  items_transitive (x ∷ l) (y ∷ m) [] h k = tt
  items_transitive (x ∷ l) (y ∷ m) (z ∷ n) (inl h) (inl k) = inl (o.transitive x y z h k)
  items_transitive (x ∷ l) (y ∷ m) (z ∷ n) (inl h) (inr k) = inl (subst (less x) k.0 h)
  items_transitive (x ∷ l) (y ∷ m) (z ∷ n) (inr h) (inl k) = inl (subst (λ w. less w z) (sym h.0) k)
  items_transitive (x ∷ l) (y ∷ m) (z ∷ n) (inr h) (inr k) = inr (h.0 ∙ k.0, items_transitive l m n h.1 k.1)

  items_comparable : (l m : List A) → ItemsBefore less l m ⊎ ((l ≡ m) ⊎ ItemsBefore less m l)
  items_comparable [] [] = inr (inl refl)
  items_comparable [] (y ∷ m) = inr (inr tt)
  items_comparable (x ∷ l) [] = inl tt
  items_comparable (x ∷ l) (y ∷ m) = elim (o.comparable x y) [
    | inl h ↦ inl (inl h)
    | inr (inr h) ↦ inr (inr (inl h))
    | inr (inl e) ↦ elim (items_comparable l m) [
      | inl h ↦ inl (inr (e, h))
      | inr (inl f) ↦ inr (inl (ap₂ ◌∷◌ e f))
      | inr (inr h) ↦ inr (inr (inr (sym e, h)))
    ]
  ]

  label_order : StrictOrder (LabelBefore less)
  label_order = record {
    irreflexive = λ L. items_irreflexive (items L);
    transitive = λ L M N. items_transitive (items L) (items M) (items N);
    comparable = λ L M. elim (items_comparable (items L) (items M)) [
      | inl h ↦ inl h
      | inr (inl e) ↦ inr (inl (items_determine L M e))
      | inr (inr h) ↦ inr (inr h)
    ];
  }

number_order : StrictOrder ◌<◌
number_order = record { irreflexive = λ x h. omega arith; transitive = λ x y z h k. omega arith; comparable = λ x y. compare x y (dec_lt x y) (dec_lt y x) }
  where
    compare : (x y : ℕ) → Dec (x < y) → Dec (y < x) → (x < y) ⊎ ((x ≡ y) ⊎ (y < x))
    compare x y (yes h) d = inl h
    compare x y (no n) (yes h) = inr (inr h)
    compare x y (no n) (no m) = inr (inl (omega arith))

-- the theorem
pub labels_ordered : LabelsOrdered
labels_ordered = label_order ◌<◌ number_order
