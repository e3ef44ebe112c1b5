-- No fault is told before one that is told before it, so that the first is one fault.
use Rattle.std.proofs.Common.{◌≡◌, ℕ, ◌<◌, Some, None, Option, sym, refl, ap, subst, ⊎_elim, arith}
use Rattle.calculus.specs.Orders.{LabelBefore}
use Rattle.calculus.proofs.Orders.{labels_ordered}
use Rattle.fault.specs.declared.label.Label.{Label}
use Rattle.fault.specs.declared.fault.Fault.{Fault}
use Rattle.meaning.specs.Faults.{names_label, Before, earlier_stage, lower_place, higher_node, lower_label, FirstTold}

-- two labels do not come before each other
labels_apart : (l m l' m' : Label ℕ) → l ≡ l' → m ≡ m' → LabelBefore ◌<◌ (names_label l) (names_label m) → LabelBefore ◌<◌ (names_label m') (names_label l') → ⊥
labels_apart l m l' m' p q f g =
    labels_ordered.irreflexive (names_label l)
    (labels_ordered.transitive (names_label l) (names_label m) (names_label l) f
    (subst (λ x. LabelBefore ◌<◌ (names_label m) (names_label x)) (sym p) (subst (λ x. LabelBefore ◌<◌ (names_label x) (names_label l')) (sym q) g)))

pub one_way : (f g : Fault) → Before f g → Before g f → ⊥
one_way f g (earlier_stage a) (earlier_stage b) = omega arith
one_way f g (earlier_stage a) (lower_place b c d) = omega arith
one_way f g (earlier_stage a) (higher_node b c d) = omega arith
one_way f g (earlier_stage a) (lower_label b c l m x y p q o) = omega arith
one_way f g (lower_place a b c) (earlier_stage d) = omega arith
one_way f g (lower_place a b c) (lower_place d e h) = omega arith
one_way f g (lower_place a b c) (higher_node d e h) = omega arith
one_way f g (lower_place a b c) (lower_label d e l m x y p q o) = omega arith
one_way f g (higher_node a b c) (earlier_stage d) = omega arith
one_way f g (higher_node a b c) (lower_place d e h) = omega arith
one_way f g (higher_node a b c) (higher_node d e h) = omega arith
one_way f g (higher_node a b c) (lower_label d e l m x y p q o) = omega arith
one_way f g (lower_label a b l m x y p q o) (earlier_stage d) = omega arith
one_way f g (lower_label a b l m x y p q o) (lower_place d e h) = omega arith
one_way f g (lower_label a b l m x y p q o) (higher_node d e h) = omega arith
one_way f g (lower_label a b l m x y p q o) (lower_label d e l' m' x' y' p' q' o') =
    let s : ◌≡◌ {A = Label ℕ × ℕ} (l, x) (m', y') = cc in
    let r : ◌≡◌ {A = Label ℕ × ℕ} (m, y) (l', x') = cc in
    labels_apart l m m' l' (ap (λ (w : Label ℕ × ℕ). w.0) s) (ap (λ (w : Label ℕ × ℕ). w.0) r) o o'

-- there is one first fault at most
pub one_first : (Fails : Fault → Type 0) (o r : Option Fault) → FirstTold Fails o → FirstTold Fails r → o ≡ r
one_first Fails None None a b = refl
one_first Fails None (Some f) a b = absurd (a f b.0)
one_first Fails (Some f) None a b = absurd (b f a.0)
one_first Fails (Some f) (Some g) a b =
    ⊎_elim
    (λ e. subst (λ x. Some f ≡ Some x) (sym e) refl)
    (λ h. ⊎_elim (λ e. subst (λ x. Some x ≡ Some g) (sym e) refl) (λ k. absurd (one_way f g h k)) (b.1 f a.0))
    (a.1 g b.0)
