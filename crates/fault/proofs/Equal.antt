-- What the derived `==` of items and of labels says: where the `==` of what they hold decides equality, so does theirs.
use Rattle.std.proofs.Common.{◌≡◌, Bool, ◌&&◌, Decides, ap}
use Rattle.std.proofs.lemmas.Bool.{and_parts, and_from}
use Rattle.std.specs.declared.cmp.PartialEq.{Ghosts}
use denote.RattleType.{RattleType}
use mir.Syntax.{Dict}
use Rattle.fault.specs.declared.items.Items.{Items}
use Rattle.fault.specs.declared.items.Items.TheVariants.{One, Two, Three, Four}
use Rattle.fault.specs.declared.label.Label.{Label}
use Rattle.fault.specs.contracts.items.ItemsPartialEq.TheImpl as items_eq
use Rattle.fault.specs.contracts.label.LabelPartialEq.TheImpl as label_eq

-- two tests that decide, joined
pub both_decide : {P Q R : Type 0} (x y : Bool) → Decides x P → Decides y Q → (P → Q → R) → (R → P) → (R → Q) → Decides (x && y) R
both_decide x y d e make first second = (
  λ h. let p = and_parts x y h in make (d.0 p.0) (e.0 p.1),
  λ r. and_from x y (d.1 (first r)) (e.1 (second r)),
)

module _ (T : RattleType) (g : Ghosts T.Denot) (d : Dict) (same : (x y : T.Denot) → Decides (g.eq x y) (x ≡ y)) where
  -- of items
  pub items_decided : (a b : Items T.Denot) → Decides ((items_eq.ghosts T g d).eq a b) (a ≡ b)
  items_decided (One a) (One b) = ((λ e. ap One ((same a b).0 e)), (λ e. (same a b).1 (cc)))
  items_decided (One a) (Two b b1) = (λ e. cc, λ e. cc)
  items_decided (One a) (Three b b1 b2) = (λ e. cc, λ e. cc)
  items_decided (One a) (Four b b1 b2 b3) = (λ e. cc, λ e. cc)
  items_decided (Two a a1) (One b) = (λ e. cc, λ e. cc)
  items_decided (Two a a1) (Two b b1) = both_decide _ _ (same a b) (same a1 b1) (λ p q. cc) (λ e. cc) (λ e. cc)
  items_decided (Two a a1) (Three b b1 b2) = (λ e. cc, λ e. cc)
  items_decided (Two a a1) (Four b b1 b2 b3) = (λ e. cc, λ e. cc)
  items_decided (Three a a1 a2) (One b) = (λ e. cc, λ e. cc)
  items_decided (Three a a1 a2) (Two b b1) = (λ e. cc, λ e. cc)
  items_decided (Three a a1 a2) (Three b b1 b2) =
      both_decide _ _ (same a b) (both_decide {R = (a1 ≡ b1) × (a2 ≡ b2)} _ _ (same a1 b1) (same a2 b2) (λ p q. (p, q)) (λ r. r.0) (λ r. r.1)) (λ p q. cc) (λ e. cc) (λ e. (cc, cc))
  items_decided (Three a a1 a2) (Four b b1 b2 b3) = (λ e. cc, λ e. cc)
  items_decided (Four a a1 a2 a3) (One b) = (λ e. cc, λ e. cc)
  items_decided (Four a a1 a2 a3) (Two b b1) = (λ e. cc, λ e. cc)
  items_decided (Four a a1 a2 a3) (Three b b1 b2) = (λ e. cc, λ e. cc)
  items_decided (Four a a1 a2 a3) (Four b b1 b2 b3) =
      both_decide _ _ (same a b)
      (both_decide {R = (a1 ≡ b1) × ((a2 ≡ b2) × (a3 ≡ b3))} _ _ (same a1 b1)
      (both_decide {R = (a2 ≡ b2) × (a3 ≡ b3)} _ _ (same a2 b2) (same a3 b3) (λ p q. (p, q)) (λ r. r.0) (λ r. r.1))
      (λ p q. (p, q)) (λ r. r.0) (λ r. r.1))
      (λ p q. cc) (λ e. cc) (λ e. (cc, (cc, cc)))

  -- of labels
  pub label_decided : (a b : Label T.Denot) → Decides ((label_eq.ghosts T g d).eq a b) (a ≡ b)
  label_decided a b =
      let e = items_decided a.items b.items in
      (λ h. ap (λ x. record { items = x }) (e.0 h), λ p. e.1 (ap (λ l. l.items) p))
