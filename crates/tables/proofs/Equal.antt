-- What the derived `==` of an item says.
use Rattle.std.proofs.Common.{◌≡◌, Decides, ap, eqb-true, eq-eqb}
use Rattle.fault.proofs.Equal.{both_decide}
use Rattle.tables.specs.declared.tables.Item.{Item}
use Rattle.tables.specs.declared.tables.Item.TheVariants.{Name, Index}
use Rattle.tables.specs.contracts.tables.ItemPartialEq.TheImpl as item_eq

pub item_decided : (a b : Item) → Decides (item_eq.ghosts.eq a b) (a ≡ b)
item_decided (Name x) (Name y) = (λ e. ap Name (eqb-true x y e), λ e. eq-eqb x y (cc))
item_decided (Name x) (Index v q) = (λ e. cc, λ e. cc)
item_decided (Index u p) (Name y) = (λ e. cc, λ e. cc)
item_decided (Index u p) (Index v q) =
    both_decide {P = u ≡ v} {Q = p ≡ q} _ _ (eqb-true u v, eq-eqb u v) (eqb-true p q, eq-eqb p q) (λ e f. cc) (λ e. cc) (λ e. cc)
