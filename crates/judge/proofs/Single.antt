-- Sheets whose nodes bring one label only: at any other label every amount is 0, so only that one can be at fault.
use Rattle.std.proofs.Common.{◌≡◌, ℕ, zero, suc, List, length, sym, refl, ◌∙◌, arith}
use Rattle.calculus.specs.Countings.{Operations, Laws}
use Rattle.calculus.specs.Effects.{◌≟◌, latent, amount}
use Rattle.calculus.specs.Labels.{Label}
use Rattle.calculus.specs.Types.{Assignment, Name}
use Rattle.calculus.proofs.Joins.{if_no, join_zero, lack_zero}
use Rattle.tables.specs.Encoding.{parts}
use Rattle.tables.specs.declared.tables.Node.{Node}
use Rattle.tables.specs.declared.tables.Node.TheVariants.{Stop, Send, Receive, Both, Copy, New, Test, Begin, End}
use Rattle.sheet.specs.Tree.{node_at}
use Rattle.meaning.specs.Labels.{label_of}
use Rattle.meaning.specs.Processes.{shape, unfolded}

module _ (K : Operations) (W : Laws K) (types : Assignment) (ℓ : Label Name) where
  -- the node brings no other label in
  abbrev pub Brings : Node → Type 0
  Brings Stop = Unit {0}
  Brings (Send channel names) = (L : Label Name) → (ℓ ≡ L → ⊥) → latent K (types channel) (parts names) L ≡ 0
  Brings (Receive channel names next) = Unit {0}
  Brings (Both first second) = Unit {0}
  Brings (Copy next) = Unit {0}
  Brings (New name next) = Unit {0}
  Brings (Test left right same other) = Unit {0}
  Brings (Begin label next) = Unit {0}
  Brings (End label next) = label_of (λ x. x) label.items ≡ ℓ

  module _ (nodes : List Node) (brings : (n : ℕ) → Brings (node_at nodes n)) where
    module _ (L : Label Name) (other : ℓ ≡ L → ⊥) where
      -- a node whose children have nothing has nothing
      shaped : (k : ℕ) → ((n : ℕ) → amount K types (unfolded nodes k n) L ≡ 0) → (x : Node) → Brings x → amount K types (shape (unfolded nodes k) x) L ≡ 0
      shaped k go Stop b = refl
      shaped k go (Send channel names) b = b L other
      shaped k go (Receive channel names next) b = lack_zero K W _ _ (go next)
      shaped k go (Both first second) b = join_zero K W _ _ (go first) (go second)
      shaped k go (Copy next) b = go next
      shaped k go (New name next) b = go next
      shaped k go (Test left right same other) b = let p = go same in let q = go other in omega arith
      shaped k go (Begin label next) b = lack_zero K W _ _ (go next)
      shaped k go (End label next) b = join_zero K W _ _ (go next) (if_no (label_of (λ x. x) label.items ≟ L) K.full (λ e. other (sym b ∙ e)))

      silent : (k n : ℕ) → amount K types (unfolded nodes k n) L ≡ 0
      silent zero n = refl
      silent (suc k) n = shaped k (silent k) (node_at nodes n) (brings n)

    -- at every other label every node has nothing
    pub elsewhere : (n : ℕ) (L : Label Name) → (ℓ ≡ L → ⊥) → amount K types (unfolded nodes (length nodes) n) L ≡ 0
    elsewhere n L other = silent L other (length nodes) n
