-- The process at a node is the node with the processes at its children: enough levels are enough.
use Rattle.std.proofs.Common.{◌≡◌, ℕ, zero, suc, ◌+◌, ◌<◌, ◌≤◌, true, false, eqb, List, [], ◌∷◌, length, sym, refl, ap, ap₂, arith}
use Rattle.std.proofs.lemmas.List.{get_or_past}
use Rattle.std.proofs.lemmas.Bool.{eq-eqb, or_left, or_right}
use Rattle.calculus.specs.Processes.{Process, receive, both, copy, new, test, begin, end}
use Rattle.tables.specs.Encoding.{parts}
use Rattle.tables.specs.declared.tables.Node.{Node}
use Rattle.tables.specs.declared.tables.Node.TheVariants.{Stop, Send, Receive, Both, Copy, New, Test, Begin, End}
use Rattle.sheet.specs.Tree.{children, node_at, misgrown}
use Rattle.sheet.specs.Scope.{member}
use Rattle.sheet.proofs.Parents.{higher}
use Rattle.meaning.specs.Labels.{label_of}
use Rattle.meaning.specs.Processes.{shape, unfolded, process_at}

-- a number stands in a list that begins with it, or with another and it
pub first : (x : ℕ) (ys : List ℕ) → member x (x ∷ ys) ≡ true
first x ys = or_left (eqb x x) (member x ys) (eq-eqb x x refl)

pub second : (x y : ℕ) (zs : List ℕ) → member x (y ∷ x ∷ zs) ≡ true
second x y zs = or_right (eqb x y) (member x (x ∷ zs)) (first x zs)

-- a node with the same processes at its children is the same process
shape_same : (f g : ℕ → Process) (x : Node) → ((c : ℕ) → member c (children x) ≡ true → f c ≡ g c) → shape f x ≡ shape g x
shape_same f g Stop h = refl
shape_same f g (Send channel names) h = refl
shape_same f g (Receive channel names next) h = ap (λ p. receive channel (parts names) p) (h next (first next []))
shape_same f g (Both a b) h = ap₂ both (h a (first a (b ∷ []))) (h b (second b a []))
shape_same f g (Copy next) h = ap copy (h next (first next []))
shape_same f g (New name next) h = ap (λ p. new name p) (h next (first next []))
shape_same f g (Test left right same other) h = ap₂ (λ p q. test left right p q) (h same (first same (other ∷ []))) (h other (second other same []))
shape_same f g (Begin label next) h = ap (λ p. begin (label_of (λ x. x) label.items) p) (h next (first next []))
shape_same f g (End label next) h = ap (λ p. end (label_of (λ x. x) label.items) p) (h next (first next []))

module _ (nodes : List Node) (tree : (n : ℕ) → n < length nodes → misgrown nodes n ≡ false) where
  -- past the last node there is nothing
  past : (k n : ℕ) → length nodes ≤ n → unfolded nodes k n ≡ unfolded nodes zero n
  past zero n l = refl
  past (suc k) n l = ap (shape (unfolded nodes k)) (get_or_past nodes n Stop l)

  -- any two counts of levels that are enough give the same
  enough : (k j n : ℕ) → length nodes ≤ k + n → length nodes ≤ j + n → unfolded nodes k n ≡ unfolded nodes j n
  enough zero j n a b = sym (past j n (omega arith))
  enough (suc k) zero n a b = past (suc k) n (omega arith)
  enough (suc k) (suc j) n a b =
      shape_same (unfolded nodes k) (unfolded nodes j) (node_at nodes n)
      (λ c h. let l = higher nodes tree c n h in enough k j c (omega arith) (omega arith))

  pub process_unfolds : (n : ℕ) → process_at nodes n ≡ shape (process_at nodes) (node_at nodes n)
  process_unfolds n = enough (length nodes) (suc (length nodes)) n (omega arith) (omega arith)
