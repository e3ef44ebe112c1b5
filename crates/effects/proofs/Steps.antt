-- The amounts of the nodes at one label, from the last node down.
use Rattle.std.proofs.Common.{◌≡◌, ℕ, ◌<◌, ◌≤◌, max, List, length, get_or, set, sym, refl, ap, ◌∙◌, ap₂, ⊎_elim, arith}
use Rattle.std.proofs.lemmas.List.{get_or_past, get_or-set_same, get_or-set_other}
use Rattle.std.proofs.lemmas.Bool.{cases_eq}
use Rattle.calculus.specs.Countings.{Operations}
use Rattle.fault.specs.declared.label.Label.{Label}
use Rattle.tables.specs.declared.tables.Node.{Node}
use Rattle.tables.specs.declared.tables.Node.TheVariants.{Stop, Send, Receive, Both, Copy, New, Test, Begin, End}
use Rattle.sheet.specs.Tree.{node_at}
use Rattle.effects.specs.Rows.{Row}
use Rattle.effects.specs.Steps.{own_at, step_by, LaterChildren, Amounts}

-- only the children count
pub step_alike : (K : Operations) (n count own : ℕ) (f g : ℕ → ℕ) (x : Node) → LaterChildren n count x → ((c : ℕ) → n < c → f c ≡ g c) → step_by K own f x ≡ step_by K own g x
step_alike K n count own f g Stop l e = refl
step_alike K n count own f g (Send channel xs) l e = refl
step_alike K n count own f g (Receive channel xs next) l e = ap (λ v. K.lack v own) (e next l.0.0)
step_alike K n count own f g (Both a b) l e = ap₂ K.join (e a l.0.0) (e b l.1.0.0)
step_alike K n count own f g (Copy next) l e = e next l.0.0
step_alike K n count own f g (New x next) l e = e next l.0.0
step_alike K n count own f g (Test x y a b) l e = ap₂ max (e a l.0.0) (e b l.1.0.0)
step_alike K n count own f g (Begin x next) l e = ap (λ v. K.lack v own) (e next l.0.0)
step_alike K n count own f g (End x next) l e = ap (λ v. K.join v own) (e next l.0.0)

module _ (K : Operations) (all : List Node) (table : List Row) (L : Label ℕ) (A : ℕ → ℕ) (a : Amounts K all table L A) where
  -- past the last node there is nothing
  pub amount_past : (n : ℕ) → length all ≤ n → A n ≡ 0
  amount_past n l = a.steps n ∙ ap (step_by K (own_at K table L n) A) (get_or_past all n Stop l)

  -- a node's amount, from those that were found of the nodes after it
  pub amount_from : (vs : List ℕ) (n : ℕ) → n < length all → ((m : ℕ) → n < m → get_or vs m 0 ≡ A m) → step_by K (own_at K table L n) (λ c. get_or vs c 0) (node_at all n) ≡ A n
  amount_from vs n l h = step_alike K n (length all) (own_at K table L n) (λ c. get_or vs c 0) A (node_at all n) (a.later n l) h ∙ sym (a.steps n)

-- one place more is filled, from the last down
pub filled_more : (f : ℕ → ℕ) (vs : List ℕ) (n a : ℕ) → n < length vs → ((m : ℕ) → n < m → get_or vs m 0 ≡ f m) → a ≡ f n → (m : ℕ) → n ≤ m → get_or (set vs n a) m 0 ≡ f m
filled_more f vs n a h inv e m l =
    ⊎_elim
    (λ p. ap (λ k. get_or (set vs n a) k 0) p ∙ get_or-set_same vs n a 0 h ∙ e ∙ ap f (sym p))
    (λ p. get_or-set_other vs n m a 0 p ∙ inv m (omega arith))
    (cases_eq m n)
