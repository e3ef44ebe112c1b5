-- The checks of the calculus are scope and judgement together.
use Rattle.calculus.specs.Countings.{Operations}
use Rattle.calculus.specs.Checks.{Checks}
use Rattle.calculus.specs.Lists.{extend}
use Rattle.std.proofs.Common.{[], ◌∷◌}
use Rattle.calculus.specs.Processes.{Process, stop, send, receive, both, copy, new, test, begin, end}
use Rattle.calculus.specs.Scopes.{Scope}
use Rattle.calculus.specs.Types.{Assignment}
use Rattle.meaning.specs.Judged.{Judged}
use Rattle.meaning.specs.Scopes.{Scoped}

module _ (K : Operations) (types : Assignment) where
  pub checked : (Γ : Scope) (p : Process) → Scoped Γ p → Judged K types Γ p → Checks K types Γ p
  checked Γ stop s j = tt
  checked Γ (send x ys) s j = (s.0, s.1, j)
  checked Γ (receive x zs p) s j = (s.0, s.1, j.0, j.1, j.2, checked (extend zs Γ) p s.2 j.3)
  checked Γ (both p q) s j = (checked Γ p s.0 j.0, checked Γ q s.1 j.1)
  checked Γ (copy p) s j = (checked Γ p s j.0, j.1)
  checked Γ (new x p) s j = (s.0, j.0, j.1, checked (extend (x ∷ []) Γ) p s.1 j.2)
  checked Γ (test x y p q) s j = (s.0, s.1, checked Γ p s.2 j.0, checked Γ q s.3 j.1)
  checked Γ (begin l p) s j = (s.0, checked Γ p s.1 j)
  checked Γ (end l p) s j = (s.0, checked Γ p s.1 j)

  pub judged : (Γ : Scope) (p : Process) → Checks K types Γ p → Judged K types Γ p
  judged Γ stop c = tt
  judged Γ (send x ys) c = c.2
  judged Γ (receive x zs p) c = (c.2, c.3, c.4, judged (extend zs Γ) p c.5)
  judged Γ (both p q) c = (judged Γ p c.0, judged Γ q c.1)
  judged Γ (copy p) c = (judged Γ p c.0, c.1)
  judged Γ (new x p) c = (c.1, c.2, judged (extend (x ∷ []) Γ) p c.3)
  judged Γ (test x y p q) c = (judged Γ p c.2, judged Γ q c.3)
  judged Γ (begin l p) c = judged Γ p c.1
  judged Γ (end l p) c = judged Γ p c.1
