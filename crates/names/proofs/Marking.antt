-- Marks of names against scopes, and the names that stand before one.
use Rattle.std.proofs.Common.{◌≡◌, ℕ, ◌<◌, ◌≤◌, Bool, true, false, ◌||◌, List, ◌++◌, Some, None, Option, MatchOption, sym, refl, ap, ◌∙◌, arith}
use Rattle.sheet.specs.Scope.{member}
use Rattle.sheet.proofs.Scoped.{member_append}
use Rattle.fault.specs.First.{Lowest}

pub or_swap : (a b c : Bool) → (b || (a || c)) ≡ ((a || b) || c)
or_swap true true c = refl
or_swap true false c = refl
or_swap false b c = refl

-- marked for one list and then for another
pub marked_more : (old : Bool) (y : ℕ) (xs ys : List ℕ) → (member y ys || (member y xs || old)) ≡ (member y (xs ++ ys) || old)
marked_more old y xs ys = or_swap (member y xs) (member y ys) old ∙ ap (λ b. b || old) (sym (member_append y xs ys))

-- the first number of a range with P is the lowest
pub lowest_from : (P : ℕ → Type 0) (n m : ℕ) (r : Option ℕ) → m ≡ n →
    MatchOption r ((k : ℕ) → 0 ≤ k → k < m → P k → ⊥) (λ i. (0 ≤ i) × (i < m) × P i × ((k : ℕ) → 0 ≤ k → k < i → P k → ⊥)) → Lowest P n r
lowest_from P n m None e h = λ i l. h i (omega arith) (omega arith)
lowest_from P n m (Some i) e h = let l = h.1 in (omega arith, h.2, λ j l. h.3 j (omega arith) l)
