-- The first failure, from what a search by `position` or `find` says of its items.
use Rattle.std.proofs.Common.{ℕ, ◌<◌, List, length, get_or, Some, None, Option, MatchOption, arith}
use Rattle.std.specs.List.{AllWithin, HoldsAt}
use Rattle.meaning.specs.Failures.{FirstFailure}

-- a search through a list, where d stands past its end
pub first_of_list : {A : Type 0} (Good : A → Type 0) (xs : List A) (d : A) (r : Option ℕ)
    → MatchOption r (AllWithin Good xs 0 (length xs)) (λ i. (i < length xs) × HoldsAt (λ x. Good x → ⊥) xs i × AllWithin Good xs 0 i)
    → FirstFailure (λ n. Good (get_or xs n d)) (length xs) r
first_of_list Good xs d None h = λ i l. h i d (omega arith) l
first_of_list Good xs d (Some i) h = (h.0, h.1 d, λ j l. h.2 j d (omega arith) l)
