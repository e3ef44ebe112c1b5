-- The used places of a table as a list, for its methods.
use Rattle.std.proofs.Common.{◌≡◌, ℕ, ◌+◌, ◌-◌, ◌<◌, ◌≤◌, List, [], ◌∷◌, ◌++◌, length, get_or, take, set, Some, None, Option, sym, refl, ap, ◌∙◌, arith, Bor}
use Rattle.std.proofs.lemmas.List.{take_more}
use Rattle.std.proofs.lemmas.Grind.{take-set_at}
use Rattle.std.specs.Option.{option_map}
use Rattle.std.specs.Slice.{IsGetResult}
use Rattle.tables.specs.Elements.{last_of, with_last}

-- with another last element, a list that ends so
pub with_last_push : {X : Type 0} (xs : List X) (x y : X) → with_last (xs ++ x ∷ []) y ≡ xs ++ y ∷ []
with_last_push [] x y = refl
with_last_push (a ∷ []) x y = refl
with_last_push (a ∷ b ∷ xs) x y = ap (λ l. a ∷ l) (with_last_push (b ∷ xs) x y)

-- another thing in the last of the first n places
pub replaced : {X : Type 0} (n : ℕ) (xs : List X) (y : X) → 0 < n → n ≤ length xs → take n (set xs (n - 1) y) ≡ with_last (take n xs) y
replaced n xs y some l =
    let k = n - 1 in
    let e : k + 1 ≡ n = omega arith in
    let h : k < length xs = omega arith in
    take-set_at xs k n y (sym e) h
    ∙ sym (with_last_push (take k xs) (get_or xs k y) y)
    ∙ ap (λ l. with_last l y) (sym (take_more xs k y h) ∙ ap (λ i. take i xs) e)

-- the last of a list that ends so
pub last_push : {X : Type 0} (xs : List X) (x : X) → last_of (xs ++ x ∷ []) ≡ Some x
last_push [] x = refl
last_push (a ∷ []) x = refl
last_push (a ∷ b ∷ xs) x = last_push (b ∷ xs) x

-- the last element by its number
pub last_at : {X : Type 0} (xs : List X) (d : X) → 0 < length xs → last_of xs ≡ Some (get_or xs (length xs - 1) d)
last_at [] d l = absurd (omega arith)
last_at (x ∷ []) d l = refl
last_at (x ∷ y ∷ xs) d l =
    let e : length (x ∷ y ∷ xs) - 1 ≡ length (y ∷ xs) = omega arith in
    let f : length (y ∷ xs) - 1 ≡ length xs = omega arith in
    last_at (y ∷ xs) d (omega arith) ∙ ap (λ i. Some (get_or (y ∷ xs) i d)) f ∙ sym (ap (λ i. Some (get_or (x ∷ y ∷ xs) i d)) e)

-- the last element as a slice gives it
pub last_given : {X : Type 0} (xs : List X) (r : Option (Bor X)) → IsGetResult xs 0 (length xs - 1) r → option_map (λ x. x.now) r ≡ last_of xs
last_given [] None h = refl
last_given (x ∷ xs) None h = absurd (omega (arith, h.3))
last_given xs (Some x) h = sym (last_at xs x.now h.3.0 ∙ ap Some (sym h.1))
