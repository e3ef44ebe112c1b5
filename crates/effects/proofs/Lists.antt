-- Lists of one thing, and lists with a part written over.
use Rattle.std.proofs.Common.{◌≡◌, ℕ, ◌-◌, ◌<◌, ◌≤◌, List, ◌++◌, length, get_or, take, replicate, ◌∙◌, ⊎_elim, arith}
use borrow.Rule.Slice.PartMut.{put_mid, post_of}
use Rattle.std.proofs.lemmas.List.{get_or_past, get_or-replicate, length-replicate, get_or-take, length-take-le, get_or_append_left, get_or-append_right}
use Rattle.std.proofs.lemmas.Bool.{cases_lt}

-- each place holds z, and so does each past the end, where z stands for what is missing
pub all_same : (n m z : ℕ) → get_or (replicate n z) m z ≡ z
all_same n m z = ⊎_elim (λ l. get_or-replicate n m z z l) (λ l. get_or_past (replicate n z) m z (omega (arith, length-replicate n z))) (cases_lt m n)

-- a list with a part written over: the places before the part, and those in it
module _ {A : Type 0} (xs ys : List A) (a k i : ℕ) (d : A) (l : a ≤ length xs) where
  pub before_part : i < a → get_or (put_mid a k xs ys) i d ≡ get_or xs i d
  before_part h = get_or_append_left (take a xs) (ys ++ post_of a k xs) d i (omega (arith, length-take-le a xs l)) ∙ get_or-take a xs i d h

  pub in_part : a ≤ i → i - a < length ys → get_or (put_mid a k xs ys) i d ≡ get_or ys (i - a) d
  in_part h s = get_or-append_right (take a xs) (ys ++ post_of a k xs) a i d (length-take-le a xs l) h ∙ get_or_append_left ys (post_of a k xs) d (i - a) s
