-- Joins: what the first three laws give for joins of two, over lists and over bags.
use Rattle.std.proofs.Common.{◌≡◌, ℕ, ◌+◌, ◌≤◌, List, [], ◌∷◌, ◌++◌, map, sym, refl, ap, ◌∙◌, subst, ap₂, le_trans, le_refl, add_comm, zero-add, add-one, arith}
use mathlib.Core.Path.{fun_ext}
use Rattle.std.specs.List.{AllByRecursion}
use Rattle.calculus.specs.Countings.{Operations, Laws, joined}
use Rattle.calculus.specs.Lists.{Removal, here, there}
use Rattle.calculus.specs.Joins.{amount_if, join_over, rights}

-- amounts on a condition
pub if_zero : {A : Type 0} (d : Dec A) → amount_if d 0 ≡ 0
if_zero (yes h) = refl
if_zero (no h) = refl

-- where the answer is yes
pub if_yes : {A : Type 0} (d : Dec A) (a : ℕ) → A → amount_if d a ≡ a
if_yes (yes h) a x = refl
if_yes (no h) a x = absurd (h x)

-- where the answer is no
pub if_no : {A : Type 0} (d : Dec A) (a : ℕ) → (A → ⊥) → amount_if d a ≡ 0
if_no (yes h) a x = absurd (x h)
if_no (no h) a x = refl

-- a larger amount on the same condition
pub if_monotone : {A : Type 0} (d : Dec A) (a b : ℕ) → a ≤ b → amount_if d a ≤ amount_if d b
if_monotone (yes h) a b l = l
if_monotone (no h) a b l = le_refl 0

-- never more than the amount itself
pub if_at_most : {A : Type 0} (d : Dec A) (a b : ℕ) → a ≤ b → amount_if d a ≤ b
if_at_most (yes h) a b l = l
if_at_most (no h) a b l = omega arith

-- two conditions in either order
pub if_swap : {A B : Type 0} (d : Dec A) (e : Dec B) (a : ℕ) → amount_if d (amount_if e a) ≡ amount_if e (amount_if d a)
if_swap (yes h) e a = refl
if_swap (no h) e a = sym (if_zero e)

module _ (K : Operations) (W : Laws K) where
  -- law one from the left
  pub neutral_left : (a : ℕ) → K.join 0 a ≡ a
  neutral_left a = W.commutative 0 a ∙ W.neutral a

  -- law two on both sides
  pub join_monotone : {a b c d : ℕ} → a ≤ b → c ≤ d → K.join a c ≤ K.join b d
  join_monotone {a} {b} {c} {d} l m =
      le_trans (W.monotone a b c l)
      (subst (λ (x : ℕ). x ≤ K.join b d) (W.commutative c b) (subst (λ (x : ℕ). K.join c b ≤ x) (W.commutative d b) (W.monotone c d b m)))

  -- a join is at least each of its parts
  pub left_below : (a b : ℕ) → a ≤ K.join a b
  left_below a b = subst (λ (x : ℕ). x ≤ K.join a b) (W.neutral a) (join_monotone (le_refl a) (omega arith))

  pub right_below : (a b : ℕ) → b ≤ K.join a b
  right_below a b = subst (λ (x : ℕ). b ≤ x) (W.commutative b a) (left_below b a)

  -- nothing joined with nothing
  pub join_zero : (a b : ℕ) → a ≡ 0 → b ≡ 0 → K.join a b ≡ 0
  join_zero a b p q = ap₂ K.join p q ∙ W.neutral 0

  -- nothing lacks nothing
  pub lack_zero : (a b : ℕ) → a ≡ 0 → K.lack a b ≡ 0
  lack_zero a b q = let h = W.lack_least a b 0 (omega arith) in omega arith

  -- a lack is at most the whole
  pub lack_at_most : (a b : ℕ) → K.lack a b ≤ a
  lack_at_most a b = W.lack_least a b a (right_below b a)

  -- nothing is lacking where both are the same
  pub lack_self : (a b : ℕ) → a ≡ b → K.lack a b ≡ 0
  lack_self a b e = let h = W.lack_least a b 0 (subst (λ (x : ℕ). x ≤ K.join b 0) (sym e) (left_below b 0)) in omega arith

  -- (a b) (c d) = (a c) (b d)
  pub join_cross : (a b c d : ℕ) → K.join (K.join a b) (K.join c d) ≡ K.join (K.join a c) (K.join b d)
  join_cross a b c d = W.associative a b (K.join c d)
      ∙ ap (K.join a) (sym (W.associative b c d) ∙ ap (λ x. K.join x d) (W.commutative b c) ∙ W.associative c b d)
      ∙ sym (W.associative a c (K.join b d))

  -- a condition on a join
  pub if_join : {A : Type 0} (d : Dec A) (a b : ℕ) → amount_if d (K.join a b) ≡ K.join (amount_if d a) (amount_if d b)
  if_join (yes h) a b = refl
  if_join (no h) a b = sym (W.neutral 0)

  -- nothing at each member
  pub over_zero : {A : Type 0} (xs : List A) → join_over K xs (λ x. 0) ≡ 0
  over_zero [] = refl
  over_zero (x ∷ xs) = neutral_left _ ∙ over_zero xs

  -- more at each member
  pub over_monotone : {A : Type 0} (xs : List A) (f g : A → ℕ) → ((x : A) → f x ≤ g x) → join_over K xs f ≤ join_over K xs g
  over_monotone [] f g h = le_refl 0
  over_monotone (x ∷ xs) f g h = join_monotone (h x) (over_monotone xs f g h)

  -- a join of two at each member
  pub over_join : {A : Type 0} (xs : List A) (f g : A → ℕ) → join_over K xs (λ x. K.join (f x) (g x)) ≡ K.join (join_over K xs f) (join_over K xs g)
  over_join [] f g = sym (W.neutral 0)
  over_join (x ∷ xs) f g = ap (K.join (K.join (f x) (g x))) (over_join xs f g) ∙ join_cross (f x) (g x) (join_over K xs f) (join_over K xs g)

  -- the same at each member
  pub over_alike : {A : Type 0} (xs : List A) {f g : A → ℕ} → ((x : A) → f x ≡ g x) → join_over K xs f ≡ join_over K xs g
  over_alike xs h = ap (join_over K xs) (fun_ext h)

  -- where f and g agree on the members
  pub over_alike_members : {A : Type 0} (P : A → Type 0) (xs : List A) (f g : A → ℕ) → ((x : A) → P x → f x ≡ g x) → AllByRecursion P xs → join_over K xs f ≡ join_over K xs g
  over_alike_members P [] f g h a = refl
  over_alike_members P (x ∷ xs) f g h a = ap₂ K.join (h x a.0) (over_alike_members P xs f g h a.1)

  -- over a mapped list
  pub over_map : {A B : Type 0} (m : A → B) (xs : List A) (f : B → ℕ) → join_over K (map m xs) f ≡ join_over K xs (λ x. f (m x))
  over_map m [] f = refl
  over_map m (x ∷ xs) f = ap (K.join (f (m x))) (over_map m xs f)

  -- two joins in either order
  pub over_swap : {A B : Type 0} (xs : List A) (ys : List B) (f : A → B → ℕ) →
      join_over K xs (λ x. join_over K ys (f x)) ≡ join_over K ys (λ y. join_over K xs (λ x. f x y))
  over_swap [] ys f = sym (over_zero ys)
  over_swap (x ∷ xs) ys f =
      ap (K.join (join_over K ys (f x))) (over_swap xs ys f) ∙ sym (over_join ys (f x) (λ y. join_over K xs (λ x. f x y)))

  -- a condition on a join over a list
  pub over_if : {A B : Type 0} (d : Dec A) (xs : List B) (f : B → ℕ) → amount_if d (join_over K xs f) ≡ join_over K xs (λ x. amount_if d (f x))
  over_if d [] f = if_zero d
  over_if d (x ∷ xs) f = if_join d (f x) (join_over K xs f) ∙ ap (K.join (amount_if d (f x))) (over_if d xs f)

  -- a member taken out of a bag
  pub over_removal : {A : Type 0} (t : A) (xs r : List A) (f : A → ℕ) → Removal t xs r → join_over K xs f ≡ K.join (f t) (join_over K r f)
  over_removal t xs r f here = refl
  over_removal t xs r f (there {y = y} {l = l} {rest = s} h) =
      ap (K.join (f y)) (over_removal t l s f h) ∙ sym (W.associative (f y) (f t) _)
      ∙ ap (λ x. K.join x (join_over K s f)) (W.commutative (f y) (f t)) ∙ W.associative (f t) (f y) _

  -- two lists one after the other
  pub joined_append : (a b : List ℕ) → joined K (a ++ b) ≡ K.join (joined K a) (joined K b)
  joined_append [] b = sym (neutral_left _)
  joined_append (x ∷ a) b = ap (K.join x) (joined_append a b) ∙ sym (W.associative x (joined K a) (joined K b))

  -- one full right more, on a condition
  pub rights_more : {A : Type 0} (d : Dec A) (n : ℕ) → rights K (amount_if d 1 + n) ≡ K.join (amount_if d K.full) (rights K n)
  rights_more (yes h) n = ap (rights K) (add_comm 1 n ∙ add-one n)
  rights_more (no h) n = ap (rights K) (zero-add n) ∙ sym (neutral_left _)
