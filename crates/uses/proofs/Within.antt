-- Two types compared within so many levels: their heads, and their components one level further in.
use Rattle.std.proofs.Common.{◌≡◌, ℕ, zero, suc, ◌+◌, ◌-◌, ◌<◌, Bool, true, List, [], ◌∷◌, length, get_or, sym, subst, ⊎_elim, add-one, arith}
use Rattle.std.proofs.lemmas.Bool.{cases_lt, and_parts, false≢true}
use Rattle.calculus.specs.Countings.{Operations}
use Rattle.tables.specs.Channels.{components}
use Rattle.tables.specs.Range.{all}
use Rattle.tables.specs.declared.tables.SheetType.{SheetType}
use Rattle.sheet.specs.Types.{type_at, nests}
use Rattle.meaning.specs.Types.{type_within}
use Rattle.uses.specs.Pairs.{SameHead, SameWithin}
use Rattle.uses.proofs.Heads.{head_same, head_count, components_same, whole_same}

-- what passes at every place passes at each
all_at : (p : ℕ → Bool) (xs : List ℕ) (i : ℕ) → i < length xs → all p xs ≡ true → p (get_or xs i 0) ≡ true
all_at p [] i l h = absurd (omega arith)
all_at p (x ∷ xs) zero l h = (and_parts (p x) (all p xs) h).0
all_at p (x ∷ xs) (suc i) l h = all_at p xs i (omega arith) (and_parts (p x) (all p xs) h).1

-- the components of a type nest within one level less
pub inner_nests : (types : List SheetType) (levels at i : ℕ) → i < length (components (type_at types at)) → nests types (suc levels) at ≡ true → nests types levels (get_or (components (type_at types at)) i 0) ≡ true
inner_nests types levels at i l h = all_at (nests types levels) (components (type_at types at)) i l h

-- the components at a place are the same, one level further in
abbrev pub Inner : Operations → List SheetType → (ys : List ℕ) → (level left right i : ℕ) → Type 0
Inner K types ys level left right i =
    SameWithin K types ys (level + 1) (4 - (level + 1)) (get_or (components (type_at types left)) i 0) (get_or (components (type_at types right)) i 0)

module _ (K : Operations) (types : List SheetType) (ys : List ℕ) (level left right : ℕ) (deep : nests types (4 - level) right ≡ true) where
  -- the right type has a level left
  pub level_low : level < 4
  level_low =
      ⊎_elim (λ l. l) (λ h. let last : 4 - level ≡ 0 = omega arith in absurd (false≢true (subst (λ k. nests types k right ≡ true) last deep))) (cases_lt level 4)

  one_less : 4 - level ≡ suc (4 - (level + 1))
  one_less = let l = level_low in omega arith

  opened : SameWithin K types ys level (4 - level) left right → SameWithin K types ys level (suc (4 - (level + 1))) left right
  opened s = subst (λ k. SameWithin K types ys level k left right) one_less s

  pub head_of : SameWithin K types ys level (4 - level) left right → SameHead K ys level (type_at types left) (type_at types right)
  head_of s = head_same K ys level (type_within types (suc (4 - (level + 1)))) (type_within types (4 - (level + 1))) (type_at types left) (type_at types right) (opened s)

  pub inner_of : SameWithin K types ys level (4 - level) left right → (i : ℕ) → i < length (components (type_at types left)) → Inner K types ys level left right i
  inner_of s i l =
      subst (λ m. SameWithin K types ys m (4 - (level + 1)) (get_or (components (type_at types left)) i 0) (get_or (components (type_at types right)) i 0)) (sym (add-one level))
      (components_same K ys level (type_within types (suc (4 - (level + 1)))) (type_within types (4 - (level + 1))) (type_at types left) (type_at types right) (opened s) i l)

  pub whole_of : SameHead K ys level (type_at types left) (type_at types right) → ((i : ℕ) → i < length (components (type_at types left)) → Inner K types ys level left right i) → SameWithin K types ys level (4 - level) left right
  whole_of head inner =
      subst (λ k. SameWithin K types ys level k left right) (sym one_less)
      (whole_same K ys level (type_within types (suc (4 - (level + 1)))) (type_within types (4 - (level + 1))) (type_at types left) (type_at types right) head
      (λ i l. subst (λ m. SameWithin K types ys m (4 - (level + 1)) (get_or (components (type_at types left)) i 0) (get_or (components (type_at types right)) i 0)) (add-one level) (inner i l)))

  -- the components on the right nest within the levels that are left
  pub inner_deep : SameHead K ys level (type_at types left) (type_at types right) → (i : ℕ) → i < length (components (type_at types left)) → nests types (4 - (level + 1)) (get_or (components (type_at types right)) i 0) ≡ true
  inner_deep head i l =
      let count = head_count K ys level (type_within types 0) (type_within types 0) (type_at types left) (type_at types right) head in
      inner_nests types (4 - (level + 1)) right i (omega arith) (subst (λ k. nests types k right ≡ true) one_less deep)
