-- Joins over the first members of a list, and over the first shares.
use Rattle.std.proofs.Common.{◌≡◌, ℕ, zero, suc, ◌+◌, ◌<◌, ◌≤◌, List, [], ◌∷◌, length, get_or, take, sym, ap, ◌∙◌, subst, ap₂, add-one, ⊎_elim, le_refl, le_trans, arith}
use Rattle.std.proofs.ByRecursion.{All-get_or}
use Rattle.std.proofs.lemmas.Bool.{cases_eq}
use Rattle.calculus.specs.Countings.{Operations, Laws}
use Rattle.calculus.specs.Joins.{join_over}
use Rattle.calculus.proofs.Joins.{join_monotone, neutral_left}
use Rattle.fault.specs.declared.label.Label.{Label}
use Rattle.tables.specs.Shares.{Gives}
use Rattle.tables.specs.declared.share.Share.{Share}
use Rattle.meaning.specs.Shares.{GivesEach}

module _ (K : Operations) (W : Laws K) {A : Type 0} (f : A → ℕ) where
  -- one member more at the end
  first_more : (xs : List A) (i : ℕ) (d : A) → i < length xs → K.join (join_over K (take i xs) f) (f (get_or xs i d)) ≡ join_over K (take (suc i) xs) f
  first_more [] i d l = absurd (omega arith)
  first_more (x ∷ xs) zero d l = neutral_left K W (f x) ∙ sym (W.neutral (f x))
  first_more (x ∷ xs) (suc i) d l = W.associative (f x) (join_over K (take i xs) f) (f (get_or xs i d)) ∙ ap (K.join (f x)) (first_more xs i d (omega arith))

  -- a join of the first members is at most the join of all
  first_below : (xs : List A) (i : ℕ) → join_over K (take i xs) f ≤ join_over K xs f
  first_below xs zero = omega arith
  first_below [] (suc i) = le_refl _
  first_below (x ∷ xs) (suc i) = join_monotone K W (le_refl (f x)) (first_below xs i)

-- no more than a bound, by an equation
pub below_bound : {x y b : ℕ} → x ≡ y → y ≤ b → x ≤ b
below_bound e h = omega arith

-- a share gives a label one amount
gives_one : {A : Type 0} (L : Label A) (s : Share A) (a b : ℕ) → Gives L s a → Gives L s b → a ≡ b
gives_one L s a b p q =
    ⊎_elim (λ e. e) (λ n. absurd (n (p.1 (λ e. n (p.0 e ∙ sym (q.0 e))) ∙ sym (q.1 (λ e. n (p.0 e ∙ sym (q.0 e))))))) (cases_eq a b)

-- the first i shares are joined
abbrev pub FirstJoined : {A : Type 0} → Operations → List (Share A) → Label A → ℕ → ℕ → Type 0
FirstJoined {A} K shares L i sum =
    (f : Share A → ℕ) → GivesEach L shares f → join_over K shares f ≤ K.ceiling → sum ≡ join_over K (take i shares) f

-- and one share more, which gives a
pub joined_more : {A : Type 0} (K : Operations) (W : Laws K) (xs : List (Share A)) (L : Label A) (i : ℕ) (s : Share A) (sum a r : ℕ) → i < length xs → s ≡ get_or xs i s →
    FirstJoined K xs L i sum → Gives L s a → (K.join sum a ≤ K.ceiling → r ≡ K.join sum a) → FirstJoined K xs L (i + 1) r
joined_more K W xs L i s sum a r l at so own made f gives fits =
    let given : Gives L s (f s) = subst (λ s. Gives L s (f s)) (sym at) (All-get_or (λ s. Gives L s (f s)) xs i s l gives) in
    let amount : a ≡ f (get_or xs i s) = gives_one L s a (f s) own given ∙ ap f at in
    let more : K.join sum a ≡ join_over K (take (suc i) xs) f = ap₂ K.join (so f gives fits) amount ∙ first_more K W f xs i s l in
    made (below_bound more (le_trans (first_below K W f xs (suc i)) fits)) ∙ more ∙ ap (λ k. join_over K (take k xs) f) (sym (add-one i))
