-- Universes: lists in which each wanted thing stands once, so that a join over the list meets it once.
-- With one, amounts may be sent along any function of their labels: only the amount at each label counts.
use Rattle.std.proofs.Common.{◌≡◌, ℕ, ◌⊎◌, List, [], ◌∷◌, ◌++◌, map, sym, refl, ap, ◌∙◌, subst, ap₂, inl, inr}
use mathlib.Core.HLevel.{Discrete}
use Rattle.std.specs.List.{AllByRecursion}
use Rattle.calculus.specs.Countings.{Operations, Laws}
use Rattle.calculus.specs.Lists.{◌∈◌}
use Rattle.calculus.specs.Joins.{amount_if, join_over}
use Rattle.calculus.proofs.Lists.{member_left, member_right}
use Rattle.calculus.proofs.Joins.{if_yes, if_no, if_swap, neutral_left, over_alike, over_alike_members, over_swap, over_if}

-- x stands in U once, by what a join over U makes of it
abbrev pub Once : {A : Type 0} → Operations → Discrete A → List A → A → Type 0
Once {A} K same U x = (f : A → ℕ) → join_over K U (λ y. amount_if (same x y) (f y)) ≡ f x

-- x does not stand in U
abbrev pub Never : {A : Type 0} → Operations → Discrete A → List A → A → Type 0
Never {A} K same U x = (f : A → ℕ) → join_over K U (λ y. amount_if (same x y) (f y)) ≡ 0

-- everything stands in the list once or never, and what P holds of stands there once
pub record Universe {A : Type 0} (K : Operations) (same : Discrete A) (P : A → Type 0) : Type 0 where
  pub all : List A
  pub tidy : (x : A) → Once K same all x ⊎ Never K same all x
  pub once : (x : A) → P x → Once K same all x

module _ (K : Operations) (W : Laws K) {A : Type 0} (same : Discrete A) where
  once_here : (U : List A) (y : A) → Never K same U y → (x : A) → x ≡ y → Once K same (y ∷ U) x
  once_here U y n x e f =
      ap₂ K.join (if_yes (same x y) (f y) e) (ap (λ z. join_over K U (λ k. amount_if (same z k) (f k))) e ∙ n f) ∙ W.neutral (f y) ∙ ap f (sym e)

  once_there : (U : List A) (x y : A) → (x ≡ y → ⊥) → Once K same U x → Once K same (y ∷ U) x
  once_there U x y n o f = ap₂ K.join (if_no (same x y) (f y) n) (o f) ∙ neutral_left K W (f x)

  never_there : (U : List A) (x y : A) → (x ≡ y → ⊥) → Never K same U x → Never K same (y ∷ U) x
  never_there U x y n o f = ap₂ K.join (if_no (same x y) (f y) n) (o f) ∙ W.neutral 0

  -- a list made tidy
  pub universe : (l : List A) → Universe K same (λ x. x ∈ l)
  universe [] = record { all = []; tidy = λ x. inr (λ f. refl); once = λ x h. absurd h }
  universe (y ∷ l) = add (universe l)
    where
      add : Universe K same (λ x. x ∈ l) → Universe K same (λ x. x ∈ (y ∷ l))
      add u = elim (u.tidy y) [
        | inl o ↦ record { all = u.all; tidy = u.tidy; once = λ x h. elim h [ inl e ↦ subst (Once K same u.all) (sym e) o | inr m ↦ u.once x m ] }
        | inr n ↦ record {
          all = y ∷ u.all;
          tidy = λ x. elim (same x y) [
            | yes e ↦ inl (once_here u.all y n x e)
            | no d ↦ elim (u.tidy x) [ inl o ↦ inl (once_there u.all x y d o) | inr o ↦ inr (never_there u.all x y d o) ]
          ];
          once = λ x h. elim (same x y) [
            | yes e ↦ once_here u.all y n x e
            | no d ↦ elim h [ inl e ↦ absurd (d e) | inr m ↦ once_there u.all x y d (u.once x m) ]
          ];
        }
      ]

  -- rows sent along a function of their labels, by way of the amount at each label
  pub along : {R : Type 0} (rows : List R) (label : R → A) (amount : R → ℕ) (U : List A) → AllByRecursion (λ r. Once K same U (label r)) rows →
      {Q : A → Type 0} (d : (x : A) → Dec (Q x)) →
      join_over K rows (λ r. amount_if (d (label r)) (amount r))
      ≡ join_over K U (λ x. amount_if (d x) (join_over K rows (λ r. amount_if (same (label r) x) (amount r))))
  along rows label amount U o d =
      over_alike_members K W (λ r. Once K same U (label r)) rows _ _ (λ r h. sym (h (λ x. amount_if (d x) (amount r)))) o
      ∙ sym (over_swap K W U rows (λ x r. amount_if (same (label r) x) (amount_if (d x) (amount r))))
      ∙ over_alike K W U (λ x. over_alike K W rows (λ r. if_swap (same (label r) x) (d x) (amount r))
      ∙ sym (over_if K W (d x) rows (λ r. amount_if (same (label r) x) (amount r))))

  all_rows : {R : Type 0} (label : R → A) (P : A → Type 0) (rows : List R) → ((x : A) → x ∈ map label rows → P x) → AllByRecursion (λ r. P (label r)) rows
  all_rows label P [] h = tt
  all_rows label P (r ∷ rows) h = (h (label r) (inl refl), all_rows label P rows (λ x m. h x (inr m)))

  -- two lists of rows with equal amounts at every label have equal amounts wherever their labels are sent
  pub sent_alike : {R : Type 0} (label : R → A) (amount : R → ℕ) (a b : List R) →
      ((x : A) → join_over K a (λ r. amount_if (same (label r) x) (amount r)) ≡ join_over K b (λ r. amount_if (same (label r) x) (amount r))) →
      {Q : A → Type 0} (d : (x : A) → Dec (Q x)) →
      join_over K a (λ r. amount_if (d (label r)) (amount r)) ≡ join_over K b (λ r. amount_if (d (label r)) (amount r))
  sent_alike label amount a b h d =
      let u = universe (map label a ++ map label b) in
      along a label amount u.all (all_rows label (Once K same u.all) a (λ x m. u.once x (member_left x (map label a) (map label b) m))) d
      ∙ over_alike K W u.all (λ x. ap (amount_if (d x)) (h x))
      ∙ sym (along b label amount u.all (all_rows label (Once K same u.all) b (λ x m. u.once x (member_right x (map label a) (map label b) m))) d)
