-- Labels of names and labels of the calculus.
use Rattle.std.proofs.Common.{◌≡◌, ℕ, List, [], ◌∷◌, sym, refl, ap, ◌∙◌}
use Rattle.fault.specs.declared.items.Items.{Items}
use Rattle.fault.specs.declared.items.Items.TheVariants.{One, Two, Three, Four}
use Rattle.fault.specs.declared.label.Label.{Label}
use Rattle.calculus.specs.Labels as calculus
use Rattle.meaning.specs.Faults.{names_label}
use Rattle.meaning.specs.Labels.{label_of}
use Rattle.meaning.specs.Shares.{GivesEach}
use Rattle.calculus.specs.Effects.{◌≟◌}
use Rattle.calculus.proofs.Joins.{if_yes, if_no}
use Rattle.effects.specs.Rows.{Row}
use Rattle.effects.specs.Steps.{gives}

-- a label of the calculus as items again
abbrev back : calculus.Label ℕ → Items ℕ
back (calculus.one a) = One a
back (calculus.two a b) = Two a b
back (calculus.three a b c) = Three a b c
back (calculus.four a b c d) = Four a b c d

back_of : (xs : Items ℕ) → back (label_of (λ x. x) xs) ≡ xs
back_of (One a) = refl
back_of (Two a b) = refl
back_of (Three a b c) = refl
back_of (Four a b c d) = refl

-- labels are equal where they are equal in the calculus
pub labels_alike : (L M : Label ℕ) → names_label L ≡ names_label M → L ≡ M
labels_alike L M e = ap (λ (xs : Items ℕ). record { items = xs }) (sym (back_of L.items) ∙ ap back e ∙ back_of M.items)

pub gives_other : (r : Row) (L : Label ℕ) → (r.label ≡ L → ⊥) → 0 ≡ gives L r
gives_other r L n = sym (if_no (names_label r.label ≟ names_label L) r.amount (λ e. n (labels_alike r.label L e)))

-- so of each row the calculus says what it gives a label
pub gives_each : (L : Label ℕ) (rs : List Row) → GivesEach L rs (gives L)
gives_each L [] = tt
gives_each L (r ∷ rs) = ((λ e. if_yes (names_label r.label ≟ names_label L) r.amount (ap names_label e), λ n. sym (gives_other r L n)), gives_each L rs)
