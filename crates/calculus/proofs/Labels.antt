-- Labels: replacing items, and the universe of all labels of the 64 names.
use Rattle.std.proofs.Common.{◌≡◌, ℕ, zero, suc, ◌<◌, List, [], ◌∷◌, ◌++◌, map, sym, refl, ◌∙◌, subst, inl, inr, eq-or-lt_of_le, arith}
use Rattle.std.specs.List.{AllByRecursion}
use Rattle.std.proofs.ByRecursion.{All-weaker}
use Rattle.calculus.specs.Countings.{Operations, Laws}
use Rattle.calculus.specs.Lists.{◌∈◌}
use Rattle.calculus.specs.Labels.{Label, one, two, three, four, items, map_label, items_determine}
use Rattle.calculus.specs.Types.{Name}
use Rattle.calculus.specs.Effects.{◌≟◌}
use Rattle.calculus.proofs.Lists.{map_alike, member_left, member_right}
use Rattle.calculus.proofs.Universes.{Universe, universe}

-- the items of a label with its items replaced
pub items_map : {A B : Type 0} (f : A → B) (L : Label A) → items (map_label f L) ≡ map f (items L)
items_map f (one a) = refl
items_map f (two a b) = refl
items_map f (three a b c) = refl
items_map f (four a b c d) = refl

-- functions that agree on the items map alike
pub map_label_alike : {A B : Type 0} (P : A → Type 0) (f g : A → B) → ((x : A) → P x → f x ≡ g x) → (L : Label A) → AllByRecursion P (items L) →
    map_label f L ≡ map_label g L
map_label_alike P f g h L a = items_determine _ _ (items_map f L ∙ map_alike P f g h (items L) a ∙ sym (items_map g L))

-- replacing twice is replacing once
pub map_label_twice : {A B C : Type 0} (f : B → C) (g : A → B) (L : Label A) → map_label f (map_label g L) ≡ map_label (λ x. f (g x)) L
map_label_twice f g (one a) = refl
map_label_twice f g (two a b) = refl
map_label_twice f g (three a b c) = refl
map_label_twice f g (four a b c d) = refl

-- the lists that f gives the members, one after the other
gather : {A B : Type 0} → List A → (A → List B) → List B
gather [] f = []
gather (x ∷ xs) f = f x ++ gather xs f

in_gather : {A B : Type 0} (xs : List A) (f : A → List B) (x : A) (y : B) → x ∈ xs → y ∈ f x → y ∈ gather xs f
unfolding gather
in_gather [] f x y m h = elim m [ ]
in_gather (z ∷ xs) f x y (inl e) h = member_left y (f z) (gather xs f) (subst (λ w. y ∈ f w) e h)
in_gather (z ∷ xs) f x y (inr m) h = member_right y (f z) (gather xs f) (in_gather xs f x y m h)

numbers_below : ℕ → List ℕ
numbers_below zero = []
numbers_below (suc n) = n ∷ numbers_below n

in_numbers : (n x : ℕ) → x < n → x ∈ numbers_below n
unfolding numbers_below
in_numbers zero x h = absurd (omega arith)
in_numbers (suc n) x h = elim (eq-or-lt_of_le h) [ inl e ↦ inl (omega arith) | inr l ↦ inr (in_numbers n x (omega arith)) ]

-- all labels of these names; shut, since there are 64 to the fourth of them
labels_of : List Name → List (Label Name)
labels_of xs = gather xs (λ a. one a ∷ gather xs (λ b. two a b ∷ gather xs (λ c. three a b c ∷ gather xs (λ d. four a b c d ∷ []))))

in_labels : (xs : List Name) (L : Label Name) → AllByRecursion (λ x. x ∈ xs) (items L) → L ∈ labels_of xs
unfolding labels_of
in_labels xs (one a) m = in_gather xs _ a _ m.0 (inl refl)
in_labels xs (two a b) m = in_gather xs _ a _ m.0 (inr (in_gather xs _ b _ m.1.0 (inl refl)))
in_labels xs (three a b c) m =
    in_gather xs _ a _ m.0 (inr (in_gather xs _ b _ m.1.0 (inr (in_gather xs _ c _ m.1.1.0 (inl refl)))))
in_labels xs (four a b c d) m =
    in_gather xs _ a _ m.0
    (inr (in_gather xs _ b _ m.1.0 (inr (in_gather xs _ c _ m.1.1.0 (inr (in_gather xs _ d _ m.1.1.1.0 (inl refl)))))))

-- the universe of all labels of the 64 names
pub all_labels : (K : Operations) (W : Laws K) → Universe K ◌≟◌ (λ L. AllByRecursion (λ x. x < 64) (items L))
all_labels K W = let u = universe K W ◌≟◌ (labels_of (numbers_below 64)) in
    record { all = u.all; tidy = u.tidy; once = λ L m. u.once L (in_labels (numbers_below 64) L (All-weaker _ _ (λ x l. in_numbers 64 x l) (items L) m)) }
