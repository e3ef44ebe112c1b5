-- Labels compared as the tables have them, and effects compared at the labels of their own entries.
use Rattle.std.proofs.Common.{◌≡◌, ℕ, ◌+◌, ◌-◌, ◌<◌, ◌≤◌, true, ◌⊎◌, List, [], ◌∷◌, map, length, get_or, take, sym, refl, ap, ◌∙◌, subst, ap₂, inl, inr, ⊎_elim, arith}
use Rattle.std.specs.List.{AllByRecursion}
use Rattle.std.proofs.ByRecursion.{All-get_or, All-push}
use Rattle.std.proofs.lemmas.List.{length-map, get_or-map, map_more}
use Rattle.std.proofs.lemmas.Bool.{and_parts, leb-true}
use Rattle.calculus.specs.Countings.{Operations, Laws, Each≤}
use Rattle.calculus.specs.Equality.{decide}
use Rattle.calculus.specs.Labels.{Label, label_test, items}
use Rattle.calculus.specs.Types as calculus
use Rattle.calculus.specs.Types.{entries_at, item_test}
use Rattle.calculus.proofs.Joins.{if_yes, if_no, if_at_most, join_zero}
use Rattle.fault.specs.Items.{list}
use Rattle.fault.specs.declared.items.Items.{Items}
use Rattle.fault.specs.declared.items.Items.TheVariants.{One, Two, Three, Four}
use Rattle.fault.specs.declared.label.Label as tables
use Rattle.tables.specs.Range.{all}
use Rattle.tables.specs.Shares.{Entry}
use Rattle.tables.specs.declared.tables.Item.{Item}
use Rattle.tables.specs.declared.tables.Item.TheVariants.{Name, Index}
use Rattle.meaning.specs.Labels.{label_of}
use Rattle.meaning.specs.Shares.{GivesEach}
use Rattle.meaning.specs.Types.{item, entry}
use Rattle.uses.specs.Entries.{placed, placed_label, amount_for, Placed, Small, SameAmounts, SameEffects}

-- items with positions from 1 mean different items
item_injective : (a b : Item) → placed a ≡ true → placed b ≡ true → item a ≡ item b → a ≡ b
item_injective (Name x) (Name y) p q e = cc
item_injective (Name x) (Index v b) p q e = let z : ◌≡◌ {A = ℕ} 0 1 = cc in absurd (omega arith)
item_injective (Index u a) (Name y) p q e = let z : ◌≡◌ {A = ℕ} 0 1 = cc in absurd (omega arith)
item_injective (Index u a) (Index v b) p q e =
    let arrows : u ≡ v = cc in
    let places : a - 1 ≡ b - 1 = cc in
    let positions : a ≡ b = omega (arith, leb-true 1 a p, leb-true 1 b q) in
    cc

map_injective : (xs ys : List Item) → all placed xs ≡ true → all placed ys ≡ true → map item xs ≡ map item ys → xs ≡ ys
map_injective [] [] p q e = refl
map_injective [] (y ∷ ys) p q e = let z : ◌≡◌ {A = ℕ} 0 1 = cc in absurd (omega arith)
map_injective (x ∷ xs) [] p q e = let z : ◌≡◌ {A = ℕ} 0 1 = cc in absurd (omega arith)
map_injective (x ∷ xs) (y ∷ ys) p q e =
    let here = and_parts (placed x) (all placed xs) p in
    let there = and_parts (placed y) (all placed ys) q in
    let first : item x ≡ item y = cc in
    let rest : map item xs ≡ map item ys = cc in
    ap₂ ◌∷◌ (item_injective x y here.0 there.0 first) (map_injective xs ys here.1 there.1 rest)

-- the items of a label, by their list
of_list : {A : Type 0} → Items A → List A → Items A
of_list other [] = other
of_list other (a ∷ []) = One a
of_list other (a ∷ b ∷ []) = Two a b
of_list other (a ∷ b ∷ c ∷ []) = Three a b c
of_list other (a ∷ b ∷ c ∷ d ∷ []) = Four a b c d
of_list other (a ∷ b ∷ c ∷ d ∷ e ∷ l) = other

of_list_list : {A : Type 0} (other xs : Items A) → of_list other (list xs) ≡ xs
unfolding of_list
of_list_list other (One a) = refl
of_list_list other (Two a b) = refl
of_list_list other (Three a b c) = refl
of_list_list other (Four a b c d) = refl

items_of : {A B : Type 0} (f : A → B) (xs : Items A) → items (label_of f xs) ≡ map f (list xs)
items_of f (One a) = refl
items_of f (Two a b) = refl
items_of f (Three a b c) = refl
items_of f (Four a b c d) = refl

-- labels with positions from 1 mean different labels
label_injective : (a b : Items Item) → all placed (list a) ≡ true → all placed (list b) ≡ true → label_of item a ≡ label_of item b → a ≡ b
label_injective a b p q e =
    let lists = map_injective (list a) (list b) p q (sym (items_of item a) ∙ ap items e ∙ items_of item b) in
    sym (of_list_list a a) ∙ ap (of_list a) lists ∙ of_list_list a b

-- an entry gives its amount to its own label, and nothing to any other
gives_own : (e : Entry) (l : tables.Label Item) → e.label ≡ l → amount_for (label_of item l.items) (entry e) ≡ e.amount
gives_own e l same = if_yes (decide (label_test item_test) (label_of item e.label.items) (label_of item l.items)) e.amount (ap (λ (m : tables.Label Item). label_of item m.items) same)

gives_nothing : (e : Entry) (l : tables.Label Item) → placed_label e.label ≡ true → placed_label l ≡ true → (e.label ≡ l → ⊥)
    → amount_for (label_of item l.items) (entry e) ≡ 0
gives_nothing e l p q other =
    if_no (decide (label_test item_test) (label_of item e.label.items) (label_of item l.items)) e.amount
    (λ same. other (ap (λ xs. record { items = xs }) (label_injective e.label.items l.items p q same)))

-- so of each entry the calculus says what it gives a label
pub gives_each : (es : List Entry) (l : tables.Label Item) → Placed es → placed_label l ≡ true → GivesEach l es (λ e. amount_for (label_of item l.items) (entry e))
gives_each [] l p q = tt
gives_each (e ∷ es) l p q = ((gives_own e l, gives_nothing e l p.0 q), gives_each es l p.1 q)

module _ (K : Operations) (W : Laws K) where
  each_small : (L : Label calculus.Item) (es : List calculus.Entry) → Small K es → Each≤ K.largest (map (amount_for L) es)
  each_small L [] h = tt
  each_small L (e ∷ es) h = (if_at_most (decide (label_test item_test) e.label L) e.amount K.largest h.0, each_small L es h.1)

  -- few and small entries do not pass the ceiling
  pub at_fits : (L : Label calculus.Item) (es : List calculus.Entry) → length es ≤ 8 → Small K es → entries_at K es L ≤ K.ceiling
  at_fits L es few small = W.bounded (map (amount_for L) es) (omega (arith, length-map es (amount_for L))) (each_small L es small)

  -- a label is that of an entry, or gets nothing
  found_or_none : (P : Label calculus.Item → Type 0) (es : List calculus.Entry) → AllByRecursion (λ e. P e.label) es → (L : Label calculus.Item) → P L ⊎ (entries_at K es L ≡ 0)
  found_or_none P [] h L = inr refl
  found_or_none P (e ∷ es) h L = by_first (decide (label_test item_test) e.label L) (found_or_none P es h.1 L)
    where
      by_first : Dec (e.label ≡ L) → P L ⊎ (entries_at K es L ≡ 0) → P L ⊎ (entries_at K (e ∷ es) L ≡ 0)
      by_first (yes same) rest = inl (subst P same h.0)
      by_first (no other) rest =
          ⊎_elim inl (λ z. inr (join_zero K W _ _ (if_no (decide (label_test item_test) e.label L) e.amount other) z)) rest

  -- effects that agree at their own labels agree at every label
  pub agree_everywhere : (a b : List calculus.Entry) → AllByRecursion (SameAmounts K a b) a → AllByRecursion (SameAmounts K a b) b → SameEffects K a b
  agree_everywhere a b p q L =
      let P : Label calculus.Item → Type 0 = λ M. entries_at K a M ≡ entries_at K b M in
      ⊎_elim (λ h. h) (λ z. ⊎_elim (λ h. h) (λ w. z ∙ sym w) (found_or_none P b q L)) (found_or_none P a p L)

  pub agree_at : (a b es : List calculus.Entry) → SameEffects K a b → AllByRecursion (SameAmounts K a b) es
  agree_at a b [] h = tt
  agree_at a b (e ∷ es) h = (h e.label, agree_at a b es h)

-- what holds of each entry's meaning, at one entry, and up to one more
pub meant_at : (P : calculus.Entry → Type 0) (es : List Entry) (i : ℕ) (d : Entry) → i < length es → AllByRecursion P (map entry es) → P (entry (get_or es i d))
meant_at P es i d l h =
    subst P (get_or-map entry es i d (entry d) l) (All-get_or P (map entry es) i (entry d) (omega (arith, length-map es entry)) h)

pub meant_more : (P : calculus.Entry → Type 0) (es : List Entry) (i : ℕ) (d : Entry) → i < length es → AllByRecursion P (map entry (take i es)) → P (entry (get_or es i d)) → AllByRecursion P (map entry (take (i + 1) es))
meant_more P es i d l h p = subst (AllByRecursion P) (sym (map_more entry es i d l)) (All-push P (map entry (take i es)) (entry (get_or es i d)) h p)
