-- The order of labels: item by item, and that it is the order of the calculus.
use Rattle.std.proofs.Common.{◌≡◌, ℕ, zero, suc, ◌<◌, ◌≤◌, Bool, true, false, cond, eqb, ltb, ◌⊎◌, List, [], ◌∷◌, length, get_or, Some, Option, IfSome, sym, refl, ap, ◌∙◌, subst, ap₂, inl, inr, ⊎_elim, arith}
use mathlib.Core.Bool.{false≢true}
use Rattle.std.proofs.lemmas.Bool.{cases_Bool, cases_order, eqb-true, eq-eqb, ne_eqb, ltb-true, lt-ltb, le-ltb, both_ways}
use Rattle.std.specs.Cmp.Lexicographic.{slice_partial_cmp}
use Rattle.std.specs.Option.{unwrap_or}
use Rattle.std.specs.Ordering.{partial_lt, partial_ordering_then, is_some_and, is_lt, nat_cmp}
use Rattle.std.specs.declared.cmp.Ordering.{Ordering}
use Rattle.std.specs.declared.cmp.Ordering.TheVariants.{Less, Equal, Greater}
use Rattle.sheet.proofs.Scanning.{is_false}
use Rattle.calculus.specs.Labels as calculus
use Rattle.calculus.specs.Orders.{ItemsBefore, LabelBefore}
use Rattle.calculus.proofs.Orders.{labels_ordered}
use Rattle.fault.specs.Items.{list, nth}
use Rattle.fault.specs.declared.items.Items.{Items}
use Rattle.fault.specs.declared.label.Label.{Label}
use Rattle.tables.proofs.Iterated.{few}
use Rattle.meaning.specs.Faults.{names_label}
use Rattle.meaning.proofs.Scopes.{items_of}
use Rattle.effects.specs.Found.{before, label_before}
use Rattle.effects.proofs.Naming.{labels_alike}

-- a label has at most four items
pub items_few : (xs : Items ℕ) → length (list xs) ≤ 4
items_few xs = few (Some xs)

-- numbers that items are ordered by: each item, below 256, or 256 where there is none
abbrev Keyed : ℕ → List ℕ → List ℕ → Type 0
Keyed n xs ks = (i : ℕ) → i < n → (get_or ks i 0 ≡ unwrap_or (nth xs i) 256) × IfSome (nth xs i) (λ x. x < 256)

-- the first numbers decide, or the rest where they are the same
abbrev rest_decides : ℕ → ℕ → Option Ordering → Bool
rest_decides k l p = is_some_and is_lt (partial_ordering_then (Some (nat_cmp k l)) p)

less_decides : (k l : ℕ) (p : Option Ordering) → k < l → rest_decides k l p ≡ true
less_decides k l p h = ap (λ b. is_some_and is_lt (partial_ordering_then (Some (cond b Less (cond (eqb k l) Equal Greater))) p)) (lt-ltb k l h)

same_decides : (k l : ℕ) (p : Option Ordering) → k ≡ l → rest_decides k l p ≡ is_some_and is_lt p
same_decides k l p h =
    ap₂ (λ b c. is_some_and is_lt (partial_ordering_then (Some (cond b Less (cond c Equal Greater))) p)) (le-ltb k l (omega arith)) (eq-eqb k l h)

more_decides : (k l : ℕ) (p : Option Ordering) → l < k → rest_decides k l p ≡ false
more_decides k l p h =
    ap₂ (λ b c. is_some_and is_lt (partial_ordering_then (Some (cond b Less (cond c Equal Greater))) p)) (le-ltb k l (omega arith)) (ne_eqb k l (λ e. omega arith))

-- the order of these numbers is that of the items
pub keys_before : (n : ℕ) (xs ys ks ls : List ℕ) → length xs ≤ n → length ks ≡ n → length ls ≡ n → Keyed n xs ks → Keyed n ys ls →
    partial_lt (slice_partial_cmp (λ x y. Some (nat_cmp x y))) ks ls ≡ before xs ys
keys_before zero [] ys [] [] a b c p q = refl
keys_before zero (x ∷ xs) ys ks ls a b c p q = absurd (omega arith)
keys_before zero [] ys (k ∷ ks) ls a b c p q = absurd (omega arith)
keys_before zero [] ys [] (l ∷ ls) a b c p q = absurd (omega arith)
keys_before (suc n) xs ys [] ls a b c p q = absurd (omega arith)
keys_before (suc n) xs ys (k ∷ ks) [] a b c p q = absurd (omega arith)
keys_before (suc n) [] [] (k ∷ ks) (l ∷ ls) a b c p q =
    let e = (p 0 (omega arith)).0 ∙ sym (q 0 (omega arith)).0 in
    same_decides k l _ e
    ∙ keys_before n [] [] ks ls (omega arith) (omega arith) (omega arith) (λ i h. p (suc i) (omega arith)) (λ i h. q (suc i) (omega arith))
keys_before (suc n) [] (y ∷ ys) (k ∷ ks) (l ∷ ls) a b c p q =
    let e = (p 0 (omega arith)).0 in
    let f = (q 0 (omega arith)).0 in
    let g = (q 0 (omega arith)).1 in
    more_decides k l _ (omega arith)
keys_before (suc n) (x ∷ xs) [] (k ∷ ks) (l ∷ ls) a b c p q =
    let e = (p 0 (omega arith)).0 in
    let f = (q 0 (omega arith)).0 in
    let g = (p 0 (omega arith)).1 in
    less_decides k l _ (omega arith)
keys_before (suc n) (x ∷ xs) (y ∷ ys) (k ∷ ks) (l ∷ ls) a b c p q =
    let e = (p 0 (omega arith)).0 in
    let f = (q 0 (omega arith)).0 in
    ⊎_elim
    (λ s. same_decides k l _ (omega arith)
    ∙ keys_before n xs ys ks ls (omega arith) (omega arith) (omega arith) (λ i h. p (suc i) (omega arith)) (λ i h. q (suc i) (omega arith))
    ∙ sym (ap (λ t. cond t (before xs ys) (ltb x y)) (eq-eqb x y s)))
    (⊎_elim
    (λ s. less_decides k l _ (omega arith) ∙ sym (ap₂ (λ t u. cond t (before xs ys) u) (ne_eqb x y (λ r. omega arith)) (lt-ltb x y s)))
    (λ s. more_decides k l _ (omega arith) ∙ sym (ap₂ (λ t u. cond t (before xs ys) u) (ne_eqb x y (λ r. omega arith)) (le-ltb x y (omega arith)))))
    (cases_order x y)

-- the test finds the order of the calculus
before_sound : (xs ys : List ℕ) → before xs ys ≡ true → ItemsBefore ◌<◌ xs ys
before_sound [] ys h = false≢true h
before_sound (x ∷ xs) [] h = tt
before_sound (x ∷ xs) (y ∷ ys) h =
    ⊎_elim
    (λ e. inr (eqb-true x y e, before_sound xs ys (sym (ap (λ t. cond t (before xs ys) (ltb x y)) e) ∙ h)))
    (λ e. inl (ltb-true x y (sym (ap (λ t. cond t (before xs ys) (ltb x y)) e) ∙ h)))
    (cases_Bool (eqb x y))

before_complete : (xs ys : List ℕ) → ItemsBefore ◌<◌ xs ys → before xs ys ≡ true
before_complete [] ys h = elim h [ ]
before_complete (x ∷ xs) [] h = refl
before_complete (x ∷ xs) (y ∷ ys) (inl l) = ap (λ t. cond t (before xs ys) (ltb x y)) (ne_eqb x y (λ e. omega arith)) ∙ lt-ltb x y l
before_complete (x ∷ xs) (y ∷ ys) (inr h) = ap (λ t. cond t (before xs ys) (ltb x y)) (eq-eqb x y h.0) ∙ before_complete xs ys h.1

-- one label before another, by the test and in the calculus
pub label_sound : (L M : Label ℕ) → label_before L M ≡ true → LabelBefore ◌<◌ (names_label L) (names_label M)
label_sound L M h =
    subst (λ xs. ItemsBefore ◌<◌ xs (calculus.items (names_label M))) (sym (items_of L.items))
    (subst (λ ys. ItemsBefore ◌<◌ (list L.items) ys) (sym (items_of M.items)) (before_sound (list L.items) (list M.items) h))

label_complete : (L M : Label ℕ) → LabelBefore ◌<◌ (names_label L) (names_label M) → label_before L M ≡ true
label_complete L M h =
    before_complete (list L.items) (list M.items)
    (subst (λ ys. ItemsBefore ◌<◌ (list L.items) ys) (items_of M.items)
    (subst (λ xs. ItemsBefore ◌<◌ xs (calculus.items (names_label M))) (items_of L.items) h))

-- it is a strict order
pub label_transitive : (L M N : Label ℕ) → label_before L M ≡ true → label_before M N ≡ true → label_before L N ≡ true
label_transitive L M N h k = label_complete L N (labels_ordered.transitive (names_label L) (names_label M) (names_label N) (label_sound L M h) (label_sound M N k))

pub label_irreflexive : (L : Label ℕ) → label_before L L ≡ false
label_irreflexive L = is_false (label_before L L) (λ h. labels_ordered.irreflexive (names_label L) (label_sound L L h))

-- a label that does not come before another is the same, or comes after it
pub label_after : (L M : Label ℕ) → label_before L M ≡ false → (L ≡ M) ⊎ LabelBefore ◌<◌ (names_label M) (names_label L)
label_after L M h =
    ⊎_elim
    (λ l. absurd (both_ways (label_before L M) h (label_complete L M l)))
    (⊎_elim (λ e. inl (labels_alike L M e)) (λ l. inr l))
    (labels_ordered.comparable (names_label L) (names_label M))
