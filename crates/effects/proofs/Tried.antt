-- A label that no row brings in has no amount anywhere, so trying the labels of the rows is enough.
use Rattle.std.proofs.Common.{◌≡◌, ℕ, zero, suc, ◌+◌, ◌<◌, ◌≤◌, true, false, cond, not, eqb, ◌⊎◌, List, [], ◌∷◌, length, get_or, take, Some, None, Option, sym, refl, ap, ◌∙◌, subst, inl, inr, ⊎_elim, add-one, arith}
use Rattle.std.proofs.lemmas.Bool.{cases_Bool, cases_eq, cases_lt, cases_order, both_ways, ne_eqb}
use Rattle.calculus.specs.Countings.{Operations, Laws}
use Rattle.calculus.specs.Effects.{◌≟◌}
use Rattle.calculus.specs.Joins.{amount_if, join_over}
use Rattle.calculus.specs.Lists.{◌∈◌}
use Rattle.calculus.proofs.Joins.{if_zero, join_zero, lack_zero}
use Rattle.fault.specs.declared.label.Label.{Label}
use Rattle.tables.specs.declared.tables.Node.{Node}
use Rattle.tables.specs.declared.tables.Node.TheVariants.{Stop, Send, Receive, Both, Copy, New, Test, Begin, End}
use Rattle.sheet.specs.Tree.{node_at}
use Rattle.meaning.specs.Faults.{names_label}
use Rattle.effects.specs.Found.{bad, fails, asks, with_row, brought, tried, FirstIn, FirstOf}
use Rattle.effects.specs.Rows.{Row, blank, places}
use Rattle.effects.specs.Steps.{gives, own_at, step_by, Amounts}
use Rattle.effects.specs.declared.found.Found.{Found}
use Rattle.effects.proofs.Naming.{labels_alike, gives_other}
use Rattle.effects.proofs.Steps.{step_alike, amount_past}

-- whether a label stands in a list
same_or_not : (L M : Label ℕ) → Dec (names_label L ≡ names_label M) → (L ≡ M) ⊎ (L ≡ M → ⊥)
same_or_not L M (yes e) = inl (labels_alike L M e)
same_or_not L M (no n) = inr (λ e. n (ap names_label e))

in_or_not : (L : Label ℕ) (S : List (Label ℕ)) → (L ∈ S) ⊎ (L ∈ S → ⊥)
in_or_not L [] = inr (λ h. h)
in_or_not L (M ∷ S) =
    ⊎_elim
    (λ e. inl (inl e))
    (λ n. ⊎_elim (λ m. inl (inr m)) (λ k. inr (λ h. ⊎_elim n k h)) (in_or_not L S))
    (same_or_not L M (names_label L ≟ names_label M))

-- a row with an amount brings its label in, and no row takes one out
with_own : (r : Row) (S : List (Label ℕ)) → (r.amount ≡ 0 → ⊥) → r.label ∈ with_row r S
with_own r S n = subst (λ b. r.label ∈ cond b S (r.label ∷ S)) (sym (ne_eqb r.amount 0 n)) (inl refl)

with_kept : (r : Row) (S : List (Label ℕ)) (L : Label ℕ) → L ∈ S → L ∈ with_row r S
with_kept r S L m =
    ⊎_elim (λ e. subst (λ b. L ∈ cond b S (r.label ∷ S)) (sym e) m) (λ e. subst (λ b. L ∈ cond b S (r.label ∷ S)) (sym e) (inr m)) (cases_Bool (eqb r.amount 0))

brought_kept : (rs : List Row) (S : List (Label ℕ)) (L : Label ℕ) → L ∈ S → L ∈ brought rs S
brought_kept [] S L m = m
brought_kept (r ∷ rs) S L m = brought_kept rs (with_row r S) L (with_kept r S L m)

brought_has : (rs : List Row) (j : ℕ) (S : List (Label ℕ)) → j < length rs → ((get_or rs j blank).amount ≡ 0 → ⊥) → (get_or rs j blank).label ∈ brought rs S
brought_has [] j S l n = absurd (omega arith)
brought_has (r ∷ rs) zero S l n = brought_kept rs (with_row r S) r.label (with_own r S n)
brought_has (r ∷ rs) (suc j) S l n = brought_has rs j (with_row r S) (omega arith) n

-- one row more
pub brought_more : (rs : List Row) (i : ℕ) (d : Row) (S : List (Label ℕ)) → i < length rs → with_row (get_or rs i d) (brought (take i rs) S) ≡ brought (take (suc i) rs) S
brought_more [] i d S l = absurd (omega arith)
brought_more (r ∷ rs) zero d S l = refl
brought_more (r ∷ rs) (suc i) d S l = brought_more rs i d (with_row r S) (omega arith)

module _ (all : List Node) (table : List Row) where
  -- one node more: its rows bring labels in, or it does not ask
  pub tried_asked : (n : ℕ) → asks (node_at all n) ≡ true → brought (places table n) (tried all table n) ≡ tried all table (n + 1)
  tried_asked n a =
      sym (ap (λ b. cond b (brought (places table n) (tried all table n)) (tried all table n)) a) ∙ sym (ap (tried all table) (add-one n))

  pub tried_unasked : (n : ℕ) → asks (node_at all n) ≡ false → tried all table n ≡ tried all table (n + 1)
  tried_unasked n a =
      sym (ap (λ b. cond b (brought (places table n) (tried all table n)) (tried all table n)) a) ∙ sym (ap (tried all table) (add-one n))

  tried_kept : (n : ℕ) (L : Label ℕ) → L ∈ tried all table n → L ∈ tried all table (n + 1)
  tried_kept n L m =
      ⊎_elim
      (λ a. subst (λ S. L ∈ S) (tried_asked n a) (brought_kept (places table n) (tried all table n) L m))
      (λ a. subst (λ S. L ∈ S) (tried_unasked n a) m)
      (cases_Bool (asks (node_at all n)))

  tried_has : (N n : ℕ) (L : Label ℕ) → n < N → asks (node_at all n) ≡ true → L ∈ brought (places table n) (tried all table n) → L ∈ tried all table N
  tried_has zero n L l a m = absurd (omega arith)
  tried_has (suc N) n L l a m =
      subst (λ k. L ∈ tried all table k) (add-one N)
      (⊎_elim
      (λ e. subst (λ k. L ∈ tried all table (k + 1)) e (subst (λ S. L ∈ S) (tried_asked n a) m))
      (⊎_elim (λ q. tried_kept N L (tried_has N n L q a m)) (λ q. absurd (omega arith)))
      (cases_order n N))

  -- a row of a node that asks gives nothing to a label that was not tried
  gives_none : (N n j : ℕ) (L : Label ℕ) → n < N → j < length (places table n) → asks (node_at all n) ≡ true → (L ∈ tried all table N → ⊥) → gives L (get_or (places table n) j blank) ≡ 0
  gives_none N n j L l h a none =
      let r = get_or (places table n) j blank in
      ⊎_elim
      (λ e. ap (amount_if (names_label r.label ≟ names_label L)) e ∙ if_zero (names_label r.label ≟ names_label L))
      (λ z. sym (gives_other r L (λ e. none (subst (λ M. M ∈ tried all table N) e (tried_has N n r.label l a (brought_has (places table n) j (tried all table n) h z))))))
      (cases_eq r.amount 0)

-- rows that give nothing, joined
joins_none : (K : Operations) (W : Laws K) (L : Label ℕ) (xs : List Row) → ((j : ℕ) → j < length xs → gives L (get_or xs j blank) ≡ 0) → join_over K xs (gives L) ≡ 0
joins_none K W L [] h = refl
joins_none K W L (x ∷ xs) h = join_zero K W _ _ (h 0 (omega arith)) (joins_none K W L xs (λ j l. h (suc j) (omega arith)))

-- a node whose rows and children have nothing has nothing
step_none : (K : Operations) (W : Laws K) (own : ℕ) (x : Node) → (asks x ≡ true → own ≡ 0) → step_by K own (λ c. 0) x ≡ 0
step_none K W own Stop h = refl
step_none K W own (Send channel xs) h = h refl
step_none K W own (Receive channel xs next) h = lack_zero K W 0 own refl
step_none K W own (Both a b) h = W.neutral 0
step_none K W own (Copy next) h = refl
step_none K W own (New x next) h = refl
step_none K W own (Test x y a b) h = refl
step_none K W own (Begin l next) h = lack_zero K W 0 own refl
step_none K W own (End l next) h = join_zero K W 0 own refl (h refl)

module _ (K : Operations) (W : Laws K) (all : List Node) (table : List Row) where
  own_none : (L : Label ℕ) → (L ∈ tried all table (length all) → ⊥) → (n : ℕ) → n < length all → asks (node_at all n) ≡ true → own_at K table L n ≡ 0
  own_none L none n l a = joins_none K W L (places table n) (λ j h. gives_none all table (length all) n j L l h a none)

  module _ (L : Label ℕ) (A : ℕ → ℕ) (a : Amounts K all table L A) (none : L ∈ tried all table (length all) → ⊥) where
    nothing_from : (k n : ℕ) → length all ≤ k + n → A n ≡ 0
    nothing_from zero n h = amount_past K all table L A a n (omega arith)
    nothing_from (suc k) n h =
        ⊎_elim
        (λ l. a.steps n
        ∙ step_alike K n (length all) (own_at K table L n) A (λ c. 0) (node_at all n) (a.later n l) (λ c m. nothing_from k c (omega arith))
        ∙ step_none K W (own_at K table L n) (node_at all n) (own_none L none n l))
        (λ l. amount_past K all table L A a n l)
        (cases_lt n (length all))

    -- so nothing is at fault there
    good_everywhere : (p : Option ℕ) → fails K all L A p ≡ false
    good_everywhere None = ap (λ v. not (eqb v 0)) (nothing_from (length all) 0 (omega arith))
    good_everywhere (Some n) = ap (bad K (node_at all n) L) (nothing_from (length all) n (omega arith))

  pub all_tried : (A : Label ℕ → ℕ → ℕ) → ((L : Label ℕ) → Amounts K all table L (A L)) → (r : Option Found) → FirstIn K all A (tried all table (length all)) r → FirstOf K all A r
  all_tried A a None h = λ L p. ⊎_elim (λ m. h L m p) (λ n. good_everywhere L (A L) (a L) n p) (in_or_not L (tried all table (length all)))
  all_tried A a (Some f) h =
      (h.0, h.1, λ L p t. ⊎_elim (λ m. h.2 L m p t) (λ n. absurd (both_ways _ (good_everywhere L (A L) (a L) n p) t)) (in_or_not L (tried all table (length all))))
