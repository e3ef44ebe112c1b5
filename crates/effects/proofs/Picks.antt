-- The first fault among labels: one label more.
use Rattle.std.proofs.Common.{◌≡◌, ℕ, suc, ◌<◌, ◌≤◌, Bool, true, false, cond, not, ◌||◌, eqb, List, ◌∷◌, length, Some, None, Option, sym, refl, ap, ◌∙◌, subst, inl, inr, ⊎_elim, arith}
use mathlib.Core.Path.{fun_ext}
use Rattle.std.proofs.lemmas.List.{get_or_past}
use Rattle.std.proofs.lemmas.Bool.{cases_Bool, cases_lt, cases_order, ne_eqb, eq-eqb, not-true, not_from_false, and_parts, and_cases, and_right, or_cases, or_parts, eqb-true, eqb-false, ltb-true, ltb-false, both_ways}
use Rattle.calculus.specs.Countings.{Operations}
use Rattle.fault.specs.declared.label.Label.{Label}
use Rattle.tables.specs.declared.tables.Node.{Node}
use Rattle.tables.specs.declared.tables.Node.TheVariants.{Stop}
use Rattle.fault.specs.Items.{list}
use Rattle.sheet.specs.Scope.{binds}
use Rattle.sheet.specs.Tree.{node_at}
use Rattle.effects.specs.Found.{meets, label_before, uncopyable, bad, fails, node_of, rank, sooner, pick, LastBad, Highest, Later, FirstIn}
use Rattle.effects.specs.declared.found.Found.{Found}
use Rattle.effects.proofs.Orders.{label_transitive, label_irreflexive}

-- past the last node nothing is at fault
pub good_past : (K : Operations) (all : List Node) (L : Label ℕ) (n a : ℕ) → length all ≤ n → bad K (node_at all n) L a ≡ false
good_past K all L n a l = ap (λ x. bad K x L a) (get_or_past all n Stop l) ∙ and_right (not (eqb a 0)) false refl

-- of the last node at fault, or the root where none is, the amount decides: with one, that place is told first
module _ (K : Operations) (all : List Node) (L : Label ℕ) (A : ℕ → ℕ) where
  last_good : (n : ℕ) → ((m : ℕ) → n ≤ m → m < length all → bad K (node_at all m) L (A m) ≡ false) → (m : ℕ) → n ≤ m → bad K (node_at all m) L (A m) ≡ false
  last_good n h m l = ⊎_elim (λ q. h m l q) (λ q. good_past K all L m (A m) q) (cases_lt m (length all))

  pub highest_some : (o : Option ℕ) (a : ℕ) → LastBad (λ n. bad K (node_at all n) L (A n)) (length all) o → a ≡ A (node_of o) → (a ≡ 0 → ⊥) →
      Highest K all L A (Some (record { place = o; label = L; amount = a }))
  highest_some None a h e n = (
    not_from_false (eqb (A 0) 0) (ne_eqb (A 0) 0 (λ z. n (e ∙ z))),
    refl,
    e,
    elim [ None ↦ λ l. absurd (omega arith) | Some m ↦ λ l. last_good 0 (λ k p q. h k q) m (omega arith) ],
  )
  highest_some (Some k) a h e n = (
    h.1,
    refl,
    e,
    elim [ None ↦ λ l. absurd (omega arith) | Some m ↦ λ l. last_good (suc k) (λ i p q. h.2 i (omega arith) q) m (omega arith) ],
  )

  pub highest_none : (o : Option ℕ) (a : ℕ) → LastBad (λ n. bad K (node_at all n) L (A n)) (length all) o → a ≡ A (node_of o) → a ≡ 0 → Highest K all L A None
  highest_none None a h e z = elim [ None ↦ ap not (eq-eqb (A 0) 0 (sym e ∙ z)) | Some m ↦ last_good 0 (λ k p q. h k q) m (omega arith) ]
  highest_none (Some k) a h e z =
      let some = (and_parts (not (eqb (A k) 0)) (meets (binds (node_at all k)) (list L.items) || uncopyable K (A k) (node_at all k)) h.1).0 in
      absurd (both_ways (eqb (A k) 0) (not-true (eqb (A k) 0) some) (eq-eqb (A k) 0 (sym e ∙ z)))

-- what is not told before the old best is not told before a sooner one
later_sooner : (b w : Found) (p : Option ℕ) (M : Label ℕ) → sooner w b ≡ true → Later b p M → Later w p M
later_sooner b w p M s h =
    ⊎_elim
    (λ higher. let l = ltb-true (rank b.place) (rank w.place) higher in
    ⊎_elim (λ q. inl (omega arith)) (λ q. let e = q.0 in inl (omega arith)) h)
    (λ same. let t = and_parts _ _ same in
    let e = eqb-true (rank b.place) (rank w.place) t.0 in
    ⊎_elim (λ q. inl (omega arith))
    (λ q. inr (
      q.0 ∙ e,
      ⊎_elim
          (λ y. absurd (both_ways (label_before M b.label) q.1 (label_transitive M w.label b.label y t.1)))
          (λ n. n)
          (cases_Bool (label_before M w.label)),
    ))
    h)
    (or_cases _ _ s)

-- at its own label the highest is told first
later_own : (w : Found) (p : Option ℕ) (M : Label ℕ) → M ≡ w.label → rank p ≤ rank w.place → Later w p M
later_own w p M e l =
    ⊎_elim
    (λ q. inr (q, ap (λ X. label_before X w.label) e ∙ label_irreflexive w.label))
    (⊎_elim (λ q. inl q) (λ q. absurd (omega arith)))
    (cases_order (rank p) (rank w.place))

-- where the new one is not sooner, the old best stays
later_kept : (b w : Found) (p : Option ℕ) (M : Label ℕ) → sooner w b ≡ false → M ≡ w.label → rank p ≤ rank w.place → Later b p M
later_kept b w p M s e l =
    let t = or_parts _ _ s in
    let le = ltb-false (rank b.place) (rank w.place) t.0 in
    ⊎_elim
    (λ q. inr (q, ap (λ X. label_before X b.label) e ∙ ⊎_elim (λ r. absurd (eqb-false (rank b.place) (rank w.place) r (omega arith))) (λ r. r) (and_cases _ _ t.1)))
    (⊎_elim (λ q. inl q) (λ q. absurd (omega arith)))
    (cases_order (rank p) (rank b.place))

module _ (K : Operations) (all : List Node) (A : Label ℕ → ℕ → ℕ) (L : Label ℕ) (S : List (Label ℕ)) where
  -- a fault at the label of the highest is not above it
  own_label : (w : Found) → Highest K all L (A L) (Some w) → (M : Label ℕ) → M ≡ L → (p : Option ℕ) → fails K all M (A M) p ≡ true → (M ≡ w.label) × (rank p ≤ rank w.place)
  own_label w h M e p t = (
    e ∙ sym h.1,
    ⊎_elim (λ q. omega arith)
        (⊎_elim (λ q. omega arith) (λ q. absurd (both_ways _ (h.3 p q) (ap (λ X. fails K all X (A X) p) (sym e) ∙ t))))
        (cases_order (rank p) (rank w.place)),
  )

  -- the highest is at fault, by its own label
  itself : (w : Found) → Highest K all L (A L) (Some w) → (fails K all w.label (A w.label) w.place ≡ true) × (w.amount ≡ A w.label (node_of w.place))
  itself w h = (ap (λ X. fails K all X (A X) w.place) h.1 ∙ h.0, h.2 ∙ ap (λ X. A X (node_of w.place)) (sym h.1))

  pub first_pick : (best : Option Found) (w : Found) → FirstIn K all A S best → Highest K all L (A L) (Some w) → FirstIn K all A (L ∷ S) (pick best w)
  first_pick None w b h =
      let f = itself w h in
      (f.0, f.1, λ M s p t. ⊎_elim (λ e. let o = own_label w h M e p t in later_own w p M o.0 o.1) (λ m. absurd (both_ways _ (b M m p) t)) s)
  first_pick (Some f) w b h = go (sooner w f) refl
    where
      go : (t : Bool) → sooner w f ≡ t → FirstIn K all A (L ∷ S) (cond t (Some w) (Some f))
      go true e =
          let i = itself w h in
          (i.0, i.1, λ M s p t. ⊎_elim (λ q. let o = own_label w h M q p t in later_own w p M o.0 o.1) (λ m. later_sooner f w p M e (b.2 M m p t)) s)
      go false e = (b.0, b.1, λ M s p t. ⊎_elim (λ q. let o = own_label w h M q p t in later_kept f w p M e o.0 o.1) (λ m. b.2 M m p t) s)

  pub first_keep : (best : Option Found) → FirstIn K all A S best → Highest K all L (A L) None → FirstIn K all A (L ∷ S) best
  first_keep None b h = λ M s p. ⊎_elim (λ e. ap (λ X. fails K all X (A X) p) e ∙ h p) (λ m. b M m p) s
  first_keep (Some f) b h =
      (b.0, b.1, λ M s p t. ⊎_elim (λ e. absurd (both_ways _ (ap (λ X. fails K all X (A X) p) e ∙ h p) t)) (λ m. b.2 M m p t) s)

-- the highest, by other names of the amounts
pub highest_same : (K : Operations) (all : List Node) (L : Label ℕ) (f g : ℕ → ℕ) (r : Option Found) → ((n : ℕ) → f n ≡ g n) → Highest K all L f r → Highest K all L g r
highest_same K all L f g r e h = subst (λ (v : ℕ → ℕ). Highest K all L v r) (fun_ext e) h
