-- One record more: what a scan has seen, and what stands before the next.
use Rattle.std.proofs.Common.{◌≡◌, ℕ, ◌+◌, ◌<◌, true, false, List, [], ◌∷◌, ◌++◌, length, is_some, Some, None, Option, sym, refl, ap, ◌∙◌, subst, ap₂, ⊎_elim, arith}
use Rattle.std.proofs.lemmas.List.{take-append-le, take_at, get_or_append_left, get_or_push, length_push}
use Rattle.std.proofs.lemmas.List.Sums.{fold_push}
use Rattle.std.proofs.lemmas.Bool.{cases_lt, both_ways}
use Rattle.fault.specs.First.{Lowest}
use Rattle.sheet.specs.Order.{class_of, nothing, misplaced, after, census, misplaced_at, Seen}
use Rattle.records.specs.declared.record.Record.{Record}
use Rattle.records.specs.declared.record.Record.TheVariants as raw
use Rattle.sheet.specs.declared.census.Scan.{Scan}

-- an option by its test
pub some_of : {A : Type 0} (o : Option A) → true ≡ is_some o → (x : A) × (o ≡ Some x)
some_of None e = let z : ◌≡◌ {A = ℕ} 0 1 = cc in absurd (omega arith)
some_of (Some x) e = (x, refl)

pub none_of : {A : Type 0} (o : Option A) → false ≡ is_some o → o ≡ None
none_of None e = refl
none_of (Some x) e = let z : ◌≡◌ {A = ℕ} 0 1 = cc in absurd (omega arith)

pub census_push : (rs : List Record) (r : Record) → census (rs ++ r ∷ []) ≡ after (census rs) (class_of r)
census_push rs r = fold_push (λ c x. after c (class_of x)) nothing rs r

-- records before the last one stand as they did
pub misplaced_left : (rs : List Record) (r : Record) (p : ℕ) → p < length rs → misplaced_at (rs ++ r ∷ []) p ≡ misplaced_at rs p
misplaced_left rs r p l =
    ap₂ (λ xs x. misplaced (census xs) (class_of x)) (take-append-le p rs (r ∷ []) (omega arith)) (get_or_append_left rs (r ∷ []) raw.Stop p l)

-- the last one is judged by all before it
pub misplaced_last : (rs : List Record) (r : Record) → misplaced_at (rs ++ r ∷ []) (length rs) ≡ misplaced (census rs) (class_of r)
misplaced_last rs r =
    ap₂ (λ xs x. misplaced (census xs) (class_of x)) (take_at rs (r ∷ []) (length rs) refl) (get_or_push rs r raw.Stop (length rs) refl)

-- a fault that was seen stays the lowest
lowest_stays : (rs : List Record) (r : Record) (p : ℕ) → Lowest (λ q. misplaced_at rs q ≡ true) (length rs) (Some p) → Lowest (λ q. misplaced_at (rs ++ r ∷ []) q ≡ true) (length (rs ++ r ∷ [])) (Some p)
lowest_stays rs r p h = (
  omega (arith, length_push rs r, h.0),
  misplaced_left rs r p h.0 ∙ h.1,
  λ q l e. h.2 q l (sym (misplaced_left rs r q (omega (arith, h.0))) ∙ e),
)

-- the first fault that is seen is the lowest
lowest_found : (rs : List Record) (r : Record) → Lowest (λ q. misplaced_at rs q ≡ true) (length rs) None → misplaced (census rs) (class_of r) ≡ true → Lowest (λ q. misplaced_at (rs ++ r ∷ []) q ≡ true) (length (rs ++ r ∷ [])) (Some (length rs))
lowest_found rs r h e = (
  omega (arith, length_push rs r),
  misplaced_last rs r ∙ e,
  λ q l t. h q l (sym (misplaced_left rs r q l) ∙ t),
)

-- one record more that does not stand wrongly
lowest_none : (rs : List Record) (r : Record) → Lowest (λ q. misplaced_at rs q ≡ true) (length rs) None → misplaced (census rs) (class_of r) ≡ false → Lowest (λ q. misplaced_at (rs ++ r ∷ []) q ≡ true) (length (rs ++ r ∷ [])) None
lowest_none rs r h e q l t =
    ⊎_elim
    (λ m. h q m (sym (misplaced_left rs r q m) ∙ t))
    (λ m.
    let same : q ≡ length rs = omega (arith, length_push rs r) in
    both_ways (misplaced_at (rs ++ r ∷ []) (length rs)) (misplaced_last rs r ∙ e) (ap (misplaced_at (rs ++ r ∷ [])) (sym same) ∙ t))
    (cases_lt q (length rs))

pub seen_stays : (rs : List Record) (r : Record) (s : Scan) (p : ℕ) → Seen rs s → s.wrong ≡ Some p → Seen (rs ++ r ∷ []) (record { place = s.place + 1; wrong = s.wrong; census = s.census })
seen_stays rs r s p h e = record {
  count = ap (λ n. n + 1) h.count ∙ sym (length_push rs r);
  lowest = subst (λ w. Lowest (λ q. misplaced_at (rs ++ r ∷ []) q ≡ true) (length (rs ++ r ∷ [])) w) (sym e) (lowest_stays rs r p (subst (λ w. Lowest (λ q. misplaced_at rs q ≡ true) (length rs) w) e h.lowest));
  before = λ n. let z : ◌≡◌ {A = ℕ} 0 1 = cc in absurd (omega arith);
}

pub seen_found : (rs : List Record) (r : Record) (s : Scan) → Seen rs s → s.wrong ≡ None → misplaced s.census (class_of r) ≡ true → Seen (rs ++ r ∷ []) (record { place = s.place + 1; wrong = Some s.place; census = s.census })
seen_found rs r s h e m = record {
  count = ap (λ n. n + 1) h.count ∙ sym (length_push rs r);
  lowest = subst (λ w. Lowest (λ q. misplaced_at (rs ++ r ∷ []) q ≡ true) (length (rs ++ r ∷ [])) (Some w)) (sym h.count)
      (lowest_found rs r (subst (λ w. Lowest (λ q. misplaced_at rs q ≡ true) (length rs) w) e h.lowest) (ap (λ c. misplaced c (class_of r)) (sym (h.before e)) ∙ m));
  before = λ n. let z : ◌≡◌ {A = ℕ} 0 1 = cc in absurd (omega arith);
}

pub seen_more : (rs : List Record) (r : Record) (s : Scan) → Seen rs s → s.wrong ≡ None → misplaced s.census (class_of r) ≡ false → Seen (rs ++ r ∷ []) (record { place = s.place + 1; wrong = None; census = after s.census (class_of r) })
seen_more rs r s h e m = record {
  count = ap (λ n. n + 1) h.count ∙ sym (length_push rs r);
  lowest = lowest_none rs r (subst (λ w. Lowest (λ q. misplaced_at rs q ≡ true) (length rs) w) e h.lowest) (ap (λ c. misplaced c (class_of r)) (sym (h.before e)) ∙ m);
  before = λ n. ap (λ c. after c (class_of r)) (h.before e) ∙ sym (census_push rs r);
}

pub seen_none : Seen [] (record { place = 0; wrong = None; census = nothing })
seen_none = record { count = refl; lowest = λ q l t. absurd (omega arith); before = λ e. refl }
