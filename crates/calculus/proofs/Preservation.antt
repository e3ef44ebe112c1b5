-- Preservation: what holds of the configurations of a run of an accepted process, and that every reduction keeps it.
use Rattle.std.proofs.Common.{◌≡◌, ℕ, suc, ◌<◌, ◌≤◌, true, List, [], ◌∷◌, map, length, get_or, sym, ap, ◌∙◌, subst, inl, inr, le_trans, le_refl, arith}
use mathlib.Core.Path.{fun_ext}
use native.Mathlib.Nat.{le-max_left, le-max_right}
use lib.ListN.{length-map}
use Rattle.std.specs.List.{AllByRecursion}
use Rattle.std.proofs.ByRecursion.{All-weaker, All-get_or}
use Rattle.calculus.specs.Countings.{Operations, Laws}
use Rattle.calculus.specs.Lists.{extend, Removal}
use Rattle.calculus.specs.Joins.{amount_if, join_over, rights}
use Rattle.calculus.specs.Labels.{Label, map_label}
use Rattle.calculus.specs.Types.{Name, Value, public, Assignment}
use Rattle.calculus.specs.Processes.{Process, send, receive, both, copy, new, test, begin, end}
use Rattle.calculus.specs.Effects.{◌≟◌, full_right, amount}
use Rattle.calculus.specs.Reduction.{Valuation, bind, Thread, thread, note, Configuration, Reduction, step_stop, step_both, step_copy, step_new, step_equal, step_different, step_begin, step_end, meet, hear, feed, invent}
use Rattle.calculus.proofs.Lists.{place_of, only_member, removal_all, insertion_all}
use Rattle.calculus.proofs.Joins.{neutral_left, join_monotone, join_cross, over_removal, rights_more}
use Rattle.calculus.proofs.Scopes.{extend_cases}
use Rattle.calculus.proofs.Meanings.{ValueType, public_value, component, carries, meaning}
use Rattle.calculus.proofs.Effects.{instance, instance_monotone, instance_join, instance_full_right}
use Rattle.calculus.proofs.Threads.{with_type, with_type_old, with_type_new, HasType, has_type_later, public_meaning, WellTyped, cost, typed_next, typed_later, send_cost, send_values, receive_cost, receive_typed, new_cost, new_typed}

-- values were made for names, and one with a public type only for a public name
abbrev pub MadeWell : Assignment → (Value → ValueType) → Value → List (Value × Name) → Type 0
MadeWell types Θ n made = AllByRecursion (λ m. (m.0 < n) × (Θ m.0 ≡ public_value → types m.1 ≡ public)) made

module _ (K : Operations) (W : Laws K) (types : Assignment) where
  -- what holds of every configuration that is reached
  pub record Invariant (c : Configuration) : Type 0 where
    -- the types of the values
    pub Θ : Value → ValueType
    pub typed : AllByRecursion (WellTyped K types Θ c.next) c.threads
    -- what the threads need still and what was ended is at most what was begun
    pub paid : (M : Label Value) → K.join (join_over K c.threads (cost K W types M)) (rights K (c.ends M)) ≤ rights K (c.begins M)
    pub known_public : (v : Value) → c.known v ≡ true → HasType Θ c.next v public_value
    pub made_well : MadeWell types Θ c.next c.made

  made_later : (Θ : Value → ValueType) (n : Value) (u : ValueType) (made : List (Value × Name)) → MadeWell types Θ n made → MadeWell types (with_type Θ n u) (suc n) made
  made_later Θ n u made a = All-weaker _ _ (λ m h. ((let k = h.0 in omega arith), λ q. h.1 (sym (with_type_old Θ n u m.0 h.0) ∙ q))) made a

  module _ (c : Configuration) (i : Invariant c) where
    -- one thread gives way to threads that need no more
    less : (t : Thread) (r : List Thread) → Removal t c.threads r → (M : Label Value) (a : ℕ) → a ≤ cost K W types M t →
        K.join (K.join a (join_over K r (cost K W types M))) (rights K (c.ends M)) ≤ rights K (c.begins M)
    less t r k M a h =
        le_trans (join_monotone K W (join_monotone K W h (le_refl (join_over K r (cost K W types M)))) (le_refl (rights K (c.ends M))))
        (subst (λ (x : ℕ). K.join x (rights K (c.ends M)) ≤ rights K (c.begins M)) (over_removal K W t c.threads r (cost K W types M) k) (i.paid M))

    -- a thread goes
    gone : (t : Thread) (r : List Thread) → Removal t c.threads r → (M : Label Value) →
        K.join (join_over K r (cost K W types M)) (rights K (c.ends M)) ≤ rights K (c.begins M)
    gone t r k M =
        subst (λ (x : ℕ). K.join x (rights K (c.ends M)) ≤ rights K (c.begins M)) (neutral_left K W (join_over K r (cost K W types M))) (less t r k M 0 (omega arith))

    -- the new bag is the rest and one thread
    back : (u : Thread) (t r : List Thread) → Removal u t r → (M : Label Value) (g b : ℕ) →
        K.join (K.join (cost K W types M u) (join_over K r (cost K W types M))) g ≤ b → K.join (join_over K t (cost K W types M)) g ≤ b
    back u t r k M g b h = subst (λ (x : ℕ). K.join x g ≤ b) (sym (over_removal K W u t r (cost K W types M) k)) h

    -- one thread gives way to two that together need as much
    two : (t u v : Thread) (r s w : List Thread) → Removal t c.threads r → Removal u s r → Removal v w s → (M : Label Value) →
        K.join (cost K W types M v) (cost K W types M u) ≡ cost K W types M t →
        K.join (join_over K w (cost K W types M)) (rights K (c.ends M)) ≤ rights K (c.begins M)
    two t u v r s w k m n M e =
        subst (λ (x : ℕ). K.join x (rights K (c.ends M)) ≤ rights K (c.begins M))
        (sym (over_removal K W v w s (cost K W types M) n ∙ ap (K.join (cost K W types M v)) (over_removal K W u s r (cost K W types M) m)
        ∙ sym (W.associative (cost K W types M v) (cost K W types M u) (join_over K r (cost K W types M)))))
        (less t r k M _ (subst (λ (x : ℕ). x ≤ cost K W types M t) (sym e) (le_refl _)))

    taken : {t : Thread} {r : List Thread} → Removal t c.threads r → WellTyped K types i.Θ c.next t × AllByRecursion (WellTyped K types i.Θ c.next) r
    taken k = removal_all (WellTyped K types i.Θ c.next) k i.typed

    begin_paid : {l : Label Name} {p : Process} {ρ : Valuation} {r : List Thread} → Removal (thread (begin l p) ρ) c.threads r → (M : Label Value) →
        K.join (K.join (cost K W types M (thread p ρ)) (join_over K r (cost K W types M))) (rights K (c.ends M)) ≤ rights K (note (map_label ρ l) c.begins M)
    begin_paid {l} {p} {ρ} {r} k M =
        let f = (taken k).0 in let o = amount_if (map_label ρ l ≟ M) K.full in
        let h : cost K W types M (thread p ρ) ≤ K.join o (cost K W types M (thread (begin l p) ρ)) =
        subst (λ (a : ℕ). cost K W types M (thread p ρ) ≤ K.join a (cost K W types M (thread (begin l p) ρ))) (instance_full_right K W f.scope ρ l M f.checked.0)
        (subst (λ (a : ℕ). cost K W types M (thread p ρ) ≤ a) (instance_join K W ρ (full_right K l) (amount K types (begin l p)) M)
        (instance_monotone K W ρ (amount K types p) _ M (λ L. W.lack_covers _ _ _ (le_refl _)))) in
        subst (λ (b : ℕ). K.join (K.join (cost K W types M (thread p ρ)) (join_over K r (cost K W types M))) (rights K (c.ends M)) ≤ b)
        (sym (rights_more K W (map_label ρ l ≟ M) (c.begins M)))
        (le_trans (join_monotone K W (join_monotone K W h (le_refl _)) (le_refl _))
        (subst (λ (a : ℕ). a ≤ K.join o (rights K (c.begins M)))
        (sym (ap (λ a. K.join a (rights K (c.ends M))) (W.associative o _ _) ∙ W.associative o _ _))
        (join_monotone K W (le_refl o) (less (thread (begin l p) ρ) r k M _ (le_refl _)))))

    end_paid : {l : Label Name} {p : Process} {ρ : Valuation} {r : List Thread} → Removal (thread (end l p) ρ) c.threads r → (M : Label Value) →
        K.join (K.join (cost K W types M (thread p ρ)) (join_over K r (cost K W types M))) (rights K (note (map_label ρ l) c.ends M)) ≤ rights K (c.begins M)
    end_paid {l} {p} {ρ} {r} k M =
        let f = (taken k).0 in let o = amount_if (map_label ρ l ≟ M) K.full in
        let a = cost K W types M (thread p ρ) in let b = join_over K r (cost K W types M) in let g = rights K (c.ends M) in
        let q : K.join a o ≡ cost K W types M (thread (end l p) ρ) =
        ap (K.join a) (sym (instance_full_right K W f.scope ρ l M f.checked.0)) ∙ sym (instance_join K W ρ (amount K types p) (full_right K l) M) in
        subst (λ (x : ℕ). x ≤ rights K (c.begins M))
        (ap (λ x. K.join (K.join x b) g) (sym q) ∙ W.associative (K.join a o) b g ∙ join_cross K W a o b g
        ∙ ap (K.join (K.join a b)) (sym (rights_more K W (map_label ρ l ≟ M) (c.ends M))))
        (less (thread (end l p) ρ) r k M _ (le_refl _))

    -- a sender and a receiver on one value pay together for what the receiver does next
    meet_paid : {x w : Name} {ys zs : List Name} {p : Process} {σ ρ : Valuation} {r s : List Thread} →
        Removal (thread (send x ys) σ) c.threads s → Removal (thread (receive w zs p) ρ) s r → σ x ≡ ρ w → length (map σ ys) ≡ length zs → (M : Label Value) →
        K.join (K.join (cost K W types M (thread p (bind zs (map σ ys) ρ))) (join_over K r (cost K W types M))) (rights K (c.ends M)) ≤ rights K (c.begins M)
    meet_paid {x} {w} {ys} {zs} {p} {σ} {ρ} {r} {s} k m q n M =
        let f = taken k in let g = removal_all (WellTyped K types i.Θ c.next) m f.1 in
        let h : cost K W types M (thread p (bind zs (map σ ys) ρ)) ≤ K.join (cost K W types M (thread (send x ys) σ)) (cost K W types M (thread (receive w zs p) ρ)) =
        subst (λ (a : ℕ). cost K W types M (thread p (bind zs (map σ ys) ρ)) ≤ K.join a (cost K W types M (thread (receive w zs p) ρ)))
        (ap (λ v. carries (i.Θ v) (map σ ys) M) (sym q) ∙ sym (send_cost K W types i.Θ c.next x ys σ f.0 M))
        (receive_cost K W types i.Θ c.next w zs (map σ ys) p ρ g.0 n M) in
        le_trans (join_monotone K W (join_monotone K W h (le_refl _)) (le_refl _))
        (subst (λ (a : ℕ). K.join a (rights K (c.ends M)) ≤ rights K (c.begins M))
        (over_removal K W (thread (send x ys) σ) c.threads s (cost K W types M) k
        ∙ ap (K.join (cost K W types M (thread (send x ys) σ))) (over_removal K W (thread (receive w zs p) ρ) s r (cost K W types M) m) ∙ sym (W.associative _ _ _))
        (i.paid M))

    -- what is heard on a public channel is public
    heard_public : {x : Name} {ys : List Name} {σ : Valuation} {r : List Thread} → Removal (thread (send x ys) σ) c.threads r → c.known (σ x) ≡ true →
        (v : Value) → extend (map σ ys) c.known v ≡ true → HasType i.Θ c.next v public_value
    heard_public {x} {ys} {σ} k m v h = elim (extend_cases (map σ ys) c.known v h) [
      | inl a ↦ let j = place_of 0 v (map σ ys) a in
          let s = send_values K W types i.Θ c.next x ys σ (taken k).0 j.0 (subst (λ (b : ℕ). j.0 < b) (length-map ys σ) j.1) in
          subst (λ u. HasType i.Θ c.next u public_value) j.2 (s.0, s.1 ∙ ap (λ t. component t j.0 (map σ ys)) (i.known_public (σ x) m).1)
      | inr b ↦ i.known_public v b
    ]

    invented_public : (v : Value) → extend (c.next ∷ []) c.known v ≡ true → HasType (with_type i.Θ c.next public_value) (suc c.next) v public_value
    invented_public v h = elim (extend_cases (c.next ∷ []) c.known v h) [
      | inl m ↦ subst (λ u. HasType (with_type i.Θ c.next public_value) (suc c.next) u public_value) (sym (only_member v c.next m))
          (omega arith, with_type_new i.Θ c.next public_value)
      | inr k ↦ has_type_later i.Θ c.next public_value v public_value (i.known_public v k)
    ]

  -- each reduction keeps the invariant
  pub preserved : (c d : Configuration) → Invariant c → Reduction K c d → Invariant d
  preserved c d i (step_stop {r = r} k) =
      record { Θ = i.Θ; typed = (taken c i k).1; paid = gone c i _ r k; known_public = i.known_public; made_well = i.made_well }
  preserved c d i (step_both {p = p} {q = q} {ρ = ρ} {r = r} {s = s} {t = t} k m n) =
      let f = taken c i k in
      record {
        Θ = i.Θ;
        typed = insertion_all _ n (typed_next K W types q f.0 f.0.checked.1) (insertion_all _ m (typed_next K W types p f.0 f.0.checked.0) f.1);
        paid = λ M. two c i (thread (both p q) ρ) (thread p ρ) (thread q ρ) r s t k m n M (W.commutative _ _ ∙ sym (instance_join K W ρ (amount K types p) (amount K types q) M));
        known_public = i.known_public;
        made_well = i.made_well;
      }
  preserved c d i (step_copy {p = p} {ρ = ρ} {r = r} {t = t} k m) =
      let f = taken c i k in
      record {
        Θ = i.Θ;
        typed = insertion_all _ m (typed_next K W types p f.0 f.0.checked.0) i.typed;
        paid = λ M. two c i (thread (copy p) ρ) (thread (copy p) ρ) (thread p ρ) r c.threads t k k m M
            (sym (instance_join K W ρ (amount K types p) (amount K types p) M) ∙ ap (λ e. instance K W ρ e M) (fun_ext f.0.checked.1));
        known_public = i.known_public;
        made_well = i.made_well;
      }
  preserved c d i (step_new {x = x} {p = p} {ρ = ρ} {r = r} {t = s} k m) =
      let f = taken c i k in let t = meaning K (types x) (bind (x ∷ []) (c.next ∷ []) ρ) in
      record {
        Θ = with_type i.Θ c.next t;
        typed = insertion_all _ m (new_typed K W types i.Θ c.next x p ρ f.0) (All-weaker _ _ (typed_later K W types i.Θ c.next t) r f.1);
        paid = λ M. back c i _ s r m M _ _ (less c i (thread (new x p) ρ) r k M _
            (subst (λ (a : ℕ). a ≤ cost K W types M (thread (new x p) ρ)) (sym (new_cost K W types i.Θ c.next x p ρ f.0 M)) (le_refl _)));
        known_public = λ v h. has_type_later i.Θ c.next t v public_value (i.known_public v h);
        made_well = ((omega arith, λ q. public_meaning K (types x) _ (sym (with_type_new i.Θ c.next t) ∙ q)), made_later i.Θ c.next t c.made i.made_well);
      }
  preserved c d i (step_equal {x = x} {y = y} {p = p} {q = q} {ρ = ρ} {r = r} {t = t} k _ m) =
      let f = taken c i k in
      record {
        Θ = i.Θ;
        typed = insertion_all _ m (typed_next K W types p f.0 f.0.checked.2) f.1;
        paid = λ M. back c i _ t r m M _ _ (less c i (thread (test x y p q) ρ) r k M _ (instance_monotone K W ρ (amount K types p) _ M (λ L. le-max_left _ _)));
        known_public = i.known_public;
        made_well = i.made_well;
      }
  preserved c d i (step_different {x = x} {y = y} {p = p} {q = q} {ρ = ρ} {r = r} {t = t} k _ m) =
      let f = taken c i k in
      record {
        Θ = i.Θ;
        typed = insertion_all _ m (typed_next K W types q f.0 f.0.checked.3) f.1;
        paid = λ M. back c i _ t r m M _ _ (less c i (thread (test x y p q) ρ) r k M _ (instance_monotone K W ρ (amount K types q) _ M (λ L. le-max_right _ _)));
        known_public = i.known_public;
        made_well = i.made_well;
      }
  preserved c d i (step_begin {p = p} {r = r} {t = t} k m) =
      let f = taken c i k in
      record {
        Θ = i.Θ;
        typed = insertion_all _ m (typed_next K W types p f.0 f.0.checked.1) f.1;
        paid = λ M. back c i _ t r m M _ _ (begin_paid c i k M);
        known_public = i.known_public;
        made_well = i.made_well;
      }
  preserved c d i (step_end {p = p} {r = r} {t = t} k _ m) =
      let f = taken c i k in
      record {
        Θ = i.Θ;
        typed = insertion_all _ m (typed_next K W types p f.0 f.0.checked.1) f.1;
        paid = λ M. back c i _ t r m M _ _ (end_paid c i k M);
        known_public = i.known_public;
        made_well = i.made_well;
      }
  preserved c d i (meet {x = x} {w = w} {ys = ys} {zs = zs} {p = p} {σ = σ} {ρ = ρ} {r = r} {t = t} k m q n o) =
      let f = taken c i k in let g = removal_all (WellTyped K types i.Θ c.next) m f.1 in
      let n' : length (map σ ys) ≡ length zs = length-map ys σ ∙ n in
      record {
        Θ = i.Θ;
        typed = insertion_all _ o (receive_typed K W types i.Θ c.next w zs (map σ ys) p ρ g.0 n'
            (λ j h. subst (λ v. HasType i.Θ c.next (get_or (map σ ys) j 0) (component (i.Θ v) j (map σ ys))) q
            (send_values K W types i.Θ c.next x ys σ f.0 j (subst (λ (b : ℕ). j < b) (length-map ys σ) h)))) g.1;
        paid = λ M. back c i _ t r o M _ _ (meet_paid c i k m q n' M);
        known_public = i.known_public;
        made_well = i.made_well;
      }
  preserved c d i (hear {r = r} k m) =
      record { Θ = i.Θ; typed = (taken c i k).1; paid = gone c i _ r k; known_public = heard_public c i k m; made_well = i.made_well }
  preserved c d i (feed {w = w} {zs = zs} vs {p = p} {ρ = ρ} {r = r} {t = t} k m n a o) =
      let f = taken c i k in let w-public = (i.known_public (ρ w) m).1 in
      record {
        Θ = i.Θ;
        typed = insertion_all _ o (receive_typed K W types i.Θ c.next w zs vs p ρ f.0 n
            (λ j h. let v = i.known_public (get_or vs j 0) (All-get_or (λ v. c.known v ≡ true) vs j 0 h a) in (v.0, v.1 ∙ ap (λ t. component t j vs) (sym w-public)))) f.1;
        paid = λ M. back c i _ t r o M _ _ (less c i (thread (receive w zs p) ρ) r k M _
            (subst (λ (b : ℕ). cost K W types M (thread p (bind zs vs ρ)) ≤ b)
            (ap (λ t. K.join (carries t vs M) (cost K W types M (thread (receive w zs p) ρ))) w-public ∙ neutral_left K W _)
            (receive_cost K W types i.Θ c.next w zs vs p ρ f.0 n M)));
        known_public = i.known_public;
        made_well = i.made_well;
      }
  preserved c d i invent =
      record {
        Θ = with_type i.Θ c.next public_value;
        typed = All-weaker _ _ (typed_later K W types i.Θ c.next public_value) c.threads i.typed;
        paid = i.paid;
        known_public = invented_public c i;
        made_well = made_later i.Θ c.next public_value c.made i.made_well;
      }
