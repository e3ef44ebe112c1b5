-- Safety: the invariant holds at the start, and a configuration of which it holds is safe.
use Rattle.std.proofs.Common.{◌≡◌, ℕ, ◌≤◌, List, length, sym, refl, ap, ◌∙◌, subst, le_trans, le_refl}
use Rattle.std.specs.List.{AllByRecursion}
use Rattle.std.proofs.ByRecursion.{All-weaker}
use Rattle.calculus.specs.Countings.{Operations, Laws}
use Rattle.calculus.specs.Lists.{◌∈◌, Removal}
use Rattle.calculus.specs.Joins.{join_over, rights}
use Rattle.calculus.specs.Labels.{Label, map_label}
use Rattle.calculus.specs.Types.{Name, Value, NameType, pure, public, channel, Assignment}
use Rattle.calculus.specs.Scopes.{Scope}
use Rattle.calculus.specs.Processes.{Process, send, receive, end}
use Rattle.calculus.specs.Effects.{◌≟◌, empty, full_right, amount}
use Rattle.calculus.specs.Typing.{Takes, Accepted}
use Rattle.calculus.specs.Reduction.{Valuation, Thread, thread, Configuration, Covered, Reachable, at_once, after}
use Rattle.calculus.specs.Safety.{Start, Safe}
use Rattle.calculus.specs.Theorems.{RunsSafe}
use Rattle.calculus.proofs.Lists.{all_member, removal_all}
use Rattle.calculus.proofs.Joins.{if_yes, join_monotone, left_below, right_below, over_removal}
use Rattle.calculus.proofs.Meanings.{ValueType, pure_value, public_value, channel_value, meaning}
use Rattle.calculus.proofs.Effects.{instance, instance_monotone, instance_join, instance_empty, instance_full_right}
use Rattle.calculus.proofs.Typing.{exact, public_environment}
use Rattle.calculus.proofs.Threads.{WellTyped, cost}
use Rattle.calculus.proofs.Preservation.{Invariant, preserved}

abbrev count_of : ValueType → ℕ
count_of pure_value = 0
count_of public_value = 0
count_of (channel_value n c e) = n

-- a channel that is not public takes its count
takes_count : (K : Operations) (t : NameType) (ρ : Valuation) (k : ℕ) → Takes t k → (meaning K t ρ ≡ public_value → ⊥) → count_of (meaning K t ρ) ≡ k
takes_count K pure ρ k q n = absurd q
takes_count K public ρ k q n = absurd (n refl)
takes_count K (channel m components entries) ρ k q n = q

module _ (K : Operations) (W : Laws K) (types : Assignment) where
  -- at the start every value is public, and nothing is needed
  at_start : (free : Scope) (p : Process) (c : Configuration) → Accepted K types free p → Start free p c → Invariant K W types c
  at_start free p c a s =
      let env = public_environment types free a.free_public in
      let g = (exact K W types p free env empty).0 a.derives_empty in
      record {
        Θ = λ v. public_value;
        typed = subst (AllByRecursion (WellTyped K types (λ v. public_value) c.next)) (sym s.alone)
            (record { scope = free; checked = g.0; environment = env; values = λ x t. (s.values x t, ap (λ u. meaning K u s.valuation) (sym (a.free_public x t))) }, tt);
        paid = λ M. subst (λ l. K.join (join_over K l (cost K W types M)) (rights K (c.ends M)) ≤ rights K (c.begins M)) (sym s.alone)
            (subst (λ (n : ℕ). K.join (K.join (instance K W s.valuation (amount K types p) M) 0) (rights K n) ≤ rights K (c.begins M)) (sym (s.no_end M))
            (subst (λ (n : ℕ). K.join (K.join (instance K W s.valuation (amount K types p) M) 0) 0 ≤ n) (sym (ap (rights K) (s.no_begin M)))
            (subst (λ (n : ℕ). n ≤ 0) (sym (W.neutral _ ∙ W.neutral _))
            (le_trans (instance_monotone K W s.valuation (amount K types p) empty M g.1)
            (subst (λ (n : ℕ). n ≤ 0) (sym (instance_empty K W s.valuation M)) (le_refl 0))))));
        known_public = λ v m. (s.known v m, refl);
        made_well = All-weaker _ _ (λ m h. (h.0, λ _. a.free_public m.1 h.1)) c.made s.made;
      }

  reached : (c d : Configuration) → Invariant K W types c → Reachable K c d → Invariant K W types d
  reached c d i at_once = i
  reached c d i (after {d = m} r s) = preserved K W types m d (reached c m i r) s

  module _ (c : Configuration) (i : Invariant K W types c) where
    typed : {t : Thread} {r : List Thread} → Removal t c.threads r → WellTyped K types i.Θ c.next t
    typed k = (removal_all (WellTyped K types i.Θ c.next) k i.typed).0

    covered : (l : Label Name) (p : Process) (ρ : Valuation) (r : List Thread) → Removal (thread (end l p) ρ) c.threads r → Covered K c (map_label ρ l)
    covered l p ρ r k =
        let f = typed k in let M = map_label ρ l in
        let o : instance K W ρ (full_right K l) M ≡ K.full = instance_full_right K W f.scope ρ l M f.checked.0 ∙ if_yes (map_label ρ l ≟ M) K.full refl in
        let h : K.full ≤ join_over K c.threads (cost K W types M) =
        subst (λ (a : ℕ). K.full ≤ a) (sym (over_removal K W (thread (end l p) ρ) c.threads r (cost K W types M) k))
        (le_trans
        (subst (λ (a : ℕ). K.full ≤ a) (sym (instance_join K W ρ (amount K types p) (full_right K l) M))
        (subst (λ (a : ℕ). K.full ≤ K.join (instance K W ρ (amount K types p) M) a) (sym o) (right_below K W _ _)))
        (left_below K W _ _)) in
        le_trans (join_monotone K W h (le_refl _)) (i.paid M)

    equal_counts : (v : Value) (n : Name) → (v, n) ∈ c.made → (types n ≡ public → ⊥) →
        (x w : Name) (ys zs : List Name) (p : Process) (σ ρ : Valuation) (s r : List Thread) →
        Removal (thread (send x ys) σ) c.threads s → Removal (thread (receive w zs p) ρ) c.threads r → σ x ≡ v → ρ w ≡ v → length ys ≡ length zs
    equal_counts v n d np x w ys zs p σ ρ s r k m q e =
        let f = typed k in let g = typed m in
        let not_public : i.Θ v ≡ public_value → ⊥ = λ h. np ((all_member _ c.made i.made_well (v, n) d).1 h) in
        let a : i.Θ v ≡ meaning K (types x) σ = ap i.Θ (sym q) ∙ (f.values x f.checked.0).1 in
        let b : i.Θ v ≡ meaning K (types w) ρ = ap i.Θ (sym e) ∙ (g.values w g.checked.0).1 in
        sym (takes_count K (types x) σ (length ys) f.checked.2.count (λ h. not_public (a ∙ h))) ∙ ap count_of (sym a ∙ b)
        ∙ takes_count K (types w) ρ (length zs) g.checked.2.count (λ h. not_public (b ∙ h))

    safe : Safe K types c
    safe = record {
      ends_begun = λ M. le_trans (right_below K W _ _) (i.paid M);
      next_end_covered = covered;
      secret = λ v x m d. (all_member _ c.made i.made_well (v, x) d).1 (i.known_public v m).1;
      counts_agree = equal_counts;
    }

-- the theorem
pub runs_safe : RunsSafe
runs_safe K W types free p c d a s r =
    let k = safe K W types d (reached K W types c d (at_start K W types free p c a s) r) in
    (k, λ e. e.uncovered (k.next_end_covered e.label e.rest e.valuation e.others e.stands))
