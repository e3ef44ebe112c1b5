-- The rules and the checks agree: a process has an effect exactly when it passes the checks and the effect is at least its amount.
use Rattle.std.proofs.Common.{◌≡◌, ℕ, zero, suc, ◌<◌, ◌≤◌, true, [], ◌∷◌, sym, refl, ◌∙◌, subst, ap₂, inl, inr, le_trans, le_refl, arith}
use Rattle.std.proofs.lemmas.Bool.{cases_Bool}
use Rattle.calculus.specs.Countings.{Operations, Laws}
use Rattle.calculus.specs.Lists.{extend}
use Rattle.calculus.specs.Types.{Name, public, Assignment}
use Rattle.calculus.specs.Scopes.{Scope, in_scope, label_in_scope, WellFormed, WellFormedEnvironment}
use Rattle.calculus.specs.Processes.{Process, stop, send, receive, both, copy, new, test, begin, end, size}
use Rattle.calculus.specs.Effects.{Effect, empty, ◌⊑◌, Within, join_effects, full_right, amount}
use Rattle.calculus.specs.Typing.{Rule, subsumption, stop_rule, send_rule, receive_rule, both_rule, copy_rule, new_rule, test_rule, begin_rule, end_rule, DerivesWithin, Derives}
use Rattle.calculus.specs.Checks.{Checks}
use Rattle.calculus.specs.Theorems.{Agreement, TypingAgrees, AcceptanceAgrees}
use Rattle.calculus.proofs.Joins.{join_monotone, left_below, join_zero}
use Rattle.calculus.proofs.Scopes.{fresh_name, names_new_one, names_absent, environment_new, environment_receive}
use Rattle.calculus.proofs.Effects.{latent_within, full_right_within, amount_within}

size_positive : (p : Process) → 1 ≤ size p
size_positive stop = omega arith
size_positive (send x ys) = omega arith
size_positive (receive x zs p) = omega arith
size_positive (both p q) = omega arith
size_positive (copy p) = omega arith
size_positive (new x p) = omega arith
size_positive (test x y p q) = omega arith
size_positive (begin l p) = omega arith
size_positive (end l p) = omega arith

-- a judgement on the parts of a process
abbrev Judgement : Type 1
Judgement = Scope → Process → Effect → Type 0

module _ (K : Operations) (W : Laws K) (types : Assignment) where
  -- p passes the checks, and e is within the scope and at least the amount of p
  abbrev pub Suffices : Scope → Process → Effect → Type 0
  Suffices Γ p e = Checks K types Γ p × (amount K types p ⊑ e) × Within Γ e

  -- the judgement gives p just the effects that suffice
  abbrev Exact : Judgement → Process → Type 0
  Exact Part p = (Γ : Scope) → WellFormedEnvironment types Γ → (e : Effect) → (Part Γ p e → Suffices Γ p e) × (Suffices Γ p e → Part Γ p e)

  -- a process' own amount suffices
  own : (p : Process) (Γ : Scope) → WellFormedEnvironment types Γ → Checks K types Γ p → Suffices Γ p (amount K types p)
  own p Γ c k = (k, λ L. le_refl _, amount_within K W types p Γ c k)

  module _ (Part : Judgement) where
    -- what the rules give suffices, if the judgement on smaller processes is exact
    rule_sound : {Γ : Scope} {p : Process} {e : Effect} → ((q : Process) → size q < size p → Exact Part q) → WellFormedEnvironment types Γ →
        Rule K types Part Γ p e → Suffices Γ p e
    rule_sound x c (subsumption h l w) = let a = rule_sound x c h in (a.0, λ L. le_trans (a.1 L) (l L), w)
    rule_sound x c stop_rule = (tt, λ L. le_refl 0, λ L n. refl)
    rule_sound x c (send_rule {Γ = Γ} {x = y} {ys = ys} s a u) =
        ((s, a, u), λ L. le_refl _, latent_within K W Γ (types y) ys (c y s) u.count a)
    rule_sound x c (receive_rule {Γ = Γ} {x = y} {zs = zs} {p = p} {e = e} {f = f} s fr u wf h l w) =
        let a = (x p (omega arith) (extend zs Γ) (environment_receive types zs Γ c wf) f).0 h in
        let less : amount K types (receive y zs p) ⊑ e = λ L. W.lack_least _ _ (e L) (le_trans (a.1 L) (l L)) in
        ((s, fr, u, wf, λ L z m k. let b = less L in let d = w L (names_absent Γ z L (fresh_name zs Γ fr z m).1 k) in omega arith, a.0), less, w)
    rule_sound x c (both_rule {Γ = Γ} {p = p} {q = q} {e = e} {f = f} h k) =
        let a = (x p (omega arith) Γ c e).0 h in let b = (x q (omega arith) Γ c f).0 k in
        ((a.0, b.0), λ L. join_monotone K W (a.1 L) (b.1 L), λ L n. join_zero K W _ _ (a.2 L n) (b.2 L n))
    rule_sound x c (copy_rule {Γ = Γ} {p = p} {e = e} h least i) =
        let a = (x p (omega arith) Γ c e).0 h in
        let down = least (amount K types p) ((x p (omega arith) Γ c (amount K types p)).1 (own p Γ c a.0)) in
        ((a.0, λ L. let u = a.1 L in let d = down L in let q : amount K types p L ≡ e L = omega arith in ap₂ K.join q q ∙ i L ∙ sym q), a.1, a.2)
    rule_sound x c (new_rule {Γ = Γ} {x = y} {p = p} {e = e} fr wf h n) =
        let a = (x p (omega arith) (extend (y ∷ []) Γ) (environment_new types y Γ c wf) e).0 h in (
          (fr, wf, λ L m. let b = a.1 L in let d = n L m in omega arith, a.0),
          a.1,
          λ L o. elim (cases_Bool (label_in_scope (extend (y ∷ []) Γ) L)) [
            | inl s ↦ n L (names_new_one y Γ L o s)
            | inr f ↦ a.2 L f
          ],
        )
    rule_sound x c (test_rule {Γ = Γ} {p = p} {q = q} {e = e} {f = f} s t h k) =
        let a = (x p (omega arith) Γ c e).0 h in let b = (x q (omega arith) Γ c f).0 k in
        ((s, t, a.0, b.0), λ L. let u = a.1 L in let v = b.1 L in omega arith, λ L n. let u = a.2 L n in let v = b.2 L n in omega arith)
    rule_sound x c (begin_rule {Γ = Γ} {l = l} {p = p} {e = e} s h) =
        let a = (x p (omega arith) Γ c (join_effects K e (full_right K l))).0 h in (
          (s, a.0),
          λ L. W.lack_least _ _ (e L) (subst (λ (m : ℕ). amount K types p L ≤ m) (W.commutative (e L) (full_right K l L)) (a.1 L)),
          λ L n. let z = a.2 L n in let j = left_below K W (e L) (full_right K l L) in omega arith,
        )
    rule_sound x c (end_rule {Γ = Γ} {l = l} {p = p} {e = e} s h) =
        let a = (x p (omega arith) Γ c e).0 h in
        ((s, a.0), λ L. join_monotone K W (a.1 L) (le_refl _), λ L n. join_zero K W _ _ (a.2 L n) (full_right_within K W Γ l s L n))

    -- what suffices is given by the rules
    rule_complete : (p : Process) → ((q : Process) → size q < size p → Exact Part q) → (Γ : Scope) → WellFormedEnvironment types Γ → (e : Effect) →
        Suffices Γ p e → Rule K types Part Γ p e
    rule_complete stop x Γ c e g = subsumption stop_rule (λ L. omega arith) g.2
    rule_complete (send y ys) x Γ c e g = subsumption (send_rule g.0.0 g.0.1 g.0.2) g.1 g.2
    rule_complete (receive y zs p) x Γ c e g =
        let d = environment_receive types zs Γ c g.0.3 in
        receive_rule g.0.0 g.0.1 g.0.2 g.0.3 ((x p (omega arith) (extend zs Γ) d (amount K types p)).1 (own p (extend zs Γ) d g.0.5))
        (λ L. W.lack_covers _ _ (e L) (g.1 L)) g.2
    rule_complete (both p q) x Γ c e g =
        subsumption (both_rule ((x p (omega arith) Γ c (amount K types p)).1 (own p Γ c g.0.0)) ((x q (omega arith) Γ c (amount K types q)).1 (own q Γ c g.0.1))) g.1 g.2
    rule_complete (copy p) x Γ c e g =
        subsumption (copy_rule ((x p (omega arith) Γ c (amount K types p)).1 (own p Γ c g.0.0)) (λ f h. ((x p (omega arith) Γ c f).0 h).1) g.0.1) g.1 g.2
    rule_complete (new y p) x Γ c e g =
        let d = environment_new types y Γ c g.0.1 in
        subsumption (new_rule g.0.0 g.0.1 ((x p (omega arith) (extend (y ∷ []) Γ) d (amount K types p)).1 (own p (extend (y ∷ []) Γ) d g.0.3)) g.0.2) g.1 g.2
    rule_complete (test y z p q) x Γ c e g =
        subsumption (test_rule g.0.0 g.0.1 ((x p (omega arith) Γ c (amount K types p)).1 (own p Γ c g.0.2))
        ((x q (omega arith) Γ c (amount K types q)).1 (own q Γ c g.0.3))) g.1 g.2
    rule_complete (begin l p) x Γ c e g =
        begin_rule g.0.0 ((x p (omega arith) Γ c (join_effects K e (full_right K l))).1 (
          g.0.1,
          λ L. subst (λ (m : ℕ). amount K types p L ≤ m) (W.commutative (full_right K l L) (e L)) (W.lack_covers _ _ (e L) (g.1 L)),
          λ L n. join_zero K W _ _ (g.2 L n) (full_right_within K W Γ l g.0.0 L n),
        ))
    rule_complete (end l p) x Γ c e g = subsumption (end_rule g.0.0 ((x p (omega arith) Γ c (amount K types p)).1 (own p Γ c g.0.1))) g.1 g.2

  staged : (n : ℕ) (p : Process) → size p ≤ n → Exact (DerivesWithin K types n) p
  staged zero p h Γ c e = let z = size_positive p in absurd (omega arith)
  staged (suc n) p h Γ c e =
      (rule_sound (DerivesWithin K types n) (λ q l. staged n q (omega arith)) c, rule_complete (DerivesWithin K types n) p (λ q l. staged n q (omega arith)) Γ c e)

  -- the judgement gives each process just the effects that suffice
  pub exact : (p : Process) (Γ : Scope) → WellFormedEnvironment types Γ → (e : Effect) →
      (Derives K types Γ p e → Suffices Γ p e) × (Suffices Γ p e → Derives K types Γ p e)
  exact p = staged (size p) p (le_refl _)

  agreement : (Γ : Scope) (p : Process) → WellFormedEnvironment types Γ → Agreement K types Γ p
  agreement Γ p c = record {
    by_rules = λ e r. (exact p Γ c e).1 (rule_sound (Derives K types) (λ q l. exact q) c r);
    only_by_rules = λ e d. rule_complete (Derives K types) p (λ q l. exact q) Γ c e ((exact p Γ c e).0 d);
    derivable_accepted = λ e d. ((exact p Γ c e).0 d).0;
    accepted_derivable = λ k. (exact p Γ c (amount K types p)).1 (own p Γ c k);
    least = λ e d. ((exact p Γ c e).0 d).1;
  }

-- the theorem on processes
pub typing_agrees : TypingAgrees
typing_agrees K W types Γ p c = agreement K W types Γ p c

-- public names have well-formed types
pub public_environment : (types : Assignment) (free : Scope) → ((x : Name) → in_scope free x ≡ true → types x ≡ public) → WellFormedEnvironment types free
public_environment types free h x s = subst (WellFormed free) (sym (h x s)) tt

-- the theorem on whole processes
pub acceptance_agrees : AcceptanceAgrees
acceptance_agrees K W types free p = (
  λ a. let g = (exact K W types p free (public_environment types free a.free_public) empty).0 a.derives_empty in
      record { free_public = a.free_public; checked = g.0; needs_nothing = λ L. let l = g.1 L in omega arith },
  λ a. record {
    free_public = a.free_public;
    derives_empty = (exact K W types p free (public_environment types free a.free_public) empty).1
        (a.checked, (λ L. let e = a.needs_nothing L in omega arith), λ L n. refl);
  },
)
