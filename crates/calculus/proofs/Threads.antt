-- Threads: a thread is well typed when its process passes the checks and its values have the types of its names. What a message does to one.
use Rattle.std.proofs.Common.{◌≡◌, ℕ, suc, ◌<◌, ◌≤◌, true, cond, eqb, List, [], ◌∷◌, map, length, get_or, sym, refl, ap, ◌∙◌, subst, ap₂, inl, inr, le_refl, arith}
use Rattle.std.proofs.ByRecursion.{All-get_or}
use Rattle.std.proofs.lemmas.List.{get_or-map}
use Rattle.std.proofs.lemmas.Bool.{cases_Bool, eqb-true, eq-eqb}
use Rattle.calculus.specs.Countings.{Operations, Laws}
use Rattle.calculus.specs.Lists.{◌∈◌, extend}
use Rattle.calculus.specs.Labels.{Label}
use Rattle.calculus.specs.Types.{Name, Value, NameType, pure, public, channel, Assignment}
use Rattle.calculus.specs.Scopes.{Scope, in_scope, WellFormed, outermost, WellFormedEnvironment}
use Rattle.calculus.specs.Processes.{Process, send, receive, new}
use Rattle.calculus.specs.Effects.{latent, amount}
use Rattle.calculus.specs.Checks.{Checks}
use Rattle.calculus.specs.Reduction.{Valuation, bind, Thread, thread}
use Rattle.calculus.proofs.Lists.{all_from_members, place_of, only_member}
use Rattle.calculus.proofs.Scopes.{in_scope_cases, in_scope_extend, bound_in_scope, not_bound, well_formed_wider, environment_new, environment_receive}
use Rattle.calculus.proofs.Meanings.{ValueType, public_value, component, carries, nothing_sent, meaning, meaning_local, argument_meaning}
use Rattle.calculus.proofs.Effects.{amount_within, instance, instance_monotone, instance_join, instance_local, instance_latent}
use Rattle.calculus.proofs.Valuations.{bind_here, bind_other, bind_all}

-- the types of values, with a type for one value more
abbrev pub with_type : (Value → ValueType) → Value → ValueType → Value → ValueType
with_type Θ n t v = cond (eqb v n) t (Θ v)

-- the other values keep their types
pub with_type_old : (Θ : Value → ValueType) (n : Value) (t : ValueType) (v : Value) → v < n → with_type Θ n t v ≡ Θ v
with_type_old Θ n t v h = elim (cases_Bool (eqb v n)) [
  | inl q ↦ let e = eqb-true v n q in absurd (omega arith)
  | inr q ↦ ap (λ b. cond b t (Θ v)) q
]

-- the new value has its type
pub with_type_new : (Θ : Value → ValueType) (n : Value) (t : ValueType) → with_type Θ n t n ≡ t
with_type_new Θ n t = ap (λ b. cond b t (Θ n)) (eq-eqb n n refl)

-- the value v is in use, the next unused one being n, and has the type t
abbrev pub HasType : (Value → ValueType) → Value → Value → ValueType → Type 0
HasType Θ n v t = (v < n) × (Θ v ≡ t)

-- values keep their types
pub has_type_later : (Θ : Value → ValueType) (n : Value) (u : ValueType) (v : Value) (t : ValueType) → HasType Θ n v t → HasType (with_type Θ n u) (suc n) v t
has_type_later Θ n u v t h = ((let k = h.0 in omega arith), with_type_old Θ n u v h.0 ∙ h.1)

-- only public names have public values
pub public_meaning : (K : Operations) (t : NameType) (ρ : Valuation) → meaning K t ρ ≡ public_value → t ≡ public
public_meaning K pure ρ e = absurd (let z : ◌≡◌ {A = ℕ} 0 1 = cc in omega arith)
public_meaning K public ρ e = refl
public_meaning K (channel n components entries) ρ e = absurd (let z : ◌≡◌ {A = ℕ} 0 1 = cc in omega arith)

-- Θ gives the types of the values below n
pub record WellTyped (K : Operations) (types : Assignment) (Θ : Value → ValueType) (n : Value) (t : Thread) : Type 0 where
  pub scope : Scope
  pub checked : Checks K types scope t.process
  pub environment : WellFormedEnvironment types scope
  pub values : (x : Name) → in_scope scope x ≡ true → HasType Θ n (t.valuation x) (meaning K (types x) t.valuation)

module _ (K : Operations) (W : Laws K) (types : Assignment) where
  -- what a thread needs at a label of values
  abbrev pub cost : Label Value → Thread → ℕ
  cost M t = instance K W t.valuation (amount K types t.process) M

  -- the same values, another process that passes the checks in the same scope
  pub typed_next : {Θ : Value → ValueType} {n : Value} {p : Process} {ρ : Valuation} (q : Process) (f : WellTyped K types Θ n (thread p ρ)) → Checks K types f.scope q →
      WellTyped K types Θ n (thread q ρ)
  typed_next q f k = record { scope = f.scope; checked = k; environment = f.environment; values = f.values }

  -- one value more
  pub typed_later : (Θ : Value → ValueType) (n : Value) (u : ValueType) (t : Thread) → WellTyped K types Θ n t → WellTyped K types (with_type Θ n u) (suc n) t
  typed_later Θ n u t f =
      record { scope = f.scope; checked = f.checked; environment = f.environment; values = λ x s. has_type_later Θ n u (t.valuation x) _ (f.values x s) }

  module _ (Θ : Value → ValueType) (n : Value) where
    -- a sender needs what its channel's type says that the message carries
    pub send_cost : (x : Name) (ys : List Name) (σ : Valuation) → WellTyped K types Θ n (thread (send x ys) σ) → (M : Label Value) →
        cost M (thread (send x ys) σ) ≡ carries (Θ (σ x)) (map σ ys) M
    send_cost x ys σ f M =
        instance_latent K W f.scope σ (types x) ys M (f.environment x f.checked.0) f.checked.2.count f.checked.1
        ∙ ap (λ t. carries t (map σ ys) M) (sym (f.values x f.checked.0).1)

    -- the values sent have the types of the channel's components
    pub send_values : (x : Name) (ys : List Name) (σ : Valuation) → WellTyped K types Θ n (thread (send x ys) σ) → (i : ℕ) → i < length ys →
        HasType Θ n (get_or (map σ ys) i 0) (component (Θ (σ x)) i (map σ ys))
    send_values x ys σ f i h =
        let v = f.values (get_or ys i 0) (All-get_or (λ y. in_scope f.scope y ≡ true) ys i 0 h f.checked.1) in
        subst (λ v. HasType Θ n v (component (Θ (σ x)) i (map σ ys))) (sym (get_or-map σ ys i 0 0 h)) (
          v.0,
          v.1 ∙ argument_meaning K W f.scope types σ x ys (f.environment x f.checked.0) f.checked.2 i h
              ∙ ap (λ t. component t i (map σ ys)) (sym (f.values x f.checked.0).1),
        )

    -- a receiver that gets the values vs
    module _ (w : Name) (zs : List Name) (vs : List Value) (p : Process) (ρ : Valuation) (f : WellTyped K types Θ n (thread (receive w zs p) ρ)) (q : length vs ≡ length zs) where
      old : (x : Name) → in_scope f.scope x ≡ true → ρ x ≡ bind zs vs ρ x
      old x s = sym (bind_other zs vs ρ x (not_bound zs f.scope f.checked.1 x s))

      got : map (bind zs vs ρ) zs ≡ vs
      got = bind_all f.scope zs vs ρ f.checked.1 q

      channel_type : WellFormed (extend zs f.scope) (types w)
      channel_type = well_formed_wider f.scope (extend zs f.scope) (in_scope_extend zs f.scope) (types w) outermost (f.environment w f.checked.0)

      channel_meaning : meaning K (types w) (bind zs vs ρ) ≡ Θ (ρ w)
      channel_meaning =
          sym (meaning_local K W f.scope ρ (bind zs vs ρ) old (types w) outermost nothing_sent (f.environment w f.checked.0)) ∙ sym (f.values w f.checked.0).1

      -- goes on with no more need than it had, joined with what the message carries
      pub receive_cost : (M : Label Value) → cost M (thread p (bind zs vs ρ)) ≤ K.join (carries (Θ (ρ w)) vs M) (cost M (thread (receive w zs p) ρ))
      receive_cost M =
          subst (λ (a : ℕ). cost M (thread p (bind zs vs ρ)) ≤ K.join a (cost M (thread (receive w zs p) ρ))) carried
          (subst (λ (b : ℕ). cost M (thread p (bind zs vs ρ)) ≤ K.join (instance K W (bind zs vs ρ) (latent K (types w) zs) M) b)
          (sym (instance_local K W f.scope ρ (bind zs vs ρ) old (amount K types (receive w zs p)) M
          (amount_within K W types (receive w zs p) f.scope f.environment f.checked)))
          (subst (λ (a : ℕ). cost M (thread p (bind zs vs ρ)) ≤ a) (instance_join K W (bind zs vs ρ) (latent K (types w) zs) (amount K types (receive w zs p)) M)
          (instance_monotone K W (bind zs vs ρ) (amount K types p) _ M (λ L. W.lack_covers _ _ _ (le_refl _)))))
        where
          carried : instance K W (bind zs vs ρ) (latent K (types w) zs) M ≡ carries (Θ (ρ w)) vs M
          carried =
              instance_latent K W (extend zs f.scope) (bind zs vs ρ) (types w) zs M channel_type f.checked.2.count
              (all_from_members _ zs (bound_in_scope zs f.scope f.checked.1))
              ∙ ap₂ (λ t a. carries t a M) channel_meaning got

      -- stays well typed, if the values have the types of the channel's components
      pub receive_typed : ((i : ℕ) → i < length vs → HasType Θ n (get_or vs i 0) (component (Θ (ρ w)) i vs)) → WellTyped K types Θ n (thread p (bind zs vs ρ))
      receive_typed h =
          record { scope = extend zs f.scope; checked = f.checked.5; environment = environment_receive types zs f.scope f.environment f.checked.3; values = both }
        where
          new_value : (x : Name) → x ∈ zs → HasType Θ n (bind zs vs ρ x) (meaning K (types x) (bind zs vs ρ))
          new_value x m =
              let r = place_of 0 x zs m in let i = r.0 in let k = h i (let l = r.1 in omega arith) in
              let e : bind zs vs ρ (get_or zs i 0) ≡ get_or vs i 0 = sym (get_or-map (bind zs vs ρ) zs i 0 0 r.1) ∙ ap (λ l. get_or l i 0) got in
              let s : meaning K (types (get_or zs i 0)) (bind zs vs ρ) ≡ component (Θ (ρ w)) i vs =
              argument_meaning K W (extend zs f.scope) types (bind zs vs ρ) w zs channel_type f.checked.2 i r.1
              ∙ ap₂ (λ t a. component t i a) channel_meaning got in
              subst (λ y. HasType Θ n (bind zs vs ρ y) (meaning K (types y) (bind zs vs ρ))) r.2
              (subst (λ v. HasType Θ n v (meaning K (types (get_or zs i 0)) (bind zs vs ρ))) (sym e) (k.0, k.1 ∙ sym s))

          both : (x : Name) → in_scope (extend zs f.scope) x ≡ true → HasType Θ n (bind zs vs ρ x) (meaning K (types x) (bind zs vs ρ))
          both x t = elim (in_scope_cases zs f.scope x t) [
            | inl m ↦ new_value x m
            | inr s ↦ let v = f.values x s in
                subst (λ y. HasType Θ n y (meaning K (types x) (bind zs vs ρ))) (old x s)
                (v.0, v.1 ∙ meaning_local K W f.scope ρ (bind zs vs ρ) old (types x) outermost nothing_sent (f.environment x s))
          ]

    -- a thread that makes the value n for the name x
    module _ (x : Name) (p : Process) (ρ : Valuation) (f : WellTyped K types Θ n (thread (new x p) ρ)) where
      abbrev made : Valuation
      made = bind (x ∷ []) (n ∷ []) ρ

      abbrev Θ' : Value → ValueType
      Θ' = with_type Θ n (meaning K (types x) made)

      new_old : (y : Name) → in_scope f.scope y ≡ true → ρ y ≡ made y
      new_old y s = sym (bind_other (x ∷ []) (n ∷ []) ρ y (not_bound (x ∷ []) f.scope f.checked.0 y s))

      -- goes on with the same need
      pub new_cost : (M : Label Value) → cost M (thread p (bind (x ∷ []) (n ∷ []) ρ)) ≡ cost M (thread (new x p) ρ)
      new_cost M = sym (instance_local K W f.scope ρ made new_old (amount K types p) M (amount_within K W types (new x p) f.scope f.environment f.checked))

      -- stays well typed, with the new value of the type of its name
      pub new_typed : WellTyped K types (with_type Θ n (meaning K (types x) (bind (x ∷ []) (n ∷ []) ρ))) (suc n) (thread p (bind (x ∷ []) (n ∷ []) ρ))
      new_typed = record { scope = extend (x ∷ []) f.scope; checked = f.checked.3; environment = environment_new types x f.scope f.environment f.checked.1; values = both }
        where
          new_value : (y : Name) → y ≡ x → HasType Θ' (suc n) (made y) (meaning K (types y) made)
          new_value y e =
              subst (λ y. HasType Θ' (suc n) (made y) (meaning K (types y) made)) (sym e)
              (subst (λ v. HasType Θ' (suc n) v (meaning K (types x) made)) (sym (bind_here x n [] [] ρ)) (omega arith, with_type_new Θ n _))

          both : (y : Name) → in_scope (extend (x ∷ []) f.scope) y ≡ true → HasType Θ' (suc n) (made y) (meaning K (types y) made)
          both y t = elim (in_scope_cases (x ∷ []) f.scope y t) [
            | inl m ↦ new_value y (only_member y x m)
            | inr s ↦ let v = has_type_later Θ n (meaning K (types x) made) (ρ y) _ (f.values y s) in
                subst (λ w. HasType Θ' (suc n) w (meaning K (types y) made)) (new_old y s)
                (v.0, v.1 ∙ meaning_local K W f.scope ρ made new_old (types y) outermost nothing_sent (f.environment y s))
          ]
