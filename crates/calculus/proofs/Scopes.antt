-- Scopes: names and labels in a scope that grows, and types that stay well formed in it.
use Rattle.std.proofs.Common.{◌≡◌, ℕ, ◌<◌, Bool, true, false, cond, eqb, ltb, ◌⊎◌, List, [], ◌∷◌, get_or, take, sym, refl, ap, ◌∙◌, subst, inl, inr}
use Rattle.std.specs.List.{AllByRecursion}
use Rattle.std.proofs.ByRecursion.{All-weaker}
use Rattle.std.proofs.lemmas.Bool.{and_parts, and_from, and_cases, both_ways, cases_Bool, ltb-true, lt-ltb, eqb-true, eq-eqb}
use Rattle.calculus.specs.Lists.{◌∈◌, every, extend}
use Rattle.calculus.specs.Labels.{Label, items}
use Rattle.calculus.specs.Types.{Name, Item, name, index, NameType, pure, public, channel, Assignment}
use Rattle.calculus.specs.Scopes.{Scope, in_scope, label_in_scope, Fresh, push, WellFormedItem, WellFormedInside, WellFormed, outermost, WellFormedEnvironment}
use Rattle.calculus.specs.Typing.{WellFormedInTurn}
use Rattle.calculus.proofs.Lists.{all_member, every_all, place_of, only_member, member_of_front}

-- the parts of being in scope
pub small : (Γ : Scope) (x : Name) → in_scope Γ x ≡ true → x < 64
small Γ x s = ltb-true x 64 (and_parts (ltb x 64) (Γ x) s).0

pub present : (Γ : Scope) (x : Name) → in_scope Γ x ≡ true → Γ x ≡ true
present Γ x s = (and_parts (ltb x 64) (Γ x) s).1

pub scoped : (Γ : Scope) (x : Name) → x < 64 → Γ x ≡ true → in_scope Γ x ≡ true
scoped Γ x l g = and_from (ltb x 64) (Γ x) (lt-ltb x 64 l) g

-- each name of a label in scope is in scope
pub label_names : (Γ : Scope) (L : Label Name) → label_in_scope Γ L ≡ true → AllByRecursion (λ x. in_scope Γ x ≡ true) (items L)
label_names Γ L s = every_all (in_scope Γ) (items L) s

-- a name of an extended scope is new or old, and new and old names are in it
pub extend_cases : (zs : List Name) (Γ : Scope) (x : Name) → extend zs Γ x ≡ true → (x ∈ zs) ⊎ (Γ x ≡ true)
extend_cases [] Γ x t = inr t
extend_cases (z ∷ zs) Γ x t = elim (cases_Bool (eqb z x)) [
  | inl q ↦ inl (inl (sym (eqb-true z x q)))
  | inr q ↦ elim (extend_cases zs Γ x (sym (ap (λ b. cond b true (extend zs Γ x)) q) ∙ t)) [ inl m ↦ inl (inr m) | inr g ↦ inr g ]
]

or_true : (b c : Bool) → c ≡ true → cond b true c ≡ true
or_true true c t = refl
or_true false c t = t

-- an old name is in the extended scope
pub extend_old : (zs : List Name) (Γ : Scope) (x : Name) → Γ x ≡ true → extend zs Γ x ≡ true
extend_old [] Γ x t = t
extend_old (z ∷ zs) Γ x t = or_true (eqb z x) (extend zs Γ x) (extend_old zs Γ x t)

-- a new name is in the extended scope
pub extend_new : (zs : List Name) (Γ : Scope) (x : Name) → x ∈ zs → extend zs Γ x ≡ true
extend_new [] Γ x m = elim m [ ]
extend_new (z ∷ zs) Γ x (inl e) = ap (λ b. cond b true (extend zs Γ x)) (eq-eqb z x (sym e))
extend_new (z ∷ zs) Γ x (inr m) = or_true (eqb z x) (extend zs Γ x) (extend_new zs Γ x m)

-- the same of names in scope
pub in_scope_cases : (zs : List Name) (Γ : Scope) (x : Name) → in_scope (extend zs Γ) x ≡ true → (x ∈ zs) ⊎ (in_scope Γ x ≡ true)
in_scope_cases zs Γ x s = elim (extend_cases zs Γ x (present (extend zs Γ) x s)) [ inl m ↦ inl m | inr g ↦ inr (scoped Γ x (small (extend zs Γ) x s) g) ]

-- a name in scope stays in scope
pub in_scope_extend : (zs : List Name) (Γ : Scope) (x : Name) → in_scope Γ x ≡ true → in_scope (extend zs Γ) x ≡ true
in_scope_extend zs Γ x s = scoped (extend zs Γ) x (small Γ x s) (extend_old zs Γ x (present Γ x s))

-- names bound together are small and were not in scope
pub fresh_name : (zs : List Name) (Γ : Scope) → Fresh zs Γ → (z : Name) → z ∈ zs → (z < 64) × (Γ z ≡ false)
fresh_name [] Γ f z m = elim m [ ]
fresh_name (y ∷ zs) Γ f z (inl e) = (subst (λ (x : ℕ). x < 64) (sym e) f.0, ap Γ e ∙ f.1)
fresh_name (y ∷ zs) Γ f z (inr m) = fresh_name zs Γ f.3 z m

-- names bound together are in scope after
pub bound_in_scope : (zs : List Name) (Γ : Scope) → Fresh zs Γ → (z : Name) → z ∈ zs → in_scope (extend zs Γ) z ≡ true
bound_in_scope zs Γ f z m = scoped (extend zs Γ) z (fresh_name zs Γ f z m).0 (extend_new zs Γ z m)

-- a name in scope is none of those bound
pub not_bound : (zs : List Name) (Γ : Scope) → Fresh zs Γ → (x : Name) → in_scope Γ x ≡ true → x ∈ zs → ⊥
not_bound zs Γ f x s m = both_ways (Γ x) (fresh_name zs Γ f x m).1 (present Γ x s)

-- a label in the extended scope but not in the old one names a new name
pub names_new : (zs : List Name) (Γ : Scope) (L : Label Name) → label_in_scope Γ L ≡ false → label_in_scope (extend zs Γ) L ≡ true →
    (z : Name) × (z ∈ zs) × (z ∈ items L)
names_new zs Γ L n s = find (items L) n (label_names (extend zs Γ) L s)
  where
    find : (l : List Name) → every (in_scope Γ) l ≡ false → AllByRecursion (λ x. in_scope (extend zs Γ) x ≡ true) l → (z : Name) × (z ∈ zs) × (z ∈ l)
    find [] n a = absurd (both_ways true n refl)
    find (x ∷ l) n a = elim (in_scope_cases zs Γ x a.0) [
      | inl m ↦ (x, m, inl refl)
      | inr g ↦ elim (and_cases (in_scope Γ x) (every (in_scope Γ) l) n) [
        | inl f ↦ absurd (both_ways (in_scope Γ x) f g)
        | inr f ↦ let r = find l f a.1 in (r.0, r.1, inr r.2)
      ]
    ]

-- the same where one name is new
pub names_new_one : (x : Name) (Γ : Scope) (L : Label Name) → label_in_scope Γ L ≡ false → label_in_scope (extend (x ∷ []) Γ) L ≡ true → x ∈ items L
names_new_one x Γ L n s = let z = names_new (x ∷ []) Γ L n s in subst (λ y. y ∈ items L) (only_member z.0 x z.1) z.2

-- a label that names a name out of scope is out of scope
pub names_absent : (Γ : Scope) (z : Name) (L : Label Name) → Γ z ≡ false → z ∈ items L → label_in_scope Γ L ≡ false
names_absent Γ z L n m = elim (cases_Bool (label_in_scope Γ L)) [
  | inl s ↦ absurd (both_ways (Γ z) n (present Γ z (all_member (λ x. in_scope Γ x ≡ true) (items L) (label_names Γ L s) z m)))
  | inr f ↦ f
]

-- a type that is well formed in a scope is so in a wider one
pub well_formed_wider : (Γ Δ : Scope) → ((x : Name) → in_scope Γ x ≡ true → in_scope Δ x ≡ true) → (t : NameType) (before : ℕ → ℕ) →
    WellFormedInside Γ before t → WellFormedInside Δ before t
well_formed_wider Γ Δ h pure before w = tt
well_formed_wider Γ Δ h public before w = tt
well_formed_wider Γ Δ h (channel n components entries) before w =
    (w.0, All-weaker _ _ (λ e a. All-weaker _ _ item (items e.label) a) entries w.1, λ i l. well_formed_wider Γ Δ h (components i) _ (w.2 i l))
  where
    item : (x : Item) → WellFormedItem Γ (push n before) x → WellFormedItem Δ (push n before) x
    item (name x) o = h x o
    item (index u p) o = o

module _ (types : Assignment) where
  -- environments stay well formed where names are bound
  environment_extend : (zs : List Name) (Γ : Scope) → WellFormedEnvironment types Γ → ((z : Name) → z ∈ zs → WellFormed (extend zs Γ) (types z)) →
      WellFormedEnvironment types (extend zs Γ)
  environment_extend zs Γ c w x s = elim (in_scope_cases zs Γ x s) [
    | inl m ↦ w x m
    | inr g ↦ well_formed_wider Γ (extend zs Γ) (in_scope_extend zs Γ) (types x) outermost (c x g)
  ]

  -- at new
  pub environment_new : (x : Name) (Γ : Scope) → WellFormedEnvironment types Γ → WellFormed Γ (types x) → WellFormedEnvironment types (extend (x ∷ []) Γ)
  environment_new x Γ c w = environment_extend (x ∷ []) Γ c (λ z m.
      subst (λ y. WellFormed (extend (x ∷ []) Γ) (types y)) (sym (only_member z x m)) (well_formed_wider Γ (extend (x ∷ []) Γ) (in_scope_extend (x ∷ []) Γ) (types x) outermost w))

  -- at receive
  pub environment_receive : (zs : List Name) (Γ : Scope) → WellFormedEnvironment types Γ → WellFormedInTurn types Γ zs →
      WellFormedEnvironment types (extend zs Γ)
  environment_receive zs Γ c w = environment_extend zs Γ c (λ z m. let r = place_of 0 z zs m in
      subst (λ y. WellFormed (extend zs Γ) (types y)) r.2
      (well_formed_wider (extend (take r.0 zs) Γ) (extend zs Γ) (wide r.0) (types (get_or zs r.0 0)) outermost (w r.0 r.1)))
    where
      wide : (i : ℕ) (x : Name) → in_scope (extend (take i zs) Γ) x ≡ true → in_scope (extend zs Γ) x ≡ true
      wide i x s = scoped (extend zs Γ) x (small (extend (take i zs) Γ) x s)
          (elim (extend_cases (take i zs) Γ x (present (extend (take i zs) Γ) x s)) [
            | inl m ↦ extend_new zs Γ x (member_of_front i zs x m)
            | inr g ↦ extend_old zs Γ x g
          ])
