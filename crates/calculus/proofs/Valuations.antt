-- Valuations: what names have after they are bound to values.
use Rattle.std.proofs.Common.{◌≡◌, cond, eqb, List, [], ◌∷◌, map, length, sym, refl, ap, ◌∙◌, subst, ap₂, inl, inr, arith}
use Rattle.std.proofs.lemmas.Bool.{cases_Bool, eqb-true, eq-eqb}
use Rattle.calculus.specs.Lists.{◌∈◌}
use Rattle.calculus.specs.Types.{Name, Value}
use Rattle.calculus.specs.Scopes.{Scope, Fresh}
use Rattle.calculus.specs.Reduction.{Valuation, bind}
use Rattle.calculus.proofs.Lists.{map_alike_members}

-- the first name has the first value
pub bind_here : (z : Name) (v : Value) (zs : List Name) (vs : List Value) (ρ : Valuation) → bind (z ∷ zs) (v ∷ vs) ρ z ≡ v
bind_here z v zs vs ρ = ap (λ b. cond b v (bind zs vs ρ z)) (eq-eqb z z refl)

-- another name than the first
bind_there : (z : Name) (v : Value) (zs : List Name) (vs : List Value) (ρ : Valuation) (x : Name) → (x ≡ z → ⊥) → bind (z ∷ zs) (v ∷ vs) ρ x ≡ bind zs vs ρ x
bind_there z v zs vs ρ x n = elim (cases_Bool (eqb z x)) [
  | inl q ↦ absurd (n (sym (eqb-true z x q)))
  | inr q ↦ ap (λ b. cond b v (bind zs vs ρ x)) q
]

-- the other names keep their values
pub bind_other : (zs : List Name) (vs : List Value) (ρ : Valuation) (x : Name) → (x ∈ zs → ⊥) → bind zs vs ρ x ≡ ρ x
bind_other [] vs ρ x n = refl
bind_other (z ∷ zs) [] ρ x n = refl
bind_other (z ∷ zs) (v ∷ vs) ρ x n = bind_there z v zs vs ρ x (λ e. n (inl e)) ∙ bind_other zs vs ρ x (λ m. n (inr m))

-- names bound together have their values in turn, since each is bound once
pub bind_all : (Γ : Scope) (zs : List Name) (vs : List Value) (ρ : Valuation) → Fresh zs Γ → length vs ≡ length zs → map (bind zs vs ρ) zs ≡ vs
bind_all Γ [] [] ρ f q = refl
bind_all Γ [] (v ∷ vs) ρ f q = absurd (omega arith)
bind_all Γ (z ∷ zs) [] ρ f q = absurd (omega arith)
bind_all Γ (z ∷ zs) (v ∷ vs) ρ f q =
    ap₂ ◌∷◌ (bind_here z v zs vs ρ)
    (map_alike_members _ _ zs (λ x m. bind_there z v zs vs ρ x (λ e. f.2 (subst (λ y. y ∈ zs) e m))) ∙ bind_all Γ zs vs ρ f.3 (omega arith))
