-- Arrays that a closure makes, place by place.
use Rattle.std.proofs.Common.{◌≡◌, ℕ, zero, suc, ◌+◌, ◌<◌, ◌≤◌, List, get_or, sym, ap, ◌∙◌, subst, ⊎_elim, arith}
use Rattle.std.proofs.lemmas.Bool.{cases_eq}
use Rattle.std.specs.Array.{IsFromFnResultFrom}
use Rattle.std.specs.Fn.{Called}
use denote.Param.Members.{Mut}

module _ {F B : Type 0} (g : Mut F (ℕ × Unit {0}) B) (f : F) (ys : List B) (h : ℕ → B) (d : B)
    (acts : (j : ℕ) (r : B) (q : F) → Called g f (j, tt) r q → (q ≡ f) × (r ≡ h j)) where
  -- a closure that stays as it is and gives h of each place makes the list of these
  pub made : (n i k : ℕ) → IsFromFnResultFrom g f ys i n → i ≤ k → k < i + n → get_or ys k d ≡ h k
  made zero i k m l s = absurd (omega arith)
  made (suc n) i k m l s =
      let a = acts i m.1 m.0 m.3 in
      ⊎_elim
      (λ e. ap (λ j. get_or ys j d) e ∙ m.2.1 d ∙ a.1 ∙ ap h (sym e))
      (λ e. made n (i + 1) k (subst (λ (q : F). IsFromFnResultFrom g q ys (i + 1) n) a.0 m.4) (omega arith) (omega arith))
      (cases_eq k i)
