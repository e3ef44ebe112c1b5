-- Names in lists, and the way up from a node, for the tables of scope.
use Rattle.std.proofs.Common.{◌≡◌, ℕ, Bool, true, false, ◌||◌, eqb, List, [], ◌∷◌, ◌++◌, get_or, Some, None, Decides, Option, sym, refl, ap, ◌∙◌, subst, inl, inr, ⊎_elim, arith}
use Rattle.std.specs.Option.{option_or}
use Rattle.std.specs.Bool.{then_some}
use Rattle.std.proofs.lemmas.Bool.{or_cases, or_left, or_right, eq-eqb, eqb-true, false≢true}
use Rattle.std.proofs.lemmas.Bool.Decides.{not_from_Decides}
use Rattle.fault.specs.Items.{any_in_turn, AnyAnswer}
use Rattle.sheet.specs.Scope.{member, Any, Over}
use Rattle.sheet.specs.Scope.Over.{nearest, beyond}

or_assoc : (a b c : Bool) → (a || (b || c)) ≡ ((a || b) || c)
or_assoc true b c = refl
or_assoc false b c = refl

pub member_append : (y : ℕ) (xs ys : List ℕ) → member y (xs ++ ys) ≡ (member y xs || member y ys)
member_append y [] ys = refl
member_append y (x ∷ xs) ys = ap (λ b. eqb y x || b) (member_append y xs ys) ∙ or_assoc (eqb y x) (member y xs) (member y ys)

noted_twice : (o : Option ℕ) (n : ℕ) (a b : Bool) → option_or (option_or o (then_some a n)) (then_some b n) ≡ option_or o (then_some (a || b) n)
noted_twice (Some m) n a b = refl
noted_twice None n true b = refl
noted_twice None n false b = refl

-- noted for the names of one list and then of another
pub noted_more : (o : Option ℕ) (n y : ℕ) (xs ys : List ℕ)
    → option_or (option_or o (then_some (member y xs) n)) (then_some (member y ys) n) ≡ option_or o (then_some (member y (xs ++ ys)) n)
noted_more o n y xs ys = noted_twice o n (member y xs) (member y ys) ∙ ap (λ b. option_or o (then_some b n)) (sym (member_append y xs ys))

-- what stands over a node stands over its parent or is the parent
pub over_parent : {P : List (Option ℕ)} {b k : ℕ} (p : ℕ) → Over P b k → get_or P k None ≡ Some p → (p ≡ b → ⊥) → Over P b p
over_parent {P} {b} {k} p (nearest h) e no-b = absurd (no-b cc)
over_parent {P} {b} {k} p (beyond {m} o h) e no-b = let same : m ≡ p = cc in subst (λ x. Over P b x) same o

-- nothing stands over a node without a parent
pub over_none : {P : List (Option ℕ)} {b k : ℕ} → Over P b k → get_or P k None ≡ None → ⊥
over_none (nearest h) e = let z : ◌≡◌ {A = ℕ} 0 1 = cc in omega arith
over_none (beyond o h) e = let z : ◌≡◌ {A = ℕ} 0 1 = cc in omega arith

module _ (P : ℕ → Type 0) where
  -- a test of the number that is there, if there is one
  pub there_decides : (o : Option ℕ) (r : Bool) → (o ≡ None → r ≡ false) → ((x : ℕ) → o ≡ Some x → Decides r (P x)) → Decides r ((x : ℕ) × (o ≡ Some x) × P x)
  there_decides None r none some = (λ t. absurd (false≢true (sym (none refl) ∙ t)), λ h. let z : ◌≡◌ {A = ℕ} 0 1 = cc in absurd (omega arith))
  there_decides (Some x) r none some =
      let d = some x refl in
      (λ t. (x, refl, d.0 t), λ h. let same : h.0 ≡ x = cc in d.1 (subst P same h.2))

  any_tested : {E : ℕ → Bool → Type 0} (xs : List ℕ) (r : Bool) → any_in_turn E xs r → ((x : ℕ) (b : Bool) → E x b → Decides b (P x)) → Decides r (Any P xs)
  any_tested [] r e tests = (λ t. absurd (false≢true (sym e ∙ t)), λ h. absurd (false≢true h.1))
  any_tested (x ∷ xs) r (inl (h, e)) tests = (λ _. (x, or_left (eqb x x) (member x xs) (eq-eqb x x refl), (tests x true h).0 refl), λ _. e)
  any_tested (x ∷ xs) r (inr (h, rest)) tests =
      let d = any_tested xs r rest tests in (
        λ t. let a = d.0 t in (a.0, or_right (eqb a.0 x) (member a.0 xs) a.1, a.2),
        λ a.
            ⊎_elim
            (λ same. absurd (not_from_Decides false (tests x false h) refl (subst P (eqb-true a.0 x same) a.2)))
            (λ there. d.1 (a.0, there, a.2))
            (or_cases (eqb a.0 x) (member a.0 xs) a.1),
      )

  -- a test of each name
  pub any_decides : {E : ℕ → Bool → Type 0} (xs : List ℕ) (r : Bool) → AnyAnswer E xs r → ((x : ℕ) (b : Bool) → E x b → Decides b (P x)) → Decides r (Any P xs)
  any_decides xs r a tests = any_tested xs r a.in_turn tests

  -- one of the first names has P
  pub any_first : (xs ys us : List ℕ) → xs ++ ys ≡ us → Any P xs → Any P us
  any_first xs ys us e a = subst (Any P) e (a.0, member_append a.0 xs ys ∙ or_left (member a.0 xs) (member a.0 ys) a.1, a.2)

  -- where none has, the others decide
  pub others_decide : (xs ys us : List ℕ) (r : Bool) → xs ++ ys ≡ us → (Any P xs → ⊥) → Decides r (Any P ys) → Decides r (Any P us)
  others_decide xs ys us r e none d = subst (λ k. Decides r (Any P k)) e (
    λ t. let a = d.0 t in (a.0, member_append a.0 xs ys ∙ or_right (member a.0 xs) (member a.0 ys) a.1, a.2),
    λ a.
        ⊎_elim
        (λ first. absurd (none (a.0, first, a.2)))
        (λ there. d.1 (a.0, there, a.2))
        (or_cases (member a.0 xs) (member a.0 ys) (sym (member_append a.0 xs ys) ∙ a.1)),
  )
