-- Equality that a test decides, so that it computes wherever the things compared are written out.
use Rattle.std.specs.Prelude.{◌≡◌, ℕ, Bool, true, false, ◌&&◌, List, [], ◌∷◌, ◌≢◌, refl, nat_eq}
use Rattle.std.proofs.Common.{subst}
use Rattle.std.proofs.lemmas.Bool.{both_ways, eqb-true, eq-eqb}

-- a test of equality: it answers true exactly where the two are equal
pub record Test (A : Type 0) : Type 0 where
  pub same : A → A → Bool
  pub sound : (x y : A) → same x y ≡ true → x ≡ y
  pub reflexive : (x : A) → same x x ≡ true

-- what a test says that answers false
pub complete : {A : Type 0} (t : Test A) (x y : A) → t.same x y ≡ false → x ≢ y
complete t x y f e = both_ways (t.same x y) f (subst (λ z. t.same x z ≡ true) e (t.reflexive x))

-- a question with the answer of its test
abbrev pub answered : {A : Type 0} (b : Bool) → (b ≡ true → A) → (b ≡ false → A → ⊥) → Dec A
answered true h n = yes (h refl)
answered false h n = no (n refl)

-- whether x and y are equal
abbrev pub decide : {A : Type 0} (t : Test A) (x y : A) → Dec (x ≡ y)
decide t x y = answered (t.same x y) (t.sound x y) (complete t x y)

-- the test of numbers
abbrev pub number_test : Test ℕ
number_test = record { same = nat_eq; sound = eqb-true; reflexive = λ x. eq-eqb x x refl }

-- the test of lists, member by member
abbrev pub same_members : {A : Type 0} → (A → A → Bool) → List A → List A → Bool
same_members same [] [] = true
same_members same [] (y ∷ m) = false
same_members same (x ∷ l) [] = false
same_members same (x ∷ l) (y ∷ m) = same x y && same_members same l m
