-- The two countings keep the laws.
use Rattle.std.proofs.Common.{◌≡◌, ℕ, ◌*◌, ◌<◌, ◌≤◌, cond, leb, ◌⊎◌, List, [], ◌∷◌, length, ap, inl, inr, arith, lit<}
use Rattle.std.proofs.lemmas.Bool.{cases_Bool, leb-true, leb-false}
use Rattle.calculus.specs.Countings.{Laws, Each≤, joined}
use Rattle.calculus.specs.Built.{parts, once}

-- so many entries add up to no more than so many times the largest
parts_joined : (n : ℕ) (amounts : List ℕ) → Each≤ 100000 amounts → joined (parts n) amounts ≤ length amounts * 100000
parts_joined n [] e = omega arith
parts_joined n (a ∷ amounts) e = let h = parts_joined n amounts e.1 in let k = e.0 in omega arith

-- adding keeps the laws
pub parts_laws : (n : ℕ) → 1 ≤ n → n ≤ 100000 → Laws (parts n)
parts_laws n some fits = record {
  commutative = λ a b. omega arith;
  associative = λ a b c. omega arith;
  neutral = λ a. omega arith;
  monotone = λ a b c h. omega arith;
  lack_covers = λ a b c h. omega arith;
  lack_least = λ a b c h. omega arith;
  full_some = some;
  full_entry = fits;
  entry_ceiling = omega arith;
  ceiling_fits = lit< tt;
  bounded = λ amounts l e. let h = parts_joined n amounts e in omega arith;
}

-- what is lacking is nothing, or all
once_lack : (a b : ℕ) → ((a ≤ b) × (cond (leb a b) 0 a ≡ 0)) ⊎ ((b < a) × (cond (leb a b) 0 a ≡ a))
once_lack a b = elim (cases_Bool (leb a b)) [
  | inl q ↦ inl (leb-true a b q, ap (λ t. cond t 0 a) q)
  | inr q ↦ inr (leb-false a b q, ap (λ t. cond t 0 a) q)
]

-- the largest of amounts up to 1 is at most 1
once_joined : (amounts : List ℕ) → Each≤ 1 amounts → joined once amounts ≤ 1
once_joined [] e = omega arith
once_joined (a ∷ amounts) e = let h = once_joined amounts e.1 in let k = e.0 in omega arith

-- taking the larger keeps the laws
pub once_laws : Laws once
once_laws = record {
  commutative = λ a b. omega arith;
  associative = λ a b c. omega arith;
  neutral = λ a. omega arith;
  monotone = λ a b c h. omega arith;
  lack_covers = λ a b c h. elim (once_lack a b) [ inl k ↦ (let l = k.0 in omega arith) | inr k ↦ (let l = k.1 in omega arith) ];
  lack_least = λ a b c h. elim (once_lack a b) [ inl k ↦ (let l = k.1 in omega arith) | inr k ↦ (let l = k.0 in let m = k.1 in omega arith) ];
  full_some = omega arith;
  full_entry = omega arith;
  entry_ceiling = omega arith;
  ceiling_fits = lit< tt;
  bounded = λ amounts l e. once_joined amounts e;
}
