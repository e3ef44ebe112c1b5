-- How many things a tuple has, and what a loop over them has gone over.
use Rattle.std.proofs.Common.{◌≡◌, ℕ, ◌<◌, ◌≤◌, List, length, get_or, Option, Some, None, sym, ap, ◌∙◌, arith}
use Rattle.std.specs.List.{zip, enumerate_from}
use Rattle.std.specs.Iterator.{Yields, YieldsFirst}
use Rattle.std.specs.Iterator.Adapters.{zip_first, zip_second, zip_steps, enumerate_source, enumerate_count, enumerate_steps}
use Rattle.std.specs.declared.iter.Zip.{Zip}
use Rattle.std.specs.declared.iter.Enumerate.{Enumerate}
use Rattle.std.proofs.lemmas.List.{map-id}
use Rattle.std.proofs.lemmas.List.FromFn.{length-enumerate_from, get_or-enumerate_from}
use Rattle.std.proofs.lemmas.Grind.{get_or_default_zero}
use Rattle.std.proofs.lemmas.Slice.Zip.{get_or-zip, length-zip}
use Rattle.std.proofs.lemmas.Iterator.{YieldsList, YieldsList-from_zip}
use Rattle.std.proofs.lemmas.Iterator.Consumers.{YieldsList-from_first, YieldsList-from_enumerate, YieldsList-turn, YieldsList-end}
use Rattle.fault.specs.Items.{things}
use Rattle.fault.specs.declared.items.Items.{Items}
use Rattle.fault.specs.declared.items.Items.TheVariants.{One, Two, Three, Four}
use Rattle.tables.specs.declared.tuple.Left.{Left}

-- a tuple has at most four things
pub few : {T : Type 0} (o : Option (Items T)) → length (things o) ≤ 4
few None = omega arith
few (Some (One a)) = omega arith
few (Some (Two a b)) = omega arith
few (Some (Three a b d)) = omega arith
few (Some (Four a b d e)) = omega arith

abbrev pub steps : {T : Type 0} → Left T → Option T → Left T → Type 0
steps = YieldsFirst (λ left. things left.0)

-- where none is left it has gone over all
pub all_yielded : {T : Type 0} (s t u : Left T) (ys xs : List T) (r : Option T) → things s.0 ≡ ys → Yields steps s xs t → r ≡ None → steps t r u → xs ≡ ys
all_yielded s t u ys xs r e y is p =
    sym (map-id xs) ∙ (YieldsList-end (YieldsList-from_first (λ x. x) (λ left. things left.0) ys e) xs t y r u is p).0

-- the same for two tuples of numbers side by side
abbrev pub pairs : Zip (Left ℕ) (Left ℕ) → Option (ℕ × ℕ) → Zip (Left ℕ) (Left ℕ) → Type 0
pairs = zip_steps steps steps

module _ (s t u : Zip (Left ℕ) (Left ℕ)) (ks vs : List ℕ) (xs : List (ℕ × ℕ)) (r : Option (ℕ × ℕ)) (a : things (zip_first s).0 ≡ ks) (b : things (zip_second s).0 ≡ vs) (y : Yields pairs s xs t) (p : pairs t r u) where
  road : YieldsList pairs (λ x. (x.0, x.1)) s (zip ks vs)
  road = YieldsList-from_zip (YieldsList-from_first (λ x. x) (λ left. things left.0) ks a) (YieldsList-from_first (λ x. x) (λ left. things left.0) vs b)

  -- each pair is of one place
  pub pair_turn : (x : ℕ × ℕ) → r ≡ Some x → (length xs < length ks) × (x.0 ≡ get_or ks (length xs) 0) × (x.1 ≡ get_or vs (length xs) 0)
  pair_turn x is =
      let k = YieldsList-turn road xs t y r u x is p in
      let m = length-zip ks vs in
      let first : length xs < length ks = omega (arith, k.0, m) in
      let second : length xs < length vs = omega (arith, k.0, m) in
      let e = k.1 ∙ get_or-zip ks vs (length xs) (x.0, x.1) first second in (
        first,
        ap (λ z. z.0) e ∙ get_or_default_zero ks (length xs) x.0 first,
        ap (λ z. z.1) e ∙ get_or_default_zero vs (length xs) x.1 second,
      )

  -- where no pair is left, the first tuple has none left, if it is no longer than the second
  pub pairs_end : length ks ≤ length vs → r ≡ None → length xs ≡ length ks
  pairs_end l is = let k = YieldsList-end road xs t y r u is p in omega (arith, k.1, length-zip ks vs, l)

-- the same for a tuple of numbers with their places
abbrev pub placed : Enumerate (Left ℕ) → Option (ℕ × ℕ) → Enumerate (Left ℕ) → Type 0
placed = enumerate_steps steps

module _ (s t u : Enumerate (Left ℕ)) (ks : List ℕ) (xs : List (ℕ × ℕ)) (r : Option (ℕ × ℕ)) (a : things (enumerate_source s).0 ≡ ks) (first : enumerate_count s ≡ 0) (y : Yields placed s xs t) (p : placed t r u) where
  way : YieldsList placed (λ x. (x.0, x.1)) s (enumerate_from 0 ks)
  way = YieldsList-from_enumerate (YieldsList-from_first (λ x. x) (λ left. things left.0) ks a) first

  -- each number stands at its place
  pub placed_turn : (x : ℕ × ℕ) → r ≡ Some x → (length xs < length ks) × (x.0 ≡ length xs) × (x.1 ≡ get_or ks (length xs) 0)
  placed_turn x is =
      let k = YieldsList-turn way xs t y r u x is p in
      let within : length xs < length ks = omega (arith, k.0, length-enumerate_from 0 ks) in
      let e = k.1 ∙ get_or-enumerate_from 0 ks (length xs) (x.0, x.1) within in (
        within,
        omega (arith, ap (λ z. z.0) e),
        ap (λ z. z.1) e ∙ get_or_default_zero ks (length xs) x.1 within,
      )

  -- where no number is left it has gone over all
  pub placed_end : r ≡ None → length xs ≡ length ks
  placed_end is = let k = YieldsList-end way xs t y r u is p in omega (arith, k.1, length-enumerate_from 0 ks)
