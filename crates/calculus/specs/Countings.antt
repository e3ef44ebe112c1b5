-- Countings: how amounts of a right are joined, and the five laws that every counting keeps.
-- An amount is a whole number; a right that is given or used up whole is one full right.
use Rattle.std.specs.Prelude.{◌≡◌, ℕ, ◌^◌, ◌<◌, ◌≤◌, List, [], ◌∷◌, length}

-- what a counting does
pub record Operations : Type 0 where
  -- the amount of one full right
  pub full : ℕ
  -- the largest amount that a type may give a label in one entry
  pub largest : ℕ
  -- the largest amount that is ever answered
  pub ceiling : ℕ
  -- two amounts joined
  pub join : ℕ → ℕ → ℕ
  -- what the first amount still lacks once the second is there
  pub lack : ℕ → ℕ → ℕ

-- a list of amounts joined; of none it is 0
abbrev pub joined : Operations → List ℕ → ℕ
joined K [] = 0
joined K (a ∷ rest) = K.join a (joined K rest)

-- each amount is at most b
abbrev pub Each≤ : ℕ → List ℕ → Type 0
Each≤ b [] = Unit {0}
Each≤ b (a ∷ rest) = (a ≤ b) × Each≤ b rest

-- the five laws, over all whole numbers
pub record Laws (K : Operations) : Type 0 where
  -- 1. joining is alike in either order and any bracketing, and joining with 0 changes no number
  pub commutative : (a b : ℕ) → K.join a b ≡ K.join b a
  pub associative : (a b c : ℕ) → K.join (K.join a b) c ≡ K.join a (K.join b c)
  pub neutral : (a : ℕ) → K.join a 0 ≡ a
  -- 2. joining keeps the order
  pub monotone : (a b c : ℕ) → a ≤ b → K.join a c ≤ K.join b c
  -- 3. the lack of a against b is the least amount that joins with b to a or more
  pub lack_covers : (a b c : ℕ) → K.lack a b ≤ c → a ≤ K.join b c
  pub lack_least : (a b c : ℕ) → a ≤ K.join b c → K.lack a b ≤ c
  -- 4. a full right is something and fits an entry, an entry fits the ceiling, and the ceiling fits 32 bits
  pub full_some : 1 ≤ K.full
  pub full_entry : K.full ≤ K.largest
  pub entry_ceiling : K.largest ≤ K.ceiling
  pub ceiling_fits : K.ceiling < 2 ^ 32
  -- 5. no 8,192 amounts that fit an entry join past the ceiling
  pub bounded : (amounts : List ℕ) → length amounts ≤ 8192 → Each≤ K.largest amounts → joined K amounts ≤ K.ceiling
