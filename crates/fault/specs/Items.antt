-- One to four things as a list, and what the methods that take a closure answer.
use Rattle.std.specs.Prelude.{◌≡◌, ℕ, zero, suc, Bool, true, false, ◌⊎◌, List, [], ◌∷◌, Some, None, Option}
use Rattle.fault.specs.declared.items.Items.{Items}
use Rattle.fault.specs.declared.items.Items.TheVariants.{One, Two, Three, Four}

-- the things in their order
abbrev pub list : {T : Type 0} → Items T → List T
list (One a) = a ∷ []
list (Two a b) = a ∷ b ∷ []
list (Three a b c) = a ∷ b ∷ c ∷ []
list (Four a b c d) = a ∷ b ∷ c ∷ d ∷ []

-- those of an optional one to four
abbrev pub things : {T : Type 0} → Option (Items T) → List T
things None = []
things (Some items) = list items

-- the one at a place, or none past the end
abbrev pub nth : {T : Type 0} → List T → ℕ → Option T
nth [] i = None
nth (x ∷ xs) zero = Some x
nth (x ∷ xs) (suc i) = nth xs i

-- E says what a call at a thing may return: the first call that returns false makes r false, and r is true where none does
abbrev pub all_in_turn : {T : Type 0} → (T → Bool → Type 0) → List T → Bool → Type 0
all_in_turn E [] r = r ≡ true
all_in_turn E (x ∷ xs) r = (E x false × (r ≡ false)) ⊎ (E x true × all_in_turn E xs r)

pub record AllAnswer {T : Type 0} (E : T → Bool → Type 0) (xs : List T) (r : Bool) : Type 0 where
  pub in_turn : all_in_turn E xs r

-- the first call that returns true makes r true, and r is false where none does
abbrev pub any_in_turn : {T : Type 0} → (T → Bool → Type 0) → List T → Bool → Type 0
any_in_turn E [] r = r ≡ false
any_in_turn E (x ∷ xs) r = (E x true × (r ≡ true)) ⊎ (E x false × any_in_turn E xs r)

pub record AnyAnswer {T : Type 0} (E : T → Bool → Type 0) (xs : List T) (r : Bool) : Type 0 where
  pub in_turn : any_in_turn E xs r

-- some call may return nothing
abbrev pub SomeNone : {T U : Type 0} → (T → Option U → Type 0) → List T → Type 0
SomeNone E [] = ⊥
SomeNone E (x ∷ xs) = E x None ⊎ SomeNone E xs
