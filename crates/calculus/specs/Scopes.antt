-- Scopes: which names may be used where, which names may be bound, and which types are well formed.
use Rattle.std.specs.Prelude.{◌≡◌, ℕ, zero, suc, ◌<◌, ◌≤◌, Bool, true, false, ◌&&◌, List, [], ◌∷◌, nat_lt}
use Rattle.std.specs.List.{AllByRecursion}
use Rattle.calculus.specs.Lists.{◌∈◌, every}
use Rattle.calculus.specs.Labels.{Label, items}
use Rattle.calculus.specs.Types.{Name, Item, name, index, Entry, NameType, pure, public, channel, Assignment}

-- a scope says of each name whether it may be used
abbrev pub Scope : Type 0
Scope = Name → Bool

-- x is one of the 64 names, and in scope
abbrev pub in_scope : Scope → Name → Bool
in_scope Γ x = nat_lt x 64 && Γ x

-- each name of the label is in scope
abbrev pub label_in_scope : Scope → Label Name → Bool
label_in_scope Γ L = every (in_scope Γ) (items L)

-- names that may be bound together: each is one of the 64, not in scope yet, and bound once
abbrev pub Fresh : List Name → Scope → Type 0
Fresh [] Γ = Unit {0}
Fresh (z ∷ zs) Γ = (z < 64) × (Γ z ≡ false) × (z ∈ zs → ⊥) × Fresh zs Γ

-- one level further in: what was u levels out is u + 1 levels out
abbrev pub push : {A : Type 0} → A → (ℕ → A) → ℕ → A
push a outer zero = a
push a outer (suc u) = outer u

-- an item may stand in a type: a name in scope, or an argument that comes before; `before u` is how many arguments of the channel u levels out do
abbrev pub WellFormedItem : Scope → (ℕ → ℕ) → Item → Type 0
WellFormedItem Γ before (name x) = in_scope Γ x ≡ true
WellFormedItem Γ before (index u p) = p < before u

-- an entry may stand in a type
abbrev pub WellFormedEntry : Scope → (ℕ → ℕ) → Entry → Type 0
WellFormedEntry Γ before e = AllByRecursion (WellFormedItem Γ before) (items e.label)

-- a type inside other channel types: it has at most four components; the entries of a channel may speak of all its arguments,
-- component i of the i arguments before it
abbrev pub WellFormedInside : Scope → (ℕ → ℕ) → NameType → Type 0
WellFormedInside Γ before pure = Unit {0}
WellFormedInside Γ before public = Unit {0}
WellFormedInside Γ before (channel n components entries) =
    (n ≤ 4) × AllByRecursion (WellFormedEntry Γ (push n before)) entries × ((i : ℕ) → i < n → WellFormedInside Γ (push i before) (components i))

-- no channel lies further out
abbrev pub outermost : ℕ → ℕ
outermost u = 0

-- a name's type is well formed
abbrev pub WellFormed : Scope → NameType → Type 0
WellFormed Γ t = WellFormedInside Γ outermost t

-- each name in scope has a well-formed type
abbrev pub WellFormedEnvironment : Assignment → Scope → Type 0
WellFormedEnvironment types Γ = (x : Name) → in_scope Γ x ≡ true → WellFormed Γ (types x)
