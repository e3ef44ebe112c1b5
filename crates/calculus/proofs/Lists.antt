-- What the other proofs use of lists: members, places, maps, and bags with a member more or less.
use Rattle.std.proofs.Common.{◌≡◌, ℕ, zero, suc, ◌<◌, Bool, true, List, [], ◌∷◌, ◌++◌, map, length, get_or, take, sym, refl, subst, ap₂, inl, inr, arith}
use Rattle.std.specs.List.{AllByRecursion}
use Rattle.std.proofs.lemmas.Bool.{and_parts, and_from}
use Rattle.calculus.specs.Lists.{◌∈◌, every, Removal, here, there}

-- what holds of each holds of a member, and the other way round
pub all_member : {A : Type 0} (P : A → Type 0) (l : List A) → AllByRecursion P l → (x : A) → x ∈ l → P x
all_member P [] a x m = elim m [ ]
all_member P (y ∷ l) a x (inl e) = subst P (sym e) a.0
all_member P (y ∷ l) a x (inr m) = all_member P l a.1 x m

pub all_from_members : {A : Type 0} (P : A → Type 0) (l : List A) → ((x : A) → x ∈ l → P x) → AllByRecursion P l
all_from_members P [] h = tt
all_from_members P (y ∷ l) h = (h y (inl refl), all_from_members P l (λ x m. h x (inr m)))

-- a test of each member that answers true holds of each, and the other way round
pub every_all : {A : Type 0} (test : A → Bool) (l : List A) → every test l ≡ true → AllByRecursion (λ x. test x ≡ true) l
every_all test [] h = tt
every_all test (x ∷ l) h = let k = and_parts (test x) (every test l) h in (k.0, every_all test l k.1)

pub all_every : {A : Type 0} (test : A → Bool) (l : List A) → AllByRecursion (λ x. test x ≡ true) l → every test l ≡ true
all_every test [] a = refl
all_every test (x ∷ l) a = and_from (test x) (every test l) a.0 (all_every test l a.1)

-- a member has a place
pub place_of : {A : Type 0} (d x : A) (l : List A) → x ∈ l → (i : ℕ) × (i < length l) × (get_or l i d ≡ x)
place_of d x [] m = elim m [ ]
place_of d x (y ∷ l) (inl e) = (0, omega arith, sym e)
place_of d x (y ∷ l) (inr m) = let r = place_of d x l m in (suc r.0, (let h = r.1 in omega arith), r.2)

-- a member of a front is a member
pub member_of_front : {A : Type 0} (i : ℕ) (l : List A) (x : A) → x ∈ take i l → x ∈ l
member_of_front zero l x m = elim m [ ]
member_of_front (suc i) [] x m = elim m [ ]
member_of_front (suc i) (y ∷ l) x (inl e) = inl e
member_of_front (suc i) (y ∷ l) x (inr m) = inr (member_of_front i l x m)

-- the member of a list of one
pub only_member : {A : Type 0} (x y : A) → x ∈ (y ∷ []) → x ≡ y
only_member x y (inl e) = e
only_member x y (inr m) = elim m [ ]

-- members of the first or the second list are members of both one after the other
pub member_left : {A : Type 0} (x : A) (l m : List A) → x ∈ l → x ∈ (l ++ m)
member_left x [] m h = elim h [ ]
member_left x (y ∷ l) m (inl e) = inl e
member_left x (y ∷ l) m (inr h) = inr (member_left x l m h)

pub member_right : {A : Type 0} (x : A) (l m : List A) → x ∈ m → x ∈ (l ++ m)
member_right x [] m h = h
member_right x (y ∷ l) m h = inr (member_right x l m h)

-- functions that agree on the members map alike
pub map_alike : {A B : Type 0} (P : A → Type 0) (f g : A → B) → ((x : A) → P x → f x ≡ g x) → (l : List A) → AllByRecursion P l → map f l ≡ map g l
map_alike P f g h [] a = refl
map_alike P f g h (x ∷ l) a = ap₂ ◌∷◌ (h x a.0) (map_alike P f g h l a.1)

pub map_alike_members : {A B : Type 0} (f g : A → B) (l : List A) → ((x : A) → x ∈ l → f x ≡ g x) → map f l ≡ map g l
map_alike_members f g l h = map_alike (λ x. x ∈ l) f g h l (all_from_members (λ x. x ∈ l) l (λ x m. m))

-- what holds of each member of a bag holds of the one taken out and of the rest, and the other way round
pub removal_all : {A : Type 0} (P : A → Type 0) {x : A} {l r : List A} → Removal x l r → AllByRecursion P l → P x × AllByRecursion P r
removal_all P here a = a
removal_all P (there k) a = let h = removal_all P k a.1 in (h.0, (a.0, h.1))

pub insertion_all : {A : Type 0} (P : A → Type 0) {x : A} {l r : List A} → Removal x l r → P x → AllByRecursion P r → AllByRecursion P l
insertion_all P here h a = (h, a)
insertion_all P (there k) h a = (a.0, insertion_all P k h a.1)
