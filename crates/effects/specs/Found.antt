-- Faults that are found among the amounts, label by label, and the first of them.
use Rattle.std.specs.Prelude.{◌≡◌, ℕ, zero, suc, ◌<◌, Bool, true, false, cond, not, ◌&&◌, ◌||◌, ◌⊎◌, List, [], ◌∷◌, Some, None, Option, ◌==◌, nat_lt}
use Rattle.calculus.specs.Countings.{Operations}
use Rattle.calculus.specs.Lists.{◌∈◌}
use Rattle.fault.specs.Items.{list}
use Rattle.fault.specs.declared.label.Label.{Label}
use Rattle.tables.specs.declared.tables.Node.{Node}
use Rattle.tables.specs.declared.tables.Node.TheVariants.{Stop, Send, Receive, Both, Copy, New, Test, Begin, End}
use Rattle.sheet.specs.Scope.{member, binds}
use Rattle.sheet.specs.Tree.{node_at}
use Rattle.effects.specs.Rows.{Row, places}
use Rattle.effects.specs.declared.found.Found.{Found}

-- one of the names stands in the list
abbrev pub meets : List ℕ → List ℕ → Bool
meets [] xs = false
meets (z ∷ zs) xs = member z xs || meets zs xs

-- the first items that differ decide; a missing item comes after every item
abbrev pub before : List ℕ → List ℕ → Bool
before [] ys = false
before (x ∷ xs) [] = true
before (x ∷ xs) (y ∷ ys) = cond (x == y) (before xs ys) (nat_lt x y)

-- one label comes before another
abbrev pub label_before : Label ℕ → Label ℕ → Bool
label_before L M = before (list L.items) (list M.items)

-- at a copy, the amount joined with itself differs
abbrev pub uncopyable : Operations → ℕ → Node → Bool
uncopyable K a Stop = false
uncopyable K a (Send channel xs) = false
uncopyable K a (Receive channel xs next) = false
uncopyable K a (Both first second) = false
uncopyable K a (Copy next) = not (K.join a a == a)
uncopyable K a (New name next) = false
uncopyable K a (Test left right same other) = false
uncopyable K a (Begin l next) = false
uncopyable K a (End l next) = false

-- an amount of a label is at fault at a node: the label names a name that is bound there, or the amount cannot be copied
abbrev pub bad : Operations → Node → Label ℕ → ℕ → Bool
bad K x L a = not (a == 0) && (meets (binds x) (list L.items) || uncopyable K a x)

-- the label is at fault at a place, where the nodes have the amounts A; the root is at fault where it needs anything
abbrev pub fails : Operations → List Node → Label ℕ → (ℕ → ℕ) → Option ℕ → Bool
fails K all L A None = not (A 0 == 0)
fails K all L A (Some n) = bad K (node_at all n) L (A n)

-- the node whose amount is meant
abbrev pub node_of : Option ℕ → ℕ
node_of None = 0
node_of (Some n) = n

-- places of a higher rank are told first: the higher nodes before the lower, and the root last
abbrev pub rank : Option ℕ → ℕ
rank None = 0
rank (Some n) = suc n

-- f is told before b
abbrev pub sooner : Found → Found → Bool
sooner f b = nat_lt (rank b.place) (rank f.place) || (rank b.place == rank f.place && label_before f.label b.label)

-- the sooner of the two, if there are two
abbrev pub pick : Option Found → Found → Option Found
pick None f = Some f
pick (Some b) f = cond (sooner f b) (Some f) (Some b)

-- the last of the first n places where f holds; or it holds at none of them
abbrev pub LastBad : (ℕ → Bool) → (n : ℕ) → Option ℕ → Type 0
LastBad f n None = (m : ℕ) → m < n → f m ≡ false
LastBad f n (Some k) = (k < n) × (f k ≡ true) × ((m : ℕ) → k < m → m < n → f m ≡ false)

-- at this label no place is at fault, or this is the place that is told first
abbrev pub Highest : Operations → List Node → Label ℕ → (ℕ → ℕ) → Option Found → Type 0
Highest K all L A None = (p : Option ℕ) → fails K all L A p ≡ false
Highest K all L A (Some f) =
    (fails K all L A f.place ≡ true) × (f.label ≡ L) × (f.amount ≡ A (node_of f.place))
    × ((p : Option ℕ) → rank f.place < rank p → fails K all L A p ≡ false)

-- the label at this place is not told before f
abbrev pub Later : Found → Option ℕ → Label ℕ → Type 0
Later f p L = (rank p < rank f.place) ⊎ ((rank p ≡ rank f.place) × (label_before L f.label ≡ false))

-- of the labels S none is at fault; or this is a fault, and none of S is told before it
abbrev pub FirstIn : Operations → List Node → (Label ℕ → ℕ → ℕ) → List (Label ℕ) → Option Found → Type 0
FirstIn K all A S None = (L : Label ℕ) → L ∈ S → (p : Option ℕ) → fails K all L (A L) p ≡ false
FirstIn K all A S (Some f) =
    (fails K all f.label (A f.label) f.place ≡ true) × (f.amount ≡ A f.label (node_of f.place))
    × ((L : Label ℕ) → L ∈ S → (p : Option ℕ) → fails K all L (A L) p ≡ true → Later f p L)

-- the same of all labels
abbrev pub FirstOf : Operations → List Node → (Label ℕ → ℕ → ℕ) → Option Found → Type 0
FirstOf K all A None = (L : Label ℕ) (p : Option ℕ) → fails K all L (A L) p ≡ false
FirstOf K all A (Some f) =
    (fails K all f.label (A f.label) f.place ≡ true) × (f.amount ≡ A f.label (node_of f.place))
    × ((L : Label ℕ) (p : Option ℕ) → fails K all L (A L) p ≡ true → Later f p L)

-- nodes that bring labels in
abbrev pub asks : Node → Bool
asks Stop = false
asks (Send channel xs) = true
asks (Receive channel xs next) = false
asks (Both first second) = false
asks (Copy next) = false
asks (New name next) = false
asks (Test left right same other) = false
asks (Begin l next) = false
asks (End l next) = true

-- the label of a row that has an amount, before those of S
abbrev pub with_row : Row → List (Label ℕ) → List (Label ℕ)
with_row r S = cond (r.amount == 0) S (r.label ∷ S)

-- the labels of the rows that have an amount, before those of S
abbrev pub brought : List Row → List (Label ℕ) → List (Label ℕ)
brought [] S = S
brought (r ∷ rs) S = brought rs (with_row r S)

-- the labels that the rows of the first n nodes bring in
abbrev pub tried : List Node → List Row → ℕ → List (Label ℕ)
tried all table zero = []
tried all table (suc n) = cond (asks (node_at all n)) (brought (places table n) (tried all table n)) (tried all table n)
