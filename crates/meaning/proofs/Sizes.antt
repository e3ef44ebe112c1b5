-- Where every node is a child just once, no process of a node has more nodes than stand from that node on.
use Rattle.std.proofs.Common.{◌≡◌, ℕ, zero, suc, ◌+◌, ◌*◌, ◌<◌, ◌≤◌, Bool, true, false, cond, eqb, List, [], ◌∷◌, length, get_or, drop, sum_by, sym, refl, ap, ◌∙◌, subst, ap₂, ⊎_elim, le_trans, le_refl, add-mul, one-mul, zero-mul, add-one, arith}
use Rattle.std.proofs.lemmas.List.{drop_more, drop_all}
use Rattle.std.proofs.lemmas.List.Sums.{sum_by-cons}
use Rattle.std.proofs.lemmas.Bool.{cases_lt, cases_order, eq-eqb, ne_eqb}
use Rattle.calculus.specs.Processes.{Process, size}
use Rattle.tables.specs.declared.tables.Node.{Node}
use Rattle.tables.specs.declared.tables.Node.TheVariants.{Stop, Send, Receive, Both, Copy, New, Test, Begin, End}
use Rattle.sheet.specs.Tree.{children, node_at, times, named}
use Rattle.meaning.specs.Processes.{shape, process_at}

-- f at each member, added
abbrev pub total : {A : Type 0} → (A → ℕ) → List A → ℕ
total f [] = 0
total f (a ∷ l) = f a + total f l

sum_total : {A : Type 0} (f : A → ℕ) (l : List A) → sum_by f l ≡ total f l
sum_total f [] = refl
sum_total f (a ∷ l) = sum_by-cons f a l ∙ ap (λ n. f a + n) (sum_total f l)

total_alike : {A : Type 0} (f g : A → ℕ) (l : List A) → ((a : A) → f a ≡ g a) → total f l ≡ total g l
total_alike f g [] h = refl
total_alike f g (a ∷ l) h = ap₂ ◌+◌ (h a) (total_alike f g l h)

-- v where the numbers are the same, else 0
abbrev pub on : ℕ → ℕ → ℕ → ℕ
on a m v = cond (eqb a m) v 0

on_same : (a m v : ℕ) → a ≡ m → on a m v ≡ v
on_same a m v e = ap (λ b. cond b v 0) (eq-eqb a m e)

pub on_other : (a m v : ℕ) → (a ≡ m → ⊥) → on a m v ≡ 0
on_other a m v e = ap (λ b. cond b v 0) (ne_eqb a m e)

-- how often m is named as a child, as such a sum
pub named_total : (nodes : List Node) (m : ℕ) → named nodes m ≡ total (λ x. total (λ a. on a m 1) (children x)) nodes
named_total nodes m = sum_total (λ x. times m (children x)) nodes ∙ total_alike _ _ nodes (λ x. sum_total (λ a. cond (eqb a m) 1 0) (children x))

-- f at each number from i on, k of them
abbrev range : (ℕ → ℕ) → ℕ → ℕ → ℕ
range f i zero = 0
range f i (suc k) = f i + range f (suc i) k

range_plus : (f g : ℕ → ℕ) (i k : ℕ) → range (λ m. f m + g m) i k ≡ range f i k + range g i k
range_plus f g i zero = refl
range_plus f g i (suc k) = let h = range_plus f g (suc i) k in omega arith

range_zero : (i k : ℕ) → range (λ m. 0) i k ≡ 0
range_zero i zero = refl
range_zero i (suc k) = let h = range_zero (suc i) k in omega arith

range_le : (f g : ℕ → ℕ) (i k : ℕ) → ((m : ℕ) → i ≤ m → m < i + k → f m ≤ g m) → range f i k ≤ range g i k
range_le f g i zero h = le_refl 0
range_le f g i (suc k) h =
    let t = range_le f g (suc i) k (λ m a b. h m (omega arith) (omega arith)) in let u = h i (le_refl i) (omega arith) in omega arith

range_past : (f : ℕ → ℕ) (a i k : ℕ) → a < i → range (λ m. on a m (f m)) i k ≡ 0
range_past f a i zero l = refl
range_past f a i (suc k) l = let h = range_past f a (suc i) k (omega arith) in let o = on_other a i (f i) (λ e. omega arith) in omega arith

-- a number of the range is met once
range_on : (f : ℕ → ℕ) (a i k : ℕ) → i ≤ a → a < i + k → range (λ m. on a m (f m)) i k ≡ f a
range_on f a i zero l h = absurd (omega arith)
range_on f a i (suc k) l h =
    ⊎_elim
    (λ e. let o = on_same a i (f i) e in let p = range_past f a (suc i) k (omega arith) in let q = ap f e in omega arith)
    (⊎_elim
    (λ q. absurd (omega arith))
    (λ q. let t = range_on f a (suc i) k (omega arith) (omega arith) in let o = on_other a i (f i) (λ e. omega arith) in omega arith))
    (cases_order a i)

-- each of the list is from i on and below e
abbrev pub Inside : ℕ → ℕ → List ℕ → Type 0
Inside i e [] = Unit {0}
Inside i e (a ∷ l) = (i ≤ a) × (a < e) × Inside i e l

-- the sum over a list, by number
spread : (f : ℕ → ℕ) (i k : ℕ) (l : List ℕ) → Inside i (i + k) l → total f l ≡ range (λ m. total (λ a. on a m (f m)) l) i k
spread f i k [] h = sym (range_zero i k)
spread f i k (a ∷ l) h =
    let p = range_on f a i k h.0 h.1 in
    let q = spread f i k l h.2 in
    let r = range_plus (λ m. on a m (f m)) (λ m. total (λ b. on b m (f m)) l) i k in
    omega arith

one_each : (v : ℕ) (b : Bool) → cond b v 0 ≡ cond b 1 0 * v
one_each v true = sym (one-mul v)
one_each v false = sym (zero-mul v)

times_of : (m v : ℕ) (l : List ℕ) → total (λ a. on a m v) l ≡ total (λ a. on a m 1) l * v
times_of m v [] = sym (zero-mul v)
times_of m v (a ∷ l) =
    let h = times_of m v l in let d = add-mul (on a m 1) (total (λ b. on b m 1) l) v in let o = one_each v (eqb a m) in omega arith

times_all : (m v : ℕ) (xs : List Node) → total (λ x. total (λ a. on a m v) (children x)) xs ≡ total (λ x. total (λ a. on a m 1) (children x)) xs * v
times_all m v [] = sym (zero-mul v)
times_all m v (x ∷ xs) =
    let h = times_all m v xs in
    let t = times_of m v (children x) in
    let d = add-mul (total (λ b. on b m 1) (children x)) (total (λ y. total (λ a. on a m 1) (children y)) xs) v in
    omega arith

total_drop : (f : Node → ℕ) (xs : List Node) (i : ℕ) → total f (drop i xs) ≤ total f xs
total_drop f xs zero = le_refl _
total_drop f [] (suc i) = le_refl _
total_drop f (x ∷ xs) (suc i) = let h = total_drop f xs i in omega arith

few_times : (c v : ℕ) → c ≤ 1 → c * v ≤ v
few_times c v h =
    ⊎_elim
    (λ l. let e : c ≡ 0 = omega arith in omega (arith, ap (λ k. k * v) e, zero-mul v))
    (λ l. let e : c ≡ 1 = omega arith in omega (arith, ap (λ k. k * v) e, one-mul v))
    (cases_lt c 1)

-- the nodes of a process: itself, and those of its children's
shaped : (f : ℕ → Process) (x : Node) → size (shape f x) ≡ 1 + total (λ c. size (f c)) (children x)
shaped f Stop = refl
shaped f (Send channel names) = refl
shaped f (Receive channel names next) = omega arith
shaped f (Both a b) = omega arith
shaped f (Copy next) = omega arith
shaped f (New name next) = omega arith
shaped f (Test left right same other) = omega arith
shaped f (Begin label next) = omega arith
shaped f (End label next) = omega arith

module _ (nodes : List Node) (unfolds : (n : ℕ) → process_at nodes n ≡ shape (process_at nodes) (node_at nodes n))
    (inside : (n : ℕ) → n < length nodes → Inside (suc n) (length nodes) (children (node_at nodes n)))
    (once : (m : ℕ) → 0 < m → m < length nodes → named nodes m ≤ 1) where
  nodes_at : ℕ → ℕ
  nodes_at n = size (process_at nodes n)

  each : (n : ℕ) → nodes_at n ≡ 1 + total nodes_at (children (node_at nodes n))
  unfolding nodes_at
  each n = ap size (unfolds n) ∙ shaped (process_at nodes) (node_at nodes n)

  -- the sizes from i on are the children's sizes and one each
  counted : (k i : ℕ) → i + k ≡ length nodes → range nodes_at i k ≡ total (λ x. total nodes_at (children x)) (drop i nodes) + k
  counted zero i e = let d = ap (total (λ x. total nodes_at (children x))) (drop_all i nodes (omega arith)) in omega arith
  counted (suc k) i e =
      let h = counted k (suc i) (omega arith) in
      let d = ap (total (λ x. total nodes_at (children x))) (drop_more nodes i Stop (omega arith) ∙ ap (λ j. get_or nodes i Stop ∷ drop j nodes) (add-one i)) in
      let s = each i in
      omega arith

  lift : (i j e : ℕ) (l : List ℕ) → i ≤ j → Inside j e l → Inside i e l
  lift i j e [] h t = tt
  lift i j e (a ∷ l) h t = (omega (arith, t.0), t.1, lift i j e l h t.2)

  -- the children of the nodes from j on, by number
  by_number : (f : ℕ → ℕ) (lo w : ℕ) → lo + w ≡ length nodes → (k j : ℕ) → j + k ≡ length nodes → lo ≤ suc j
      → total (λ x. total f (children x)) (drop j nodes) ≡ range (λ m. total (λ x. total (λ a. on a m (f m)) (children x)) (drop j nodes)) lo w
  by_number f lo w r zero j e h =
      let d = drop_all j nodes (omega arith) in
      ap (total (λ x. total f (children x))) d ∙ sym (range_zero lo w) ∙ ap (λ l. range (λ m. total (λ x. total (λ a. on a m (f m)) (children x)) l) lo w) (sym d)
  by_number f lo w r (suc k) j e h =
      let d = drop_more nodes j Stop (omega arith) ∙ ap (λ i. get_or nodes j Stop ∷ drop i nodes) (add-one j) in
      let x = get_or nodes j Stop in
      let xs = drop (suc j) nodes in
      let one = spread f lo w (children x) (subst (λ (z : ℕ). Inside lo z (children x)) (sym r) (lift lo (suc j) (length nodes) (children x) h (inside j (omega arith)))) in
      let rest = by_number f lo w r k (suc j) (omega arith) (omega arith) in
      ap (total (λ x. total f (children x))) d ∙ ap₂ ◌+◌ one rest
      ∙ sym (range_plus (λ m. total (λ a. on a m (f m)) (children x)) (λ m. total (λ y. total (λ a. on a m (f m)) (children y)) xs) lo w)
      ∙ ap (λ l. range (λ m. total (λ x. total (λ a. on a m (f m)) (children x)) l) lo w) (sym d)

  -- no number is named more than once from i on
  at_most : (i m : ℕ) → 0 < m → m < length nodes → total (λ x. total (λ a. on a m (nodes_at m)) (children x)) (drop i nodes) ≤ nodes_at m
  at_most i m p l =
      let t = times_all m (nodes_at m) (drop i nodes) in
      let c = total (λ x. total (λ a. on a m 1) (children x)) (drop i nodes) in
      let few = le_trans (total_drop (λ x. total (λ a. on a m 1) (children x)) nodes i) (subst (λ k. k ≤ 1) (named_total nodes m) (once m p l)) in
      let b = few_times c (nodes_at m) few in
      omega arith

  pub size_le : (i w : ℕ) → suc i + w ≡ length nodes → size (process_at nodes i) ≤ suc w
  unfolding nodes_at
  size_le i w e =
      let a = counted (suc w) i (omega arith) in
      let b = by_number nodes_at (suc i) w e (suc w) i (omega arith) (le_refl _) in
      let c = range_le (λ m. total (λ x. total (λ a. on a m (nodes_at m)) (children x)) (drop i nodes)) nodes_at (suc i) w (λ m x y. at_most i m (omega arith) (omega arith)) in
      omega arith
