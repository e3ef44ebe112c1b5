-- What opening established, in the terms of the calculus: how large a process is, and how small the entries are.
use Rattle.std.proofs.Common.{◌≡◌, ℕ, zero, suc, ◌+◌, ◌-◌, ◌<◌, ◌≤◌, Bool, true, false, not, ◌&&◌, eqb, ltb, leb, List, [], ◌∷◌, map, length, get_or, sym, ap, ◌∙◌, ⊎_elim, arith}
use Rattle.std.specs.List.{AllByRecursion}
use Rattle.std.proofs.lemmas.List.{length-map, get_or_past}
use Rattle.std.proofs.lemmas.Bool.{and_parts, and_cases, or_parts, not-false, both_ways, cases_lt, eqb-true, leb-true, lt-ltb, ltb-true}
use Rattle.calculus.specs.Countings.{Operations}
use Rattle.calculus.specs.Ceiling.{EntriesSmall}
use Rattle.calculus.specs.Processes.{size}
use Rattle.calculus.specs.Types as calculus
use Rattle.fault.specs.Items.{list}
use Rattle.tables.specs.Channels.{entries}
use Rattle.tables.specs.Elements.{elements}
use Rattle.tables.specs.Encoding.{parts}
use Rattle.tables.specs.Range.{all, all_from, below, item_fits, entry_fits, type_fits, node_fits}
use Rattle.tables.specs.Shares.{Entry}
use Rattle.tables.specs.declared.tables.Node.{Node}
use Rattle.tables.specs.declared.tables.Node.TheVariants.{Stop, Send, Receive, Both, Copy, New, Test, Begin, End}
use Rattle.tables.specs.declared.tables.SheetType.{SheetType}
use Rattle.tables.specs.declared.tables.SheetType.TheVariants.{Pure, Public, Channel}
use Rattle.tables.specs.declared.tables.Tables.{Tables}
use Rattle.sheet.specs.Tree.{children, node_at, named, misgrown}
use Rattle.sheet.specs.Types.{type_at}
use Rattle.sheet.specs.Opening.{Sound}
use Rattle.meaning.specs.Processes.{process_at}
use Rattle.meaning.specs.Types.{entry, form, type_within, types_of}
use Rattle.meaning.proofs.Scopes.{tree_of, fits_of}
use Rattle.meaning.proofs.Sizes.{Inside, size_le}
use Rattle.meaning.proofs.Unfolding.{process_unfolds}

-- children above their parent and below the count
two_inside : (n e a b : ℕ) → all (λ c. ltb n c) (a ∷ b ∷ []) ≡ true → (ltb a e && ltb b e) ≡ true → Inside (suc n) e (a ∷ b ∷ [])
two_inside n e a b h f =
    let p = and_parts (ltb n a) (all (λ c. ltb n c) (b ∷ [])) h in
    let q = and_parts (ltb n b) true p.1 in
    let r = and_parts (ltb a e) (ltb b e) f in
    (ltb-true n a p.0, ltb-true a e r.0, (ltb-true n b q.0, ltb-true b e r.1, tt))

one_inside : (n e a : ℕ) → all (λ c. ltb n c) (a ∷ []) ≡ true → ltb a e ≡ true → Inside (suc n) e (a ∷ [])
one_inside n e a h f = let p = and_parts (ltb n a) true h in (ltb-true n a p.0, ltb-true a e f, tt)

inside_of : (names e n : ℕ) (x : Node) → all (λ c. ltb n c) (children x) ≡ true → node_fits names e x ≡ true → Inside (suc n) e (children x)
inside_of names e n Stop h f = tt
inside_of names e n (Send channel xs) h f = tt
inside_of names e n (Receive channel xs next) h f = one_inside n e next h (and_parts (ltb channel names && below names (parts xs)) (ltb next e) f).1
inside_of names e n (Both a b) h f = two_inside n e a b h f
inside_of names e n (Copy next) h f = one_inside n e next h f
inside_of names e n (New x next) h f = one_inside n e next h (and_parts (ltb x names) (ltb next e) f).1
inside_of names e n (Test left right same other) h f = two_inside n e same other h (and_parts (ltb left names && ltb right names) (ltb same e && ltb other e) f).1
inside_of names e n (Begin label next) h f = one_inside n e next h (and_parts (below names (list label.items)) (ltb next e) f).1
inside_of names e n (End label next) h f = one_inside n e next h (and_parts (below names (list label.items)) (ltb next e) f).1

above_all : (nodes : List Node) (n : ℕ) → misgrown nodes n ≡ false → all (λ c. ltb n c) (children (node_at nodes n)) ≡ true
above_all nodes n g = not-false _ (or_parts (not (all (λ c. ltb n c) (children (node_at nodes n)))) (ltb 0 n && not (eqb (named nodes n) 1)) g).0

named_once : (nodes : List Node) (n : ℕ) → misgrown nodes n ≡ false → 0 < n → named nodes n ≤ 1
named_once nodes n g l =
    let b = (or_parts (not (all (λ c. ltb n c) (children (node_at nodes n)))) (ltb 0 n && not (eqb (named nodes n) 1)) g).1 in
    ⊎_elim
    (λ z. absurd (both_ways (ltb 0 n) z (lt-ltb 0 n l)))
    (λ e. let s = eqb-true (named nodes n) 1 (not-false _ e) in omega arith)
    (and_cases (ltb 0 n) (not (eqb (named nodes n) 1)) b)

-- an element passes under its own number
passes_at : {A : Type 0} (p : ℕ → A → Bool) (i : ℕ) (xs : List A) (k : ℕ) (d : A) → k < length xs → all_from p i xs ≡ true → p (i + k) (get_or xs k d) ≡ true
passes_at p i [] k d l h = absurd (omega arith)
passes_at p i (x ∷ xs) zero d l h = let z : i + 0 ≡ i = omega arith in ap (λ j. p j x) z ∙ (and_parts (p i x) (all_from p (suc i) xs) h).0
passes_at p i (x ∷ xs) (suc k) d l h =
    let z : i + suc k ≡ suc i + k = omega arith in
    ap (λ j. p j (get_or xs k d)) z ∙ passes_at p (suc i) xs k d (omega arith) (and_parts (p i x) (all_from p (suc i) xs) h).1

-- entries in range are small
pub small_entries : (largest names : ℕ) (es : List Entry) → all (entry_fits largest names) es ≡ true → AllByRecursion (λ e. e.amount ≤ largest) (map entry es)
small_entries largest names [] h = tt
small_entries largest names (e ∷ es) h =
    let p = and_parts (entry_fits largest names e) (all (entry_fits largest names) es) h in
    let q = and_parts (leb 1 e.amount && leb e.amount largest) (all (item_fits names) (list e.label.items)) p.0 in
    (leb-true e.amount largest (and_parts (leb 1 e.amount) (leb e.amount largest) q.0).1, small_entries largest names es p.1)

small_form : (K : Operations) (names i : ℕ) (f : ℕ → calculus.NameType) (x : SheetType) → type_fits K.largest names i x ≡ true → length (entries x) ≤ 8 → EntriesSmall K (form f x)
small_form K names i f Pure h l = tt
small_form K names i f Public h l = tt
small_form K names i f (Channel c) h l =
    let p = and_parts (below i (parts c.components)) (all (entry_fits K.largest names) (elements c.entries)) h in
    (omega (arith, length-map (elements c.entries) entry), small_entries K.largest names (elements c.entries) p.1)

module _ (K : Operations) (t : Tables) (sound : Sound K.largest t) where
  types_fit : all_from (type_fits K.largest (length (elements t.names))) 0 (elements t.types) ≡ true
  types_fit = (and_parts (all_from (type_fits K.largest (length (elements t.names))) 0 (elements t.types)) _ sound.in_range).0

  -- every type is in range
  pub fits_at : (i : ℕ) → type_fits K.largest (length (elements t.names)) i (type_at (elements t.types) i) ≡ true
  fits_at i =
      ⊎_elim
      (λ l. let z : 0 + i ≡ i = omega arith in sym (ap (λ j. type_fits K.largest (length (elements t.names)) j (type_at (elements t.types) i)) z) ∙ passes_at _ 0 (elements t.types) i Pure l types_fit)
      (λ l. ap (type_fits K.largest (length (elements t.names)) i) (get_or_past (elements t.types) i Pure l))
      (cases_lt i (length (elements t.types)))

  -- every name's type has few and small entries
  pub entries_small : (x : ℕ) → EntriesSmall K (types_of t x)
  entries_small x =
      let i = get_or (elements t.names) x (length (elements t.types)) in
      small_form K (length (elements t.names)) i (type_within (elements t.types) 3) (type_at (elements t.types) i) (fits_at i) (sound.limited.entries i)

  -- the children of a node stand above it and below the count
  pub inside_at : (n : ℕ) → n < length (elements t.nodes) → Inside (suc n) (length (elements t.nodes)) (children (node_at (elements t.nodes) n))
  inside_at n l =
      let nodes = elements t.nodes in
      inside_of (length (elements t.names)) (length nodes) n (node_at nodes n) (above_all nodes n (tree_of K.largest t sound n l)) (fits_of K.largest t sound n l)

  -- no process at a node has more nodes than the sheet
  pub node_size : (n : ℕ) → n < length (elements t.nodes) → size (process_at (elements t.nodes) n) ≤ length (elements t.nodes)
  node_size n l =
      let nodes = elements t.nodes in
      let tree = tree_of K.largest t sound in
      let e : suc n + (length nodes - suc n) ≡ length nodes = omega arith in
      let h = size_le nodes (process_unfolds nodes tree) inside_at (λ m p l. named_once nodes m (tree m l) p) n (length nodes - suc n) e in
      omega arith

  pub root_size : size (process_at (elements t.nodes) 0) ≤ length (elements t.nodes)
  root_size = node_size 0 sound.some
