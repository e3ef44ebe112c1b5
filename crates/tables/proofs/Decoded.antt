-- What is in range is got back from its record.
use Rattle.std.proofs.Common.{◌≡◌, ℕ, ◌+◌, ◌-◌, ◌*◌, ◌/◌, ◌%◌, ◌≤◌, true, false, eqb, ltb, map, length, Option, Some, None, refl, ap, ◌∙◌, ap₂, arith}
use Rattle.std.specs.Option.{option_map}
use Rattle.std.proofs.lemmas.Bool.{ltb-true, leb-true, lt-ltb, le-ltb, ne_eqb, and_parts, and_from}
use Rattle.fault.specs.Items.{list, things}
use Rattle.fault.specs.declared.items.Items.{Items}
use Rattle.fault.specs.declared.items.Items.TheVariants.{One, Two, Three, Four}
use Rattle.fault.specs.declared.label.Label.{Label}
use Rattle.tables.specs.Encoding.{parts, spread, item_byte, node_record}
use Rattle.tables.specs.Decoding.{used, counted, tuple_of, label_of, item_of, longer, items_in, entry_of, node_of}
use Rattle.tables.specs.Range.{all, below, item_fits, entry_fits, node_fits}
use Rattle.tables.specs.declared.tuple.Tuple.{Tuple}
use Rattle.tables.specs.declared.tables.Item.{Item}
use Rattle.tables.specs.declared.tables.Item.TheVariants.{Name, Index}
use Rattle.tables.specs.Shares.{Entry}
use Rattle.tables.specs.declared.tables.Node.{Node}
use Rattle.tables.specs.declared.tables.Node.TheVariants.{Stop, Send, Receive, Both, Copy, New, Test, Begin, End}

-- a number below n is no byte that means unused
used_byte : (n x : ℕ) → n ≤ 255 → ltb x n ≡ true → eqb x 255 ≡ false
used_byte n x l h = let k = ltb-true x n h in ne_eqb x 255 (λ e. omega arith)

module _ (n : ℕ) (few : n ≤ 255) where
  used_back : (xs : Items ℕ) → below n (list xs) ≡ true → used (spread (list xs)) ≡ Some xs
  used_back (One a) h = rw (used_byte n a few (and_parts _ _ h).0) refl
  used_back (Two a b) h =
      let p = and_parts _ _ h in
      let q = and_parts _ _ p.1 in
      rw (used_byte n a few p.0, used_byte n b few q.0) refl
  used_back (Three a b c) h =
      let p = and_parts _ _ h in
      let q = and_parts _ _ p.1 in
      let r = and_parts _ _ q.1 in
      rw (used_byte n a few p.0, used_byte n b few q.0, used_byte n c few r.0) refl
  used_back (Four a b c d) h =
      let p = and_parts _ _ h in
      let q = and_parts _ _ p.1 in
      let r = and_parts _ _ q.1 in
      let s = and_parts _ _ r.1 in
      rw (used_byte n a few p.0, used_byte n b few q.0, used_byte n c few r.0, used_byte n d few s.0) refl

  items_given : (o : Option (Items ℕ)) → below n (things o) ≡ true → tuple_of (length (things o)) (spread (things o)) ≡ Some (record { 0 = o })
  items_given None h = refl
  items_given (Some (One a)) h = ap (counted 1) (used_back (One a) h)
  items_given (Some (Two a b)) h = ap (counted 2) (used_back (Two a b) h)
  items_given (Some (Three a b c)) h = ap (counted 3) (used_back (Three a b c) h)
  items_given (Some (Four a b c d)) h = ap (counted 4) (used_back (Four a b c d) h)

  pub tuple_back : (xs : Tuple ℕ) → below n (parts xs) ≡ true → tuple_of (length (parts xs)) (spread (parts xs)) ≡ Some xs
  tuple_back xs = items_given xs.0

  pub label_back : (l : Label ℕ) → below n (list l.items) ≡ true → label_of (spread (list l.items)) ≡ Some l
  label_back l h = ap (option_map (λ xs. record { items = xs })) (used_back l.items h)

  pub node_back : (nodes : ℕ) (x : Node) → node_fits n nodes x ≡ true → node_of (node_record x) ≡ Some x
  node_back nodes Stop h = refl
  node_back nodes (Send channel xs) h = ap (option_map (λ ys. Send channel ys)) (tuple_back xs (and_parts _ _ h).1)
  node_back nodes (Receive channel xs next) h = ap (option_map (λ ys. Receive channel ys next)) (tuple_back xs (and_parts _ _ (and_parts _ _ h).0).1)
  node_back nodes (Both first second) h = refl
  node_back nodes (Copy next) h = refl
  node_back nodes (New x next) h = refl
  node_back nodes (Test left right same other) h = refl
  node_back nodes (Begin label next) h = ap (option_map (λ l. Begin l next)) (label_back label (and_parts _ _ h).0)
  node_back nodes (End label next) h = ap (option_map (λ l. End l next)) (label_back label (and_parts _ _ h).0)

-- an item in range is got back from its byte, which is below 80
module _ (names : ℕ) (few : names ≤ 64) where
  item_small : (i : Item) → item_fits names i ≡ true → ltb (item_byte i) 80 ≡ true
  item_small (Name x) h = let k = ltb-true x names h in lt-ltb x 80 (omega arith)
  item_small (Index u p) h =
      let a = and_parts _ _ h in
      let b = and_parts _ _ a.1 in
      let x = leb-true u 3 a.0 in
      let z = leb-true p 4 b.1 in
      lt-ltb (64 + 4 * u + (p - 1)) 80 (omega arith)

  item_back : (i : Item) → item_fits names i ≡ true → item_of (item_byte i) ≡ Some i
  item_back (Name x) h = let k = ltb-true x names h in rw (lt-ltb x 64 (omega arith)) refl
  item_back (Index u p) h =
      let a = and_parts _ _ h in
      let b = and_parts _ _ a.1 in
      let x = leb-true u 3 a.0 in
      let y = leb-true 1 p b.0 in
      let z = leb-true p 4 b.1 in
      let n = 64 + 4 * u + (p - 1) in
      let e : (n - 64) / 4 ≡ u = omega arith in
      let f : (n - 64) % 4 + 1 ≡ p = omega arith in
      rw (le-ltb n 64 (omega arith), lt-ltb n 80 (omega arith)) (ap₂ (λ v q. Some (Index v q)) e f)

  items_back : (xs : Items Item) → all (item_fits names) (list xs) ≡ true → items_in (used (spread (map item_byte (list xs)))) ≡ Some xs
  items_back (One a) h =
      let p = and_parts _ _ h in
      let s = used_back 80 (omega arith) (One (item_byte a)) (and_from _ _ (item_small a p.0) refl) in
      ap items_in s ∙ ap (option_map One) (item_back a p.0)
  items_back (Two a b) h =
      let p = and_parts _ _ h in
      let q = and_parts _ _ p.1 in
      let s = used_back 80 (omega arith) (Two (item_byte a) (item_byte b)) (and_from _ _ (item_small a p.0) (and_from _ _ (item_small b q.0) refl)) in
      ap items_in s ∙ ap₂ (λ x y. longer (option_map One x) y) (item_back a p.0) (item_back b q.0)
  items_back (Three a b c) h =
      let p = and_parts _ _ h in
      let q = and_parts _ _ p.1 in
      let r = and_parts _ _ q.1 in
      let s = used_back 80 (omega arith) (Three (item_byte a) (item_byte b) (item_byte c)) (and_from _ _ (item_small a p.0) (and_from _ _ (item_small b q.0) (and_from _ _ (item_small c r.0) refl))) in
      ap items_in s
      ∙ ap₂ (λ x y. longer (longer (option_map One x) y) (item_of (item_byte c))) (item_back a p.0) (item_back b q.0)
      ∙ ap (λ x. longer (Some (Two a b)) x) (item_back c r.0)
  items_back (Four a b c d) h =
      let p = and_parts _ _ h in
      let q = and_parts _ _ p.1 in
      let r = and_parts _ _ q.1 in
      let t = and_parts _ _ r.1 in
      let s = used_back 80 (omega arith) (Four (item_byte a) (item_byte b) (item_byte c) (item_byte d)) (and_from _ _ (item_small a p.0) (and_from _ _ (item_small b q.0) (and_from _ _ (item_small c r.0) (and_from _ _ (item_small d t.0) refl)))) in
      ap items_in s
      ∙ ap₂ (λ x y. longer (longer (longer (option_map One x) y) (item_of (item_byte c))) (item_of (item_byte d))) (item_back a p.0) (item_back b q.0)
      ∙ ap₂ (λ x y. longer (longer (Some (Two a b)) x) y) (item_back c r.0) (item_back d t.0)

  pub entry_back : (largest : ℕ) (e : Entry) → entry_fits largest names e ≡ true → entry_of e.amount (spread (map item_byte (list e.label.items))) ≡ Some e
  entry_back largest e h =
      ap (option_map (λ xs. record { label = record { items = xs }; amount = e.amount })) (items_back e.label.items (and_parts _ _ h).1)
