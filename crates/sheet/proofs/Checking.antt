-- The first fault of tables, from the first of each kind.
use Rattle.std.proofs.Common.{◌≡◌, ℕ, zero, suc, ◌*◌, ◌<◌, ◌≤◌, true, List, [], ◌∷◌, length, take, Some, None, sym, refl, ap, subst, inl, inr, ⊎_elim, arith, length-append}
use Rattle.std.specs.List.{flat_map}
use Rattle.std.proofs.lemmas.List.{get_or_past, length-map, length-take}
use Rattle.std.proofs.lemmas.Bool.{and_parts, cases_lt}
use Rattle.fault.specs.First.{First, Precedes, Lowest}
use Rattle.fault.specs.declared.fault.Fault.{Fault}
use Rattle.fault.specs.declared.fault.Fault.TheVariants.{NotATree, OutOfScope, BadType}
use Rattle.tables.specs.Elements.{elements}
use Rattle.tables.specs.Encoding.{type_records, entry_record}
use Rattle.tables.specs.Range.{all, all_from, below, type_fits, node_fits, ranged, totals}
use Rattle.sheet.specs.Tree.{misgrown}
use Rattle.sheet.specs.Scope.{Misnamed}
use Rattle.tables.specs.Channels.{entries}
use Rattle.sheet.specs.Types.{Misformed, type_at}
use Rattle.sheet.specs.Opening.{type_place, node_place, Limited, Crooked, not_a_tree, out_of_scope, bad_type}
use Rattle.tables.specs.declared.tables.Node.{Node}
use Rattle.tables.specs.declared.tables.SheetType.{SheetType}
use Rattle.tables.specs.declared.tables.SheetType.TheVariants.{Pure, Public, Channel}
use Rattle.tables.specs.declared.tables.Tables.{Tables}

type_few : (t : SheetType) → length (type_records t) ≤ 9
type_few Pure = omega arith
type_few Public = omega arith
type_few (Channel c) = omega (arith, length-map (elements c.entries) entry_record, length-take c.entries.count c.entries.items, c.entries.within)

-- a type has its own record and those of eight entries at most
pub types_few : (xs : List SheetType) → length (flat_map type_records xs) ≤ 9 * length xs
types_few [] = omega arith
types_few (x ∷ xs) = omega (arith, type_few x, types_few xs, length-append (type_records x) (flat_map type_records xs))

-- more of the types have no fewer records
types_rise : (i j : ℕ) (xs : List SheetType) → i ≤ j → length (flat_map type_records (take i xs)) ≤ length (flat_map type_records (take j xs))
types_rise zero j xs h = omega arith
types_rise (suc i) zero xs h = absurd (omega arith)
types_rise (suc i) (suc j) [] h = omega arith
types_rise (suc i) (suc j) (x ∷ xs) h =
    let more = types_rise i j xs (omega arith) in
    omega (arith, more, length-append (type_records x) (flat_map type_records (take i xs)), length-append (type_records x) (flat_map type_records (take j xs)))

-- what a slice and a count tell of the tables
pub limited : (t : Tables) (types : List SheetType) (nodes : List Node) (names : ℕ) → types ≡ elements t.types → nodes ≡ elements t.nodes → names ≡ length (elements t.names)
    → length types ≤ 64 → length nodes ≤ 1024 → names ≤ 64 → ((i : ℕ) → i < length types → length (entries (type_at types i)) ≤ 8) → Limited t
limited t types nodes names a b c l m n each = record {
  types = omega (arith, ap length a);
  names = omega arith;
  nodes = omega (arith, ap length b);
  entries = λ i. subst (λ xs. length (entries (type_at xs i)) ≤ 8) a
      (⊎_elim (each i) (λ past. subst (λ x. length (entries x) ≤ 8) (sym (get_or_past types i Pure past)) (omega arith)) (cases_lt i (length types)));
}

-- of tables in range the nodes are
pub nodes_fit : (largest : ℕ) (t : Tables) → ranged largest (totals t) t ≡ true → all (node_fits (length (elements t.names)) (length (elements t.nodes))) (elements t.nodes) ≡ true
nodes_fit largest t h =
    let p = and_parts (all_from (type_fits largest (length (elements t.names))) 0 (elements t.types)) _ h in
    (and_parts (below (length (elements t.types)) (elements t.names)) _ p.1).1

-- the lowest is no higher than any
lowest_le : (P : ℕ → Type 0) (k n m : ℕ) → Lowest P k (Some n) → P m → n ≤ m
lowest_le P k n m h p = ⊎_elim (λ l. absurd (h.2 m l p)) (λ l. l) (cases_lt m n)

module _ (t : Tables) where
  after_tree : (n : ℕ) → Lowest (λ k. misgrown (elements t.nodes) k ≡ true) (length (elements t.nodes)) (Some n) → (g : Fault) → Crooked t g → Precedes (NotATree (node_place t n)) g
  after_tree n h g (not_a_tree m l e) = let k = lowest_le _ _ n m h e in inr (refl, omega arith)
  after_tree n h g (out_of_scope m l e) = inl (omega arith)
  after_tree n h g (bad_type i l e) = inl (omega arith)

  pub first_tree : (n : ℕ) → Lowest (λ k. misgrown (elements t.nodes) k ≡ true) (length (elements t.nodes)) (Some n) → First (Crooked t) (Some (NotATree (node_place t n)))
  first_tree n h = (not_a_tree n h.0 h.1, after_tree n h)

  module _ (tree : Lowest (λ k. misgrown (elements t.nodes) k ≡ true) (length (elements t.nodes)) None) where
    after_scope : (n : ℕ) → Lowest (Misnamed (elements t.nodes)) (length (elements t.nodes)) (Some n) → (g : Fault) → Crooked t g → Precedes (OutOfScope (node_place t n)) g
    after_scope n h g (not_a_tree m l e) = absurd (tree m l e)
    after_scope n h g (out_of_scope m l e) = let k = lowest_le _ _ n m h e in inr (refl, omega arith)
    after_scope n h g (bad_type i l e) = inl (omega arith)

    pub first_scope : (n : ℕ) → Lowest (Misnamed (elements t.nodes)) (length (elements t.nodes)) (Some n) → First (Crooked t) (Some (OutOfScope (node_place t n)))
    first_scope n h = (out_of_scope n h.0 h.1, after_scope n h)

    module _ (scope : Lowest (Misnamed (elements t.nodes)) (length (elements t.nodes)) None) where
      after_type : (n : ℕ) → Lowest (Misformed (elements t.types)) (length (elements t.types)) (Some n) → (g : Fault) → Crooked t g → Precedes (BadType (type_place t n)) g
      after_type n h g (not_a_tree m l e) = absurd (tree m l e)
      after_type n h g (out_of_scope m l e) = absurd (scope m l e)
      after_type n h g (bad_type i l e) =
          let k = types_rise n i (elements t.types) (lowest_le _ _ n i h e) in inr (refl, omega arith)

      pub first_type : (n : ℕ) → Lowest (Misformed (elements t.types)) (length (elements t.types)) (Some n) → First (Crooked t) (Some (BadType (type_place t n)))
      first_type n h = (bad_type n h.0 h.1, after_type n h)

      pub none_crooked : Lowest (Misformed (elements t.types)) (length (elements t.types)) None → First (Crooked t) None
      none_crooked h g (not_a_tree m l e) = tree m l e
      none_crooked h g (out_of_scope m l e) = scope m l e
      none_crooked h g (bad_type i l e) = h i l e
