-- One record more in the tables is one record more among their records, in range as the others.
use Rattle.std.proofs.Common.{◌≡◌, ℕ, suc, ◌+◌, Bool, true, false, List, [], ◌∷◌, ◌++◌, map, length, sym, refl, ap, ◌∙◌, ap₂, append_assoc, arith}
use Rattle.std.specs.List.{flat_map}
use Rattle.std.proofs.lemmas.List.{append-nil, map_push, nil_from_length, flat_map_more}
use Rattle.std.proofs.lemmas.Bool.{and_parts, and_from, lt-ltb}
use Rattle.tables.specs.Elements.{elements}
use Rattle.tables.specs.Encoding.{parts, spread, entry_record, type_records, node_record, body}
use Rattle.tables.specs.Range.{Totals, all, all_from, below, type_fits, entry_fits, node_fits, ranged, Fits, fits_pure, fits_public, fits_channel, fits_entry, fits_name, fits_node}
use Rattle.sheet.specs.Order.{class_of, misplaced}
use Rattle.sheet.specs.Filling.{Grown, grown_type, grown_entry, grown_name, grown_node}
use Rattle.tables.specs.declared.basis.Basis.{Basis}
use Rattle.sheet.specs.declared.census.Census.{Census}
use Rattle.sheet.specs.declared.census.Class.TheVariants as class
use Rattle.records.specs.declared.record.Record.{Record}
use Rattle.records.specs.declared.record.Record.TheVariants as raw
use Rattle.tables.specs.declared.tables.ChannelType.{ChannelType}
use Rattle.tables.specs.Shares.{Entry}
use Rattle.tables.specs.declared.tables.SheetType.{SheetType}
use Rattle.tables.specs.declared.tables.SheetType.TheVariants.{Pure, Public, Channel}
use Rattle.tables.specs.declared.tables.Tables.{Tables}
use Rattle.sheet.proofs.Matching.{Matches, type_placed, entry_placed, name_placed, first_of}

-- tests of a list that has one element more
pub all_push : {A : Type 0} (p : A → Bool) (xs : List A) (x : A) → all p xs ≡ true → p x ≡ true → all p (xs ++ x ∷ []) ≡ true
all_push p [] x h e = and_from _ _ e refl
all_push p (y ∷ ys) x h e = let q = and_parts _ _ h in and_from _ _ q.0 (all_push p ys x q.1 e)

pub all_from_push : {A : Type 0} (p : ℕ → A → Bool) (i : ℕ) (xs : List A) (x : A) → all_from p i xs ≡ true → p (i + length xs) x ≡ true → all_from p i (xs ++ x ∷ []) ≡ true
all_from_push p i [] x h e =
    let z : i + 0 ≡ i = omega arith in and_from _ _ (ap (λ k. p k x) (sym z) ∙ e) refl
all_from_push p i (y ∷ ys) x h e =
    let q = and_parts _ _ h in
    let z : suc i + length ys ≡ i + suc (length ys) = omega arith in
    and_from _ _ q.0 (all_from_push p (suc i) ys x q.1 (ap (λ k. p k x) z ∙ e))

-- and of its parts
pub all_from_parts : {A : Type 0} (p : ℕ → A → Bool) (i : ℕ) (xs : List A) (x : A) → all_from p i (xs ++ x ∷ []) ≡ true → (all_from p i xs ≡ true) × (p (i + length xs) x ≡ true)
all_from_parts p i [] x h = let z : i ≡ i + 0 = omega arith in (refl, ap (λ k. p k x) (sym z) ∙ (and_parts _ _ h).0)
all_from_parts p i (y ∷ ys) x h =
    let q = and_parts _ _ h in
    let r = all_from_parts p (suc i) ys x q.1 in
    let z : suc i + length ys ≡ i + suc (length ys) = omega arith in
    (and_from _ _ q.0 r.0, ap (λ k. p k x) (sym z) ∙ r.1)

-- a list of lists joined, with one more
joined_push : {X A : Type 0} (f : X → List A) (xs : List X) (x : X) → flat_map f (xs ++ x ∷ []) ≡ flat_map f xs ++ f x
joined_push f xs x = sym (flat_map_more f [] xs x)

empty_front : {A : Type 0} (xs ys : List A) → xs ≡ [] → ys ≡ [] → xs ++ ys ≡ []
empty_front xs ys e f = ap₂ ◌++◌ e f

-- the records of an entry's channel
entries_more : (k k' : ChannelType) (e : Entry) → k'.components ≡ k.components → elements k'.entries ≡ elements k.entries ++ e ∷ [] → type_records (Channel k') ≡ type_records (Channel k) ++ entry_record e ∷ []
entries_more k k' e same more =
    ap₂ (λ c es. raw.Channel (length (parts c)) (spread (parts c)) ∷ map entry_record es) same more
    ∙ ap (λ rs. raw.Channel (length (parts k.components)) (spread (parts k.components)) ∷ rs) (map_push entry_record (elements k.entries) e)

module _ (b : Basis) (n : Totals) (t t' : Tables) (r : Record) where
  -- a record that became part of the tables is in range
  pub grown_fits : Grown b n t t' r → Fits b n (length (elements t.types)) r
  grown_fits (grown_type Pure w fits e f g) = fits_pure (sym (first_of _ _ _ w).0)
  grown_fits (grown_type Public w fits e f g) = fits_public (sym (first_of _ _ _ w).0)
  grown_fits (grown_type (Channel k) w fits e f g) = fits_channel k.components (and_parts _ _ fits).0 (sym (first_of _ _ _ w).0)
  grown_fits (grown_entry before k k' e w fits l l' same more f g) = fits_entry e fits (sym w)
  grown_fits (grown_name x w fits e f g) = fits_name x fits (sym w)
  grown_fits (grown_node x w fits e f g) = fits_node x fits (sym w)

  -- and the tables stay in range
  pub ranged_more : Grown b n t t' r → ranged b.largest n t ≡ true → ranged b.largest n t' ≡ true
  ranged_more (grown_type x w fits e f g) h =
      let p = and_parts _ _ h in
      let q = and_parts _ _ p.1 in
      let z : 0 + length (elements t.types) ≡ length (elements t.types) = omega arith in
      let types = all_from_push (type_fits b.largest n.names) 0 (elements t.types) x p.0 (ap (λ k. type_fits b.largest n.names k x) z ∙ fits) in
      and_from _ _ (ap (all_from (type_fits b.largest n.names) 0) e ∙ types)
      (and_from _ _ (ap (λ y. below n.types (elements y)) f ∙ q.0) (ap (λ y. all (node_fits n.names n.nodes) (elements y)) g ∙ q.1))
  ranged_more (grown_entry before k k' e w fits l l' same more f g) h =
      let p = and_parts _ _ h in
      let q = and_parts _ _ p.1 in
      let P = type_fits b.largest n.names in
      let old = all_from_parts P 0 before (Channel k) (sym (ap (all_from P 0) l.last) ∙ p.0) in
      let both = and_parts _ _ old.1 in
      let kept : below (0 + length before) (parts k'.components) ≡ true = ap (λ c. below (0 + length before) (parts c)) same ∙ both.0 in
      let every : all (entry_fits b.largest n.names) (elements k'.entries) ≡ true = ap (all (entry_fits b.largest n.names)) more ∙ all_push _ (elements k.entries) e both.1 fits in
      let types = all_from_push P 0 before (Channel k') old.0 (and_from _ _ kept every) in
      and_from _ _ (ap (all_from P 0) l'.last ∙ types)
      (and_from _ _ (ap (λ y. below n.types (elements y)) f ∙ q.0) (ap (λ y. all (node_fits n.names n.nodes) (elements y)) g ∙ q.1))
  ranged_more (grown_name x w fits e f g) h =
      let p = and_parts _ _ h in
      let q = and_parts _ _ p.1 in
      and_from _ _ (ap (λ y. all_from (type_fits b.largest n.names) 0 (elements y)) f ∙ p.0)
      (and_from _ _ (ap (below n.types) e ∙ all_push _ (elements t.names) x q.0 (lt-ltb x n.types fits)) (ap (λ y. all (node_fits n.names n.nodes) (elements y)) g ∙ q.1))
  ranged_more (grown_node x w fits e f g) h =
      let p = and_parts _ _ h in
      let q = and_parts _ _ p.1 in
      and_from _ _ (ap (λ y. all_from (type_fits b.largest n.names) 0 (elements y)) f ∙ p.0)
      (and_from _ _ (ap (λ y. below n.types (elements y)) g ∙ q.0) (ap (all (node_fits n.names n.nodes)) e ∙ all_push _ (elements t.nodes) x q.1 fits))

  module _ (c : Census) (m : Matches c t) (placed : misplaced c (class_of r) ≡ false) where
    -- where no names or nodes stand yet
    no_names : c.names ≡ 0 → elements t.names ≡ []
    no_names z = nil_from_length (elements t.names) (sym m.names ∙ z)

    no_nodes : c.nodes ≡ 0 → elements t.nodes ≡ []
    no_nodes z = nil_from_length (elements t.nodes) (sym m.nodes ∙ z)

    -- the records of the types have one more, and nothing stands after them
    type_more : c.names ≡ 0 → c.nodes ≡ 0 → t'.names ≡ t.names → t'.nodes ≡ t.nodes → flat_map type_records (elements t'.types) ≡ flat_map type_records (elements t.types) ++ r ∷ [] → body t' ≡ body t ++ r ∷ []
    type_more x y f g e =
        let tail : map raw.Name (elements t.names) ++ map node_record (elements t.nodes) ≡ [] = empty_front _ _ (ap (map raw.Name) (no_names x)) (ap (map node_record) (no_nodes y)) in
        let tail' : map raw.Name (elements t'.names) ++ map node_record (elements t'.nodes) ≡ [] = ap₂ (λ a c. map raw.Name (elements a) ++ map node_record (elements c)) f g ∙ tail in
        ap₂ ◌++◌ e tail' ∙ append-nil _ ∙ ap (λ l. l ++ r ∷ []) (sym (append-nil (flat_map type_records (elements t.types))) ∙ ap (λ l. flat_map type_records (elements t.types) ++ l) (sym tail))

    new_type : (x : SheetType) → misplaced c class.Plain ≡ false → type_records x ≡ r ∷ [] → elements t'.types ≡ elements t.types ++ x ∷ [] → t'.names ≡ t.names → t'.nodes ≡ t.nodes → body t' ≡ body t ++ r ∷ []
    new_type x h w e f g =
        let p = type_placed c h in
        type_more p.0 p.1 f g (ap (flat_map type_records) e ∙ joined_push type_records (elements t.types) x ∙ ap (λ l. flat_map type_records (elements t.types) ++ l) w)

    pub body_more : Grown b n t t' r → body t' ≡ body t ++ r ∷ []
    body_more (grown_type Pure w fits e f g) = new_type Pure (ap (λ x. misplaced c (class_of x)) (first_of _ _ _ w).0 ∙ placed) w e f g
    body_more (grown_type Public w fits e f g) = new_type Public (ap (λ x. misplaced c (class_of x)) (first_of _ _ _ w).0 ∙ placed) w e f g
    body_more (grown_type (Channel k) w fits e f g) = new_type (Channel k) (ap (λ x. misplaced c (class_of x)) (first_of _ _ _ w).0 ∙ placed) w e f g
    body_more (grown_entry before k k' e w fits l l' same more f g) =
        let some = entry_placed c (ap (misplaced c) (sym (ap class_of (sym w))) ∙ placed) in
        let q = m.room some in
        type_more q.0 q.1 f g (
        ap (flat_map type_records) l'.last ∙ joined_push type_records before (Channel k')
        ∙ ap (λ x. flat_map type_records before ++ x) (entries_more k k' e same more ∙ ap (λ x. type_records (Channel k) ++ x ∷ []) w)
        ∙ sym (append_assoc (flat_map type_records before) (type_records (Channel k)) (r ∷ []))
        ∙ ap (λ x. x ++ r ∷ []) (sym (joined_push type_records before (Channel k)) ∙ sym (ap (flat_map type_records) l.last))
        )
    body_more (grown_name x w fits e f g) =
        let p = name_placed c (ap (misplaced c) (sym (ap class_of (sym w))) ∙ placed) in
        let A = flat_map type_records (elements t.types) in
        let B = map raw.Name (elements t.names) in
        let none : map node_record (elements t.nodes) ≡ [] = ap (map node_record) (no_nodes p.0) in
        let none' : map node_record (elements t'.nodes) ≡ [] = ap (λ y. map node_record (elements y)) g ∙ none in
        let names : map raw.Name (elements t'.names) ≡ B ++ r ∷ [] = ap (map raw.Name) e ∙ map_push raw.Name (elements t.names) x ∙ ap (λ y. B ++ y ∷ []) w in
        ap₂ (λ u v. flat_map type_records (elements u) ++ v) f (ap₂ ◌++◌ names none' ∙ append-nil (B ++ r ∷ []))
        ∙ sym (append_assoc A B (r ∷ []))
        ∙ ap (λ y. (A ++ y) ++ r ∷ []) (sym (append-nil B) ∙ ap (λ y. B ++ y) (sym none))
    body_more (grown_node x w fits e f g) =
        let A = flat_map type_records (elements t.types) in
        let B = map raw.Name (elements t.names) in
        let C = map node_record (elements t.nodes) in
        let nodes : map node_record (elements t'.nodes) ≡ C ++ r ∷ [] = ap (map node_record) e ∙ map_push node_record (elements t.nodes) x ∙ ap (λ y. C ++ y ∷ []) w in
        ap₂ (λ u v. flat_map type_records (elements u) ++ (map raw.Name (elements v) ++ map node_record (elements t'.nodes))) f g
        ∙ ap (λ y. A ++ (B ++ y)) nodes
        ∙ ap (λ y. A ++ y) (sym (append_assoc B C (r ∷ [])))
        ∙ sym (append_assoc A (B ++ C) (r ∷ []))
