-- How far a fill has come, one record more, and how it ends.
use Rattle.std.proofs.Common.{◌≡◌, ℕ, zero, suc, ◌+◌, ◌<◌, ◌≤◌, true, false, List, [], ◌∷◌, ◌++◌, map, length, get_or, take, drop, Err, sym, refl, ap, ◌∙◌, subst, ap₂, ⊎_elim, arith, length-append}
use Rattle.std.specs.List.{flat_map}
use Rattle.std.proofs.lemmas.List.{take_more, drop_more, drop_all, take_all, nil_from_length}
use Rattle.std.proofs.lemmas.Bool.{cases_lt, both_ways, and_from}
use Rattle.tables.specs.Elements.{elements}
use Rattle.fault.specs.declared.fault.Fault.TheVariants.{OutOfRange}
use Rattle.records.specs.Records.{codes, Unreadable}
use Rattle.tables.specs.Encoding.{body, records, type_records, node_record}
use Rattle.tables.specs.Range.{Totals, totals, all_from, below, type_fits, node_fits, ranged, Fits, fits_head, fits_pure, fits_public, fits_channel, fits_entry, fits_name, fits_node}
use Rattle.sheet.specs.Order.{class_of, nothing, misplaced, after, census, Ordered}
use Rattle.sheet.specs.Filling.{totals_of, Room, Grown, FitsAt, Readable, Spells, Filled}
use Rattle.tables.specs.declared.basis.Basis.{Basis}
use Rattle.sheet.specs.declared.census.Census.{Census}
use Rattle.sheet.specs.declared.census.Class.{Class}
use Rattle.sheet.specs.declared.census.Class.TheVariants as class
use Rattle.records.specs.declared.record.Record.{Record}
use Rattle.records.specs.declared.record.Record.TheVariants as raw
use Rattle.tables.specs.declared.tables.Tables.{Tables}
use Rattle.sheet.proofs.Bodies.{grown_fits, ranged_more, body_more}
use Rattle.sheet.proofs.Matching.{Matches, room_for, matches_more, node_class, name_placed}
use Rattle.sheet.proofs.Ordering.{census_push}
use Rattle.records.proofs.Prefixes.{one_reading}
use Rattle.sheet.proofs.Reading.{some_bytes}

-- so many records have become the tables, and these bytes are left
pub record Progress (b : Basis) (rs : List Record) (place : ℕ) (left : List ℕ) (t : Tables) : Type 0 where
  pub within : place ≤ length rs
  pub rest : flat_map codes (drop place rs) ≡ left
  pub sofar : records b t ≡ take place rs
  pub fits : (q : ℕ) → q < place → FitsAt b rs q
  pub matches : Matches (census (take place rs)) t
  pub range : ranged b.largest (totals_of (census rs)) t ≡ true

same_totals : {x y z x' y' z' : ℕ} → x ≡ x' → y ≡ y' → z ≡ z' → ◌≡◌ {A = Totals} (record { types = x; names = y; nodes = z }) (record { types = x'; names = y'; nodes = z' })
same_totals p q r = cc

-- the census after one record more
census_more : (rs : List Record) (p : ℕ) → p < length rs → census (take (p + 1) rs) ≡ after (census (take p rs)) (class_of (get_or rs p raw.Stop))
census_more rs p l = ap census (take_more rs p raw.Stop l) ∙ census_push (take p rs) (get_or rs p raw.Stop)

-- a sheet in order has at most 64 names
names_after : (c : Census) (k : Class) → misplaced c k ≡ false → c.names ≤ 64 → (after c k).names ≤ 64
names_after c class.Head h l = l
names_after c class.Plain h l = l
names_after c class.Channel h l = l
names_after c class.Entry h l = l
names_after c class.Name h l = let p = name_placed c h in omega (arith, p.1)
names_after c class.Node h l = l

few_names_at : (rs : List Record) → Ordered rs → (p : ℕ) → p ≤ length rs → (census (take p rs)).names ≤ 64
few_names_at rs h zero l = omega arith
few_names_at rs h (suc p) l =
    let e : suc p ≡ p + 1 = omega arith in
    let k : p < length rs = omega arith in
    let m = names_after (census (take p rs)) (class_of (get_or rs p raw.Stop)) (h p k) (few_names_at rs h p (omega arith)) in
    subst (λ x. x.names ≤ 64) (sym (ap (λ i. census (take i rs)) e ∙ census_more rs p k)) m

pub few_names : (rs : List Record) → Ordered rs → (census rs).names ≤ 64
few_names rs h = subst (λ xs. (census xs).names ≤ 64) (take_all (length rs) rs (omega arith)) (few_names_at rs h (length rs) (omega arith))

-- where bytes are left, a record is
more_left : (rs : List Record) (p : ℕ) (left : List ℕ) → flat_map codes (drop p rs) ≡ left → 0 < length left → p < length rs
more_left rs p left e l =
    ⊎_elim (λ h. h) (λ h. let z = ap (λ xs. length (flat_map codes xs)) (drop_all p rs h) in absurd (omega (arith, z, ap length e))) (cases_lt p (length rs))

-- and where none are left, none is
none_left : (rs : List Record) (p : ℕ) (left : List ℕ) → flat_map codes (drop p rs) ≡ left → length left ≡ 0 → length rs ≤ p
none_left rs p left e l =
    ⊎_elim
    (λ h. let s = some_bytes (get_or rs p raw.Stop) in
    let z = ap (λ xs. length (flat_map codes xs)) (drop_more rs p raw.Stop h) ∙ length-append (codes (get_or rs p raw.Stop)) _ in
    absurd (omega (arith, z, s, ap length e)))
    (λ h. h) (cases_lt p (length rs))

-- the record that is read is the next one
pub next_read : (rs : List Record) (p : ℕ) (left rest : List ℕ) (r : Record) → flat_map codes (drop p rs) ≡ left → p < length rs → codes r ++ rest ≡ left → (r ≡ get_or rs p raw.Stop) × (rest ≡ flat_map codes (drop (p + 1) rs))
next_read rs p left rest r e l f =
    one_reading r (get_or rs p raw.Stop) rest (flat_map codes (drop (p + 1) rs)) (f ∙ sym e ∙ ap (flat_map codes) (drop_more rs p raw.Stop l))

module _ (b : Basis) (rs : List Record) (order : Ordered rs) (place : ℕ) (left : List ℕ) (t : Tables) (h : Progress b rs place left t) where
  pub not_over : 0 < length left → place < length rs
  not_over l = more_left rs place left h.rest l

  -- a record can be read where bytes are left
  pub readable : 0 < length left → Unreadable left → ⊥
  readable l u =
      let p = not_over l in
      u (get_or rs place raw.Stop) (flat_map codes (drop (place + 1) rs)) (sym (ap (flat_map codes) (drop_more rs place raw.Stop p)) ∙ h.rest)

  module _ (r : Record) (rest : List ℕ) (some : 0 < length left) (read : codes r ++ rest ≡ left) where
    is_next : r ≡ get_or rs place raw.Stop
    is_next = (next_read rs place left rest r h.rest (not_over some) read).0

    placed : misplaced (census (take place rs)) (class_of r) ≡ false
    placed = ap (λ x. misplaced (census (take place rs)) (class_of x)) is_next ∙ order place (not_over some)

    -- there is a place for it in the tables
    pub has_room : Room t (class_of r)
    has_room = room_for (census (take place rs)) t (class_of r) h.matches placed

    -- it is out of range where it does not fit after the types so far
    pub unfit : (Fits b (totals_of (census rs)) (length (elements t.types)) r → ⊥) → FitsAt b rs place → ⊥
    unfit none f =
        none (subst (λ n. Fits b (totals_of (census rs)) n r) h.matches.types (subst (λ x. Fits b (totals_of (census rs)) (census (take place rs)).types x) (sym is_next) f))

    -- one record more
    pub further : (t' : Tables) → Grown b (totals_of (census rs)) t t' r → Progress b rs (place + 1) rest t'
    further t' g =
        let l = not_over some in
        let c = census (take place rs) in
        let step : census (take (place + 1) rs) ≡ after c (class_of r) = census_more rs place l ∙ ap (λ x. after c (class_of x)) (sym is_next) in
        record {
          within = omega arith;
          rest = sym (next_read rs place left rest r h.rest l read).1;
          sofar = ap (λ xs. raw.Head 1 b.code b.full ∷ xs) (body_more b _ t t' r c h.matches placed g) ∙ ap₂ (λ xs x. xs ++ x ∷ []) h.sofar is_next ∙ sym (take_more rs place raw.Stop l);
          fits = λ q k. ⊎_elim (λ m. h.fits q m) (λ m.
              let same : place ≡ q = omega arith in
              subst (FitsAt b rs) same (subst (λ x. Fits b (totals_of (census rs)) c.types x) is_next (subst (λ n. Fits b (totals_of (census rs)) n r) (sym h.matches.types) (grown_fits b _ t t' r g)))) (cases_lt q place);
          matches = subst (λ x. Matches x t') (sym step) (matches_more b _ t t' r c h.matches placed g);
          range = ranged_more b _ t t' r g h.range;
        }

  module _ (z : length left ≡ 0) where
    at_end : place ≡ length rs
    at_end = let k = none_left rs place left h.rest z in let w = h.within in omega arith

    whole : take place rs ≡ rs
    whole = let e = at_end in take_all place rs (omega arith)

    counts : Matches (census rs) t
    counts = subst (λ xs. Matches (census xs) t) whole h.matches

    -- all records have become the tables
    pub spelled : Spells b rs t
    spelled = record {
      in_order = h.sofar ∙ whole;
      in_range = subst (λ x. ranged b.largest x t ≡ true) (same_totals counts.types counts.names counts.nodes) h.range;
    }

    pub all_fit : (q : ℕ) → q < length rs → FitsAt b rs q
    all_fit q l = let e = at_end in h.fits q (omega arith)

    pub some_node : 0 < (census rs).nodes → 0 < length (elements t.nodes)
    some_node l = subst (λ k. 0 < k) counts.nodes l

-- the records of tables of nothing
pub record Nothing (t : Tables) : Type 0 where
  pub types : elements t.types ≡ []
  pub names : elements t.names ≡ []
  pub nodes : elements t.nodes ≡ []

empty_body : (t : Tables) → Nothing t → body t ≡ []
empty_body t z =
    ap₂ ◌++◌ (ap (flat_map type_records) z.types) (ap₂ ◌++◌ (ap (map raw.Name) z.names) (ap (map node_record) z.nodes))

wrong_first : {A : Type 0} (r s : Record) → misplaced nothing (class_of r) ≡ false → r ≡ s → misplaced nothing (class_of s) ≡ true → A
wrong_first r s h e k = absurd (both_ways (misplaced nothing (class_of s)) (ap (λ x. misplaced nothing (class_of x)) (sym e) ∙ h) k)

-- a first record in order that is in range is the counting's head
head_only : (b : Basis) (n : Totals) (own : ℕ) (r : Record) → misplaced nothing (class_of r) ≡ false → Fits b n own r → r ≡ raw.Head 1 b.code b.full
head_only b n own r h (fits_head e) = e
head_only b n own r h (fits_pure e) = wrong_first r raw.Pure h e refl
head_only b n own r h (fits_public e) = wrong_first r raw.Public h e refl
head_only b n own r h (fits_channel xs l e) = wrong_first r _ h e refl
head_only b n own r h (fits_entry x l e) = wrong_first r _ h e refl
head_only b n own r h (fits_name x l e) = wrong_first r _ h e refl
head_only b n own r h (fits_node x l e) = wrong_first r _ h e (ap (misplaced nothing) (node_class x))

module _ (b : Basis) (given : List ℕ) (n : Census) (rs : List Record) (all : Readable given n rs) where
  has_first : 0 < length rs
  has_first = ⊎_elim (λ h. h) (λ h. let z = ap (λ xs. (census xs).nodes) (nil_from_length rs (omega arith)) in let s = all.some in absurd (omega arith)) (cases_lt 0 (length rs))

  pub first_readable : Unreadable given → ⊥
  first_readable u =
      u (get_or rs 0 raw.Stop) (flat_map codes (drop (0 + 1) rs)) (sym (ap (flat_map codes) (drop_more rs 0 raw.Stop has_first)) ∙ all.whole)

  module _ (r : Record) (rest : List ℕ) (read : codes r ++ rest ≡ given) where
    first_read : (r ≡ get_or rs 0 raw.Stop) × (rest ≡ flat_map codes (drop (0 + 1) rs))
    first_read = next_read rs 0 given rest r all.whole has_first read

    -- a head that is not the counting's is out of range
    pub head_unfit : (r ≡ raw.Head 1 b.code b.full → ⊥) → Filled b given n (Err (OutOfRange 0))
    head_unfit h = (
      0,
      refl,
      rs,
      all,
      has_first,
      (λ f. h (first_read.0 ∙ head_only b _ _ (get_or rs 0 raw.Stop) (all.order 0 has_first) f)),
      (λ q l. absurd (omega arith)),
    )

    -- and after the counting's the tables are empty
    pub started : r ≡ raw.Head 1 b.code b.full → (t : Tables) → Nothing t → Progress b rs 1 rest t
    started e t z =
        let first : get_or rs 0 raw.Stop ≡ raw.Head 1 b.code b.full = sym first_read.0 ∙ e in
        let front : take 1 rs ≡ raw.Head 1 b.code b.full ∷ [] = take_more rs 0 raw.Stop has_first ∙ ap (λ x. x ∷ []) first in
        let nobody : body t ≡ [] = empty_body t z in
        record {
          within = let l = has_first in omega arith;
          rest = sym first_read.1;
          sofar = ap (λ xs. raw.Head 1 b.code b.full ∷ xs) nobody ∙ sym front;
          fits = λ q l. let same : 0 ≡ q = omega arith in subst (FitsAt b rs) same (fits_head first);
          matches = subst (λ xs. Matches (census xs) t) (sym front) (record {
            heads = refl;
            types = sym (ap length z.types);
            names = sym (ap length z.names);
            nodes = sym (ap length z.nodes);
            room = λ l. absurd (omega arith);
          });
          range = and_from _ _ (ap (all_from (type_fits b.largest (census rs).names) 0) z.types) (and_from _ _ (ap (below (census rs).types) z.names) (ap (Rattle.tables.specs.Range.all (node_fits (census rs).names (census rs).nodes)) z.nodes));
        }
