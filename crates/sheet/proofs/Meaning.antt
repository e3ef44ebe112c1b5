-- The first fault of a reading, from the look that found it.
use Rattle.std.proofs.Common.{◌≡◌, ℕ, ◌<◌, ◌≤◌, true, List, [], ◌++◌, length, Some, None, Ok, Err, refl, ap, ◌∙◌, inl, inr, ⊎_elim, arith}
use Rattle.std.specs.List.{flat_map}
use Rattle.std.proofs.lemmas.List.{append-nil}
use Rattle.std.proofs.lemmas.Bool.{cases_lt, both_ways}
use Rattle.fault.specs.Faults.{number_of}
use Rattle.fault.specs.First.{First, Precedes}
use Rattle.fault.specs.declared.fault.Fault.{Fault}
use Rattle.fault.specs.declared.fault.Fault.TheVariants as fault
use Rattle.tables.specs.Elements.{elements}
use Rattle.records.specs.Records.{codes, Unreadable}
use Rattle.sheet.specs.Order.{misplaced_at, Ordered, Unfinished, cut, wrong, none}
use Rattle.sheet.specs.Filling.{FitsAt, Readable, Spells}
use Rattle.sheet.specs.Opening.{Reading, Limited, Crooked, not_a_tree, out_of_scope, bad_type, Faulty, unreadable, wrong_order, no_node, out_of_range, crooked, Means}
use Rattle.tables.specs.declared.basis.Basis.{Basis}
use Rattle.sheet.specs.declared.census.Census.{Census}
use Rattle.records.specs.declared.record.Record.{Record}
use Rattle.tables.specs.declared.tables.Tables.{Tables}
use Rattle.sheet.proofs.Reading.{no_record}

-- faults of tables have the numbers from 4 on
crooked_number : (t : Tables) (f : Fault) → Crooked t f → 4 ≤ number_of f
crooked_number t f (not_a_tree n l e) = omega arith
crooked_number t f (out_of_scope n l e) = omega arith
crooked_number t f (bad_type i l e) = omega arith

-- where the records mean no sheet, any will do
any : Tables
any = record {
  types = record { items = []; count = 0; within = omega arith };
  names = record { items = []; count = 0; within = omega arith };
  nodes = record { items = []; count = 0; within = omega arith };
}

-- what the first look finds is the first fault
module _ (b : Basis) (given : List ℕ) (rs : List Record) (left : List ℕ) (whole : flat_map codes rs ++ left ≡ given) (stuck : Unreadable left) where
  first_look : Reading given
  first_look = record { records = rs; left = left; whole = whole; stuck = stuck; sheet = any }

  after_cut : (g : Fault) → Faulty b first_look g → Precedes (fault.Unreadable (length rs)) g
  unfolding first_look any
  after_cut g (unreadable l) = inr (refl, omega arith)
  after_cut g (wrong_order p l e) = inl (omega arith)
  after_cut g (no_node e) = inl (omega arith)
  after_cut g (out_of_range p l e) = inl (omega arith)
  after_cut g (crooked s e) = inl (omega (arith, crooked_number any g e))

  after_wrong : (p : ℕ) → length left ≡ 0 → p < length rs → ((q : ℕ) → q < p → misplaced_at rs q ≡ true → ⊥) → (g : Fault) → Faulty b first_look g → Precedes (fault.WrongOrder p) g
  unfolding first_look any
  after_wrong p z w h g (unreadable l) = absurd (omega arith)
  after_wrong p z w h g (wrong_order q l e) = ⊎_elim (λ k. absurd (h q k e)) (λ k. inr (refl, k)) (cases_lt q p)
  after_wrong p z w h g (no_node e) = inr (refl, omega arith)
  after_wrong p z w h g (out_of_range q l e) = inl (omega arith)
  after_wrong p z w h g (crooked s e) = inl (omega (arith, crooked_number any g e))

  after_none : length left ≡ 0 → Ordered rs → (g : Fault) → Faulty b first_look g → Precedes (fault.WrongOrder (length rs)) g
  unfolding first_look any
  after_none z h g (unreadable l) = absurd (omega arith)
  after_none z h g (wrong_order q l e) = absurd (both_ways (misplaced_at rs q) (h q l) e)
  after_none z h g (no_node e) = inr (refl, omega arith)
  after_none z h g (out_of_range q l e) = inl (omega arith)
  after_none z h g (crooked s e) = inl (omega (arith, crooked_number any g e))

  pub scan_means : (f : Fault) → Unfinished rs left f → Means b given (Err f)
  unfolding first_look any
  scan_means f (cut l) = (first_look, (unreadable l, after_cut))
  scan_means f (wrong p z l e h) = (first_look, (wrong_order p l e, after_wrong p z l h))
  scan_means f (none z h e) = (first_look, (no_node e, after_none z h))

-- what the later looks find, once all records are read and stand in order
module _ (b : Basis) (given : List ℕ) (n : Census) (rs : List Record) (all : Readable given n rs) where
  look : Tables → Reading given
  look t = record { records = rs; left = []; whole = append-nil (flat_map codes rs) ∙ all.whole; stuck = no_record; sheet = t }

  after_range : (p : ℕ) → ((q : ℕ) → q < p → FitsAt b rs q) → (g : Fault) → Faulty b (look any) g → Precedes (fault.OutOfRange p) g
  unfolding look any
  after_range p h g (unreadable l) = absurd (omega arith)
  after_range p h g (wrong_order q l e) = absurd (both_ways (misplaced_at rs q) (all.order q l) e)
  after_range p h g (no_node e) = let s = all.some in absurd (omega arith)
  after_range p h g (out_of_range q l e) = ⊎_elim (λ k. absurd (e (h q k))) (λ k. inr (refl, k)) (cases_lt q p)
  after_range p h g (crooked s e) = inl (omega (arith, crooked_number any g e))

  pub range_means : (p : ℕ) → p < length rs → (FitsAt b rs p → ⊥) → ((q : ℕ) → q < p → FitsAt b rs q) → Means b given (Err (fault.OutOfRange p))
  unfolding look any
  range_means p l e h = (look any, (out_of_range p l e, after_range p h))

  module _ (t : Tables) (spells : Spells b rs t) (fits : (q : ℕ) → q < length rs → FitsAt b rs q) where
    -- a fault of a sheet that the records mean is one of its tables
    only_crooked : (g : Fault) → Faulty b (look t) g → Crooked t g
    unfolding look
    only_crooked g (unreadable l) = absurd (omega arith)
    only_crooked g (wrong_order q l e) = absurd (both_ways (misplaced_at rs q) (all.order q l) e)
    only_crooked g (no_node e) = let s = all.some in absurd (omega arith)
    only_crooked g (out_of_range q l e) = absurd (e (fits q l))
    only_crooked g (crooked s e) = e

    pub check_means : (f : Fault) → First (Crooked t) (Some f) → Means b given (Err f)
    unfolding look
    check_means f h = (look t, (crooked spells h.0, λ g e. h.1 g (only_crooked g e)))

    pub sheet_means : 0 < length (elements t.nodes) → Limited t → First (Crooked t) None → Means b given (Ok t)
    unfolding look
    sheet_means some few h = (
      look t,
      (λ g e. h g (only_crooked g e)),
      refl,
      ap (flat_map codes) spells.in_order ∙ all.whole,
      record { in_range = spells.in_range; some = some; limited = few; straight = h },
    )
