-- What opening answers: the first fault of the bytes, or the sheet that they mean.
use Rattle.std.specs.Prelude.{◌≡◌, ℕ, suc, ◌+◌, ◌<◌, ◌≤◌, true, List, [], ◌∷◌, ◌++◌, length, take, Some, None, Ok, Err, Option, Result}
use Rattle.std.specs.List.{flat_map}
use Rattle.calculus.specs.Countings.{Operations}
use Rattle.fault.specs.First.{First}
use Rattle.fault.specs.declared.fault.Fault.{Fault}
use Rattle.fault.specs.declared.fault.Fault.TheVariants.{Unreadable, WrongOrder, OutOfRange, NotATree, OutOfScope, BadType}
use Rattle.tables.specs.Elements.{elements}
use Rattle.records.specs.Records as bytes
use Rattle.tables.specs.Encoding as encoding
use Rattle.tables.specs.Range.{totals, ranged}
use Rattle.sheet.specs.Order.{census, misplaced_at}
use Rattle.sheet.specs.Tree.{misgrown}
use Rattle.sheet.specs.Scope.{Misnamed}
use Rattle.tables.specs.Channels.{entries}
use Rattle.sheet.specs.Types.{Misformed, type_at}
use Rattle.sheet.specs.Filling.{FitsAt, Spells}
use Rattle.tables.specs.declared.basis.Basis.{Basis}
use Rattle.records.specs.declared.record.Record.{Record}
use Rattle.tables.specs.declared.tables.Node.TheVariants.{Stop}
use Rattle.tables.specs.declared.tables.Tables.{Tables}

-- the record number of a type, and of a node
abbrev pub type_place : Tables → ℕ → ℕ
type_place t i = suc (length (flat_map encoding.type_records (take i (elements t.types))))

abbrev pub node_place : Tables → ℕ → ℕ
node_place t n = suc (length (flat_map encoding.type_records (elements t.types)) + length (elements t.names) + n)

-- the faults of tables whose fields are in range, a rule for each
pub data Crooked (t : Tables) : Fault → Type 0 where
  -- 4: a node has a child not above it, or is not a child just once
  not_a_tree : (n : ℕ) → n < length (elements t.nodes) → misgrown (elements t.nodes) n ≡ true → Crooked t (NotATree (node_place t n))
  -- 5: a node binds a name already bound, or uses one out of scope
  out_of_scope : (n : ℕ) → n < length (elements t.nodes) → Misnamed (elements t.nodes) n → Crooked t (OutOfScope (node_place t n))
  -- 6: a type has a label twice, or nesting over 4
  bad_type : (i : ℕ) → i < length (elements t.types) → Misformed (elements t.types) i → Crooked t (BadType (type_place t i))

-- bytes taken apart: the records in front, one after another, as far as there are any; and a sheet
pub record Reading (given : List ℕ) : Type 0 where
  pub records : List Record
  pub left : List ℕ
  pub whole : flat_map bytes.codes records ++ left ≡ given
  pub stuck : bytes.Unreadable left
  pub sheet : Tables

-- bytes can be read in one way only: two readings have the same records, and leave the same
abbrev pub OneReading : List ℕ → Type 0
OneReading given = (R S : Reading given) → (R.records ≡ S.records) × (R.left ≡ S.left)

-- the faults of a reading, a rule for each; those of tables are about a sheet that the records mean
pub data Faulty (b : Basis) {given : List ℕ} (R : Reading given) : Fault → Type 0 where
  -- 1: what is left after the last record is no record
  unreadable : 0 < length R.left → Faulty b R (Unreadable (length R.records))
  -- 2: a record stands wrongly or is one too many; or there is no node
  wrong_order : (p : ℕ) → p < length R.records → misplaced_at R.records p ≡ true → Faulty b R (WrongOrder p)
  no_node : (census R.records).nodes ≡ 0 → Faulty b R (WrongOrder (length R.records))
  -- 3: a record is out of range
  out_of_range : (p : ℕ) → p < length R.records → (FitsAt b R.records p → ⊥) → Faulty b R (OutOfRange p)
  -- 4 to 6
  crooked : {f : Fault} → Spells b R.records R.sheet → Crooked R.sheet f → Faulty b R f

-- no table has more than its limit
pub record Limited (t : Tables) : Type 0 where
  pub types : length (elements t.types) ≤ 64
  pub names : length (elements t.names) ≤ 64
  pub nodes : length (elements t.nodes) ≤ 1024
  pub entries : (i : ℕ) → length (entries (type_at (elements t.types) i)) ≤ 8

-- what opening establishes of tables: all fields are in range, there is a node, no table has more than its limit, and
-- there is no fault
pub record Sound (largest : ℕ) (t : Tables) : Type 0 where
  pub in_range : ranged largest (totals t) t ≡ true
  pub some : 0 < length (elements t.nodes)
  pub limited : Limited t
  pub straight : (f : Fault) → Crooked t f → ⊥

-- the answer as a fault or none
abbrev pub fault_of : {A : Type 0} → Result A Fault → Option Fault
fault_of (Ok x) = None
fault_of (Err f) = Some f

-- the tables that bytes mean: with no fault they are the sheet's, whose records spell the bytes; else the first fault
abbrev pub Means : Basis → List ℕ → Result Tables Fault → Type 0
Means b given (Ok t) =
    (R : Reading given) × First (Faulty b R) None × (t ≡ R.sheet) × (flat_map bytes.codes (encoding.records b t) ≡ given) × Sound b.largest t
Means b given (Err f) = (R : Reading given) × First (Faulty b R) (Some f)

-- what a counting asks of a sheet
abbrev pub basis_of : ℕ → Operations → Basis
basis_of code K = record { code = code; full = K.full; largest = K.largest }

-- opening: with no fault the place holds the sheet that the bytes mean; else the answer is the first fault
abbrev pub Opens : Basis → List ℕ → (after : Tables) → Result (Unit {0}) Fault → Type 0
Opens b given after (Ok u) = Means b given (Ok after)
Opens b given after (Err f) = Means b given (Err f)

-- a sheet of one stop
pub record OneStop (t : Tables) : Type 0 where
  pub types : elements t.types ≡ []
  pub names : elements t.names ≡ []
  pub nodes : elements t.nodes ≡ Stop ∷ []
