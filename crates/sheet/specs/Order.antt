-- The order of records: one head, then types (each channel followed by its entries), then names, then nodes; at most
-- 64 types, 8 entries a type, 64 names and 1,024 nodes.
use Rattle.std.specs.Prelude.{◌≡◌, ℕ, ◌+◌, ◌-◌, ◌<◌, Bool, true, false, ◌||◌, List, ◌++◌, length, take, None, Ok, Err, fold, Result, ◌==◌, ◌≢◌, nat_le, nat_lt, slice_index_or}
use Rattle.std.specs.List.{flat_map}
use Rattle.fault.specs.First.{Lowest}
use Rattle.fault.specs.declared.fault.Fault.{Fault}
use Rattle.fault.specs.declared.fault.Fault.TheVariants as fault
use Rattle.records.specs.Records.{codes, Unreadable}
use Rattle.records.specs.declared.record.Record.{Record}
use Rattle.records.specs.declared.record.Record.TheVariants as raw
use Rattle.sheet.specs.declared.census.Class.{Class}
use Rattle.sheet.specs.declared.census.Class.TheVariants.{Head, Plain, Channel, Entry, Name, Node}
use Rattle.sheet.specs.declared.census.Census.{Census}
use Rattle.sheet.specs.declared.census.Scan.{Scan}

-- what a record is to the order
abbrev pub class_of : Record → Class
class_of (raw.Head edition code full) = Head
class_of (raw.Name sort) = Name
class_of raw.Pure = Plain
class_of raw.Public = Plain
class_of (raw.Channel count components) = Channel
class_of (raw.Entry amount items) = Entry
class_of raw.Stop = Node
class_of (raw.Send channel count names) = Node
class_of (raw.Receive channel count names next) = Node
class_of (raw.Both first second) = Node
class_of (raw.Copy next) = Node
class_of (raw.New name next) = Node
class_of (raw.Test left right same other) = Node
class_of (raw.Begin names next) = Node
class_of (raw.End names next) = Node

-- before the first record
abbrev pub nothing : Census
nothing = record { heads = 0; types = 0; names = 0; nodes = 0; room = 0 }

-- a record of this class stands wrongly, or is one too many, after these
abbrev pub misplaced : Census → Class → Bool
misplaced c Head = nat_lt 0 c.heads
misplaced c Plain = c.heads == 0 || (nat_lt 0 c.names || (nat_lt 0 c.nodes || nat_le 64 c.types))
misplaced c Channel = c.heads == 0 || (nat_lt 0 c.names || (nat_lt 0 c.nodes || nat_le 64 c.types))
misplaced c Entry = c.room == 0
misplaced c Name = c.heads == 0 || (nat_lt 0 c.nodes || nat_le 64 c.names)
misplaced c Node = c.heads == 0 || nat_le 1024 c.nodes

-- what stands there with one record more; room is for how many entries more may follow: eight after a channel, one
-- less after an entry, none after anything else
abbrev pub after : Census → Class → Census
after c Head = record { heads = c.heads + 1; types = c.types; names = c.names; nodes = c.nodes; room = 0 }
after c Plain = record { heads = c.heads; types = c.types + 1; names = c.names; nodes = c.nodes; room = 0 }
after c Channel = record { heads = c.heads; types = c.types + 1; names = c.names; nodes = c.nodes; room = 8 }
after c Entry = record { heads = c.heads; types = c.types; names = c.names; nodes = c.nodes; room = c.room - 1 }
after c Name = record { heads = c.heads; types = c.types; names = c.names + 1; nodes = c.nodes; room = 0 }
after c Node = record { heads = c.heads; types = c.types; names = c.names; nodes = c.nodes + 1; room = 0 }

-- how many records of each class there are, and the room for entries at the end
abbrev pub census : List Record → Census
census rs = fold (λ c r. after c (class_of r)) nothing rs

-- record number p stands wrongly
abbrev pub misplaced_at : List Record → ℕ → Bool
misplaced_at rs p = misplaced (census (take p rs)) (class_of (slice_index_or rs p raw.Stop))

-- no record stands wrongly
abbrev pub Ordered : List Record → Type 0
Ordered rs = (p : ℕ) → p < length rs → misplaced_at rs p ≡ false

-- what a scan has seen of these records: how many there are, the lowest that stands wrongly, and as long as there is
-- none, what stands before the next
pub record Seen (rs : List Record) (s : Scan) : Type 0 where
  pub count : s.place ≡ length rs
  pub lowest : Lowest (λ p. misplaced_at rs p ≡ true) (length rs) s.wrong
  pub before : s.wrong ≡ None → s.census ≡ census rs

-- the first fault among the records' bytes and order: what is left is no record; or one stands wrongly; or none is a node
pub data Unfinished (rs : List Record) (left : List ℕ) : Fault → Type 0 where
  cut : 0 < length left → Unfinished rs left (fault.Unreadable (length rs))
  wrong : (p : ℕ) → length left ≡ 0 → p < length rs → misplaced_at rs p ≡ true → ((q : ℕ) → q < p → misplaced_at rs q ≢ true) → Unfinished rs left (fault.WrongOrder p)
  none : length left ≡ 0 → Ordered rs → (census rs).nodes ≡ 0 → Unfinished rs left (fault.WrongOrder (length rs))

-- what a scan of all bytes answers
abbrev pub Scanned : List ℕ → Result Census Fault → Type 0
Scanned given (Ok c) = (rs : List Record) × (flat_map codes rs ≡ given) × Ordered rs × (c ≡ census rs) × (0 < (census rs).nodes)
Scanned given (Err f) = (rs : List Record) × (left : List ℕ) × (flat_map codes rs ++ left ≡ given) × Unreadable left × Unfinished rs left f
