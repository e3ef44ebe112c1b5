-- Which fields are in range: a record is in range where something in range has it as its record.
use Rattle.std.specs.Prelude.{◌≡◌, ℕ, suc, ◌<◌, Bool, true, ◌&&◌, List, [], ◌∷◌, length, nat_le, nat_lt}
use Rattle.fault.specs.Items.{list}
use Rattle.tables.specs.Elements.{elements}
use Rattle.tables.specs.Encoding.{parts, spread, entry_record, node_record}
use Rattle.records.specs.declared.record.Record.{Record}
use Rattle.records.specs.declared.record.Record.TheVariants as raw
use Rattle.tables.specs.declared.basis.Basis.{Basis}
use Rattle.tables.specs.declared.tuple.Tuple.{Tuple}
use Rattle.tables.specs.declared.tables.Item.{Item}
use Rattle.tables.specs.declared.tables.Item.TheVariants.{Name, Index}
use Rattle.tables.specs.Shares.{Entry}
use Rattle.tables.specs.declared.tables.SheetType.{SheetType}
use Rattle.tables.specs.declared.tables.SheetType.TheVariants.{Pure, Public, Channel}
use Rattle.tables.specs.declared.tables.Node.{Node}
use Rattle.tables.specs.declared.tables.Node.TheVariants.{Stop, Send, Receive, Both, Copy, New, Test, Begin, End}
use Rattle.tables.specs.declared.tables.Tables.{Tables}

-- each of the list passes
abbrev pub all : {A : Type 0} → (A → Bool) → List A → Bool
all p [] = true
all p (x ∷ xs) = p x && all p xs

-- each passes under its own number, counted from i
abbrev pub all_from : {A : Type 0} → (ℕ → A → Bool) → ℕ → List A → Bool
all_from p i [] = true
all_from p i (x ∷ xs) = p i x && all_from p (suc i) xs

-- each number is below n
abbrev pub below : ℕ → List ℕ → Bool
below n = all (λ x. nat_lt x n)

-- a name that there is, or an index: at most three arrows, and a position from 1 to 4
abbrev pub item_fits : (names : ℕ) → Item → Bool
item_fits names (Name x) = nat_lt x names
item_fits names (Index u p) = nat_le u 3 && (nat_le 1 p && nat_le p 4)

abbrev pub entry_fits : (largest names : ℕ) → Entry → Bool
entry_fits largest names e = (nat_le 1 e.amount && nat_le e.amount largest) && all (item_fits names) (list e.label.items)

-- the components of type number i have lower numbers
abbrev pub type_fits : (largest names i : ℕ) → SheetType → Bool
type_fits largest names i Pure = true
type_fits largest names i Public = true
type_fits largest names i (Channel c) = below i (parts c.components) && all (entry_fits largest names) (elements c.entries)

-- its names and the nodes that it goes on to are there
abbrev pub node_fits : (names nodes : ℕ) → Node → Bool
node_fits names nodes Stop = true
node_fits names nodes (Send channel xs) = nat_lt channel names && below names (parts xs)
node_fits names nodes (Receive channel xs next) = (nat_lt channel names && below names (parts xs)) && nat_lt next nodes
node_fits names nodes (Both first second) = nat_lt first nodes && nat_lt second nodes
node_fits names nodes (Copy next) = nat_lt next nodes
node_fits names nodes (New x next) = nat_lt x names && nat_lt next nodes
node_fits names nodes (Test left right same other) = (nat_lt left names && nat_lt right names) && (nat_lt same nodes && nat_lt other nodes)
node_fits names nodes (Begin label next) = below names (list label.items) && nat_lt next nodes
node_fits names nodes (End label next) = below names (list label.items) && nat_lt next nodes

-- how many types, names and nodes a sheet has
pub record Totals : Type 0 where
  pub types : ℕ
  pub names : ℕ
  pub nodes : ℕ

abbrev pub totals : Tables → Totals
totals t = record { types = length (elements t.types); names = length (elements t.names); nodes = length (elements t.nodes) }

-- every field of the tables is in range, where the whole sheet has so many types, names and nodes
abbrev pub ranged : (largest : ℕ) → Totals → Tables → Bool
ranged largest n t =
    all_from (type_fits largest n.names) 0 (elements t.types)
    && (below n.types (elements t.names) && all (node_fits n.names n.nodes) (elements t.nodes))

-- a record is in range; own is how many types stand before it
pub data Fits (b : Basis) (n : Totals) (own : ℕ) (r : Record) : Type 0 where
  -- edition 1, the counting's code and its full right
  fits_head : r ≡ raw.Head 1 b.code b.full → Fits b n own r
  fits_pure : r ≡ raw.Pure → Fits b n own r
  fits_public : r ≡ raw.Public → Fits b n own r
  fits_channel : (xs : Tuple ℕ) → below own (parts xs) ≡ true → r ≡ raw.Channel (length (parts xs)) (spread (parts xs)) → Fits b n own r
  fits_entry : (e : Entry) → entry_fits b.largest n.names e ≡ true → r ≡ entry_record e → Fits b n own r
  fits_name : (x : ℕ) → x < n.types → r ≡ raw.Name x → Fits b n own r
  fits_node : (x : Node) → node_fits n.names n.nodes x ≡ true → r ≡ node_record x → Fits b n own r
