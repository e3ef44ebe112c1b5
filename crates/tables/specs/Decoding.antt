-- Records read back: what a record's four bytes, its item bytes and its fields stand for, where they stand for anything.
-- It undoes the encoding: something in range is got back from its record, and what is got has that record.
use Rattle.std.specs.Prelude.{ℕ, ◌+◌, ◌-◌, ◌/◌, ◌%◌, Bool, cond, ◌&&◌, length, Some, None, Option, ◌==◌, nat_lt}
use Rattle.std.specs.Option.{option_map}
use Rattle.fault.specs.Items.{list}
use Rattle.fault.specs.declared.items.Items.{Items}
use Rattle.fault.specs.declared.items.Items.TheVariants.{One, Two, Three, Four}
use Rattle.fault.specs.declared.label.Label.{Label}
use Rattle.records.specs.declared.record.Quad.{Quad}
use Rattle.records.specs.declared.record.Record.{Record}
use Rattle.records.specs.declared.record.Record.TheVariants as raw
use Rattle.tables.specs.declared.tuple.Tuple.{Tuple}
use Rattle.tables.specs.declared.tables.Item.{Item}
use Rattle.tables.specs.declared.tables.Item.TheVariants.{Name, Index}
use Rattle.tables.specs.Shares.{Entry}
use Rattle.tables.specs.declared.tables.Node.{Node}
use Rattle.tables.specs.declared.tables.Node.TheVariants.{Stop, Send, Receive, Both, Copy, New, Test, Begin, End}

abbrev pub unused : ℕ → Bool
unused b = b == 255

-- the bytes that are used: at least one, and those that are not used stand last
abbrev pub used : Quad → Option (Items ℕ)
used q =
    cond (unused q.0) None
    (cond (unused q.1) (cond (unused q.2 && unused q.3) (Some (One q.0)) None)
    (cond (unused q.2) (cond (unused q.3) (Some (Two q.0 q.1)) None)
    (cond (unused q.3) (Some (Three q.0 q.1 q.2)) (Some (Four q.0 q.1 q.2 q.3)))))

-- so many bytes that are used
abbrev pub counted : ℕ → Option (Items ℕ) → Option (Tuple ℕ)
counted n None = None
counted n (Some xs) = cond (length (list xs) == n) (Some (record { 0 = Some xs })) None

abbrev pub tuple_of : ℕ → Quad → Option (Tuple ℕ)
tuple_of n q =
    cond (n == 0) (cond ((unused q.0 && unused q.1) && (unused q.2 && unused q.3)) (Some (record { 0 = None })) None) (counted n (used q))

abbrev pub label_of : Quad → Option (Label ℕ)
label_of q = option_map (λ xs. record { items = xs }) (used q)

abbrev pub item_of : ℕ → Option Item
item_of b = cond (nat_lt b 64) (Some (Name b)) (cond (nat_lt b 80) (Some (Index ((b - 64) / 4) ((b - 64) % 4 + 1))) None)

-- one item more
abbrev pub longer : Option (Items Item) → Option Item → Option (Items Item)
longer None c = None
longer (Some xs) None = None
longer (Some (One a)) (Some b) = Some (Two a b)
longer (Some (Two a b)) (Some c) = Some (Three a b c)
longer (Some (Three a b c)) (Some d) = Some (Four a b c d)
longer (Some (Four a b c d)) (Some e) = None

-- each of the bytes an item
abbrev pub items_of : Items ℕ → Option (Items Item)
items_of (One a) = option_map One (item_of a)
items_of (Two a b) = longer (option_map One (item_of a)) (item_of b)
items_of (Three a b c) = longer (longer (option_map One (item_of a)) (item_of b)) (item_of c)
items_of (Four a b c d) = longer (longer (longer (option_map One (item_of a)) (item_of b)) (item_of c)) (item_of d)

abbrev pub items_in : Option (Items ℕ) → Option (Items Item)
items_in None = None
items_in (Some xs) = items_of xs

abbrev pub entry_of : ℕ → Quad → Option Entry
entry_of amount q = option_map (λ xs. record { label = record { items = xs }; amount = amount }) (items_in (used q))

abbrev pub node_of : Record → Option Node
node_of (raw.Head edition code full) = None
node_of (raw.Name sort) = None
node_of raw.Pure = None
node_of raw.Public = None
node_of (raw.Channel count components) = None
node_of (raw.Entry amount items) = None
node_of raw.Stop = Some Stop
node_of (raw.Send channel count names) = option_map (λ xs. Send channel xs) (tuple_of count names)
node_of (raw.Receive channel count names next) = option_map (λ xs. Receive channel xs next) (tuple_of count names)
node_of (raw.Both first second) = Some (Both first second)
node_of (raw.Copy next) = Some (Copy next)
node_of (raw.New name next) = Some (New name next)
node_of (raw.Test left right same other) = Some (Test left right same other)
node_of (raw.Begin names next) = option_map (λ l. Begin l next) (label_of names)
node_of (raw.End names next) = option_map (λ l. End l next) (label_of names)
