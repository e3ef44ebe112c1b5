-- Nine small sheets, each with its verdict by parts with full right 2 and by once.
use Rattle.std.specs.Prelude.{ℕ, min, List, [], ◌∷◌, length, Some, None, Option}
use Rattle.std.specs.List.{AllByRecursion}
use Rattle.std.proofs.Common.{arith}
use Rattle.calculus.specs.Built.{parts, once}
use Rattle.calculus.specs.Countings.{Operations}
use Rattle.fault.specs.declared.items.Items.TheVariants.{One, Two}
use Rattle.fault.specs.declared.label.Label.{Label}
use Rattle.fault.specs.declared.fault.Fault.{Fault}
use Rattle.fault.specs.declared.fault.Fault.TheVariants.{WrongType, Escapes, NotCopyable, RootOwes}
use Rattle.tables.specs.declared.table.Table.{Table}
use Rattle.tables.specs.declared.tuple.Tuple.{Tuple}
use Rattle.tables.specs.Shares.{Entry}
use Rattle.tables.specs.declared.tables.Item.{Item}
use Rattle.tables.specs.declared.tables.Item.TheVariants.{Name, Index}
use Rattle.tables.specs.declared.tables.Node.{Node}
use Rattle.tables.specs.declared.tables.Node.TheVariants.{Stop, Send, Receive, Both, Copy, New, Begin, End}
use Rattle.tables.specs.declared.tables.SheetType.{SheetType}
use Rattle.tables.specs.declared.tables.SheetType.TheVariants.{Public, Channel}
use Rattle.tables.specs.declared.tables.Tables.{Tables}
use Rattle.meaning.specs.Accepts.{Accepts}
use Rattle.meaning.specs.Faults.{Faulty, FirstTold}

-- a table of these things, as many as it has places for
abbrev pub table_of : {T : Type 0} {N : ℕ} → List T → Table T N
table_of {T} {N} xs = record { items = xs; count = min (length xs) N; within = omega arith }

-- the tables of these types, names (each by the number of its type) and nodes
abbrev pub tables_of : List SheetType → List ℕ → List Node → Tables
tables_of types names nodes = record { types = table_of types; names = table_of names; nodes = table_of nodes }

-- name 0 is public: the permission is about it. It is called a, and the label of it alone
abbrev pub a : Label ℕ
a = record { items = One 0 }

-- an entry of 1 on one item
abbrev pub entry_on : Item → Entry
entry_on i = record { label = record { items = One i }; amount = 1 }

-- no things
abbrev pub empty : Tuple ℕ
empty = record { 0 = None }

-- c is a channel without components, whose message carries 1 on a
abbrev pub c_type : SheetType
c_type = Channel (record { components = empty; entries = table_of (entry_on (Name 0) ∷ []) })

-- d is a channel of two public names, whose message carries 1 on each of them
abbrev pub d_type : SheetType
d_type = Channel (record { components = record { 0 = Some (Two 0 0) }; entries = table_of (entry_on (Index 0 1) ∷ entry_on (Index 0 2) ∷ []) })

-- a sheet and its two verdicts
pub record Example : Type 0 where
  pub sheet : Tables
  pub by_parts : Option Fault
  pub by_once : Option Fault

-- 1: stop
abbrev pub stops : Example
stops = record { sheet = tables_of [] [] (Stop ∷ []); by_parts = None; by_once = None }

-- 2: begin a, end a, end a
abbrev pub ends_twice : Example
ends_twice = record {
  sheet = tables_of (Public ∷ []) (0 ∷ []) (Begin a 1 ∷ End a 2 ∷ End a 3 ∷ Stop ∷ []);
  by_parts = Some (RootOwes a 2);
  by_once = None;
}

-- 3: end a
abbrev pub ends : Example
ends = record { sheet = tables_of (Public ∷ []) (0 ∷ []) (End a 1 ∷ Stop ∷ []); by_parts = Some (RootOwes a 2); by_once = Some (RootOwes a 1) }

-- 4: new y, end y (y is name 0 here)
abbrev pub ends_new : Example
ends_new = record {
  sheet = tables_of (Public ∷ []) (0 ∷ []) (New 0 1 ∷ End a 2 ∷ Stop ∷ []);
  by_parts = Some (Escapes 0 a 2);
  by_once = Some (Escapes 0 a 1);
}

-- 5: copy, end a
abbrev pub ends_copied : Example
ends_copied = record {
  sheet = tables_of (Public ∷ []) (0 ∷ []) (Copy 1 ∷ End a 2 ∷ Stop ∷ []);
  by_parts = Some (NotCopyable 0 a 2);
  by_once = Some (RootOwes a 1);
}

-- 6: new c, both: (begin a, both sends on c), (receive c, receive c, end a)
abbrev pub halves : Example
halves = record {
  sheet = tables_of (Public ∷ c_type ∷ []) (0 ∷ 1 ∷ [])
      (New 1 1 ∷ Both 2 6 ∷ Begin a 3 ∷ Both 4 5 ∷ Send 1 empty ∷ Send 1 empty ∷ Receive 1 empty 7 ∷ Receive 1 empty 8 ∷ End a 9 ∷ Stop ∷ []);
  by_parts = None;
  by_once = None;
}

-- 7: as 6, with one receive
abbrev pub one_half : Example
one_half = record {
  sheet = tables_of (Public ∷ c_type ∷ []) (0 ∷ 1 ∷ [])
      (New 1 1 ∷ Both 2 6 ∷ Begin a 3 ∷ Both 4 5 ∷ Send 1 empty ∷ Send 1 empty ∷ Receive 1 empty 7 ∷ End a 8 ∷ Stop ∷ []);
  by_parts = Some (RootOwes a 1);
  by_once = None;
}

-- 8: new d, send d(a, a)
abbrev pub same_twice : Example
same_twice = record {
  sheet = tables_of (Public ∷ d_type ∷ []) (0 ∷ 1 ∷ []) (New 1 1 ∷ Send 1 (record { 0 = Some (Two 0 0) }) ∷ []);
  by_parts = Some (RootOwes a 2);
  by_once = Some (RootOwes a 1);
}

-- 9: new c, send p(c) (p is name 2, and public)
abbrev pub tells_secret : Example
tells_secret = record {
  sheet = tables_of (Public ∷ c_type ∷ []) (0 ∷ 1 ∷ 0 ∷ []) (New 1 1 ∷ Send 2 (record { 0 = Some (One 1) }) ∷ []);
  by_parts = Some (WrongType 1);
  by_once = Some (WrongType 1);
}

abbrev pub nine : List Example
nine = stops ∷ ends_twice ∷ ends ∷ ends_new ∷ ends_copied ∷ halves ∷ one_half ∷ same_twice ∷ tells_secret ∷ []

-- the typing rules accept the sheet, or not
abbrev pub AcceptedBy : Operations → Tables → Option Fault → Type 0
AcceptedBy K t None = Accepts K t
AcceptedBy K t (Some f) = Accepts K t → ⊥

-- the verdict is right: it is the first fault with enough rows, and with none the typing rules accept the sheet, with one they do not
pub record Right (K : Operations) (t : Tables) (verdict : Option Fault) : Type 0 where
  pub told : FirstTold (Faulty K t 8192) verdict
  pub accepted : AcceptedBy K t verdict

-- all verdicts are right
abbrev pub AllRight : Type 0
AllRight = AllByRecursion (λ e. Right (parts 2) e.sheet e.by_parts × Right once e.sheet e.by_once) nine
