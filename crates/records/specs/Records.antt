-- A record as its bytes: one byte of kind, then a body whose length the kind fixes.
use Rattle.std.specs.Prelude.{ℕ, ◌/◌, ◌%◌, ◌≤◌, List, [], ◌∷◌, ◌++◌, ◌≢◌, slice_index}
use Rattle.records.specs.declared.record.Quad.{Quad}
use Rattle.records.specs.declared.record.Record.{Record}
use Rattle.records.specs.declared.record.Record.TheVariants.{Head, Name, Pure, Public, Channel, Entry, Stop, Send, Receive, Both, Copy, New, Test, Begin, End}

-- a node number: two bytes, the low one first
abbrev pub two : ℕ → List ℕ
two n = n % 256 ∷ n / 256 ∷ []

-- a full right or an amount: four bytes, the lowest first
abbrev pub four : ℕ → List ℕ
four n = n % 256 ∷ n / 256 % 256 ∷ n / 256 / 256 % 256 ∷ n / 256 / 256 / 256 ∷ []

abbrev pub quad : Quad → List ℕ
quad q = q.0 ∷ q.1 ∷ q.2 ∷ q.3 ∷ []

-- the bytes of a record
abbrev pub codes : Record → List ℕ
codes (Head edition code full) = 1 ∷ edition ∷ code ∷ four full
codes (Name sort) = 2 ∷ sort ∷ []
codes Pure = 3 ∷ []
codes Public = 4 ∷ []
codes (Channel count components) = 5 ∷ count ∷ quad components
codes (Entry amount items) = 6 ∷ (four amount ++ quad items)
codes Stop = 16 ∷ []
codes (Send channel count names) = 17 ∷ channel ∷ count ∷ quad names
codes (Receive channel count names next) = 18 ∷ channel ∷ count ∷ (quad names ++ two next)
codes (Both first second) = 19 ∷ (two first ++ two second)
codes (Copy next) = 20 ∷ two next
codes (New name next) = 21 ∷ name ∷ two next
codes (Test left right same other) = 22 ∷ left ∷ right ∷ (two same ++ two other)
codes (Begin names next) = 23 ∷ (quad names ++ two next)
codes (End names next) = 24 ∷ (quad names ++ two next)

-- the kind of a record, its first byte; nodes have the kinds from 16 on
abbrev pub kind : Record → ℕ
kind r = slice_index (codes r) 0

-- no record of this kind or above stands in front of these bytes
abbrev pub NoRecord : ℕ → List ℕ → Type 0
NoRecord from bytes = (r : Record) (rest : List ℕ) → from ≤ kind r → codes r ++ rest ≢ bytes

-- no record stands in front of these bytes: it is cut off, of an unknown kind, or there are none
abbrev pub Unreadable : List ℕ → Type 0
Unreadable bytes = (r : Record) (rest : List ℕ) → codes r ++ rest ≢ bytes
