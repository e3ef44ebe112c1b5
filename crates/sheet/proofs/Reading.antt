-- Records read one after another.
use Rattle.std.proofs.Common.{◌≡◌, ℕ, ◌+◌, ◌≤◌, List, [], ◌∷◌, ◌++◌, length, sym, ap, ◌∙◌, append_assoc, arith, length-append}
use Rattle.std.specs.List.{flat_map}
use Rattle.std.proofs.lemmas.List.{flat_map_more}
use Rattle.records.specs.Records.{codes, Unreadable}
use Rattle.records.specs.declared.record.Record.{Record}
use Rattle.records.specs.declared.record.Record.TheVariants.{Head, Name, Pure, Public, Channel, Entry, Stop, Send, Receive, Both, Copy, New, Test, Begin, End}

-- one more record, in front of what was left
pub one_more : {A X : Type 0} (f : X → List A) (xs : List X) (x : X) (left rest all : List A) → f x ++ rest ≡ left → flat_map f xs ++ left ≡ all → flat_map f (xs ++ x ∷ []) ++ rest ≡ all
one_more f xs x left rest all e h =
    ap (λ ys. ys ++ rest) (sym (flat_map_more f [] xs x))
    ∙ append_assoc (flat_map f xs) (f x) rest
    ∙ ap (λ ys. flat_map f xs ++ ys) e
    ∙ h

-- every record has a byte of kind
pub some_bytes : (r : Record) → 1 ≤ length (codes r)
some_bytes (Head edition code full) = omega arith
some_bytes (Name sort) = omega arith
some_bytes Pure = omega arith
some_bytes Public = omega arith
some_bytes (Channel count components) = omega arith
some_bytes (Entry amount items) = omega arith
some_bytes Stop = omega arith
some_bytes (Send channel count names) = omega arith
some_bytes (Receive channel count names next) = omega arith
some_bytes (Both first second) = omega arith
some_bytes (Copy next) = omega arith
some_bytes (New name next) = omega arith
some_bytes (Test left right same other) = omega arith
some_bytes (Begin names next) = omega arith
some_bytes (End names next) = omega arith

-- what follows a record is shorter
pub shorter : (r : Record) (rest left : List ℕ) → codes r ++ rest ≡ left → length rest + 1 ≤ length left
shorter r rest left e = omega (arith, ap length e, length-append (codes r) rest, some_bytes r)

-- no record stands in front of nothing
pub no_record : Unreadable []
no_record r rest e = omega (arith, shorter r rest [] e)
