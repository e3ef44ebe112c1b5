-- The table of refusals: number, layer, place, and what is amiss.
use Rattle.std.specs.Prelude.{ℕ, cond, Some, None, Option, nat_le}
use Rattle.fault.specs.declared.label.Label.{Label}
use Rattle.fault.specs.declared.fault.Layer.{Layer}
use Rattle.fault.specs.declared.fault.Layer.TheVariants.{Sheet, Judge, Run}
use Rattle.fault.specs.declared.fault.Fault.{Fault}
use Rattle.fault.specs.declared.fault.Fault.TheVariants.{Unreadable, WrongOrder, OutOfRange, NotATree, OutOfScope, BadType, FewRows, FreeNotPublic, IllFormed, BadChannel, WrongType, Escapes, NotCopyable, RootOwes, NoSuchThread, Mismatch, PoolFull, ValuesFull, NoRoom, NotCovered, Unknown, SmallLedger}

-- what a refusal says: its number, its place, and for those about an amount the label and the amount
pub record Entry : Type 0 where
  pub number : ℕ
  pub place : ℕ
  pub amiss : Option (Label ℕ × ℕ)

abbrev pub plain : ℕ → ℕ → Entry
plain n p = record { number = n; place = p; amiss = None }

abbrev pub about : ℕ → ℕ → Label ℕ → ℕ → Entry
about n p l a = record { number = n; place = p; amiss = Some (l, a) }

-- the one table of all refusals
abbrev pub entry : Fault → Entry
entry (Unreadable p) = plain 1 p
entry (WrongOrder p) = plain 2 p
entry (OutOfRange p) = plain 3 p
entry (NotATree p) = plain 4 p
entry (OutOfScope p) = plain 5 p
entry (BadType p) = plain 6 p
entry FewRows = plain 7 0
entry (FreeNotPublic p) = plain 8 p
entry (IllFormed p) = plain 9 p
entry (BadChannel p) = plain 10 p
entry (WrongType p) = plain 11 p
entry (Escapes p l a) = about 12 p l a
entry (NotCopyable p l a) = about 13 p l a
entry (RootOwes l a) = about 14 0 l a
entry (NoSuchThread p) = plain 15 p
entry (Mismatch p) = plain 16 p
entry (PoolFull p) = plain 17 p
entry (ValuesFull p) = plain 18 p
entry (NoRoom p) = plain 19 p
entry (NotCovered p) = plain 20 p
entry (Unknown p) = plain 21 p
entry SmallLedger = plain 22 0

abbrev pub number_of : Fault → ℕ
number_of f = (entry f).number

abbrev pub place_of : Fault → ℕ
place_of f = (entry f).place

abbrev pub amiss_of : Fault → Option (Label ℕ × ℕ)
amiss_of f = (entry f).amiss

-- 1 to 6 are the sheet's, 7 to 14 the judge's, the others the run's
abbrev pub layer_of : Fault → Layer
layer_of f = cond (nat_le (number_of f) 6) Sheet (cond (nat_le (number_of f) 14) Judge Run)
