-- Bytes have one reading.
use Rattle.std.proofs.Common.{◌≡◌, ℕ, List, [], ◌∷◌, ◌++◌, sym, refl, ◌∙◌, ap₂, append_assoc}
use Rattle.std.specs.List.{flat_map}
use Rattle.records.specs.Records.{codes, Unreadable}
use Rattle.records.specs.declared.record.Record.{Record}
use Rattle.records.proofs.Prefixes.{one_reading}
use Rattle.sheet.specs.Opening.{OneReading}

same : (rs ss : List Record) (x y : List ℕ) → Unreadable x → Unreadable y → flat_map codes rs ++ x ≡ flat_map codes ss ++ y → (rs ≡ ss) × (x ≡ y)
same [] [] x y u v e = (refl, e)
same [] (s ∷ ss) x y u v e = absurd (u s (flat_map codes ss ++ y) (sym (append_assoc (codes s) (flat_map codes ss) y) ∙ sym e))
same (r ∷ rs) [] x y u v e = absurd (v r (flat_map codes rs ++ x) (sym (append_assoc (codes r) (flat_map codes rs) x) ∙ e))
same (r ∷ rs) (s ∷ ss) x y u v e =
    let front = one_reading r s (flat_map codes rs ++ x) (flat_map codes ss ++ y) (sym (append_assoc (codes r) (flat_map codes rs) x) ∙ e ∙ append_assoc (codes s) (flat_map codes ss) y) in
    let rest = same rs ss x y u v front.1 in
    (ap₂ ◌∷◌ front.0 rest.0, rest.1)

pub one_way : (given : List ℕ) → OneReading given
one_way given R S = same R.records S.records R.left S.left R.stuck S.stuck (R.whole ∙ sym S.whole)
