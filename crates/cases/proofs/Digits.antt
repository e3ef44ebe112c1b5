-- What is not hexadecimal digits alone spells no piece.
use Rattle.std.proofs.Common.{◌≡◌, ℕ, false, List, Result, Ok, Err, None, refl, sym, ◌∙◌}
use Rattle.std.proofs.lemmas.List.Sums.{list_all-from_AllPass}
use Rattle.std.specs.List.{list_all}
use Rattle.std.specs.Result.{result_ok}
use Rattle.hex.proofs.HexLemmas.{decode_of-ok}
use Rattle.hex.specs.Hex.{decode_of, is_hex_digit}
use Rattle.hex.specs.declared.error.FromHexError.{FromHexError}
use Rattle.cases.specs.Spelling.{nonempty, piece}

none_from : (digits : List ℕ) → list_all is_hex_digit digits ≡ false → (r : Result (List ℕ) FromHexError) → decode_of digits ≡ r → nonempty (result_ok r) ≡ None
none_from digits bad (Ok bytes) e = let good = list_all-from_AllPass is_hex_digit digits (decode_of-ok digits bytes e).1 in cc (sym good ∙ bad)
none_from digits bad (Err error) e = refl

pub no_piece : (digits : List ℕ) → list_all is_hex_digit digits ≡ false → piece digits ≡ None
no_piece digits bad = none_from digits bad (decode_of digits) refl
