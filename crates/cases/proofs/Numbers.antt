-- What `parse` reads is the number of the specification.
use Rattle.std.proofs.Common.{◌≡◌, ℕ, ◌^◌, true, ◌&&◌, List, length, Result, Ok, Err, Some, None, nat_lt, refl, ltb-true, rules}
use Rattle.std.proofs.lemmas.Bool.{and_parts, cond_both}
use Rattle.std.proofs.lemmas.Str.Parse.{IsNumeralModel, numerals_by_value, tells_all_ascii_digits}
use Rattle.std.specs.Result.{result_ok}
use Rattle.std.specs.Str.{all_ascii_digits}
use Rattle.std.specs.Str.Parse.{ParsesUnsigned, digits_value, without_leading_plus}
use Rattle.cases.specs.Spelling.{number}

own : IsNumeralModel (λ ds. all_ascii_digits ds ≡ true) (digits_value 10)
own = numerals_by_value _ tells_all_ascii_digits

pub number_from_parse : {E : Type 0} (bs : List ℕ) (r : Result ℕ E) → ParsesUnsigned 64 10 bs r → result_ok r ≡ number bs
number_from_parse bs (Ok x) h = let a = own.from (without_leading_plus bs) h.0.0.1 in search rules
number_from_parse bs (Err e) h =
    let ds = without_leading_plus bs in
    let short = nat_lt 0 (length ds) in
    let digits = all_ascii_digits ds in
    let small = nat_lt (digits_value 10 ds) (2 ^ 64) in
    cond_both (short && (digits && small)) (Some (digits_value 10 ds)) None (λ o. None ≡ o)
    (λ t.
    let a = and_parts short (digits && small) t in
    let b = and_parts digits small a.1 in
    absurd (h ((ltb-true 0 (length ds) a.0, own.to ds b.0), ltb-true (digits_value 10 ds) (2 ^ 64) b.1)))
    (λ f. refl)
