-- What the tokens of a case spell.
use Rattle.std.specs.Prelude.{ℕ, ◌^◌, Bool, ◌==◌, ◌&&◌, nat_lt, if◌then◌else◌, List, [], ◌∷◌, length, Option, Some, None}
use Rattle.std.specs.Fmt.{option_append}
use Rattle.std.specs.List.{repeat, before_first, after_first, position_or_len, slice_split}
use Rattle.std.specs.Result.{result_ok}
use Rattle.std.specs.Str.{all_ascii_digits}
use Rattle.std.specs.Str.Parse.{digits_value, without_leading_plus}
use Rattle.hex.specs.Hex.{decode_of}
use Rattle.hex.specs.declared.error.FromHexError.{FromHexError}
use Rattle.hex.specs.declared.error.FromHexError.TheVariants.{InvalidHexCharacter, OddLength, InvalidStringLength, OutOfMemory as NoMemory}
use Rattle.cases.specs.declared.spelling.SpellError.{SpellError}
use Rattle.cases.specs.declared.spelling.SpellError.TheVariants.{Malformed, OutOfMemory}

abbrev pub is_star : ℕ → Bool
is_star c = c == 42

abbrev pub is_space : ℕ → Bool
is_space c = c == 32

-- some bytes, but not none
abbrev pub nonempty : Option (List ℕ) → Option (List ℕ)
nonempty None = None
nonempty (Some []) = None
nonempty (Some (b ∷ bs)) = Some (b ∷ bs)

-- the bytes that hexadecimal digits spell, one at least
abbrev pub piece : List ℕ → Option (List ℕ)
piece digits = nonempty (result_ok (decode_of digits))

-- a number of 64 bits in decimal, with a plus in front or none
abbrev pub number : List ℕ → Option ℕ
number text =
    if nat_lt 0 (length (without_leading_plus text)) && (all_ascii_digits (without_leading_plus text) && nat_lt (digits_value 10 (without_leading_plus text)) (2 ^ 64))
    then Some (digits_value 10 (without_leading_plus text))
    else None

-- how many times the bytes of a token stand there: the number behind its first star, or once where it has none
abbrev pub often : List ℕ → Option ℕ
often token = if position_or_len is_star token == length token then Some 1 else number (after_first is_star token)

-- the bytes, so many times
abbrev pub times : Option (List ℕ) → Option ℕ → Option (List ℕ)
times None n = None
times (Some bytes) None = None
times (Some bytes) (Some n) = Some (repeat n bytes)

-- the bytes of a token
abbrev pub token_bytes : List ℕ → Option (List ℕ)
token_bytes token = times (piece (before_first is_star token)) (often token)

-- the bytes of some tokens in their order
abbrev pub tokens_bytes : List (List ℕ) → Option (List ℕ)
tokens_bytes [] = Some []
tokens_bytes (t ∷ ts) = option_append (token_bytes t) (tokens_bytes ts)

-- the bytes that a case spells: a space stands in front of each token
abbrev pub spelled : List ℕ → Option (List ℕ)
spelled [] = Some []
spelled (c ∷ text) = if is_space c then tokens_bytes (slice_split is_space text) else None

-- the error for what was wrong with hexadecimal digits
abbrev pub of_hex : FromHexError → SpellError
of_hex (InvalidHexCharacter c i) = Malformed
of_hex OddLength = Malformed
of_hex InvalidStringLength = Malformed
of_hex NoMemory = OutOfMemory
