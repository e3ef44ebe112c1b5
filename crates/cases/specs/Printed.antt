-- What is printed for a line of the input.
use Rattle.std.specs.Prelude.{◌≡◌, ℕ, Bool, true, ◌==◌, nat_le, nat_lt, List, [], ◌∷◌, ◌++◌, length, codes, MatchBool, MatchOption}
use Rattle.std.specs.List.{before_first, after_first, position_or_len}
use Rattle.lines.specs.Answer.{Answers}
use Rattle.cases.specs.Spelling.{spelled}

-- a comment is empty, or begins with `#`
abbrev pub is_comment : List ℕ → Bool
is_comment [] = true
is_comment (c ∷ text) = c == 35

abbrev pub is_colon : ℕ → Bool
is_colon c = c == 58

-- the line of a case that has no bytes
abbrev pub malformed : List ℕ → List ℕ
malformed name = name ++ codes ": malformed\n"

-- a case with its name: the line that answers the bytes that it spells, if they are not too many
abbrev pub CasePrinted : (name tokens out : List ℕ) → Type 0
CasePrinted name tokens out = MatchOption (spelled tokens) (out ≡ malformed name)
    (λ bytes. MatchBool (nat_le (length bytes) 1200000) ((line : List ℕ) × Answers bytes line × (out ≡ name ++ (codes ": " ++ line))) (out ≡ malformed name))

-- a line of the input: nothing for a comment, and else what stands in front of the first colon is the name
abbrev pub Printed : (text out : List ℕ) → Type 0
Printed text out = MatchBool (is_comment text) (out ≡ [])
    (MatchBool (nat_lt (position_or_len is_colon text) (length text)) (CasePrinted (before_first is_colon text) (after_first is_colon text) out) (out ≡ malformed text))
