-- Which counting the head of a sheet asks for.
use Rattle.std.specs.Prelude.{ℕ, ◌+◌, ◌*◌, Bool, cond, ◌&&◌, List, length, ◌==◌, nat_le, slice_index}
use Rattle.lines.specs.declared.choice.Chosen.{Chosen}
use Rattle.lines.specs.declared.choice.Chosen.TheVariants as made

-- a counting that is built: parts with this full right, or once
pub data Choice : Type 0 where
  parts : ℕ → Choice
  once : Choice

-- parts takes a full right of 1 to 100,000, and once only 1; anything else falls back to parts with 1
abbrev pub asked : (code full : ℕ) → Choice
asked code full =
    cond (code == 0 && (nat_le 1 full && nat_le full 100000)) (parts full) (cond (code == 1 && full == 1) once (parts 1))

-- a head stands in front: kind 1, edition, code, and four bytes of full right
abbrev pub headed : List ℕ → Bool
headed bytes = nat_le 7 (length bytes) && slice_index bytes 0 == 1

-- four bytes from a place on as a number, the lowest first
abbrev pub number_at : List ℕ → ℕ → ℕ
number_at bytes i =
    slice_index bytes i + 256 * (slice_index bytes (i + 1) + 256 * (slice_index bytes (i + 2) + 256 * slice_index bytes (i + 3)))

-- the counting for these bytes; without a head it is parts with 1
abbrev pub choice : List ℕ → Choice
choice bytes = cond (headed bytes) (asked (slice_index bytes 2) (number_at bytes 3)) (parts 1)

-- what a counting at hand is
abbrev pub kind : Chosen → Choice
kind (made.Parts p) = parts p.full
kind (made.Once o) = once
