-- The line that answers an input: an input that is too long is refused by 2 at place 0; any other is opened with the
-- counting that its head asks for, and the line says what that gave.
use Rattle.std.specs.Prelude.{◌≡◌, ℕ, ◌<◌, ◌≤◌, List, length, Ok, Err, Result}
use Rattle.fault.specs.declared.fault.Fault.{Fault}
use Rattle.fault.specs.declared.fault.Fault.TheVariants.{WrongOrder}
use Rattle.calculus.specs.Built as built
use Rattle.tables.specs.Elements.{elements}
use Rattle.sheet.specs.Opening.{Means, basis_of}
use Rattle.tables.specs.declared.basis.Basis.{Basis}
use Rattle.tables.specs.declared.tables.Tables.{Tables}
use Rattle.lines.specs.Choice.{Choice, parts, once, choice}
use Rattle.lines.specs.Lines.{refused, opened}

-- what a counting asks of a sheet: parts has code 0, once has code 1
abbrev pub basis : Choice → Basis
basis (parts full) = basis_of 0 (built.parts full)
basis once = basis_of 1 built.once

-- the line for what opening gave
abbrev pub line : Result Tables Fault → List ℕ
line (Ok t) = opened (length (elements t.nodes))
line (Err f) = refused f

-- the line of bytes that are opened with a counting of this basis
abbrev pub By : Basis → List ℕ → List ℕ → Type 0
By b bytes text = (r : Result Tables Fault) × Means b bytes r × (text ≡ line r)

pub record Answers (bytes text : List ℕ) : Type 0 where
  pub too_long : 16384 < length bytes → text ≡ refused (WrongOrder 0)
  pub read : length bytes ≤ 16384 → By (basis (choice bytes)) bytes text
