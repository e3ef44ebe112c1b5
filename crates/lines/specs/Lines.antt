-- The lines that the bench prints, as bytes.
use Rattle.std.specs.Prelude.{ℕ, List, [], ◌∷◌, ◌++◌, Some, None, codes, decimal, Option}
use Rattle.fault.specs.Faults.{number_of, layer_of, place_of, amiss_of}
use Rattle.fault.specs.Items.{list}
use Rattle.fault.specs.declared.fault.Fault.{Fault}
use Rattle.fault.specs.declared.fault.Layer.{Layer}
use Rattle.fault.specs.declared.fault.Layer.TheVariants.{Sheet, Judge, Run}
use Rattle.fault.specs.declared.label.Label.{Label}
use Rattle.lines.specs.declared.lines.Line.{Line}
use Rattle.lines.specs.declared.lines.Line.TheVariants.{Opened, Refused}

-- the word for a layer
abbrev pub word : Layer → List ℕ
word Sheet = codes "sheet"
word Judge = codes "judge"
word Run = codes "run"

-- names in decimal, joined by full stops
abbrev pub dotted : List ℕ → List ℕ
dotted [] = []
dotted (x ∷ []) = decimal x
dotted (x ∷ y ∷ ys) = decimal x ++ (codes "." ++ dotted (y ∷ ys))

-- what is amiss: a space, the label's names, a space, the amount; or nothing
abbrev pub amiss : Option (Label ℕ × ℕ) → List ℕ
amiss None = []
amiss (Some (label, amount)) = codes " " ++ (dotted (list label.items) ++ (codes " " ++ decimal amount))

-- the line of a refusal
abbrev pub refused : Fault → List ℕ
refused f =
    codes "FAIL "
    ++ (word (layer_of f) ++ (codes " " ++ (decimal (number_of f) ++ (codes " " ++ (decimal (place_of f) ++ (amiss (amiss_of f) ++ codes "\n"))))))

-- the line of a sheet that opens, with the count of its nodes
abbrev pub opened : ℕ → List ℕ
opened nodes = codes "OPEN " ++ (decimal nodes ++ codes "\n")

-- what a line at hand prints
abbrev pub text : Line → List ℕ
text (Opened nodes) = opened nodes
text (Refused f) = refused f
