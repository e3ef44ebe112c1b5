-- What is told of a passed sheet is the least amount that the rules give, and 0 past the last node.
use Rattle.std.proofs.Common.{◌≡◌, ℕ, ◌<◌, ◌≤◌, length, IfOk, Ok, Err, Result, sym, ap, ◌∙◌, subst, MatchResult}
use mathlib.Core.Logic.{∥∥₁_map}
use Rattle.std.proofs.lemmas.List.{get_or_past}
use Rattle.calculus.specs.Countings.{Operations, Laws}
use Rattle.calculus.specs.Effects.{amount}
use Rattle.calculus.specs.Labels.{Label}
use Rattle.calculus.specs.Types.{Name}
use Rattle.fault.specs.declared.fault.Fault.{Fault}
use Rattle.fault.specs.declared.fault.Fault.TheVariants.{FewRows}
use Rattle.tables.specs.Elements.{elements}
use Rattle.tables.specs.declared.tables.Node.TheVariants.{Stop}
use Rattle.tables.specs.declared.tables.Tables.{Tables}
use Rattle.sheet.specs.Opening.{Sound}
use Rattle.meaning.specs.Accepts.{Accepts}
use Rattle.meaning.specs.Amounts.{amount_at, Least}
use Rattle.meaning.specs.Processes.{shape, process_at}
use Rattle.meaning.specs.Scopes.{scope_at}
use Rattle.meaning.specs.Types.{types_of}
use Rattle.meaning.proofs.Clean.{least_at}
use Rattle.meaning.proofs.Scopes.{tree_of}
use Rattle.meaning.proofs.Unfolding.{process_unfolds}

-- the answer of telling: the amount, or too few rows
abbrev pub Told : Operations → Tables → (rows node : ℕ) → Label Name → Result ℕ Fault → Type 0
Told K t rows node L r = MatchResult r (λ a. (8192 ≤ rows) × (a ≡ amount_at K t node L)) (λ f. (f ≡ FewRows) × (rows < 8192))

module _ (K : Operations) (t : Tables) (sound : Sound K.largest t) where
  pub told_least : Laws K → ∥ Accepts K t ∥₁ → (rows node : ℕ) (L : Label Name) (r : Result ℕ Fault) → Told K t rows node L r →
      IfOk r (λ a. node < length (elements t.nodes) → ∥ Least K (types_of t) (scope_at t node) (process_at (elements t.nodes) node) L a ∥₁)
  told_least W a rows node L (Ok b) h = λ there.
      ∥∥₁_map a (λ x. subst (λ (c : ℕ). Least K (types_of t) (scope_at t node) (process_at (elements t.nodes) node) L c) (sym h.1) (least_at K t sound W x node there L))
  told_least W a rows node L (Err f) h = tt

  pub told_past : (rows node : ℕ) (L : Label Name) (r : Result ℕ Fault) → Told K t rows node L r → IfOk r (λ a. length (elements t.nodes) ≤ node → a ≡ 0)
  told_past rows node L (Ok b) h = λ past.
      h.1 ∙ ap (λ p. amount K (types_of t) p L) (process_unfolds (elements t.nodes) (tree_of K.largest t sound) node ∙ ap (shape (process_at (elements t.nodes))) (get_or_past (elements t.nodes) node Stop past))
  told_past rows node L (Err f) h = tt
