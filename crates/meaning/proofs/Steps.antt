-- The amount at a node, from the amounts at its children.
use Rattle.std.proofs.Common.{◌≡◌, ℕ, refl, ap, ◌∙◌}
use Rattle.calculus.specs.Countings.{Operations}
use Rattle.calculus.specs.Effects.{amount}
use Rattle.calculus.specs.Labels.{Label}
use Rattle.calculus.specs.Processes.{Process}
use Rattle.calculus.specs.Types.{Assignment, Name}
use Rattle.tables.specs.Elements.{elements}
use Rattle.tables.specs.declared.tables.Node.{Node}
use Rattle.tables.specs.declared.tables.Node.TheVariants.{Stop, Send, Receive, Both, Copy, New, Test, Begin, End}
use Rattle.tables.specs.declared.tables.Tables.{Tables}
use Rattle.sheet.specs.Tree.{node_at}
use Rattle.sheet.specs.Opening.{Sound}
use Rattle.meaning.specs.Amounts.{step, BySteps}
use Rattle.meaning.specs.Processes.{shape, process_at}
use Rattle.meaning.specs.Types.{types_of}
use Rattle.meaning.proofs.Scopes.{tree_of}
use Rattle.meaning.proofs.Unfolding.{process_unfolds}

stepped : (K : Operations) (types : Assignment) (L : Label Name) (after : ℕ → Process) (x : Node) → amount K types (shape after x) L ≡ step K types L (λ c. amount K types (after c) L) x
stepped K types L after Stop = refl
stepped K types L after (Send channel names) = refl
stepped K types L after (Receive channel names next) = refl
stepped K types L after (Both first second) = refl
stepped K types L after (Copy next) = refl
stepped K types L after (New name next) = refl
stepped K types L after (Test left right same other) = refl
stepped K types L after (Begin label next) = refl
stepped K types L after (End label next) = refl

pub by_steps : (K : Operations) (t : Tables) → Sound K.largest t → BySteps K t
by_steps K t sound n L =
    ap (λ p. amount K (types_of t) p L) (process_unfolds (elements t.nodes) (tree_of K.largest t sound) n)
    ∙ stepped K (types_of t) L (process_at (elements t.nodes)) (node_at (elements t.nodes) n)
