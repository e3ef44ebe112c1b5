-- The least amounts of a sheet's nodes, each from those of its children.
use Rattle.std.specs.Prelude.{◌≡◌, ℕ, ◌≤◌, max}
use Rattle.calculus.specs.Countings.{Operations}
use Rattle.calculus.specs.Effects.{Effect, latent, full_right, amount}
use Rattle.calculus.specs.Labels.{Label}
use Rattle.calculus.specs.Processes.{Process}
use Rattle.calculus.specs.Scopes.{Scope}
use Rattle.calculus.specs.Types.{Assignment, Name}
use Rattle.calculus.specs.Typing.{Derives}
use Rattle.tables.specs.Elements.{elements}
use Rattle.tables.specs.Encoding.{parts}
use Rattle.tables.specs.declared.tables.Node.{Node}
use Rattle.tables.specs.declared.tables.Node.TheVariants.{Stop, Send, Receive, Both, Copy, New, Test, Begin, End}
use Rattle.tables.specs.declared.tables.Tables.{Tables}
use Rattle.sheet.specs.Tree.{node_at}
use Rattle.meaning.specs.Labels.{label_of}
use Rattle.meaning.specs.Processes.{process_at}
use Rattle.meaning.specs.Types.{types_of}

-- the least amount that the process at node n needs at a label
abbrev pub amount_at : Operations → Tables → ℕ → Effect
amount_at K t n = amount K (types_of t) (process_at (elements t.nodes) n)

-- the amount of a node whose children have these amounts at the label
abbrev pub step : Operations → Assignment → Label Name → (ℕ → ℕ) → Node → ℕ
step K types L child Stop = 0
step K types L child (Send channel names) = latent K (types channel) (parts names) L
step K types L child (Receive channel names next) = K.lack (child next) (latent K (types channel) (parts names) L)
step K types L child (Both first second) = K.join (child first) (child second)
step K types L child (Copy next) = child next
step K types L child (New name next) = child next
step K types L child (Test left right same other) = max (child same) (child other)
step K types L child (Begin label next) = K.lack (child next) (full_right K (label_of (λ x. x) label.items) L)
step K types L child (End label next) = K.join (child next) (full_right K (label_of (λ x. x) label.items) L)

-- a is the least amount that the rules give the process p, in the scope Γ, at the label L
pub record Least (K : Operations) (types : Assignment) (Γ : Scope) (p : Process) (L : Label Name) (a : ℕ) : Type 0 where
  -- an effect that they derive gives it
  pub effect : Effect
  pub derived : Derives K types Γ p effect
  pub given : effect L ≡ a
  -- and every effect that they derive gives at least as much
  pub least : (e : Effect) → Derives K types Γ p e → a ≤ e L

-- each amount is a step from those of the children
abbrev pub BySteps : Operations → Tables → Type 0
BySteps K t = (n : ℕ) (L : Label Name) → amount_at K t n L ≡ step K (types_of t) L (λ c. amount_at K t c L) (node_at (elements t.nodes) n)
