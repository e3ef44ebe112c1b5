-- What judging refuses: a rule for each fault of an opened sheet, and which of several faults is told.
use Rattle.std.specs.Prelude.{◌≡◌, ℕ, ◌<◌, true, cond, ◌⊎◌, length, Some, None, Option, ◌==◌, ◌≢◌}
use Rattle.calculus.specs.Countings.{Operations}
use Rattle.calculus.specs.Labels as calculus
use Rattle.calculus.specs.Lists.{◌∈◌}
use Rattle.calculus.specs.Orders.{LabelBefore}
use Rattle.calculus.specs.Scopes.{in_scope, WellFormed}
use Rattle.calculus.specs.Types.{Name, public}
use Rattle.fault.specs.Faults.{number_of, place_of, amiss_of}
use Rattle.fault.specs.declared.label.Label.{Label}
use Rattle.fault.specs.declared.fault.Fault.{Fault}
use Rattle.fault.specs.declared.fault.Fault.TheVariants.{FewRows, FreeNotPublic, IllFormed, BadChannel, WrongType, Escapes, NotCopyable, RootOwes}
use Rattle.tables.specs.Elements.{elements}
use Rattle.tables.specs.declared.tables.Node.TheVariants.{Copy}
use Rattle.tables.specs.declared.tables.Tables.{Tables}
use Rattle.sheet.specs.Scope.{binds}
use Rattle.sheet.specs.Tree.{node_at}
use Rattle.meaning.specs.Amounts.{amount_at}
use Rattle.meaning.specs.Labels.{label_of}
use Rattle.meaning.specs.Scopes.{free, scope_for}
use Rattle.meaning.specs.Types.{types_of}
use Rattle.meaning.specs.Uses.{CountFits, TypesFit}

-- a label of names as a label of the calculus
abbrev pub names_label : Label ℕ → calculus.Label Name
names_label l = label_of (λ x. x) l.items

-- the faults of an opened sheet that is judged with so many work rows, a rule for each
pub data Faulty (K : Operations) (t : Tables) (rows : ℕ) : Fault → Type 0 where
  -- 7: too few rows
  few_rows : rows < 8192 → Faulty K t rows FewRows
  -- 8: a free name is not public
  free_not_public : (x : ℕ) → in_scope (free t) x ≡ true → (types_of t x ≢ public) → Faulty K t rows (FreeNotPublic x)
  -- 9: a name's type is not well formed
  ill_formed : (x : ℕ) → x < length (elements t.names) → (WellFormed (scope_for t x) (types_of t x) → ⊥) → Faulty K t rows (IllFormed x)
  -- 10: a channel is pure, or has another count
  bad_channel : (n : ℕ) → (CountFits (types_of t) (node_at (elements t.nodes) n) → ⊥) → Faulty K t rows (BadChannel n)
  -- 11: a name that is sent or received has not the required type
  wrong_type : (n : ℕ) → (TypesFit K (types_of t) (node_at (elements t.nodes) n) → ⊥) → Faulty K t rows (WrongType n)
  -- 12: the effect of a node has something on a label that names a name bound there
  escapes : (n z : ℕ) (l : Label ℕ) → z ∈ binds (node_at (elements t.nodes) n) → z ∈ calculus.items (names_label l) →
      (amount_at K t n (names_label l) ≢ 0) → Faulty K t rows (Escapes n l (amount_at K t n (names_label l)))
  -- 13: an amount of what is copied differs, joined with itself
  not_copyable : (n next : ℕ) (l : Label ℕ) → node_at (elements t.nodes) n ≡ Copy next →
      (K.join (amount_at K t n (names_label l)) (amount_at K t n (names_label l)) ≢ amount_at K t n (names_label l)) →
      Faulty K t rows (NotCopyable n l (amount_at K t n (names_label l)))
  -- 14: the effect of the root is not empty
  root_owes : (l : Label ℕ) → (amount_at K t 0 (names_label l) ≢ 0) → Faulty K t rows (RootOwes l (amount_at K t 0 (names_label l)))

-- faults are told stage by stage: by their numbers, but 12 and 13 together
abbrev pub stage : Fault → ℕ
stage f = cond (number_of f == 13) 12 (number_of f)

-- f is told before g
pub data Before (f g : Fault) : Type 0 where
  earlier_stage : stage f < stage g → Before f g
  -- up to 11 the lower place comes first
  lower_place : stage f ≡ stage g → stage f < 12 → place_of f < place_of g → Before f g
  -- 12 and 13 go from the highest node down
  higher_node : stage f ≡ 12 → stage g ≡ 12 → place_of g < place_of f → Before f g
  -- and at one place the labels go in their order
  lower_label : stage f ≡ stage g → place_of f ≡ place_of g → (l m : Label ℕ) (a b : ℕ) → amiss_of f ≡ Some (l, a) → amiss_of g ≡ Some (m, b) →
      LabelBefore ◌<◌ (names_label l) (names_label m) → Before f g

-- there is no fault; or this is one, and it is told before every other
abbrev pub FirstTold : (Fault → Type 0) → Option Fault → Type 0
FirstTold Fails None = (g : Fault) → Fails g → ⊥
FirstTold Fails (Some f) = Fails f × ((g : Fault) → Fails g → (g ≡ f) ⊎ Before f g)
