-- A worked process: a permission for whatever the outsider asks, acknowledged on a channel whose type depends on what is asked.
use Rattle.std.specs.Prelude.{◌≡◌, [], ◌∷◌, nat_lt, slice_index_or}
use Rattle.calculus.specs.Countings.{Operations, Laws}
use Rattle.calculus.specs.Labels.{one}
use Rattle.calculus.specs.Types.{Name, Item, name, index, NameType, pure, public, channel, Assignment}
use Rattle.calculus.specs.Scopes.{Scope}
use Rattle.calculus.specs.Processes.{Process, stop, send, receive, both, copy, new, test, begin, end}
use Rattle.calculus.specs.Typing.{Accepted}
use Rattle.calculus.specs.Reduction.{thread, Configuration, Reachable}
use Rattle.calculus.specs.Safety.{Start}
use Rattle.calculus.specs.Ceiling.{EntriesSmall}

-- the names, by number: 0 a block, 1 the panel on which the outsider asks, 2 the channel to the station, 3 what was asked, 4 its acknowledgement,
-- 5 what the station hears, 6 where it acknowledges. 0 and 1 are free
abbrev pub worked_free : Scope
worked_free x = nat_lt x 2

-- a channel without components, whose message carries one full right on the item
abbrev pub acknowledges : Operations → Item → NameType
acknowledges K item = channel 0 (λ i. pure) (record { label = one item; amount = K.full } ∷ [])

-- the station's channel takes a public name, and an acknowledgement for that name: one arrow out, the argument at place 0
abbrev pub worked_types : Operations → Assignment
worked_types K x = slice_index_or
    (public ∷ public ∷ channel 2 (λ i. slice_index_or (public ∷ acknowledges K (index 1 0) ∷ []) i pure) []
    ∷ public ∷ acknowledges K (name 3) ∷ public ∷ acknowledges K (name 5) ∷ []) x pure

-- hears a request on the panel, passes it on with a new acknowledgement, and ends once that comes
abbrev pub asks : Process
asks = receive 1 (3 ∷ []) (new 4 (both (send 2 (3 ∷ 4 ∷ [])) (receive 4 [] (end (one 3) stop))))

-- hears a request; if it is for the block, begins and acknowledges
abbrev pub grants : Process
grants = receive 2 (5 ∷ 6 ∷ []) (test 5 0 (begin (one 5) (send 6 [])) stop)

-- both, as often as they are wanted, over a new channel
abbrev pub worked : Process
worked = new 2 (both (copy asks) (copy grants))

-- it starts with a value for each free name, both known to the outsider
abbrev pub worked_start : Configuration
worked_start = record { threads = thread worked (λ x. x) ∷ []; next = 2; known = λ v. nat_lt v 2; made = (0, 0) ∷ (1, 1) ∷ []; begins = λ M. 0; ends = λ M. 0 }

-- under the counting K: K keeps the laws, the entries are few and small, the process is accepted, it may start there, and a run reaches
-- an end of the label of the value 0
pub record Works (K : Operations) : Type 0 where
  pub laws : Laws K
  pub small : (x : Name) → EntriesSmall K (worked_types K x)
  pub accepted : Accepted K (worked_types K) worked_free worked
  pub start : Start worked_free worked worked_start
  pub last : Configuration
  pub reachable : Reachable K worked_start last
  pub ended : last.ends (one 0) ≡ 1
