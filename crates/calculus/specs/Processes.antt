-- Processes: what a sheet says, and how many nodes that takes.
use Rattle.std.specs.Prelude.{ℕ, ◌+◌, List}
use Rattle.calculus.specs.Labels.{Label}
use Rattle.calculus.specs.Types.{Name}

-- a process, by the node that it begins with
pub data Process : Type 0 where
  -- ends
  stop : Process
  -- `send x ys`: sends the names ys on x
  send : Name → List Name → Process
  -- `receive x zs p`: receives on x, binds zs, goes on as p
  receive : Name → List Name → Process → Process
  -- the two side by side
  both : Process → Process → Process
  -- as many copies as are wanted
  copy : Process → Process
  -- makes a new value for the name
  new : Name → Process → Process
  -- `test x y p q`: p where x and y have one value, else q
  test : Name → Name → Process → Process → Process
  -- a permission for the label begins
  begin : Label Name → Process → Process
  -- a permission for the label is used up
  end : Label Name → Process → Process

-- the count of nodes
abbrev pub size : Process → ℕ
size stop = 1
size (send x ys) = 1
size (receive x zs p) = 1 + size p
size (both p q) = 1 + (size p + size q)
size (copy p) = 1 + size p
size (new x p) = 1 + size p
size (test x y p q) = 1 + (size p + size q)
size (begin l p) = 1 + size p
size (end l p) = 1 + size p
