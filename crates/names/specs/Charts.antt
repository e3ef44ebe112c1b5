-- A chart of the nodes of a sheet, in terms of what the nodes mean.
use Rattle.std.specs.Prelude.{◌≡◌, ℕ, ◌<◌, ◌≤◌, List, length, Some, None, slice_index_or}
use Rattle.tables.specs.declared.tables.Node.{Node}
use Rattle.sheet.specs.declared.chart.Chart.{Chart}
use Rattle.meaning.specs.Scopes.{parent_of, binder_of}

-- the chart has the binder of each name and the parent of each node, and every parent has a lower number
pub record Charts (nodes : List Node) (chart : Chart) : Type 0 where
  pub few : length nodes ≤ 1024
  pub binders : (x : ℕ) → x < 64 → slice_index_or chart.binders x None ≡ binder_of nodes x
  pub parents : (n : ℕ) → n < 1024 → slice_index_or chart.parents n None ≡ parent_of nodes n
  pub lower : (n m : ℕ) → parent_of nodes n ≡ Some m → m < n
