use Rattle.meaning.proofs.Joining.{FirstJoined}
use Rattle.meaning.proofs.shares.joined_for.Given as goal

-- the shares so far are joined
abbrev pub invariant-loop-share : goal.invariant-loop-share
invariant-loop-share g l = FirstJoined (g.C.Counting.operations l.counting) l.shares l.label l.share-index l.sum
