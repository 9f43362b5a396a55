use Rattle.std.proofs.Common.{◌≡◌, length}
use Rattle.bench_order.proofs.random_graph.Given as goal

-- a node has been made for each number so far
abbrev pub invariant-loop-node : goal.invariant-loop-node
invariant-loop-node l = length l.nodes.items ≡ l.node
