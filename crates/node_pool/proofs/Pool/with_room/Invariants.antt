use Rattle.std.proofs.Common.{◌≡◌, map, vec_capacity, vec_len, replicate, None}
use Rattle.node_pool.specs.FreeLine.{IsFreeLine, next_of, nodes_of}
use Rattle.node_pool.proofs.Pool.with_room.Given as goal

-- the nodes so far are free and in a line
abbrev pub invariant-loop-at : goal.invariant-loop-at
invariant-loop-at g l = record {
  len : vec_len l.nodes ≡ l.at;
  room : vec_capacity l.nodes ≡ l.room;
  line : IsFreeLine (map next_of l.nodes.items) l.first l.at;
  free : nodes_of l.nodes.items ≡ replicate l.at None;
}
