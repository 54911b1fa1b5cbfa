-- `heap_grant::grant::first_class` meets its contract: the classes left have the first block that all have. Assumes nothing.
use mathlib.Core.Path.{◌≡◌}
use mathlib.Core.List.{[]}
use Prim.Native.Nat.{◌-◌}
use Rattle.heap_state.specs.Lists.{first_class}
use Rattle.heap_moves.specs.Moves.{mem}
use Rattle.heap_grant.proofs.grant.first_class.Given as goal

abbrev pub invariant-loop-k : goal.invariant-loop-k
invariant-loop-k l = first_class (l.order - l.k) l.k (mem l.heads []) ≡ first_class (l.order - l.class) l.class (mem l.heads [])
