-- `frame_halve::halving::write_halves` meets its contract: the words with what is still to be written in the window are what it leaves. Assumes nothing.
use mathlib.Core.Path.{◌≡◌}
use Prim.Native.Nat.{◌+◌, ◌-◌, ◌^◌, ◌≤◌}
use lib.ListN.{length}
use Rattle.rules.specs.Rules.{towards}
use Rattle.frame_halve.proofs.Windows.{window}
use Rattle.frame_halve.proofs.halving.write_halves.Given as goal

abbrev pub invariant-loop-k : goal.invariant-loop-k
invariant-loop-k l = (l.class ≤ l.k) × (l.k ≤ 32) × (l.s + 2 ^ l.k ≤ 2 ^ 32) × (l.hi ≡ l.lo + 1 + (l.k - l.class)) × (l.hi ≤ length l.t) × (length l.t ≡ length l.initial.t)
    × (window l.t l.lo l.hi (towards l.k l.class l.run l.s) ≡ window l.initial.t l.at (l.at + 1 + (l.from - l.class)) (towards l.from l.class l.run l.start))
