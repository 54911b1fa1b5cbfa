-- `frame_release::release::join` meets its contract: the span stands for the block in hand, and what is left to join of it is the release. Assumes nothing.
use mathlib.Core.Path.{◌≡◌}
use Prim.Native.Nat.{◌-◌, ◌≤◌, ◌<◌}
use lib.ListN.{length, get_or}
use Rattle.table.specs.Layout.{order_of, count_of}
use Rattle.frame_release.specs.Release.{Releasable}
use Rattle.frame_release.proofs.Spans.{Span}
use Rattle.frame_release.proofs.release.join.Given as goal

abbrev pub invariant-loop-span : goal.invariant-loop-span
invariant-loop-span l = (l.count < length l.t) × (l.count ≡ count_of (get_or l.t 0 0)) × (l.top ≡ order_of (get_or l.t 0 0) - 1) × (l.top ≤ 32) × (l.span.from ≤ l.i) × (l.i < l.span.to)
    × (l.span.to ≤ l.count) × Releasable l.t l.i × Span l.t l.i l.span.from l.span.to l.span.class l.span.start

abbrev pub decreases-loop-span : goal.decreases-loop-span
decreases-loop-span l = l.top - l.span.class
