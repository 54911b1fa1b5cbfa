-- `frame_release::release::join` meets its contract: the span stands for the block in hand, and what is left to join of it is the release. Assumes nothing.
use mathlib.Core.Path.{ap}
use Prim.Native.Nat.{ℕ, ◌-◌}
use native.Mathlib.Omega.{arith}
use Rattle.table.proofs.Facts.{sound-fact}
use Rattle.frame_release.proofs.Spans.{span_begins, at_top, up-end, up-other, up_same, down-start, down-other, down-same}
use Rattle.frame_release.proofs.release.join.Goals.{then-span-count-via-then-span-count, then-span-count-via-else-span-count+then-t-span, then-span-eq0-via-then-span-eq0, then-span-eq0-via-else-span-eq0+then-t-span-2, then-span-buddy+else-span-count+else-t-span, else-span-buddy+else-span-eq0+else-t-span-2}
use Rattle.frame_release.proofs.release.join.Goals as goal

pub overflow_sub-top : goal.overflow_sub-top
overflow_sub-top c = let f = sound-fact c.args.t.now c.requires.sound in omega (arith, f.head.low, c.order_of-top.ensures)

pub loop-span-init : goal.loop-span-init
loop-span-init c =
    let a = c.args in
    let p = c.requires in
    let f = sound-fact a.t.now p.sound in
    let n = c.count_of-count.ensures in
    let o = c.order_of-top.ensures in (
      omega (arith, f.head.room, f.head.long),
      n,
      ap (λ (x : ℕ). x - 1) o,
      omega (arith, f.head.high),
      omega arith,
      omega arith,
      omega (arith, p.here),
      p,
      span_begins a.t.now a.i p c.class_of.result c.start_of.result c.class_of.ensures c.start_of.ensures,
    )

pub returns-then-span-count : goal.returns-then-span-count
returns-then-span-count c =
    let a = c.args in
    let s = c.loop-span.span in
    let v = c.loop-span.invariant in
    let r = c.record_word-wanted in
    let b = c.buddy-buddy in
    elim c.then-span-count.branch [
      | then-span-count-via-then-span-count w ↦
          up-end a.t.now a.i v.7 s.from s.to s.class s.start v.8 v.4 v.5 (λ j. (c.type_inv.t j).fits) (omega arith) b.result r.result b.ensures r.ensures
          c.if-span-buddy.true (omega (arith, v.1, w.if-span-count.true))
      | then-span-count-via-else-span-count+then-t-span w ↦
          up-other a.t.now a.i v.7 s.from s.to s.class s.start v.8 v.4 v.5 (λ j. (c.type_inv.t j).fits) (omega arith) b.result r.result b.ensures r.ensures
          c.if-span-buddy.true (omega (arith, v.1, w.if-span-count.false)) w.if-t-span.true
    ]

pub returns-then-span-eq0 : goal.returns-then-span-eq0
returns-then-span-eq0 c =
    let a = c.args in
    let s = c.loop-span.span in
    let v = c.loop-span.invariant in
    let r = c.record_word-wanted in
    let b = c.buddy-buddy in
    elim c.then-span-eq0.branch [
      | then-span-eq0-via-then-span-eq0 w ↦
          down-start a.t.now a.i v.7 s.from s.to s.class s.start v.8 v.4 v.5 (λ j. (c.type_inv.t j).fits) (omega arith) b.result r.result b.ensures r.ensures
          c.if-span-buddy.false w.if-span-eq0.true
      | then-span-eq0-via-else-span-eq0+then-t-span-2 w ↦
          down-other a.t.now a.i v.7 s.from s.to s.class s.start v.8 v.4 v.5 (λ j. (c.type_inv.t j).fits) (omega arith) b.result r.result b.ensures r.ensures
          c.if-span-buddy.false (s.from - 1) (omega (arith, w.if-span-eq0.false)) w.if-t-span-2.true
    ]

pub loop-span-preserved : goal.loop-span-preserved
loop-span-preserved c =
    let a = c.args in
    let s = c.loop-span.span in
    let v = c.loop-span.invariant in
    let r = c.record_word-wanted in
    let b = c.buddy-buddy in
    elim c.if-span-buddy.branch [
      | then-span-buddy+else-span-count+else-t-span w ↦
          rw w.span-is (
            v.0,
            v.1,
            v.2,
            v.3,
            v.4,
            omega arith,
            omega (arith, w.if-span-count.false),
            v.7,
            up_same a.t.now a.i v.7 s.from s.to s.class s.start v.8 v.4 v.5 (λ j. (c.type_inv.t j).fits) (omega arith) b.result r.result b.ensures r.ensures
                w.if-span-buddy.true (omega (arith, v.1, w.if-span-count.false)) w.if-t-span.false,
          )
      | else-span-buddy+else-span-eq0+else-t-span-2 w ↦
          rw w.span-is (
            v.0,
            v.1,
            v.2,
            v.3,
            omega arith,
            v.5,
            v.6,
            v.7,
            down-same a.t.now a.i v.7 s.from s.to s.class s.start v.8 v.4 v.5 (λ j. (c.type_inv.t j).fits) (omega arith) b.result r.result b.ensures r.ensures
                w.if-span-buddy.false (s.from - 1) (omega (arith, w.if-span-eq0.false)) w.if-t-span-2.false,
          )
    ]

pub returns : goal.returns
returns c =
    let s = c.loop-span.span in
    let v = c.loop-span.invariant in
    at_top c.args.t.now c.args.i v.7 s.from s.to s.class s.start v.8 v.4 v.5 (omega arith)
