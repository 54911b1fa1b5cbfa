-- `calls::take_all` meets its contract. The loop's invariant: the output keeps its room, and the reading of the chunk has come so far.
-- Each turn takes some of the chunk. Assumes nothing.
use mathlib.Core.Path.{ap}
use borrow.Author.Rules.{rules}
use native.Mathlib.Omega.{arith}
use lib.ListN.{length, drop, length-drop}
use Rattle.texts.proofs.Outputs.{still_same, still_then}
use Rattle.lines.specs.declared.Gathered.{Gathered}
use Rattle.lines.proofs.Gathering.{moves}
use Rattle.lines.proofs.Going.{begun, on-err, over, ran-first, turn-ended, turn-open}
use Rattle.calls.specs.Run.{line_after}
use Rattle.calls.proofs.Enough.{enough}
use Rattle.calls.proofs.take_all.Goals as goal

pub loop-from-init : goal.loop-from-init
loop-from-init g c =
    let a = c.args in
    record {
      ready = still_same c.requires;
      going = λ line h. begun line_after a.chunk.now line a.t.now a.held.now.bytes a.held.now.len h;
    }

pub loop-from-preserved-in_ok-run_line : goal.loop-from-preserved-in_ok-run_line
loop-from-preserved-in_ok-run_line g c =
    let l = c.loop-from in
    let a = c.args in
    let t = c.gather-g in
    let r = c.run_line in
    record {
      ready = still_then l.invariant.ready r.ensures.ready;
      going = λ line h.
          turn-ended line_after enough a.chunk.now line a.t.now l.from l.held.bytes l.held.len l.t (search rules) l.held.in_bounds (l.invariant.going line h) t.result t.new.held
          t.ensures.value t.ensures.held_after r.new.t c.if-g.true r.ensures.t_after;
    }

pub loop-from-smaller : goal.loop-from-smaller
loop-from-smaller g c =
    let l = c.loop-from in
    let a = c.args in
    let to = ap (λ (x : Gathered). x.at) c.gather-g.ensures.value in
    let on = moves (drop l.from a.chunk.now) l.from (length l.held.bytes) l.held.len (omega (arith, length-drop l.from a.chunk.now)) in
    omega (arith, to, on)

pub loop-from-preserved : goal.loop-from-preserved
loop-from-preserved g c =
    let l = c.loop-from in
    let a = c.args in
    let t = c.gather-g in
    record {
      ready = l.invariant.ready;
      going = λ line h.
          turn-open line_after enough a.chunk.now line a.t.now l.from l.held.bytes l.held.len l.t (search rules) l.held.in_bounds (l.invariant.going line h) t.result t.new.held
          t.ensures.value t.ensures.held_after c.if-g.false;
    }

pub returns : goal.returns
returns g c =
    let l = c.loop-from in
    let a = c.args in
    record {
      ready = l.invariant.ready;
      took = λ line h. over line_after a.chunk.now line a.t.now l.from l.held.bytes l.held.len l.t (omega arith) (l.invariant.going line h);
      stopped = search rules;
    }

pub returns-in_err-run_line : goal.returns-in_err-run_line
returns-in_err-run_line g c =
    let l = c.loop-from in
    let a = c.args in
    let t = c.gather-g in
    let r = c.run_line in
    record {
      ready = still_then l.invariant.ready r.ensures.ready;
      took = search rules;
      stopped =
          on-err c.from_residual.result
          (λ line h.
          ran-first line_after a.chunk.now line a.t.now t.result.at t.new.held 0 r.new.t
          (turn-ended line_after enough a.chunk.now line a.t.now l.from l.held.bytes l.held.len l.t (search rules) l.held.in_bounds (l.invariant.going line h) t.result t.new.held
          t.ensures.value t.ensures.held_after r.new.t c.if-g.true r.ensures.t_after));
    }
