-- `table_scan::scan::records_ok` meets its contract. Assumes nothing.
use Rattle.std.proofs.Common.{◌≡◌, ◌∷◌, None, ap, sym, ◌∙◌, rules, arith}
use Rattle.std.specs.Slice.Iter.{chunks_rest}
use Rattle.std.specs.Prelude.{is_some}
use Rattle.table.proofs.Facts.{record-fact, size-pos}
use Rattle.table_scan.specs.Scan.{below33, end_after}
use Rattle.table_scan.proofs.Rows.{from_first, parts, end-within}
use Rattle.table_scan.proofs.scan.records_ok.Goals as goal

pub loop-part-init : goal.loop-part-init
loop-part-init c =
    let y = sym c.record_ok.ensures ∙ c.if-not-record_ok.false in
    let f = record-fact _ _ y in
    let p = size-pos c.in-Some.first.now in
    let e = c.end_of-floor.ensures in
    let r : chunks_rest c.into_iter-part-iterator.result ≡ c.in-Some.others.now = search rules in
    let x : c.args.records.now ≡ c.in-Some.first.now ∷ c.in-Some.others.now = c.in-Some.ensures.cases.0 in
    (search rules, tt, search rules, omega (arith, e), omega (arith, e), rw (r, e, x) (from_first c.args.order c.in-Some.first.now c.in-Some.others.now y))

pub returns-in_default-rows_end : goal.returns-in_default-rows_end
returns-in_default-rows_end c =
    let s = c.in-Some-part.ensures.steps in
    let e = parts (below33 c.args.order) c.loop-part.floor c.in-Some-part.part.now (chunks_rest c.next.new.self) None (sym c.rows_end.ensures ∙ c.in_default-rows_end.is) in
    ap is_some (sym e ∙ ap (end_after (below33 c.args.order) c.loop-part.floor) (sym s.1.0)) ∙ c.loop-part.invariant.5

pub loop-part-preserved : goal.loop-part-preserved
loop-part-preserved c =
    let s = c.in-Some-part.ensures.steps in
    let r = sym c.rows_end.ensures ∙ c.in-Some-rows_end.is in
    let w = end-within (below33 c.args.order) c.loop-part.floor c.in-Some-part.part.now c.in-Some-rows_end.end (omega arith) (omega arith) r in
    let e = parts (below33 c.args.order) c.loop-part.floor c.in-Some-part.part.now (chunks_rest c.next.new.self) _ r in
    (search rules, tt, s.0 ∙ c.loop-part.invariant.2, w.0, w.1, ap is_some (sym e ∙ ap (end_after (below33 c.args.order) c.loop-part.floor) (sym s.1.0)) ∙ c.loop-part.invariant.5)
