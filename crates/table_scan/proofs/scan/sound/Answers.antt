-- `table_scan::scan::sound` meets its contract. Assumes nothing.
use Rattle.std.proofs.Common.{◌+◌, ◌≤◌, length, sym, ◌∙◌, rules, arith}
use Rattle.words.proofs.Tests.{no, clash, join}
use Rattle.table.specs.Sound.{soundb}
use Rattle.table.proofs.Facts.{head-fact, head-true, sound-fact}
use Rattle.table.proofs.Walked.{walked}
use Rattle.table_scan.proofs.scan.sound.Goals as goal

pub returns-then-n-lt1 : goal.returns-then-n-lt1
returns-then-n-lt1 c = sym (no _ (λ e. let h = sound-fact _ e in omega arith))

pub returns-then-not-head_ok : goal.returns-then-not-head_ok
returns-then-not-head_ok c = sym (no _ (λ e. clash (head-true _ _ (sound-fact _ e).head) (sym c.head_ok.ensures ∙ c.if-not-head_ok.true)))

pub slice_bounds-records_ok-end : goal.slice_bounds-records_ok-end
slice_bounds-records_ok-end c =
    let h = head-fact _ _ (sym c.head_ok.ensures ∙ c.if-not-head_ok.false) in
    let g : c.count_of-end.result + 1 ≤ length c.args.t.now = omega (arith, c.count_of-end.ensures) in
    search rules

pub records_ok-requires : goal.records_ok-requires
records_ok-requires c =
    let h = head-fact _ _ (sym c.head_ok.ensures ∙ c.if-not-head_ok.false) in
    omega (arith, c.order_of.ensures)

pub returns-then-records_ok : goal.returns-then-records_ok
unfolding soundb
returns-then-records_ok c =
    let w = walked c.args.t.now c.count_of-end.result c.count_of-end.ensures in
    let h = sym c.head_ok.ensures ∙ c.if-not-head_ok.false in
    let r = sym (rw (w, c.order_of.ensures) at c.records_ok.ensures) ∙ c.if-records_ok.true in
    rw (h, r) (rw c.count_of-end.ensures at c.zeros_from.ensures)

pub returns-else-records_ok : goal.returns-else-records_ok
returns-else-records_ok c =
    let w = walked c.args.t.now c.count_of-end.result c.count_of-end.ensures in
    let f = sym (rw (w, c.order_of.ensures) at c.records_ok.ensures) ∙ c.if-records_ok.false in
    c.if-records_ok.false ∙ sym (no _ (λ e. let s = sound-fact _ e in clash (join _ _ s.fine s.apart) f))
