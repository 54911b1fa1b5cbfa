-- `ledger::records::find` meets its contract: the record could stand at its place alone. Assumes nothing.
use mathlib.Core.Path.{sym, ◌∙◌}
use native.Mathlib.Omega.{arith}
use Rattle.ledger.proofs.Ledgers.{found, not_found}
use Rattle.ledger.proofs.records.find.Goals as goal
use Rattle.ledger.proofs.records.find.Goals.{else-i-end-via-then-i-end+else-is_record, else-i-end-via-else-i-end}

pub returns-then-is_record : goal.returns-then-is_record
returns-then-is_record c =
    let a = c.args in
    sym (found c.requires.0 a.count a.ledger.now c.requires.1 a.class a.requested a.address c.place-i.result c.place-i.ensures c.if-i-end.true (sym c.is_record.ensures ∙ c.if-is_record.true))

pub returns-else-i-end : goal.returns-else-i-end
returns-else-i-end c =
    let a = c.args in
    let missed = not_found c.requires.0 a.count a.ledger.now c.requires.1 a.class a.requested a.address c.place-i.result c.place-i.ensures in
    elim c.else-i-end.branch [
      | else-i-end-via-then-i-end+else-is_record w ↦ sym (missed (λ h. sym w.is_record.ensures ∙ w.if-is_record.false))
      | else-i-end-via-else-i-end w ↦ sym (missed (λ h. absurd (omega arith)))
    ]
