-- `frame_lines::show::put_record` meets its contract: text after text, by whether the record is granted. Assumes nothing.
use Rattle.texts.proofs.Outputs.{then}
use Rattle.frame_lines.proofs.show.put_record.Goals as goal

pub returns-then-granted : goal.returns-then-granted
returns-then-granted c = rw c.if-granted.true (then (then c.put_number.ensures c.put_with.ensures) c.put.ensures)

pub returns : goal.returns
returns c = rw c.if-granted.false (then (then c.put_number.ensures c.put_with.ensures) c.put-2.ensures)
