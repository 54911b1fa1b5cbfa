-- `frame_lines::show::put_reply` meets its contract: text after text, by whether the call is refused. Assumes nothing.
use borrow.Author.Tests.{eq-eqb, ne_eqb}
use Rattle.texts.proofs.Outputs.{then}
use Rattle.frame_lines.proofs.show.put_reply.Goals as goal

pub returns-then-number-ne0 : goal.returns-then-number-ne0
returns-then-number-ne0 c = rw (ne_eqb _ 0 c.if-number-ne0.true) (then c.put_with.ensures c.put.ensures)

pub returns-then-valued : goal.returns-then-valued
returns-then-valued c = rw (eq-eqb _ 0 c.if-number-ne0.false, c.if-valued.true) (then c.put_number.ensures c.put-then-valued.ensures)

pub returns : goal.returns
returns c = rw (eq-eqb _ 0 c.if-number-ne0.false, c.if-valued.false) c.put-2.ensures
