-- `frame_lines::show::put_heading` meets its contract: text after text. Assumes nothing.
use Rattle.texts.proofs.Outputs.{then}
use Rattle.frame_lines.proofs.show.put_heading.Goals as goal

pub returns : goal.returns
returns c = then (then c.put_with.ensures c.put_with-2.ensures) c.put.ensures
