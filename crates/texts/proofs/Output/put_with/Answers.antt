-- `put_with` meets its contract: a word and then a number. Assumes nothing.
use Rattle.texts.proofs.Outputs.{then}
use Rattle.texts.proofs.Output.put_with.Goals as goal

pub returns : goal.returns
returns c = then c.put.ensures c.put_number.ensures
