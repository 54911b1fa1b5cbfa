-- `heap_listed::listing::put_word` meets its contract: text after text. Assumes nothing.
use Rattle.texts.proofs.Outputs.{then}
use Rattle.heap_listed.proofs.listing.put_word.Goals as goal

pub returns : goal.returns
returns c = then (then (then c.put_with.ensures c.put.ensures) c.put_hex.ensures) c.put-2.ensures
