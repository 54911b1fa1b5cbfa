-- `heap_listed::listing::put_record` meets its contract: text after text. Assumes nothing.
use Rattle.texts.proofs.Outputs.{then}
use Rattle.heap_listed.proofs.listing.put_record.Goals as goal

pub returns : goal.returns
returns c = then (then (then (then (then c.put_with.ensures c.put_with-2.ensures) c.put_with-3.ensures) c.put_with-4.ensures) c.put_with-5.ensures) c.put.ensures
