-- `heap_listed::listing::put_words` meets its contract: the output keeps its room. Assumes nothing.
use Rattle.texts.proofs.Outputs.{still_then, still_puts}
use Rattle.heap_listed.proofs.listing.put_words.Goals as goal

pub loop-i-preserved : goal.loop-i-preserved
loop-i-preserved g c = still_puts (still_then c.loop-i.invariant c.in_ok-room.ensures.ready) c.put_word.ensures
