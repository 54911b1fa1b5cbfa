-- `heap_listed::listing::put_all` meets its contract: the output keeps its room. Assumes nothing.
use Rattle.texts.proofs.Outputs.{still_then, still_puts}
use Rattle.heap_listed.proofs.listing.put_all.Goals as goal

pub put_heads-requires : goal.put_heads-requires
put_heads-requires g c = (still_puts c.in_ok-room.ensures.ready c.put_record.ensures).ready

pub returns-in_err-put_heads : goal.returns-in_err-put_heads
returns-in_err-put_heads g c = still_then (still_puts c.in_ok-room.ensures.ready c.put_record.ensures) c.put_heads.ensures

pub returns-in_err-put_free : goal.returns-in_err-put_free
returns-in_err-put_free g c = still_then (still_then (still_puts c.in_ok-room.ensures.ready c.put_record.ensures) c.put_heads.ensures) c.put_free.ensures

pub returns-in_err-put_words : goal.returns-in_err-put_words
returns-in_err-put_words g c =
    still_then (still_then (still_then (still_puts c.in_ok-room.ensures.ready c.put_record.ensures) c.put_heads.ensures) c.put_free.ensures) c.put_words.ensures

pub returns : goal.returns
returns g c =
    still_then (still_then (still_then (still_then (still_puts c.in_ok-room.ensures.ready c.put_record.ensures) c.put_heads.ensures) c.put_free.ensures) c.put_words.ensures) c.put_words-2.ensures
