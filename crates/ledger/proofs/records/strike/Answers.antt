-- `ledger::records::strike` meets its contract: the tail after the record moves over it. Assumes nothing.
use native.Mathlib.Omega.{arith}
use Rattle.ledger.proofs.Ledgers.{tail-zeros}
use Rattle.ledger.proofs.Keeping.{struck}
use Rattle.ledger.proofs.records.strike.Goals as goal

pub move_tail-requires : goal.move_tail-requires
move_tail-requires c =
    let k = c.requires.0.1 in
    (omega arith, k.room, omega arith, tail-zeros c.requires.0.0 c.args.count c.args.ledger.now k)

pub returns : goal.returns
returns c =
    struck c.requires.0.0 c.args.count c.args.ledger.now c.requires.0.1 c.args.i c.move_tail.new.t c.requires.1 c.move_tail.ensures
