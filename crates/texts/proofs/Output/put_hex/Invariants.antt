-- `put_hex` meets its contract: the loop's invariant is that the digits so far are the word's last. Assumes nothing.
use mathlib.Core.Path.{◌≡◌}
use lib.ListN.{length, drop}
use mathlib.Core.List.{◌++◌}
use Rattle.texts.specs.Text.{hex_digits}
use Rattle.texts.proofs.Output.put_hex.Given as goal

abbrev pub invariant-loop-i : goal.invariant-loop-i
invariant-loop-i l = (length l.digits ≡ 16) × (hex_digits 16 l.word ≡ hex_digits l.i l.rest ++ drop l.i l.digits)
