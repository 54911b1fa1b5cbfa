-- `grammar::numbers::number` meets its contract. The loop's invariant: the digits that are left go on from the value so far. Assumes nothing.
use mathlib.Core.Path.{◌≡◌}
use Prim.Native.Nat.{◌^◌, ◌<◌}
use lib.ListN.{drop}
use Rattle.grammar.specs.Line.{all_digits, value_on}
use Rattle.grammar.proofs.numbers.number.Given as goal

abbrev pub invariant-loop-byte : goal.invariant-loop-byte
invariant-loop-byte l = (all_digits l.word ≡ all_digits (drop l.byte-index l.word)) × (value_on 0 l.word ≡ value_on l.value (drop l.byte-index l.word)) × (l.value < 2 ^ 64)
