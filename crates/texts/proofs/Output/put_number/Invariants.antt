-- `put_number` meets its contract: the loop's invariant is that the digits so far are the number's last. Assumes nothing.
use Prim.Native.Nat.{◌^◌, ◌<◌}
use mathlib.Core.List.{◌++◌}
use mathlib.Core.Path.{◌≡◌}
use lib.ListN.{length, drop}
use Rattle.texts.specs.Text as text
use Rattle.texts.proofs.Output.put_number.Given as goal

abbrev pub invariant-loop-first : goal.invariant-loop-first
invariant-loop-first l = record {
  same : l.self ≡ l.fn.self;
  long : length l.digits ≡ 20;
  some : 0 < l.rest;
  in_range : l.rest < 10 ^ l.first;
  so_far : text.digits 20 l.n ≡ text.digits l.first l.rest ++ drop l.first l.digits;
}
