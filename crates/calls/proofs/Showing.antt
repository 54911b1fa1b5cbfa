-- What a line prints has room.
use mathlib.Core.List.{List}
use mathlib.Core.Path.{◌≡◌, ap}
use Prim.Native.Nat.{ℕ, ◌+◌, ◌≤◌}
use native.Mathlib.Omega.{arith}
use lib.ListN.{length}
use Rattle.answers.specs.Paper.{paper}
use Rattle.texts.specs.Put.{Shown}
use Rattle.texts.specs.Output.{Puts}
use Rattle.texts.specs.declared.Output.{Output}
use Rattle.frame_lines.proofs.Lengths.{reply-length}
use Rattle.calls.specs.Run.{line_of}
use Rattle.calls.specs.declared.Printed.{Printed}
use Rattle.calls.specs.declared.Printed.TheVariants.{Reply, BadLine}

short : (p : Printed) → length (line_of p) ≤ 64
short (Reply a valued) = reply-length (paper a).number (paper a).value valued
short BadLine = omega arith

pub shown : (p : Printed) (text : List ℕ) (before after : Output) (buffer : List ℕ) → before.bytes.now ≡ buffer → line_of p ≡ text → before.at + 160 ≤ length before.bytes.now → Puts (line_of p) before after
    → Shown text buffer after.at after.bytes.now
shown p text before after buffer same e room q =
    record {
      from = before.at;
      put = rw (← same, ← e) q.put;
      whole = omega (arith, q.put.place, short p, ap length e);
    }
