-- What a line prints has room, unless it is a list's.
use mathlib.Core.Bool.{Bool, true, false}
use mathlib.Core.List.{List, ◌++◌}
use mathlib.Core.Path.{◌≡◌, ap}
use Prim.Native.Nat.{ℕ, ◌+◌, ◌≤◌}
use native.Mathlib.Omega.{arith}
use lib.ListN.{length}
use Rattle.answers.specs.Paper.{paper}
use Rattle.texts.specs.Put.{Shown}
use Rattle.texts.specs.Output.{Puts}
use Rattle.texts.specs.declared.Output.{Output}
use Rattle.texts.specs.Text.{decimal, line_feed}
use Rattle.texts.proofs.Lengths.{length-decimal, both}
use Rattle.heap_runs.specs.declared.Printed.{Printed}
use Rattle.heap_runs.specs.declared.Printed.TheVariants.{Reply, Figures, Nodes, Set, BadLine}
use Rattle.heap_runs.specs.Text.{spaced, reply_text, figures_text, line_of, by_node}

length-spaced : (n : ℕ) → length (spaced n) ≤ 21
length-spaced n = omega (arith, length-decimal n)

reply-length : (number value : ℕ) → length (reply_text number value) ≤ 160
reply-length number value =
    let all : length (reply_text number value) ≤ 42 =
    both (decimal number ++ spaced value) line_feed 41 1 (both (decimal number) (spaced value) 20 21 (length-decimal number) (length-spaced value)) (omega arith) in
    omega arith

figures-length : (n u a t : ℕ) → length (figures_text n u a t) ≤ 160
figures-length n u a t =
    let two = both (decimal n) (spaced u) 20 21 (length-decimal n) (length-spaced u) in
    let three = both (decimal n ++ spaced u) (spaced a) 41 21 two (length-spaced a) in
    let four = both (decimal n ++ spaced u ++ spaced a) (spaced t) 62 21 three (length-spaced t) in
    let all : length (figures_text n u a t) ≤ 84 = both (decimal n ++ spaced u ++ spaced a ++ spaced t) line_feed 83 1 four (omega arith) in
    omega arith

short : (arena : List ℕ) (p : Printed) → by_node p ≡ false → length (line_of arena p) ≤ 160
short arena (Reply a) e = reply-length (paper a).number (paper a).value
short arena (Figures u a t) e = figures-length (paper u).number (paper u).value (paper a).value (paper t).value
short arena (Nodes head count) e = let z : ◌≡◌ {A = Bool} true false = e in let w : ◌≡◌ {A = ℕ} 0 1 = cc in absurd (omega arith)
short arena Set e = omega arith
short arena BadLine e = omega arith

pub shown : (arena : List ℕ) (p : Printed) (text : List ℕ) (before after : Output) (buffer : List ℕ) → by_node p ≡ false → before.bytes.now ≡ buffer → line_of arena p ≡ text
    → before.at + 160 ≤ length before.bytes.now → Puts (line_of arena p) before after → Shown text buffer after.at after.bytes.now
shown arena p text before after buffer b same e room q =
    record {
      from = before.at;
      put = rw (← same, ← e) q.put;
      whole = omega (arith, q.put.place, short arena p b, ap length e);
    }
