-- `words::scan::zeros_from` meets its contract: no word, or three rows and what is left over. Assumes nothing.
use mathlib.Core.Path.{sym, ap, ◌∙◌}
use mathlib.Core.Bool.{Bool, ◌&&◌}
use Prim.Native.Nat.{◌/◌}
use native.Mathlib.Omega.{arith}
use lib.ListN.{length}
use Rattle.std.proofs.lemmas.Slice.{between_to_end}
use Rattle.words.specs.Words.{zerosb}
use Rattle.words.proofs.Zeros.{parted}
use Rattle.words.proofs.scan.zeros_from.Goals as goal

pub returns-then-three_rows : goal.returns-then-three_rows
returns-then-three_rows c =
    let s = c.split_at in
    let s2 = c.split_at-2 in
    let s3 = c.split_at-3 in
    let ws = c.in-Some.ws.now in
    let tail = zerosb s3.result.1.now in
    let whole = parted ws s.result.0.now s.result.1.now s2.result.0.now s2.result.1.now s3.result.0.now s3.result.1.now (length ws / 3)
    s.ensures.front s.ensures.back s2.ensures.front s2.ensures.back s3.ensures.front s3.ensures.back in
    c.one_row.ensures ∙ sym (whole ∙ ap (λ (u : Bool). u && tail) (sym c.three_rows.ensures ∙ c.if-three_rows.true))
    ∙ ap zerosb (c.in-Some.ensures.lookup.0.2 ∙ between_to_end c.args.t.now c.args.from (length c.args.t.now) (omega arith))

pub returns-else-three_rows : goal.returns-else-three_rows
returns-else-three_rows c =
    let s = c.split_at in
    let s2 = c.split_at-2 in
    let s3 = c.split_at-3 in
    let ws = c.in-Some.ws.now in
    let tail = zerosb s3.result.1.now in
    let whole = parted ws s.result.0.now s.result.1.now s2.result.0.now s2.result.1.now s3.result.0.now s3.result.1.now (length ws / 3)
    s.ensures.front s.ensures.back s2.ensures.front s2.ensures.back s3.ensures.front s3.ensures.back in
    c.if-three_rows.false ∙ sym (whole ∙ ap (λ (u : Bool). u && tail) (sym c.three_rows.ensures ∙ c.if-three_rows.false))
    ∙ ap zerosb (c.in-Some.ensures.lookup.0.2 ∙ between_to_end c.args.t.now c.args.from (length c.args.t.now) (omega arith))
