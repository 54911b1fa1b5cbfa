-- `lines::chunks::gather` meets its contract: the chunk's bytes up to its first line feed, put behind those that are held. Assumes nothing.
use mathlib.Core.List.{List, []}
use mathlib.Core.Path.{◌≡◌, refl, sym, ap, subst, ◌∙◌}
use Prim.Native.Nat.{ℕ}
use native.Mathlib.Omega.{arith}
use lib.ListN.{length, take, drop, drop_of_length-le, length-drop}
use lib.Seq.{sets, length-take-le}
use Rattle.lines.specs.Pieces.{PieceEnds}
use Rattle.texts.specs.Put.{Put}
use Rattle.lines.proofs.Cutting.{tail-whole}
use Rattle.lines.proofs.Gathering.{line-here, nothing_left, ended_here, open-here}
use Rattle.lines.proofs.chunks.gather.Goals as goal

pub returns-then-chunk-from : goal.returns-then-chunk-from
returns-then-chunk-from c =
    let a = c.args in
    let none : drop a.from a.chunk.now ≡ [] = drop_of_length-le a.chunk.now {i = a.from} (omega arith) in
    record { value = rw none (nothing_left a.from (length a.held.now) a.len); held_after = rw none refl }

pub slice_bounds-put-end : goal.slice_bounds-put-end
slice_bounds-put-end c = sym (length-take-le c.piece_end-n.result _ c.piece_end-n.ensures.within)

pub returns-then-n-rest : goal.returns-then-n-rest
returns-then-n-rest c =
    let a = c.args in
    let n = c.piece_end-n.result in
    let bs = drop a.from a.chunk.now in
    let whole = tail-whole a.chunk.now a.from in
    let line = subst (λ (r : List ℕ). PieceEnds 10 r n) whole c.piece_end-n.ensures in
    let kept = subst (λ (r : List ℕ). Put (take n r) a.held.now a.len c.put-kept.result c.put-kept.new.out) whole c.put-kept.ensures in record {
      value = ended_here bs n a.from (length a.held.now) a.len c.put-kept.result line kept.place (omega (arith, length-drop a.from a.chunk.now));
      held_after = kept.bytes ∙ ap (sets a.held.now a.len) (sym (line-here bs n line));
    }

pub returns : goal.returns
returns c =
    let a = c.args in
    let n = c.piece_end-n.result in
    let bs = drop a.from a.chunk.now in
    let whole = tail-whole a.chunk.now a.from in
    let line = subst (λ (r : List ℕ). PieceEnds 10 r n) whole c.piece_end-n.ensures in
    let kept = subst (λ (r : List ℕ). Put (take n r) a.held.now a.len c.put-kept.result c.put-kept.new.out) whole c.put-kept.ensures in record {
      value = open-here bs n a.from (length a.held.now) a.len c.put-kept.result line kept.place (omega (arith, length-drop a.from a.chunk.now));
      held_after = kept.bytes ∙ ap (sets a.held.now a.len) (sym (line-here bs n line));
    }
