-- A tail moved in place, up into zeros, or down with zeros written after it. Assumes nothing.
use mathlib.Core.Path.{◌≡◌, sym, ap, ◌∙◌}
use mathlib.Core.List.{List, ◌++◌, append_assoc, append-nil}
use Prim.Native.Nat.{ℕ, ◌+◌, ◌-◌, ◌≤◌, ◌<◌}
use native.Mathlib.Omega.{arith}
use borrow.Rule.Slice.PartMut.{put_mid}
use lib.ListN.{length, take, drop, replicate, length-append, length-replicate, take-append-drop, replicate-append-replicate, length-drop}
use lib.Seq.{length-take-le, drop-drop, take_at}
use Rattle.std.specs.List.{copy_within}
use Rattle.std.proofs.lemmas.List.{drop-replicate}
use Rattle.std.proofs.lemmas.List.Edits.{paste_all}
use Rattle.std.proofs.lemmas.Slice.{put_mid-paste, drop-append-drop}
use Rattle.words.specs.Words.{pad}
use Rattle.words.proofs.Pad.{pad-append, pad-zeros, pad-fits}

-- a tail that stays where it is
pub tail-still : (d : List ℕ) (from to : ℕ) → from ≡ to → d ≡ take to d ++ pad (length d - to) (drop from d)
tail-still d from to e =
    let n : length (drop to d) ≡ length d - to = length-drop to d in
    let z : length d - to - (length d - to) ≡ 0 = omega arith in
    rw (e, pad-fits (length d - to) (drop to d) (omega arith), n, z, append-nil) (sym (take-append-drop to d))

-- the tail [from, end), after which all is zero, moved to start at `to`
module _
    (d : List ℕ)
    (from to end : ℕ)
    (h : from ≤ end)
    (l : end ≤ length d)
    (g : end + to ≤ length d + from)
    (z : drop end d ≡ replicate (length d - end) 0)
  where
    abbrev tail : List ℕ
    tail = take (end - from) (drop from d)

    length-tail : length tail ≡ end - from
    length-tail = length-take-le (end - from) (drop from d) (simp length-drop (omega arith))

    -- with the words from `to` on to stand in
    tail-padded : pad (length d - to) (drop from d) ≡ tail ++ replicate (length d - to - (end - from)) 0
    tail-padded =
        let e : from + (end - from) ≡ end = omega arith in
        let n : length d - to ≡ length tail + (length d - to - (end - from)) = simp length-tail (omega arith) in
        ap (λ (k : ℕ). pad k (drop from d)) n
        ∙ ap (pad (length tail + (length d - to - (end - from)))) (sym (take-append-drop (end - from) (drop from d)))
        ∙ pad-append tail (drop (end - from) (drop from d)) (length d - to - (end - from))
        ∙ rw (drop-drop (end - from) from d, e, z, pad-zeros (length d - to - (end - from)) (length d - end))

    pub tail-up : from ≤ to → copy_within d from end to ≡ take to d ++ pad (length d - to) (drop from d)
    tail-up k =
        let e : to + (end - from) ≡ end + (to - from) = omega arith in
        let r : length d - end - (to - from) ≡ length d - to - (end - from) = omega arith in
        rw (tail-padded, e, ← drop-drop (to - from) end d, z, drop-replicate, r) (append_assoc (take to d) tail _)

    -- zs is written after it
    pub tail-down : to < from → (t zs : List ℕ) (n : ℕ) → t ≡ copy_within d from end to → n ≡ from - to → zs ≡ replicate (from - to) 0
        → put_mid (end - (from - to)) n t zs ≡ take to d ++ pad (length d - to) (drop from d)
    tail-down k t zs n q e w =
        let front : List ℕ = take to d ++ tail in
        let seam : ℕ = end - (from - to) in
        let gap : List ℕ = replicate (from - to) 0 in
        let f : length (take to d) ≡ to = length-take-le to d (omega arith) in
        let s : length front ≡ seam = simp (length-append, length-tail) (omega arith) in
        let b : to + (end - from) ≡ seam = omega arith in
        let v : seam + (from - to) ≡ end = omega arith in
        let r : from - to + (length d - end) ≡ length d - to - (end - from) = omega arith in
        let moved : t ≡ front ++ drop seam d = q ∙ ap (λ (i : ℕ). front ++ drop i d) b in
        let below : take seam t ≡ front = ap (take seam) moved ∙ take_at front (drop seam d) seam s in
        let past : drop end t ≡ drop end d = ap (drop end) moved ∙ drop-append-drop seam d front end (omega arith) s in
        let l-gap : from - to ≡ length gap = sym (length-replicate (from - to) 0) in
        put_mid-paste seam n t zs gap (from - to) w (sym e) l-gap
        ∙ paste_all t seam gap (from - to) l-gap
        ∙ rw (below, v, past, z, replicate-append-replicate, r, tail-padded) (append_assoc (take to d) tail _)
