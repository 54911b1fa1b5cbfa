-- A run of records replaced by another: the tail moved, the new words written, word 0 last. Assumes nothing.
use mathlib.Core.Path.{◌≡◌, refl, ap, ◌∙◌}
use mathlib.Core.List.{List, ◌∷◌, ◌++◌, map, map-append}
use Prim.Native.Nat.{ℕ, zero, suc, ◌+◌, ◌-◌, ◌≤◌, ◌<◌}
use native.Mathlib.Numerals.{add-one}
use native.Mathlib.Omega.{arith}
use lib.ListN.{length, take, drop, set, length-append, length-drop, length-map}
use lib.Seq.{length-take-le}
use Rattle.rules.specs.Rules.{Block}
use Rattle.words.specs.Words.{pad}
use Rattle.table.specs.Layout.{head_of, word_of, words_of}
use Rattle.words.proofs.Pad.{length-pad, pad-replaced}
use Rattle.words.proofs.Parts.{map-take, map-drop}
use Rattle.words.proofs.Writing.{run-written}
use Rattle.table.proofs.State.{state}

-- ---- blocks [i, j) replaced by others

abbrev pub replaced : ℕ → ℕ → List Block → List Block → List Block
replaced i j new bs = take i bs ++ (new ++ drop j bs)

pub length-replaced : (i j : ℕ) (new bs : List Block) → i ≤ j → j ≤ length bs → length (replaced i j new bs) + (j - i) ≡ length bs + length new
length-replaced i j new bs h l =
    let a : length (take i bs) ≡ i = length-take-le i bs (omega arith) in
    simp (length-append, length-drop) (omega arith)

words-replaced : (i j : ℕ) (new bs : List Block) → map word_of (replaced i j new bs) ≡ take i (map word_of bs) ++ (map word_of new ++ drop j (map word_of bs))
words-replaced i j new bs = rw (map-append word_of (take i bs) (new ++ drop j bs), map-append word_of new (drop j bs), map-take, map-drop)

-- ---- the splice

set-head : (n v w : ℕ) (ws : List ℕ) → set (pad n (v ∷ ws)) 0 w ≡ pad n (w ∷ ws)
set-head zero v w ws = refl
set-head (suc n) v w ws = refl

module _
    (n order : ℕ)
    (bs new : List Block)
    (i j m : ℕ)
    (h : i ≤ j)
    (l : j ≤ length bs)
    (e : m ≡ length new)
    (fits : length bs < n)
    (room : length bs + m < n + (j - i))
  where
    -- the blocks [i, j) of a table replaced by new ones: move_tail(t, j + 1, i + 1 + m, count + 1), the words of the new ones, and word 0
    pub splice-done : (ws moved run : List ℕ) → ws ≡ words_of n (state order bs)
        → moved ≡ take (i + 1 + m) ws ++ pad (n - (i + 1 + m)) (drop (j + 1) ws)
        → run ≡ take (i + 1) moved ++ (map word_of new ++ drop (i + 1 + m) moved)
        → set run 0 (head_of (state order (replaced i j new bs))) ≡ words_of n (state order (replaced i j new bs))
    splice-done ws moved run q u v =
        let old : List ℕ = head_of (state order bs) ∷ map word_of bs in
        let c : length (map word_of bs) ≡ length bs = length-map bs word_of in
        let d : length ws ≡ n = ap length q ∙ length-pad n old in
        let w : run ≡ pad n (take (i + 1) ws ++ (map word_of new ++ drop (j + 1) ws)) =
        rw d at (run-written ws moved run (map word_of new) (i + 1) (i + 1 + m) (j + 1) (omega (arith, length-map new word_of)) (omega arith) (rw d u) v) in
        rw (w, q, pad-replaced n (i + 1) (j + 1) old (map word_of new) (omega arith) (omega arith) (omega arith), add-one i, add-one j, words-replaced)
        (set-head n (head_of (state order bs)) (head_of (state order (replaced i j new bs))) (take i (map word_of bs) ++ (map word_of new ++ drop j (map word_of bs))))
