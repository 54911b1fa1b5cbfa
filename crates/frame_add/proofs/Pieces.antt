-- The pieces of a range, counted and written one at a time, and the table that has them. Assumes nothing.
use mathlib.Core.Path.{◌≡◌, refl, sym, ap, ◌∙◌}
use mathlib.Core.Bool.{false}
use mathlib.Core.List.{List, ◌∷◌, ◌++◌, map}
use Prim.Native.Nat.{ℕ, suc, ◌+◌, ◌-◌, ◌%◌, ◌^◌, ◌≤◌, ◌<◌, min}
use native.Mathlib.Omega.{arith}
use lib.ListN.{length, take, drop, get_or, set}
use lib.Pow.{pow_pos}
use borrow.Author.Tests.{lt-ltb, le-ltb}
use Rattle.std.specs.Prelude.{Ok, Err}
use Rattle.answers.specs.declared.Refusal.TheVariants.{NoRoom}
use Rattle.answers.specs.Judging.{judge}
use Rattle.blocks.specs.Blocks.{piece_size, size_class}
use Rattle.blocks.specs.Laws.{Piece}
use Rattle.blocks.proofs.Powers.{exp-le}
use Rattle.blocks.proofs.Pieces.{piece}
use Rattle.blocks.proofs.Rounding.{size-class}
use Rattle.rules.specs.Rules.{Block, blk, added}
use Rattle.rules.proofs.Adding.{Range, rest-range, pieces_of, cut-none, cut_step}
use Rattle.rules.proofs.Ranges.{added-here}
use Rattle.table.specs.Layout.{State, order_of, count_of, blocks_of, word_of, head_of, words_of}
use Rattle.words.specs.Words.{pad}
use Rattle.table.proofs.Facts.{sound-fact}
use Rattle.table.proofs.State.{state, record-fits, head-fits, sound-blocks, length-blocks, table_is}
use Rattle.words.proofs.Writing.{filled, fill-turn, fill_done}
use Rattle.table.proofs.Replacing.{replaced, length-replaced, splice-done}
use Rattle.frame_add.specs.Add.{Addable, Placed}

-- t with the pieces of n frames from s on, which are still to be written from word p on
abbrev pub to_write : ℕ → List ℕ → ℕ → ℕ → ℕ → List ℕ
to_write top t p s n = filled t p (map word_of (pieces_of top s n)) (length (pieces_of top s n))

-- ---- one turn: the next piece has this size

module _ {top s n size : ℕ} (r : Range top s n) (h : 0 < n) (e : size ≡ piece_size top s n) where
  pub next-piece : Piece top s n size
  next-piece = rw e (piece top s n r.order (omega (arith, r.within)) h (omega (arith, r.within)))

  pub rest : Range top (s + size) (n - size)
  rest = rw e (rest-range r h)

  step : pieces_of top s n ≡ blk false (size_class size) s ∷ pieces_of top (s + size) (n - size)
  step = rw e (cut_step top s n r h)

  pub count_turn : length (pieces_of top s n) ≡ suc (length (pieces_of top (s + size) (n - size)))
  count_turn = ap length step

  -- its class fits the field of a record
  class-fits : size_class size < 64
  class-fits =
      let w = next-piece in
      let k = w.power.class in
      let l : k ≤ top = exp-le k top (omega (arith, w.power.is, w.small, pow_pos top)) in
      let c : size_class size ≡ k = ap size_class w.power.is ∙ size-class k (omega (arith, r.order)) in
      omega (arith, r.order)

  pub write-turn : (t : List ℕ) (p class word : ℕ) → p < length t → class ≡ size_class size → word ≡ word_of (blk false (class % 64) (s % 2 ^ 32))
      → to_write top t p s n ≡ to_write top (set t p word) (p + 1) (s + size) (n - size)
  write-turn t p class word l c w =
      let b : Block = blk false (size_class size) s in
      let bs : List Block = pieces_of top (s + size) (n - size) in
      let v : word ≡ word_of b = w ∙ rw c (ap word_of (record-fits false (size_class size) s class-fits (omega (arith, r.within)))) in
      ap (λ (l : List Block). filled t p (map word_of l) (length l)) step
      ∙ fill-turn t (map word_of bs) p (length bs) (word_of b) l
      ∙ ap (λ (x : ℕ). to_write top (set t p x) (p + 1) (s + size) (n - size)) (sym v)

-- ---- no frame is left

pub count-end : (top s n : ℕ) → n ≡ 0 → length (pieces_of top s n) ≡ 0
count-end top s n e = rw (e, cut-none top s) refl

pub write-end : (top s n p : ℕ) (t : List ℕ) → n ≡ 0 → to_write top t p s n ≡ t
write-end top s n p t e = rw (e, cut-none top s) (fill_done t p 0 refl)

-- ---- the whole call

-- the pieces of [s, e) in a table of the ORDER
abbrev new : ℕ → ℕ → ℕ → List Block
new order s e = pieces_of (order - 1) s (e - s)

-- what the numbers that it reads keep to
pub record Bounds (ws : List ℕ) (i s e order count : ℕ) : Type 0 where
  pub long : count < length ws
  pub short : length ws ≤ 65536
  pub low : 1 ≤ order
  pub high : order ≤ 33
  pub here : i ≤ count
  pub ordered : s ≤ e
  pub within : e ≤ 2 ^ 32

module _
    {ws : List ℕ}
    {i s e order count : ℕ}
    (q : Addable ws i s e)
    (o : order ≡ order_of (get_or ws 0 0))
    (c : count ≡ count_of (get_or ws 0 0))
  where
    pub bounds : Bounds ws i s e order count
    bounds =
        let h = (sound-fact ws q.sound).head in
        let g = q.gap.here in
        record {
          long = omega arith;
          short = h.short;
          low = omega arith;
          high = omega arith;
          here = omega (arith, length-blocks ws q.sound);
          ordered = q.ordered;
          within = q.within;
        }

    pub range : Range (order - 1) s (e - s)
    range = let b = bounds in record { order = omega arith; within = omega arith }

    -- the blocks afterwards, and how many they are
    after : added (order_of (get_or ws 0 0) - 1) s e (blocks_of ws) ≡ replaced i i (new order s e) (blocks_of ws)
    after =
        let b = bounds in
        rw o (added-here s e i (blocks_of ws) (sound-blocks ws q.sound) q.gap q.ordered q.within (omega arith) q.clear)

    length-after : length (replaced i i (new order s e) (blocks_of ws)) ≡ count + length (new order s e)
    length-after =
        let b = bounds in
        let l = length-blocks ws q.sound in
        omega (arith, length-replaced i i (new order s e) (blocks_of ws) (omega arith) (omega arith))

    module _ {more : ℕ} (m : more ≡ min (length (new order s e)) (length ws - 1 - count + 1)) where
      pub refuses : length ws - 1 - count < more → Placed ws s e (Err NoRoom) ws
      refuses h =
          let b = bounds in
          let l = length-after in
          rw (after, lt-ltb (length ws - 1) (length (replaced i i (new order s e) (blocks_of ws))) (omega arith), judge) (record { reply = refl; words = refl })

      pub places : (word : ℕ) (moved run : List ℕ) → more ≤ length ws - 1 - count → ((k : ℕ) → get_or ws k 0 < 2 ^ 64)
          → moved ≡ take (i + 1 + more) ws ++ pad (length ws - (i + 1 + more)) (drop (i + 1) ws) → run ≡ to_write (order - 1) moved (i + 1) s (e - s)
          → ((st : State) → st.order ≡ order % 64 → length st.blocks ≡ (count + more) % 65536 → word ≡ head_of st) → Placed ws s e (Ok 0) (set run 0 word)
      places word moved run h f u v w =
          let b = bounds in
          let l = length-after in
          let n = length-blocks ws q.sound in
          let k : more ≡ length (new order s e) = omega arith in
          let st : List Block → State = state (order_of (get_or ws 0 0)) in
          let bs : List Block = replaced i i (new order s e) (blocks_of ws) in
          let z : word ≡ head_of (st bs) = head-fits order (count + more) word (omega arith) (omega arith) w (st bs) (sym o) (omega arith) in
          let x : run ≡ take (i + 1) moved ++ (map word_of (new order s e) ++ drop (i + 1 + more) moved) = rw k v in
          let d = splice-done (length ws) (order_of (get_or ws 0 0)) (blocks_of ws) (new order s e) i i more (omega arith) (omega arith) k (omega arith) (omega arith) ws moved run
          (table_is ws q.sound f) u x in
          rw (after, le-ltb (length ws - 1) (length bs) (omega arith), judge, z)
          (record { reply = refl; words = d ∙ ap (λ (bs : List Block). words_of (length ws) (st bs)) (sym after) })
