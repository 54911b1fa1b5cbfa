-- A release as one splice: the span closed by the joined block. Assumes nothing.
use mathlib.Core.Path.{◌≡◌, refl, sym, ap, ◌∙◌}
use mathlib.Core.Bool.{false}
use mathlib.Core.List.{List, [], ◌∷◌, ◌++◌, map}
use Prim.Native.Nat.{ℕ, ◌+◌, ◌-◌, ◌%◌, ◌^◌, ◌≤◌, ◌<◌}
use native.Mathlib.Numerals.{add-one}
use native.Mathlib.Omega.{arith}
use lib.Pow.{pow_pos}
use lib.ListN.{length, take, drop, get_or, set, length-append}
use lib.Seq.{set_split, length-take-le}
use Rattle.std.specs.Prelude.{Ok}
use Rattle.rules.specs.Rules.{Block, blk}
use Rattle.table.specs.Layout.{State, order_of, count_of, blocks_of, word_of, head_of, words_of}
use Rattle.words.specs.Words.{pad}
use Rattle.table.proofs.Facts.{sound-fact}
use Rattle.words.proofs.Pad.{length-pad}
use Rattle.table.proofs.Replacing.{replaced, length-replaced, splice-done}
use Rattle.table.proofs.State.{state, record-fits, head-fits, length-blocks, table_is}
use Rattle.frame_core.specs.Carried.{carried, Says, reply_of}
use Rattle.frame_release.specs.Release.{Releasable, Joins, released_at}

-- what the words say of the table, in numbers
pub record Known (ws : List ℕ) (i count : ℕ) : Type 0 where
  pub here : i < count
  pub long : count < length ws
  pub short : length ws ≤ 65536
  pub order : order_of (get_or ws 0 0) < 64

module _ (ws : List ℕ) (i count : ℕ) (p : Releasable ws i) (counted : count ≡ count_of (get_or ws 0 0)) where
  pub known : Known ws i count
  known =
      let f = sound-fact ws p.sound in
      record {
        here = omega (arith, p.here);
        long = omega (arith, f.head.room, f.head.long);
        short = f.head.short;
        order = omega (arith, f.head.high);
      }

  module _ (from to k s : ℕ) (w : Joins ws i from to k s) where
    pub released : ((j : ℕ) → get_or ws j 0 < 2 ^ 64) → (order head v : ℕ) (moved : List ℕ) → order ≡ order_of (get_or ws 0 0)
        → moved ≡ take (from + 2) ws ++ pad (length ws - (from + 2)) (drop (to + 1) ws)
        → v ≡ word_of (blk false (k % 64) (s % 2 ^ 32))
        → ((st : State) → st.order ≡ order % 64 → length st.blocks ≡ (count - (to - from) + 1) % 65536 → head ≡ head_of st)
        → Says (carried (0 ∷ []) ws (released_at ws i)) (reply_of (Ok 0)) (set (set moved (from + 1) v) 0 head)
    released below order head v moved ordered u made headed =
        let q = known in
        let n : length (blocks_of ws) ≡ count_of (get_or ws 0 0) = length-blocks ws p.sound in
        let new : List Block = blk false k s ∷ [] in
        let bs : List Block = replaced from to new (blocks_of ws) in
        let o : ℕ = order_of (get_or ws 0 0) in
        let x : v ≡ word_of (blk false k s) = made ∙ ap word_of (record-fits false k s (omega (arith, w.small)) (omega (arith, w.ends, pow_pos k))) in
        let l = length-replaced from to new (blocks_of ws) (omega (arith, w.low, w.high)) (omega (arith, w.within)) in
        let h : head ≡ head_of (state o bs) =
        head-fits order (count - (to - from) + 1) head (omega arith) (omega (arith, w.low, w.high, w.within)) headed (state o bs) (sym ordered)
        (omega (arith, w.low, w.high, w.within)) in
        let e : from + 2 ≡ from + 1 + 1 = omega arith in
        let m : moved ≡ take (from + 1 + 1) ws ++ pad (length ws - (from + 1 + 1)) (drop (to + 1) ws) =
        u ∙ ap (λ (y : ℕ). take y ws ++ pad (length ws - y) (drop (to + 1) ws)) e in
        let lm : length moved ≡ length ws = ap length m ∙ length-append (take (from + 1 + 1) ws) (pad (length ws - (from + 1 + 1)) (drop (to + 1) ws))
        ∙ omega (arith, length-take-le (from + 1 + 1) ws (omega (arith, w.low)), length-pad (length ws - (from + 1 + 1)) (drop (to + 1) ws), w.low) in
        let r : set moved (from + 1) v ≡ take (from + 1) moved ++ (map word_of new ++ drop (from + 1 + 1) moved) =
        set_split moved (from + 1) v (omega (arith, w.low)) ∙ rw (x, add-one (from + 1)) refl in
        let d : set (set moved (from + 1) v) 0 (head_of (state o bs)) ≡ words_of (length ws) (state o bs) =
        splice-done (length ws) o (blocks_of ws) new from to 1 (omega (arith, w.low, w.high)) (omega (arith, w.within)) refl (omega arith)
        (omega (arith, w.low, w.high, w.within)) ws moved (set moved (from + 1) v) (table_is ws p.sound below) m r in
        record {
          reply = refl;
          words = ap (λ (y : ℕ). set (set moved (from + 1) v) 0 y) h ∙ d ∙ ap (λ (y : List Block). words_of (length ws) (state o y)) (sym w.after);
        }
