-- A block of a sound table halved in place: what the words say of it, and what is left with room and without. Assumes nothing.
use mathlib.Core.Path.{◌≡◌, sym, ap, ◌∙◌}
use mathlib.Core.Bool.{Bool}
use mathlib.Core.List.{List, [], ◌∷◌, ◌++◌, map}
use Prim.Native.Nat.{ℕ, suc, ◌+◌, ◌-◌, ◌%◌, ◌^◌, ◌≤◌, ◌<◌}
use native.Mathlib.Omega.{arith}
use lib.ListN.{length, take, drop, get_or, set}
use borrow.Author.Tests.{lt-ltb, le-ltb}
use Rattle.std.specs.Prelude.{Ok, Err}
use Rattle.answers.specs.declared.Refusal.TheVariants.{NoRoom}
use Rattle.answers.specs.Judging.{refused, done, refuse, judge}
use Rattle.rules.specs.Rules.{Block, class, start, end, block_at, towards, halved}
use Rattle.rules.proofs.Halving.{length-towards}
use Rattle.rules.proofs.Lists.{stands_at}
use Rattle.table.specs.Layout.{State, order_of, count_of, class_of, start_of, end_of, block_of, blocks_of, word_of, head_of, words_of}
use Rattle.words.specs.Words.{pad}
use Rattle.table.proofs.Facts.{sound-fact}
use Rattle.table.proofs.Replacing.{replaced, length-replaced, splice-done}
use Rattle.table.proofs.State.{state, head-fits, sound-blocks, length-blocks, block-at, table_is}
use Rattle.frame_core.specs.Carried.{carried, reply_of, Says}
use Rattle.frame_core.proofs.Saying.{says-refused, says-done}
use Rattle.frame_halve.specs.Halve.{Halvable, halving}

-- what the words say of the block at place i, and of the table, in numbers
pub record Known (ws : List ℕ) (i c : ℕ) : Type 0 where
  pub large : c ≤ class_of (get_or ws (i + 1) 0)
  pub top : class_of (get_or ws (i + 1) 0) ≤ 32
  pub within : end_of (get_or ws (i + 1) 0) ≤ 2 ^ 32
  pub place : i < count_of (get_or ws 0 0)
  pub count : count_of (get_or ws 0 0) < length ws
  pub short : length ws ≤ 65536
  pub order : order_of (get_or ws 0 0) < 64

module _ (ws : List ℕ) (i c : ℕ) (can : Halvable ws i c) where
  pub known : Known ws i c
  known =
      let x = sound-fact ws can.sound in
      let n : length (blocks_of ws) ≡ count_of (get_or ws 0 0) = length-blocks ws can.sound in
      let b : block_at i (blocks_of ws) ≡ block_of (get_or ws (i + 1) 0) = block-at ws can.sound i can.place in
      let s = stands_at i (blocks_of ws) (sound-blocks ws can.sound) (rw n can.place) in
      record {
        large = omega (arith, can.large, ap class b);
        top = omega (arith, s.small, ap class b);
        within = omega (arith, s.within, ap end b);
        place = can.place;
        count = omega arith;
        short = omega arith;
        order = omega arith;
      }

  module _ (run : ℕ) where
    -- the blocks afterwards, by what the block's word says
    halved_is : halved c run i (blocks_of ws) ≡ replaced i (i + 1) (towards (class_of (get_or ws (i + 1) 0)) c run (start_of (get_or ws (i + 1) 0))) (blocks_of ws)
    unfolding halved
    halved_is = ap (λ (b : Block). replaced i (i + 1) (towards (class b) c run (start b)) (blocks_of ws)) (block-at ws can.sound i can.place)

    length-halved : length (halved c run i (blocks_of ws)) ≡ count_of (get_or ws 0 0) + (class_of (get_or ws (i + 1) 0) - c)
    length-halved =
        let k = known in
        let n : length (blocks_of ws) ≡ count_of (get_or ws 0 0) = length-blocks ws can.sound in
        let new : List Block = towards (class_of (get_or ws (i + 1) 0)) c run (start_of (get_or ws (i + 1) 0)) in
        let m = length-towards (class_of (get_or ws (i + 1) 0)) c run (start_of (get_or ws (i + 1) 0)) k.large in
        omega (arith, ap length halved_is, length-replaced i (i + 1) new (blocks_of ws) (omega arith) (omega arith))

module _
    (ws : List ℕ)
    (i c run count from : ℕ)
    (can : Halvable ws i c)
    (counted : count ≡ count_of (get_or ws 0 0))
    (classed : from ≡ class_of (get_or ws (i + 1) 0))
  where
    -- no room: nothing is changed
    pub stays : length ws - 1 < count + (from - c) → Says (carried (0 ∷ []) ws (halving c run i ws)) (reply_of (Err NoRoom)) ws
    stays full =
        let bs : List Block = halved c run i (blocks_of ws) in
        let q : halving c run i ws ≡ refused NoRoom =
        ap (λ (b : Bool). judge (refuse b NoRoom ∷ []) (done (run ∷ []) bs)) (lt-ltb (length ws - 1) (length bs) (omega (arith, length-halved ws i c can run))) in
        says-refused ws (halving c run i ws) NoRoom q

    -- room: the tail moved, the halves written, and word 0
    pub grants : count + (from - c) ≤ length ws - 1 → ((k : ℕ) → get_or ws k 0 < 2 ^ 64) → (at order head : ℕ) (moved written : List ℕ)
        → at ≡ start_of (get_or ws (i + 1) 0) → order ≡ order_of (get_or ws 0 0)
        → moved ≡ take (i + 2 + (from - c)) ws ++ pad (length ws - (i + 2 + (from - c))) (drop (i + 2) ws)
        → written ≡ take (i + 1) moved ++ (map word_of (towards from c run at) ++ drop (i + 1 + 1 + (from - c)) moved)
        → ((st : State) → st.order ≡ order % 64 → length st.blocks ≡ (count + (from - c)) % 65536 → head ≡ head_of st)
        → Says (carried (0 ∷ []) ws (halving c run i ws)) (reply_of (Ok run)) (set written 0 head)
    grants room fits at order head moved written started ordered u v headed =
        let k = known ws i c can in
        let n : length (blocks_of ws) ≡ count_of (get_or ws 0 0) = length-blocks ws can.sound in
        let bs : List Block = halved c run i (blocks_of ws) in
        let new : List Block = towards from c run at in
        let o : ℕ = order_of (get_or ws 0 0) in
        let z : length new ≡ suc (from - c) = length-towards from c run at (omega arith) in
        let l : length bs ≡ count + (from - c) = omega (arith, length-halved ws i c can run) in
        let e : bs ≡ replaced i (i + 1) new (blocks_of ws) = rw (classed, started) (halved_is ws i c can run) in
        let h : head ≡ head_of (state o bs) = head-fits order (count + (from - c)) head (omega arith) (omega arith) headed (state o bs) (sym ordered) l in
        let p : i + 2 + (from - c) ≡ i + 1 + suc (from - c) = omega arith in
        let r : i + 1 + 1 + (from - c) ≡ i + 1 + suc (from - c) = omega arith in
        let t : i + 2 ≡ i + 1 + 1 = omega arith in
        let d : set written 0 (head_of (state o (replaced i (i + 1) new (blocks_of ws)))) ≡ words_of (length ws) (state o (replaced i (i + 1) new (blocks_of ws))) =
        splice-done (length ws) o (blocks_of ws) new i (i + 1) (suc (from - c)) (omega arith) (omega arith) (omega arith) (omega arith) (omega arith) ws moved written
        (table_is ws can.sound fits)
        (u ∙ ap (λ (x : ℕ). take x ws ++ pad (length ws - x) (drop (i + 2) ws)) p
        ∙ ap (λ (x : ℕ). take (i + 1 + suc (from - c)) ws ++ pad (length ws - (i + 1 + suc (from - c))) (drop x ws)) t)
        (v ∙ ap (λ (x : ℕ). take (i + 1) moved ++ (map word_of new ++ drop x moved)) r) in
        let q : halving c run i ws ≡ done (run ∷ []) bs =
        ap (λ (b : Bool). judge (refuse b NoRoom ∷ []) (done (run ∷ []) bs)) (le-ltb (length ws - 1) (length bs) (omega arith)) in
        says-done ws (halving c run i ws) run bs (set written 0 head) q (ap (λ (x : ℕ). set written 0 x) h ∙ rw (sym e) at d)
