-- A sound table and what it says determine each other: its words are those of its state, and the words of a state of sound blocks are a
-- sound table that says that state. Assumes nothing.
use mathlib.Core.Path.{◌≡◌, refl, sym, ap, ◌∙◌}
use mathlib.Core.Bool.{Bool, true, false}
use mathlib.Core.Logic.{◌≢◌}
use mathlib.Core.List.{List, [], ◌∷◌, ◌++◌, map}
use Prim.Native.Nat.{ℕ, suc, ◌+◌, ◌-◌, ◌%◌, ◌^◌, ◌≤◌, ◌<◌}
use native.Mathlib.Omega.{arith}
use lib.Dec.{leb, eqb}
use lib.ListN.{length, take, drop, get_or, replicate, take-append-drop, length-drop, length-map, length-replicate, get_or-map}
use lib.Pow.{pow_pos}
use lib.Seq.{slice, slice-cons, length-slice, take_at, drop_at, get_or-take, get_or-drop}
use borrow.Author.Tests.{eqb-true, eqb-false, leb-true, le-leb}
use Rattle.rules.specs.Rules.{Block, blk, Sound, none, next, block_at}
use Rattle.table.specs.Layout.{State, order_of, count_of, mark_of, class_of, gap_of, start_of, end_of, block_of, records, blocks_of, state_of, word_of, head_of, words_of}
use Rattle.table.specs.Sound.{recordb, recordsb, apartb, soundb}
use Rattle.words.proofs.Tests.{both, join}
use Rattle.table.proofs.Facts.{record-true, record-fact, sound-true, sound-fact}
use Rattle.words.proofs.Pad.{length-pad, get_or-pad, pad-fits}
use Rattle.words.proofs.Zeros.{zeros-are, zeros-made}
use Rattle.words.proofs.Parts.{front_below}

abbrev pub state : ℕ → List Block → State
state order bs = record { order = order; blocks = bs }

-- ---- a block and its word

-- the fields of a block's word
record Fields (w : ℕ) (g : Bool) (k s : ℕ) : Type 0 where
  mark : eqb (mark_of w) 1 ≡ g
  class : class_of w ≡ k
  gap : gap_of w ≡ 0
  start : start_of w ≡ s

fields : (g : Bool) (k s : ℕ) → k < 64 → s < 2 ^ 32 → Fields (word_of (blk g k s)) g k s
fields true k s h l =
    let z : mark_of (word_of (blk true k s)) ≡ 1 = omega arith in
    record { mark = ap (λ (x : ℕ). eqb x 1) z; class = omega arith; gap = omega arith; start = omega arith }
fields false k s h l =
    let z : mark_of (word_of (blk false k s)) ≡ 0 = omega arith in
    record { mark = ap (λ (x : ℕ). eqb x 1) z; class = omega arith; gap = omega arith; start = omega arith }

pub block-of-word : (g : Bool) (k s : ℕ) → k < 64 → s < 2 ^ 32 → block_of (word_of (blk g k s)) ≡ blk g k s
block-of-word g k s h l =
    let f = fields g k s h l in
    rw (f.mark, f.class, f.start)

pub word-of-block : (w : ℕ) → w < 2 ^ 64 → gap_of w ≡ 0 → word_of (block_of w) ≡ w
word-of-block w h z = by-mark (eqb (mark_of w) 1) refl
  where
    by-mark : (g : Bool) → eqb (mark_of w) 1 ≡ g → word_of (blk g (class_of w) (start_of w)) ≡ w
    by-mark true e = let m : mark_of w ≡ 1 = eqb-true (mark_of w) 1 e in omega arith
    by-mark false e = let m : mark_of w ≢ 1 = eqb-false (mark_of w) 1 e in omega arith

-- record_word and head_word cut nothing off numbers that fit their fields
pub record-fits : (g : Bool) (k s : ℕ) → k < 64 → s < 2 ^ 32 → blk g (k % 64) (s % 2 ^ 32) ≡ blk g k s
record-fits g k s h l =
    let a : k % 64 ≡ k = omega arith in
    let b : s % 2 ^ 32 ≡ s = omega arith in
    rw (a, b)

pub head-fits : (order count r : ℕ) → order < 64 → count < 65536
    → ((st : State) → st.order ≡ order % 64 → length st.blocks ≡ count % 65536 → r ≡ head_of st)
    → (st : State) → st.order ≡ order → length st.blocks ≡ count → r ≡ head_of st
head-fits order count r h l is st o c = is st (omega arith) (omega arith)

-- what head_word promises admits one number: there is a state with any ORDER and count that fit
pub head-one : (order count r q : ℕ) → ((st : State) → st.order ≡ order % 64 → length st.blocks ≡ count % 65536 → r ≡ head_of st)
    → ((st : State) → st.order ≡ order % 64 → length st.blocks ≡ count % 65536 → q ≡ head_of st) → r ≡ q
head-one order count r q a b =
    let st : State = state (order % 64) (replicate (count % 65536) (blk false 0 0)) in
    let n : length st.blocks ≡ count % 65536 = length-replicate (count % 65536) (blk false 0 0) in
    a st refl n ∙ sym (b st refl n)

-- ---- the records, as blocks and back

blocks-sound : (order floor : ℕ) (rs : List ℕ) → recordsb order rs ≡ true → apartb floor rs ≡ true → Sound (order - 1) floor (map block_of rs)
blocks-sound order floor [] f a = none
blocks-sound order floor (w ∷ rs) f a =
    let p = both (recordb order w) (recordsb order rs) f in
    let q = both (leb floor (start_of w)) (apartb (end_of w) rs) a in
    let x = record-fact order w p.0 in
    next {k = class_of w} (leb-true _ _ q.0) (omega arith) (record { multiple = x.aligned }) x.within (blocks-sound order (end_of w) rs p.1 q.1)

words_back : (order : ℕ) (rs : List ℕ) → recordsb order rs ≡ true → ((i : ℕ) → get_or rs i 0 < 2 ^ 64) → map word_of (map block_of rs) ≡ rs
words_back order [] f h = refl
words_back order (w ∷ rs) f h =
    let p = both (recordb order w) (recordsb order rs) f in
    rw (word-of-block w (h 0) (record-fact order w p.0).gap, words_back order rs p.1 (λ i. h (suc i)))

-- what the words of blocks are
record Made (order floor : ℕ) (bs : List Block) : Type 0 where
  fine : recordsb order (map word_of bs) ≡ true
  apart : apartb floor (map word_of bs) ≡ true
  back : map block_of (map word_of bs) ≡ bs

words-made : {order floor : ℕ} {bs : List Block} → 1 ≤ order → order ≤ 33 → Sound (order - 1) floor bs → Made order floor bs
words-made l h none = record { fine = refl; apart = refl; back = refl }
words-made {order} {floor} l h (next {g = g} {k = k} {s = s} {bs = bs} low small aligned within rest) =
    let f = fields g k s (omega arith) (omega (arith, pow_pos k)) in
    let r = words-made l h rest in
    let e : end_of (word_of (blk g k s)) ≡ s + 2 ^ k = rw (f.start, f.class) in
    let x : recordb order (word_of (blk g k s)) ≡ true =
    record-true order (word_of (blk g k s)) (record { gap = f.gap; class = omega arith; aligned = rw (f.start, f.class) aligned.multiple; within = rw e within }) in
    record {
      fine = join _ _ x r.fine;
      apart = join _ _ (le-leb floor (start_of (word_of (blk g k s))) (omega arith)) (rw e r.apart);
      back = rw (block-of-word g k s (omega arith) (omega (arith, pow_pos k)), r.back);
    }

-- ---- what a sound table says

module _ (ws : List ℕ) (sound : soundb ws ≡ true) where
  pub sound-blocks : Sound (order_of (get_or ws 0 0) - 1) 0 (blocks_of ws)
  sound-blocks =
      let x = sound-fact ws sound in
      blocks-sound (order_of (get_or ws 0 0)) 0 (records ws) x.fine x.apart

  pub length-records : length (records ws) ≡ count_of (get_or ws 0 0)
  length-records =
      let x = sound-fact ws sound in
      let e = length-slice 1 (count_of (get_or ws 0 0) + 1) ws (omega arith) in
      omega arith

  pub length-blocks : length (blocks_of ws) ≡ count_of (get_or ws 0 0)
  length-blocks = length-map (records ws) block_of ∙ length-records

  pub block-at : (i : ℕ) → i < count_of (get_or ws 0 0) → block_at i (blocks_of ws) ≡ block_of (get_or ws (i + 1) 0)
  block-at i h =
      let n : ℕ = count_of (get_or ws 0 0) + 1 in
      let e : 1 + i ≡ i + 1 = omega arith in
      get_or-map block_of (records ws) i 0
      ∙ ap block_of (get_or-drop 1 (take n ws) i 0 ∙ get_or-take n ws (1 + i) 0 (omega arith) ∙ ap (λ (k : ℕ). get_or ws k 0) e)

  -- its words are those of its blocks, and of its state
  module _ (below : (i : ℕ) → get_or ws i 0 < 2 ^ 64) where
    words-of-records : map word_of (blocks_of ws) ≡ records ws
    words-of-records =
        let x = sound-fact ws sound in
        let n : ℕ = count_of (get_or ws 0 0) + 1 in
        words_back (order_of (get_or ws 0 0)) (records ws) x.fine (λ i. rw (get_or-drop 1 (take n ws) i 0) (front_below n ws (2 ^ 64) (omega arith) below (1 + i)))

    pub word_at : (i : ℕ) → i < count_of (get_or ws 0 0) → get_or ws (i + 1) 0 ≡ word_of (block_at i (blocks_of ws))
    word_at i h =
        let n : ℕ = count_of (get_or ws 0 0) + 1 in
        let e : i + 1 ≡ 1 + i = omega arith in
        ap (λ (k : ℕ). get_or ws k 0) e ∙ sym (get_or-take n ws (1 + i) 0 (omega arith)) ∙ sym (get_or-drop 1 (take n ws) i 0)
        ∙ ap (λ (l : List ℕ). get_or l i 0) (sym words-of-records) ∙ get_or-map word_of (blocks_of ws) i (blk false 0 0)

    pub table_is : ws ≡ words_of (length ws) (state_of ws)
    table_is =
        let x = sound-fact ws sound in
        let n : ℕ = count_of (get_or ws 0 0) + 1 in
        let c : length (blocks_of ws) ≡ count_of (get_or ws 0 0) = length-blocks in
        let z : drop n ws ≡ replicate (length ws - n) 0 = zeros-are (drop n ws) x.zeros ∙ ap (λ (k : ℕ). replicate k 0) (length-drop n ws) in
        let f : head_of (state_of ws) ≡ get_or ws 0 0 = omega arith in
        let m : suc (length (records ws)) ≡ n = omega (arith, length-records) in
        sym (take-append-drop n ws)
        ∙ rw (slice-cons 0 n ws 0 (omega arith) (omega arith), z, f, words-of-records, pad-fits (length ws) (get_or ws 0 0 ∷ records ws) (omega arith), m)

-- ---- what the words of a state say

module _ (n : ℕ) (st : State) (fits : length st.blocks < n) where
  front_length : suc (length (map word_of st.blocks)) ≡ length st.blocks + 1
  front_length = omega (arith, length-map st.blocks word_of)

  words-split : words_of n st ≡ (head_of st ∷ map word_of st.blocks) ++ replicate (n - (length st.blocks + 1)) 0
  words-split =
      pad-fits n (head_of st ∷ map word_of st.blocks) (omega (arith, front_length))
      ∙ ap (λ (k : ℕ). (head_of st ∷ map word_of st.blocks) ++ replicate (n - k) 0) front_length

  words-zero : drop (length st.blocks + 1) (words_of n st) ≡ replicate (n - (length st.blocks + 1)) 0
  words-zero = rw words-split (drop_at (head_of st ∷ map word_of st.blocks) _ (length st.blocks + 1) front_length)

  module _ (order : st.order < 64) (count : length st.blocks < 65536) where
    pub words-order : order_of (get_or (words_of n st) 0 0) ≡ st.order
    words-order = omega (arith, get_or-pad n 0 (head_of st ∷ map word_of st.blocks) (omega arith))

    pub words_count : count_of (get_or (words_of n st) 0 0) ≡ length st.blocks
    words_count = omega (arith, get_or-pad n 0 (head_of st ∷ map word_of st.blocks) (omega arith))

    words-records : records (words_of n st) ≡ map word_of st.blocks
    words-records =
        ap (λ (k : ℕ). slice 1 (k + 1) (words_of n st)) words_count
        ∙ rw words-split (ap (λ (l : List ℕ). drop 1 l) (take_at (head_of st ∷ map word_of st.blocks) _ (length st.blocks + 1) front_length))

-- what move_tail asks of the words of a state
pub tail-zero : (n : ℕ) (st : State) (ws : List ℕ) (end : ℕ) → ws ≡ words_of n st → length st.blocks < n → end ≡ length st.blocks + 1
    → drop end ws ≡ replicate (length ws - end) 0
tail-zero n st ws end q h e = rw (q, e, length-pad) (words-zero n st h)

module _
    (n : ℕ)
    (st : State)
    (low : 1 ≤ st.order)
    (high : st.order ≤ 33)
    (count : length st.blocks < 65536)
    (fits : length st.blocks < n)
    (sound : Sound (st.order - 1) 0 st.blocks)
  where
    pub state-back : state_of (words_of n st) ≡ st
    state-back =
        let o = words-order n st fits (omega arith) count in
        let r = words-records n st fits (omega arith) count in
        let m = words-made low high sound in
        rw (o, r, m.back)

    pub table-sound : n ≤ 65536 → soundb (words_of n st) ≡ true
    table-sound h =
        let o = words-order n st fits (omega arith) count in
        let c = words_count n st fits (omega arith) count in
        let r = words-records n st fits (omega arith) count in
        let m = words-made low high sound in
        let l = length-pad n (head_of st ∷ map word_of st.blocks) in
        let w = get_or-pad n 0 (head_of st ∷ map word_of st.blocks) (omega arith) in
        sound-true (words_of n st) (record {
          head = record { long = omega arith; short = omega arith; low = omega arith; high = omega arith; room = omega arith; rest = omega arith };
          fine = rw (o, r) m.fine;
          apart = rw r m.apart;
          zeros = rw (c, words-zero n st fits) (zeros-made (n - (length st.blocks + 1)));
        })

-- what move_tail asks of a sound table: all words after the records are zero
pub zeros-after : (ws : List ℕ) → soundb ws ≡ true → ((k : ℕ) → get_or ws k 0 < 2 ^ 64) → (end : ℕ) → end ≡ count_of (get_or ws 0 0) + 1
    → drop end ws ≡ replicate (length ws - end) 0
zeros-after ws sound fits end e =
    let n : length (blocks_of ws) ≡ count_of (get_or ws 0 0) = length-blocks ws sound in
    let h = (sound-fact ws sound).head in
    tail-zero (length ws) (state_of ws) ws end (table_is ws sound fits) (omega (arith, h.room, h.long)) (omega arith)
