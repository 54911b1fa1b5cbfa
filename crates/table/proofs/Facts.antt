-- What the tests of specs/Sound.antt say: of each a record of facts that `omega` reads, the test from the facts and back. Assumes nothing.
use mathlib.Core.Path.{◌≡◌}
use mathlib.Core.Bool.{true}
use mathlib.Core.List.{List}
use Prim.Native.Nat.{ℕ, ◌+◌, ◌-◌, ◌%◌, ◌^◌, ◌≤◌, ◌<◌}
use native.Mathlib.Omega.{arith}
use lib.ListN.{length, get_or, drop}
use lib.Pow.{pow_pos, pow_mono}
use borrow.Author.Tests.{leb-true, ltb-true, eqb-true, le-leb, lt-ltb, eq-eqb}
use Rattle.table.specs.Layout.{order_of, count_of, rest_of, class_of, gap_of, start_of, end_of, records}
use Rattle.table.specs.Sound.{headb, recordb, recordsb, apartb, soundb}
use Rattle.words.specs.Words.{zerosb}
use Rattle.words.proofs.Tests.{both}

-- word 0 of a table of n words
pub record Head (n w : ℕ) : Type 0 where
  pub long : 1 ≤ n
  pub short : n ≤ 65536
  pub low : 1 ≤ order_of w
  pub high : order_of w ≤ 33
  pub room : count_of w ≤ n - 1
  pub rest : rest_of w ≡ 0

pub head-true : (n w : ℕ) → Head n w → headb n w ≡ true
unfolding headb
head-true n w h =
    simp (le-leb _ _ h.long, le-leb _ _ h.short, le-leb _ _ h.low, le-leb _ _ h.high, le-leb _ _ h.room, eq-eqb _ _ h.rest)

pub head-fact : (n w : ℕ) → headb n w ≡ true → Head n w
unfolding headb
head-fact n w e =
    let p = both _ _ e in
    let q = both _ _ p.0 in
    let r = both _ _ q.0 in
    let s = both _ _ r.0 in
    let t = both _ _ s.0 in
    record {
      long = leb-true _ _ t.0;
      short = leb-true _ _ t.1;
      low = leb-true _ _ s.1;
      high = leb-true _ _ r.1;
      room = leb-true _ _ q.1;
      rest = eqb-true _ _ p.1;
    }

-- a record's word by itself
pub record Fine (order w : ℕ) : Type 0 where
  pub gap : gap_of w ≡ 0
  pub class : class_of w < order
  pub aligned : start_of w % 2 ^ class_of w ≡ 0
  pub within : end_of w ≤ 2 ^ 32

pub record-true : (order w : ℕ) → Fine order w → recordb order w ≡ true
unfolding recordb
record-true order w h = simp (eq-eqb _ _ h.gap, lt-ltb _ _ h.class, eq-eqb _ _ h.aligned, le-leb _ _ h.within)

pub record-fact : (order w : ℕ) → recordb order w ≡ true → Fine order w
unfolding recordb
record-fact order w e =
    let p = both _ _ e in
    let q = both _ _ p.0 in
    let r = both _ _ q.0 in
    record { gap = eqb-true _ _ r.0; class = ltb-true _ _ r.1; aligned = eqb-true _ _ q.1; within = leb-true _ _ p.1 }

-- 2 ^ class: what `omega` is handed of it
pub size-pos : (w : ℕ) → 0 < 2 ^ class_of w
size-pos w = pow_pos (class_of w)

pub size-le : (w : ℕ) → 2 ^ class_of w ≤ 2 ^ 63
size-le w = pow_mono {i = class_of w} {j = 63} (omega arith)

-- the whole table
pub record Sound (ws : List ℕ) : Type 0 where
  pub head : Head (length ws) (get_or ws 0 0)
  pub fine : recordsb (order_of (get_or ws 0 0)) (records ws) ≡ true
  pub apart : apartb 0 (records ws) ≡ true
  pub zeros : zerosb (drop (count_of (get_or ws 0 0) + 1) ws) ≡ true

pub sound-true : (ws : List ℕ) → Sound ws → soundb ws ≡ true
unfolding soundb
sound-true ws h = simp (head-true _ _ h.head, h.fine, h.apart, h.zeros)

pub sound-fact : (ws : List ℕ) → soundb ws ≡ true → Sound ws
unfolding soundb
sound-fact ws e =
    let p = both _ _ e in
    let q = both _ _ p.0 in
    let r = both _ _ q.0 in
    record { head = head-fact _ _ r.0; fine = r.1; apart = q.1; zeros = p.1 }
