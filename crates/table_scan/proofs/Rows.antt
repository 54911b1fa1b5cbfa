-- The records by the scan: what it gathers of a row of records is what the definition asks of them. Assumes nothing.
use mathlib.Core.Path.{◌≡◌, refl, sym, ap, ◌∙◌}
use mathlib.Core.Bool.{Bool, true, false, ◌&&◌, cond}
use mathlib.Core.List.{List, [], ◌∷◌, ◌++◌}
use Prim.Native.Nat.{ℕ, suc, ◌+◌, ◌-◌, ◌%◌, ◌^◌, ◌≤◌, ◌<◌}
use native.Mathlib.Nat.{lt_of_not-le}
use native.Mathlib.Numerals.{add-one}
use native.Mathlib.Omega.{arith}
use lib.Dec.{leb}
use lib.ListN.{length, get_or, drop}
use lib.Seq.{drop-cons}
use lib.Bits.{bit_or, bit_and, or_add_and, and_mask, or_lt}
use lib.Pow.{pow_pos, pow_mono, pow-lt}
use borrow.Author.Tests.{leb-true, ltb-true, eqb-true, le-leb, lt-ltb, eq-eqb}
use Rattle.std.specs.Prelude.{Option, Some, None, is_some, option_and_then}
use Rattle.std.proofs.lemmas.List.{drop_all}
use Rattle.table.specs.Layout.{class_of, gap_of, start_of, end_of}
use Rattle.table.specs.Sound.{recordb, recordsb, apartb}
use Rattle.table_scan.specs.Scan.{below33, mask_of, Lap, cleanb, nextb, end_after}
use Rattle.words.proofs.Tests.{no, clash, both, join, same, and-false}
use Rattle.table.proofs.Facts.{Fine, record-true, record-fact, size-pos}
use Rattle.words.proofs.Ors.{or-le, or-zero}
use Rattle.table_scan.proofs.Ors.{or-gap, or-class}

-- ---- one record after a block that ends at floor

pub record Next (order floor w : ℕ) : Type 0 where
  pub fine : Fine order w
  pub after : floor ≤ start_of w

next-true : (order floor w : ℕ) → Next order floor w → nextb order floor w ≡ true
unfolding nextb
next-true order floor w h = join _ _ (record-true _ _ h.fine) (le-leb _ _ h.after)

next-fact : (order floor w : ℕ) → nextb order floor w ≡ true → Next order floor w
unfolding nextb
next-fact order floor w e =
    let p = both _ _ e in
    record { fine = record-fact _ _ p.0; after = leb-true _ _ p.1 }

next-no : (order floor w : ℕ) → (Next order floor w → ⊥) → nextb order floor w ≡ false
next-no order floor w h = no (nextb order floor w) (λ e. h (next-fact order floor w e))

-- ---- a row of them

-- the records are good and stand apart just where the row has an end
pub judged : (order floor : ℕ) (ws : List ℕ) → recordsb order ws && apartb floor ws ≡ is_some (end_after order floor ws)
unfolding nextb
judged order floor [] = refl
judged order floor (w ∷ ws) = go (judged order (end_of w) ws) (recordb order w) (leb floor (start_of w)) refl refl
  where
    go : recordsb order ws && apartb (end_of w) ws ≡ is_some (end_after order (end_of w) ws)
        → (b c : Bool) → recordb order w ≡ b → leb floor (start_of w) ≡ c
        → (b && recordsb order ws) && (c && apartb (end_of w) ws) ≡ is_some (end_after order floor (w ∷ ws))
    go r true true p q = rw (p, q) r
    go r true false p q = and-false (recordsb order ws) ∙ rw (p, q) refl
    go r false c p q = rw p refl

-- the row in two parts
pub parts : (order floor : ℕ) (xs ys : List ℕ) (f : Option ℕ) → end_after order floor xs ≡ f
    → end_after order floor (xs ++ ys) ≡ option_and_then (λ e. end_after order e ys) f
parts order floor [] ys f e = ap (option_and_then (λ e. end_after order e ys)) e
parts order floor (x ∷ xs) ys f e = go (nextb order floor x) refl (parts order (end_of x) xs ys)
  where
    go : (b : Bool) → nextb order floor x ≡ b → ((g : Option ℕ) → end_after order (end_of x) xs ≡ g → end_after order (end_of x) (xs ++ ys) ≡ option_and_then (λ e. end_after order e ys) g)
        → end_after order floor ((x ∷ xs) ++ ys) ≡ option_and_then (λ e. end_after order e ys) f
    go true p ih = rw p (ih f (rw p at e))
    go false p ih = rw p (ap (option_and_then (λ e. end_after order e ys)) (rw p at e))

-- where it ends, no block is past the last frame
pub end-within : (order floor : ℕ) (ws : List ℕ) (e : ℕ) → 1 ≤ floor → floor ≤ 2 ^ 32 → end_after order floor ws ≡ Some e → (1 ≤ e) × (e ≤ 2 ^ 32)
end-within order floor [] e l h q = let z : floor ≡ e = cc in (omega arith, omega arith)
end-within order floor (w ∷ ws) e l h q = go (nextb order floor w) refl (end-within order (end_of w) ws e)
  where
    go : (b : Bool) → nextb order floor w ≡ b → (1 ≤ end_of w → end_of w ≤ 2 ^ 32 → end_after order (end_of w) ws ≡ Some e → (1 ≤ e) × (e ≤ 2 ^ 32)) → (1 ≤ e) × (e ≤ 2 ^ 32)
    go true p ih = ih (omega (arith, size-pos w)) (next-fact order floor w p).fine.within (rw p at q)
    go false p ih = let z : ◌≡◌ {A = Option ℕ} None (Some e) = rw p at q in cc

-- a block of class 32 starts at 0 and covers all, so no record after another has one
limit-next : (order floor w : ℕ) → 1 ≤ floor → nextb order floor w ≡ nextb (below33 order) floor w
limit-next order floor w h =
    same _ _ (λ e. next-true (below33 order) floor w (down (next-fact order floor w e))) (λ e. next-true order floor w (up (next-fact (below33 order) floor w e)))
  where
    down : Next order floor w → Next (below33 order) floor w
    down n =
        let f = n.fine in
        let k : class_of w < 32 = lt_of_not-le (λ y. omega (arith, pow_mono {i = 32} {j = class_of w} y)) in
        record { fine = record { gap = f.gap; class = omega arith; aligned = f.aligned; within = f.within }; after = n.after }

    up : Next (below33 order) floor w → Next order floor w
    up n =
        let f = n.fine in
        record { fine = record { gap = f.gap; class = omega arith; aligned = f.aligned; within = f.within }; after = n.after }

limit : (order floor : ℕ) (ws : List ℕ) → 1 ≤ floor → end_after order floor ws ≡ end_after (below33 order) floor ws
limit order floor [] h = refl
limit order floor (w ∷ ws) h =
    rw (limit-next order floor w h)
    (ap (λ (x : Option ℕ). cond (nextb (below33 order) floor w) x None) (limit order (end_of w) ws (omega (arith, size-pos w))))

-- all the records, of which none stands before the first
pub from_first : (order w : ℕ) (ws : List ℕ) → recordb order w ≡ true → is_some (end_after (below33 order) (end_of w) ws) ≡ recordsb order (w ∷ ws) && apartb 0 (w ∷ ws)
from_first order w ws y =
    rw (y, le-leb 0 (start_of w) (omega arith), ← limit order (end_of w) ws (omega (arith, size-pos w))) (sym (judged order (end_of w) ws))

-- ---- what is gathered

pub record Clean (order words overs masks laps : ℕ) : Type 0 where
  pub gap : gap_of words ≡ 0
  pub class : class_of words < 32
  pub over : overs ≡ 0
  pub low : masks < 2 ^ (order - 1)
  pub apart : laps ≡ 0

pub clean-true : (order words overs masks laps : ℕ) → Clean order words overs masks laps → cleanb order words overs masks laps ≡ true
unfolding cleanb
clean-true order words overs masks laps h =
    simp (eq-eqb _ _ h.gap, lt-ltb _ _ h.class, eq-eqb _ _ h.over, lt-ltb _ _ h.low, eq-eqb _ _ h.apart)

pub clean-fact : (order words overs masks laps : ℕ) → cleanb order words overs masks laps ≡ true → Clean order words overs masks laps
unfolding cleanb
clean-fact order words overs masks laps e =
    let p = both _ _ e in
    let q = both _ _ p.0 in
    let r = both _ _ q.0 in
    let s = both _ _ r.0 in
    record {
      gap = eqb-true _ _ s.0;
      class = ltb-true _ _ s.1;
      over = eqb-true _ _ r.1;
      low = ltb-true _ _ q.1;
      apart = eqb-true _ _ p.1;
    }

-- of a class below 32: the start and the mask or-ed are the last frame of an aligned block
module _ (w m : ℕ) (k : class_of w < 32) (mm : m ≡ mask_of w) where
  mask_is : m ≡ 2 ^ class_of w - 1
  mask_is = let q : class_of w % 32 ≡ class_of w = omega arith in rw q at mm

  over-is : bit_and (start_of w) m ≡ start_of w % 2 ^ class_of w
  over-is = rw mask_is (and_mask _ _)

  mask_lt : m < 2 ^ 32
  mask_lt = omega (arith, mask_is, pow_mono {i = class_of w} {j = 32} (omega arith))

  last-is : bit_and (start_of w) m ≡ 0 → suc (bit_or (start_of w) m) ≡ end_of w
  last-is z = omega (arith, z, mask_is, or_add_and (start_of w) m, size-pos w)

  last-le : bit_and (start_of w) m ≡ 0 → end_of w ≤ 2 ^ 32
  last-le z = omega (arith, last-is z, or_lt 32 (start_of w) m (omega arith) mask_lt)

-- one record w more, of mask m, whose lap with the block before it is l
module _ (order words overs masks laps last w m l : ℕ) (o1 : 1 ≤ order) (o2 : order ≤ 33) (mm : m ≡ mask_of w) (ll : Lap (start_of w) last l) where
  abbrev Before : Type 0
  Before = Clean order words overs masks laps

  abbrev After : Type 0
  After = Clean order (bit_or words w) (bit_or overs (bit_and (start_of w) m)) (bit_or masks m) (laps + l)

  taken : Before → Next (below33 order) (suc last) w → After
  taken c n =
      let f = n.fine in
      let k : class_of w < 32 = omega arith in
      let z : bit_and (start_of w) m ≡ 0 = over-is w m k mm ∙ f.aligned in
      let u : m < 2 ^ (order - 1) = omega (arith, mask_is w m k mm, size-pos w, pow_mono {i = class_of w} {j = order - 1} (omega arith)) in
      record {
        gap = or-gap words w ∙ rw (c.gap, f.gap);
        class = rw (or-class words w) (or_lt 5 (class_of words) (class_of w) c.class k);
        over = rw (c.over, z);
        low = or_lt (order - 1) masks m c.low u;
        apart = omega (arith, c.apart, ll.some n.after);
      }

  left : After → Before × Next (below33 order) (suc last) w × (suc (bit_or (start_of w) m) ≡ end_of w)
  left c =
      let g = or-zero (gap_of words) (gap_of w) (sym (or-gap words w) ∙ c.gap) in
      let d = or-le (class_of words) (class_of w) in
      let dd = or-class words w in
      let k : class_of w < 32 = omega (arith, c.class) in
      let v = or-zero overs (bit_and (start_of w) m) c.over in
      let z : bit_and (start_of w) m ≡ 0 = v.1 in
      let s = or-le masks m in
      let j : class_of w < order = lt_of_not-le (λ y. omega (arith, c.low, mask_is w m k mm, pow-lt {i = order - 1} {j = class_of w} (omega arith))) in (
        record { gap = g.0; class = omega (arith, c.class); over = v.0; low = omega (arith, c.low); apart = omega (arith, c.apart) },
        record {
          fine = record { gap = g.1; class = omega arith; aligned = sym (over-is w m k mm) ∙ z; within = last-le w m k mm z };
          after = ll.none (omega (arith, c.apart));
        },
        last-is w m k mm z,
      )

  pub row_more : (ws : List ℕ) → cond (cleanb order words overs masks laps) (end_after (below33 order) (suc last) (w ∷ ws)) None
      ≡ cond (cleanb order (bit_or words w) (bit_or overs (bit_and (start_of w) m)) (bit_or masks m) (laps + l)) (end_after (below33 order) (suc (bit_or (start_of w) m)) ws) None
  row_more ws = go (cleanb order words overs masks laps) refl (cleanb order (bit_or words w) (bit_or overs (bit_and (start_of w) m)) (bit_or masks m) (laps + l)) refl
    where
      go : (b : Bool) → cleanb order words overs masks laps ≡ b
          → (a : Bool) → cleanb order (bit_or words w) (bit_or overs (bit_and (start_of w) m)) (bit_or masks m) (laps + l) ≡ a
          → cond b (cond (nextb (below33 order) (suc last) w) (end_after (below33 order) (end_of w) ws) None) None ≡ cond a (end_after (below33 order) (suc (bit_or (start_of w) m)) ws) None
      go false p false q = refl
      go false p true q = absurd (clash (clean-true _ _ _ _ _ (left (clean-fact _ _ _ _ _ q)).0) p)
      go true p true q =
          let x = left (clean-fact _ _ _ _ _ q) in
          rw (next-true (below33 order) (suc last) w x.1, x.2)
      go true p false q = rw (next-no (below33 order) (suc last) w (λ n. clash (clean-true _ _ _ _ _ (taken (clean-fact _ _ _ _ _ p) n)) q)) refl

-- a turn of the loop, with what the calls gave: s the start, m the mask, l the lap
pub row-turn : (order : ℕ) (ws : List ℕ) (i words overs masks laps last s m l : ℕ) → 1 ≤ order → order ≤ 33 → i < length ws
    → s ≡ start_of (get_or ws i 0) → m ≡ mask_of (get_or ws i 0) → Lap s last l
    → cond (cleanb order words overs masks laps) (end_after (below33 order) (suc last) (drop i ws)) None
    ≡ cond (cleanb order (bit_or words (get_or ws i 0)) (bit_or overs (bit_and s m)) (bit_or masks m) (laps + l))
    (end_after (below33 order) (suc (bit_or s m)) (drop (i + 1) ws)) None
row-turn order ws i words overs masks laps last s m l o1 o2 h es em ol =
    rw (add-one, drop-cons ws i 0, es)
    (row_more order words overs masks laps last (get_or ws i 0) m l o1 o2 em (rw es at ol) (drop (suc i) ws))

-- nothing is gathered yet
pub row_first : (order floor : ℕ) (ws : List ℕ) → 1 ≤ floor
    → cond (cleanb order 0 0 0 0) (end_after (below33 order) (suc (floor - 1)) ws) None ≡ end_after (below33 order) floor ws
row_first order floor ws h =
    let q : suc (floor - 1) ≡ floor = omega arith in
    rw (q, clean-true order 0 0 0 0 (record { gap = refl; class = omega arith; over = refl; low = pow_pos (order - 1); apart = refl }))

-- all is gathered
pub row_last : (order i last : ℕ) (ws : List ℕ) (b : Bool) → length ws ≤ i
    → cond b (end_after (below33 order) (suc last) (drop i ws)) None ≡ cond b (Some (last + 1)) None
row_last order i last ws b h = rw (drop_all i ws h, add-one)
