-- Adding a range that no block meets: its pieces are pushed, as the rules of the lists say. Assumes nothing.
use mathlib.Core.Path.{◌≡◌, refl, ap, ◌∙◌}
use mathlib.Core.Bool.{Bool, true, false, ◌&&◌}
use mathlib.Core.List.{List, [], ◌∷◌, ◌++◌}
use Prim.Native.Nat.{ℕ, zero, suc, ◌+◌, ◌-◌, ◌*◌, ◌%◌, ◌^◌, ◌≤◌, ◌<◌}
use native.Mathlib.Omega.{arith}
use lib.Pow.{pow_pos}
use lib.Dec.{eqb, ltb}
use borrow.Author.Tests.{ne_eqb, lt-ltb, ltb-false}
use Rattle.words.proofs.Tests.{not-either}
use Rattle.blocks.specs.Blocks.{piece_size, size_class}
use Rattle.blocks.specs.Laws.{Piece}
use Rattle.blocks.proofs.Pieces.{piece}
use Rattle.blocks.proofs.Powers.{exp-le, multiple, multiple-le}
use Rattle.blocks.proofs.Rounding.{size-class}
use Rattle.heap_state.specs.Lists.{Memory, push, push_all}
use Rattle.heap_blocks.specs.Sound.{Block, blk}
use Rattle.heap_overlap.specs.Meeting.{meets}
use Rattle.heap_laws.specs.ListRules.{push_l, add_l}
use Rattle.heap_laws.proofs.Shuffles.{◌~◌, same, keep, swap, then, back, bring}
use Rattle.heap_laws.proofs.Placing.{Fits, under, over, Beside, none, next}
use Rattle.heap_laws.proofs.Free.{free_of}
use Rattle.heap_laws.proofs.Managing.{Managed, picked-up, push-managed, push-shuffle}

-- no block has a byte in [s, e)
pub data Clear (s e : ℕ) : List Block → Type 0 where
  nowhere : Clear s e []
  below : {k a : ℕ} {bs : List Block} → a + 2 ^ k ≤ s → Clear s e bs → Clear s e (blk k a ∷ bs)
  above : {k a : ℕ} {bs : List Block} → e ≤ a → Clear s e bs → Clear s e (blk k a ∷ bs)

clear-cons : {s e : ℕ} (k a : ℕ) (bs : List Block) → s < e → ltb a e && ltb s (a + 2 ^ k) ≡ false → Clear s e bs → Clear s e (blk k a ∷ bs)
clear-cons {s} {e} k a bs h q c = go (ltb a e) refl (ltb s (a + 2 ^ k)) refl
  where
    go : (t : Bool) → ltb a e ≡ t → (u : Bool) → ltb s (a + 2 ^ k) ≡ u → Clear s e (blk k a ∷ bs)
    go false f u g = above (ltb-false a e f) c
    go true f false g = below (ltb-false s (a + 2 ^ k) g) c
    go true f true g = absurd (let z : ◌≡◌ {A = ℕ} 0 1 = cc in omega arith)

pub clear : (s e : ℕ) (bs : List Block) → s < e → meets s e bs ≡ false → Clear s e bs
clear s e [] h q = nowhere
clear s e (blk k a ∷ bs) h q =
    let p = not-either (ltb s e && ltb a e && ltb s (a + 2 ^ k)) (meets s e bs) q in
    let f : ltb a e && ltb s (a + 2 ^ k) ≡ false = rw (lt-ltb s e h) at p.0 in
    clear-cons k a bs h f (clear s e bs h p.1)

clear-shuffled : {s e : ℕ} {xs ys : List Block} → xs ~ ys → Clear s e xs → Clear s e ys
clear-shuffled same c = c
clear-shuffled (keep x r) (below h c) = below h (clear-shuffled r c)
clear-shuffled (keep x r) (above h c) = above h (clear-shuffled r c)
clear-shuffled (swap x y) (below h (below g c)) = below g (below h c)
clear-shuffled (swap x y) (below h (above g c)) = above g (below h c)
clear-shuffled (swap x y) (above h (below g c)) = below g (above h c)
clear-shuffled (swap x y) (above h (above g c)) = above g (above h c)
clear-shuffled (then r s) c = clear-shuffled s (clear-shuffled r c)

-- a block in a clear range is beside all
clear-beside : {s e : ℕ} {bs : List Block} (k a : ℕ) → s ≤ a → a + 2 ^ k ≤ e → Clear s e bs → Beside (blk k a) bs
clear-beside k a l h nowhere = none
clear-beside k a l h (below {k = j} {a = b} g c) = let q : b + 2 ^ j ≤ a = omega arith in next (over q) (clear-beside k a l h c)
clear-beside k a l h (above {a = b} g c) = let q : a + 2 ^ k ≤ b = omega arith in next (under q) (clear-beside k a l h c)

-- a part of a clear range is clear
clear-part : {s e s' : ℕ} {bs : List Block} → s ≤ s' → Clear s e bs → Clear s' e bs
clear-part l nowhere = nowhere
clear-part {s'} l (below {k} {a} g c) = let q : a + 2 ^ k ≤ s' = omega arith in below q (clear-part l c)
clear-part l (above g c) = above g (clear-part l c)

-- ---- the pieces

-- c bytes from s on may be cut, in an arena of n words, with the top block of class top
pub record Range (order n top s c : ℕ) : Type 0 where
  pub low : 3 ≤ top
  pub high : top < order
  pub classes : order ≤ 33
  pub small : n ≤ 1048576
  pub above : 0 < s
  pub start : s % 8 ≡ 0
  pub bytes : c % 8 ≡ 0
  pub inside : s + c ≤ n * 8

module _ {order n top s c : ℕ} (r : Range order n top s c) (some : 0 < c) where
  cut : Piece top s c (piece_size top s c)
  cut = piece top s c (omega (arith, r.high, r.classes)) (omega (arith, r.small, r.inside)) some (omega (arith, r.small, r.inside))

  -- the class of the first piece, and what is left
  pub record Cut (q : ℕ) : Type 0 where
    pub size : piece_size top s c ≡ 2 ^ q
    pub class : size_class (piece_size top s c) ≡ q
    pub fits : Fits order (n * 8) q s
    pub within : 2 ^ q ≤ c
    pub rest : Range order n top (s + 2 ^ q) (c - 2 ^ q)

  first-cut : Cut cut.power.class
  first-cut =
      let w = cut in
      let q : ℕ = w.power.class in
      let e : piece_size top s c ≡ 2 ^ q = w.power.is in
      let l : q ≤ top = exp-le q top (omega (arith, w.small, pow_pos top)) in
      let large : 2 ^ 3 ≤ piece_size top s c = w.largest 3 r.low r.start (omega (arith, r.bytes)) in
      let three : 3 ≤ q = exp-le 3 q (omega arith) in
      let eights : 2 ^ q % 2 ^ 3 ≡ 0 = multiple-le 3 q (2 ^ q) three (multiple (2 ^ q) 1 (2 ^ q) (omega arith)) in
      record {
        size = e;
        class = ap size_class e ∙ size-class q (omega (arith, r.high, r.classes));
        fits = record { low = three; high = omega (arith, r.high); aligned = rw e at w.divides; above = r.above; inside = omega (arith, w.within, r.inside) };
        within = omega (arith, w.within);
        rest = record {
          low = r.low;
          high = r.high;
          classes = r.classes;
          small = r.small;
          above = omega (arith, r.above);
          start = omega (arith, r.start);
          bytes = omega (arith, r.bytes, w.within);
          inside = omega (arith, r.inside, w.within);
        };
      }

module _ {order n : ℕ} {others : List Block} where
  -- a piece more is pushed
  one_more : {total : ℕ} {m : Memory} {ls : List (List ℕ)} (s c q : ℕ) → Fits order (n * 8) q s → 2 ^ q ≤ c → Clear s (s + c) (free_of 0 ls ++ others) →
      Managed order n total m ls others →
      Managed order n (total + 2 ^ q) (push q s m) (push_l q s ls) others × Clear (s + 2 ^ q) (s + 2 ^ q + (c - 2 ^ q)) (free_of 0 (push_l q s ls) ++ others)
  one_more {ls} s c q f l free g =
      let g' = picked-up q s f (clear-beside q s (omega arith) (omega arith) free) g in
      let e : s + c ≡ s + 2 ^ q + (c - 2 ^ q) = omega arith in
      let h : s + 2 ^ q ≤ s + 2 ^ q = omega arith in
      let r : (blk q s ∷ (free_of 0 ls ++ others)) ~ (free_of 0 (push_l q s ls) ++ others) =
      then (back (bring (blk q s) (free_of 0 ls) others)) (push-shuffle q s ls others (omega (arith, f.high, g.lists-33, g.classes))) in
      let part : Clear (s + 2 ^ q) (s + c) (free_of 0 ls ++ others) = clear-part (omega arith) free in
      (push-managed q s g', rw e at (clear-shuffled r (below h part)))

  pub add-managed : {total : ℕ} {m : Memory} {ls : List (List ℕ)} (turns top s c : ℕ) → Range order n top s c → c ≤ turns →
      Clear s (s + c) (free_of 0 ls ++ others) →
      Managed order n total m ls others → Managed order n (total + c) (push_all turns top s c m) (add_l turns top s c ls) others
  unfolding push_all add_l
  add-managed {total} zero top s c r h free g = let e : total + c ≡ total = omega arith in rw e g
  add-managed {total} (suc turns) top s zero r h free g = let e : total + 0 ≡ total = omega arith in rw e g
  add-managed {total} {m} {ls} (suc turns) top s (suc c) r h free g =
      let some : 0 < suc c = omega arith in
      let w = first-cut r some in
      let q : ℕ = (cut r some).power.class in
      let z : eqb (suc c) 0 ≡ false = ne_eqb (suc c) 0 (λ e. omega arith) in
      let one = one_more s (suc c) q w.fits w.within free g in
      let e : total + suc c ≡ total + 2 ^ q + (suc c - 2 ^ q) = omega (arith, w.within) in
      rw (z, push_all, add_l, e, w.class, w.size) (add-managed {total = total + 2 ^ q} {m = push q s m} {ls = push_l q s ls} turns top (s + 2 ^ q) (suc c - 2 ^ q) w.rest (omega (arith, pow_pos q)) one.1 one.0)
