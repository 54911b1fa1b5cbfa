-- Halving a block towards a run, one class at a time. Assumes nothing.
use mathlib.Core.Path.{◌≡◌, refl}
use mathlib.Core.Bool.{Bool, true, false}
use mathlib.Core.List.{[], ◌∷◌, ◌++◌}
use Prim.Native.Nat.{ℕ, zero, suc, ◌+◌, ◌-◌, ◌^◌, ◌≤◌, ◌<◌}
use native.Mathlib.Omega.{arith}
use lib.Dec.{leb, ltb}
use lib.ListN.{length, length-append}
use borrow.Author.Tests.{leb-true, leb-false, le-leb, lt-leb, lt-ltb, le-ltb}
use Rattle.rules.specs.Rules.{blk, towards}

-- the run lies in the lower half: the upper one is freed
pub halve-low : (i c run t : ℕ) → c ≤ i → run < t + 2 ^ i → towards (suc i) c run t ≡ towards i c run t ++ (blk false i (t + 2 ^ i) ∷ [])
unfolding towards
halve-low i c run t h l = rw (le-leb c i h, lt-ltb run (t + 2 ^ i) l, towards) refl

-- the run lies in the upper half: the lower one is freed
pub halve-high : (i c run t : ℕ) → c ≤ i → t + 2 ^ i ≤ run → towards (suc i) c run t ≡ blk false i t ∷ towards i c run (t + 2 ^ i)
unfolding towards
halve-high i c run t h l = rw (le-leb c i h, le-ltb run (t + 2 ^ i) l, towards) refl

-- the class fits
pub halve-done : (c run t : ℕ) → towards c c run t ≡ blk true c t ∷ []
unfolding towards
halve-done zero run t = refl
halve-done (suc c) run t = rw (lt-leb (suc c) c (omega arith), towards) refl

-- a block for each class that was halved, and the run
pub length-towards : (j c run t : ℕ) → c ≤ j → length (towards j c run t) ≡ suc (j - c)
unfolding towards
length-towards zero c run t h = let e : 0 - c ≡ 0 = omega arith in rw e refl
length-towards (suc i) c run t h =
    go (leb c i) refl (ltb run (t + 2 ^ i)) refl (length-towards i c run t) (length-towards i c run (t + 2 ^ i))
  where
    go : (a : Bool) → leb c i ≡ a → (b : Bool) → ltb run (t + 2 ^ i) ≡ b → (c ≤ i → length (towards i c run t) ≡ suc (i - c))
        → (c ≤ i → length (towards i c run (t + 2 ^ i)) ≡ suc (i - c)) → length (towards (suc i) c run t) ≡ suc (suc i - c)
    go true e true f x y =
        let l : c ≤ i = leb-true c i e in
        rw (e, f, towards, length-append) (omega (arith, x l))
    go true e false f x y =
        let l : c ≤ i = leb-true c i e in
        rw (e, f, towards) (omega (arith, y l))
    go false e b f x y = rw (e, towards) (omega (arith, leb-false c i e))
