-- How many blocks there are afterwards: a release never lacks room. Assumes nothing.
use mathlib.Core.Path.{◌≡◌, refl, sym, ap}
use mathlib.Core.Bool.{Bool, true, false, true≢false}
use mathlib.Core.List.{List, [], ◌∷◌}
use Prim.Native.Nat.{ℕ, zero, suc, ◌-◌, ◌≤◌, ◌<◌, min}
use native.Mathlib.Omega.{arith}
use lib.Dec.{ltb}
use lib.ListN.{length}
use Rattle.blocks.specs.Blocks.{buddy_of}
use Rattle.rules.specs.Rules.{Block, blk, start, is_free, is_granted, some, without, insert, joined, released}

length-insert : (b : Block) (bs : List Block) → length (insert b bs) ≡ suc (length bs)
length-insert b [] = refl
length-insert b (x ∷ bs) = go (ltb (start b) (start x)) refl (length-insert b bs)
  where
    go : (t : Bool) → ltb (start b) (start x) ≡ t → length (insert b bs) ≡ suc (length bs) → length (insert b (x ∷ bs)) ≡ suc (suc (length bs))
    go true e ih = rw (e, insert) refl
    go false e ih = rw (e, insert) (ap suc ih)

length_without : (p : Block → Bool) (bs : List Block) → length (without p bs) ≤ length bs
length_without p [] = omega arith
length_without p (b ∷ bs) = go (p b) refl (length_without p bs)
  where
    go : (t : Bool) → p b ≡ t → length (without p bs) ≤ length bs → length (without p (b ∷ bs)) ≤ suc (length bs)
    go true e ih = rw (e, without) (omega arith)
    go false e ih = rw (e, without) (omega arith)

shorter-without : (p : Block → Bool) (bs : List Block) → some p bs ≡ true → length (without p bs) < length bs
shorter-without p [] e = absurd (true≢false (sym e))
shorter-without p (b ∷ bs) e = go (p b) refl (shorter-without p bs)
  where
    go : (t : Bool) → p b ≡ t → (some p bs ≡ true → length (without p bs) < length bs) → length (without p (b ∷ bs)) < suc (length bs)
    go true q ih = rw (q, without) (omega (arith, length_without p bs))
    go false q ih = let l = ih (rw q at e) in rw (q, without) (omega arith)

length-joined : (n k s : ℕ) (bs : List Block) → length (joined n k s bs) ≤ suc (length bs)
unfolding joined
length-joined zero k s bs = omega (arith, length-insert (blk false k s) bs)
length-joined (suc n) k s bs =
    go (some (is_free k (buddy_of k s)) bs) refl (length-joined n (suc k) (min s (buddy_of k s)) (without (is_free k (buddy_of k s)) bs))
  where
    go : (t : Bool) → some (is_free k (buddy_of k s)) bs ≡ t
        → length (joined n (suc k) (min s (buddy_of k s)) (without (is_free k (buddy_of k s)) bs)) ≤ suc (length (without (is_free k (buddy_of k s)) bs))
        → length (joined (suc n) k s bs) ≤ suc (length bs)
    go true e ih = rw (e, joined) (omega (arith, length_without (is_free k (buddy_of k s)) bs))
    go false e ih = rw (e, joined) (omega (arith, length-insert (blk false k s) bs))

-- "a release therefore never lacks room"
pub released-length : (top k s : ℕ) (bs : List Block) → some (is_granted k s) bs ≡ true → length (released top k s bs) ≤ length bs
unfolding released
released-length top k s bs e =
    omega (arith, length-joined (top - k) k s (without (is_granted k s) bs), shorter-without (is_granted k s) bs e)
