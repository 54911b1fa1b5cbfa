-- Releasing: the buddy, where it is free, is the neighbour in the list, so that joining widens one gap. Assumes nothing.
use mathlib.Core.Path.{◌≡◌, refl, ap, ◌∙◌}
use mathlib.Core.Bool.{Bool, true, false, ◌&&◌}
use mathlib.Core.List.{List, [], ◌∷◌, ◌++◌, append_assoc}
use Prim.Native.Nat.{ℕ, suc, ◌+◌, ◌-◌, ◌^◌, ◌≤◌, min}
use native.Mathlib.Omega.{arith}
use lib.Pow.{pow_pos}
use lib.Dec.{eqb}
use borrow.Author.Tests.{eq-eqb}
use Rattle.blocks.specs.Blocks.{buddy_of}
use Rattle.rules.specs.Rules.{Block, blk, start, end, Sound, next, is_free, is_granted, some, joined, released}
use Rattle.rules.proofs.Lists.{Below, Above, none_below, none_above, Misses, none-misses, sound-above, insert-at, free-picks, granted-picks, misses-below, misses-above, some-misses, misses-append, some_at, without_at, stands}

self : (m : Bool) → m ≡ true → (k s : ℕ) → (m && eqb k k && eqb s s) ≡ true
self m e k s = rw (e, eq-eqb k k refl, eq-eqb s s refl) refl

-- where the buddy is not free, the block is put between its neighbours
put : (n k s : ℕ) (xs ys : List Block) → some (is_free k (buddy_of k s)) (xs ++ ys) ≡ false → Below s xs → Above (s + 2 ^ k) ys
    → joined (suc n) k s (xs ++ ys) ≡ xs ++ (blk false k s ∷ ys)
unfolding joined
put n k s xs ys e b a = rw (e, joined) (insert-at xs false k s ys b a (omega (arith, pow_pos k)))

-- in the top class nothing is joined
pub join-top : (k s : ℕ) (xs ys : List Block) → Below s xs → Above (s + 2 ^ k) ys → joined 0 k s (xs ++ ys) ≡ xs ++ (blk false k s ∷ ys)
unfolding joined
join-top k s xs ys b a = insert-at xs false k s ys b a (omega (arith, pow_pos k))

-- where the one block x that may be the buddy is, it is joined; where it is another, nothing is
take_out : (n k s : ℕ) (xs : List Block) (x : Block) (ys : List Block) → is_free k (buddy_of k s) x ≡ true
    → Misses (is_free k (buddy_of k s)) xs → Misses (is_free k (buddy_of k s)) ys
    → joined (suc n) k s (xs ++ (x ∷ ys)) ≡ joined n (suc k) (min s (buddy_of k s)) (xs ++ ys)
unfolding joined
take_out n k s xs x ys e m l =
    let p : Block → Bool = is_free k (buddy_of k s) in
    rw (some_at p x m l ∙ e, joined) (ap (λ (r : List Block). joined n (suc k) (min s (buddy_of k s)) r) (without_at p x e m l))

-- ---- the buddy above: it can only be the first block of ys

module _ (n k s : ℕ) (xs : List Block) (up : buddy_of k s ≡ s + 2 ^ k) (before : Below s xs) where
  others_below : Misses (is_free k (buddy_of k s)) xs
  others_below = misses-below (is_free k (buddy_of k s)) k (buddy_of k s) (free-picks k (buddy_of k s)) before (omega (arith, up, pow_pos k))

  others-after : {top j t : ℕ} {g : Bool} {zs : List Block} → Sound top (s + 2 ^ k) (blk g j t ∷ zs) → Misses (is_free k (buddy_of k s)) zs
  others-after (next {k = j} l h a e r) =
      misses-above (is_free k (buddy_of k s)) k (buddy_of k s) (free-picks k (buddy_of k s)) (sound-above r) (omega (arith, up, pow_pos j))

  pub join-above : {top : ℕ} (zs : List Block) → Sound top (s + 2 ^ k) (blk false k (buddy_of k s) ∷ zs)
      → joined (suc n) k s (xs ++ (blk false k (buddy_of k s) ∷ zs)) ≡ joined n (suc k) s (xs ++ zs)
  join-above zs r =
      let m : min s (buddy_of k s) ≡ s = omega (arith, up) in
      take_out n k s xs (blk false k (buddy_of k s)) zs (self true refl k (buddy_of k s)) others_below (others-after r)
      ∙ ap (λ (x : ℕ). joined n (suc k) x (xs ++ zs)) m

  pub stop-above : {top : ℕ} (y : Block) (zs : List Block) → Sound top (s + 2 ^ k) (y ∷ zs) → is_free k (buddy_of k s) y ≡ false
      → joined (suc n) k s (xs ++ (y ∷ zs)) ≡ xs ++ (blk false k s ∷ (y ∷ zs))
  stop-above (blk g j t) zs r e =
      put n k s xs (blk g j t ∷ zs) (some_at (is_free k (buddy_of k s)) (blk g j t) others_below (others-after r) ∙ e) before (sound-above r)

  pub stop-at-end : joined (suc n) k s (xs ++ []) ≡ xs ++ (blk false k s ∷ [])
  stop-at-end = put n k s xs [] (some-misses (is_free k (buddy_of k s)) (misses-append (is_free k (buddy_of k s)) others_below none-misses)) before none_above

-- ---- the buddy below: it can only be the last block of xs

module _ (n k s : ℕ) (ys : List Block) (down : s ≡ buddy_of k s + 2 ^ k) (after : Above (s + 2 ^ k) ys) where
  others-above : Misses (is_free k (buddy_of k s)) ys
  others-above = misses-above (is_free k (buddy_of k s)) k (buddy_of k s) (free-picks k (buddy_of k s)) after (omega (arith, down, pow_pos k))

  others-before : (j : ℕ) {t : ℕ} {zs : List Block} → Below t zs → t + 2 ^ j ≤ s → Misses (is_free k (buddy_of k s)) zs
  others-before j b e =
      misses-below (is_free k (buddy_of k s)) k (buddy_of k s) (free-picks k (buddy_of k s)) b (omega (arith, down, pow_pos j))

  pub join-below : (zs : List Block) → Below (buddy_of k s) zs
      → joined (suc n) k s ((zs ++ (blk false k (buddy_of k s) ∷ [])) ++ ys) ≡ joined n (suc k) (buddy_of k s) (zs ++ ys)
  join-below zs b =
      let m : min s (buddy_of k s) ≡ buddy_of k s = omega (arith, down) in
      ap (λ (r : List Block). joined (suc n) k s r) (append_assoc zs (blk false k (buddy_of k s) ∷ []) ys)
      ∙ take_out n k s zs (blk false k (buddy_of k s)) ys (self true refl k (buddy_of k s)) (others-before k b (omega (arith, down))) others-above
      ∙ ap (λ (x : ℕ). joined n (suc k) x (zs ++ ys)) m

  pub stop-below : (zs : List Block) (x : Block) → Below (start x) zs → end x ≤ s → is_free k (buddy_of k s) x ≡ false → Below s (zs ++ (x ∷ []))
      → joined (suc n) k s ((zs ++ (x ∷ [])) ++ ys) ≡ (zs ++ (x ∷ [])) ++ (blk false k s ∷ ys)
  stop-below zs (blk g j t) b l e w =
      put n k s (zs ++ (blk g j t ∷ [])) ys
      (ap (λ (r : List Block). some (is_free k (buddy_of k s)) r) (append_assoc zs (blk g j t ∷ []) ys)
      ∙ some_at (is_free k (buddy_of k s)) (blk g j t) (others-before j b l) others-above ∙ e)
      w after

  pub stop-at-start : joined (suc n) k s ([] ++ ys) ≡ [] ++ (blk false k s ∷ ys)
  stop-at-start = put n k s [] ys (some-misses (is_free k (buddy_of k s)) others-above) none_below after

-- ---- the granted block itself is taken out of its place

pub taken_out : {top f : ℕ} (xs : List Block) (k s : ℕ) (ys : List Block) → Sound top f (xs ++ (blk true k s ∷ ys))
    → released top k s (xs ++ (blk true k s ∷ ys)) ≡ joined (top - k) k s (xs ++ ys)
unfolding released
taken_out {top} xs k s ys r =
    let w = stands xs (blk true k s) ys r in
    let p : Block → Bool = is_granted k s in
    ap (λ (l : List Block). joined (top - k) k s l)
    (without_at p (blk true k s) (self true refl k s)
    (misses-below p k s (granted-picks k s) w.before (omega (arith, pow_pos k)))
    (misses-above p k s (granted-picks k s) (sound-above w.after) (omega (arith, pow_pos k))))
