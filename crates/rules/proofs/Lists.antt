-- Lists of blocks in ascending start: where a block stands, is put, is found and is taken out. Assumes nothing.
use mathlib.Core.Path.{◌≡◌, refl, sym, ap}
use mathlib.Core.Bool.{Bool, true, false, not, ◌&&◌, true≢false, or-false}
use mathlib.Core.List.{List, [], ◌∷◌, ◌++◌}
use Prim.Native.Nat.{ℕ, ◌+◌, ◌^◌, ◌≤◌, ◌<◌}
use native.Mathlib.Omega.{arith}
use native.Mathlib.Decide.{dec_lt}
use native.Mathlib.Numerals.{add-one}
use lib.Pow.{pow_pos}
use lib.ListN.{length, take, drop, drop_of_length-le}
use lib.Seq.{split_at, drop-cons}
use lib.Dec.{eqb}
use borrow.Author.Tests.{eqb-true, lt-ltb, le-ltb}
use Rattle.rules.specs.Aligned.{Aligned}
use Rattle.rules.specs.Rules.{Block, blk, class, start, end, Sound, none, next, is_free, is_granted, some, without, insert, block_at}

-- every block of the list ends at or before f; starts at or after f
pub data Below (f : ℕ) : List Block → Type 0 where
  none_below : Below f []
  and_below : {g : Bool} {k s : ℕ} {bs : List Block} → s + 2 ^ k ≤ f → Below f bs → Below f (blk g k s ∷ bs)

pub data Above (f : ℕ) : List Block → Type 0 where
  none_above : Above f []
  and_above : {g : Bool} {k s : ℕ} {bs : List Block} → f ≤ s → Above f bs → Above f (blk g k s ∷ bs)

pub above-le : {e f : ℕ} {bs : List Block} → e ≤ f → Above f bs → Above e bs
above-le h none_above = none_above
above-le {e} h (and_above {s = s} l a) = let m : e ≤ s = omega arith in and_above m (above-le h a)

pub below-le : {e f : ℕ} {bs : List Block} → e ≤ f → Below e bs → Below f bs
below-le h none_below = none_below
below-le {e} {f} h (and_below {k = k} {s = s} l a) = let m : s + 2 ^ k ≤ f = omega arith in and_below m (below-le h a)

pub below-snoc : {f : ℕ} (xs : List Block) (b : Block) → Below f xs → end b ≤ f → Below f (xs ++ (b ∷ []))
below-snoc [] (blk g k s) none_below h = and_below h none_below
below-snoc (x ∷ xs) b (and_below l w) h = and_below l (below-snoc xs b w h)

pub ends-below : {f : ℕ} (xs : List Block) (b : Block) → Below f (xs ++ (b ∷ [])) → end b ≤ f
ends-below [] (blk g k s) (and_below l w) = l
ends-below (x ∷ xs) b (and_below l w) = ends-below xs b w

-- ---- a sound list: what stands before a place lies below it, and what stands after lies above

pub sound-above : {top f : ℕ} {bs : List Block} → Sound top f bs → Above f bs
sound-above none = none_above
sound-above {f = f} (next {k = k} {s = s} l h a e r) = let m : f ≤ s + 2 ^ k = omega arith in and_above l (above-le m (sound-above r))

-- what a list has at a block b between xs and ys
pub record Stands (top : ℕ) (xs : List Block) (b : Block) (ys : List Block) : Type 0 where
  pub before : Below (start b) xs
  pub small : class b ≤ top
  pub aligned : Aligned (class b) (start b)
  pub within : end b ≤ 2 ^ 32
  pub after : Sound top (end b) ys

floor-le : {top f : ℕ} (xs : List Block) (b : Block) (ys : List Block) → Sound top f (xs ++ (b ∷ ys)) → f ≤ start b
floor-le [] (blk g k s) ys (next l h a e r) = l
floor-le {f = f} (blk i j t ∷ xs) b ys (next l h a e r) = omega (arith, floor-le {f = t + 2 ^ j} xs b ys r, pow_pos j)

pub stands : {top f : ℕ} (xs : List Block) (b : Block) (ys : List Block) → Sound top f (xs ++ (b ∷ ys)) → Stands top xs b ys
stands [] (blk g k s) ys (next l h a e r) = record { before = none_below; small = h; aligned = a; within = e; after = r }
stands {f = f} (blk i j t ∷ xs) b ys (next l h a e r) =
    let w = stands {f = t + 2 ^ j} xs b ys r in
    let m : t + 2 ^ j ≤ start b = floor-le xs b ys r in
    record { before = and_below m w.before; small = w.small; aligned = w.aligned; within = w.within; after = w.after }

-- the same at a place i of the list
pub split-here : (i : ℕ) (bs : List Block) → i < length bs → bs ≡ take i bs ++ (block_at i bs ∷ drop (i + 1) bs)
split-here i bs h = rw add-one (split_at bs i (blk false 0 0) h)

pub stands_at : {top : ℕ} (i : ℕ) (bs : List Block) → Sound top 0 bs → i < length bs → Stands top (take i bs) (block_at i bs) (drop (i + 1) bs)
stands_at i bs r h = stands (take i bs) (block_at i bs) (drop (i + 1) bs) (rw (split-here i bs h) at r)

-- from a place on, every block starts at or after e where the first does
pub clear-from : {top : ℕ} (e i : ℕ) (bs : List Block) → Sound top 0 bs → (i < length bs → e ≤ start (block_at i bs)) → Above e (drop i bs)
clear-from {top} e i bs r f = go (dec_lt i (length bs))
  where
    whole : (b : Block) → e ≤ start b → Stands top (take i bs) b (drop (i + 1) bs) → Above e (b ∷ drop (i + 1) bs)
    whole (blk g k t) m v = let u : e ≤ t + 2 ^ k = omega arith in and_above m (above-le u (sound-above v.after))

    go : Dec (i < length bs) → Above e (drop i bs)
    go (yes h) = rw (drop-cons bs i (blk false 0 0) h, ← add-one i) (whole (block_at i bs) (f h) (stands_at i bs r h))
    go (no h) = rw (drop_of_length-le bs {i = i} (omega arith)) none_above

-- ---- putting a block into its place

pub insert-at : {f : ℕ} (xs : List Block) (g : Bool) (k s : ℕ) (ys : List Block) → Below s xs → Above f ys → s < f
    → insert (blk g k s) (xs ++ ys) ≡ xs ++ (blk g k s ∷ ys)
insert-at [] g k s [] b a h = refl
insert-at {f} [] g k s (blk i j t ∷ ys) b (and_above l a) h = rw (lt-ltb s t (omega arith), insert) refl
insert-at (blk i j t ∷ xs) g k s ys (and_below l b) a h =
    rw (le-ltb s t (omega (arith, pow_pos j)), insert) (ap (λ (r : List Block). blk i j t ∷ r) (insert-at xs g k s ys b a h))

-- ---- finding and taking out one block, known by its class and start

-- the test passes at blocks of class k at f alone
abbrev pub Picks : (Block → Bool) → ℕ → ℕ → Type 0
Picks p k f = (g : Bool) (j t : ℕ) → p (blk g j t) ≡ true → (j ≡ k) × (t ≡ f)

pub both : (a b : Bool) → (a && b) ≡ true → (a ≡ true) × (b ≡ true)
both true b e = (refl, e)
both false b e = absurd (true≢false (sym e))

marked : (m : Bool) (j k t f : ℕ) → (m && eqb j k && eqb t f) ≡ true → (j ≡ k) × (t ≡ f)
marked m j k t f e =
    let a = both (m && eqb j k) (eqb t f) e in
    (eqb-true j k (both m (eqb j k) a.0).1, eqb-true t f a.1)

pub free-picks : (k f : ℕ) → Picks (is_free k f) k f
free-picks k f g j t e = marked (not g) j k t f e

pub granted-picks : (k f : ℕ) → Picks (is_granted k f) k f
granted-picks k f g j t e = marked g j k t f e

-- no block of the list passes
pub data Misses (p : Block → Bool) : List Block → Type 0 where
  none-misses : Misses p []
  and-misses : {b : Block} {bs : List Block} → p b ≡ false → Misses p bs → Misses p (b ∷ bs)

not-picked : (p : Block → Bool) (k f : ℕ) → Picks p k f → (g : Bool) (j t : ℕ) → (j ≡ k → t ≡ f → ⊥) → p (blk g j t) ≡ false
not-picked p k f pick g j t h = go (p (blk g j t)) refl
  where
    go : (b : Bool) → p (blk g j t) ≡ b → p (blk g j t) ≡ false
    go true e = absurd (h (pick g j t e).0 (pick g j t e).1)
    go false e = e

-- blocks that end before the wanted one does, and blocks that start after it does, are others
pub misses-below : (p : Block → Bool) (k f : ℕ) {e : ℕ} {xs : List Block} → Picks p k f → Below e xs → e < f + 2 ^ k → Misses p xs
misses-below p k f pick none_below h = none-misses
misses-below p k f pick (and_below {g} {k = j} {s = t} l b) h =
    and-misses (not-picked p k f pick g j t (λ c s. omega (arith, ap (λ (x : ℕ). 2 ^ x) c))) (misses-below p k f pick b h)

pub misses-above : (p : Block → Bool) (k f : ℕ) {e : ℕ} {ys : List Block} → Picks p k f → Above e ys → f < e → Misses p ys
misses-above p k f pick none_above h = none-misses
misses-above p k f pick (and_above {g} {k = j} {s = t} l a) h = and-misses (not-picked p k f pick g j t (λ c s. omega arith)) (misses-above p k f pick a h)

pub some-misses : (p : Block → Bool) {bs : List Block} → Misses p bs → some p bs ≡ false
some-misses p none-misses = refl
some-misses p (and-misses e m) = rw e (some-misses p m)

pub without-misses : (p : Block → Bool) {bs : List Block} → Misses p bs → without p bs ≡ bs
without-misses p none-misses = refl
without-misses p (and-misses {b} e m) = rw (e, without) (ap (λ (r : List Block). b ∷ r) (without-misses p m))

pub misses-append : (p : Block → Bool) {xs ys : List Block} → Misses p xs → Misses p ys → Misses p (xs ++ ys)
misses-append p none-misses n = n
misses-append p (and-misses e m) n = and-misses e (misses-append p m n)

-- the one block that may pass, between two lists that do not: whether it does is found, and if so it is taken out
pub some_at : (p : Block → Bool) {xs ys : List Block} (b : Block) → Misses p xs → Misses p ys → some p (xs ++ (b ∷ ys)) ≡ p b
some_at p b none-misses n = rw (some-misses p n) (or-false (p b))
some_at p b (and-misses e m) n = rw e (some_at p b m n)

pub without_at : (p : Block → Bool) {xs ys : List Block} (b : Block) → p b ≡ true → Misses p xs → Misses p ys → without p (xs ++ (b ∷ ys)) ≡ xs ++ ys
without_at p b t none-misses n = rw (t, without) (without-misses p n)
without_at p b t (and-misses {b = x} e m) n = rw (e, without) (ap (λ (r : List Block). x ∷ r) (without_at p b t m n))
