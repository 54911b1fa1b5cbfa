-- Adding: the pieces of a range, one after the other, and where they stand in the list. Assumes nothing.
use mathlib.Core.Path.{◌≡◌, refl, ap, ◌∙◌}
use mathlib.Core.Bool.{Bool, true, false, ◌&&◌, and-false, or-true}
use mathlib.Core.List.{List, [], ◌∷◌, ◌++◌}
use Prim.Native.Nat.{ℕ, zero, suc, ◌+◌, ◌-◌, ◌^◌, ◌≤◌, ◌<◌}
use native.Mathlib.Omega.{arith}
use lib.Dec.{eqb, ltb}
use borrow.Author.Tests.{ne_eqb, lt-ltb, le-ltb}
use Rattle.blocks.specs.Blocks.{piece_size, size_class}
use Rattle.rules.specs.Rules.{Block, blk, start, end, some, insert, insert_all, cut_from, cut, added, overlaps}
pub use Rattle.rules.proofs.Pieces.{Range, rest-range}
use Rattle.rules.proofs.Pieces.{piece-fits}
use Rattle.rules.proofs.Lists.{Below, none_below, and_below, Above, none_above, and_above, above-le, below-le, Misses, none-misses, and-misses, some-misses, misses-append, insert-at}

-- ---- the pieces one by one

-- any number of turns that is enough gives the same pieces
turns_same : (t u top s n : ℕ) → Range top s n → n ≤ t → n ≤ u → cut_from t top s n ≡ cut_from u top s n
unfolding cut_from
turns_same zero zero top s n r h g = refl
turns_same zero (suc u) top s n r h g = let e : n ≡ 0 = omega arith in rw e refl
turns_same (suc t) zero top s n r h g = let e : n ≡ 0 = omega arith in rw e refl
turns_same (suc t) (suc u) top s zero r h g = refl
turns_same (suc t) (suc u) top s (suc n) r h g =
    let p : ℕ = piece_size top s (suc n) in
    let w = piece-fits r (omega arith) in
    let z : eqb (suc n) 0 ≡ false = ne_eqb (suc n) 0 (λ e. omega arith) in
    rw (z, cut_from)
    (ap (λ (l : List Block). blk false (size_class p) s ∷ l)
    (turns_same t u top (s + p) (suc n - p) (rest-range r (omega arith)) (omega (arith, w.never_0)) (omega (arith, w.never_0))))

-- the pieces of n frames from s on, with as many turns as there are frames
abbrev pub pieces_of : ℕ → ℕ → ℕ → List Block
pieces_of top s n = cut_from n top s n

pub cut-none : (top s : ℕ) → pieces_of top s 0 ≡ []
unfolding cut_from
cut-none top s = refl

pub cut_step : (top s n : ℕ) → Range top s n → 0 < n
    → pieces_of top s n ≡ blk false (size_class (piece_size top s n)) s ∷ pieces_of top (s + piece_size top s n) (n - piece_size top s n)
unfolding cut_from
cut_step top s zero r h = absurd (omega arith)
cut_step top s (suc n) r h =
    let p : ℕ = piece_size top s (suc n) in
    let w = piece-fits r h in
    let z : eqb (suc n) 0 ≡ false = ne_eqb (suc n) 0 (λ e. omega arith) in
    rw (z, cut_from)
    (ap (λ (l : List Block). blk false (size_class p) s ∷ l)
    (turns_same n (suc n - p) top (s + p) (suc n - p) (rest-range r h) (omega (arith, w.never_0)) (omega arith)))

-- ---- the pieces in their place

-- the pieces start at s or later
cut-above : (t top s n : ℕ) → Range top s n → Above s (cut_from t top s n)
unfolding cut_from
cut-above zero top s n r = none_above
cut-above (suc t) top s zero r = none_above
cut-above (suc t) top s (suc n) r =
    let p : ℕ = piece_size top s (suc n) in
    let z : eqb (suc n) 0 ≡ false = ne_eqb (suc n) 0 (λ e. omega arith) in
    let l : s ≤ s = omega arith in
    let m : s ≤ s + p = omega arith in
    rw (z, cut_from) (and_above l (above-le m (cut-above t top (s + p) (suc n - p) (rest-range r (omega arith)))))

above-append : {e : ℕ} {xs ys : List Block} → Above e xs → Above e ys → Above e (xs ++ ys)
above-append none_above b = b
above-append (and_above l a) b = and_above l (above-append a b)

-- a list that has nothing in [s, s + n) takes the pieces where they belong
pub insert-pieces : (t top s n : ℕ) (xs ys : List Block) → Range top s n → Below s xs → Above (s + n) ys
    → insert_all (cut_from t top s n) (xs ++ ys) ≡ xs ++ (cut_from t top s n ++ ys)
unfolding cut_from
insert-pieces zero top s n xs ys r b a = refl
insert-pieces (suc t) top s zero xs ys r b a = refl
insert-pieces (suc t) top s (suc n) xs ys r b a =
    let p : ℕ = piece_size top s (suc n) in
    let w = piece-fits r (omega arith) in
    let z : eqb (suc n) 0 ≡ false = ne_eqb (suc n) 0 (λ e. omega arith) in
    let q : Range top (s + p) (suc n - p) = rest-range r (omega arith) in
    let f : s + p + (suc n - p) ≤ s + suc n = omega (arith, w.within) in
    let g : s ≤ s + p = omega arith in
    let k : s + p ≤ s + suc n = omega (arith, w.within) in
    let l : List Block = cut_from t top (s + p) (suc n - p) in
    rw (z, cut_from)
    (ap (insert (blk false (size_class p) s)) (insert-pieces t top (s + p) (suc n - p) xs ys q (below-le g b) (above-le f a))
    ∙ insert-at xs false (size_class p) s (l ++ ys) b (above-append (cut-above t top (s + p) (suc n - p) q) (above-le k a)) (omega (arith, w.never_0)))

pub added-at : (top s e : ℕ) (xs ys : List Block) → s ≤ e → e ≤ 2 ^ 32 → top ≤ 32 → Below s xs → Above e ys
    → added top s e (xs ++ ys) ≡ xs ++ (pieces_of top s (e - s) ++ ys)
unfolding added cut
added-at top s e xs ys h l t b a =
    let r : Range top s (e - s) = record { order = t; within = omega arith } in
    let f : s + (e - s) ≤ e = omega arith in
    insert-pieces (e - s) top s (e - s) xs ys r b (above-le f a)

-- ---- overlap

pub apart_below : (s e : ℕ) {xs : List Block} → Below s xs → Misses (overlaps s e) xs
apart_below s e none_below = none-misses
apart_below s e (and_below {g} {k = j} {s = t} l b) =
    let n : overlaps s e (blk g j t) ≡ false = rw (le-ltb s (t + 2 ^ j) l) (and-false (ltb s e && ltb t e)) in
    and-misses n (apart_below s e b)

pub apart_above : (s e : ℕ) {ys : List Block} → Above e ys → Misses (overlaps s e) ys
apart_above s e none_above = none-misses
apart_above s e (and_above {g} {k = j} {s = t} l b) =
    let n : overlaps s e (blk g j t) ≡ false = rw (le-ltb t e l) (ap (λ (x : Bool). x && ltb s (t + 2 ^ j)) (and-false (ltb s e))) in
    and-misses n (apart_above s e b)

pub apart : (s e : ℕ) {xs ys : List Block} → Below s xs → Above e ys → some (overlaps s e) (xs ++ ys) ≡ false
apart s e b a = some-misses (overlaps s e) (misses-append (overlaps s e) (apart_below s e b) (apart_above s e a))

pub some-true : (p : Block → Bool) (xs : List Block) (b : Block) (ys : List Block) → p b ≡ true → some p (xs ++ (b ∷ ys)) ≡ true
some-true p [] b ys e = rw e refl
some-true p (x ∷ xs) b ys e = rw (some-true p xs b ys e) (or-true (p x))

pub overlap-at : (s e : ℕ) (xs : List Block) (b : Block) (ys : List Block) → s < e → start b < e → s < end b → some (overlaps s e) (xs ++ (b ∷ ys)) ≡ true
overlap-at s e xs b ys h l g = some-true (overlaps s e) xs b ys (rw (lt-ltb s e h, lt-ltb (start b) e l, lt-ltb s (end b) g) refl)
