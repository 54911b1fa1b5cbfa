-- Looking for a block: what the place of a frame says of the list, and which block a request finds there. Assumes nothing.
use mathlib.Core.Path.{◌≡◌, refl, sym, ap, ◌∙◌}
use mathlib.Core.Bool.{Bool, true, false, not, ◌&&◌, and-false}
use mathlib.Core.List.{List, [], ◌∷◌, ◌++◌, append_assoc}
use Prim.Native.Nat.{ℕ, suc, ◌+◌, ◌^◌, ◌≤◌, ◌<◌}
use native.Mathlib.Omega.{arith}
use native.Mathlib.Nat.{add-zero}
use lib.Pow.{pow_pos}
use lib.Dec.{leb, ltb}
use lib.ListN.{length, take, drop, take-append-drop, length-append}
use lib.Seq.{length-take-le}
use borrow.Author.Tests.{ltb-true, ltb-false, lt-ltb, le-ltb, lt-leb}
use Rattle.rules.specs.Rules.{Block, blk, start, end, Sound, next, is_granted, some, contains, containing, first_from, place_from, place_of, block_at}
use Rattle.std.specs.Prelude.{Some, None}
use Rattle.rules.specs.declared.Place.TheVariants.{Inside, Gap}
use Rattle.rules.proofs.Lists.{Below, none_below, and_below, Above, none_above, and_above, above-le, below-le, sound-above, Stands, split-here, stands_at, clear-from, below-snoc, Misses, none-misses, and-misses, misses-append, misses-below, misses-above, granted-picks, some-misses, some_at}

front : (i : ℕ) (bs : List Block) → i < length bs → length (take i bs) ≡ i
front i bs h = length-take-le i bs (omega arith)

-- ---- the place of a frame

-- after the blocks of xs, which end at or before f
past : (f i : ℕ) (xs ys : List Block) → Below f xs → place_from f i (xs ++ ys) ≡ place_from f (i + length xs) ys
past f i [] ys none_below = rw add-zero refl
past f i (blk g k s ∷ xs) ys (and_below l b) =
    let e : i + 1 + length xs ≡ i + suc (length xs) = omega arith in
    rw (le-ltb f s (omega (arith, pow_pos k)), le-ltb f (s + 2 ^ k) l, place_from) (past f (i + 1) xs ys b ∙ ap (λ (n : ℕ). place_from f n ys) e)

pub place_inside : (f : ℕ) (xs : List Block) (b : Block) (ys : List Block) → Below f xs → start b ≤ f → f < end b → place_of f (xs ++ (b ∷ ys)) ≡ Inside (length xs)
unfolding place_of
place_inside f xs b ys w l h =
    let e : 0 + length xs ≡ length xs = omega arith in
    past f 0 xs (b ∷ ys) w ∙ rw (le-ltb f (start b) l, lt-ltb f (end b) h, place_from) (ap Inside e)

pub place-gap : (f : ℕ) (xs ys : List Block) → Below f xs → Above (suc f) ys → place_of f (xs ++ ys) ≡ Gap (length xs)
unfolding place_of
place-gap f xs ys w a =
    let e : 0 + length xs ≡ length xs = omega arith in
    past f 0 xs ys w ∙ here (0 + length xs) ys a ∙ ap Gap e
  where
    here : (i : ℕ) (zs : List Block) → Above (suc f) zs → place_from f i zs ≡ Gap i
    here i [] none_above = refl
    here i (blk g k s ∷ zs) (and_above l b) = rw (lt-ltb f s (omega arith), place_from) refl

-- ---- the place, found by a search for the number p of blocks that start at or before the frame

module _ {top : ℕ} (f : ℕ) (bs : List Block) (r : Sound top 0 bs) where
  pub found_none : (0 < length bs → f < start (block_at 0 bs)) → place_of f bs ≡ Gap 0
  found_none after = place-gap f [] bs none_below (clear-from (suc f) 0 bs r after)

  module _ (m : ℕ) (h : m < length bs) (low : start (block_at m bs) ≤ f) where
    pub found_inside : f < end (block_at m bs) → place_of f bs ≡ Inside m
    found_inside high =
        ap (place_of f) (split-here m bs h)
        ∙ place_inside f (take m bs) (block_at m bs) (drop (m + 1) bs) (below-le low (stands_at m bs r h).before) low high
        ∙ ap Inside (front m bs h)

    pub found-gap : end (block_at m bs) ≤ f → (m + 1 < length bs → f < start (block_at (m + 1) bs)) → place_of f bs ≡ Gap (m + 1)
    found-gap high after =
        let l : List Block = take m bs ++ (block_at m bs ∷ []) in
        let n : length l ≡ m + 1 = simp length-append (omega (arith, front m bs h)) in
        ap (place_of f) (split-here m bs h ∙ sym (append_assoc (take m bs) (block_at m bs ∷ []) (drop (m + 1) bs)))
        ∙ place-gap f l (drop (m + 1) bs) (below-snoc (take m bs) (block_at m bs) (below-le low (stands_at m bs r h).before) high) (clear-from (suc f) (m + 1) bs r after)
        ∙ ap Gap n

-- ---- what a place says of the list

record InsideFrom (f o i : ℕ) (bs : List Block) : Type 0 where
  n : ℕ
  at : i ≡ o + n
  here : n < length bs
  low : start (block_at n bs) ≤ f
  high : f < end (block_at n bs)

inside-from : (f o i : ℕ) (bs : List Block) → place_from f o bs ≡ Inside i → InsideFrom f o i bs
inside-from f o i [] e = let z : ◌≡◌ {A = ℕ} 0 1 = cc in absurd (omega arith)
inside-from f o i (b ∷ bs) e = go (ltb f (start b)) refl (ltb f (end b)) refl (inside-from f (o + 1) i bs)
  where
    go : (x : Bool) → ltb f (start b) ≡ x → (y : Bool) → ltb f (end b) ≡ y → (place_from f (o + 1) bs ≡ Inside i → InsideFrom f (o + 1) i bs)
        → InsideFrom f o i (b ∷ bs)
    go true p y q ih = let g : Gap o ≡ Inside i = rw (p, place_from) at e in let z : ◌≡◌ {A = ℕ} 0 1 = cc in absurd (omega arith)
    go false p true q ih =
        let g : Inside o ≡ Inside i = rw (p, q, place_from) at e in
        let h : o ≡ i = cc in
        record { n = 0; at = omega arith; here = omega arith; low = ltb-false f (start b) p; high = ltb-true f (end b) q }
    go false p false q ih =
        let w = ih (rw (p, q, place_from) at e) in
        record { n = suc w.n; at = omega (arith, w.at); here = omega (arith, w.here); low = w.low; high = w.high }

record GapFrom (f o i : ℕ) (bs : List Block) : Type 0 where
  n : ℕ
  at : i ≡ o + n
  here : n ≤ length bs
  before : Below f (take n bs)
  after : Above (suc f) (drop n bs)

gap_from : {top floor : ℕ} (f o i : ℕ) (bs : List Block) → Sound top floor bs → place_from f o bs ≡ Gap i → GapFrom f o i bs
gap_from f o i [] r e =
    let h : o ≡ i = cc in
    record { n = 0; at = omega arith; here = omega arith; before = none_below; after = none_above }
gap_from {floor = floor} f o i (blk g k s ∷ bs) (next l h a w r) e = go (ltb f s) refl (ltb f (s + 2 ^ k)) refl (gap_from {floor = s + 2 ^ k} f (o + 1) i bs r)
  where
    go : (x : Bool) → ltb f s ≡ x → (y : Bool) → ltb f (s + 2 ^ k) ≡ y → (place_from f (o + 1) bs ≡ Gap i → GapFrom f (o + 1) i bs)
        → GapFrom f o i (blk g k s ∷ bs)
    go true p y q ih =
        let d : Gap o ≡ Gap i = rw (p, place_from) at e in
        let c : o ≡ i = cc in
        let m : suc f ≤ s = ltb-true f s p in
        let u : suc f ≤ s + 2 ^ k = omega arith in
        record { n = 0; at = omega arith; here = omega arith; before = none_below; after = and_above m (above-le u (sound-above r)) }
    go false p true q ih = let d : Inside o ≡ Gap i = rw (p, q, place_from) at e in let z : ◌≡◌ {A = ℕ} 0 1 = cc in absurd (omega arith)
    go false p false q ih =
        let v = ih (rw (p, q, place_from) at e) in
        record { n = suc v.n; at = omega (arith, v.at); here = omega (arith, v.here); before = and_below (ltb-false f (s + 2 ^ k) q) v.before; after = v.after }

-- the block at i has the frame f: it stands between the blocks before it and those after it
pub record InsideAt (top f i : ℕ) (bs : List Block) : Type 0 where
  pub here : i < length bs
  pub low : start (block_at i bs) ≤ f
  pub high : f < end (block_at i bs)
  pub split : bs ≡ take i bs ++ (block_at i bs ∷ drop (i + 1) bs)
  pub stand : Stands top (take i bs) (block_at i bs) (drop (i + 1) bs)

pub inside_is : {top : ℕ} (f i : ℕ) (bs : List Block) → Sound top 0 bs → place_of f bs ≡ Inside i → InsideAt top f i bs
unfolding place_of
inside_is {top} f i bs r e =
    let w = inside-from f 0 i bs e in
    let a : w.n ≡ i = omega (arith, w.at) in
    let h : i < length bs = omega (arith, w.here) in
    record { here = h; low = rw a at w.low; high = rw a at w.high; split = split-here i bs h; stand = stands_at i bs r h }

-- no block has the frame f: those before i end at or before it, and the others start after it
pub record GapAt (f i : ℕ) (bs : List Block) : Type 0 where
  pub here : i ≤ length bs
  pub before : Below f (take i bs)
  pub after : Above (suc f) (drop i bs)

pub gap_is : {top : ℕ} (f i : ℕ) (bs : List Block) → Sound top 0 bs → place_of f bs ≡ Gap i → GapAt f i bs
unfolding place_of
gap_is f i bs r e =
    let w = gap_from f 0 i bs r e in
    let a : w.n ≡ i = omega (arith, w.at) in
    record { here = omega (arith, w.here); before = rw a at w.before; after = rw a at w.after }

-- ---- the block that contains a run: it can only be the one that has the run's first frame

no-run-below : (c run : ℕ) {xs : List Block} → Below run xs → Misses (contains c run) xs
no-run-below c run none_below = none-misses
no-run-below c run (and_below {g} {k} {s} l b) =
    let n : contains c run (blk g k s) ≡ false = rw (lt-leb (run + 2 ^ c) (s + 2 ^ k) (omega (arith, pow_pos c))) (and-false (not g && leb s run)) in
    and-misses n (no-run-below c run b)

no-run-above : (c run : ℕ) {e : ℕ} {ys : List Block} → Above e ys → run < e → Misses (contains c run) ys
no-run-above c run none_above h = none-misses
no-run-above c run (and_above {g} {k} {s} l a) h =
    let n : contains c run (blk g k s) ≡ false =
    rw (lt-leb s run (omega arith)) (ap (λ (x : Bool). x && leb (run + 2 ^ c) (s + 2 ^ k)) (and-false (not g))) in
    and-misses n (no-run-above c run a h)

first-nowhere : (p : Block → Bool) (i : ℕ) {bs : List Block} → Misses p bs → first_from p i bs ≡ None
first-nowhere p i none-misses = refl
first-nowhere p i (and-misses e m) = rw (e, first_from) (first-nowhere p (i + 1) m)

first_past : (p : Block → Bool) (i : ℕ) {xs : List Block} (ys : List Block) → Misses p xs → first_from p i (xs ++ ys) ≡ first_from p (i + length xs) ys
first_past p i ys none-misses = rw add-zero refl
first_past p i ys (and-misses {bs = xs} e m) =
    let q : i + 1 + length xs ≡ i + suc (length xs) = omega arith in
    rw (e, first_from) (first_past p (i + 1) ys m ∙ ap (λ (n : ℕ). first_from p n ys) q)

module _ {top : ℕ} (c run i : ℕ) (bs : List Block) (w : InsideAt top run i bs) where
  before-run : Misses (contains c run) (take i bs)
  before-run = no-run-below c run (below-le w.low w.stand.before)

  after_run : Misses (contains c run) (drop (i + 1) bs)
  after_run = no-run-above c run (sound-above w.stand.after) w.high

  pub contained : contains c run (block_at i bs) ≡ true → containing c run bs ≡ Some i
  unfolding containing
  contained e =
      let q : 0 + length (take i bs) ≡ i = omega (arith, front i bs w.here) in
      ap (first_from (contains c run) 0) w.split ∙ first_past (contains c run) 0 (block_at i bs ∷ drop (i + 1) bs) before-run
      ∙ rw (e, first_from) (ap Some q)

  pub not-contained : contains c run (block_at i bs) ≡ false → containing c run bs ≡ None
  unfolding containing
  not-contained e =
      ap (first_from (contains c run) 0) w.split
      ∙ first-nowhere (contains c run) 0 (misses-append (contains c run) before-run (and-misses e after_run))

pub none-contains : (c run i : ℕ) (bs : List Block) → GapAt run i bs → containing c run bs ≡ None
unfolding containing
none-contains c run i bs w =
    ap (first_from (contains c run) 0) (sym (take-append-drop i bs))
    ∙ first-nowhere (contains c run) 0 (misses-append (contains c run) (no-run-below c run w.before) (no-run-above c run w.after (omega arith)))

-- ---- the granted block of a start: it can only be the one that has that frame

pub granted-here : {top : ℕ} (c s i : ℕ) (bs : List Block) → InsideAt top s i bs → some (is_granted c s) bs ≡ is_granted c s (block_at i bs)
granted-here c s i bs w =
    ap (some (is_granted c s)) w.split
    ∙ some_at (is_granted c s) (block_at i bs)
    (misses-below (is_granted c s) c s (granted-picks c s) w.stand.before (let l : start (block_at i bs) ≤ s = w.low in omega (arith, pow_pos c)))
    (misses-above (is_granted c s) c s (granted-picks c s) (sound-above w.stand.after) w.high)

pub none-granted : (c s i : ℕ) (bs : List Block) → GapAt s i bs → some (is_granted c s) bs ≡ false
none-granted c s i bs w =
    ap (some (is_granted c s)) (sym (take-append-drop i bs))
    ∙ some-misses (is_granted c s)
    (misses-append (is_granted c s) (misses-below (is_granted c s) c s (granted-picks c s) w.before (omega (arith, pow_pos c)))
    (misses-above (is_granted c s) c s (granted-picks c s) w.after (omega arith)))
