-- The members of a list of blocks: what a sound list says of them, and which a list has after one is put in or taken out. Assumes nothing.
use mathlib.Core.Path.{◌≡◌, refl, sym, ap, ap₂, ◌∙◌}
use mathlib.Core.Logic.{◌⊎◌, ◌↔◌, inl, inr, ⊎_elim}
use mathlib.Core.Bool.{Bool, true, false, true≢false, or-true}
use mathlib.Core.List.Memᴰ
use mathlib.Core.List.{List, [], ◌∷◌}
use Prim.Native.Nat.{ℕ, zero, suc, ◌+◌, ◌^◌, ◌≤◌, ◌<◌}
use native.Mathlib.Omega.{arith}
use native.Mathlib.Nat.{lt_of_not-le}
use lib.Pow.{pow_pos}
use lib.Dec.{ltb}
use lib.ListN.{length}
use borrow.Author.Tests.{ltb-true, ltb-false}
use Rattle.rules.specs.Aligned.{Aligned, Meets}
use Rattle.rules.specs.Largest.{Tidy}
use Rattle.rules.specs.Rules.{Block, blk, start, Sound, none, next, some, without, insert, block_at}
use Rattle.rules.specs.Managed.{◌∈◌, Free, Is}
use Rattle.rules.proofs.Lists.{Below, none_below, and_below}

-- ---- equal blocks

pub is_block : {g h : Bool} {k s j t : ℕ} → blk h j t ≡ blk g k s → Is k s j t
is_block e = record { class = cc; start = cc }

pub same_block : {g : Bool} {k s j t : ℕ} → Is k s j t → blk g j t ≡ blk g k s
same_block i = cc

-- no block is both granted and free
pub marks-differ : {k s j t : ℕ} → blk true j t ≡ blk false k s → ⊥
marks-differ e = let z : true ≡ false = cc in true≢false z

-- the block at a place is a member
pub at_place : (i : ℕ) (bs : List Block) → i < length bs → block_at i bs ∈ bs
at_place i [] h = absurd (omega arith)
at_place zero (b ∷ bs) h = Memᴰ.head refl
at_place (suc i) (b ∷ bs) h = Memᴰ.tail (at_place i bs (omega arith))

-- ---- a sound list

pub member-low : {top f : ℕ} {bs : List Block} {g : Bool} {k s : ℕ} → Sound top f bs → blk g k s ∈ bs → f ≤ s
member-low none m = absurd (Memᴰ.not-nil m)
member-low {s} (next {s = t} l h a e r) (Memᴰ.head q) = let p : s ≡ t = cc in omega arith
member-low (next l h a e r) (Memᴰ.tail m) = omega (arith, member-low r m)

pub below-member : {f : ℕ} {bs : List Block} {g : Bool} {k s : ℕ} → Below f bs → blk g k s ∈ bs → s + 2 ^ k ≤ f
below-member none_below m = absurd (Memᴰ.not-nil m)
below-member {k} {s} (and_below {k = j} {s = t} l b) (Memᴰ.head q) =
    let p : s ≡ t = cc in
    let c : k ≡ j = cc in
    omega (arith, ap (λ (x : ℕ). 2 ^ x) c)
below-member (and_below l b) (Memᴰ.tail m) = below-member b m

-- what a sound list asks of each of its blocks
pub record Fits (top k s : ℕ) : Type 0 where
  pub small : k ≤ top
  pub aligned : Aligned k s
  pub within : s + 2 ^ k ≤ 2 ^ 32

pub member-fits : {top f : ℕ} {bs : List Block} {g : Bool} {k s : ℕ} → Sound top f bs → blk g k s ∈ bs → Fits top k s
member-fits none m = absurd (Memᴰ.not-nil m)
member-fits {top} {k} {s} (next {k = j} {s = t} l h a e r) (Memᴰ.head q) =
    let p : t ≡ s = cc in
    let c : j ≡ k = cc in
    rw (sym p, sym c) (record { small = h; aligned = a; within = e })
member-fits (next l h a e r) (Memᴰ.tail m) = member-fits r m

-- two of its blocks with a frame in common are one
pub members-apart : {top f : ℕ} {bs : List Block} {g h : Bool} {j t k s : ℕ} → Sound top f bs → blk g j t ∈ bs → blk h k s ∈ bs → Meets j t k s
    → blk g j t ≡ blk h k s
members-apart none a b m = absurd (Memᴰ.not-nil a)
members-apart (next l h a e r) (Memᴰ.head p) (Memᴰ.head q) m = p ∙ sym q
members-apart {j} {t} (next {k = n} {s = u} l h a e r) (Memᴰ.head p) (Memᴰ.tail y) m =
    let c : j ≡ n = cc in
    let q : t ≡ u = cc in
    absurd (omega (arith, member-low r y, ap (λ (x : ℕ). 2 ^ x) c))
members-apart {k} {s} (next {k = n} {s = u} l h a e r) (Memᴰ.tail x) (Memᴰ.head p) m =
    let c : k ≡ n = cc in
    let q : s ≡ u = cc in
    absurd (omega (arith, member-low r x, ap (λ (x : ℕ). 2 ^ x) c))
members-apart (next l h a e r) (Memᴰ.tail x) (Memᴰ.tail y) m = members-apart r x y m

pub tidy : {top f : ℕ} {bs : List Block} → Sound top f bs → Tidy top (Free bs)
tidy r = record {
  small = λ b. (member-fits r b).small;
  aligned = λ b. (member-fits r b).aligned;
  apart = λ a b m. let i = is_block (members-apart r a b m) in (i.class, i.start);
}

-- ---- the order of a sound list is that of its blocks: two sound lists with the same members are the same list

-- what stands after the head of one list and is in the other stands after its head
after-head : {top f : ℕ} {g i : Bool} {k s j t : ℕ} {bs cs : List Block} → Sound top f (blk g k s ∷ bs) → blk g k s ≡ blk i j t
    → ((y : Block) → y ∈ (blk g k s ∷ bs) → y ∈ (blk i j t ∷ cs)) → (y : Block) → y ∈ bs → y ∈ cs
after-head {i} {k} {s} {j} {t} {cs} (next l h a w r) e f (blk o n u) m = pick (Memᴰ.cases_cons (f (blk o n u) (Memᴰ.tail m)))
  where
    pick : (blk o n u ≡ blk i j t) ⊎ (blk o n u ∈ cs) → blk o n u ∈ cs
    pick (inl q) = let z : s ≡ u = cc in absurd (omega (arith, member-low r m, pow_pos k))
    pick (inr q) = q

tail-sound : {top f : ℕ} {g : Bool} {k s : ℕ} {bs : List Block} → Sound top f (blk g k s ∷ bs) → Sound top (s + 2 ^ k) bs
tail-sound (next l h a w r) = r

pub same-members : {top f e : ℕ} (bs cs : List Block) → Sound top f bs → Sound top e cs → ((b : Block) → b ∈ bs ↔ b ∈ cs) → bs ≡ cs
same-members [] [] r q h = refl
same-members [] (c ∷ cs) r q h = absurd (Memᴰ.not-nil ((h c).1 (Memᴰ.head refl)))
same-members (b ∷ bs) [] r q h = absurd (Memᴰ.not-nil ((h b).0 (Memᴰ.head refl)))
same-members {top} {f = f} {e = e} (blk g k s ∷ bs) (blk i j t ∷ cs) r q h =
    ap₂ ◌∷◌ heads (same-members {f = s + 2 ^ k} {e = t + 2 ^ j} bs cs (tail-sound r) (tail-sound q) (λ b. (after-head r heads (λ y. (h y).0) b, after-head q (sym heads) (λ y. (h y).1) b)))
  where
    pick : (blk g k s ≡ blk i j t) ⊎ (blk g k s ∈ cs) → (blk i j t ≡ blk g k s) ⊎ (blk i j t ∈ bs) → blk g k s ≡ blk i j t
    pick (inl e) m = e
    pick (inr m) (inl e) = sym e
    pick (inr m) (inr n) = absurd (omega (arith, member-low (tail-sound q) m, member-low (tail-sound r) n, pow_pos k, pow_pos j))

    heads : blk g k s ≡ blk i j t
    heads = pick (Memᴰ.cases_cons ((h (blk g k s)).0 (Memᴰ.head refl))) (Memᴰ.cases_cons ((h (blk i j t)).1 (Memᴰ.head refl)))

-- ---- some block passes a test

pub record Passes (p : Block → Bool) (bs : List Block) : Type 0 where
  pub block : Block
  pub member : block ∈ bs
  pub passes : p block ≡ true

pub some-passes : (p : Block → Bool) (bs : List Block) → some p bs ≡ true → Passes p bs
some-passes p [] e = absurd (true≢false (sym e))
some-passes p (b ∷ bs) e = go (p b) refl (some-passes p bs)
  where
    go : (t : Bool) → p b ≡ t → (some p bs ≡ true → Passes p bs) → Passes p (b ∷ bs)
    go true q ih = record { block = b; member = Memᴰ.head refl; passes = q }
    go false q ih = let w = ih (rw q at e) in record { block = w.block; member = Memᴰ.tail w.member; passes = w.passes }

pub some-fails : (p : Block → Bool) {bs : List Block} {b : Block} → some p bs ≡ false → b ∈ bs → p b ≡ false
some-fails p {bs = []} e m = absurd (Memᴰ.not-nil m)
some-fails p {bs = x ∷ bs} {b} e m = go (p x) refl m (λ h. some-fails p {bs = bs} {b = b} h)
  where
    go : (t : Bool) → p x ≡ t → b ∈ (x ∷ bs) → (some p bs ≡ false → b ∈ bs → p b ≡ false) → p b ≡ false
    go true q m ih = absurd (true≢false (rw q at e))
    go false q (Memᴰ.head h) ih = rw h q
    go false q (Memᴰ.tail n) ih = ih (rw q at e) n

pub some-member : (p : Block → Bool) {b : Block} {bs : List Block} → b ∈ bs → p b ≡ true → some p bs ≡ true
some-member p (Memᴰ.head {x} {xs} h) e = let q : p x ≡ true = ap p (sym h) ∙ e in rw q refl
some-member p (Memᴰ.tail {x} {xs} m) e = rw (some-member p m e) (or-true (p x))

-- ---- one block more

pub in_insert : (b : Block) (bs : List Block) {x : Block} → x ∈ insert b bs → (x ≡ b) ⊎ (x ∈ bs)
in_insert b [] m = Memᴰ.cases_cons m
in_insert b (y ∷ bs) {x} m = go (ltb (start b) (start y)) refl (in_insert b bs)
  where
    later : (x ≡ b) ⊎ (x ∈ bs) → (x ≡ b) ⊎ (x ∈ (y ∷ bs))
    later (inl h) = inl h
    later (inr n) = inr (Memᴰ.tail n)

    go : (t : Bool) → ltb (start b) (start y) ≡ t → (x ∈ insert b bs → (x ≡ b) ⊎ (x ∈ bs)) → (x ≡ b) ⊎ (x ∈ (y ∷ bs))
    go true e ih = Memᴰ.cases_cons (rw (e, insert) at m)
    go false e ih = ⊎_elim (λ h. inr (Memᴰ.head h)) (λ n. later (ih n)) (Memᴰ.cases_cons (rw (e, insert) at m))

pub insert-has : (b : Block) (bs : List Block) {x : Block} → (x ≡ b) ⊎ (x ∈ bs) → x ∈ insert b bs
insert-has b [] (inl e) = Memᴰ.head e
insert-has b [] (inr m) = absurd (Memᴰ.not-nil m)
insert-has b (y ∷ bs) {x} m = go (ltb (start b) (start y)) refl m (λ n. insert-has b bs n)
  where
    go : (t : Bool) → ltb (start b) (start y) ≡ t → (x ≡ b) ⊎ (x ∈ (y ∷ bs)) → ((x ≡ b) ⊎ (x ∈ bs) → x ∈ insert b bs) → x ∈ insert b (y ∷ bs)
    go true e (inl h) ih = rw (e, insert) (Memᴰ.head h)
    go true e (inr n) ih = rw (e, insert) (Memᴰ.tail n)
    go false e (inl h) ih = rw (e, insert) (Memᴰ.tail (ih (inl h)))
    go false e (inr (Memᴰ.head h)) ih = rw (e, insert) (Memᴰ.head h)
    go false e (inr (Memᴰ.tail n)) ih = rw (e, insert) (Memᴰ.tail (ih (inr n)))

-- a block that has no frame of the list leaves it sound where it is put
pub insert-sound : {top f : ℕ} {bs : List Block} (g : Bool) (k s : ℕ) → Sound top f bs → f ≤ s → Fits top k s
    → ((h : Bool) (j t : ℕ) → blk h j t ∈ bs → Meets j t k s → ⊥) → Sound top f (insert (blk g k s) bs)
insert-sound g k s none l w apart = next l w.small w.aligned w.within none
insert-sound {top} {f} g k s (next {g = i} {k = j} {s = t} {bs} m h a e r) l w apart =
    go (ltb s t) refl (λ n. insert-sound g k s r n w (λ i u v y z. apart i u v (Memᴰ.tail y) z))
  where
    go : (b : Bool) → ltb s t ≡ b → (t + 2 ^ j ≤ s → Sound top (t + 2 ^ j) (insert (blk g k s) bs)) → Sound top f (insert (blk g k s) (blk i j t ∷ bs))
    go true q ih =
        let p : s < t = ltb-true s t q in
        let n : s + 2 ^ k ≤ t = omega (arith, lt_of_not-le (λ (z : t < s + 2 ^ k). apart i j t (Memᴰ.head refl) (omega (arith, pow_pos j)))) in
        rw (q, insert) (next l w.small w.aligned w.within (next n h a e r))
    go false q ih =
        let p : t ≤ s = ltb-false s t q in
        let n : t + 2 ^ j ≤ s = omega (arith, lt_of_not-le (λ (z : s < t + 2 ^ j). apart i j t (Memᴰ.head refl) (omega (arith, pow_pos k)))) in
        rw (q, insert) (next m h a e (ih n))

-- ---- the blocks that do not pass a test

pub in_without : (p : Block → Bool) (bs : List Block) {x : Block} → x ∈ without p bs → (x ∈ bs) × (p x ≡ false)
in_without p [] m = absurd (Memᴰ.not-nil m)
in_without p (b ∷ bs) {x} m = go (p b) refl (in_without p bs)
  where
    go : (t : Bool) → p b ≡ t → (x ∈ without p bs → (x ∈ bs) × (p x ≡ false)) → (x ∈ (b ∷ bs)) × (p x ≡ false)
    go true e ih = let w = ih (rw (e, without) at m) in (Memᴰ.tail w.0, w.1)
    go false e ih =
        ⊎_elim (λ h. (Memᴰ.head h, rw h e)) (λ n. let w = ih n in (Memᴰ.tail w.0, w.1)) (Memᴰ.cases_cons (rw (e, without) at m))

pub without-has : (p : Block → Bool) {bs : List Block} {x : Block} → x ∈ bs → p x ≡ false → x ∈ without p bs
without-has p {bs = []} m f = absurd (Memᴰ.not-nil m)
without-has p {bs = b ∷ bs} {x} m f = go (p b) refl m (λ n. without-has p {bs = bs} {x = x} n f)
  where
    go : (t : Bool) → p b ≡ t → x ∈ (b ∷ bs) → (x ∈ bs → x ∈ without p bs) → x ∈ without p (b ∷ bs)
    go true e (Memᴰ.head h) ih = absurd (true≢false (sym e ∙ ap p (sym h) ∙ f))
    go true e (Memᴰ.tail n) ih = rw (e, without) (ih n)
    go false e (Memᴰ.head h) ih = rw (e, without) (Memᴰ.head h)
    go false e (Memᴰ.tail n) ih = rw (e, without) (Memᴰ.tail (ih n))

sound-from : {top e f : ℕ} {bs : List Block} → e ≤ f → Sound top f bs → Sound top e bs
sound-from l none = none
sound-from {e} l (next {s} m h a w r) = let n : e ≤ s = omega arith in next n h a w r

pub without-sound : {top f : ℕ} {bs : List Block} (p : Block → Bool) → Sound top f bs → Sound top f (without p bs)
without-sound p none = none
without-sound {top} {f} p (next {g} {k} {s} {bs} l h a w r) = go (p (blk g k s)) refl (without-sound p r)
  where
    go : (t : Bool) → p (blk g k s) ≡ t → Sound top (s + 2 ^ k) (without p bs) → Sound top f (without p (blk g k s ∷ bs))
    go true e ih = let n : f ≤ s + 2 ^ k = omega arith in rw (e, without) (sound-from n ih)
    go false e ih = rw (e, without) (next l h a w ih)
