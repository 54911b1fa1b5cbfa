-- A tidy set of blocks in which nothing is left to join has exactly the largest aligned blocks of its frames. Assumes nothing.
use mathlib.Core.Path.{◌≡◌, refl, sym, ap, subst₂}
use mathlib.Core.Logic.{◌⊎◌, ◌↔◌, inl, inr}
use Prim.Native.Nat.{ℕ, zero, suc, ◌+◌, ◌^◌, ◌≤◌, ◌<◌}
use native.Mathlib.Nat.{eq-or-lt_of_le}
use native.Mathlib.Omega.{arith}
use lib.Pow.{pow_pos}
use Rattle.rules.specs.Aligned.{Aligned, Covers, Holds}
use Rattle.blocks.specs.Laws.{Buddies, upper}
use Rattle.rules.specs.Largest.{Covered, Whole, Largest, Tidy, Joined, Held}
use Rattle.rules.specs.Managed.{Is}
use Rattle.rules.proofs.Aligned.{nested, holds-class, meets_at, held-covers, covers-start, holds-meets, lower-half, upper-half, buddies-comm, never-itself}

-- a holder of the same class is the block itself
held_same : {B : ℕ → ℕ → Type 0} {k s : ℕ} (f : Held B k s) → k ≡ f.class → B k s
held_same {B} {k} {s} f e = subst₂ B (sym e) (omega (arith, ap (λ x. 2 ^ x) e)) f.member

-- a block of the set is covered
pub covered-self : {B : ℕ → ℕ → Type 0} {k s : ℕ} → B k s → Whole (Covered B) k s
covered-self {B} {k} {s} b x c = record { class = k; start = s; member = b; covers = c }

module _ (top : ℕ) (B : ℕ → ℕ → Type 0) (tidy : Tidy top B) where
  -- a block of the set that covers a frame of an aligned block of no higher class holds that block
  holder : {j u k s x : ℕ} → B j u → Covers j u x → Covers k s x → Aligned k s → k ≤ j → Held B k s
  holder {j} {u} b f g a l = record { class = j; start = u; member = b; holds = nested (tidy.aligned b) a l (meets_at f g) }

  -- an aligned block up to class top that is wholly covered lies in one block of the set
  pub in_one : Joined top B → (k s : ℕ) → k ≤ top → Aligned k s → Whole (Covered B) k s → Held B k s
  in_one n zero s h a c = one (c s (covers-start zero s))
    where
      one : Covered B s → Held B zero s
      one f = holder f.member f.covers (covers-start zero s) a (omega arith)
  in_one n (suc k) s h a c =
      join (in_one n k s (omega arith) (lower-half a) (λ x f. c x (omega arith))) (in_one n k (s + 2 ^ k) (omega arith) (upper-half a) (λ x f. c x (omega arith)))
    where
      join : Held B k s → Held B k (s + 2 ^ k) → Held B (suc k) s
      join f g = pick (eq-or-lt_of_le (holds-class f.holds)) (eq-or-lt_of_le (holds-class g.holds))
        where
          pick : (k ≡ f.class) ⊎ (k < f.class) → (k ≡ g.class) ⊎ (k < g.class) → Held B (suc k) s
          pick (inr l) r = holder f.member (held-covers f.holds (covers-start k s)) (covers-start (suc k) s) a l
          pick (inl e) (inr l) = holder g.member (held-covers g.holds (covers-start k (s + 2 ^ k))) (omega (arith, pow_pos k)) a l
          pick (inl e) (inl r) = absurd (n.never h (upper a.multiple refl) (held_same f e) (held_same g r))

  -- the blocks of the set are the largest aligned blocks of the frames that it covers
  pub largest : Joined top B → (k s : ℕ) → B k s ↔ Largest top (Covered B) k s
  largest n k s = (to, from)
    where
      to : B k s → Largest top (Covered B) k s
      to b = record {
        small = tidy.small b;
        aligned = tidy.aligned b;
        whole = covered-self b;
        no_larger = λ j u l a h g c. none (in_one n j u l a c) h g;
      }
        where
          none : {j u : ℕ} → Held B j u → Holds j u k s → k < j → ⊥
          none f h g = omega (arith, (tidy.apart f.member b (holds-meets (omega arith))).0, holds-class f.holds)

      from : Largest top (Covered B) k s → B k s
      from m = pick (in_one n k s m.small m.aligned m.whole)
        where
          pick : Held B k s → B k s
          pick f = go (eq-or-lt_of_le (holds-class f.holds))
            where
              go : (k ≡ f.class) ⊎ (k < f.class) → B k s
              go (inl e) = held_same f e
              go (inr l) = absurd (m.no_larger f.class f.start (tidy.small f.member) (tidy.aligned f.member) f.holds l (covered-self f.member))

-- ---- fewer blocks, and one block more

-- fewer blocks leave no more to join
pub joined-fewer : {top : ℕ} {B C : ℕ → ℕ → Type 0} → ((k s : ℕ) → C k s → B k s) → Joined top B → Joined top C
joined-fewer f n = record { never = λ {k} {s} {b} l p x y. n.never l p (f k s x) (f k b y) }

-- no block of B is a buddy of the block of class k at s, below top
abbrev pub Alone : ℕ → (ℕ → ℕ → Type 0) → ℕ → ℕ → Type 0
Alone top B k s = (b : ℕ) → k < top → Buddies k s b → B k b → ⊥

-- nor does one block more, where its buddy is not there
pub joined-more : {top : ℕ} {B C : ℕ → ℕ → Type 0} (k s : ℕ) → ((j t : ℕ) → C j t → Is k s j t ⊎ B j t) → Alone top B k s → Joined top B → Joined top C
joined-more {top} {B} {C} k s f alone n = record { never = λ {k = j} {s = t} {b} l p x y. go j t b l p (f j t x) (f j b y) }
  where
    one : (j t b : ℕ) → j < top → Buddies j t b → Is k s j t → B j b → ⊥
    one j t b l p e y = alone b (omega (arith, e.class)) (rw (sym e.class, sym e.start) p) (rw (sym e.class) y)

    go : (j t b : ℕ) → j < top → Buddies j t b → Is k s j t ⊎ B j t → Is k s j b ⊎ B j b → ⊥
    go j t b l p (inl e) (inl d) = let z : b ≡ t = omega arith in never-itself (rw z at p)
    go j t b l p (inl e) (inr y) = one j t b l p e y
    go j t b l p (inr x) (inl d) = one j b t l (buddies-comm p) d x
    go j t b l p (inr x) (inr y) = n.never l p x y
