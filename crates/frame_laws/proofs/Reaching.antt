-- From a freshly made table on: what has happened is what the table says. Assumes nothing.
use mathlib.Core.Path.{◌≡◌, refl, sym, subst}
use mathlib.Core.Logic.{◌↔◌}
use mathlib.Core.Bool.{Bool, true, false, ◌||◌}
use mathlib.Core.List.Memᴰ
use mathlib.Core.List.{List, []}
use Prim.Native.Nat.{ℕ, ◌-◌, ◌≤◌}
use native.Mathlib.Omega.{arith}
use lib.Dec.{ltb}
use lib.ListN.{length}
use borrow.Author.Tests.{ltb-false}
use Rattle.words.proofs.Tests.{not-either}
use Rattle.rules.specs.Rules.{none}
use Rattle.rules.specs.Managed.{Spare, Kept}
use Rattle.rules.proofs.Unique.{free-are-largest, largest-same}
use Rattle.frame.specs.Outcome.{making}
use Rattle.frame_laws.specs.History.{World, Reached, fresh, NoTouch, FreeFrame}
use Rattle.frame_laws.specs.Demand3 as say
use Rattle.frame_laws.proofs.Tables.{stands-blocks, stands-sound}
use Rattle.frame_laws.proofs.Steps.{Known, after-known}

-- a table that was just made
fresh-known : (order : ℕ) (lent : List ℕ) → (making order lent).reply.number ≡ 0 → Known (length lent) order (fresh order lent)
unfolding making
fresh-known order lent e = go (ltb order 1 || ltb 33 order) refl (ltb (length lent) 1 || ltb 65536 (length lent)) refl
  where
    go : (a : Bool) → (ltb order 1 || ltb 33 order) ≡ a → (b : Bool) → (ltb (length lent) 1 || ltb 65536 (length lent)) ≡ b → Known (length lent) order (fresh order lent)
    go true p b q = let z : ◌≡◌ {A = ℕ} 1 0 = rw p at e in absurd (omega arith)
    go false p true q = let z : ◌≡◌ {A = ℕ} 2 0 = rw (p, q) at e in absurd (omega arith)
    go false p false q =
        let o = not-either (ltb order 1) (ltb 33 order) p in
        let m = not-either (ltb (length lent) 1) (ltb 65536 (length lent)) q in
        let low : 1 ≤ order = ltb-false order 1 o.0 in
        let high : order ≤ 33 = ltb-false 33 order o.1 in
        let long : 1 ≤ length lent = ltb-false (length lent) 1 m.0 in
        let short : length lent ≤ 65536 = ltb-false 65536 (length lent) m.1 in
        record {
          blocks = [];
          stands = record { is = rw (p, q) refl; low = low; high = high; short = short; fits = omega arith; sound = none };
          frames = λ x. (λ m. absurd (Memᴰ.not-nil m.member), λ a. absurd (Memᴰ.not-nil a.member));
          grants = λ k s. (λ m. absurd (Memᴰ.not-nil m), λ m. absurd (Memᴰ.not-nil m));
          joined = λ t. record { never = λ l p m. absurd (Memᴰ.not-nil m) };
        }

pub reached : {order : ℕ} {w : World} (r : Reached order w) → Known (length r.lent) order w
reached {order} r = subst (Known (length r.lent) order) (sym r.is) (after-known r.calls (fresh order r.lent) (fresh-known order r.lent r.made))

-- a table that was just made is sound, and one that was not made has its words
pub made_is_sound : say.MadeIsSound
made_is_sound order lent e = stands-sound (fresh-known order lent e).stands

pub refused_making : say.RefusedMaking
unfolding making
refused_making order lent n = go (ltb order 1 || ltb 33 order) refl (ltb (length lent) 1 || ltb 65536 (length lent)) refl
  where
    go : (a : Bool) → (ltb order 1 || ltb 33 order) ≡ a → (b : Bool) → (ltb (length lent) 1 || ltb 65536 (length lent)) ≡ b → (making order lent).words ≡ lent
    go true p b q = rw p refl
    go false p true q = rw (p, q) refl
    go false p false q = absurd (n (rw (p, q) refl))

module _ {n order : ℕ} {w : World} (k : Known n order w) where
  -- nothing is left to join, where no two ranges touch
  pub kept : NoTouch w.history.ranges → Kept (order - 1) k.blocks
  kept t = record { sound = k.stands.sound; joined = k.joined t }

  -- the frames added and not granted are those that the table has free
  pub spare-frames : (x : ℕ) → Spare k.blocks x ↔ FreeFrame w.history x
  spare-frames x = (
    λ s. record { added = (k.frames x).0 s.managed; not_granted = λ c. s.not_granted (record { class = c.class; start = c.start; member = (k.grants c.class c.start).1 c.member; covers = c.covers }) },
    λ f. record { managed = (k.frames x).1 f.added; not_granted = λ c. f.not_granted (record { class = c.class; start = c.start; member = (k.grants c.class c.start).0 c.member; covers = c.covers }) },
  )

-- 1
pub free_blocks_are_largest : say.FreeBlocksAreLargest
free_blocks_are_largest order w r apart k s =
    let q = reached r in
    let l = free-are-largest (kept q apart) k s in
    rw (stands-blocks q.stands) (λ f. largest-same (spare-frames q) (l.0 f), λ g. l.1 (largest-same (λ x. ((spare-frames q x).1, (spare-frames q x).0)) g))
