-- The table and what has happened to it agree after every call. Assumes nothing.
use mathlib.Core.Path.{◌≡◌, refl, sym, ap, subst, ◌∙◌}
use mathlib.Core.Logic.{◌↔◌, ◌⊎◌, inl, inr, ⊎_elim}
use mathlib.Core.Bool.{Bool, true, false, true≢false}
use mathlib.Core.List.Memᴰ
use mathlib.Core.List.{List, [], ◌∷◌, Memᴰ}
use Prim.Native.Nat.{ℕ, ◌-◌, ◌≤◌, ◌<◌}
use native.Mathlib.Omega.{arith}
use lib.Dec.{ltb}
use lib.ListN.{length}
use borrow.Author.Tests.{ne_eqb, ltb-true, ltb-false}
use Rattle.answers.specs.Paper.{number_of}
use Rattle.answers.specs.Judging.{done}
use Rattle.rules.specs.Largest.{Joined}
use Rattle.rules.specs.Rules.{Block, blk, Sound, is_granted, without}
use Rattle.rules.specs.Managed.{Free, Granted, Is, Managed, Within, Touches, Leaves}
use Rattle.rules.proofs.Members.{is_block, same_block, in_without, without-has}
use Rattle.rules.proofs.Putting.{knows-granted}
use Rattle.table.specs.Layout.{State, state_of, words_of}
use Rattle.frame_core.specs.Deciding.{Decision}
use Rattle.frame_core.specs.Carried.{Outcome, carried}
use Rattle.frame.specs.Outcome.{Call, Add, zeros, decide}
use Rattle.frame_laws.specs.History.{Range, range, History, granted, released, accepted, noted, World, step, after, Touch, TouchesNone, alone, nor, NoTouch, and, Added}
use Rattle.frame_laws.specs.Demand3.{alloc, alloc_aligned, Grants, any, alloc_at, Releases, dealloc, dealloc_aligned}
use Rattle.frame_laws.proofs.Tables.{Stands, stands-length, stands-state, stands-outcome}
use Rattle.frame_laws.proofs.Effects.{Effect, refuses, adds, grants, gives, sums, effect}

-- the table of n words, with the ORDER, says what has happened
pub record Known (n order : ℕ) (w : World) : Type 0 where
  pub blocks : List Block
  pub stands : Stands n order blocks w.words
  pub frames : (x : ℕ) → Managed blocks x ↔ Added x w.history.ranges
  pub grants : (k s : ℕ) → Granted blocks k s ↔ Granted w.history.grants k s
  pub joined : NoTouch w.history.ranges → Joined (order - 1) (Free blocks)

-- ---- a range that touches no earlier one touches no managed frame

apart : {s e a b : ℕ} {rs : List Range} → TouchesNone s e rs → Memᴰ (range a b) rs → Touch s e a b → ⊥
apart alone m t = Memᴰ.not-nil m
apart {s} {e} {a} {b} (nor {a = c} {b = d} {rs = rs} n more) m t = ⊎_elim (λ q. n (same q)) (λ o. apart more o t) (Memᴰ.cases_cons m)
  where
    same : range a b ≡ range c d → Touch s e c d
    same q = let x : a ≡ c = cc in let y : b ≡ d = cc in rw (← x, ← y) t

untouched : {s e : ℕ} {rs : List Range} {bs : List Block} → TouchesNone s e rs → ((x : ℕ) → Managed bs x → Added x rs) → Touches s e bs → ⊥
untouched n frames t =
    let a = frames t.frame t.managed in
    apart n a.member (record { left = omega (arith, a.within, t.from); right = omega (arith, a.within, t.to) })

-- ---- the table after an accepted call

module _ {n order : ℕ} {bs : List Block} {ws : List ℕ} (t : Stands n order bs ws) where
  pub stands_after : (after : List Block) → Sound (order - 1) 0 after → length after ≤ n - 1
      → Stands n order after (words_of (length ws) (record { order = (state_of ws).order; blocks = after }))
  stands_after after sound fits =
      record {
        is = ap (λ (m : ℕ). words_of m (record { order = (state_of ws).order; blocks = after })) (stands-length t)
            ∙ ap (λ (st : State). words_of n (record { order = st.order; blocks = after })) (stands-state t);
        low = t.low;
        high = t.high;
        short = t.short;
        fits = omega (arith, fits, t.fits);
        sound = sound;
      }

-- ---- what is noted of an accepted call

accepted-grant : {c : Call} {k : ℕ} (v : ℕ) (h : History) → Grants c k → accepted c v h ≡ granted k v h
accepted-grant v h (any (alloc n)) = refl
accepted-grant v h (any (alloc_aligned n a p)) = refl
accepted-grant v h (alloc_at s n) = refl

accepted-release : {c : Call} {k s : ℕ} (v : ℕ) (h : History) → Releases c k s → accepted c v h ≡ released k s h
accepted-release v h (dealloc s n) = refl
accepted-release v h (dealloc_aligned s n a p) = refl

one_more : (k s j t : ℕ) (gs : List Block) → (Is k s j t ⊎ Granted gs j t) ↔ Granted (blk true k s ∷ gs) j t
one_more k s j t gs = (
  ⊎_elim (λ i. Memᴰ.head (same_block i)) (λ m. Memᴰ.tail m),
  λ m. ⊎_elim (λ q. inl (is_block q)) (λ o. inr o) (Memᴰ.cases_cons m),
)

one_less : (k s j t : ℕ) (gs : List Block) → (Granted gs j t × (Is k s j t → ⊥)) ↔ Granted (without (is_granted k s) gs) j t
one_less k s j t gs = (λ p. without-has (is_granted k s) p.0 (other (is_granted k s (blk true j t)) refl p.1), λ m. let w = in_without (is_granted k s) gs m in (w.0, λ i. true≢false (sym ((knows-granted k s (blk true j t)).1 (same_block i)) ∙ w.1)))
  where
    other : (b : Bool) → is_granted k s (blk true j t) ≡ b → (Is k s j t → ⊥) → is_granted k s (blk true j t) ≡ false
    other true e n = absurd (n (is_block ((knows-granted k s (blk true j t)).0 e)))
    other false e n = e

-- ---- one call

module _ {n order : ℕ} (w : World) (k : Known n order w) where
  abbrev So : Call → Outcome → Type 0
  So c o = Known n order (record { words = o.words; history = noted c o.reply w.history })

  -- an accepted range: empty, and nothing is noted, or not, and it is noted
  after-adding : (s e : ℕ) (left : List Block)
      → Leaves (order - 1) (λ x. Managed k.blocks x ⊎ Within s e x) (Granted k.blocks) (Joined (order - 1) (Free k.blocks) × (s < e → Touches s e k.blocks → ⊥)) left
      → length left ≤ n - 1 → So (Add s e) (carried (0 ∷ []) w.words (done (0 ∷ []) left))
  after-adding s e left l fits = go (ltb s e) refl
    where
      added : s < e → (x : ℕ) → Managed left x ↔ Added x (range s e ∷ w.history.ranges)
      added h x = (
        λ m. ⊎_elim (λ o. let a = (k.frames x).0 o in record { start = a.start; end = a.end; member = Memᴰ.tail a.member; within = a.within }) (λ d. record { start = s; end = e; member = Memᴰ.head refl; within = d }) ((l.frames x).0 m),
        λ a. (l.frames x).1 (⊎_elim (λ q. inr (same a q)) (λ o. inl ((k.frames x).1 (record { start = a.start; end = a.end; member = o; within = a.within }))) (Memᴰ.cases_cons a.member)),
      )
        where
          same : (a : Added x (range s e ∷ w.history.ranges)) → range a.start a.end ≡ range s e → Within s e x
          same a q = let p : a.start ≡ s = cc in let r : a.end ≡ e = cc in rw (← p, ← r) a.within

      joins : NoTouch (range s e ∷ w.history.ranges) → Joined (order - 1) (Free left)
      joins (and apart_from more) = l.joined (k.joined more, λ h t. untouched apart_from (λ x m. (k.frames x).0 m) t)

      go : (b : Bool) → ltb s e ≡ b → So (Add s e) (carried (0 ∷ []) w.words (done (0 ∷ []) left))
      go true q =
          rw (q, accepted)
          (record {
            blocks = left;
            stands = stands_after k.stands left l.sound fits;
            frames = added (ltb-true s e q);
            grants = λ j t. (λ m. (k.grants j t).0 ((l.granted j t).0 m), λ m. (l.granted j t).1 ((k.grants j t).1 m));
            joined = joins;
          })
      go false q =
          let h : e ≤ s = ltb-false s e q in
          rw (q, accepted)
          (record {
            blocks = left;
            stands = stands_after k.stands left l.sound fits;
            frames = λ x. (λ m. (k.frames x).0 (⊎_elim (λ o. o) (λ d. absurd (omega arith)) ((l.frames x).0 m)), λ a. (l.frames x).1 (inl ((k.frames x).1 a)));
            grants = λ j t. (λ m. (k.grants j t).0 ((l.granted j t).0 m), λ m. (l.granted j t).1 ((k.grants j t).1 m));
            joined = λ p. l.joined (k.joined p, λ r. absurd (omega arith));
          })

  carried-known : (c : Call) (d : Decision) → Effect (order - 1) (n - 1) k.blocks c d → So c (carried (zeros c) w.words d)
  carried-known c d (refuses {r = r} p) = rw (ne_eqb (number_of r) 0 (λ e. omega arith), noted) k
  carried-known c d (adds {s = s} {e = e} {after = left} l fits) = after-adding s e left l fits
  carried-known c d (grants {k = j} {v = v} {after = left} g l fits back) =
      rw (accepted-grant v w.history g)
      (record {
        blocks = left;
        stands = stands_after k.stands left l.sound fits;
        frames = λ x. (λ m. (k.frames x).0 ((l.frames x).0 m), λ a. (l.frames x).1 ((k.frames x).1 a));
        grants = λ i t. (
          λ m. (one_more j v i t w.history.grants).0 (⊎_elim (λ q. inl q) (λ o. inr ((k.grants i t).0 o)) ((l.granted i t).0 m)),
          λ m. (l.granted i t).1 (⊎_elim (λ q. inl q) (λ o. inr ((k.grants i t).1 o)) ((one_more j v i t w.history.grants).1 m)),
        );
        joined = λ p. l.joined (k.joined p);
      })
  carried-known c d (gives {k = j} {s = s} {after = left} r l fits) =
      rw (accepted-release 0 w.history r)
      (record {
        blocks = left;
        stands = stands_after k.stands left l.sound fits;
        frames = λ x. (λ m. (k.frames x).0 ((l.frames x).0 m), λ a. (l.frames x).1 ((k.frames x).1 a));
        grants = λ i t. (
          λ m. let q = (l.granted i t).0 m in (one_less j s i t w.history.grants).0 ((k.grants i t).0 q.0, q.1),
          λ m. let q = (one_less j s i t w.history.grants).1 m in (l.granted i t).1 ((k.grants i t).1 q.0, q.1),
        );
        joined = λ p. l.joined (k.joined p);
      })
  carried-known c d (sums {values = vs}) =
      record {
        blocks = k.blocks;
        stands = stands_after k.stands k.blocks k.stands.sound (omega (arith, k.stands.fits));
        frames = k.frames;
        grants = k.grants;
        joined = k.joined;
      }

  pub step-known : (c : Call) → Known n order (step c w)
  step-known c =
      let s = k.stands in
      subst (So c) (sym (stands-outcome s c))
      (carried-known c (decide c order (n - 1) k.blocks) (effect order (n - 1) k.blocks s.low s.high s.sound (omega (arith, s.fits)) c))

pub after-known : {n order : ℕ} (cs : List Call) (w : World) → Known n order w → Known n order (after cs w)
after-known [] w k = k
after-known (c ∷ cs) w k = after-known cs (step c w) (step-known w k c)
