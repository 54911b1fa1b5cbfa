-- What a release leaves. Assumes nothing.
use mathlib.Core.Path.{◌≡◌, refl, sym, ap, ◌∙◌}
use mathlib.Core.Logic.Iff
use mathlib.Core.Logic.{◌⊎◌, inl, inr, ⊎_elim}
use mathlib.Core.Bool.{Bool, true, false, true≢false}
use mathlib.Core.List.{List}
use Prim.Native.Nat.{ℕ, zero, suc, ◌+◌, ◌^◌, ◌≤◌, ◌<◌, min}
use native.Mathlib.Omega.{arith}
use Rattle.blocks.specs.Blocks.{buddy_of}
use Rattle.blocks.specs.Laws.{Buddies, upper, lower}
use Rattle.blocks.proofs.Buddies.{pair}
use Rattle.rules.specs.Aligned.{Covers}
use Rattle.rules.specs.Largest.{Joined}
use Rattle.rules.specs.Rules.{Block, blk, Sound, is_free, is_granted, some, without, insert, joined, released}
use Rattle.rules.specs.Managed.{◌∈◌, Free, Granted, Is, Managed, Leaves}
use Rattle.rules.proofs.Aligned.{one-buddy, pair-aligned, pair-covers}
use Rattle.rules.proofs.Largest.{joined-fewer, Alone}
use Rattle.rules.proofs.Members.{is_block, same_block, marks-differ, Fits, member-fits, some-fails}
use Rattle.rules.proofs.Putting.{leaves-as, put, knows-free, knows-granted, known, Without, without-one}

pair_fits : {top k s b : ℕ} → Buddies k s b → k < top → s + 2 ^ k ≤ 2 ^ 32 → b + 2 ^ k ≤ 2 ^ 32 → Fits top (suc k) (min s b)
pair_fits {top} {k} {s} {b} p l h e = record { small = l; aligned = pair-aligned p; within = ends p }
  where
    ends : Buddies k s b → min s b + 2 ^ suc k ≤ 2 ^ 32
    ends (upper a d) = omega arith
    ends (lower a d) = omega arith

-- what joining leaves of a block in hand: it counts as managed, and is not in the list
abbrev Joins : ℕ → ℕ → ℕ → List Block → List Block → Type 0
Joins top k s bs after = Leaves top (λ x. Managed bs x ⊎ Covers k s x) (Granted bs) (Joined top (Free bs)) after

-- where it has no free buddy, it is put into the list
put_alone : {top : ℕ} (k s : ℕ) (bs : List Block) → Sound top 0 bs → Fits top k s → ((x : ℕ) → Managed bs x → Covers k s x → ⊥) → Alone top (Free bs) k s
    → Joins top k s bs (insert (blk false k s) bs)
put_alone k s bs r fits clear alone = leaves-as (λ x. Iff.rfl) (λ j t. Iff.rfl) (λ n. (n, alone)) (put k s bs r fits clear)

-- where it has one, the buddy is taken out of the list and joined: the pair is in hand
module _ {top : ℕ} (k s b : ℕ) (bs cs : List Block) (pairs : Buddies k s b) (w : Without top bs false k b cs) where
  pair-in-hand : (after : List Block) → Joins top (suc k) (min s b) cs after → Joins top k s bs after
  pair-in-hand after v = leaves-as (λ x. (to x, from x)) (λ j t. (less true j t, λ m. (w.others (blk true j t)).1 (m, marks-differ))) (joined-fewer (less false)) v
    where
      less : (g : Bool) (j t : ℕ) → blk g j t ∈ cs → blk g j t ∈ bs
      less g j t m = ((w.others (blk g j t)).0 m).0

      to : (x : ℕ) → Managed cs x ⊎ Covers (suc k) (min s b) x → Managed bs x ⊎ Covers k s x
      to x (inl m) = inl ((w.frames x).1 (inl m))
      to x (inr c) = ⊎_elim inr (λ d. inl ((w.frames x).1 (inr d))) ((pair-covers pairs).0 c)

      from : (x : ℕ) → Managed bs x ⊎ Covers k s x → Managed cs x ⊎ Covers (suc k) (min s b) x
      from x (inl m) = ⊎_elim inl (λ d. inr ((pair-covers pairs).1 (inr d))) ((w.frames x).0 m)
      from x (inr c) = inr ((pair-covers pairs).1 (inl c))

  pair-clear : ((x : ℕ) → Managed bs x → Covers k s x → ⊥) → (x : ℕ) → Managed cs x → Covers (suc k) (min s b) x → ⊥
  pair-clear clear x m c = ⊎_elim (clear x ((w.frames x).1 (inl m))) (w.clear x m) ((pair-covers pairs).0 c)

module _ {top : ℕ} (order : top ≤ 32) where
  -- the block in hand can go up n times, to the top class
  joining : (n k s : ℕ) (bs : List Block) → k + n ≡ top → Sound top 0 bs → Fits top k s → ((x : ℕ) → Managed bs x → Covers k s x → ⊥)
      → Joins top k s bs (joined n k s bs)
  unfolding joined
  joining zero k s bs e r fits clear = put_alone k s bs r fits clear (λ b l p m. omega arith)
  joining (suc n) k s bs e r fits clear =
      go (some (is_free k b) bs) refl
      (λ f. joining n (suc k) (min s b) cs (omega arith) (out f).sound (pair_fits pairs (omega arith) fits.within (ends f)) (pair-clear k s b bs cs pairs (out f) clear))
    where
      b : ℕ
      b = buddy_of k s

      cs : List Block
      cs = without (is_free k b) bs

      pairs : Buddies k s b
      pairs = pair k s (omega arith) fits.aligned.multiple

      out : some (is_free k b) bs ≡ true → Without top bs false k b cs
      out f = without-one (is_free k b) (knows-free k b) r ((known (is_free k b) (knows-free k b)).0 f)

      ends : some (is_free k b) bs ≡ true → b + 2 ^ k ≤ 2 ^ 32
      ends f = (member-fits r ((known (is_free k b) (knows-free k b)).0 f)).within

      -- every buddy is the one that was looked for
      alone : some (is_free k b) bs ≡ false → Alone top (Free bs) k s
      alone f c l p m = true≢false (sym ((knows-free k b (blk false k c)).1 (ap (blk false k) (one-buddy p pairs))) ∙ some-fails (is_free k b) f m)

      go : (t : Bool) → some (is_free k b) bs ≡ t → (some (is_free k b) bs ≡ true → Joins top (suc k) (min s b) cs (joined n (suc k) (min s b) cs))
          → Joins top k s bs (joined (suc n) k s bs)
      go true f ih = rw (f, joined) (pair-in-hand k s b bs cs pairs (out f) (joined n (suc k) (min s b) cs) (ih f))
      go false f ih = rw (f, joined) (put_alone k s bs r fits clear (alone f))

  -- the released block is no longer granted, every frame stays managed, and nothing is left to join where nothing was
  pub released-leaves : (k s : ℕ) (bs : List Block) → Sound top 0 bs → some (is_granted k s) bs ≡ true
      → Leaves top (Managed bs) (λ j t. Granted bs j t × (Is k s j t → ⊥)) (Joined top (Free bs)) (released top k s bs)
  unfolding released
  released-leaves k s bs r e =
      let here : Granted bs k s = (known (is_granted k s) (knows-granted k s)).0 e in
      let w = without-one (is_granted k s) (knows-granted k s) r here in
      let f = member-fits r here in
      let h : k ≤ top = f.small in
      leaves-as (λ x. ((w.frames x).1, (w.frames x).0))
      (λ j t.
      (λ m. let n = (w.others (blk true j t)).0 m in (n.0, λ i. n.1 (same_block i)), λ m. (w.others (blk true j t)).1 (m.0, λ q. m.1 (is_block q))))
      (joined-fewer (λ j t m. ((w.others (blk false j t)).0 m).0))
      (joining _ k s (without (is_granted k s) bs) (omega arith) w.sound f w.clear)
