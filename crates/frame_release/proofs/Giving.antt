-- A release held to its rule: whether a block of that class is granted at that start, told by the place of the start. Assumes nothing.
use mathlib.Core.Path.{◌≡◌, refl, sym, ap, ◌∙◌}
use mathlib.Core.Bool.{Bool, true, false, true≢false}
use mathlib.Core.List.{List, [], ◌∷◌}
use Prim.Native.Nat.{ℕ, ◌+◌, ◌-◌, ◌%◌, ◌^◌, ◌≤◌, ◌<◌}
use native.Mathlib.Omega.{arith}
use lib.ListN.{length, get_or}
use borrow.Author.Tests.{eq-eqb, ne_eqb}
use Rattle.std.specs.Prelude.{Err}
use Rattle.answers.specs.declared.Refusal.TheVariants.{NotGranted}
use Rattle.answers.specs.Judging.{done}
use Rattle.rules.specs.Rules.{Block, blk, granted, class, start, end, Sound, none, next, is_granted, some, block_at, released, place_of}
use Rattle.rules.specs.declared.Place.TheVariants.{Inside, Gap}
use Rattle.rules.proofs.Lists.{Misses, none-misses, and-misses, some-misses, granted-picks}
use Rattle.rules.proofs.Looking.{InsideAt, inside_is, gap_is, granted-here, none-granted}
use Rattle.table.specs.Layout.{order_of, count_of, block_of, blocks_of, word_of}
use Rattle.table.specs.Sound.{soundb}
use Rattle.table.proofs.Facts.{sound-fact}
use Rattle.table.proofs.State.{sound-blocks, length-blocks, block-at, block-of-word, word_at, record-fits}
use Rattle.frame_core.specs.Carried.{Reply, carried, Says, reply_of}
use Rattle.frame_core.proofs.Saying.{says-refused}
use Rattle.frame_release.specs.Releasing.{releasing}
use Rattle.frame_release.specs.Release.{Releasable, released_at}

-- no block has a class above the top
no-class : {top f : ℕ} {bs : List Block} (c s : ℕ) → top < c → Sound top f bs → Misses (is_granted c s) bs
no-class c s h none = none-misses
no-class c s h (next {g = g} {k = k} {s = t} l m a e r) =
    let n : is_granted c s (blk g k t) ≡ false = other g in
    and-misses n (no-class c s h r)
  where
    other : (g : Bool) → is_granted c s (blk g k t) ≡ false
    other true = rw (ne_eqb k c (λ q. omega arith)) refl
    other false = refl

granted-is : (k s : ℕ) (b : Block) → is_granted k s b ≡ true → b ≡ blk true k s
granted-is k s (blk false j t) e = absurd (true≢false (sym e))
granted-is k s (blk true j t) e = let p = granted-picks k s true j t e in cc

module _ (ws : List ℕ) (sound : soundb ws ≡ true) (s c : ℕ) where
  -- where no such block is granted, that is the refusal
  refusal : some (is_granted c s) (blocks_of ws) ≡ false
      → Says (carried (0 ∷ []) ws (releasing s c (order_of (get_or ws 0 0)) (blocks_of ws))) (reply_of (Err NotGranted)) ws
  unfolding releasing
  refusal e = says-refused ws (releasing s c (order_of (get_or ws 0 0)) (blocks_of ws)) NotGranted (rw e refl)

  -- a class above every block
  pub above-top : 33 ≤ c → Says (carried (0 ∷ []) ws (releasing s c (order_of (get_or ws 0 0)) (blocks_of ws))) (reply_of (Err NotGranted)) ws
  above-top h =
      let f = sound-fact ws sound in
      refusal (some-misses (is_granted c s) (no-class c s (omega (arith, f.head.high)) (sound-blocks ws sound)))

  -- no block has the start
  pub in-gap : (i : ℕ) → place_of s (blocks_of ws) ≡ Gap i → Says (carried (0 ∷ []) ws (releasing s c (order_of (get_or ws 0 0)) (blocks_of ws))) (reply_of (Err NotGranted)) ws
  in-gap i e = refusal (none-granted c s i (blocks_of ws) (gap_is s i (blocks_of ws) (sound-blocks ws sound) e))

  -- the block at place i has it: there is such a word
  pub inside-here : (i : ℕ) → place_of s (blocks_of ws) ≡ Inside i → (i < count_of (get_or ws 0 0)) × (count_of (get_or ws 0 0) < length ws) × (length ws ≤ 65536)
  inside-here i e =
      let f = sound-fact ws sound in
      let a : i < length (blocks_of ws) = (inside_is s i (blocks_of ws) (sound-blocks ws sound) e).here in
      (omega (arith, length-blocks ws sound), omega (arith, f.head.room, f.head.long), f.head.short)

  module _ (i : ℕ) (e : place_of s (blocks_of ws) ≡ Inside i) (small : c < 64) (v : ℕ) (made : v ≡ word_of (blk true (c % 64) (s % 2 ^ 32))) where
    at : InsideAt (order_of (get_or ws 0 0) - 1) s i (blocks_of ws)
    at = inside_is s i (blocks_of ws) (sound-blocks ws sound) e

    here : i < count_of (get_or ws 0 0)
    here = (inside-here i e).0

    fits : s < 2 ^ 32
    fits = let h : s < end (block_at i (blocks_of ws)) = at.high in let w : end (block_at i (blocks_of ws)) ≤ 2 ^ 32 = at.stand.within in omega arith

    word : v ≡ word_of (blk true c s)
    word = made ∙ ap word_of (record-fits true c s small fits)

    pub other_word : ((j : ℕ) → get_or ws j 0 < 2 ^ 64) → (get_or ws (i + 1) 0 ≡ v → ⊥)
        → Says (carried (0 ∷ []) ws (releasing s c (order_of (get_or ws 0 0)) (blocks_of ws))) (reply_of (Err NotGranted)) ws
    other_word below n = refusal (granted-here c s i (blocks_of ws) at ∙ no)
      where
        no : is_granted c s (block_at i (blocks_of ws)) ≡ false
        no = go (is_granted c s (block_at i (blocks_of ws))) refl
          where
            go : (b : Bool) → is_granted c s (block_at i (blocks_of ws)) ≡ b → is_granted c s (block_at i (blocks_of ws)) ≡ false
            go true q = absurd (n (word_at ws sound below i here ∙ ap word_of (granted-is c s (block_at i (blocks_of ws)) q) ∙ sym word))
            go false q = q

    module _ (same : get_or ws (i + 1) 0 ≡ v) where
      block : block_at i (blocks_of ws) ≡ blk true c s
      block = block-at ws sound i here ∙ ap block_of (same ∙ word) ∙ block-of-word true c s small fits

      pub releasable : Releasable ws i
      releasable = record { sound = sound; here = here; marked = ap granted block }

      yes : some (is_granted c s) (blocks_of ws) ≡ true
      yes = granted-here c s i (blocks_of ws) at ∙ ap (is_granted c s) block ∙ rw (eq-eqb c c refl, eq-eqb s s refl) refl

      decision : releasing s c (order_of (get_or ws 0 0)) (blocks_of ws) ≡ released_at ws i
      unfolding releasing
      decision = rw yes (ap (λ (b : Block). done (0 ∷ []) (released (order_of (get_or ws 0 0) - 1) (class b) (start b) (blocks_of ws))) (sym block))

      pub given_back : {r : Reply} {after : List ℕ} → Says (carried (0 ∷ []) ws (released_at ws i)) r after
          → Says (carried (0 ∷ []) ws (releasing s c (order_of (get_or ws 0 0)) (blocks_of ws))) r after
      given_back w = rw decision w
