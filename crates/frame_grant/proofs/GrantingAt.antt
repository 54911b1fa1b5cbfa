-- A grant at a start held to its rule: the one block that may contain the run, told by its word. Assumes nothing.
use mathlib.Core.Path.{◌≡◌, refl, sym, ap, ◌∙◌}
use mathlib.Core.Bool.{true, false, not, ◌&&◌, and-false}
use mathlib.Core.List.{List, [], ◌∷◌}
use Prim.Native.Nat.{ℕ, ◌+◌, ◌-◌, ◌%◌, ◌^◌, ◌≤◌, ◌<◌}
use native.Mathlib.Omega.{arith}
use lib.Bits.{bit_and, and_mask}
use lib.Dec.{eqb, leb}
use lib.ListN.{length, get_or}
use lib.Pow.{pow_mono, pow_pos}
use borrow.Author.Tests.{eq-eqb, ne_eqb, le-leb, lt-leb}
use Rattle.std.specs.Prelude.{Err}
use Rattle.answers.specs.declared.Refusal.TheVariants.{NoBlock, Misaligned}
use Rattle.answers.specs.Judging.{refused}
use Rattle.rules.specs.Rules.{class, start, end, block_at, contains, containing, place_of}
use Rattle.std.specs.Prelude.{None}
use Rattle.rules.specs.declared.Place.TheVariants.{Inside, Gap}
use Rattle.rules.proofs.Looking.{InsideAt, inside_is, gap_is, contained, not-contained, none-contains}
use Rattle.table.specs.Layout.{order_of, count_of, mark_of, class_of, start_of, end_of, block_of, blocks_of}
use Rattle.table.specs.Sound.{soundb}
use Rattle.table.proofs.Facts.{sound-fact}
use Rattle.table.proofs.State.{sound-blocks, length-blocks, block-at}
use Rattle.blocks.specs.Blocks.{size_of}
use Rattle.blocks.proofs.Powers.{exp-le}
use Rattle.blocks.proofs.Rounding.{size_is}
use Rattle.frame_core.specs.Carried.{Reply, carried, Says, reply_of}
use Rattle.frame_core.proofs.Saying.{says-refused}
use Rattle.frame_halve.specs.Halve.{Halvable, halving}
use Rattle.frame_grant.specs.Granting.{granting_at}

module _ (ws : List ℕ) (sound : soundb ws ≡ true) (run c : ℕ) where
  -- what a call that stops here says
  abbrev Stops : Type 0
  Stops = Says (carried (0 ∷ []) ws (granting_at run c (order_of (get_or ws 0 0)) (length ws - 1) (blocks_of ws))) (reply_of (Err NoBlock)) ws

  says_none : granting_at run c (order_of (get_or ws 0 0)) (length ws - 1) (blocks_of ws) ≡ refused NoBlock → Stops
  says_none e = says-refused ws (granting_at run c (order_of (get_or ws 0 0)) (length ws - 1) (blocks_of ws)) NoBlock e

  pub too_large : order_of (get_or ws 0 0) ≤ c → Stops
  unfolding granting_at
  too_large h = says_none (rw (le-leb (order_of (get_or ws 0 0)) c h) refl)

  module _ (h : c < order_of (get_or ws 0 0)) (frames : ℕ) (sized : frames ≡ size_of c) where
    size : frames ≡ 2 ^ c
    size = let f = sound-fact ws sound in sized ∙ size_is c (omega (arith, f.head.high))

    masked : bit_and run (frames - 1) ≡ run % 2 ^ c
    masked = ap (λ (x : ℕ). bit_and run (x - 1)) size ∙ and_mask run c

    pub frames-fit : (0 < frames) × (frames ≤ 2 ^ 32)
    frames-fit =
        let f = sound-fact ws sound in
        let m : 2 ^ c ≤ 2 ^ 32 = pow_mono {i = c} {j = 32} (omega (arith, f.head.high)) in
        (omega (arith, size, pow_pos c), omega (arith, size))

    pub misaligned : (bit_and run (frames - 1) ≡ 0 → ⊥)
        → Says (carried (0 ∷ []) ws (granting_at run c (order_of (get_or ws 0 0)) (length ws - 1) (blocks_of ws))) (reply_of (Err Misaligned)) ws
    unfolding granting_at
    misaligned n = rw (lt-leb (order_of (get_or ws 0 0)) c h, ne_eqb (run % 2 ^ c) 0 (λ e. n (masked ∙ e))) (record { reply = refl; words = refl })

    module _ (aligned : bit_and run (frames - 1) ≡ 0) where
      multiple : eqb (run % 2 ^ c) 0 ≡ true
      multiple = eq-eqb (run % 2 ^ c) 0 (sym masked ∙ aligned)

      none : containing c run (blocks_of ws) ≡ None → Stops
      unfolding granting_at
      none e = says_none (rw (lt-leb (order_of (get_or ws 0 0)) c h, multiple, e) refl)

      pub in-gap : (i : ℕ) → place_of run (blocks_of ws) ≡ Gap i → Stops
      in-gap i e = none (none-contains c run i (blocks_of ws) (gap_is run i (blocks_of ws) (sound-blocks ws sound) e))

      -- the block at place i has the run's first frame; w is its word
      module _ (i : ℕ) (e : place_of run (blocks_of ws) ≡ Inside i) where
        at : InsideAt (order_of (get_or ws 0 0) - 1) run i (blocks_of ws)
        at = inside_is run i (blocks_of ws) (sound-blocks ws sound) e

        pub here : (i < count_of (get_or ws 0 0)) × (count_of (get_or ws 0 0) < length ws) × (length ws ≤ 65536) × (run < 2 ^ 32)
        here =
            let g = sound-fact ws sound in
            let a : i < length (blocks_of ws) = at.here in
            let b : run < end (block_at i (blocks_of ws)) = at.high in
            let d : end (block_at i (blocks_of ws)) ≤ 2 ^ 32 = at.stand.within in
            (omega (arith, length-blocks ws sound), omega (arith, g.head.room, g.head.long), g.head.short, omega arith)

        block : block_at i (blocks_of ws) ≡ block_of (get_or ws (i + 1) 0)
        block = block-at ws sound i here.0

        is-not : contains c run (block_of (get_or ws (i + 1) 0)) ≡ false → Stops
        is-not n = none (not-contained c run i (blocks_of ws) at (ap (contains c run) block ∙ n))

        pub is-granted : get_or ws (i + 1) 0 < 2 ^ 64 → 0x8000_0000_0000_0000 ≤ get_or ws (i + 1) 0 → Stops
        is-granted b l = is-not (rw (eq-eqb (mark_of (get_or ws (i + 1) 0)) 1 (omega arith)) refl)

        pub is-short : end_of (get_or ws (i + 1) 0) < run + frames → Stops
        is-short l =
            is-not (rw (lt-leb (run + 2 ^ c) (end_of (get_or ws (i + 1) 0)) (omega (arith, size)))
            (and-false (not (eqb (mark_of (get_or ws (i + 1) 0)) 1) && leb (start_of (get_or ws (i + 1) 0)) run)))

        module _ (free : get_or ws (i + 1) 0 < 0x8000_0000_0000_0000) (reaches : run + frames ≤ end_of (get_or ws (i + 1) 0)) where
          yes : contains c run (block_at i (blocks_of ws)) ≡ true
          yes =
              let s : start (block_at i (blocks_of ws)) ≤ run = at.low in
              let l : start_of (get_or ws (i + 1) 0) ≤ run = omega (arith, ap start block) in
              let m : eqb (mark_of (get_or ws (i + 1) 0)) 1 ≡ false = ne_eqb (mark_of (get_or ws (i + 1) 0)) 1 (λ q. omega arith) in
              let r : run + 2 ^ c ≤ end_of (get_or ws (i + 1) 0) = omega (arith, size) in
              ap (contains c run) block ∙ rw (m, le-leb (start_of (get_or ws (i + 1) 0)) run l, le-leb (run + 2 ^ c) (end_of (get_or ws (i + 1) 0)) r) refl

          pub halvable : Halvable ws i c
          halvable =
              let l : class_of (get_or ws (i + 1) 0) ≡ class (block_at i (blocks_of ws)) = sym (ap class block) in
              let a : start (block_at i (blocks_of ws)) ≤ run = at.low in
              let k : c ≤ class_of (get_or ws (i + 1) 0) =
              exp-le c (class_of (get_or ws (i + 1) 0)) (omega (arith, size, ap start block, pow_pos (class_of (get_or ws (i + 1) 0)))) in
              record { sound = sound; place = here.0; large = omega arith }

          pub granted-at : {r : Reply} {after : List ℕ} → Says (carried (0 ∷ []) ws (halving c run i ws)) r after
              → Says (carried (0 ∷ []) ws (granting_at run c (order_of (get_or ws 0 0)) (length ws - 1) (blocks_of ws))) r after
          unfolding granting_at
          granted-at w = rw (lt-leb (order_of (get_or ws 0 0)) c h, multiple, contained c run i (blocks_of ws) at yes) w
