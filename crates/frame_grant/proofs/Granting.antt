-- A grant held to its rule: which block serves, and that it is halved. Assumes nothing.
use mathlib.Core.Path.{◌≡◌, refl, sym, ap, ◌∙◌}
use mathlib.Core.Bool.{true}
use mathlib.Core.List.{List, [], ◌∷◌}
use Prim.Native.Nat.{ℕ, suc, ◌+◌, ◌-◌, ◌≤◌, ◌<◌}
use native.Mathlib.Omega.{arith}
use lib.ListN.{length, get_or}
use borrow.Author.Tests.{le-leb, lt-leb}
use Rattle.std.specs.Prelude.{Err, Option, Some, None}
use Rattle.answers.specs.declared.Refusal.TheVariants.{NoBlock}
use Rattle.answers.specs.Judging.{refused}
use Rattle.rules.specs.Rules.{start, block_at, smallest, serving}
use Rattle.rules.proofs.Serving.{Serves, serves}
use Rattle.table.specs.Layout.{order_of, count_of, start_of, blocks_of}
use Rattle.table.specs.Sound.{soundb}
use Rattle.table.proofs.Facts.{sound-fact}
use Rattle.table.proofs.Search.{start-at}
use Rattle.table.proofs.State.{length-blocks}
use Rattle.frame_core.specs.Carried.{Reply, carried, Says, reply_of}
use Rattle.frame_core.proofs.Saying.{says-refused}
use Rattle.frame_halve.specs.Halve.{Halvable, halving}
use Rattle.frame_grant.specs.Granting.{granting}

module _ (ws : List ℕ) (sound : soundb ws ≡ true) (c : ℕ) where
  stops : granting c (order_of (get_or ws 0 0)) (length ws - 1) (blocks_of ws) ≡ refused NoBlock
      → Says (carried (0 ∷ []) ws (granting c (order_of (get_or ws 0 0)) (length ws - 1) (blocks_of ws))) (reply_of (Err NoBlock)) ws
  stops e = says-refused ws (granting c (order_of (get_or ws 0 0)) (length ws - 1) (blocks_of ws)) NoBlock e

  -- larger than the top block
  pub too_large : order_of (get_or ws 0 0) ≤ c
      → Says (carried (0 ∷ []) ws (granting c (order_of (get_or ws 0 0)) (length ws - 1) (blocks_of ws))) (reply_of (Err NoBlock)) ws
  unfolding granting
  too_large h = stops (rw (le-leb (order_of (get_or ws 0 0)) c h) refl)

  module _ (h : c < order_of (get_or ws 0 0)) (f : Option ℕ) (found : f ≡ smallest (order_of (get_or ws 0 0) - c) c 0 (blocks_of ws)) where
    served : serving (order_of (get_or ws 0 0) - 1) c (blocks_of ws) ≡ f
    unfolding serving
    served =
        let e : suc (order_of (get_or ws 0 0) - 1) - c ≡ order_of (get_or ws 0 0) - c = omega arith in
        ap (λ (n : ℕ). smallest n c 0 (blocks_of ws)) e ∙ sym found

    -- no free block is large enough
    pub no_block : f ≡ None → Says (carried (0 ∷ []) ws (granting c (order_of (get_or ws 0 0)) (length ws - 1) (blocks_of ws))) (reply_of (Err NoBlock)) ws
    unfolding granting
    no_block e = stops (rw (lt-leb (order_of (get_or ws 0 0)) c h, served ∙ e) refl)

    -- the block at place i serves
    module _ (i : ℕ) (e : f ≡ Some i) where
      it-serves : Serves c i (blocks_of ws)
      it-serves = serves (order_of (get_or ws 0 0) - c) c i (blocks_of ws) (sym found ∙ e)

      pub here : (i < count_of (get_or ws 0 0)) × (count_of (get_or ws 0 0) < length ws) × (length ws ≤ 65536)
      here =
          let g = sound-fact ws sound in
          (omega (arith, it-serves.here, length-blocks ws sound), omega (arith, g.head.room, g.head.long), g.head.short)

      pub halvable : Halvable ws i c
      halvable = record { sound = sound; place = here.0; large = it-serves.large }

      pub granted-from : (run : ℕ) → run ≡ start_of (get_or ws (i + 1) 0) → {r : Reply} {after : List ℕ} → Says (carried (0 ∷ []) ws (halving c run i ws)) r after
          → Says (carried (0 ∷ []) ws (granting c (order_of (get_or ws 0 0)) (length ws - 1) (blocks_of ws))) r after
      unfolding granting
      granted-from run s w =
          let q : start (block_at i (blocks_of ws)) ≡ run = start-at ws sound i here.0 ∙ sym s in
          rw (lt-leb (order_of (get_or ws 0 0)) c h, served ∙ e, q) w
