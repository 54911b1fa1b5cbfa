-- Releasing and zero fill on a sound heap: the lists and the count by the rules, and a sound heap. Assumes nothing.
use mathlib.Core.Path.{◌≡◌, refl, ap, ◌∙◌}
use mathlib.Core.Bool.{true, not}
use mathlib.Core.List.{List, [], ◌∷◌, ◌++◌, append_assoc}
use Prim.Native.Nat.{ℕ, suc, ◌+◌, ◌-◌, ◌*◌, ◌/◌, ◌%◌, ◌^◌, ◌≤◌}
use native.Mathlib.Omega.{arith}
use lib.ListN.{length, take, drop, set, replicate, length-replicate}
use lib.Seq.{sets, sets-eq}
use borrow.Author.Tests.{not-false}
use Rattle.answers.specs.declared.Refusal.TheVariants.{BadAlign, NotGranted}
use Rattle.blocks.specs.Blocks.{is_power_of_two}
use Rattle.blocks.proofs.Powers.{multiple, multiple-le}
use Rattle.ledger.specs.Ledger.{grant, strike, some, same}
use Rattle.heap_state.specs.Lists.{Memory, release}
use Rattle.heap_blocks.specs.Sound.{Block, blk, block_of}
use Rattle.heap_state.specs.State.{State}
use Rattle.heap_core.specs.Deciding.{memory, top, granted, class_for, with_grants}
use Rattle.heap_release.specs.Releasing.{releasing, zeroing, not_granted}
use Rattle.heap.specs.Outcome.{Dealloc, ZeroFill}
use Rattle.heap_laws.specs.ListRules.{lists}
use Rattle.heap_laws.specs.Claims.{Healthy, Follows, Word, after_release, lists_after, value_after}
use Rattle.heap_laws.proofs.Shuffles.{◌~◌, back, same_length, mapped, same_bytes}
use Rattle.heap_laws.proofs.Placing as placing
use Rattle.heap_laws.proofs.Placing.{Placed, placed-rest}
use Rattle.heap_laws.proofs.Free.{free_of}
use Rattle.heap_laws.proofs.Managing.{Managed, in-hand, reordered, store-managed}
use Rattle.heap_laws.proofs.Releasing.{release-managed}
use Rattle.ledger.proofs.Grants.{Fine}
use Rattle.ledger.proofs.Keeping.{records-strike}
use Rattle.heap_laws.proofs.Entries.{blocks_of, same-requests, struck, fine_of}
use Rattle.heap_laws.proofs.Sounds.{ManagedBy, lists-is}
use Rattle.heap_laws.proofs.Keeping.{holds, kept-ledger, kept-grants, granted-length, Right, does, judged}

-- a run of stores into words of a block in hand
run-managed : {order n total : ℕ} {ls : List (List ℕ)} {others : List Block} {k a : ℕ} (heads arena : List ℕ) (w : ℕ) (vs : List ℕ) → a ≤ 8 * w →
    8 * w + 8 * length vs ≤ a + 2 ^ k →
    Managed order n total (record { heads = heads; arena = arena }) ls (blk k a ∷ others) →
    Managed order n total (record { heads = heads; arena = sets arena w vs }) ls (blk k a ∷ others)
run-managed heads arena w [] from to g = g
run-managed heads arena w (v ∷ vs) from to g =
    run-managed heads (set arena w v) (suc w) vs (omega arith) (omega arith) (store-managed w v (record { from = from; to = omega arith }) g)

-- a granted block in hand, and what the ledger says of it
module _ (st : State) (h : Healthy st) (k size a : ℕ) (found : some (same k size a) (granted st) ≡ true) where
  out : granted st ~ (grant k size a ∷ strike (same k size a) (granted st))
  out = struck k size a (granted st) found (placed-rest (free_of 0 (lists (memory st))) (blocks_of (granted st)) (holds st h).managed.placed)

  row : Fine st.heap.order k size
  row = fine_of k size a (holds st h).rows found

  pub in-hand-granted : ManagedBy st st.heap.total (memory st) (lists (memory st)) (blk k a ∷ blocks_of (strike (same k size a) (granted st)))
  in-hand-granted = reordered (mapped block_of out) (holds st h).managed

  -- ---- releasing

  released : Follows (after_release k a st).nodes_compared (after_release k a st).lists (release (top st) k a (memory st)).nodes_compared
      (with_grants st (release (top st) k a (memory st)).memory (strike (same k size a) (granted st)) (st.heap.user - size) (st.heap.allocated - 2 ^ k))
  released =
      let hd = holds st h in
      let r = hd.ranges in
      let f = release-managed (top st) k a (omega (arith, row.high)) (omega (arith, r.order-low)) in-hand-granted in
      record {
        value_is = f.compared;
        lists_are = lists-is f.managed;
        healthy = kept-grants st h f.managed (records-strike (same k size a) hd.rows) (omega (arith, same_length out, granted-length st h, r.room))
            (omega (arith, same-requests out, hd.user)) (omega (arith, same_bytes (mapped block_of out), hd.allocated));
      }

  -- ---- words of a granted block

  -- a store into a word of the block
  pub word-stored : (w v : ℕ) → Word w k a →
      ManagedBy st st.heap.total (record { heads = st.heap.heads; arena = set st.arena w v }) (lists (memory st)) (blocks_of (granted st))
  word-stored w v inside = reordered (back (mapped block_of out)) (store-managed w v inside in-hand-granted)

  -- "clears the words of the requested bytes, rounded up to whole words", which are words of the block
  abbrev cleared : Memory
  cleared = record { heads = st.heap.heads; arena = take (a / 8) st.arena ++ (replicate ((size + 7) / 8) 0 ++ drop (a / 8 + (size + 7) / 8) st.arena) }

  abbrev Cleared : Type 0
  Cleared = ManagedBy st st.heap.total cleared (lists (memory st)) (blocks_of (granted st))

  pub zeroed : Cleared
  zeroed = go (in-hand in-hand-granted)
    where
      zs : List ℕ
      zs = replicate ((size + 7) / 8) 0

      go : {bs : List Block} → Placed st.heap.order (length st.arena * 8) (blk k a ∷ bs) → Cleared
      go (placing.next f b p) =
          let starts : a % 2 ^ 3 ≡ 0 = multiple-le 3 k a f.low f.aligned in
          let eights : 2 ^ k % 2 ^ 3 ≡ 0 = multiple-le 3 k (2 ^ k) f.low (multiple (2 ^ k) 1 (2 ^ k) (omega arith)) in
          let l : length zs ≡ (size + 7) / 8 = length-replicate ((size + 7) / 8) 0 in
          let to : 8 * (a / 8) + 8 * length zs ≤ a + 2 ^ k = omega (arith, row.holds) in
          let e : sets st.arena (a / 8) zs ≡ cleared.arena =
          sets-eq zs st.arena (a / 8) (omega (arith, f.inside)) ∙ append_assoc (take (a / 8) st.arena) zs (drop (a / 8 + length zs) st.arena)
          ∙ ap (λ (c : ℕ). take (a / 8) st.arena ++ (zs ++ drop (a / 8 + c) st.arena)) l in
          let g = run-managed st.heap.heads st.arena (a / 8) zs (omega arith) to in-hand-granted in
          rw e at (reordered (back (mapped block_of out)) g)

-- ---- the calls

module _ (st : State) (h : Healthy st) (a size align : ℕ) where
  pub releasing-right : Right (value_after (Dealloc a size align) st) (lists_after (Dealloc a size align) st) (releasing a size align st)
  unfolding releasing
  releasing-right =
      judged (not (is_power_of_two align)) BadAlign _
      λ power. judged (not_granted a size align st) NotGranted _
      λ found. does (released st h (class_for size align) size a (not-false (some (same (class_for size align) size a) (granted st)) found))

  pub zeroing-right : Right (value_after (ZeroFill a size align) st) (lists_after (ZeroFill a size align) st) (zeroing a size align st)
  unfolding zeroing
  zeroing-right =
      judged (not (is_power_of_two align)) BadAlign _
      λ power. judged (not_granted a size align st) NotGranted _
      λ found.
      let g = zeroed st h (class_for size align) size a (not-false (some (same (class_for size align) size a) (granted st)) found) in
      does (record { value_is = refl; lists_are = lists-is g; healthy = kept-ledger st h g })
