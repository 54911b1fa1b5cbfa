-- Granting on a sound heap: the first block of the class that serves, the lists by the rules, and a sound heap. Assumes nothing.
use mathlib.Core.Path.{◌≡◌, sym, ap}
use mathlib.Core.Bool.{not}
use mathlib.Core.List.{List, ◌∷◌, ◌++◌}
use Prim.Native.Nat.{ℕ, ◌+◌, ◌-◌, ◌*◌, ◌^◌, ◌≤◌, ◌<◌}
use native.Mathlib.Omega.{arith}
use lib.Dec.{leb}
use lib.ListN.{length, get_or}
use borrow.Author.Tests.{leb-false}
use Rattle.answers.specs.declared.Refusal.TheVariants.{BadAlign, NoBlock, NoRoom}
use Rattle.blocks.specs.Blocks.{is_power_of_two}
use Rattle.ledger.specs.Ledger.{grant, enter}
use Rattle.heap_state.specs.Lists.{Memory, head, split_down}
use Rattle.heap_blocks.specs.Sound.{blk, block_of}
use Rattle.heap_state.specs.State.{State}
use Rattle.heap_core.specs.Deciding.{memory, granted, class_for, with_grants}
use Rattle.heap_grant.specs.Granting.{serving, granted_from, granting}
use Rattle.heap.specs.Outcome.{Alloc}
use Rattle.heap_laws.specs.ListRules.{lists, first, grant_l}
use Rattle.heap_laws.specs.Claims.{Healthy, Follows, served_by, lists_after, value_after}
use Rattle.heap_laws.proofs.Shuffles.{same_length, mapped, same_bytes}
use Rattle.ledger.proofs.Grants.{Fine}
use Rattle.ledger.proofs.Keeping.{records-enter}
use Rattle.heap_core.proofs.Requests.{class-word, class-holds}
use Rattle.heap_laws.proofs.Placing as placing
use Rattle.heap_laws.proofs.Placing.{Placed, beside-rest}
use Rattle.heap_laws.proofs.Free.{free_of}
use Rattle.heap_laws.proofs.Managing.{in-hand, reordered}
use Rattle.heap_laws.proofs.Granting.{serving-is, Serves, serves, grant-managed}
use Rattle.words.proofs.Tests.{not-either}
use Rattle.heap_laws.proofs.Entries as entries
use Rattle.heap_laws.proofs.Entries.{blocks_of, same-requests, beside-fresh}
use Rattle.heap_laws.proofs.Sounds.{ManagedBy, lists-is}
use Rattle.heap_laws.proofs.Keeping.{holds, kept-grants, granted-length, Right, does, judged}

module _ (st : State) (h : Healthy st) (k size : ℕ) (low : 3 ≤ k) (holds-it : size ≤ 2 ^ k) where
  -- a block in hand beside the granted ones is entered
  entered : {m : Memory} {ls : List (List ℕ)} (a : ℕ) →
      ManagedBy st st.heap.total m ls (blk k a ∷ blocks_of (granted st)) →
      st.heap.count < length st.ledger → Healthy (with_grants st m (enter (grant k size a) (granted st)) (st.heap.user + size) (st.heap.allocated + 2 ^ k))
  entered {m} {ls} a g room = go (in-hand g)
    where
      go : Placed st.heap.order (length st.arena * 8) (blk k a ∷ (free_of 0 ls ++ blocks_of (granted st))) →
          Healthy (with_grants st m (enter (grant k size a) (granted st)) (st.heap.user + size) (st.heap.allocated + 2 ^ k))
      go (placing.next f b p) =
          let hd = holds st h in
          let r = hd.ranges in
          let fine : Fine st.heap.order k size = record {
            low = low;
            high = f.high;
            holds = holds-it;
            fits = omega (arith, f.inside, r.arena-high);
          } in
          let fresh = beside-fresh k a (granted st) (beside-rest (free_of 0 ls) (blocks_of (granted st)) b) in
          let s = entries.entered k size a (granted st) in
          let blocks = mapped block_of s in
          kept-grants st h (reordered blocks g) (records-enter k size a fine (omega (arith, f.inside, r.arena-high)) (omega arith) hd.rows fresh)
          (omega (arith, same_length s, granted-length st h))
          (omega (arith, same-requests s, hd.user))
          (omega (arith, same_bytes blocks, hd.allocated))

module _ (st : State) (h : Healthy st) (k size : ℕ) (low : 3 ≤ k) (holds-it : size ≤ 2 ^ k) (room : st.heap.count < length st.ledger) where
  served : (j : ℕ) → Serves (st.heap.order - k) k j (lists (memory st)) → serving k st ≡ j →
      Follows (first j (lists (memory st))) (grant_l j k (lists (memory st))) (head k (split_down (serving k st - k) k (memory st))) (granted_from k size st)
  served j s e =
      let g = grant-managed low s (holds st h).managed in
      let f : first j (lists (memory st)) ≡ s.block = ap (λ (l : List ℕ). get_or l 0 0) s.is in
      rw (e, g.0) (record { value_is = sym f; lists_are = lists-is g.1; healthy = entered st h k size low holds-it s.block g.1 room })

pub granting-right : (st : State) → Healthy st → (size align : ℕ) →
    Right (value_after (Alloc size align) st) (lists_after (Alloc size align) st) (granting size align st)
unfolding granting
granting-right st h size align =
    let k : ℕ = class_for size align in
    judged (not (is_power_of_two align)) BadAlign _
    λ power. judged _ NoBlock _
    λ block. judged _ NoRoom _
    λ room.
    let p = not-either (leb st.heap.order k) (leb 33 (serving k st)) block in
    let high : k < st.heap.order = leb-false st.heap.order k p.0 in
    let below : serving k st < 33 = leb-false 33 (serving k st) p.1 in
    let r = (holds st h).ranges in
    let e : serving k st ≡ served_by k st = serving-is (st.heap.order - k) k (holds st h).managed in
    does (served st h k size (class-word size align) (class-holds size align (omega (arith, r.order-high))) (leb-false (length st.ledger) st.heap.count room) (served_by k st)
    (serves (st.heap.order - k) k (lists (memory st)) (omega arith)) e)
