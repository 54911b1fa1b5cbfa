-- The states that calls leave are sound where their memory holds lists and their grants stand in order. Assumes nothing.
use mathlib.Core.Path.{◌≡◌, refl, sym, ap, ◌∙◌}
use mathlib.Core.Bool.{Bool, true, false}
use mathlib.Core.List.{List, map}
use Prim.Native.Nat.{ℕ, ◌≤◌}
use native.Mathlib.Omega.{arith}
use lib.ListN.{length, take, length-map, length-take}
use Rattle.answers.specs.declared.Refusal.{Refusal}
use Rattle.words.proofs.Pad.{length-pad}
use Rattle.ledger.specs.Ledger.{Grant, grants, grant_of, word_of, ledger_words}
use Rattle.ledger.proofs.Grants.{Records, records_fit}
use Rattle.ledger.proofs.Ledgers.{grants-words, words-kept}
use Rattle.heap_state.specs.Lists.{Memory}
use Rattle.heap_blocks.specs.Sound.{Block, bytes_of, requests}
use Rattle.heap_state.specs.State.{State}
use Rattle.heap_blocks.proofs.Facts.{Sound, sound-fact}
use Rattle.answers.specs.Judging.{refused, done}
use Rattle.heap_core.specs.Deciding.{Decision, granted, with_grants}
use Rattle.heap_add.specs.Adding.{with_lists}
use Rattle.heap_laws.specs.Claims.{Healthy, Follows}
use Rattle.heap_laws.proofs.Managing.{Managed}
use Rattle.heap_laws.proofs.Entries.{blocks_of}
use Rattle.heap_laws.proofs.Sounds.{ManagedBy, Held, held, sounds}

own-words : {order n total : ℕ} {m : Memory} {ls : List (List ℕ)} {others : List Block} → Managed order n total m ls others →
    Managed order (length m.arena) total m ls others
own-words g = rw g.words g

module _ (st : State) (h : Healthy st) where
  pub sound-state : Sound st.heap st.arena st.ledger
  sound-state = sound-fact st.heap st.arena st.ledger h.sound

  pub holds : Held st
  holds = held st h.heads_33 sound-state

  module _ {m : Memory} {ls : List (List ℕ)} where
    -- other lists, and the grants as they were
    pub kept-ledger : {total : ℕ} → ManagedBy st total m ls (blocks_of (granted st)) → Healthy (with_lists st m total)
    kept-ledger {total} g =
        let s = sound-state in
        let r = s.ranges in
        record {
          heads_33 = g.heads_33;
          sound = sounds (with_lists st m total) (own-words g)
              (record {
                arena-low = omega (arith, g.words, r.arena-low);
                arena-high = omega (arith, g.words, r.arena-high);
                ledger-low = r.ledger-low;
                ledger-high = r.ledger-high;
                order-low = r.order-low;
                order-high = r.order-high;
                room = r.room;
              })
              s.records s.ascending s.zeros holds.user holds.allocated;
        }

    -- other lists and other grants
    pub kept-grants : {gs : List Grant} {user allocated : ℕ} → ManagedBy st st.heap.total m ls (blocks_of gs) →
        Records st.heap.order 0 gs →
        length gs ≤ length st.ledger → user ≡ requests gs → allocated ≡ bytes_of (blocks_of gs) → Healthy (with_grants st m gs user allocated)
    kept-grants {gs} {user} {allocated} g rows room u a =
        let r = sound-state.ranges in
        let n : ℕ = length st.ledger in
        let e : grants (length gs) (ledger_words n gs) ≡ gs = grants-words n gs room (records_fit rows) in
        let l : length (ledger_words n gs) ≡ n = length-pad n (map word_of gs) in
        let k = words-kept n gs room r.ledger-high rows in
        record {
          heads_33 = g.heads_33;
          sound = sounds (with_grants st m gs user allocated) {ls = ls} (rw e (own-words g))
              (record {
                arena-low = omega (arith, g.words, r.arena-low);
                arena-high = omega (arith, g.words, r.arena-high);
                ledger-low = omega (arith, r.ledger-low);
                ledger-high = omega (arith, r.ledger-high);
                order-low = r.order-low;
                order-high = r.order-high;
                room = omega arith;
              })
              k.fine k.ascending k.zeros (u ∙ ap requests (sym e))
              (a ∙ ap (λ (x : List Grant). bytes_of (blocks_of x)) (sym e));
        }

  pub granted-length : length (granted st) ≡ st.heap.count
  granted-length =
      let r = sound-state.ranges in
      omega (arith, length-map (take st.heap.count st.ledger) grant_of, length-take st.heap.count st.ledger, r.room)

-- ---- what a call decides: a refusal, or what the rules say

pub data Right (value : ℕ) (after : List (List ℕ)) : Decision → Type 0 where
  refuses : {r : Refusal} → Right value after (refused r)
  does : {v : ℕ} {st : State} → Follows value after v st → Right value after (done v st)

-- a test that holds refuses, and one that does not leaves the rest
pub judged : {value : ℕ} {after : List (List ℕ)} (t : Bool) (r : Refusal) (d : Decision) → (t ≡ false → Right value after d) →
    Right value after (elim t [ true ↦ refused r | false ↦ d ])
judged true r d f = refuses
judged false r d f = f refl
