-- Adding on a sound heap: the lists by the rules, and a sound heap. Assumes nothing.
use mathlib.Core.Path.{◌≡◌, refl, subst}
use mathlib.Core.Bool.{Bool, true, false, ◌&&◌, ◌||◌}
use mathlib.Core.List.{List, ◌++◌}
use Prim.Native.Nat.{ℕ, ◌+◌, ◌-◌, ◌*◌, ◌%◌, ◌≤◌, ◌<◌}
use native.Mathlib.Decide.{dec_le}
use native.Mathlib.Omega.{arith}
use lib.Dec.{eqb, ltb}
use lib.ListN.{length}
use borrow.Author.Tests.{ltb-false, eqb-false, lt-ltb}
use Rattle.answers.specs.declared.Refusal.TheVariants.{BadRange, NullStart, Overlap}
use Rattle.heap_state.specs.Lists.{push_all}
use Rattle.heap_blocks.specs.Sound.{Block, all_blocks, free_from}
use Rattle.heap_state.specs.State.{State}
use Rattle.heap_core.specs.Deciding.{memory, bytes, top, granted}
use Rattle.heap_add.specs.Adding.{round_up, round_down, adding}
use Rattle.heap_overlap.specs.Meeting.{meets}
use Rattle.heap_laws.specs.ListRules.{lists, add_l}
use Rattle.heap_laws.specs.Claims.{Healthy, after_adding}
use Rattle.heap_laws.proofs.Adding.{Clear, clear, add-managed}
use Rattle.words.proofs.Tests.{not-either}
use Rattle.heap_laws.proofs.Tested.{free-is}
use Rattle.heap_laws.proofs.Entries.{blocks_of}
use Rattle.heap_laws.proofs.Sounds.{ManagedBy, lists-is}
use Rattle.heap_laws.proofs.Keeping.{holds, kept-ledger, Right, does, judged}

not-both : (a b : Bool) → a && b ≡ false → b ≡ true → a ≡ false
not-both true b e h = absurd (let z : ◌≡◌ {A = ℕ} 0 1 = cc in omega arith)
not-both false b e h = refl

module _ (st : State) (h : Healthy st) where
  abbrev Added : ℕ → ℕ → Type 0
  Added s c =
      ManagedBy st (st.heap.total + c) (push_all c (top st) s c (memory st)) (add_l c (top st) s c (lists (memory st))) (blocks_of (granted st))

  none-added : (s c : ℕ) → c ≡ 0 → Added s c
  unfolding push_all add_l
  none-added s c z =
      let e : st.heap.total + 0 ≡ st.heap.total = omega arith in
      rw (z, e) (holds st h).managed

  some-added : (s c : ℕ) → 0 < c → 0 < s → s % 8 ≡ 0 → c % 8 ≡ 0 → s + c ≤ length st.arena * 8 →
      meets s (s + c) (all_blocks st.heap st.arena st.ledger) ≡ false → Added s c
  unfolding lists
  some-added s c some above start size inside miss =
      let r = (holds st h).ranges in
      let low : s < s + c = omega arith in
      let free : Clear s (s + c) (free_from 33 0 (memory st) ++ blocks_of (granted st)) =
      clear s (s + c) (all_blocks st.heap st.arena st.ledger) low miss in
      add-managed c (top st) s c
      (record {
        low = omega (arith, r.order-low);
        high = omega (arith, r.order-low);
        classes = r.order-high;
        small = r.arena-high;
        above = above;
        start = start;
        bytes = size;
        inside = inside;
      })
      (omega arith)
      (subst (λ (bs : List Block). Clear s (s + c) (bs ++ blocks_of (granted st))) (free-is 33 0 (memory st)) free)
      (holds st h).managed

  added : (s e : ℕ) → ltb (bytes st) s || ltb (bytes st) e || ltb (round_down e) (round_up s) ≡ false → eqb (round_up s) 0 && ltb 0 (round_down e) ≡ false →
      meets (round_up s) (round_down e) (all_blocks st.heap st.arena st.ledger) ≡ false → Added (round_up s) (round_down e - round_up s)
  added s e ranges null miss =
      let p = not-either (ltb (bytes st) s || ltb (bytes st) e) (ltb (round_down e) (round_up s)) ranges in
      let q = not-either (ltb (bytes st) s) (ltb (bytes st) e) p.0 in
      let l : round_up s ≤ round_down e = ltb-false (round_down e) (round_up s) p.1 in
      let t : e ≤ bytes st = ltb-false (bytes st) e q.1 in
      let z : round_up s + (round_down e - round_up s) ≡ round_down e = omega arith in
      elim (dec_le (round_down e) (round_up s)) [
        | yes g ↦ none-added (round_up s) (round_down e - round_up s) (omega arith)
        | no g ↦
            let n : (round_up s ≡ 0) → ⊥ =
            eqb-false (round_up s) 0 (not-both (eqb (round_up s) 0) (ltb 0 (round_down e)) null (lt-ltb 0 (round_down e) (omega arith))) in
            some-added (round_up s) (round_down e - round_up s) (omega arith) (omega arith) (omega arith) (omega arith) (omega arith) (rw z miss)
      ]

  pub adding-right : (s e : ℕ) → Right 0 (after_adding s e st) (adding s e st)
  unfolding adding
  adding-right s e =
      judged _ BadRange _
      λ ranges. judged _ NullStart _
      λ null. judged _ Overlap _
      λ miss. let g = added s e ranges null miss in does (record { value_is = refl; lists_are = lists-is g; healthy = kept-ledger st h g })
