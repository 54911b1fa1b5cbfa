-- What is known of a granted block that was found in the ledger, and what is decided of a release and of a zero fill, by their tests. Assumes nothing.
use mathlib.Core.Path.{◌≡◌, refl, sym, ap, subst, ◌∙◌}
use mathlib.Core.Bool.{Bool, true, false, not}
use mathlib.Core.List.{List, [], ◌∷◌, ◌++◌, map}
use Prim.Native.Nat.{ℕ, suc, ◌+◌, ◌-◌, ◌*◌, ◌/◌, ◌%◌, ◌^◌, ◌≤◌, ◌<◌}
use native.Mathlib.Omega.{arith}
use lib.Pow.{pow-add}
use lib.ListN.{length, take, drop, replicate, length-drop}
use lib.Seq.{length-take-le, drop-drop}
use borrow.Rule.Slice.PartMut.{mid_of, put_mid}
use Rattle.std.specs.Prelude.{Ok}
use Rattle.answers.specs.declared.Refusal.TheVariants.{BadAlign, NotGranted}
use Rattle.blocks.specs.Blocks.{is_power_of_two, size_of}
use Rattle.blocks.proofs.Powers.{multiple-le}
use Rattle.blocks.proofs.Rounding.{size_is}
use Rattle.std.specs.Prelude.{Some, None}
use Rattle.ledger.specs.Ledger.{Grant, grant, same, strike, some, ledger_words}
use Rattle.ledger.specs.Kept.{search, is_at}
use Rattle.ledger.proofs.Grants.{Records, none, next}
use Rattle.ledger.proofs.Searching.{same-fact, search-some, search-within, later-at, strike-at}
use Rattle.ledger.proofs.Ledgers.{kept-records, length-grants}
use Rattle.ledger.proofs.Keeping.{length-strike}
use Rattle.heap_state.specs.Lists.{Released, release}
use Rattle.heap_blocks.specs.Sound.{block_of, placedb, bytes_of, requests, free_blocks, granted_blocks}
use Rattle.heap_state.specs.State.{State, Says}
use Rattle.heap_blocks.proofs.Facts.{Sound}
use Rattle.heap_blocks.proofs.Heads.{Placed, placed-fact, placed-parts}
use Rattle.answers.specs.Judging.{refused, done, refuse, judge}
use Rattle.heap_core.specs.Deciding.{Decision, memory, top, class_for, granted, with_grants, carried}
use Rattle.heap_release.specs.Releasing.{not_granted, releasing, zeroing}
use Rattle.heap_moves.specs.Moves.{mem, released}
use Rattle.answers.proofs.Judging.{judged-yes, judged-no}
use Rattle.heap_core.proofs.Saying.{says-done}
use Rattle.heap_core.proofs.Kept.{kept, granted_heap}

-- ---- a record that was found

pub record Recorded (order bytes k n a : ℕ) (gs : List Grant) : Type 0 where
  pub class_low : 3 ≤ k
  pub class-high : k < order
  pub holds : n ≤ 2 ^ k
  pub user : n ≤ requests gs
  pub allocated : 2 ^ k ≤ bytes_of (map block_of gs)
  pub placed : Placed bytes k a

recorded : {order floor bytes : ℕ} {gs : List Grant} (k n a i : ℕ) → Records order floor gs → placedb bytes (map block_of gs) ≡ true → search (same k n a) gs ≡ Some i
    → Recorded order bytes k n a gs
recorded k n a i none p e = let z : ◌≡◌ {A = ℕ} 0 1 = cc in absurd (omega arith)
recorded {order} {bytes = bytes} k n a i (next {k = j} {n = m} {a = b} {gs = gs} l s f r) p e =
    go (same k n a (grant j m b)) refl e (λ t q. recorded k n a t r (placed-fact bytes j b (map block_of gs) p).1 q)
  where
    go : (t : Bool) → same k n a (grant j m b) ≡ t → search (same k n a) (grant j m b ∷ gs) ≡ Some i
        → ((t : ℕ) → search (same k n a) gs ≡ Some t → Recorded order bytes k n a gs) → Recorded order bytes k n a (grant j m b ∷ gs)
    go true t e rec =
        let q = same-fact k n a j m b t in
        let here = (placed-fact bytes j b (map block_of gs) p).0 in
        let j-is : j ≡ k = q.0 in
        let b-is : b ≡ a = q.2 in
        let size : 2 ^ j ≡ 2 ^ k = ap (λ (x : ℕ). 2 ^ x) j-is in
        record {
          class_low = omega (arith, f.low);
          class-high = omega (arith, f.high);
          holds = omega (arith, f.holds, q.1);
          user = omega (arith, q.1);
          allocated = omega arith;
          placed = rw (← j-is, ← b-is) here;
        }
    go false t e rec =
        let w = later-at (search (same k n a) gs) i (rw (t, search) at e) in
        let x = rec w.0 w.1 in
        record { class_low = x.class_low; class-high = x.class-high; holds = x.holds; user = omega (arith, x.user); allocated = omega (arith, x.allocated); placed = x.placed }

pub recorded-in : (st : State) (k n a i : ℕ) → Sound st.heap st.arena st.ledger → search (same k n a) (granted st) ≡ Some i
    → Recorded st.heap.order (length st.arena * 8) k n a (granted st)
recorded-in st k n a i s e =
    recorded k n a i (kept-records st.heap.order st.heap.count st.ledger (kept st s))
    (placed-parts (length st.arena * 8) (free_blocks st.heap st.arena) (granted_blocks st.heap st.ledger) s.placed).1 e

pub index_in : (st : State) (k n a i : ℕ) → Sound st.heap st.arena st.ledger → search (same k n a) (granted st) ≡ Some i → i < st.heap.count
index_in st k n a i s e =
    omega (arith, search-within (same k n a) (granted st) i e, length-grants st.heap.order st.heap.count st.ledger (kept st s))

-- ---- what is decided, by the tests in their order: the same for a release and a zero fill

some-found : (p : Grant → Bool) (gs : List Grant) (i : ℕ) → search p gs ≡ Some i → some p gs ≡ true
some-found p gs i e = search-some p gs ∙ ap is_at e

none_found : (p : Grant → Bool) (gs : List Grant) → search p gs ≡ None → some p gs ≡ false
none_found p gs e = search-some p gs ∙ ap is_at e

module _ (address size align : ℕ) (st : State) where
  abbrev align-test : Bool
  align-test = not (is_power_of_two align)

  abbrev its : Grant → Bool
  its = same (class_for size align) size address

  abbrev tested : Decision → Decision
  tested d = judge (refuse align-test BadAlign ∷ refuse (not_granted address size align st) NotGranted ∷ []) d

  abbrev freed : Decision
  freed =
      done (release (top st) (class_for size align) address (memory st)).nodes_compared
      (with_grants st (release (top st) (class_for size align) address (memory st)).memory (strike its (granted st)) (st.heap.user - size) (st.heap.allocated - 2 ^ class_for size align))

  abbrev cleared : Decision
  cleared =
      done 0 (record {
        heap = st.heap;
        arena = take (address / 8) st.arena ++ (replicate ((size + 7) / 8) 0 ++ drop (address / 8 + (size + 7) / 8) st.arena);
        ledger = st.ledger;
      })

  pub release-is : releasing address size align st ≡ tested freed
  unfolding releasing
  release-is = refl

  pub zero_is : zeroing address size align st ≡ tested cleared
  unfolding zeroing
  zero_is = refl

  module _ (d : Decision) where
    pub badly-aligned : is_power_of_two align ≡ false → tested d ≡ refused BadAlign
    badly-aligned e = judged-yes align-test BadAlign (refuse (not_granted address size align st) NotGranted ∷ []) d (rw e)

    module _ (aligned : is_power_of_two align ≡ true) (class : ℕ) (class-is : class ≡ class_for size align) where
      past-align : tested d ≡ judge (refuse (not_granted address size align st) NotGranted ∷ []) d
      past-align = judged-no align-test BadAlign (refuse (not_granted address size align st) NotGranted ∷ []) d (rw aligned)

      pub not_there : search (same class size address) (granted st) ≡ None → tested d ≡ refused NotGranted
      not_there e =
          let f : some its (granted st) ≡ false = none_found its (granted st) (rw (← class-is) e) in
          past-align ∙ judged-yes (not_granted address size align st) NotGranted [] d (rw f)

      pub there : (i : ℕ) → search (same class size address) (granted st) ≡ Some i → tested d ≡ d
      there i e =
          let f : some its (granted st) ≡ true = some-found its (granted st) i (rw (← class-is) e) in
          past-align ∙ judged-no (not_granted address size align st) NotGranted [] d (rw f)

  -- what was struck out of the ledger and put into the lists is what is decided
  module _ (class i : ℕ) (sound : Sound st.heap st.arena st.ledger) (class-is : class ≡ class_for size align)
      (found : search (same class size address) (granted st) ≡ Some i) where
    rows : Records st.heap.order 0 (granted st)
    rows = kept-records st.heap.order st.heap.count st.ledger (kept st sound)

    struck : strike (same class size address) (granted st) ≡ take i (granted st) ++ drop (suc i) (granted st)
    struck = strike-at class size address rows i found

    pub one_less : length (strike (same class size address) (granted st)) ≡ st.heap.count - 1
    one_less = omega (arith, length-strike rows class size address i found, length-grants st.heap.order st.heap.count st.ledger (kept st sound))

    freed-says : (heads arena words : List ℕ) (compared sized : ℕ)
        → words ≡ ledger_words (length st.ledger) (take i (granted st) ++ drop (suc i) (granted st))
        → released compared (mem heads arena) ≡ release (top st) class address (memory st) → sized ≡ size_of class
        → Says (carried st freed)
        (record { answer = Ok compared; heap = granted_heap heads (st.heap.count - 1) (st.heap.user - size) (st.heap.allocated - sized) st.heap }) arena words
    freed-says heads arena words compared sized e q z =
        let two : sized ≡ 2 ^ class = z ∙ size_is class (omega (arith, (recorded-in st class size address i sound found).class-high, sound.ranges.order-high)) in
        subst (λ (k : ℕ). Says (carried st (done (release (top st) k address (memory st)).nodes_compared
        (with_grants st (release (top st) k address (memory st)).memory (strike (same k size address) (granted st)) (st.heap.user - size) (st.heap.allocated - 2 ^ k))))
        (record { answer = Ok compared; heap = granted_heap heads (st.heap.count - 1) (st.heap.user - size) (st.heap.allocated - sized) st.heap }) arena words) class-is
        (record {
          number_is = refl;
          value_is = ap (λ (x : Released). x.nodes_compared) q;
          state_is = rw (e, ← struck, ← one_less, two)
              (ap (λ (x : Released). with_grants st x.memory (strike (same class size address) (granted st)) (st.heap.user - size) (st.heap.allocated - 2 ^ class)) q);
        })

    module _ (aligned : is_power_of_two align ≡ true) where
      pub release-says : (heads arena words : List ℕ) (compared sized : ℕ)
          → words ≡ ledger_words (length st.ledger) (take i (granted st) ++ drop (suc i) (granted st))
          → released compared (mem heads arena) ≡ release (top st) class address (memory st) → sized ≡ size_of class
          → Says (carried st (releasing address size align st))
          (record { answer = Ok compared; heap = granted_heap heads (st.heap.count - 1) (st.heap.user - size) (st.heap.allocated - sized) st.heap }) arena words
      release-says heads arena words compared sized e q z =
          subst (λ (d : Decision). Says (carried st d)
          (record { answer = Ok compared; heap = granted_heap heads (st.heap.count - 1) (st.heap.user - size) (st.heap.allocated - sized) st.heap }) arena words)
          (sym (release-is ∙ there freed aligned class class-is i found)) (freed-says heads arena words compared sized e q z)

      -- the words of the request lie in the arena
      pub part_in : address / 8 + (size + 7) / 8 ≤ length st.arena
      part_in =
          let g = recorded-in st class size address i sound found in
          let low : 3 ≤ class = g.class_low in
          let eight : address % 2 ^ 3 ≡ 0 = multiple-le 3 class address low g.placed.aligned in
          let split : 2 ^ class ≡ 2 ^ (class - 3) * 2 ^ 3 = ap (λ (x : ℕ). 2 ^ x) {x = class} {y = class - 3 + 3} (omega arith) ∙ pow-add 2 (class - 3) 3 in
          omega (arith, g.placed.inside, g.holds)

      pub zero-says : (to : ℕ) (words : List ℕ) → to ≡ address / 8 + (size + 7) / 8 → words ≡ replicate (length (mid_of (address / 8) (to - address / 8) st.arena)) 0
          → Says (carried st (zeroing address size align st)) (record { answer = Ok 0; heap = st.heap }) (put_mid (address / 8) (to - address / 8) st.arena words) st.ledger
      zero-says to words t e =
          let n : to - address / 8 ≡ (size + 7) / 8 = omega arith in
          let long : length (mid_of (address / 8) ((size + 7) / 8) st.arena) ≡ (size + 7) / 8 =
          length-take-le ((size + 7) / 8) (drop (address / 8) st.arena) (omega (arith, part_in, length-drop (address / 8) st.arena)) in
          says-done st _ st.heap _ st.ledger 0 (zeroing address size align st) (zero_is ∙ there cleared aligned class class-is i found)
          (rw (e, n, long, drop-drop ((size + 7) / 8) (address / 8) st.arena))
