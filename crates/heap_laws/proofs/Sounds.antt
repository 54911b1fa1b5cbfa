-- What a sound heap holds: its lists, its blocks and its grants; and a heap that holds them is sound. Assumes nothing.
use mathlib.Core.Path.{◌≡◌, refl, sym, ap, ◌∙◌}
use mathlib.Core.Logic.{◌⊎◌, inl, inr}
use mathlib.Core.Bool.{true}
use mathlib.Core.List.{List, [], ◌∷◌, ◌++◌}
use Prim.Native.Nat.{ℕ, suc, ◌+◌, ◌-◌, ◌*◌}
use native.Mathlib.Decide.{dec_le}
use native.Mathlib.Omega.{arith}
use lib.ListN.{length, take, drop, get_or-eq_default}
use lib.Seq.{ext_get_or}
use borrow.Author.Tests.{eq-eqb}
use Rattle.words.specs.Words.{zerosb}
use Rattle.words.proofs.Tests.{join}
use Rattle.ledger.specs.Ledger.{Grant, recordsb, ascendingb}
use Rattle.ledger.proofs.Grants.{Records, none, next, records-of}
use Rattle.linked_list.specs.Chains.{Chain}
use Rattle.linked_list.proofs.Counting.{chain-few}
use Rattle.heap_state.specs.Lists.{Memory, head, list}
use Rattle.heap_blocks.specs.Sound.{Block, bytes_of, requests, placedb, disjointb, free_from, countersb, reaches, is_sound}
use Rattle.heap_state.specs.State.{State}
use Rattle.heap_blocks.proofs.Facts.{Ranges, Sound, sound-true}
use Rattle.heap_blocks.proofs.Counters.{sums}
use Rattle.heap_core.specs.Deciding.{memory, granted}
use Rattle.heap_laws.specs.ListRules.{lists_from, lists, of_class}
use Rattle.heap_laws.proofs.Placing.{placed-front}
use Rattle.heap_laws.proofs.Free.{free_of, class-within}
use Rattle.heap_laws.proofs.Managing.{Managed, list-is}
use Rattle.heap_laws.proofs.Releasing.{fits-of}
use Rattle.heap_blocks.proofs.Walks.{lists-fact}
use Rattle.heap_laws.proofs.Tested.{Listed, heads-fact, heads-true, reaches-chain, chain-reaches, lists-true, listed_at, listed-length, free-is}
use Rattle.heap_laws.proofs.PlacedTests.{Classed, nothing, also, classed-append, classed-free, placed-fact, placed-true, disjoint-true}
use Rattle.heap_laws.proofs.Entries.{blocks_of}

-- ---- the lists of a memory are those that stand in it

pub lists-is : {order n total : ℕ} {m : Memory} {ls : List (List ℕ)} {others : List Block} → Managed order n total m ls others → lists m ≡ ls
unfolding lists
lists-is {m} {ls} g =
    let l : length (lists_from 33 0 m) ≡ 33 = listed-length 33 0 m in
    ext_get_or [] (lists_from 33 0 m) ls (l ∙ sym g.lists-33)
    (λ i h. listed_at 33 0 i m (omega arith) ∙ (let z : 0 + i ≡ i = omega arith in rw z (list-is i g)))

-- ---- what a sound heap holds

-- lists in a memory of the state's size, with its ORDER
abbrev pub ManagedBy : State → ℕ → Memory → List (List ℕ) → List Block → Type 0
ManagedBy st total m ls others = Managed st.heap.order (length st.arena) total m ls others

pub record Held (st : State) : Type 0 where
  pub ranges : Ranges st.heap st.arena st.ledger
  pub managed : ManagedBy st st.heap.total (memory st) (lists (memory st)) (blocks_of (granted st))
  pub rows : Records st.heap.order 0 (granted st)
  pub user : st.heap.user ≡ requests (granted st)
  pub allocated : st.heap.allocated ≡ bytes_of (blocks_of (granted st))

classed-rows : {order floor : ℕ} {gs : List Grant} → Records order floor gs → Classed order (blocks_of gs)
classed-rows none = nothing
classed-rows (next l s f rest) = also (record { low = f.low; high = f.high }) (classed-rows rest)

module _ (st : State) (heads_33 : length st.heap.heads ≡ 33) (s : Sound st.heap st.arena st.ledger) where
  -- each head's walk is a chain
  walk : (j : ℕ) → Chain st.arena (head j (memory st)) (list j (memory st))
  walk j =
      let e : suc (length st.arena - 1) ≡ length st.arena = omega (arith, s.ranges.arena-low) in
      rw e at (reaches-chain (length st.arena - 1) st.arena (head j (memory st)) (lists-fact st.arena st.heap.heads s.lists j))

  chains : (j : ℕ) → Chain st.arena (head j (memory st)) (of_class j (lists_from 33 0 (memory st)))
  unfolding Chain
  chains j =
      elim (dec_le 33 j) [
        | yes h ↦
            rw (get_or-eq_default (lists_from 33 0 (memory st)) [] {n = j} (omega (arith, listed-length 33 0 (memory st))))
            (get_or-eq_default st.heap.heads 0 {n = j} (omega arith))
        | no h ↦ let z : 0 + j ≡ j = omega arith in rw (listed_at 33 0 j (memory st) (omega arith), z) (walk j)
      ]

  free-blocks : free_from 33 0 (memory st) ≡ free_of 0 (lists_from 33 0 (memory st))
  free-blocks = free-is 33 0 (memory st)

  pub held : Held st
  unfolding lists
  held =
      let rows : Records st.heap.order 0 (granted st) = records-of st.heap.order 0 (take st.heap.count st.ledger) s.records s.ascending in
      let c = sums st.heap st.arena st.ledger s.counters in
      let bytes : ℕ = length st.arena * 8 in
      let listed : (j : ℕ) → (head j (memory st) ≡ 0) ⊎ Listed st.heap.order j =
      λ j. let z : 0 + j ≡ j = omega arith in rw z at (heads-fact st.heap.order 0 st.heap.heads s.heads j) in
      let classed = classed-append (classed-free st.heap.order (memory st) listed 33 0) (classed-rows rows) in
      record {
        ranges = s.ranges;
        managed = record {
          some = omega (arith, s.ranges.arena-low);
          classes = s.ranges.order-high;
          lists-33 = listed-length 33 0 (memory st);
          heads_33 = heads_33;
          words = refl;
          chains = chains;
          placed = placed-fact bytes (free_of 0 (lists_from 33 0 (memory st)) ++ blocks_of (granted st)) classed
              (sym (ap (λ (bs : List Block). placedb bytes (bs ++ blocks_of (granted st))) free-blocks) ∙ s.placed)
              (sym (ap (λ (bs : List Block). disjointb (bs ++ blocks_of (granted st))) free-blocks) ∙ s.disjoint);
          bytes = sym (ap (λ (bs : List Block). bytes_of (bs ++ blocks_of (granted st))) free-blocks) ∙ sym c.total;
        };
        rows = rows;
        user = c.user;
        allocated = c.allocated;
      }

-- ---- a heap that holds its lists, blocks and grants is sound

module _ (st : State) {ls : List (List ℕ)} (g : ManagedBy st st.heap.total (memory st) ls (blocks_of (granted st))) where
  heads-of : (j : ℕ) (xs : List ℕ) → of_class j ls ≡ xs → Chain st.arena (head j (memory st)) xs → (head j (memory st) ≡ 0) ⊎ Listed st.heap.order (0 + j)
  unfolding Chain
  heads-of j [] e c = inl c
  heads-of j (x ∷ xs) e c =
      let f = fits-of j g e in
      inr (record { low = omega (arith, f.low); high = omega (arith, f.high) })

  walks : (j : ℕ) → reaches (length st.arena - 1) st.arena (head j (memory st)) ≡ true
  walks j =
      let w = class-within (length st.arena) j ls (placed-front (free_of 0 ls) (blocks_of (granted st)) g.placed) in
      let l = chain-few st.arena (head j (memory st)) (of_class j ls) (g.chains j) w.0 w.1 g.some in
      chain-reaches (length st.arena - 1) st.arena (head j (memory st)) (of_class j ls) (g.chains j) (omega arith)

  free-now : free_of 0 ls ≡ free_from 33 0 (memory st)
  unfolding lists
  free-now = ap (free_of 0) (sym (lists-is g)) ∙ sym (free-is 33 0 (memory st))

  counters : st.heap.user ≡ requests (granted st) → st.heap.allocated ≡ bytes_of (blocks_of (granted st)) →
      countersb st.heap st.arena st.ledger ≡ true
  unfolding countersb
  counters u a = join _ _ (join _ _ (eq-eqb _ _ u) (eq-eqb _ _ a)) (eq-eqb _ _ (sym g.bytes ∙ ap (λ (bs : List Block). bytes_of (bs ++ blocks_of (granted st))) free-now))

  pub sounds : Ranges st.heap st.arena st.ledger → recordsb st.heap.order (take st.heap.count st.ledger) ≡ true →
      ascendingb 0 (take st.heap.count st.ledger) ≡ true → zerosb (drop st.heap.count st.ledger) ≡ true → st.heap.user ≡ requests (granted st) →
      st.heap.allocated ≡ bytes_of (blocks_of (granted st)) → is_sound st ≡ true
  sounds r w o z u a =
      sound-true st.heap st.arena st.ledger (record {
        ranges = r;
        heads = heads-true st.heap.order 0 st.heap.heads (λ j. heads-of j (of_class j ls) refl (g.chains j));
        lists = lists-true st.arena st.heap.heads walks;
        records = w;
        ascending = o;
        zeros = z;
        placed = sym (ap (λ (bs : List Block). placedb (length st.arena * 8) (bs ++ blocks_of (granted st))) free-now)
            ∙ placed-true (length st.arena * 8) (free_of 0 ls ++ blocks_of (granted st)) g.placed;
        disjoint = sym (ap (λ (bs : List Block). disjointb (bs ++ blocks_of (granted st))) free-now)
            ∙ disjoint-true (free_of 0 ls ++ blocks_of (granted st)) g.placed;
        counters = counters u a;
      })
