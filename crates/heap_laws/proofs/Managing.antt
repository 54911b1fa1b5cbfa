-- A memory that holds lists, with blocks in hand beside the free ones; a block in hand is pushed, a free one is taken in hand. Assumes nothing.
use mathlib.Core.Path.{◌≡◌, sym, ap, ◌∙◌}
use mathlib.Core.List.{List, [], ◌∷◌, ◌++◌}
use Prim.Native.Nat.{ℕ, ◌+◌, ◌*◌, ◌/◌, ◌^◌, ◌≤◌, ◌<◌}
use native.Mathlib.Decide.{ℕ_discrete, dec_le}
use native.Mathlib.Omega.{arith}
use lib.ListN.{length, get_or, set, length-set, get_or-eq_default}
use lib.Seq.{get_or-set_same, get_or-set_other, set-get_or}
use Rattle.linked_list.specs.Links.{linked}
use Rattle.linked_list.specs.Chains.{Chain, Away}
use Rattle.linked_list.proofs.Chains.{chain-nodes, frame, push-chain}
use Rattle.linked_list.proofs.Counting.{chain-few}
use Rattle.heap_state.specs.Lists.{Memory, head, list, push}
use Rattle.heap_blocks.specs.Sound.{Block, blk, bytes_of}
use Rattle.heap_laws.specs.ListRules.{of_class, push_l}
use Rattle.heap_laws.specs.Claims.{Word}
use Rattle.heap_laws.proofs.Shuffles.{◌~◌, then, back, bring, after, before, same_bytes}
use Rattle.heap_laws.proofs.Placing.{Fits, Beside, Placed, next, placed-shuffled, placed-front, beside-front}
use Rattle.heap_laws.proofs.Free.{free_of, free-middle, away-class, class-within, first_word}

-- the lists ls stand in the memory, and their blocks with the others in hand are placed and apart, and come to so many bytes
pub record Managed (order n total : ℕ) (m : Memory) (ls : List (List ℕ)) (others : List Block) : Type 0 where
  pub some : 0 < n
  pub classes : order ≤ 33
  pub lists-33 : length ls ≡ 33
  pub heads_33 : length m.heads ≡ 33
  pub words : length m.arena ≡ n
  pub chains : (j : ℕ) → Chain m.arena (head j m) (of_class j ls)
  pub placed : Placed order (n * 8) (free_of 0 ls ++ others)
  pub bytes : bytes_of (free_of 0 ls ++ others) ≡ total

module _ {order n total : ℕ} {m : Memory} {ls : List (List ℕ)} where
  -- the blocks in hand in another order, or other blocks in the same place
  pub regrouped : {others others' : List Block} → Managed order n total m ls others → Placed order (n * 8) (free_of 0 ls ++ others') →
      bytes_of (free_of 0 ls ++ others') ≡ total →
      Managed order n total m ls others'
  regrouped g p b = record {
    some = g.some;
    classes = g.classes;
    lists-33 = g.lists-33;
    heads_33 = g.heads_33;
    words = g.words;
    chains = g.chains;
    placed = p;
    bytes = b;
  }

  pub reordered : {others others' : List Block} → others ~ others' → Managed order n total m ls others → Managed order n total m ls others'
  reordered r g =
      let s = before (free_of 0 ls) r in
      regrouped g (placed-shuffled s g.placed) (sym (same_bytes s) ∙ g.bytes)

  -- one more block is taken in hand
  pub picked-up : {others : List Block} (k a : ℕ) → Fits order (n * 8) k a → Beside (blk k a) (free_of 0 ls ++ others) → Managed order n total m ls others →
      Managed order n (total + 2 ^ k) m ls (blk k a ∷ others)
  picked-up {others} k a f b g =
      let s = back (bring (blk k a) (free_of 0 ls) others) in
      record {
        some = g.some;
        classes = g.classes;
        lists-33 = g.lists-33;
        heads_33 = g.heads_33;
        words = g.words;
        chains = g.chains;
        placed = placed-shuffled s (next f b g.placed);
        bytes = omega (arith, same_bytes s, g.bytes);
      }

  -- the first block in hand comes before the free ones
  pub in-hand : {b : Block} {others : List Block} → Managed order n total m ls (b ∷ others) → Placed order (n * 8) (b ∷ (free_of 0 ls ++ others))
  in-hand {b} {others} g = placed-shuffled (bring b (free_of 0 ls) others) g.placed

  -- a class with a block is one of the 33
  pub class-below : {others : List Block} (k : ℕ) → Managed order n total m ls others → 0 < length (of_class k ls) → k < 33
  class-below k g h =
      elim (dec_le 33 k) [
        | yes l ↦ absurd (let z : length (of_class k ls) ≡ 0 = ap length (get_or-eq_default ls [] {n = k} (omega (arith, g.lists-33))) in omega arith)
        | no l ↦ omega arith
      ]

  -- the nodes that a walk yields are the list
  pub list-is : {others : List Block} (k : ℕ) → Managed order n total m ls others → list k m ≡ of_class k ls
  list-is {others} k g =
      let w = class-within n k ls (placed-front (free_of 0 ls) others g.placed) in
      let e : length m.arena ≡ n = g.words in
      let l = chain-few m.arena (head k m) (of_class k ls) (g.chains k) (rw e w.0) w.1 (omega (arith, g.some)) in
      chain-nodes (length m.arena) m.arena (head k m) (of_class k ls) (g.chains k) (omega arith)

-- ---- one list is another afterwards, and the others stay

module _ (heads arena : List ℕ) (ls : List (List ℕ)) (k h : ℕ) (xs : List ℕ) (in-heads : k < length heads) (in-lists : k < length ls) where
  pub changed : Chain arena h xs → ((j : ℕ) → (j ≡ k → ⊥) → Chain arena (get_or heads j 0) (of_class j ls)) → (j : ℕ) →
      Chain arena (get_or (set heads k h) j 0) (of_class j (set ls k xs))
  changed c rest j =
      elim (ℕ_discrete j k) [
        | yes e ↦ rw (e, get_or-set_same heads k h 0 in-heads, get_or-set_same ls k xs [] in-lists) c
        | no q ↦ rw (get_or-set_other heads k j h 0 q, get_or-set_other ls k j xs [] q) (rest j q)
      ]

-- ---- the moves

pub push-shuffle : (k a : ℕ) (ls : List (List ℕ)) (others : List Block) → k < length ls →
    (free_of 0 ls ++ blk k a ∷ others) ~ (free_of 0 (push_l k a ls) ++ others)
unfolding push_l
push-shuffle k a ls others h =
    let s : free_of 0 (set ls k (a ∷ of_class k ls)) ~ (blk k a ∷ free_of 0 (set ls k (of_class k ls))) =
    free-middle 0 k k a [] (of_class k ls) ls (omega arith) h in
    then (bring (blk k a) (free_of 0 ls) others) (back (after others (rw (set-get_or ls k []) at s)))

pub push-managed : {order n total : ℕ} {m : Memory} {ls : List (List ℕ)} {others : List Block} (k a : ℕ) → Managed order n total m ls (blk k a ∷ others) →
    Managed order n total (push k a m) (push_l k a ls) others
unfolding push push_l
push-managed {order} {n} {total} {m} {ls} {others} k a g = go (in-hand g)
  where
    go : Placed order (n * 8) (blk k a ∷ (free_of 0 ls ++ others)) → Managed order n total (push k a m) (push_l k a ls) others
    go (next f b p) =
        let here : k < 33 = omega (arith, f.high, g.classes) in
        let away : (j : ℕ) → Away (a / 8) (of_class j ls) =
        λ j. away-class j ls (first_word f) (beside-front (free_of 0 ls) others b) (placed-front (free_of 0 ls) others p) in
        let w = first_word f in
        let s = push-shuffle k a ls others (omega (arith, g.lists-33)) in
        record {
          some = g.some;
          classes = g.classes;
          lists-33 = length-set ls k (a ∷ of_class k ls) ∙ g.lists-33;
          heads_33 = length-set m.heads k a ∙ g.heads_33;
          words = length-set m.arena (a / 8) (head k m) ∙ g.words;
          chains = changed m.heads (linked m.arena a (head k m)) ls k a (a ∷ of_class k ls) (omega (arith, g.heads_33)) (omega (arith, g.lists-33))
              (push-chain m.arena (head k m) a (of_class k ls) (g.chains k) (λ z. omega (arith, f.above)) (omega (arith, f.inside, g.words, w.to)) (away k))
              (λ j q. frame m.arena (head j m) (a / 8) (head k m) (of_class j ls) (g.chains j) (away j));
          placed = placed-shuffled s g.placed;
          bytes = sym (same_bytes s) ∙ g.bytes;
        }

-- a store into a word of a block in hand changes no list
pub store-managed : {order n total : ℕ} {m : Memory} {ls : List (List ℕ)} {others : List Block} {k a : ℕ} (w v : ℕ) → Word w k a →
    Managed order n total m ls (blk k a ∷ others) → Managed order n total (record { heads = m.heads; arena = set m.arena w v }) ls (blk k a ∷ others)
store-managed {order} {n} {total} {m} {ls} {others} {k} {a} w v inside g = go (in-hand g)
  where
    go : Placed order (n * 8) (blk k a ∷ (free_of 0 ls ++ others)) →
        Managed order n total (record { heads = m.heads; arena = set m.arena w v }) ls (blk k a ∷ others)
    go (next f b p) = record {
      some = g.some;
      classes = g.classes;
      lists-33 = g.lists-33;
      heads_33 = g.heads_33;
      words = length-set m.arena w v ∙ g.words;
      chains = λ j. frame m.arena (head j m) w v (of_class j ls) (g.chains j)
          (away-class j ls inside (beside-front (free_of 0 ls) others b) (placed-front (free_of 0 ls) others p));
      placed = g.placed;
      bytes = g.bytes;
    }
