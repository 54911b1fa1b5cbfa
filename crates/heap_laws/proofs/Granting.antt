-- A grant over the words does what the rules of the lists say. Assumes nothing.
use mathlib.Core.Path.{◌≡◌, refl, sym, ap, ◌∙◌}
use mathlib.Core.Bool.{Bool, true, false}
use mathlib.Core.List.{List, [], ◌∷◌}
use Prim.Native.Nat.{ℕ, zero, suc, ◌+◌, ◌-◌, ◌^◌, ◌≤◌, ◌<◌}
use native.Mathlib.Omega.{arith}
use lib.Dec.{eqb}
use lib.ListN.{length, get_or}
use lib.Seq.{get_or-set_same}
use borrow.Author.Tests.{ne_eqb}
use Rattle.linked_list.specs.Chains.{Chain}
use Rattle.heap_state.specs.Lists.{Memory, head, pop, split, split_down, first_class}
use Rattle.heap_blocks.specs.Sound.{Block, blk}
use Rattle.heap_laws.specs.ListRules.{of_class, first, push_l, pop_l, split_l, split_down_l, serving_l, grant_l}
use Rattle.heap_laws.proofs.Managing.{Managed, push-managed, class-below}
use Rattle.heap_laws.proofs.Taking.{head_is, pop-managed}
use Rattle.heap_laws.proofs.Halves.{halve-managed}

pub pushed-first : (k a : ℕ) (ls : List (List ℕ)) → k < length ls → of_class k (push_l k a ls) ≡ a ∷ of_class k ls
unfolding push_l
pushed-first k a ls h = get_or-set_same ls k (a ∷ of_class k ls) [] h

-- ---- the class that serves

same_test : (arena : List ℕ) (a : ℕ) (xs : List ℕ) → Chain arena a xs → eqb a 0 ≡ eqb (length xs) 0
unfolding Chain
same_test arena a [] c = ap (λ (x : ℕ). eqb x 0) c
same_test arena a (x ∷ xs) c = ne_eqb a 0 (λ z. c.1 (sym c.0 ∙ z)) ∙ sym (ne_eqb (suc (length xs)) 0 (λ z. omega arith))

module _ {order n total : ℕ} {m : Memory} {ls : List (List ℕ)} {others : List Block} where
  pub serving-is : (c k : ℕ) → Managed order n total m ls others → first_class c k m ≡ serving_l c k ls
  serving-is zero k g = refl
  serving-is (suc c) k g = go (eqb (length (of_class k ls)) 0) refl (serving-is c (suc k) g)
    where
      go : (t : Bool) → eqb (length (of_class k ls)) 0 ≡ t → first_class c (suc k) m ≡ serving_l c (suc k) ls → first_class (suc c) k m ≡ serving_l (suc c) k ls
      go true e rest = rw (same_test m.arena (head k m) (of_class k ls) (g.chains k), e, first_class, serving_l) rest
      go false e rest = rw (same_test m.arena (head k m) (of_class k ls) (g.chains k), e, first_class, serving_l)

-- the class j has a block, and is the first of those from k on that has one
pub record Serves (c k j : ℕ) (ls : List (List ℕ)) : Type 0 where
  pub from : k ≤ j
  pub to : j < k + c
  pub block : ℕ
  pub rest : List ℕ
  pub is : of_class j ls ≡ block ∷ rest

serves-here : (c k : ℕ) (ls : List (List ℕ)) (xs : List ℕ) → of_class k ls ≡ xs → eqb (length xs) 0 ≡ false → Serves (suc c) k k ls
serves-here c k ls [] is e = absurd (let z : ◌≡◌ {A = ℕ} 0 1 = cc in omega arith)
serves-here c k ls (x ∷ xs) is e = record { from = omega arith; to = omega arith; block = x; rest = xs; is = is }

pub serves : (c k : ℕ) (ls : List (List ℕ)) → serving_l c k ls < 33 → Serves c k (serving_l c k ls) ls
serves zero k ls h = absurd (omega arith)
serves (suc c) k ls h = go (eqb (length (of_class k ls)) 0) refl (serves c (suc k) ls)
  where
    later : {j : ℕ} → Serves c (suc k) j ls → Serves (suc c) k j ls
    later {j} s = record { from = omega (arith, s.from); to = omega (arith, s.to); block = s.block; rest = s.rest; is = s.is }

    go : (t : Bool) → eqb (length (of_class k ls)) 0 ≡ t → (serving_l c (suc k) ls < 33 → Serves c (suc k) (serving_l c (suc k) ls) ls) →
        Serves (suc c) k (serving_l (suc c) k ls) ls
    go true e rest = rw (e, serving_l) (later (rest (rw (e, serving_l) at h)))
    go false e rest = rw (e, serving_l) (serves-here c k ls (of_class k ls) refl e)

-- ---- splitting down

-- what splits down to class k leave: the block of class k at a is the first of its list
pub record Down (order n total k a : ℕ) (m : Memory) (ls : List (List ℕ)) (others : List Block) : Type 0 where
  pub managed : Managed order n total m ls others
  pub rest : List ℕ
  pub is : of_class k ls ≡ a ∷ rest

module _ {order n total : ℕ} {others : List Block} where
  -- a split keeps the block's address first
  split-managed : {m : Memory} {ls : List (List ℕ)} {a : ℕ} {xs : List ℕ} (k : ℕ) → 3 ≤ k → Managed order n total m ls others → of_class (suc k) ls ≡ a ∷ xs →
      Managed order n total (split k m) (split_l k ls) others × (ys : List ℕ) × (of_class k (split_l k ls) ≡ a ∷ ys)
  unfolding split split_l
  split-managed {m} {ls} {a} {xs} k low g e =
      let f : first (suc k) ls ≡ a = ap (λ (l : List ℕ). get_or l 0 0) e in
      let here : suc k < 33 = class-below (suc k) g (omega (arith, ap length e)) in
      let upper = push-managed k (a + 2 ^ k) (halve-managed low (pop-managed (suc k) g e)) in
      rw (head_is (suc k) g e, f) (push-managed k a upper, _, pushed-first k a (push_l k (a + 2 ^ k) (pop_l (suc k) ls)) (omega (arith, upper.lists-33)))

  pub down-managed : {m : Memory} {ls : List (List ℕ)} {a : ℕ} {xs : List ℕ} (d k : ℕ) → 3 ≤ k → Managed order n total m ls others →
      of_class (k + d) ls ≡ a ∷ xs →
      Down order n total k a (split_down d k m) (split_down_l d k ls) others
  unfolding split_down split_down_l
  down-managed {xs} zero k low g e =
      let z : k + 0 ≡ k = omega arith in
      record { managed = g; rest = xs; is = rw z at e }
  down-managed {m} {ls} {a} {xs} (suc d) k low g e =
      let z : k + suc d ≡ suc (k + d) = omega arith in
      let s = split-managed (k + d) (omega arith) g (rw z at e) in
      down-managed {m = split (k + d) m} {ls = split_l (k + d) ls} {a = a} {xs = s.1} d k low s.0 s.2

-- ---- a grant

module _ {order n total : ℕ} {m : Memory} {ls : List (List ℕ)} {others : List Block} where
  -- a grant of class k that class j serves: the first block of class j, and the lists by the rules
  pub grant-managed : {j k c : ℕ} → 3 ≤ k → (s : Serves c k j ls) → Managed order n total m ls others →
      (head k (split_down (j - k) k m) ≡ s.block) × Managed order n total (pop k (split_down (j - k) k m)) (grant_l j k ls) (blk k s.block ∷ others)
  unfolding grant_l
  grant-managed {j} {k} low s g =
      let z : k + (j - k) ≡ j = omega (arith, s.from) in
      let e : of_class (k + (j - k)) ls ≡ s.block ∷ s.rest = rw z s.is in
      let d = down-managed (j - k) k low g e in
      (head_is k d.managed d.is, pop-managed k d.managed d.is)
