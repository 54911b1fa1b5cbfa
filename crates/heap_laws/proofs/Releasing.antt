-- A release over the words does what the rules of the lists say, and compares as many nodes. Assumes nothing.
use mathlib.Core.Path.{◌≡◌, refl, ap, ◌∙◌}
use mathlib.Core.Bool.{Bool, true, false}
use mathlib.Core.List.{List, [], ◌∷◌}
use Prim.Native.Nat.{ℕ, zero, suc, ◌+◌, ◌-◌, ◌*◌, ◌≤◌, ◌<◌, min}
use native.Mathlib.Omega.{arith}
use lib.Pow.{pow_pos}
use lib.ListN.{length, length-set}
use lib.Seq.{get_or-set_same}
use borrow.Author.Tests.{eq-eqb, ne_eqb}
use Rattle.blocks.specs.Blocks.{buddy_of}
use Rattle.blocks.specs.Laws.{Buddies, upper, lower}
use Rattle.blocks.proofs.Buddies.{pair}
use Rattle.linked_list.specs.Links.{compared}
use Rattle.linked_list.specs.Chains.{without}
use Rattle.heap_state.specs.Lists.{Memory, push, pop, remove, stands, Released, join_up, release}
use Rattle.heap_blocks.specs.Sound.{Block, blk}
use Rattle.heap_laws.specs.ListRules.{of_class, push_l, pop_l, remove_l, ReleasedL, join_up_l, release_l}
use Rattle.heap_laws.proofs.Placing.{Fits, Placed, next}
use Rattle.heap_laws.proofs.Managing.{Managed, in-hand, push-managed, list-is}
use Rattle.heap_laws.proofs.Taking.{pop-managed, remove-managed}
use Rattle.heap_laws.proofs.Halves.{join-managed}
use Rattle.heap_laws.proofs.Granting.{pushed-first}

-- a block is not its own buddy
buddy-differs : (k a b : ℕ) → Buddies k a b → a ≡ b → ⊥
buddy-differs k a b (upper f e) q = omega (arith, pow_pos k)
buddy-differs k a b (lower f e) q = omega (arith, pow_pos k)

-- the first of a list stays first where another is taken out, and is itself what a pop takes out
others-out : (k a b : ℕ) (ls : List (List ℕ)) (xs : List ℕ) → k < length ls → (a ≡ b → ⊥) → of_class k ls ≡ a ∷ xs →
    of_class k (remove_l k b ls) ≡ a ∷ without b xs
unfolding remove_l without
others-out k a b ls xs h q e = get_or-set_same ls k (without b (of_class k ls)) [] h ∙ rw (e, ne_eqb a b q)

removed-length : (k a : ℕ) (ls : List (List ℕ)) → length (remove_l k a ls) ≡ length ls
unfolding remove_l
removed-length k a ls = length-set ls k (without a (of_class k ls))

first_out : (k a : ℕ) (ls : List (List ℕ)) (xs : List ℕ) → of_class k ls ≡ a ∷ xs → pop_l k ls ≡ remove_l k a ls
unfolding pop_l remove_l without
first_out k a ls xs e = rw (e, eq-eqb a a refl)

module _ {order n total : ℕ} {m : Memory} {ls : List (List ℕ)} {others : List Block} where
  pub fits-of : {a : ℕ} {xs : List ℕ} (k : ℕ) → Managed order n total m ls others → of_class k ls ≡ a ∷ xs → Fits order (n * 8) k a
  fits-of {a} k g e = go (in-hand (pop-managed k g e))
    where
      go : {bs : List Block} → Placed order (n * 8) (blk k a ∷ bs) → Fits order (n * 8) k a
      go (next f b p) = f

  -- "both are taken out and the joined block is pushed one class up"
  one_up : {a : ℕ} {xs : List ℕ} (k : ℕ) → suc k < order → Managed order n total m ls others → of_class k ls ≡ a ∷ xs →
      stands (buddy_of k a) (of_class k ls) ≡ true →
      Managed order n total (push (suc k) (min a (buddy_of k a)) (pop k (remove k (buddy_of k a) m)))
      (push_l (suc k) (min a (buddy_of k a)) (remove_l k a (remove_l k (buddy_of k a) ls)))
      others
  one_up {a} {xs} k up g e found =
      let b = buddy_of k a in
      let f = fits-of k g e in
      let small : k ≤ 32 = omega (arith, g.classes) in
      let q : a ≡ b → ⊥ = buddy-differs k a b (pair k a small f.aligned) in
      let e' : of_class k (remove_l k b ls) ≡ a ∷ without b xs = others-out k a b ls xs (omega (arith, g.lists-33)) q e in
      let r = pop-managed k (remove-managed k b g found) e' in
      push-managed (suc k) (min a b) (join-managed k up a small f.aligned (rw (first_out k a (remove_l k b ls) (without b xs) e') at r))

-- the memory and the count after a release are those of the rules
pub record Freed (order n total : ℕ) (r : Released) (l : ReleasedL) (others : List Block) : Type 0 where
  pub managed : Managed order n total r.memory l.lists others
  pub compared : r.nodes_compared ≡ l.nodes_compared

joined_up : {order n total : ℕ} {m : Memory} {ls : List (List ℕ)} {others : List Block} {xs : List ℕ} (above k a before : ℕ) → k + above < order →
    Managed order n total m ls others → of_class k ls ≡ a ∷ xs → Freed order n total (join_up above k a before m) (join_up_l above k a before ls) others
unfolding join_up join_up_l
joined_up zero k a before h g e = record { managed = g; compared = refl }
joined_up {order} {n} {total} {m} {ls} {others} (suc above) k a before h g e =
    go (stands b (of_class k ls)) refl
    (λ found. let g' = one_up k (omega arith) g e found in
    let l : length (remove_l k a (remove_l k b ls)) ≡ length ls = removed-length k a (remove_l k b ls) ∙ removed-length k b ls in
    joined_up {m = push (suc k) c (pop k (remove k b m))} {ls = push_l (suc k) c (remove_l k a (remove_l k b ls))} above (suc k) c (before + compared b (of_class k ls)) (omega arith) g' (pushed-first (suc k) c (remove_l k a (remove_l k b ls)) (omega (arith, g.lists-33, g.classes))))
  where
    b : ℕ
    b = buddy_of k a

    c : ℕ
    c = min a b

    go : (t : Bool) → stands b (of_class k ls) ≡ t →
        (stands b (of_class k ls) ≡ true → Freed order n total (join_up above (suc k) c (before + compared b (of_class k ls)) (push (suc k) c (pop k (remove k b m))))
        (join_up_l above (suc k) c (before + compared b (of_class k ls)) (push_l (suc k) c (remove_l k a (remove_l k b ls)))) others) →
        Freed order n total (join_up (suc above) k a before m) (join_up_l (suc above) k a before ls) others
    go true e rest = rw (list-is k g, e, join_up, join_up_l) (rw (list-is k g) (rest e))
    go false e rest = rw (list-is k g, e, join_up, join_up_l) (record { managed = g; compared = ap (λ (l : List ℕ). before + compared b l) (list-is k g) })

pub release-managed : {order n total : ℕ} {m : Memory} {ls : List (List ℕ)} {others : List Block} (top k a : ℕ) → k ≤ top → top < order →
    Managed order n total m ls (blk k a ∷ others) → Freed order n total (release top k a m) (release_l top k a ls) others
unfolding release release_l
release-managed {ls} top k a low high g =
    joined_up (top - k) k a 0 (omega arith) (push-managed k a g) (pushed-first k a ls (omega (arith, g.lists-33, g.classes)))
