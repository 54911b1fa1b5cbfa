-- A free block is taken in hand: popped from the front of its list, or removed from anywhere in it. Assumes nothing.
use mathlib.Core.Path.{◌≡◌, refl, sym, ap, ◌∙◌}
use mathlib.Core.Bool.{true}
use mathlib.Core.List.{List, [], ◌∷◌, ◌++◌}
use Prim.Native.Nat.{ℕ, ◌/◌, ◌<◌}
use native.Mathlib.Omega.{arith}
use lib.ListN.{length, set, length-set}
use lib.Seq.{get_or-set_other, set-get_or, append_snoc}
use borrow.Author.Tests.{ltb-true}
use Rattle.linked_list.specs.Links.{position, link_to, removed, Links}
use Rattle.linked_list.specs.declared.Previous.{Previous}
use Rattle.linked_list.specs.declared.Previous.TheVariants.{Head, Word}
use Rattle.linked_list.specs.Chains.{Chain, Away, Apart, without}
use Rattle.linked_list.proofs.Removing.{unlink-frame}
use Rattle.linked_list.proofs.Positions.{Split, found-splits, found-removed}
use Rattle.heap_state.specs.Lists.{Memory, head, with_list, pop, remove, stands}
use Rattle.heap_blocks.specs.Sound.{Block, blk}
use Rattle.heap_laws.specs.ListRules.{of_class, pop_l, remove_l}
use Rattle.heap_laws.proofs.Shuffles.{◌~◌, then, back, bring, after, same_bytes}
use Rattle.heap_laws.proofs.Placing.{Placed, next, placed-shuffled, placed-front}
use Rattle.heap_laws.proofs.Free.{free_of, free-middle, away-class, first_word}
use Rattle.heap_laws.proofs.Managing.{Managed, class-below, list-is, changed}

-- a node of a list, and the blocks without it
free-taken : (k a : ℕ) (us zs : List ℕ) (ls : List (List ℕ)) → k < length ls → of_class k ls ≡ us ++ a ∷ zs →
    free_of 0 ls ~ (blk k a ∷ free_of 0 (set ls k (us ++ zs)))
free-taken k a us zs ls h e =
    let s : free_of 0 (set ls k (us ++ a ∷ zs)) ~ (blk k a ∷ free_of 0 (set ls k (us ++ zs))) = free-middle 0 k k a us zs ls (omega arith) h in
    let d : set ls k (us ++ a ∷ zs) ≡ ls = ap (set ls k) (sym e) ∙ set-get_or ls k [] in
    rw d at s

taken-shuffle : (k a : ℕ) (us zs : List ℕ) (ls : List (List ℕ)) (others : List Block) → k < length ls → of_class k ls ≡ us ++ a ∷ zs →
    (free_of 0 ls ++ others) ~ (free_of 0 (set ls k (us ++ zs)) ++ blk k a ∷ others)
taken-shuffle k a us zs ls others h e = then (after others (free-taken k a us zs ls h e)) (back (bring (blk k a) (free_of 0 (set ls k (us ++ zs))) others))

module _ {order n total : ℕ} {m : Memory} {ls : List (List ℕ)} {others : List Block} where
  -- the first node of a list is its head
  pub head_is : {a : ℕ} {xs : List ℕ} (k : ℕ) → Managed order n total m ls others → of_class k ls ≡ a ∷ xs → head k m ≡ a
  unfolding Chain
  head_is {a} {xs} k g e = let c : Chain m.arena (head k m) (a ∷ xs) = rw e at (g.chains k) in c.0

  pub pop-managed : {a : ℕ} {xs : List ℕ} (k : ℕ) → Managed order n total m ls others → of_class k ls ≡ a ∷ xs →
      Managed order n total (pop k m) (pop_l k ls) (blk k a ∷ others)
  unfolding pop pop_l Chain
  pop-managed {a} {xs} k g e =
      let c : Chain m.arena (head k m) (a ∷ xs) = rw e at (g.chains k) in
      let here : k < 33 = class-below k g (omega (arith, ap length e)) in
      let s = taken-shuffle k a [] xs ls others (omega (arith, g.lists-33)) e in
      rw (e, c.0) (record {
        some = g.some;
        classes = g.classes;
        lists-33 = length-set ls k xs ∙ g.lists-33;
        heads_33 = length-set m.heads k _ ∙ g.heads_33;
        words = g.words;
        chains = changed m.heads m.arena ls k _ xs (omega (arith, g.heads_33)) (omega (arith, g.lists-33)) c.2 (λ j q. g.chains j);
        placed = placed-shuffled s g.placed;
        bytes = sym (same_bytes s) ∙ g.bytes;
      })

-- ---- removing

removed-length : (top : ℕ) (arena : List ℕ) (before : Previous) (a : ℕ) → length (removed top arena before a).words ≡ length arena
removed-length top arena Head a = refl
removed-length top arena (Word b) a = length-set arena (b / 8) _

module _ {order bytes : ℕ} (j k : ℕ) (ls : List (List ℕ)) (differ : j ≡ k → ⊥) (here : k < length ls) (p : Placed order bytes (free_of 0 ls)) where
  -- the nodes of two lists have words of their own
  lists-apart : (us zs : List ℕ) → of_class k ls ≡ us ++ zs → Apart zs (of_class j ls)
  unfolding Apart
  lists-apart us [] e = tt
  lists-apart us (z ∷ zs) e = (go (placed-shuffled (free-taken k z us zs ls here e) p), lists-apart (us ++ z ∷ []) zs (e ∙ sym (append_snoc us z zs)))
    where
      go : Placed order bytes (blk k z ∷ free_of 0 (set ls k (us ++ zs))) → Away (z / 8) (of_class j ls)
      go (next f b q) = rw (get_or-set_other ls k j (us ++ zs) [] differ) at (away-class j (set ls k (us ++ zs)) (first_word f) b q)

module _ {order n total : ℕ} {m : Memory} {ls : List (List ℕ)} {others : List Block} where
  pub remove-managed : (k a : ℕ) → Managed order n total m ls others → stands a (of_class k ls) ≡ true →
      Managed order n total (remove k a m) (remove_l k a ls) (blk k a ∷ others)
  unfolding remove remove_l
  remove-managed k a g found = rw (list-is k g) go
    where
      xs : List ℕ
      xs = of_class k ls

      at : Split a xs
      at = found-splits a xs (ltb-true (position a xs) (length xs) found)

      before : position a xs < length xs
      before = ltb-true (position a xs) (length xs) found

      here : k < 33
      here = class-below k g (omega (arith, before))

      links : Links
      links = removed (head k m) m.arena (link_to (position a xs) xs) a

      s : (free_of 0 ls ++ others) ~ (free_of 0 (set ls k (without a xs)) ++ blk k a ∷ others)
      s = rw at.rest (taken-shuffle k a at.before at.after ls others (omega (arith, g.lists-33, here)) at.is)

      go : Managed order n total (with_list k links m) (set ls k (without a xs)) (blk k a ∷ others)
      go = record {
        some = g.some;
        classes = g.classes;
        lists-33 = length-set ls k (without a xs) ∙ g.lists-33;
        heads_33 = length-set m.heads k links.head ∙ g.heads_33;
        words = removed-length (head k m) m.arena (link_to (position a xs) xs) a ∙ g.words;
        chains = changed m.heads links.words ls k links.head (without a xs) (omega (arith, g.heads_33, here)) (omega (arith, g.lists-33, here))
            (found-removed m.arena (head k m) a xs (g.chains k) found)
            (λ j q. unlink-frame m.arena (head k m) (head j m) a (position a xs) xs (of_class j ls) (g.chains j)
            (lists-apart j k ls q (omega (arith, g.lists-33, here)) (placed-front (free_of 0 ls) others g.placed) [] xs refl) (omega (arith, before)));
        placed = placed-shuffled s g.placed;
        bytes = sym (same_bytes s) ∙ g.bytes;
      }
