-- One list of free blocks, node by node, at the walk's numbers. Assumes nothing.
use mathlib.Core.Path.{◌≡◌, refl, sym, ap, ◌∙◌}
use mathlib.Core.Bool.{Bool, true, false, ◌&&◌}
use mathlib.Core.List.{List, [], ◌∷◌, map}
use Prim.Native.Nat.{ℕ, zero, suc, ◌+◌, ◌-◌, ◌^◌, ◌≤◌, ◌<◌}
use native.Mathlib.Omega.{arith}
use lib.Dec.{ltb, leb-suc-suc}
use lib.ListN.{length, get_or}
use borrow.Author.Tests.{lt-ltb, ne_eqb}
use Rattle.words.proofs.Tests.{both, and-false}
use Rattle.linked_list.specs.Links.{next, nodes}
use Rattle.linked_list.proofs.Steps.{nodes-end, nodes-step}
use Rattle.heap_blocks.specs.Sound.{blk, reaches, listsb, placedb, bytes_of}
use Rattle.heap_blocks.specs.Parts.{blockb, list_blocks, listb}
use Rattle.heap_blocks.proofs.Heads.{placed-cons}
use Rattle.heap_blocks.proofs.Counters.{nodes-bytes}

pub blocks_end : (k most : ℕ) (arena : List ℕ) (a : ℕ) → a ≡ 0 → list_blocks k most arena a ≡ []
blocks_end k most arena a e = rw (e, nodes-end most arena)

pub blocks_step : (k most left : ℕ) (arena : List ℕ) (a : ℕ) → most ≡ suc left → (a ≡ 0 → ⊥) →
    list_blocks k most arena a ≡ blk k a ∷ list_blocks k left arena (next arena a)
blocks_step k most left arena a e q = ap (map (blk k)) (nodes-step most left arena a e q)

pub reaches_end : (fewer : ℕ) (arena : List ℕ) → reaches fewer arena 0 ≡ true
unfolding reaches
reaches_end zero arena = refl
reaches_end (suc fewer) arena = refl

reaches_step : (fewer left : ℕ) (arena : List ℕ) (a : ℕ) → fewer ≡ suc left → (a ≡ 0 → ⊥) → reaches fewer arena a ≡ reaches left arena (next arena a)
unfolding reaches
reaches_step fewer left arena a e q = rw (e, ne_eqb a 0 q)

-- 0 is reached where a walk yields fewer nodes than it may
pub reaches-few : (fewer : ℕ) (arena : List ℕ) (a : ℕ) → reaches fewer arena a ≡ ltb (length (nodes (suc fewer) arena a)) (suc fewer)
unfolding reaches nodes
reaches-few zero arena zero = refl
reaches-few zero arena (suc a) = ne_eqb (suc a) 0 (λ z. omega arith)
reaches-few (suc fewer) arena zero = sym (lt-ltb 0 (suc (suc fewer)) (omega arith))
reaches-few (suc fewer) arena (suc a) =
    rw (ne_eqb (suc a) 0 (λ z. omega arith)) (reaches-few fewer arena (next arena (suc a)) ∙ sym (leb-suc-suc (suc (length (nodes (suc fewer) arena (next arena (suc a))))) (suc fewer)))

-- each head reaches 0, and so does the 0 of a class without a list
pub lists-fact : (arena heads : List ℕ) → listsb arena heads ≡ true → (j : ℕ) → reaches (length arena - 1) arena (get_or heads j 0) ≡ true
lists-fact arena [] e j = reaches_end (length arena - 1) arena
lists-fact arena (a ∷ heads) e zero = (both (reaches (length arena - 1) arena a) (listsb arena heads) e).0
lists-fact arena (a ∷ heads) e (suc j) = lists-fact arena heads (both (reaches (length arena - 1) arena a) (listsb arena heads) e).1 j

module _ (bytes k fewer : ℕ) (arena : List ℕ) (a : ℕ) where
  -- fewer nodes than the walk may yield, and each a block in its place
  pub list-is : listb bytes k fewer arena a ≡ ltb (length (nodes (suc fewer) arena a)) (suc fewer) && placedb bytes (list_blocks k (suc fewer) arena a)
  unfolding listb
  list-is = rw (reaches-few fewer arena a)

  pub list-end : a ≡ 0 → listb bytes k fewer arena a ≡ true
  unfolding listb
  list-end e = rw (e, reaches_end fewer arena, nodes-end (suc fewer) arena)
