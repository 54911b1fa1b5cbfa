-- The joins of a release, turn by turn, at the numbers as the code has them. Assumes nothing.
use mathlib.Core.Path.{◌≡◌, refl, sym, ap, ap₂, ◌∙◌}
use mathlib.Core.Bool.{true, false}
use mathlib.Core.List.{List}
use Prim.Native.Nat.{ℕ, suc, ◌+◌, ◌-◌, ◌*◌, ◌≤◌, ◌<◌, min}
use native.Mathlib.Omega.{arith}
use lib.ListN.{length, get_or, set}
use Rattle.blocks.specs.Blocks.{buddy_of}
use Rattle.linked_list.specs.Links.{nodes, searched, compared, removed, Left}
use Rattle.linked_list.specs.declared.Previous.{Previous}
use Rattle.linked_list.specs.declared.Search.{Search}
use Rattle.linked_list.proofs.Chains.{nodes-few}
use Rattle.heap_state.specs.Lists.{Memory, head, list, stands, push, pop, remove, join_up, release}
use Rattle.heap_moves.specs.Moves.{mem, taken_out, released}

pub taken-out-is : (heads arena words : List ℕ) (class node first : ℕ) (previous : Previous) → Left (removed (get_or heads class 0) arena previous node) first words
    → mem (set heads class first) words ≡ taken_out class previous node (mem heads arena)
unfolding taken_out
taken-out-is heads arena words class node first previous l = ap₂ (λ (h : ℕ) (ws : List ℕ). mem (set heads class h) ws) l.head_is l.words_are

-- the joins to come of what is there, after so many compared nodes, are all that come after the push
pub record Joins (top class block : ℕ) (before now : Memory) (k low compared : ℕ) : Type 0 where
  pub rest : join_up (top - k) k low compared now ≡ join_up (top - class) class block 0 before
  pub few : compared ≤ (k - class) * 1048576
  pub low-class : class ≤ k
  pub is_class : k < 33

pub joins-start : (top class block : ℕ) (m : Memory) → class < 33 → Joins top class block m m class block 0
joins-start top class block m h = record { rest = refl; few = omega arith; low-class = omega arith; is_class = h }

pub release-is : (top class block : ℕ) (before now : Memory) → now ≡ push class block before → join_up (top - class) class block 0 now ≡ release top class block before
unfolding release
release-is top class block before now e = ap (join_up (top - class) class block 0) e

-- ---- one turn

module _ (top k low before : ℕ) (m : Memory) (b n : ℕ) (s : Search) where
  abbrev Looked : Type 0
  Looked = (b ≡ buddy_of k low) × (n ≡ length m.arena) × (s ≡ searched b (nodes n m.arena (head k m)))

  looked-is : Looked → s ≡ searched (buddy_of k low) (list k m)
  looked-is l = rw (← l.0, ← l.1) l.2

  turn : k < top → join_up (top - k) k low before m ≡ join_up (suc (top - (k + 1))) k low before m
  turn h = let e : top - k ≡ suc (top - (k + 1)) = omega arith in ap (λ (f : ℕ). join_up f k low before m) e

  miss-turn : (above : ℕ) → stands (buddy_of k low) (list k m) ≡ false → join_up (suc above) k low before m ≡ released (before + compared (buddy_of k low) (list k m)) m
  unfolding join_up
  miss-turn above e = rw (join_up, e)

  hit-turn : (above : ℕ) → stands (buddy_of k low) (list k m) ≡ true
      → join_up (suc above) k low before m ≡ join_up above (suc k) (min low (buddy_of k low)) (before + compared (buddy_of k low) (list k m)) (push (suc k) (min low (buddy_of k low)) (pop k (remove k (buddy_of k low) m)))
  unfolding join_up
  hit-turn above e = rw (join_up, e)

  pub join-miss : k < top → Looked → s.found ≡ false → released (before + s.compared) m ≡ join_up (top - k) k low before m
  join-miss h l f =
      let e = looked-is l in
      ap (λ (x : Search). released (before + x.compared) m) e ∙ sym (miss-turn (top - (k + 1)) (sym (ap (λ (x : Search). x.found) e) ∙ f)) ∙ sym (turn h)

  removed-is : Looked → taken_out k s.previous b m ≡ remove k (buddy_of k low) m
  unfolding taken_out remove
  removed-is l = ap₂ (λ (p : Previous) (a : ℕ). taken_out k p a m) (ap (λ (x : Search). x.previous) (looked-is l)) l.0

  pub join-hit : (m₁ m₂ m₃ : Memory) (next : ℕ) → k < top → Looked → s.found ≡ true → m₁ ≡ taken_out k s.previous b m → m₂ ≡ pop k m₁ → next ≡ min low b → m₃ ≡ push (k + 1) next m₂
      → join_up (top - (k + 1)) (k + 1) next (before + s.compared) m₃ ≡ join_up (top - k) k low before m
  join-hit m₁ m₂ m₃ next h l f e₁ e₂ en e₃ =
      let e = looked-is l in
      let one : k + 1 ≡ suc k = omega arith in
      let w : next ≡ min low (buddy_of k low) = en ∙ ap (min low) l.0 in
      let t : m₃ ≡ push (suc k) (min low (buddy_of k low)) (pop k (remove k (buddy_of k low) m)) =
      e₃ ∙ ap (λ (j : ℕ). push j next m₂) one ∙ ap₂ (λ (a : ℕ) (x : Memory). push (suc k) a x) w (e₂ ∙ ap (pop k) (e₁ ∙ removed-is l)) in
      ap (λ (x : Search). join_up (top - (k + 1)) (k + 1) next (before + x.compared) m₃) e
      ∙ ap (λ (j : ℕ). join_up (top - (k + 1)) j next (before + compared (buddy_of k low) (list k m)) m₃) one
      ∙ ap₂ (λ (a : ℕ) (x : Memory). join_up (top - (k + 1)) (suc k) a (before + compared (buddy_of k low) (list k m)) x) w t
      ∙ sym (hit-turn (top - (k + 1)) (sym (ap (λ (x : Search). x.found) e) ∙ f))
      ∙ sym (turn h)

  -- a search compares no more nodes than the arena has words
  pub looked-few : Looked → s.compared ≤ length m.arena
  looked-few l =
      let e : s.compared ≡ compared b (nodes n m.arena (head k m)) = ap (λ (x : Search). x.compared) l.2 in
      omega (arith, nodes-few n m.arena (head k m), l.1)

pub join-none : (top k low before : ℕ) (m : Memory) → top ≤ k → released before m ≡ join_up (top - k) k low before m
unfolding join_up
join-none top k low before m h = let e : top - k ≡ 0 = omega arith in rw e
