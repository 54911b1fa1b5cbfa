-- The first class with a block, at the numbers as the code has them. Assumes nothing.
use mathlib.Core.Path.{◌≡◌, refl, sym, ap, ◌∙◌}
use mathlib.Core.Bool.{Bool, true, false}
use mathlib.Core.List.{List}
use Prim.Native.Nat.{ℕ, zero, suc, ◌+◌, ◌-◌, ◌≤◌, ◌<◌}
use native.Mathlib.Omega.{arith}
use lib.Dec.{eqb}
use lib.ListN.{get_or}
use borrow.Author.Tests.{eq-eqb, ne_eqb, eqb-false}
use Rattle.heap_state.specs.Lists.{Memory, head, first_class}
use Rattle.heap_moves.specs.Moves.{mem}

pub first-same : (n k : ℕ) (heads a b : List ℕ) → first_class n k (mem heads a) ≡ first_class n k (mem heads b)
first-same zero k heads a b = refl
first-same (suc n) k heads a b = ap (λ (j : ℕ). elim (eqb (get_or heads k 0) 0) [ true ↦ j | false ↦ k ]) (first-same n (suc k) heads a b)

module _ (order k : ℕ) (m : Memory) where
  abbrev from : ℕ → ℕ
  from j = first_class (order - j) j m

  pub first-none : order ≤ k → 33 ≡ from k
  first-none h = let z : order - k ≡ 0 = omega arith in rw z

  turn : k < order → from k ≡ first_class (suc (order - (k + 1))) k m
  turn h = let z : order - k ≡ suc (order - (k + 1)) = omega arith in ap (λ (n : ℕ). first_class n k m) z

  pub first-here : k < order → (head k m ≡ 0 → ⊥) → k ≡ from k
  first-here h q = sym (turn h ∙ rw (first_class, ne_eqb (head k m) 0 q))

  pub first-later : k < order → head k m ≡ 0 → from (k + 1) ≡ from k
  first-later h e =
      let one : k + 1 ≡ suc k = omega arith in
      sym (turn h ∙ rw (first_class, eq-eqb (head k m) 0 e) (ap (λ (j : ℕ). first_class (order - (k + 1)) j m) (sym one)))

-- a class that was found has a block, and is one of those looked at
pub record Serves (class order found : ℕ) (m : Memory) : Type 0 where
  pub suffices : class ≤ found
  pub below : found < order
  pub has_block : head found m ≡ 0 → ⊥

pub found-serves : (n class : ℕ) (m : Memory) → first_class n class m < 33 → Serves class (class + n) (first_class n class m) m
found-serves zero class m h = absurd (let z : 34 ≤ 33 = h in omega arith)
found-serves (suc n) class m h = go (eqb (head class m) 0) refl h (found-serves n (suc class) m)
  where
    go : (t : Bool) → eqb (head class m) 0 ≡ t → elim t [ true ↦ first_class n (suc class) m | false ↦ class ] < 33
        → (first_class n (suc class) m < 33 → Serves (suc class) (suc class + n) (first_class n (suc class) m) m)
        → Serves class (class + suc n) (elim t [ true ↦ first_class n (suc class) m | false ↦ class ]) m
    go true e l rest =
        let s = rest l in
        record { suffices = omega (arith, s.suffices); below = omega (arith, s.below); has_block = s.has_block }
    go false e l rest = record { suffices = omega arith; below = omega arith; has_block = eqb-false (head class m) 0 e }
