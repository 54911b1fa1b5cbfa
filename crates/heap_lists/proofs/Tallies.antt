-- The lists of free blocks tested class by class, at the loop's numbers, and what a tally tells. Assumes nothing.
use mathlib.Core.Path.{◌≡◌, refl, sym, ◌∙◌}
use mathlib.Core.Bool.{Bool, true, false}
use mathlib.Core.List.{List}
use Prim.Native.Nat.{ℕ, ◌+◌, ◌^◌, ◌≤◌, ◌<◌}
use native.Mathlib.Omega.{arith}
use lib.ListN.{length, get_or}
use Rattle.std.specs.Prelude.{Some, None}
use Rattle.heap_blocks.specs.Sound.{bytes_of}
use Rattle.heap_blocks.specs.Parts.{free_up, freeb}
use Rattle.heap_blocks.proofs.Classes.{free_step, free-end, sum_step, sum-end, sum-small}
use Rattle.heap_lists.specs.Tallied.{Tallied, Classed}

pub told-some : (ok : Bool) (n m : ℕ) → Tallied ok n (Some m) → (ok ≡ true) × (m ≡ n)
told-some true n m e = (refl, cc)
told-some false n m e = let z : ◌≡◌ {A = ℕ} 0 1 = cc in absurd (omega arith)

pub told-none : (ok : Bool) (n : ℕ) → Tallied ok n None → ok ≡ false
told-none true n e = let z : ◌≡◌ {A = ℕ} 0 1 = cc in absurd (omega arith)
told-none false n e = refl

module _ (order : ℕ) (heads arena : List ℕ) (from : ℕ) where
  -- the lists of the classes from `from` up to k passed, and their blocks have so many bytes
  pub record Passed (k sum : ℕ) : Type 0 where
    pub tested : freeb order k heads arena ≡ freeb order from heads arena
    pub summed : sum + bytes_of (free_up k heads arena) ≡ bytes_of (free_up from heads arena)

  pub passed-none : Passed from 0
  passed-none = record { tested = refl; summed = omega arith }

  module _ (k sum : ℕ) (p : Passed k sum) (wide : length heads ≡ 33) where
    pub passed-all : 33 ≤ k → Tallied (freeb order from heads arena) (bytes_of (free_up from heads arena)) (Some sum)
    passed-all h =
        let t : freeb order from heads arena ≡ true = sym p.tested ∙ free-end order heads arena k h wide in
        let s : bytes_of (free_up from heads arena) ≡ sum = omega (arith, p.summed, sum-end order heads arena k h) in
        rw (t, s) refl

    module _ (more : k < 33) (room : 1 ≤ length arena) where
      pub passed-wrong : Classed order k (get_or heads k 0) arena None → Tallied (freeb order from heads arena) (bytes_of (free_up from heads arena)) None
      passed-wrong e =
          let t : freeb order from heads arena ≡ false = sym p.tested ∙ free_step order heads arena k more wide room ∙ rw (told-none _ _ e) refl in
          rw t refl

      pub passed-fits : (m : ℕ) → from ≡ 0 → length arena ≤ 1048576 → Classed order k (get_or heads k 0) arena (Some m) → sum + m < 2 ^ 64
      passed-fits m z l e =
          let small : bytes_of (free_up from heads arena) ≤ 148618787703226368 = rw z (sum-small order heads arena l) in
          omega (arith, p.summed, sum_step order heads arena k more, (told-some _ _ m e).1)

      pub passed-on : (m : ℕ) → Classed order k (get_or heads k 0) arena (Some m) → Passed (k + 1) (sum + m)
      passed-on m e =
          let w = told-some _ _ m e in
          record {
            tested = sym (sym p.tested ∙ free_step order heads arena k more wide room ∙ rw w.0 refl);
            summed = omega (arith, p.summed, sum_step order heads arena k more, w.1);
          }
