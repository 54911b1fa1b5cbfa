-- A table as the words of a state: what a call on it answers and leaves is what `decide` says of its blocks. Assumes nothing.
use mathlib.Core.Path.{◌≡◌, ap, ◌∙◌}
use mathlib.Core.Bool.{true}
use mathlib.Core.List.{List}
use Prim.Native.Nat.{ℕ, ◌-◌, ◌≤◌, ◌<◌}
use native.Mathlib.Omega.{arith}
use lib.ListN.{length}
use Rattle.rules.specs.Rules.{Block, Sound}
use Rattle.table.specs.Layout.{State, blocks_of, state_of, words_of}
use Rattle.table.specs.Sound.{soundb}
use Rattle.words.proofs.Pad.{length-pad}
use Rattle.table.proofs.State.{state, state-back, table-sound}
use Rattle.frame_core.specs.Carried.{carried}
use Rattle.frame.specs.Outcome.{Call, zeros, decide, outcome}

-- the words of a sound table of n words, with this ORDER and these blocks
pub record Stands (n order : ℕ) (bs : List Block) (ws : List ℕ) : Type 0 where
  pub is : ws ≡ words_of n (state order bs)
  pub low : 1 ≤ order
  pub high : order ≤ 33
  pub short : n ≤ 65536
  pub fits : length bs < n
  pub sound : Sound (order - 1) 0 bs

module _ {n order : ℕ} {bs : List Block} {ws : List ℕ} (t : Stands n order bs ws) where
  pub stands-length : length ws ≡ n
  stands-length = rw t.is (length-pad n _)

  pub stands-state : state_of ws ≡ state order bs
  stands-state =
      ap state_of t.is ∙ state-back n (state order bs) t.low t.high (omega (arith, t.fits, t.short)) t.fits t.sound

  pub stands-blocks : blocks_of ws ≡ bs
  stands-blocks = ap (λ (st : State). st.blocks) stands-state

  pub stands-sound : soundb ws ≡ true
  stands-sound = rw t.is (table-sound n (state order bs) t.low t.high (omega (arith, t.fits, t.short)) t.fits t.sound t.short)

  pub stands-outcome : (c : Call) → outcome c ws ≡ carried (zeros c) ws (decide c order (n - 1) bs)
  unfolding outcome
  stands-outcome c =
      rw (stands-sound, outcome)
      (ap (λ (st : State). carried (zeros c) ws (decide c st.order (length ws - 1) st.blocks)) stands-state
      ∙ ap (λ (m : ℕ). carried (zeros c) ws (decide c order (m - 1) bs)) stands-length)
