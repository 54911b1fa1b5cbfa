-- What src/add.rt asks of a range and of its place, and what it decides there. Internal to it.
use Rattle.std.specs.Prelude.{◌≡◌, Bool, true, not, ◌&&◌, List, [], ◌∷◌, ℕ, ◌+◌, ◌-◌, ◌^◌, ◌≤◌, leb, ltb, length, get_or, drop}
use Rattle.answers.specs.Paper.{Answer}
use Rattle.answers.specs.Judging.{done, judge}
use Rattle.rules.specs.Rules.{Block, added}
use Rattle.rules.proofs.Lists.{Above}
use Rattle.rules.proofs.Looking.{GapAt}
use Rattle.table.specs.Layout.{order_of, count_of, start_of, blocks_of}
use Rattle.table.specs.Sound.{soundb}
use Rattle.frame_core.specs.Deciding.{Decision, no_room}
use Rattle.frame_core.specs.Carried.{carried, Says, reply_of}

-- the frames [s, e) belong at place i of a sound table, and touch no block of it
pub record Addable (ws : List ℕ) (i s e : ℕ) : Type 0 where
  pub sound : soundb ws ≡ true
  pub ordered : s ≤ e
  pub within : e ≤ 2 ^ 32
  pub gap : GapAt s i (blocks_of ws)
  pub clear : Above e (drop i (blocks_of ws))

-- `adding` of Adding.antt past its tests of the range and of overlap
abbrev pub placing : ℕ → ℕ → ℕ → ℕ → List Block → Decision
placing s e order capacity bs = judge (no_room capacity (added (order - 1) s e bs) ∷ []) (done (0 ∷ []) (added (order - 1) s e bs))

-- the promise: from the words before to the words after, with the answer a
abbrev pub Placed : List ℕ → ℕ → ℕ → Answer → List ℕ → Type 0
Placed before s e a after = Says (carried (0 ∷ []) before (placing s e (order_of (get_or before 0 0)) (length before - 1) (blocks_of before))) (reply_of a) after

-- there is a record at place i, and it starts before e
unfoldable pub starts_before : List ℕ → ℕ → ℕ → Bool
starts_before ws i e = not (leb (count_of (get_or ws 0 0)) i) && ltb (start_of (get_or ws (i + 1) 0)) e
