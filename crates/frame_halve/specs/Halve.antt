-- What the grants share once the block is found: it is halved towards the run, if there is room.
use Rattle.std.specs.Prelude.{◌≡◌, true, List, [], ◌∷◌, ℕ, ◌-◌, ◌≤◌, ◌<◌, length, get_or}
use Rattle.answers.specs.Judging.{done, judge}
use Rattle.rules.specs.Rules.{class, block_at, halved}
use Rattle.table.specs.Layout.{count_of, blocks_of}
use Rattle.table.specs.Sound.{soundb}
use Rattle.frame_core.specs.Deciding.{Decision, no_room}

-- the table is sound, and its block at place i is large enough for the class c
pub record Halvable (ws : List ℕ) (i c : ℕ) : Type 0 where
  pub sound : soundb ws ≡ true
  pub place : i < count_of (get_or ws 0 0)
  pub large : c ≤ class (block_at i (blocks_of ws))

abbrev pub halving : ℕ → ℕ → ℕ → List ℕ → Decision
halving c run i ws = judge (no_room (length ws - 1) (halved c run i (blocks_of ws)) ∷ []) (done (run ∷ []) (halved c run i (blocks_of ws)))
