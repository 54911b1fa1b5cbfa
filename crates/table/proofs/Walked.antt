-- The records of a table, as the code takes them: the words from 1 to its count. Assumes nothing.
use Rattle.std.specs.Prelude.{◌≡◌, ℕ, ◌+◌, ◌-◌, true, List, map, get_or, slice_range}
use Rattle.std.proofs.Common.{ap, ◌∙◌}
use Rattle.std.proofs.lemmas.Slice.{between_is}
use lib.Seq.{slice}
use Rattle.rules.specs.Rules.{Sound}
use Rattle.table.specs.Layout.{order_of, count_of, block_of, records}
use Rattle.table.specs.Sound.{soundb}
use Rattle.table.proofs.State.{sound-blocks}

module _ (t : List ℕ) (count : ℕ) (e : count ≡ count_of (get_or t 0 0)) where
  pub walked : slice_range t 1 (count + 1) ≡ records t
  walked = between_is t 1 (count + 1) ∙ ap (λ (n : ℕ). slice 1 (n + 1) t) e

  pub walked-sound : soundb t ≡ true → Sound (order_of (get_or t 0 0) - 1) 0 (map block_of (slice_range t 1 (count + 1)))
  walked-sound sound = rw walked (sound-blocks t sound)
