-- What releasing decides over the blocks of a sound table, from docs/RULES.md, "Blocks of frames" and "Refusal numbers".
use Rattle.std.specs.Prelude.{not, List, [], ◌∷◌, ℕ, ◌-◌}
use Rattle.answers.specs.declared.Refusal.TheVariants.{NotGranted}
use Rattle.answers.specs.Judging.{done, refuse, judge}
use Rattle.rules.specs.Rules.{Block, some, is_granted, released}
use Rattle.frame_core.specs.Deciding.{Decision}

-- "no granted block has that start and rounded size"; "a release therefore never lacks room"
unfoldable pub releasing : ℕ → ℕ → ℕ → List Block → Decision
releasing s c order bs = judge (refuse (not (some (is_granted c s) bs)) NotGranted ∷ []) (done (0 ∷ []) (released (order - 1) c s bs))
