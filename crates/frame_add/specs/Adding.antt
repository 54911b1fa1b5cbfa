-- What adding decides over the blocks of a sound table, from docs/RULES.md, "Blocks of frames" and "Refusal numbers".
use Rattle.std.specs.Prelude.{◌||◌, List, [], ◌∷◌, ℕ, ◌-◌, ◌^◌, ltb}
use Rattle.answers.specs.declared.Refusal.TheVariants.{BadRange, Overlap}
use Rattle.answers.specs.Judging.{done, refuse, judge}
use Rattle.rules.specs.Rules.{Block, some, added, overlaps}
use Rattle.frame_core.specs.Deciding.{Decision, no_room}

unfoldable pub adding : ℕ → ℕ → ℕ → ℕ → List Block → Decision
adding s e order capacity bs =
    judge
    (refuse (ltb e s || ltb (2 ^ 32) e) BadRange ∷ refuse (some (overlaps s e) bs) Overlap ∷ no_room capacity (added (order - 1) s e bs) ∷ [])
    (done (0 ∷ []) (added (order - 1) s e bs))
