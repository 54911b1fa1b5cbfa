-- `heap_reader::listing::nodes` meets its contract: an unsound heap is refused, and of a sound one the list is yielded. Assumes nothing.
use mathlib.Core.Path.{refl, sym, ◌∙◌}
use Rattle.heap_reader.proofs.listing.nodes.Goals as goal

pub returns-then-not-sound : goal.returns-then-not-sound
returns-then-not-sound c = record { ok = tt; err = (sym c.sound.ensures ∙ c.if-not-sound.true, refl) }

pub returns : goal.returns
returns c = record { ok = (sym c.sound.ensures ∙ c.if-not-sound.false, c.iter-2.ensures); err = tt }
