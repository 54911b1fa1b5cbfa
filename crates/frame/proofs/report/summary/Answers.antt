-- `frame::summary` meets its contract: the soundness test, then the pass that counts. Assumes nothing.
use mathlib.Core.Path.{◌≡◌, refl, sym, ◌∙◌}
use mathlib.Core.Bool.{true, false}
use mathlib.Core.List.{List, [], ◌∷◌}
use Prim.Native.Nat.{ℕ, ◌^◌, ◌<◌}
use lib.ListN.{get_or}
use Rattle.table.specs.Layout.{blocks_of}
use Rattle.table.specs.Sound.{soundb}
use Rattle.table.proofs.State.{table_is}
use Rattle.frame_core.specs.Carried.{Says}
use Rattle.frame_core.specs.Tally.{Tallied}
use Rattle.std.proofs.lemmas.Result.{err_from_is_err_and}
use Rattle.frame.specs.Outcome.{Summary, outcome, decide}
use Rattle.frame.proofs.report.summary.Goals as goal

refused : (ws : List ℕ) → soundb ws ≡ false → Says (outcome Summary ws) (record { number = 3; values = 0 ∷ 0 ∷ 0 ∷ [] }) ws
unfolding outcome
refused ws e = rw (e, outcome) (record { reply = refl; words = refl })

summed : (ws : List ℕ) → soundb ws ≡ true → ((k : ℕ) → get_or ws k 0 < 2 ^ 64) → (g m l : ℕ) → Tallied (blocks_of ws) g m l
    → Says (outcome Summary ws) (record { number = 0; values = g ∷ m ∷ l ∷ [] }) ws
unfolding outcome decide
summed ws sound fits g m l t =
    rw (sound, outcome)
    (record {
      reply = rw (t.granted_are, t.managed_are, t.largest_is);
      words = table_is ws sound fits;
    })

pub returns-in_err-checked : goal.returns-in_err-checked
returns-in_err-checked c =
    let p = err_from_is_err_and c.from_residual.result c.from_residual.ensures.1 in
    rw (p.1, p.2, c.in_err-checked.ensures.err.0) (refused c.args.t.now c.in_err-checked.ensures.err.1)

pub returns : goal.returns
returns c =
    summed c.args.t.now c.in_ok-checked.ensures.ok (λ j. (c.type_inv.t j).fits)
    _ _ _ c.count_frames.ensures
