-- `heap_runs::running::figures` meets its contract: each figure has its outcome. Assumes nothing.
use mathlib.Core.Path.{refl}
use Rattle.heap_runs.specs.Text.{figures_text}
use Rattle.heap_runs.proofs.running.figures.Goals as goal

pub returns : goal.returns
returns c =
    let u = c.stats_alloc_user-user.ensures in
    let g = c.stats_alloc_actual-allocated.ensures in
    let t = c.stats_total_bytes-total.ensures in
    record { line_is = λ i. figures_text (u.number_is i) (u.value_is i) (g.value_is i) (t.value_is i); long_is = refl }
