-- `heap_shown::showing::put_printed` meets its contract: the line's text is put, unless it is a list's. Assumes nothing.
use mathlib.Core.Bool.{Bool, true, false}
use mathlib.Core.Path.{◌≡◌, refl, sym, ap, ◌∙◌}
use Rattle.texts.proofs.Outputs.{still_same, still_puts}
use Rattle.heap_runs.specs.Text.{by_node}
use Rattle.heap_shown.proofs.showing.put_printed.Goals as goal

pub returns-in-Reply : goal.returns-in-Reply
returns-in-Reply g c = let p = c.put_reply.ensures in record { ready = still_puts (still_same c.requires) p; put = λ h. (refl, rw c.in-Reply.is p) }

pub returns-in-Figures : goal.returns-in-Figures
returns-in-Figures g c = let p = c.put_figures.ensures in record { ready = still_puts (still_same c.requires) p; put = λ h. (refl, rw c.in-Figures.is p) }

pub returns-in-Nodes : goal.returns-in-Nodes
returns-in-Nodes g c =
    let never : (z : by_node c.args.line ≡ false) → ⊥ = λ z. let t : ◌≡◌ {A = Bool} true false = ap by_node (sym c.in-Nodes.is) ∙ z in cc in
    record { ready = c.put_list.ensures; put = λ h. absurd (never h) }

pub returns-in-Set : goal.returns-in-Set
returns-in-Set g c = let p = c.put.ensures in record { ready = still_puts (still_same c.requires) p; put = λ h. (refl, rw c.in-Set.is p) }

pub returns-in-BadLine : goal.returns-in-BadLine
returns-in-BadLine g c = let p = c.put-in-BadLine.ensures in record { ready = still_puts (still_same c.requires) p; put = λ h. (refl, rw c.in-BadLine.is p) }
