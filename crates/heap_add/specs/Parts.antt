-- Forms of the promises of the parts in src/.
use Rattle.std.specs.Prelude.{[], ◌∷◌, ℕ, ◌+◌, ◌-◌}
use Rattle.answers.specs.declared.Refusal.TheVariants.{Overlap}
use Rattle.heap_state.specs.Lists.{push_all}
use Rattle.heap_blocks.specs.Sound.{all_blocks}
use Rattle.heap_state.specs.State.{State}
use Rattle.answers.specs.Judging.{done, refuse, judge}
use Rattle.heap_core.specs.Deciding.{Decision, memory, top}
use Rattle.heap_overlap.specs.Meeting.{meets}
use Rattle.heap_add.specs.Adding.{with_lists}

-- what is decided of the bytes [from, to), whole words and not none, once they are known to be inside the arena and above address 0
unfoldable pub adding_words : ℕ → ℕ → State → Decision
adding_words from to st =
    judge (refuse (meets from to (all_blocks st.heap st.arena st.ledger)) Overlap ∷ [])
    (done 0 (with_lists st (push_all (to - from) (top st) from (to - from) (memory st)) (st.heap.total + (to - from))))
