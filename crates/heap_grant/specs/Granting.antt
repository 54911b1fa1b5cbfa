-- What granting decides on a sound heap, from docs/RULES.md, "The heap over an arena" and "Refusal numbers".
use Rattle.std.specs.Prelude.{not, ◌||◌, [], ◌∷◌, ℕ, ◌+◌, ◌-◌, ◌^◌, leb, length}
use Rattle.answers.specs.declared.Refusal.TheVariants.{BadAlign, NoBlock, NoRoom}
use Rattle.blocks.specs.Blocks.{is_power_of_two}
use Rattle.ledger.specs.Ledger.{grant, enter}
use Rattle.heap_state.specs.Lists.{head, pop, first_class, split_down}
use Rattle.heap_state.specs.State.{State}
use Rattle.answers.specs.Judging.{done, refuse, judge}
use Rattle.heap_core.specs.Deciding.{Decision, memory, granted, class_for, with_grants}

-- the class that serves class k: the first with a block, from k to ORDER - 1
abbrev pub serving : ℕ → State → ℕ
serving k st = first_class (st.heap.order - k) k (memory st)

abbrev pub granted_from : ℕ → ℕ → State → State
granted_from k size st =
    with_grants st (pop k (split_down (serving k st - k) k (memory st))) (enter (grant k size (head k (split_down (serving k st - k) k (memory st)))) (granted st))
    (st.heap.user + size) (st.heap.allocated + 2 ^ k)

unfoldable pub granting : ℕ → ℕ → State → Decision
granting size align st =
    judge
    (refuse (not (is_power_of_two align)) BadAlign ∷ refuse (leb st.heap.order (class_for size align) || leb 33 (serving (class_for size align) st)) NoBlock
    ∷ refuse (leb (length st.ledger) st.heap.count) NoRoom ∷ [])
    (done (head (class_for size align) (split_down (serving (class_for size align) st - class_for size align) (class_for size align) (memory st)))
    (granted_from (class_for size align) size st))
