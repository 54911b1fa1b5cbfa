-- What a release and a zero fill decide on a sound heap, from docs/RULES.md, "The heap over an arena" and "Refusal numbers".
use Rattle.std.specs.Prelude.{Bool, not, [], ◌∷◌, ◌++◌, ℕ, ◌+◌, ◌-◌, ◌/◌, ◌^◌, take, drop, replicate}
use Rattle.answers.specs.declared.Refusal.TheVariants.{BadAlign, NotGranted}
use Rattle.blocks.specs.Blocks.{is_power_of_two}
use Rattle.ledger.specs.Ledger.{same, strike, some}
use Rattle.heap_state.specs.Lists.{release}
use Rattle.heap_state.specs.State.{State}
use Rattle.answers.specs.Judging.{done, refuse, judge}
use Rattle.heap_core.specs.Deciding.{Decision, memory, top, granted, class_for, with_grants}

-- "no granted block has that start and rounded size (heap: also requested bytes)"
abbrev pub not_granted : ℕ → ℕ → ℕ → State → Bool
not_granted a size align st = not (some (same (class_for size align) size a) (granted st))

unfoldable pub releasing : ℕ → ℕ → ℕ → State → Decision
releasing a size align st =
    judge (refuse (not (is_power_of_two align)) BadAlign ∷ refuse (not_granted a size align st) NotGranted ∷ [])
    (done (release (top st) (class_for size align) a (memory st)).nodes_compared
    (with_grants st (release (top st) (class_for size align) a (memory st)).memory (strike (same (class_for size align) size a) (granted st)) (st.heap.user - size)
    (st.heap.allocated - 2 ^ class_for size align)))

-- "Zero fill takes a release's arguments and clears the words of the requested bytes, rounded up to whole words"
unfoldable pub zeroing : ℕ → ℕ → ℕ → State → Decision
zeroing a size align st =
    judge (refuse (not (is_power_of_two align)) BadAlign ∷ refuse (not_granted a size align st) NotGranted ∷ [])
    (done 0 (record {
      heap = st.heap;
      arena = take (a / 8) st.arena ++ (replicate ((size + 7) / 8) 0 ++ drop (a / 8 + (size + 7) / 8) st.arena);
      ledger = st.ledger;
    }))
