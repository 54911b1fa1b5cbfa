-- A grant that passed its tests: forms of the promises of the parts in src/.
use Rattle.std.specs.Prelude.{◌≡◌, true, ℕ, ◌+◌, ◌-◌, ◌^◌, ◌≤◌, ◌<◌, length}
use Rattle.ledger.specs.Ledger.{grant, enter}
use Rattle.heap_state.specs.Lists.{head, pop, split_down}
use Rattle.heap_state.specs.State.{State}
use Rattle.heap_blocks.specs.Sound.{is_sound}
use Rattle.answers.specs.Judging.{done}
use Rattle.heap_core.specs.Deciding.{Decision, memory, granted, with_grants}

pub record Grantable (st : State) (from class size : ℕ) : Type 0 where
  pub sound : is_sound st ≡ true
  pub suffices : class ≤ from
  pub is_class : from < 33
  pub word : 3 ≤ class
  pub has_block : head from (memory st) ≡ 0 → ⊥
  pub holds : size ≤ 2 ^ class
  pub room : st.heap.count < length st.ledger

-- the block of `class` that the first of class `from` gives, and what is left
abbrev pub grant_done : ℕ → ℕ → ℕ → State → Decision
grant_done from class size st =
    done (head class (split_down (from - class) class (memory st)))
    (with_grants st (pop class (split_down (from - class) class (memory st)))
    (enter (grant class size (head class (split_down (from - class) class (memory st)))) (granted st)) (st.heap.user + size) (st.heap.allocated + 2 ^ class))
