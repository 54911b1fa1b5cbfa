-- What adding decides on a sound heap, from docs/RULES.md, "The heap over an arena" and "Refusal numbers": "rounds start up and end down to
-- multiples of 8 and cuts as above".
use Rattle.std.specs.Prelude.{◌&&◌, ◌||◌, [], ◌∷◌, ℕ, ◌+◌, ◌-◌, ◌*◌, ◌/◌, eqb, ltb}
use Rattle.answers.specs.declared.Refusal.TheVariants.{BadRange, NullStart, Overlap}
use Rattle.heap_state.specs.Lists.{Memory, push_all}
use Rattle.heap_blocks.specs.Sound.{all_blocks}
use Rattle.heap_state.specs.State.{State}
use Rattle.heap_overlap.specs.Meeting.{meets}
use Rattle.answers.specs.Judging.{done, refuse, judge}
use Rattle.heap_core.specs.Deciding.{Decision, memory, bytes, top}

abbrev pub round_up : ℕ → ℕ
round_up s = (s + 7) / 8 * 8

abbrev pub round_down : ℕ → ℕ
round_down e = e / 8 * 8

abbrev pub with_lists : State → Memory → ℕ → State
with_lists s m total =
    record {
      heap = record { order = s.heap.order; heads = m.heads; count = s.heap.count; user = s.heap.user; allocated = s.heap.allocated; total = total };
      arena = m.arena;
      ledger = s.ledger;
    }

unfoldable pub adding : ℕ → ℕ → State → Decision
adding s e st =
    judge
    (refuse (ltb (bytes st) s || ltb (bytes st) e || ltb (round_down e) (round_up s)) BadRange ∷ refuse (eqb (round_up s) 0 && ltb 0 (round_down e)) NullStart
    ∷ refuse (meets (round_up s) (round_down e) (all_blocks st.heap st.arena st.ledger)) Overlap ∷ [])
    (done 0 (with_lists st (push_all (round_down e - round_up s) (top st) (round_up s) (round_down e - round_up s) (memory st)) (st.heap.total + (round_down e - round_up s))))
