-- Forms of the promises of src/: heads and arena as one memory.
use Rattle.std.specs.Prelude.{◌≡◌, Option, MatchOption, List, ℕ, ◌+◌, ◌-◌, ◌^◌, ◌≤◌, ◌<◌, length}
use Rattle.answers.specs.Paper.{Answer}
use Rattle.std.specs.Prelude.{Ok}
use Rattle.linked_list.specs.declared.Previous.{Previous}
use Rattle.linked_list.specs.Links.{removed}
use Rattle.heap_state.specs.Lists.{Memory, head, with_list, pop, split_down, Released}

abbrev pub mem : List ℕ → List ℕ → Memory
mem heads arena = record { heads = heads; arena = arena }

-- class `from` has a block, large enough for `class`, whose end is a number of 64 bits
pub record Servable (m : Memory) (from class : ℕ) : Type 0 where
  pub suffices : class ≤ from
  pub is_class : from < 33
  pub has_block : head from m ≡ 0 → ⊥
  pub wide : length m.heads ≡ 33
  pub ends : head from m + 2 ^ from < 2 ^ 64

-- the first block of the class, if there is one, and the memory without it
abbrev pub Popped : ℕ → Memory → Option ℕ → Memory → Type 0
Popped class m r after = MatchOption r ((head class m ≡ 0) × (after ≡ m)) (λ b. (b ≡ head class m) × (after ≡ pop class m))

-- the answer is the block that came out, and the memory is without it
pub record TakenOut (from class : ℕ) (m : Memory) (r : Answer) (after : Memory) : Type 0 where
  pub answer : r ≡ Ok (head class (split_down (from - class) class m))
  pub memory : after ≡ pop class (split_down (from - class) class m)

-- a node taken out of the list of its class, by the place of the link to it
unfoldable pub taken_out : ℕ → Previous → ℕ → Memory → Memory
taken_out class previous node m = with_list class (removed (head class m) m.arena previous node) m

abbrev pub released : ℕ → Memory → Released
released compared m = record { memory = m; nodes_compared = compared }
