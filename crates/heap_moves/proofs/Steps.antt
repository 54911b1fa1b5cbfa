-- One step of a grant's and of a release's moves, at the numbers as the code has them. Assumes nothing.
use mathlib.Core.Path.{◌≡◌, ap, ap₂}
use mathlib.Core.List.{List}
use Prim.Native.Nat.{ℕ}
use lib.ListN.{get_or, set}
use Rattle.linked_list.specs.Links.{next, pushed, Left}
use Rattle.heap_state.specs.Lists.{push, pop}
use Rattle.heap_moves.specs.Moves.{mem}

pub push-is : (heads arena words : List ℕ) (class block first : ℕ) → Left (pushed (get_or heads class 0) arena block) first words
    → mem (set heads class first) words ≡ push class block (mem heads arena)
unfolding push
push-is heads arena words class block first l = ap₂ (λ (h : ℕ) (ws : List ℕ). mem (set heads class h) ws) l.head_is l.words_are

pub pop-is : (heads arena : List ℕ) (class first : ℕ) → first ≡ next arena (get_or heads class 0) → mem (set heads class first) arena ≡ pop class (mem heads arena)
unfolding pop
pop-is heads arena class first e = ap (λ (h : ℕ). mem (set heads class h) arena) e
