-- A word or a field put past every rule, where it is within what is lent.
use Rattle.std.specs.Prelude.{Ok, Err}
use Rattle.grammar.specs.declared.BadLine.{BadLine as NoCommand}
use mathlib.Core.Bool.{Bool, true, false, cond}
use mathlib.Core.List.{List}
use mathlib.Core.Path.{◌≡◌, refl, ap, ◌∙◌}
use Prim.Native.Nat.{ℕ}
use lib.Dec.{ltb}
use lib.ListN.{length, take, set}
use Rattle.heap_state.specs.declared.Heap.{Heap}
use Rattle.heap_lines.specs.declared.Cell.{Cell}
use Rattle.heap_lines.specs.declared.Cell.TheVariants.{Arena, Ledger, Head}
use Rattle.heap_lines.specs.declared.Command.TheVariants.{Set as Setting}
use Rattle.heap_runs.specs.declared.Lent.{Lent}
use Rattle.heap_runs.specs.declared.Printed.{Printed}
use Rattle.heap_runs.specs.declared.Printed.TheVariants.{Set, BadLine}
use Rattle.heap_runs.specs.Run.{Machine, machine, Fits, with_heap, inside, heap_with, with_cell, after}
use Rattle.texts.specs.Text.{bad_line}
use Rattle.heap_runs.specs.Text.{set_line, line_of, by_node, printed}
use Rattle.heap_runs.specs.Running.{Does}

line-of : (t : Bool) (arena : List ℕ) → line_of arena (cond t Set BadLine) ≡ cond t set_line bad_line
line-of true arena = refl
line-of false arena = refl

short : (t : Bool) → by_node (cond t Set BadLine) ≡ false
short true = refl
short false = refl

pub does-set : (cell : Cell) (value : ℕ) (m left : Machine) (line : Printed) → left ≡ cond (inside cell m.lent) (with_cell cell value m) m → line ≡ cond (inside cell m.lent) Set BadLine
    → Does (Ok (Setting cell value)) m left line
unfolding after printed
does-set cell value m left line p q =
    record {
      machine_is = p;
      line_is = ap (line_of (take left.lent.words left.arena)) q ∙ line-of (inside cell m.lent) (take left.lent.words left.arena);
      long_is = ap by_node q ∙ short (inside cell m.lent);
    }

-- words put over as many, and the record put anew over as many words
pub fits-set : (lent : Lent) (arena ledger : List ℕ) → Fits lent arena ledger → (heap : Heap) (arena' ledger' : List ℕ) → length arena' ≡ length arena → length ledger' ≡ length ledger
    → Fits (with_heap heap lent) arena' ledger'
fits-set lent arena ledger f heap arena' ledger' p q = record { arena_is = p ∙ f.arena_is; ledger_is = q ∙ f.ledger_is; words_fit = f.words_fit; records_fit = f.records_fit }

-- a word of one of the two
pub does-arena : (i value : ℕ) (m : Machine) (line : Printed) (arena : List ℕ) → line ≡ cond (ltb i m.lent.words) Set BadLine
    → arena ≡ cond (ltb i m.lent.words) (set m.arena i value) m.arena → Does (Ok (Setting (Arena i) value)) m (machine m.lent arena m.ledger) line
does-arena i value m line arena q p =
    does-set (Arena i) value m (machine m.lent arena m.ledger) line (ap (λ (a : List ℕ). machine m.lent a m.ledger) p ∙ by_cases (ltb i m.lent.words)) q
  where
    by_cases : (t : Bool) → machine m.lent (cond t (set m.arena i value) m.arena) m.ledger ≡ cond t (machine m.lent (set m.arena i value) m.ledger) m
    by_cases true = refl
    by_cases false = refl

pub does-ledger : (i value : ℕ) (m : Machine) (line : Printed) (ledger : List ℕ) → line ≡ cond (ltb i m.lent.records) Set BadLine
    → ledger ≡ cond (ltb i m.lent.records) (set m.ledger i value) m.ledger → Does (Ok (Setting (Ledger i) value)) m (machine m.lent m.arena ledger) line
does-ledger i value m line ledger q p =
    does-set (Ledger i) value m (machine m.lent m.arena ledger) line (ap (machine m.lent m.arena) p ∙ by_cases (ltb i m.lent.records)) q
  where
    by_cases : (t : Bool) → machine m.lent m.arena (cond t (set m.ledger i value) m.ledger) ≡ cond t (machine m.lent m.arena (set m.ledger i value)) m
    by_cases true = refl
    by_cases false = refl

pub does-head : (k value : ℕ) (m : Machine) (line : Printed) (heap : Heap) → line ≡ cond (ltb k 33) Set BadLine
    → heap ≡ cond (ltb k 33) (heap_with (Head k) value m.lent.heap) m.lent.heap → Does (Ok (Setting (Head k) value)) m (machine (with_heap heap m.lent) m.arena m.ledger) line
does-head k value m line heap q p =
    does-set (Head k) value m (machine (with_heap heap m.lent) m.arena m.ledger) line (ap (λ (h : Heap). machine (with_heap h m.lent) m.arena m.ledger) p ∙ by_cases (ltb k 33)) q
  where
    by_cases : (t : Bool) → machine (with_heap (cond t (heap_with (Head k) value m.lent.heap) m.lent.heap) m.lent) m.arena m.ledger
        ≡ cond t (machine (with_heap (heap_with (Head k) value m.lent.heap) m.lent) m.arena m.ledger) m
    by_cases true = refl
    by_cases false = refl

pub does-bad : (x : NoCommand) (m : Machine) → Does (Err x) m m BadLine
unfolding after printed
does-bad x m = record { machine_is = refl; line_is = refl; long_is = refl }
