-- Every case of the case table holds: its words are made from any that are lent, and the rest is computed. Assumes nothing.
use mathlib.Core.Path.{◌≡◌, refl, ap, ap₂, ◌∙◌}
use mathlib.Core.Bool.{Bool, true, false, ◌||◌}
use mathlib.Core.List.{List, [], ◌∷◌, map}
use Prim.Native.Nat.{ℕ}
use lib.Count.{count_trailing_zeros}
use lib.Dec.{ltb}
use lib.ListN.{length, replicate, length-replicate}
use Rattle.blocks.specs.Blocks.{size_of, size_class, first_holding, rounded, largest_power, prev_power_of_two, lowest_bit, buddy_of, lowest_or_top, piece_size}
use Rattle.rules.specs.Rules.{cut_from, cut, added, towards, serving, containing, joined, released, halved}
use Rattle.table.specs.Layout.{words_of}
use Rattle.table.specs.Sound.{headb, recordb, soundb}
use Rattle.frame_core.specs.Carried.{Outcome}
use Rattle.frame_add.specs.Adding.{adding}
use Rattle.frame_grant.specs.Granting.{granting, granting_at}
use Rattle.frame_release.specs.Releasing.{releasing}
use Rattle.frame.specs.Outcome.{decide, outcome, making}
use Rattle.blocks.specs.Blocks.{rounded_aligned, is_power_of_two}
use Rattle.linked_list.specs.Links as links
use Rattle.heap_state.specs.Lists as lists
use Rattle.ledger.specs.Ledger as ledgers
use Rattle.heap_blocks.specs.Sound as blocks
use Rattle.heap_state.specs.State as state
use Rattle.heap_add.specs.Adding as add
use Rattle.heap_grant.specs.Granting as grant
use Rattle.heap_release.specs.Releasing as release
use Rattle.heap.specs.Outcome as heap
use Rattle.cases.specs.Cases.{Step, HeapStep, Run, frames, heaps, Case, replied, heard, heard_heap, Holds, Every, CaseHolds, case_table}

-- the words of a table without records
abbrev fresh : ℕ → ℕ → List ℕ
fresh order n = words_of n (record { order = order; blocks = [] })

-- a heap without blocks over an arena, with m ledger words
abbrev fresh_heap : ℕ → List ℕ → ℕ → state.State
fresh_heap order arena m = record { heap = state.fresh_heap order; arena = arena; ledger = replicate m 0 }

-- "1 BAD_ORDER" and "2 BAD_SIZE"
abbrev bad_order : ℕ → Bool
bad_order order = ltb order 1 || ltb 33 order

abbrev bad_size : ℕ → Bool
bad_size n = ltb n 1 || ltb 65536 n

-- making reads no lent word, and asks only how many there are
made : (order : ℕ) (lent : List ℕ) → bad_order order ≡ false → bad_size (length lent) ≡ false
    → making order lent ≡ record { reply = replied 0 0; words = fresh order (length lent) }
unfolding making
made order lent a b = rw (a, b)

-- the same of a heap, of its ledger
heap-made : (order : ℕ) (arena ledger : List ℕ) → state.orderb order ≡ true → state.lengthsb (length arena) (length ledger) ≡ true
    → state.making order arena ledger ≡ record { number = 0; value = 0; state = fresh_heap order arena (length ledger) }
unfolding state.making
heap-made order arena ledger a b = ap₂ (λ (x y : Bool). state.made_if x y order arena ledger) a b

-- what is computed of a run, whatever words were lent, and what must come of it
data Computed : Type 0 where
  of-frames : Bool → Bool → List Step → Computed
  of-heap : Bool → Bool → List HeapStep → Computed

abbrev computed : Run → Computed
computed (frames order n steps) = of-frames (bad_order order) (bad_size n) (heard steps (fresh order n))
computed (heaps order n m steps) = of-heap (state.orderb order) (state.lengthsb n m) (heard_heap steps (fresh_heap order (replicate n 0) m))

abbrev stated : Run → Computed
stated (frames order n steps) = of-frames false false steps
stated (heaps order n m steps) = of-heap true true steps

run_holds : (r : Run) → computed r ≡ stated r → Holds r
run_holds (frames order n steps) c = λ lent e.
    let a : bad_order order ≡ false = cc in
    let b : bad_size n ≡ false = cc in
    let s : heard steps (fresh order n) ≡ steps = cc in
    let m = made order lent a (ap bad_size e ∙ b) in
    (ap (λ (o : Outcome). o.reply) m, ap (λ (o : Outcome). heard steps o.words) m ∙ ap (λ (k : ℕ). heard steps (fresh order k)) e ∙ s)
run_holds (heaps order n m steps) c = λ ledger e.
    let a : state.orderb order ≡ true = cc in
    let b : state.lengthsb n m ≡ true = cc in
    let s : heard_heap steps (fresh_heap order (replicate n 0) m) ≡ steps = cc in
    let l : state.lengthsb (length {A = ℕ} (replicate n 0)) (length ledger) ≡ true = ap (λ (k : ℕ). state.lengthsb k (length ledger)) (length-replicate n 0) ∙ ap (state.lengthsb n) e ∙ b in
    let h = heap-made order (replicate n 0) ledger a l in (
      ap (λ (o : state.Outcome). o.number) h,
      ap (λ (o : state.Outcome). heard_heap steps o.state) h ∙ ap (λ (k : ℕ). heard_heap steps (fresh_heap order (replicate n 0) k)) e ∙ s,
    )

-- one equation for the whole list, so that the checker computes it at once
runs-hold : (rs : List Run) → map computed rs ≡ map stated rs → Every Holds rs
runs-hold [] c = tt
runs-hold (r ∷ rs) c = (run_holds r (cc), runs-hold rs (cc))

all_hold : (cs : List Case) → map (λ c. map computed c.runs) cs ≡ map (λ c. map stated c.runs) cs → Every CaseHolds cs
all_hold [] c = tt
all_hold (x ∷ xs) c = (runs-hold x.runs (cc), all_hold xs (cc))

-- each call is computed over all words: the test of the table, what it says, what the call decides, and the words that are left
pub cases-hold : Every CaseHolds case_table
unfolding count_trailing_zeros size_of size_class first_holding rounded largest_power prev_power_of_two lowest_bit buddy_of lowest_or_top piece_size cut_from cut added towards serving containing joined released halved headb recordb soundb adding granting granting_at releasing decide outcome rounded_aligned is_power_of_two links.nodes links.position lists.push lists.pop lists.remove lists.push_all lists.split lists.split_down lists.join_up lists.release blocks.rangesb blocks.reaches ledgers.recordb blocks.countersb blocks.soundb add.adding grant.granting release.releasing heap.decide heap.outcome
cases-hold = all_hold case_table refl
