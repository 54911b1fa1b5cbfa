-- What is decided of an added range, by the tests that the code makes. Assumes nothing.
use mathlib.Core.Path.{◌≡◌, refl, sym, ◌∙◌}
use mathlib.Core.Bool.{Bool, true, false, ◌&&◌, ◌||◌}
use mathlib.Core.List.{List, [], ◌∷◌}
use Prim.Native.Nat.{ℕ, ◌+◌, ◌-◌, ◌≤◌, ◌<◌}
use mathlib.Core.Logic.{⊎_elim}
use native.Mathlib.Nat.{eq-zero-or-pos, add-zero}
use native.Mathlib.Omega.{arith}
use lib.Dec.{eqb, ltb}
use borrow.Author.Tests.{lt-ltb, le-ltb, eq-eqb, ne_eqb}
use Rattle.words.proofs.Tests.{and-false}
use Rattle.answers.specs.declared.Refusal.TheVariants.{BadRange, NullStart, Overlap}
use Rattle.heap_state.specs.Lists.{push_all}
use Rattle.heap_blocks.specs.Sound.{Block, blk, free_blocks, granted_blocks, all_blocks}
use Rattle.heap_state.specs.State.{State}
use Rattle.answers.specs.Judging.{refused, done, refuse}
use Rattle.heap_core.specs.Deciding.{Decision, memory, bytes, top}
use Rattle.heap_add.specs.Adding.{round_up, round_down, with_lists, adding}
use Rattle.heap_overlap.specs.Meeting.{meets}
use Rattle.heap_add.specs.Parts.{adding_words}
use Rattle.answers.proofs.Judging.{judged-yes, judged-no}
use Rattle.heap_overlap.proofs.Overlaps.{meets-append}
use Rattle.heap_moves.proofs.Pushing.{push-end}

-- ---- the words of the range, once they are known to be some

module _ (from to : ℕ) (st : State) where
  abbrev free-test : Bool
  free-test = meets from to (free_blocks st.heap st.arena)

  abbrev granted-test : Bool
  granted-test = meets from to (granted_blocks st.heap st.ledger)

  all : meets from to (all_blocks st.heap st.arena st.ledger) ≡ free-test || granted-test
  all = meets-append from to (free_blocks st.heap st.arena) (granted_blocks st.heap st.ledger)

  pub free-there : free-test ≡ true → adding_words from to st ≡ refused Overlap
  unfolding adding_words
  free-there e = judged-yes (meets from to (all_blocks st.heap st.arena st.ledger)) Overlap [] _ (all ∙ rw e)

  pub granted-there : free-test ≡ false → granted-test ≡ true → adding_words from to st ≡ refused Overlap
  unfolding adding_words
  granted-there e f = judged-yes (meets from to (all_blocks st.heap st.arena st.ledger)) Overlap [] _ (all ∙ rw (e, f))

  pub words-added : free-test ≡ false → granted-test ≡ false
      → adding_words from to st ≡ done 0 (with_lists st (push_all (to - from) (top st) from (to - from) (memory st)) (st.heap.total + (to - from)))
  unfolding adding_words
  words-added e f = judged-no (meets from to (all_blocks st.heap st.arena st.ledger)) Overlap [] _ (all ∙ rw (e, f))

-- no word of an empty range is there, and none is pushed
no-overlap : (a b : ℕ) (bs : List Block) → a ≡ b → meets a b bs ≡ false
no-overlap a b [] e = refl
no-overlap a b (blk k x ∷ bs) e = rw (le-ltb a b (omega arith)) (no-overlap a b bs e)

words-nothing : (a b : ℕ) (st : State) → a ≡ b → adding_words a b st ≡ done 0 st
words-nothing a b st e =
    let z : b - a ≡ 0 = omega arith in
    words-added a b st (no-overlap a b (free_blocks st.heap st.arena) e) (no-overlap a b (granted_blocks st.heap st.ledger) e) ∙ rw (z, push-end (top st) a 0 (memory st) (omega arith), add-zero)

-- ---- the range, by its tests in their order

module _ (s e : ℕ) (st : State) where
  abbrev range-test : Bool
  range-test = ltb (bytes st) s || ltb (bytes st) e || ltb (round_down e) (round_up s)

  abbrev null-test : Bool
  null-test = eqb (round_up s) 0 && ltb 0 (round_down e)

  abbrev overlap-test : Bool
  overlap-test = meets (round_up s) (round_down e) (all_blocks st.heap st.arena st.ledger)

  abbrev added : Decision
  added = done 0 (with_lists st (push_all (round_down e - round_up s) (top st) (round_up s) (round_down e - round_up s) (memory st)) (st.heap.total + (round_down e - round_up s)))

  bad-range : range-test ≡ true → adding s e st ≡ refused BadRange
  unfolding adding
  bad-range t = judged-yes range-test BadRange (refuse null-test NullStart ∷ refuse overlap-test Overlap ∷ []) added t

  pub start_outside : bytes st < s → adding s e st ≡ refused BadRange
  start_outside h = bad-range (rw (lt-ltb (bytes st) s h))

  pub end-outside : s ≤ bytes st → bytes st < e → adding s e st ≡ refused BadRange
  end-outside h l = bad-range (rw (le-ltb (bytes st) s h, lt-ltb (bytes st) e l))

  module _ (start-in : s ≤ bytes st) (end-in : e ≤ bytes st) where
    pub backward : round_down e < round_up s → adding s e st ≡ refused BadRange
    backward h = bad-range (rw (le-ltb (bytes st) s start-in, le-ltb (bytes st) e end-in, lt-ltb (round_down e) (round_up s) h))

    module _ (forward : round_up s ≤ round_down e) where
      range-fine : range-test ≡ false
      range-fine = rw (le-ltb (bytes st) s start-in, le-ltb (bytes st) e end-in, le-ltb (round_down e) (round_up s) forward)

      pub from_null : round_up s ≡ 0 → round_up s < round_down e → adding s e st ≡ refused NullStart
      unfolding adding
      from_null z h =
          judged-no range-test BadRange (refuse null-test NullStart ∷ refuse overlap-test Overlap ∷ []) added range-fine ∙ judged-yes null-test NullStart (refuse overlap-test Overlap ∷ []) added (rw (eq-eqb (round_up s) 0 z, lt-ltb 0 (round_down e) (omega arith)))

      inside-words : null-test ≡ false → adding s e st ≡ adding_words (round_up s) (round_down e) st
      unfolding adding adding_words
      inside-words t = judged-no range-test BadRange (refuse null-test NullStart ∷ refuse overlap-test Overlap ∷ []) added range-fine ∙ judged-no null-test NullStart (refuse overlap-test Overlap ∷ []) added t

      pub some_words : (round_up s ≡ 0 → ⊥) → adding s e st ≡ adding_words (round_up s) (round_down e) st
      some_words q = inside-words (rw (ne_eqb (round_up s) 0 q))

      -- an empty range is added without a change
      pub none-added : round_up s ≡ round_down e → adding s e st ≡ done 0 st
      none-added z = inside-words null ∙ words-nothing (round_up s) (round_down e) st z
        where
          null : null-test ≡ false
          null = ⊎_elim (λ h. let w : round_down e ≡ 0 = sym z ∙ h in rw w (and-false (eqb (round_up s) 0))) (λ h. rw (ne_eqb (round_up s) 0 (λ q. omega arith))) (eq-zero-or-pos (round_up s))
