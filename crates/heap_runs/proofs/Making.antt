-- Making a heap over the first words of both: what is left where it is made, and where it is refused.
use mathlib.Core.Bool.{Bool, true, false, cond, ◌||◌}
use mathlib.Core.List.{List, ◌++◌}
use mathlib.Core.Path.{◌≡◌, refl, sym, ap, ◌∙◌}
use Prim.Native.Nat.{ℕ, ◌<◌, ◌≤◌}
use borrow.Author.Tests.{eq-eqb, ne_eqb, lt-ltb, le-ltb}
use lib.Dec.{eqb, ltb}
use lib.ListN.{length, take, drop, replicate, length-replicate, take-append-drop}
use Rattle.std.specs.Prelude.{Ok}
use Rattle.answers.specs.Paper.{paper}
use Rattle.heap_state.specs.State.{lengthsb, orderb, State, state, Outcome, Says, made_if, making}
use Rattle.heap_state.specs.declared.Heap.{Heap}
use Rattle.heap_state.specs.declared.Reply.{Reply}
use Rattle.heap_lines.specs.declared.Command.TheVariants.{Make}
use Rattle.heap_runs.specs.declared.Lent.{Lent}
use Rattle.heap_runs.specs.declared.Printed.TheVariants.{BadLine}
use Rattle.heap_runs.specs.declared.Ran.{Ran}
use Rattle.heap_runs.specs.Run.{machine, with_heap, lending, too_many, made, after_making, after}
use Rattle.texts.specs.Text.{bad_line}
use Rattle.heap_runs.specs.Text.{outcome_text, line_of, printed}
use Rattle.heap_runs.specs.Running.{Does, replied_with}
use Rattle.heap_runs.proofs.Lending.{reply-line, replied-line, replied-short}

-- ---- making looks at the arena's length alone

abbrev over : List ℕ → Outcome → Outcome
over a o = record { number = o.number; value = o.value; state = state o.state.heap a o.state.ledger }

made-over : (b c : Bool) (order : ℕ) (a a' l : List ℕ) → made_if b c order a l ≡ over a (made_if b c order a' l)
made-over false c order a a' l = refl
made-over true false order a a' l = refl
made-over true true order a a' l = refl

making-over : (order : ℕ) (a a' l : List ℕ) → length a ≡ length a' → making order a l ≡ over a (making order a' l)
unfolding making
making-over order a a' l e =
    ap (λ (n : ℕ). made_if (orderb order) (lengthsb n (length l)) order a l) e ∙ made-over (orderb order) (lengthsb (length a') (length l)) order a a' l

refused-keeps : (b c : Bool) (order : ℕ) (a l : List ℕ) → ((made_if b c order a l).number ≡ 0 → ⊥) → (made_if b c order a l).state.ledger ≡ l
refused-keeps false c order a l h = refl
refused-keeps true false order a l h = refl
refused-keeps true true order a l h = absurd (h refl)

making-keeps : (order : ℕ) (a l : List ℕ) → ((making order a l).number ≡ 0 → ⊥) → (making order a l).state.ledger ≡ l
unfolding making
making-keeps order a l h = refused-keeps (orderb order) (lengthsb (length a) (length l)) order a l h

-- ---- the command
module _ (order words records : ℕ) (lent : Lent) (arena ledger : List ℕ) where
  pub does-too-many : too_many words records ≡ true → Does (Ok (Make order words records)) (machine lent arena ledger) (machine lent arena ledger) BadLine
  unfolding after printed
  does-too-many h =
      record {
        machine_is = sym (ap (λ (t : Bool). cond t (machine lent arena ledger) (after_making words records (made order words records (machine lent arena ledger)) (machine lent arena ledger))) h);
        line_is = sym (ap (λ (t : Bool). cond t bad_line (outcome_text (made order words records (machine lent arena ledger)))) h);
        long_is = refl;
      }

  module _
      (r : Ran) (few : too_many words records ≡ false) (whole : length (take words arena) ≡ words) (reply : Reply) (ledger' : List ℕ)
      (says : Says (making order (take words arena) (take records ledger)) reply (take words arena) ledger') (n : ℕ) (number : n ≡ (paper reply.answer).number)
    where
      same : made order words records (machine lent arena ledger) ≡ over (replicate words 0) (making order (take words arena) (take records ledger))
      same = making-over order (replicate words 0) (take words arena) (take records ledger) (length-replicate words 0 ∙ sym whole)

      line : (arena' : List ℕ) (w k : ℕ) → r ≡ replied_with reply w k → line_of (take r.lent.words arena') r.line ≡ printed (Ok (Make order words records)) (machine lent arena ledger)
      unfolding printed
      line arena' w k e =
          replied-line r reply w k arena' e
          ∙ reply-line (making order (take words arena) (take records ledger)) reply (take words arena) ledger' says
          ∙ sym (ap outcome_text same)
          ∙ sym (ap (λ (t : Bool). cond t bad_line (outcome_text (made order words records (machine lent arena ledger)))) few)

      left : (t : Bool) → eqb (made order words records (machine lent arena ledger)).number 0 ≡ t
          → after (Ok (Make order words records)) (machine lent arena ledger)
          ≡ cond t (lending words records (made order words records (machine lent arena ledger)).state (machine lent arena ledger)) (machine (with_heap (made order words records (machine lent arena ledger)).state.heap lent) arena ledger)
      unfolding after
      left t e =
          ap (λ (b : Bool). cond b (machine lent arena ledger) (after_making words records (made order words records (machine lent arena ledger)) (machine lent arena ledger))) few
          ∙ ap (λ (b : Bool). cond b (lending words records (made order words records (machine lent arena ledger)).state (machine lent arena ledger)) (machine (with_heap (made order words records (machine lent arena ledger)).state.heap lent) arena ledger)) e

      its-number : (made order words records (machine lent arena ledger)).number ≡ n
      its-number = ap (λ (o : Outcome). o.number) same ∙ sym says.number_is ∙ sym number

      pub does-refused : (n ≡ 0 → ⊥) → r ≡ replied_with reply lent.words lent.records
          → Does (Ok (Make order words records)) (machine lent arena ledger) (machine r.lent arena (ledger' ++ drop records ledger)) r.line
      does-refused h e =
          let kept : ledger' ≡ take records ledger =
          ap (λ (s : State). s.ledger) says.state_is
          ∙ making-keeps order (take words arena) (take records ledger) (λ z. h (number ∙ says.number_is ∙ z)) in
          let heap : reply.heap ≡ (made order words records (machine lent arena ledger)).state.heap =
          ap (λ (s : State). s.heap) says.state_is ∙ sym (ap (λ (o : Outcome). o.state.heap) same) in
          record {
            machine_is =
                ap (λ (x : Ran). machine x.lent arena (ledger' ++ drop records ledger)) e
                ∙ ap (λ (l : List ℕ). machine (with_heap reply.heap lent) arena l) (ap (λ (l : List ℕ). l ++ drop records ledger) kept ∙ take-append-drop records ledger)
                ∙ ap (λ (g : Heap). machine (with_heap g lent) arena ledger) heap
                ∙ sym (left false (ne_eqb _ 0 (λ z. h (sym its-number ∙ z))));
            line_is = line arena lent.words lent.records e;
            long_is = replied-short r reply lent.words lent.records e;
          }

      pub does-make : n ≡ 0 → r ≡ replied_with reply words records → (cleared : List ℕ) → cleared ≡ replicate (length (take words arena)) 0
          → Does (Ok (Make order words records)) (machine lent arena ledger) (machine r.lent (cleared ++ drop words arena) (ledger' ++ drop records ledger)) r.line
      does-make h e cleared z =
          let zeros : cleared ≡ replicate words 0 = z ∙ ap (λ (k : ℕ). replicate k 0) whole in
          let it : state reply.heap cleared ledger' ≡ (made order words records (machine lent arena ledger)).state =
          ap (λ (a : List ℕ). state reply.heap a ledger') zeros
          ∙ ap (λ (s : State). state s.heap (replicate words 0) s.ledger) says.state_is
          ∙ sym (ap (λ (o : Outcome). o.state) same) in
          record {
            machine_is =
                ap (λ (x : Ran). machine x.lent (cleared ++ drop words arena) (ledger' ++ drop records ledger)) e
                ∙ ap (λ (s : State). lending words records s (machine lent arena ledger)) it
                ∙ sym (left true (eq-eqb _ 0 (its-number ∙ h)));
            line_is = line (cleared ++ drop words arena) words records e;
            long_is = replied-short r reply words records e;
          }

-- ---- how many is too many

pub too-many-words : (words records : ℕ) → 4096 < words → too_many words records ≡ true
too-many-words words records h = ap (λ (t : Bool). t || ltb 512 records) (lt-ltb 4096 words h)

pub too-many-records : (words records : ℕ) → 512 < records → too_many words records ≡ true
too-many-records words records h = ap (λ (t : Bool). ltb 4096 words || t) (lt-ltb 512 records h) ∙ by_cases (ltb 4096 words)
  where
    by_cases : (t : Bool) → t || true ≡ true
    by_cases true = refl
    by_cases false = refl

pub few-enough : (words records : ℕ) → words ≤ 4096 → records ≤ 512 → too_many words records ≡ false
few-enough words records h k = ap (λ (t : Bool). t || ltb 512 records) (le-ltb 4096 words h) ∙ le-ltb 512 records k
