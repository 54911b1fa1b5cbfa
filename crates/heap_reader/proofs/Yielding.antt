-- What a reader yields: on a sound heap the nodes of its list in order, then nothing, for ever; on any other nothing. Assumes nothing.
use mathlib.Core.Path.{◌≡◌, refl, sym, ap, subst, ◌∙◌}
use mathlib.Core.Bool.{Bool, true, false}
use mathlib.Core.List.{List, ◌∷◌, ◌++◌}
use Prim.Native.Nat.{ℕ, zero, suc, ◌+◌, ◌-◌}
use native.Mathlib.Omega.{arith}
use lib.Dec.{eqb}
use lib.ListN.{length, get_or, replicate}
use borrow.Author.Tests.{eqb-true, ne_eqb}
use Rattle.answers.specs.declared.Refusal.TheVariants.{BadState}
use Rattle.answers.specs.Paper.{number_of}
use Rattle.linked_list.specs.Links.{next, nodes}
use Rattle.heap_state.specs.declared.Heap.{Heap}
use Rattle.heap_blocks.specs.Sound.{reaches, soundb}
use Rattle.heap_blocks.proofs.Facts.{sound-fact}
use Rattle.heap_blocks.proofs.Walks.{lists-fact}
use Rattle.heap_reader.specs.declared.Step.{Step}
use Rattle.heap_reader.specs.Reading.{nothing, step_at, start_of, first_of, yielded, YieldsTheList, YieldsNothing}

-- ---- one step, by the tests that the code makes

pub refused-step : (arena : List ℕ) (at number : ℕ) → (number ≡ 0 → ⊥) → step_at arena at number ≡ nothing number
unfolding step_at
refused-step arena at zero q = absurd (q refl)
refused-step arena at (suc n) q = refl

pub last_step : (arena : List ℕ) → step_at arena 0 0 ≡ nothing 0
unfolding step_at
last_step arena = refl

pub node-step : (arena : List ℕ) (at : ℕ) → (at ≡ 0 → ⊥) → step_at arena at 0 ≡ record { node = at; at = next arena at; number = 0 }
unfolding step_at
node-step arena zero q = absurd (q refl)
node-step arena (suc a) q = refl

-- where a step yields nothing, and where it yields a node
pub yields_none : (arena : List ℕ) (at : ℕ) → (step_at arena at 0).node ≡ 0 → at ≡ 0
unfolding step_at
yields_none arena zero e = refl
yields_none arena (suc a) e = e

pub yields-node : (arena : List ℕ) (at : ℕ) → ((step_at arena at 0).node ≡ 0 → ⊥) → (at ≡ 0 → ⊥) × ((step_at arena at 0).at ≡ next arena at)
unfolding step_at
yields-node arena zero q = absurd (q refl)
yields-node arena (suc a) q = ((λ z. omega (arith, z)), refl)

-- ---- the start

pub sound-start : (h : Heap) (arena ledger : List ℕ) (class : ℕ) → soundb h arena ledger ≡ true → start_of h arena ledger class ≡ record { node = 0; at = get_or h.heads class 0; number = 0 }
unfolding start_of
sound-start h arena ledger class e = rw (start_of, e) refl

pub unsound-start : (h : Heap) (arena ledger : List ℕ) (class : ℕ) → soundb h arena ledger ≡ false → start_of h arena ledger class ≡ nothing (number_of BadState)
unfolding start_of
unsound-start h arena ledger class e = rw (start_of, e) refl

-- a reader that is not refused is one of a sound heap
refused-start : (h : Heap) (arena ledger : List ℕ) (class : ℕ) → ((start_of h arena ledger class).number ≡ 0 → ⊥) → soundb h arena ledger ≡ false
refused-start h arena ledger class q = go (soundb h arena ledger) refl
  where
    go : (b : Bool) → soundb h arena ledger ≡ b → soundb h arena ledger ≡ false
    go false e = e
    go true e = absurd (q (ap (λ (s : Step). s.number) (sound-start h arena ledger class e)))

read-start : (h : Heap) (arena ledger : List ℕ) (class : ℕ) → (start_of h arena ledger class).number ≡ 0
    → (soundb h arena ledger ≡ true) × ((start_of h arena ledger class).at ≡ get_or h.heads class 0)
read-start h arena ledger class n = go (soundb h arena ledger) refl
  where
    go : (b : Bool) → soundb h arena ledger ≡ b → (soundb h arena ledger ≡ true) × ((start_of h arena ledger class).at ≡ get_or h.heads class 0)
    go true e = (e, ap (λ (s : Step). s.at) (sound-start h arena ledger class e))
    go false e = absurd (let z : 0 ≡ 3 = sym n ∙ ap (λ (s : Step). s.number) (unsound-start h arena ledger class e) in omega arith)

-- ---- the first step

step-node : (arena : List ℕ) (at : ℕ) → (step_at arena at 0).node ≡ at
unfolding step_at
step-node arena zero = refl
step-node arena (suc a) = refl

step-number : (arena : List ℕ) (at number : ℕ) → (step_at arena at number).number ≡ number
unfolding step_at
step-number arena zero zero = refl
step-number arena (suc a) zero = refl
step-number arena at (suc n) = refl

module _ (h : Heap) (arena ledger : List ℕ) (class : ℕ) where
  pub refused-first : ((first_of h arena ledger class).number ≡ 0 → ⊥) → soundb h arena ledger ≡ false
  refused-first q = refused-start h arena ledger class (λ z. q (step-number arena (start_of h arena ledger class).at (start_of h arena ledger class).number ∙ z))

  pub read_first : (first_of h arena ledger class).number ≡ 0 → (soundb h arena ledger ≡ true) × ((first_of h arena ledger class).node ≡ get_or h.heads class 0)
  read_first n =
      let s = start_of h arena ledger class in
      let z : s.number ≡ 0 = sym (step-number arena s.at s.number) ∙ n in
      let r = read-start h arena ledger class z in
      (r.0, ap (λ (m : ℕ). (step_at arena s.at m).node) z ∙ (step-node arena s.at ∙ r.1))

-- ---- turn by turn

pub none_left : (turns : ℕ) (arena : List ℕ) (number : ℕ) → yielded turns arena 0 number ≡ replicate turns 0
unfolding yielded step_at
none_left zero arena number = refl
none_left (suc turns) arena zero = ap (λ (xs : List ℕ). 0 ∷ xs) (none_left turns arena zero)
none_left (suc turns) arena (suc n) = ap (λ (xs : List ℕ). 0 ∷ xs) (none_left turns arena (suc n))

-- from an address that reaches 0 in so many links
in_order : (fewer after : ℕ) (arena : List ℕ) (a : ℕ) → reaches fewer arena a ≡ true
    → yielded (length (nodes (suc fewer) arena a) + after) arena a 0 ≡ nodes (suc fewer) arena a ++ replicate after 0
unfolding reaches nodes yielded step_at
in_order zero after arena zero e = let z : 0 + after ≡ after = omega arith in rw z (none_left after arena 0)
in_order (suc fewer) after arena zero e = let z : 0 + after ≡ after = omega arith in rw z (none_left after arena 0)
in_order zero after arena (suc a) e = absurd (let z = eqb-true (suc a) 0 e in omega arith)
in_order (suc fewer) after arena (suc a) e =
    let n : eqb (suc a) 0 ≡ false = ne_eqb (suc a) 0 (λ z. omega arith) in
    let rest = nodes (suc fewer) arena (next arena (suc a)) in
    let z : suc (length rest) + after ≡ suc (length rest + after) = omega arith in
    rw z (ap (λ (xs : List ℕ). suc a ∷ xs) (in_order fewer after arena (next arena (suc a)) (rw n at e)))

-- ---- the reader

pub sound-reader : YieldsTheList
sound-reader h arena ledger class after e =
    let s = sound-fact h arena ledger e in
    let n : suc (length arena - 1) ≡ length arena = omega (arith, s.ranges.arena-low) in
    let all = in_order (length arena - 1) after arena (get_or h.heads class 0) (lists-fact arena h.heads s.lists class) in
    rw (sound-start h arena ledger class e) (
      refl,
      subst (λ (m : ℕ). yielded (length (nodes m arena (get_or h.heads class 0)) + after) arena (get_or h.heads class 0) 0 ≡ nodes m arena (get_or h.heads class 0) ++ replicate after 0) n all,
    )

pub unsound-reader : YieldsNothing
unsound-reader h arena ledger class turns e = rw (unsound-start h arena ledger class e) (refl, none_left turns arena (number_of BadState))
