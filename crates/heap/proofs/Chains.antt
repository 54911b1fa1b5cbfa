-- A promise admits one outcome only, and any chain of events in which each call meets its promise has the replies and the last state of the
-- definition's run. Assumes nothing.
use mathlib.Core.Path.{◌≡◌, refl, sym, ap, ap₂, ◌∙◌}
use mathlib.Core.List.{List, ◌∷◌}
use Prim.Native.Nat.{ℕ}
use Rattle.answers.specs.Paper.{Paper, paper}
use Rattle.answers.proofs.Apart.{tells-apart}
use Rattle.heap_state.specs.declared.Reply.{Reply}
use Rattle.heap_state.specs.State.{State, state, Outcome, Says}
use Rattle.heap.specs.Told.{Event, replies, last, Chain, done, call, write}

on-paper : {o : Outcome} {r : Reply} {arena ledger : List ℕ} → Says o r arena ledger → paper r.answer ≡ record { number = o.number; value = o.value }
on-paper w = λ i. record { number = w.number_is i; value = w.value_is i }

pub chain-is : {es : List Event} {before after : State} {rs : List Paper} → Chain es before rs after → (rs ≡ replies es before) × (after ≡ last es before)
chain-is done = (refl, refl)
chain-is (call {es = es} w c) =
    let t = chain-is c in
    (ap₂ ◌∷◌ (on-paper w) (t.0 ∙ ap (replies es) w.state_is), t.1 ∙ ap (last es) w.state_is)
chain-is (write c) = chain-is c

-- ---- one outcome only: two replies that meet one promise are the same, and so are the words afterwards

pub record Same (r s : Reply) (arena ledger arena' ledger' : List ℕ) : Type 0 where
  pub answers : r.answer ≡ s.answer
  pub heaps : r.heap ≡ s.heap
  pub arenas : arena ≡ arena'
  pub ledgers : ledger ≡ ledger'

pub one-outcome : (o : Outcome) (r s : Reply) (arena ledger arena' ledger' : List ℕ) → Says o r arena ledger → Says o s arena' ledger' → Same r s arena ledger arena' ledger'
one-outcome o r s arena ledger arena' ledger' v w =
    let e : state r.heap arena ledger ≡ state s.heap arena' ledger' = v.state_is ∙ sym w.state_is in
    record {
      answers = tells-apart r.answer s.answer (on-paper v ∙ sym (on-paper w));
      heaps = ap (λ (st : State). st.heap) e;
      arenas = ap (λ (st : State). st.arena) e;
      ledgers = ap (λ (st : State). st.ledger) e;
    }
