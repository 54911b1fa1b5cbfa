-- Calls over the words that are lent: what they leave of the whole arena and ledger, and that what is lent stays within them.
use Rattle.std.specs.Prelude.{Ok, Err}
use mathlib.Core.Bool.{Bool, true, false}
use mathlib.Core.List.{List, ◌∷◌, ◌++◌}
use mathlib.Core.Path.{◌≡◌, refl, sym, ap, ◌∙◌}
use Prim.Native.Nat.{ℕ, suc, ◌-◌, ◌<◌, ◌≤◌}
use native.Mathlib.Omega.{arith}
use lib.ListN.{length, take, drop, get_or, length-append, length-drop, take-append-drop}
use Rattle.answers.specs.declared.Refusal.TheVariants.{BadState}
use Rattle.answers.specs.Paper.{paper}
use Rattle.texts.specs.Text.{decimal, line_feed}
use Rattle.linked_list.proofs.Steps.{nodes-end, nodes-none, nodes-step}
use Rattle.linked_list.specs.Links.{next, nodes}
use Rattle.heap_core.specs.Deciding.{memory}
use Rattle.heap_state.specs.Lists.{list}
use Rattle.heap_state.specs.State.{State, state, Outcome, Says}
use Rattle.heap_blocks.specs.Sound.{is_sound}
use Rattle.heap_state.specs.declared.Reply.{Reply}
use Rattle.heap.specs.Told.{Told}
use Rattle.heap_lines.specs.declared.Call.{Call}
use Rattle.heap_lines.specs.declared.Command.TheVariants.{Remake, Call as OnHeap, List as ListOf, Stats}
use Rattle.heap_runs.specs.declared.Lent.{Lent}
use Rattle.heap_runs.specs.declared.Printed.{Printed}
use Rattle.heap_runs.specs.declared.Printed.TheVariants.{Reply as Printed·reply, Nodes}
use Rattle.heap_runs.specs.declared.Ran.{Ran}
use Rattle.heap_runs.specs.Run.{Machine, machine, Fits, lent_state, relent, remade, call_of, after}
use Rattle.heap_runs.specs.Text.{reply_text, listed, addresses, line_of, by_node, printed}
use Rattle.heap_runs.specs.Running.{Does, Lists, Figured, replied_with}

-- ---- what is lent stays within

part_length : (words part : List ℕ) (n : ℕ) → n ≤ length words → length part ≡ n → length (part ++ drop n words) ≡ length words
part_length words part n h e = omega (arith, length-append part (drop n words), length-drop n words)

pub fits-replied : (lent : Lent) (arena ledger : List ℕ) → Fits lent arena ledger → (r : Ran) (reply : Reply) (words records : ℕ) → words ≤ 4096 → records ≤ 512
    → r ≡ replied_with reply words records → (arena' ledger' : List ℕ) → length arena' ≡ length arena → length ledger' ≡ length ledger → Fits r.lent arena' ledger'
fits-replied lent arena ledger f r reply words records h k e arena' ledger' p q =
    record {
      arena_is = p ∙ f.arena_is;
      ledger_is = q ∙ f.ledger_is;
      words_fit = omega (arith, ap (λ (x : Ran). x.lent.words) e);
      records_fit = omega (arith, ap (λ (x : Ran). x.lent.records) e);
    }

-- over the first words of both
pub fits-lending : (lent : Lent) (arena ledger : List ℕ) → Fits lent arena ledger → (r : Ran) (reply : Reply) (words records : ℕ) → words ≤ 4096 → records ≤ 512
    → r ≡ replied_with reply words records → (arena' ledger' : List ℕ) (n k : ℕ) → n ≤ 4096 → k ≤ 512 → length arena' ≡ n → length ledger' ≡ k
    → Fits r.lent (arena' ++ drop n arena) (ledger' ++ drop k ledger)
fits-lending lent arena ledger f r reply words records h i e arena' ledger' n k hn hk p q =
    fits-replied lent arena ledger f r reply words records h i e (arena' ++ drop n arena) (ledger' ++ drop k ledger)
    (part_length arena arena' n (omega (arith, f.arena_is)) p) (part_length ledger ledger' k (omega (arith, f.ledger_is)) q)

pub fits-ledger : (lent : Lent) (arena ledger : List ℕ) → Fits lent arena ledger → (r : Ran) (reply : Reply) (words records : ℕ) → words ≤ 4096 → records ≤ 512
    → r ≡ replied_with reply words records → (ledger' : List ℕ) (k : ℕ) → k ≤ 512 → length ledger' ≡ k → Fits r.lent arena (ledger' ++ drop k ledger)
fits-ledger lent arena ledger f r reply words records h i e ledger' k hk q =
    fits-replied lent arena ledger f r reply words records h i e arena (ledger' ++ drop k ledger) refl
    (part_length ledger ledger' k (omega (arith, f.ledger_is)) q)

-- ---- the line of a reply

pub reply-line : (o : Outcome) (reply : Reply) (arena ledger : List ℕ) → Says o reply arena ledger → reply_text (paper reply.answer).number (paper reply.answer).value ≡ reply_text o.number o.value
reply-line o reply arena ledger says = λ i. reply_text (says.number_is i) (says.value_is i)

pub replied-line : (r : Ran) (reply : Reply) (words records : ℕ) (arena : List ℕ) → r ≡ replied_with reply words records
    → line_of (take r.lent.words arena) r.line ≡ reply_text (paper reply.answer).number (paper reply.answer).value
replied-line r reply words records arena e = ap (λ (x : Ran). line_of (take x.lent.words arena) x.line) e

pub replied-short : (r : Ran) (reply : Reply) (words records : ℕ) → r ≡ replied_with reply words records → by_node r.line ≡ false
replied-short r reply words records e = ap (λ (x : Ran). by_node x.line) e

-- ---- a call on the heap, and the heap made again
module _ (lent : Lent) (arena ledger : List ℕ) (r : Ran) (reply : Reply) (e : r ≡ replied_with reply lent.words lent.records) where
  pub does_call : (call : Call) (arena' ledger' : List ℕ) → Told (call_of call) (state lent.heap (take lent.words arena) (take lent.records ledger)) reply arena' ledger'
      → Does (Ok (OnHeap call)) (machine lent arena ledger) (machine r.lent (arena' ++ drop lent.words arena) (ledger' ++ drop lent.records ledger)) r.line
  unfolding after printed
  does_call call arena' ledger' says =
      let A = arena' ++ drop lent.words arena in
      let L = ledger' ++ drop lent.records ledger in
      record {
        machine_is = ap (λ (x : Ran). machine x.lent A L) e ∙ ap (λ (s : State). relent s (machine lent arena ledger)) says.state_is;
        line_is = replied-line r reply lent.words lent.records A e ∙ reply-line _ reply arena' ledger' says;
        long_is = replied-short r reply lent.words lent.records e;
      }

  pub does-remake : (order : ℕ) (ledger' : List ℕ) → Says (remade order (machine lent arena ledger)) reply (take lent.words arena) ledger'
      → Does (Ok (Remake order)) (machine lent arena ledger) (machine r.lent arena (ledger' ++ drop lent.records ledger)) r.line
  unfolding after printed
  does-remake order ledger' says =
      let L = ledger' ++ drop lent.records ledger in
      record {
        machine_is =
            ap (λ (x : Ran). machine x.lent arena L) e
            ∙ ap (λ (a : List ℕ). machine (record { heap = reply.heap; words = lent.words; records = lent.records }) a L) (sym (take-append-drop lent.words arena))
            ∙ ap (λ (s : State). relent s (machine lent arena ledger)) says.state_is;
        line_is = replied-line r reply lent.words lent.records arena e ∙ reply-line _ reply (take lent.words arena) ledger' says;
        long_is = replied-short r reply lent.words lent.records e;
      }

-- ---- reading alone

pub does-list : (class : ℕ) (m : Machine) (line : Printed) → Lists class (lent_state m) line → Does (Ok (ListOf class)) m m line
unfolding after printed
does-list class m line l = record { machine_is = refl; line_is = l.line_is; long_is = l.long_is }

pub does-stats : (m : Machine) (line : Printed) → Figured (lent_state m) line → Does (Ok Stats) m m line
unfolding after printed
does-stats m line l = record { machine_is = refl; line_is = l.line_is; long_is = l.long_is }

pub lists-unsound : (class : ℕ) (s : State) → is_sound s ≡ false → Lists class s (Printed·reply (Err BadState))
lists-unsound class s e = record { line_is = sym (ap (λ (t : Bool). listed t (list class (memory s))) e); long_is = sym e }

pub lists-sound : (class : ℕ) (s : State) (head count : ℕ) → is_sound s ≡ true → head ≡ get_or s.heap.heads class 0
    → count ≡ length (nodes (length s.arena) s.arena head) → Lists class s (Nodes head count)
lists-sound class s head count e h k =
    let ns : nodes (length s.arena) s.arena head ≡ list class (memory s) = ap (nodes (length s.arena) s.arena) h in
    record {
      line_is =
          (λ i. line_with (k i) (nodes (length s.arena) s.arena head))
          ∙ ap (λ (xs : List ℕ). line_with (length xs) xs) ns
          ∙ sym (ap (λ (t : Bool). listed t (list class (memory s))) e);
      long_is = sym e;
    }
  where
    line_with : ℕ → List ℕ → List ℕ
    line_with n xs = (48 ∷ 32 ∷ decimal n) ++ addresses xs ++ line_feed

-- ---- a count of nodes

pub count-end : (f : ℕ) (arena : List ℕ) (a : ℕ) → a ≡ 0 → length (nodes f arena a) ≡ 0
count-end f arena a e = rw (e, nodes-end f arena) refl

pub count_none : (f : ℕ) (arena : List ℕ) (a : ℕ) → f ≡ 0 → length (nodes f arena a) ≡ 0
count_none f arena a e = rw (nodes-none f arena a (omega (arith, e))) refl

pub count-step : (f : ℕ) (arena : List ℕ) (a : ℕ) → 0 < f → (a ≡ 0 → ⊥) → length (nodes f arena a) ≡ suc (length (nodes (f - 1) arena (next arena a)))
count-step f arena a p q = ap (λ (xs : List ℕ). length xs) (nodes-step f (f - 1) arena a (omega arith) q)
