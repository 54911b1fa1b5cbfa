-- What is known of a grant that passed its tests, and what is decided of one, by its tests. Assumes nothing.
use mathlib.Core.Path.{◌≡◌, refl, sym, ap, ap₂, ◌∙◌}
use mathlib.Core.Bool.{Bool, true, false, not, ◌||◌}
use mathlib.Core.List.{List, [], ◌∷◌}
use Prim.Native.Nat.{ℕ, ◌+◌, ◌-◌, ◌^◌, ◌≤◌, ◌<◌}
use native.Mathlib.Omega.{arith}
use lib.Dec.{leb}
use lib.Pow.{pow_mono}
use lib.ListN.{length}
use borrow.Author.Tests.{le-leb, lt-leb}
use Rattle.answers.specs.Paper.{Answer}
use Rattle.std.specs.Prelude.{Ok, Err}
use Rattle.answers.specs.declared.Refusal.{Refusal}
use Rattle.answers.specs.declared.Refusal.TheVariants.{BadAlign, NoBlock, NoRoom}
use Rattle.blocks.specs.Blocks.{is_power_of_two, size_of}
use Rattle.blocks.proofs.Rounding.{size_is}
use Rattle.ledger.specs.Ledger.{grant, enter, ledger_words}
use Rattle.ledger.proofs.Ledgers.{length-grants}
use Rattle.ledger.proofs.Keeping.{length-enter}
use Rattle.heap_state.specs.Lists.{Memory, head, first_class, split_down}
use Rattle.heap_state.specs.State.{State, state, Says}
use Rattle.heap_blocks.specs.Sound.{is_sound}
use Rattle.heap_blocks.proofs.Facts.{Sound, sound-fact}
use Rattle.heap_blocks.proofs.Heads.{head-placed}
use Rattle.heap_blocks.proofs.Counters.{counters-small}
use Rattle.answers.specs.Judging.{refused, refuse, judge}
use Rattle.heap_core.specs.Deciding.{Decision, memory, class_for, granted, with_grants, carried}
use Rattle.heap_grant.specs.Granting.{serving, granting}
use Rattle.heap_moves.specs.Moves.{mem, Servable, TakenOut}
use Rattle.heap_grant.specs.Parts.{Grantable, grant_done}
use Rattle.heap_core.proofs.Kept.{kept, granted_heap}
use Rattle.answers.proofs.Judging.{judged-yes, judged-no}
use Rattle.heap_moves.proofs.Halving.{halved-head}
use Rattle.heap_core.proofs.Requests.{class-word, class-holds}
use Rattle.heap_grant.proofs.Serving.{first-same, Serves, found-serves}

-- ---- an answer is one thing

pub done-one : (a : Answer) (v w : ℕ) → a ≡ Ok v → a ≡ Ok w → v ≡ w
done-one a v w e f = cc

pub done-not-refused : (a : Answer) (v : ℕ) (r : Refusal) → a ≡ Ok v → a ≡ Err r → ⊥
done-not-refused a v r e f = let w : ◌≡◌ {A = ℕ} 0 1 = cc in omega arith

-- ---- a grant that passed its tests

module _ (st : State) (from class size : ℕ) (g : Grantable st from class size) (wide : length st.heap.heads ≡ 33) where
  sound : Sound st.heap st.arena st.ledger
  sound = sound-fact st.heap st.arena st.ledger g.sound

  pub servable : Servable (memory st) from class
  servable =
      let p = head-placed st.heap st.arena st.ledger from sound g.has_block in
      record { suffices = g.suffices; is_class = g.is_class; has_block = g.has_block; wide = wide; ends = omega (arith, p.inside, sound.ranges.arena-high) }

  pub record Fits : Type 0 where
    pub class-fits : class < 64
    pub size_fits : size < 2 ^ 24
    pub block-fits : head class (split_down (from - class) class (memory st)) < 2 ^ 24
    pub user-fits : st.heap.user + size < 2 ^ 64
    pub allocated-fits : st.heap.allocated + 2 ^ class < 2 ^ 64

  pub fits : Fits
  fits =
      let p = head-placed st.heap st.arena st.ledger from sound g.has_block in
      let c = counters-small st.heap st.arena st.ledger sound in
      let e : class + (from - class) ≡ from = omega (arith, g.suffices) in
      let b : head class (split_down (from - class) class (memory st)) ≡ head from (memory st) =
      halved-head (from - class) class (memory st) (omega (arith, g.is_class)) ∙ ap (λ (j : ℕ). head j (memory st)) e in
      let m : 2 ^ class ≤ 2 ^ from = pow_mono g.suffices in
      record {
        class-fits = omega (arith, g.suffices, g.is_class);
        size_fits = omega (arith, g.holds, p.inside, sound.ranges.arena-high);
        block-fits = omega (arith, p.inside, sound.ranges.arena-high);
        user-fits = omega (arith, g.holds, p.inside, sound.ranges.arena-high, c.user);
        allocated-fits = omega (arith, p.inside, sound.ranges.arena-high, c.allocated);
      }

  -- the ledger counts one more
  pub one_more : (block : ℕ) → length (enter (grant class size block) (granted st)) ≡ st.heap.count + 1
  one_more block = omega (arith, length-enter (grant class size block) (granted st), length-grants st.heap.order st.heap.count st.ledger (kept st sound))

  -- what was taken out of the lists and entered into the ledger is what is decided
  module _ (r : Answer) (block : ℕ) (heads arena : List ℕ) (taken : TakenOut from class (memory st) r (mem heads arena)) (told : r ≡ Ok block) where
    pub block-is : block ≡ head class (split_down (from - class) class (memory st))
    block-is = done-one r block (head class (split_down (from - class) class (memory st))) told taken.answer

    pub grant-says : (words : List ℕ) (sized : ℕ) → words ≡ ledger_words (length st.ledger) (enter (grant class size block) (granted st)) → sized ≡ size_of class
        → Says (carried st (grant_done from class size st)) (record { answer = Ok block; heap = granted_heap heads (st.heap.count + 1) (st.heap.user + size) (st.heap.allocated + sized) st.heap }) arena words
    grant-says words sized e z =
        let two : sized ≡ 2 ^ class = z ∙ size_is class (omega (arith, g.suffices, g.is_class)) in
        record { number_is = refl; value_is = block-is; state_is = rw (e, sym (one_more block), two, block-is) (left taken.memory) }
      where
        left : {x : Memory} → mem heads arena ≡ x
            → state (granted_heap heads (length (enter (grant class size (head class (split_down (from - class) class (memory st)))) (granted st))) (st.heap.user + size) (st.heap.allocated + 2 ^ class) st.heap) arena
            (ledger_words (length st.ledger) (enter (grant class size (head class (split_down (from - class) class (memory st)))) (granted st)))
            ≡ with_grants st x (enter (grant class size (head class (split_down (from - class) class (memory st)))) (granted st)) (st.heap.user + size) (st.heap.allocated + 2 ^ class)
        left q = ap (λ (m : Memory). with_grants st m (enter (grant class size (head class (split_down (from - class) class (memory st)))) (granted st)) (st.heap.user + size) (st.heap.allocated + 2 ^ class)) q

-- ---- what is decided, by the tests in their order

module _ (size align : ℕ) (st : State) where
  abbrev align-test : Bool
  align-test = not (is_power_of_two align)

  abbrev block-test : Bool
  block-test = leb st.heap.order (class_for size align) || leb 33 (serving (class_for size align) st)

  abbrev room-test : Bool
  room-test = leb (length st.ledger) st.heap.count

  abbrev given : Decision
  given = grant_done (serving (class_for size align) st) (class_for size align) size st

  -- the class and the serving class as the code has them
  pub record Chosen (class from : ℕ) : Type 0 where
    pub class-is : class ≡ class_for size align
    pub from_is : from ≡ serving (class_for size align) st

  pub chosen : (class from : ℕ) → class ≡ class_for size align → from ≡ first_class (st.heap.order - class) class (mem st.heap.heads []) → Chosen class from
  chosen class from e f =
      record {
        class-is = e;
        from_is = f ∙ first-same (st.heap.order - class) class st.heap.heads [] st.arena ∙ ap (λ (k : ℕ). serving k st) e;
      }

  pub badly-aligned : is_power_of_two align ≡ false → granting size align st ≡ refused BadAlign
  unfolding granting
  badly-aligned e = judged-yes align-test BadAlign (refuse block-test NoBlock ∷ refuse room-test NoRoom ∷ []) given (rw e)

  module _ (aligned : is_power_of_two align ≡ true) where
    no_block : block-test ≡ true → granting size align st ≡ refused NoBlock
    unfolding granting
    no_block t =
        judged-no align-test BadAlign (refuse block-test NoBlock ∷ refuse room-test NoRoom ∷ []) given (rw aligned) ∙ judged-yes block-test NoBlock (refuse room-test NoRoom ∷ []) given t

    pub too_large : st.heap.order ≤ class_for size align → granting size align st ≡ refused NoBlock
    too_large h = no_block (rw (le-leb st.heap.order (class_for size align) h))

    module _ (small : class_for size align < st.heap.order) where
      pub none-serves : 33 ≤ serving (class_for size align) st → granting size align st ≡ refused NoBlock
      none-serves h = no_block (rw (lt-leb st.heap.order (class_for size align) small, le-leb 33 (serving (class_for size align) st) h))

      module _ (served : serving (class_for size align) st < 33) where
        one-serves : block-test ≡ false
        one-serves = rw (lt-leb st.heap.order (class_for size align) small, lt-leb 33 (serving (class_for size align) st) served)

        past-block : granting size align st ≡ judge (refuse room-test NoRoom ∷ []) given
        unfolding granting
        past-block =
            judged-no align-test BadAlign (refuse block-test NoBlock ∷ refuse room-test NoRoom ∷ []) given (rw aligned)
            ∙ judged-no block-test NoBlock (refuse room-test NoRoom ∷ []) given one-serves

        pub ledger-full : length st.ledger ≤ st.heap.count → granting size align st ≡ refused NoRoom
        ledger-full h = past-block ∙ judged-yes room-test NoRoom [] given (le-leb (length st.ledger) st.heap.count h)

        pub can-grant : st.heap.count < length st.ledger → granting size align st ≡ given
        can-grant h = past-block ∙ judged-no room-test NoRoom [] given (lt-leb (length st.ledger) st.heap.count h)

        -- a grant that passed its tests has all that the work asks
        pub passed : is_sound st ≡ true → st.heap.count < length st.ledger → Grantable st (serving (class_for size align) st) (class_for size align) size
        passed sound room =
            let s : Serves (class_for size align) (class_for size align + (st.heap.order - class_for size align)) (serving (class_for size align) st) (memory st) =
            found-serves (st.heap.order - class_for size align) (class_for size align) (memory st) served in
            record {
              sound = sound;
              suffices = s.suffices;
              is_class = served;
              word = class-word size align;
              has_block = s.has_block;
              holds = class-holds size align (omega (arith, s.suffices));
              room = room;
            }

        pub as-chosen : (class from : ℕ) → Chosen class from → is_sound st ≡ true → st.heap.count < length st.ledger → Grantable st from class size
        as-chosen class from c sound room = rw (c.class-is, c.from_is) (passed sound room)

        pub chosen-given : (class from : ℕ) → Chosen class from → st.heap.count < length st.ledger → grant_done from class size st ≡ granting size align st
        chosen-given class from c room = ap₂ (λ (f k : ℕ). grant_done f k size st) c.from_is c.class-is ∙ sym (can-grant room)
