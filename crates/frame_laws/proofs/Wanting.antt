-- When a request is refused for want of a block. Assumes nothing.
use mathlib.Core.Path.{◌≡◌, refl, ap, ◌∙◌}
use mathlib.Core.Logic.{◌↔◌}
use mathlib.Core.Bool.{Bool, true, false}
use mathlib.Core.List.{List, [], ◌∷◌}
use Prim.Native.Nat.{ℕ, ◌-◌, ◌%◌, ◌^◌, ◌<◌}
use native.Mathlib.Omega.{arith}
use lib.Dec.{ltb}
use lib.ListN.{length}
use borrow.Author.Tests.{lt-leb, eq-eqb}
use Rattle.answers.specs.Judging.{judge}
use Rattle.blocks.specs.Blocks.{rounded}
use Rattle.std.specs.Prelude.{Option, Some, None}
use Rattle.rules.specs.Aligned.{Aligned}
use Rattle.rules.specs.Rules.{Block, start, serving, containing, block_at, halved}
use Rattle.rules.proofs.Best.{somewhere}
use Rattle.rules.proofs.Refused.{serving-refused, containing-refused}
use Rattle.frame_core.specs.Deciding.{Decision, wanted}
use Rattle.frame_core.specs.Carried.{carried}
use Rattle.frame_grant.specs.Granting.{granting, granting_at}
use Rattle.frame.specs.Outcome.{Call, AllocAt, zeros, decide}
use Rattle.frame_laws.specs.Demand3.{Requests, alloc, alloc_aligned}
use Rattle.frame_laws.specs.Demand3 as say
use Rattle.frame_laws.proofs.Tables.{stands-outcome}
use Rattle.frame_laws.proofs.Effects.{rest, given}
use Rattle.frame_laws.proofs.Reaching.{reached, kept, spare-frames}

-- the number that a decision answers
abbrev number_in : List ℕ → List ℕ → Decision → ℕ
number_in none ws d = (carried none ws d).reply.number

module _ (room : ℕ) (bs : List Block) (none ws : List ℕ) where
  -- past the tests of the request, 9 says that no block was found
  found-nine : (k : ℕ) (run : Block → ℕ) (f : Option ℕ) → (number_in none ws (judge (rest room bs f run k) (given room bs f run k)) ≡ 9) ↔ (f ≡ None)
  found-nine k run None = (λ e. refl, λ e. refl)
  found-nine k run (Some i) = (λ e. absurd (other (ltb room (length (halved k (run (block_at i bs)) i bs))) refl e), λ e. absurd (somewhere e))
    where
      other : (b : Bool) → ltb room (length (halved k (run (block_at i bs)) i bs)) ≡ b
          → number_in none ws (judge (rest room bs (Some i) run k) (given room bs (Some i) run k)) ≡ 9 → ⊥
      other true q e = let z : ◌≡◌ {A = ℕ} 11 9 = rw q at e in omega arith
      other false q e = let z : ◌≡◌ {A = ℕ} 0 9 = rw q at e in omega arith

  granting-nine : (order k : ℕ) → k < order → (number_in none ws (granting k order room bs) ≡ 9) ↔ (serving (order - 1) k bs ≡ None)
  unfolding granting
  granting-nine order k h = rw (lt-leb order k h) (found-nine k start (serving (order - 1) k bs))

  granting-at-nine : (order s k : ℕ) → k < order → Aligned k s → (number_in none ws (granting_at s k order room bs) ≡ 9) ↔ (containing k s bs ≡ None)
  unfolding granting_at
  granting-at-nine order s k h a = rw (lt-leb order k h, eq-eqb (s % 2 ^ k) 0 a.multiple) (found-nine k (λ b. s) (containing k s bs))

-- what a request decides
requested : {c : Call} {k : ℕ} (order room : ℕ) (bs : List Block) → Requests c k → decide c order room bs ≡ granting k order room bs
unfolding decide
requested order room bs (alloc n) = refl
requested order room bs (alloc_aligned n a p) = rw p refl

-- 4
pub refused_for_want : say.RefusedForWant
refused_for_want order w r apart request k q h =
    let t = reached r in
    let o = stands-outcome t.stands request ∙ ap (carried (zeros request) w.words) (requested order (length r.lent - 1) t.blocks q) in
    let nine = granting-nine (length r.lent - 1) t.blocks (zeros request) w.words order k h in
    let lacking = serving-refused t.blocks (kept t apart) k (omega arith) in
    rw o (
      λ e s a f. lacking.0 (nine.0 e) s a (λ x c. (spare-frames t x).1 (f x c)),
      λ never. nine.1 (lacking.1 (λ s a f. never s a (λ x c. (spare-frames t x).0 (f x c)))),
    )

pub refused_at_start : say.RefusedAtStart
unfolding decide
refused_at_start order w r apart s n h a =
    let t = reached r in
    let k = wanted (rounded n) in
    let o = stands-outcome t.stands (AllocAt s n) in
    let nine = granting-at-nine (length r.lent - 1) t.blocks (0 ∷ []) w.words order s k h a in
    let lacking = containing-refused t.blocks (kept t apart) k s (omega arith) a in
    rw o (
      λ e. let x = lacking.0 (nine.0 e) in record { frame = x.frame; covers = omega (arith, x.within); not_free = λ f. x.not_spare ((spare-frames t x.frame).1 f) },
      λ x. nine.1 (lacking.1 (record { frame = x.frame; within = omega (arith, x.covers); not_spare = λ f. x.not_free ((spare-frames t x.frame).0 f) })),
    )
