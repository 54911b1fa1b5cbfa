-- What granting and granting at a start decide over the blocks of a sound table, from docs/RULES.md, "Blocks of frames" and "Refusal numbers".
use Rattle.std.specs.Prelude.{not, List, [], ◌∷◌, ℕ, ◌-◌, ◌%◌, ◌^◌, eqb, leb, Option, is_none, unwrap_or}
use Rattle.answers.specs.declared.Refusal.TheVariants.{Misaligned, NoBlock}
use Rattle.answers.specs.Judging.{done, refuse, judge}
use Rattle.rules.specs.Rules.{Block, start, serving, containing, block_at, halved}
use Rattle.frame_core.specs.Deciding.{Decision, no_room}

-- a grant of class c from the block that was found, to the run that starts where it says
abbrev pub granted_from : Option ℕ → (Block → ℕ) → ℕ → List Block → List Block
granted_from f run c bs = halved c (run (block_at (unwrap_or f 0) bs)) (unwrap_or f 0) bs

unfoldable pub granting : ℕ → ℕ → ℕ → List Block → Decision
granting c order capacity bs =
    judge
    (refuse (leb order c) NoBlock ∷ refuse (is_none (serving (order - 1) c bs)) NoBlock
    ∷ no_room capacity (granted_from (serving (order - 1) c bs) start c bs) ∷ [])
    (done (start (block_at (unwrap_or (serving (order - 1) c bs) 0) bs) ∷ []) (granted_from (serving (order - 1) c bs) start c bs))

-- "in `alloc_at` the size test of 9 comes before 8"
unfoldable pub granting_at : ℕ → ℕ → ℕ → ℕ → List Block → Decision
granting_at run c order capacity bs =
    judge
    (refuse (leb order c) NoBlock ∷ refuse (not (eqb (run % 2 ^ c) 0)) Misaligned ∷ refuse (is_none (containing c run bs)) NoBlock
    ∷ no_room capacity (granted_from (containing c run bs) (λ b. run) c bs) ∷ [])
    (done (run ∷ []) (granted_from (containing c run bs) (λ b. run) c bs))
