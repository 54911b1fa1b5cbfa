-- `blocks::size_of` meets its contract: the rule of the table of sizes, at all of its 33 entries. Assumes nothing.
use Rattle.std.proofs.Common.{◌≡◌, ℕ, ◌^◌, ◌≤◌, List, [], ◌∷◌, get_or, sym, ap, ◌∙◌, zero-add, arith}
use Rattle.blocks.proofs.Table.{entry}
use Rattle.blocks.proofs.Rounding.{size_is, size_none}
use Rattle.blocks.proofs.size_of.Goals as goal

-- the table of the code, as a list
sizes : List ℕ
sizes =
    1 ∷ 2 ∷ 4 ∷ 8 ∷ 16 ∷ 32 ∷ 64 ∷ 128 ∷ 256 ∷ 512 ∷ 1024 ∷ 2048 ∷ 4096 ∷ 8192 ∷ 16384 ∷ 32768
    ∷ 65536 ∷ 131072 ∷ 262144 ∷ 524288 ∷ 1048576 ∷ 2097152 ∷ 4194304 ∷ 8388608 ∷ 16777216 ∷ 33554432 ∷ 67108864
    ∷ 134217728 ∷ 268435456 ∷ 536870912 ∷ 1073741824 ∷ 2147483648 ∷ 4294967296 ∷ []

-- the table's rule: the entry at k is 2 ^ k
rule : (k : ℕ) → k ≤ 32 → get_or sizes k 0 ≡ 2 ^ k
unfolding sizes
rule k h = entry (λ j. 2 ^ j) 0 sizes tt k (omega arith) ∙ ap (λ (j : ℕ). 2 ^ j) (zero-add k)

pub returns-then-class-le32 : goal.returns-then-class-le32
unfolding sizes
returns-then-class-le32 c = rule c.args.class (omega arith) ∙ sym (size_is c.args.class (omega arith))

pub returns-else-class-le32 : goal.returns-else-class-le32
returns-else-class-le32 c = sym (size_none c.args.class (omega arith))
