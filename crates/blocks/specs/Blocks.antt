-- The arithmetic of blocks, from docs/RULES.md, "Blocks of frames". The promises of src/lib.rt cite these definitions.
use Rattle.std.specs.Prelude.{ℕ, zero, suc, ◌+◌, ◌-◌, ◌/◌, ◌%◌, ◌^◌, min, max, Bool, true, false, leb, ◌==◌, nat_eq, nat_le, nat_lt}
use Rattle.std.specs.Int.Count.{count_trailing_zeros}
use Rattle.std.specs.Prelude.{Option, Some, None}

-- "The 33 block sizes stand in a fixed table": 2 ^ class for the classes 0 to 32. A class above has no blocks, and its size is 0
unfoldable pub size_of : ℕ → ℕ
size_of class = elim (nat_le class 32) [ true ↦ 2 ^ class | false ↦ 0 ]

-- the class of a size that is a power of two: how often 2 divides it
unfoldable pub size_class : ℕ → ℕ
size_class size = count_trailing_zeros 64 size

-- the first class that holds the count, among k and the classes after it, as many as there are tries
unfoldable pub first_holding : ℕ → ℕ → ℕ → Option ℕ
first_holding zero k count = None
first_holding (suc tries) k count = elim (nat_le count (2 ^ k)) [ true ↦ Some k | false ↦ first_holding tries (suc k) count ]

-- "Rounding takes a count to the least power of two not below it, and 0 to 1": its class, of the 33, or None
unfoldable pub rounded : ℕ → Option ℕ
rounded count = first_holding 33 0 count

-- the larger of two classes, where None is larger than each
abbrev pub larger : Option ℕ → Option ℕ → Option ℕ
larger (Some j) (Some k) = Some (max j k)
larger (Some j) None = None
larger None r = None

-- "Aligned requests take the larger of the rounded count and the alignment"; an alignment that is no power of two is rounded as well
unfoldable pub rounded_aligned : ℕ → ℕ → Option ℕ
rounded_aligned size align = larger (rounded size) (rounded align)

-- the largest of 2 ^ (w - 1), .., 4, 2, 1 that passes a test, and 0 where none does
unfoldable pub largest_power : (ℕ → Bool) → ℕ → ℕ
largest_power passes zero = 0
largest_power passes (suc k) = elim (passes (2 ^ k)) [ true ↦ 2 ^ k | false ↦ largest_power passes k ]

-- "the largest power of two that is at most what remains", for numbers of 64 bits; 0 has none, and gives 0
unfoldable pub prev_power_of_two : ℕ → ℕ
prev_power_of_two num = largest_power (λ p. leb p num) 64

-- one of 1, 2, 4, .., 2 ^ 63; "alignment is not a power of two", refusal 7, is where this is false
unfoldable pub is_power_of_two : ℕ → Bool
is_power_of_two num = nat_lt 0 (largest_power (λ p. nat_eq p num) 64)

-- the largest power of two that divides the start, and 0 for 0. `mask` of proofs/Bits proves that this is what the rules say: "The lowest
-- set bit is the number masked with its wrapping negation."
unfoldable pub lowest_bit : ℕ → ℕ
lowest_bit start = elim (start == 0) [ true ↦ 0 | false ↦ largest_power (λ p. nat_eq (start % p) 0) 64 ]

-- "the buddy (start with bit k flipped)": 2 ^ k more where that bit is 0, and 2 ^ k less where it is 1
unfoldable pub buddy_of : ℕ → ℕ → ℕ
buddy_of class start = elim (start / size_of class % 2 == 0) [ true ↦ start + size_of class | false ↦ start - size_of class ]

-- "the lowest set bit of its start (the top block at 0)"
unfoldable pub lowest_or_top : ℕ → ℕ → ℕ
lowest_or_top top start = elim (start == 0) [ true ↦ size_of top | false ↦ lowest_bit start ]

-- "each piece has the least of the lowest set bit of its start (the top block at 0), the largest power of two that is at most what remains, and the top block"
unfoldable pub piece_size : ℕ → ℕ → ℕ → ℕ
piece_size top start left = min (min (lowest_or_top top start) (prev_power_of_two left)) (size_of top)
