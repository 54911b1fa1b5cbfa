-- The words of a heap's ledger, from docs/RULES.md, "The heap over an arena": "class 6 bits, requested bytes 24, zero 10, address 24; ascending
-- addresses, the rest zero."
use Rattle.std.specs.Prelude.{Bool, true, false, ◌&&◌, List, [], ◌∷◌, map, ℕ, suc, ◌+◌, ◌*◌, ◌/◌, ◌%◌, ◌^◌, eqb, leb, ltb, take}
use Rattle.words.specs.Words.{pad}

-- a granted block: its class, the bytes that were asked for, and its address
pub data Grant : Type 0 where
  grant : ℕ → ℕ → ℕ → Grant

abbrev pub class : Grant → ℕ
class (grant k n a) = k

abbrev pub requested : Grant → ℕ
requested (grant k n a) = n

abbrev pub address : Grant → ℕ
address (grant k n a) = a

abbrev pub class_of : ℕ → ℕ
class_of w = w / 0x400_0000_0000_0000

abbrev pub requested_of : ℕ → ℕ
requested_of w = w / 0x4_0000_0000 % 0x100_0000

abbrev pub gap_of : ℕ → ℕ
gap_of w = w / 0x100_0000 % 0x400

abbrev pub address_of : ℕ → ℕ
address_of w = w % 0x100_0000

abbrev pub grant_of : ℕ → Grant
grant_of w = grant (class_of w) (requested_of w) (address_of w)

abbrev pub word_of : Grant → ℕ
word_of (grant k n a) = k * 0x400_0000_0000_0000 + n * 0x4_0000_0000 + a

-- "ascending addresses": a granted block put into its place, and one taken out
abbrev pub enter : Grant → List Grant → List Grant
enter g [] = g ∷ []
enter g (x ∷ xs) = elim (ltb (address g) (address x)) [ true ↦ g ∷ x ∷ xs | false ↦ x ∷ enter g xs ]

abbrev pub same : ℕ → ℕ → ℕ → Grant → Bool
same k n a (grant j m b) = eqb j k && eqb m n && eqb b a

abbrev pub strike : (Grant → Bool) → List Grant → List Grant
strike p [] = []
strike p (x ∷ xs) = elim (p x) [ true ↦ strike p xs | false ↦ x ∷ strike p xs ]

abbrev pub some : (Grant → Bool) → List Grant → Bool
some p [] = false
some p (x ∷ xs) = elim (p x) [ true ↦ true | false ↦ some p xs ]

-- ---- the words, and what they say

-- the granted blocks of a ledger with so many records
abbrev pub grants : ℕ → List ℕ → List Grant
grants count ledger = map grant_of (take count ledger)

-- the whole ledger of n words of these granted blocks: "the rest zero"
abbrev pub ledger_words : ℕ → List Grant → List ℕ
ledger_words n gs = pad n (map word_of gs)

-- "ledger records obey their layout, with class 3 to ORDER-1 and a block that holds the request"
unfoldable pub recordb : ℕ → ℕ → Bool
recordb order w = eqb (gap_of w) 0 && leb 3 (class_of w) && ltb (class_of w) order && leb (requested_of w) (2 ^ class_of w)

abbrev pub recordsb : ℕ → List ℕ → Bool
recordsb order [] = true
recordsb order (w ∷ ws) = recordb order w && recordsb order ws

-- "ascending addresses": the next address is at least `floor`
abbrev pub ascendingb : ℕ → List ℕ → Bool
ascendingb floor [] = true
ascendingb floor (w ∷ ws) = leb floor (address_of w) && ascendingb (suc (address_of w)) ws
