-- Runs of words, for what is lent whole: records from the front, and "the rest zero".
use Rattle.std.specs.Prelude.{Bool, true, ◌&&◌, List, [], ◌∷◌, ℕ, zero, suc, eqb}

-- every word is zero
abbrev pub zerosb : List ℕ → Bool
zerosb [] = true
zerosb (w ∷ ws) = eqb w 0 && zerosb ws

-- a list of words cut, or filled up with zeros, to n words
abbrev pub pad : ℕ → List ℕ → List ℕ
pad zero ws = []
pad (suc n) [] = 0 ∷ pad n []
pad (suc n) (w ∷ ws) = w ∷ pad n ws
