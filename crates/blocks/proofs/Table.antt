-- The rule of a table of numbers: a test that antt computes over all entries, and the law that turns it into the rule at each.
-- Assumes nothing.
use Rattle.std.proofs.Common.{◌≡◌, ℕ, zero, suc, ◌+◌, ◌<◌, Bool, true, false, ◌&&◌, T, eqb, List, [], ◌∷◌, length, get_or, arith, eqb→eq}

-- entry i of the list is f of from + i, for every i
abbrev pub entries : (ℕ → ℕ) → ℕ → List ℕ → Bool
entries f from [] = true
entries f from (x ∷ xs) = eqb x (f from) && entries f (suc from) xs

first : (a b : Bool) → T (a && b) → T a
first true b t = tt
first false b t = absurd t

rest : (a b : Bool) → T (a && b) → T b
rest true b t = t
rest false b t = absurd t

pub entry : (f : ℕ → ℕ) (from : ℕ) (xs : List ℕ) → T (entries f from xs) → (i : ℕ) → i < length xs → get_or xs i 0 ≡ f (from + i)
entry f from [] t i h = absurd (omega arith)
entry f from (x ∷ xs) t zero h =
    let e : from + 0 ≡ from = omega arith in
    rw e (eqb→eq x (f from) (first (eqb x (f from)) (entries f (suc from) xs) t))
entry f from (x ∷ xs) t (suc i) h =
    let e : from + suc i ≡ suc from + i = omega arith in
    rw e (entry f (suc from) xs (rest (eqb x (f from)) (entries f (suc from) xs) t) i (omega arith))
