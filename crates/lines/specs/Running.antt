-- Lines run one after the other, and what a program that reads an input in chunks promises of it: over any state, and any step by which a line changes it.
use Rattle.std.specs.Prelude.{List, [], ◌∷◌, ◌≡◌, ℕ, take}
use Rattle.lines.specs.Gather.{fed, last_line}

abbrev pub after_all : {S : Type 0} → (List ℕ → S → S) → List (List ℕ) → S → S
after_all step [] s = s
after_all step (l ∷ ls) s = after_all step ls (step l s)

-- a buffer holds a line by its first 81 bytes, which say as much as all of it does (grammar/proofs/Sayings, `line-enough`)
abbrev pub Holds : List ℕ → ℕ → List ℕ → Type 0
Holds held len line = take len held ≡ take 81 line

-- A chunk of the input read behind whatever line is held: the lines that end in it were run, and the buffer holds the one that is open.
abbrev pub Took : {S : Type 0} → (List ℕ → S → S) → List ℕ → List ℕ → ℕ → S → List ℕ → ℕ → S → Type 0
Took step chunk held len s held' len' s' =
    (line : List ℕ) → Holds held len line
    → Holds held' len' (fed (record { done = []; held = line }) chunk).held
    × (s' ≡ after_all step (fed (record { done = []; held = line }) chunk).done s)

-- A chunk of the input of which the reading ended on the way, since the output could not be written: of the lines that end in it the first were run, and no
-- other.
abbrev pub Stopped : {S : Type 0} → (List ℕ → S → S) → List ℕ → List ℕ → ℕ → S → S → Type 0
Stopped step chunk held len s s' =
    (line : List ℕ) → Holds held len line → (n : ℕ) × (s' ≡ after_all step (take n (fed (record { done = []; held = line }) chunk).done) s)

-- at the input's end what is held is a line, unless nothing is
abbrev pub Ended : {S : Type 0} → (List ℕ → S → S) → List ℕ → ℕ → S → S → Type 0
Ended step held len s s' = (line : List ℕ) → Holds held len line → s' ≡ after_all step (last_line line) s
