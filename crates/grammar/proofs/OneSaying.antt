-- What `say` promises admits one answer: a line and the length of its name tell which it was. Assumes nothing.
use mathlib.Core.Path.{◌≡◌, refl, sym, ap, ◌∙◌}
use mathlib.Core.List.{List, [], ◌∷◌}
use Prim.Native.Nat.{ℕ, ◌≤◌}
use lib.ListN.{length}
use lib.Seq.{length-take-le}
use Rattle.std.specs.Prelude.{Result, Ok, Err}
use Rattle.grammar.specs.Line.{Line, said, bad, line_said, name_length}
use Rattle.grammar.specs.declared.BadLine.{BadLine}
use Rattle.grammar.specs.declared.Said.{Said}
use Rattle.grammar.specs.declared.Said.TheVariants.{Name, One, Two, Three}

-- a line's name and numbers; a bad line has neither
abbrev name_in : Line → List ℕ
name_in (said name ns) = name
name_in bad = []

abbrev numbers_in : Line → List ℕ
numbers_in (said name ns) = ns
numbers_in bad = 0 ∷ 0 ∷ 0 ∷ 0 ∷ []

-- the answer that a name's length and the numbers stand for: the way back
abbrev back : ℕ → List ℕ → Result Said BadLine
back n [] = Ok (Name n)
back n (a ∷ []) = Ok (One n a)
back n (a ∷ b ∷ []) = Ok (Two n a b)
back n (a ∷ b ∷ c ∷ []) = Ok (Three n a b c)
back n (a ∷ b ∷ c ∷ d ∷ ns) = Err (record {})

read : (bs : List ℕ) (s : Result Said BadLine) → back (name_length s) (numbers_in (line_said bs s)) ≡ s
read bs (Ok (Name n)) = refl
read bs (Ok (One n a)) = refl
read bs (Ok (Two n a b)) = refl
read bs (Ok (Three n a b c)) = refl
read bs (Err e) = refl

name-length : (bs : List ℕ) (s : Result Said BadLine) → name_length s ≤ length bs → length (name_in (line_said bs s)) ≡ name_length s
name-length bs (Ok (Name n)) h = length-take-le n bs h
name-length bs (Ok (One n a)) h = length-take-le n bs h
name-length bs (Ok (Two n a b)) h = length-take-le n bs h
name-length bs (Ok (Three n a b c)) h = length-take-le n bs h
name-length bs (Err e) h = refl

pub one-saying : (bs : List ℕ) (s t : Result Said BadLine) → name_length s ≤ length bs → name_length t ≤ length bs → line_said bs s ≡ line_said bs t → s ≡ t
one-saying bs s t h l e =
    let n : name_length s ≡ name_length t = sym (name-length bs s h) ∙ ap (λ (x : Line). length (name_in x)) e ∙ name-length bs t l in
    sym (read bs s) ∙ ap (λ (k : ℕ). back k (numbers_in (line_said bs s))) n ∙ ap (λ (x : Line). back (name_length t) (numbers_in x)) e ∙ read bs t
