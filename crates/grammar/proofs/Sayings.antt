-- A line from its words, its first 81 bytes as good as all of it, and a name from its bytes.
use mathlib.Core.Bool.{Bool, true, false, cond, ◌&&◌}
use mathlib.Core.List.{List, [], ◌∷◌, ◌++◌}
use mathlib.Core.Path.{◌≡◌, refl, sym, ap, subst, ◌∙◌}
use Prim.Native.Nat.{ℕ, ◌+◌, ◌<◌, ◌≤◌}
use native.Mathlib.Omega.{arith}
use borrow.Author.Tests.{eqb-true, eq-eqb, le-leb, lt-leb, leb-true, leb-false}
use lib.Dec.{eqb, leb}
use lib.ListN.{length, take, length-append, length-take}
use lib.Seq.{take_all}
use Rattle.std.specs.Prelude.{Option, Some, None, Result, Ok, Err}
use Rattle.grammar.specs.Line.{Numbers, all, not_all, before, numbers_of, said, bad, saying, line_of, same}
use Rattle.grammar.specs.Next.{NextIs}
use Rattle.lines.specs.Pieces.{pieces_after, PieceEnds}
use Rattle.grammar.specs.declared.BadLine.{BadLine}

-- ---- lines

pub too_long : (bs : List ℕ) → 80 < length bs → bad ≡ line_of bs
unfolding line_of
too_long bs h = rw (lt-leb (length bs) 80 h)

-- more than 80 bytes say no more than 81 do
pub line-enough : (line : List ℕ) → line_of (take 81 line) ≡ line_of line
line-enough line = by_cases (leb (length line) 81) refl
  where
    by_cases : (t : Bool) → leb (length line) 81 ≡ t → line_of (take 81 line) ≡ line_of line
    by_cases true e = let short : length line ≤ 81 = leb-true (length line) 81 e in ap line_of (take_all 81 line short)
    by_cases false e =
        let long : 81 < length line = leb-false (length line) 81 e in
        sym (too_long (take 81 line) (omega (arith, length-take 81 line))) ∙ too_long line (omega arith)

module _ (bs : List ℕ) (n : ℕ) (short : length bs ≤ 80) (name : PieceEnds 32 bs n) where
  by-words : line_of bs ≡ cond (leb (length (pieces_after 32 bs n)) 3) (saying (take n bs) (numbers_of (pieces_after 32 bs n))) bad
  unfolding line_of
  by-words = rw (le-leb (length bs) 80 short, name.pieces)

  pub numbers-said : (ns : List ℕ) → numbers_of (pieces_after 32 bs n) ≡ all ns → length (pieces_after 32 bs n) ≤ 3 → said (take n bs) ns ≡ line_of bs
  numbers-said ns e few = sym (by-words ∙ rw (le-leb (length (pieces_after 32 bs n)) 3 few, e))

  pub no_number : numbers_of (pieces_after 32 bs n) ≡ not_all → bad ≡ line_of bs
  no_number e = sym (by-words ∙ rw e (either (leb (length (pieces_after 32 bs n)) 3)))
    where
      either : (t : Bool) → cond t bad bad ≡ bad
      either true = refl
      either false = refl

  pub too_many : 3 < length (pieces_after 32 bs n) → bad ≡ line_of bs
  too_many h = sym (by-words ∙ rw (lt-leb (length (pieces_after 32 bs n)) 3 h))

-- ---- word after word

abbrev pub before_all : List ℕ → Numbers → Numbers
before_all [] x = x
before_all (n ∷ ns) x = before (Some n) (before_all ns x)

before-end : (ns : List ℕ) → before_all ns (all []) ≡ all ns
before-end [] = refl
before-end (n ∷ ns) = ap (before (Some n)) (before-end ns)

before-wrong : (ns : List ℕ) → before_all ns not_all ≡ not_all
before-wrong [] = refl
before-wrong (n ∷ ns) = ap (before (Some n)) (before-wrong ns)

before_more : (ns : List ℕ) (n : ℕ) (x : Numbers) → before_all ns (before (Some n) x) ≡ before_all (ns ++ (n ∷ [])) x
before_more [] n x = refl
before_more (m ∷ ns) n x = ap (before (Some m)) (before_more ns n x)

-- from the name's end to a place stand these numbers
pub record Reached (bs : List ℕ) (name : ℕ) (ns : List ℕ) (place : ℕ) : Type 0 where
  pub numbers : numbers_of (pieces_after 32 bs name) ≡ before_all ns (numbers_of (pieces_after 32 bs place))
  pub count : length (pieces_after 32 bs name) ≡ length ns + length (pieces_after 32 bs place)

pub at_name : (bs : List ℕ) (name : ℕ) → Reached bs name [] name
at_name bs name = record { numbers = refl; count = omega arith }

module _ (bs : List ℕ) (name : ℕ) {ns : List ℕ} {place : ℕ} (here : Reached bs name ns place) (found : Result (Option (ℕ × ℕ)) BadLine) (is : NextIs bs place found) where
  pub one_more : {n end : ℕ} → found ≡ Ok (Some (n, end)) → Reached bs name (ns ++ (n ∷ [])) end
  one_more {n} {end} e =
      let f : NextIs bs place (Ok (Some (n, end))) = subst (NextIs bs place) e is in
      record {
        numbers = here.numbers ∙ ap (before_all ns) f.0 ∙ before_more ns n (numbers_of (pieces_after 32 bs end));
        count = omega (arith, here.count, f.1, length-append ns (n ∷ []));
      }

  pub no_more : length bs ≤ 80 → PieceEnds 32 bs name → length ns ≤ 3 → found ≡ Ok None → said (take name bs) ns ≡ line_of bs
  no_more short ends few e =
      let f : pieces_after 32 bs place ≡ [] = subst (NextIs bs place) e is in
      numbers-said bs name short ends ns (here.numbers ∙ ap (λ (ps : List (List ℕ)). before_all ns (numbers_of ps)) f ∙ before-end ns) (omega (arith, here.count, ap length f))

  pub wrong_word : {e : BadLine} → length bs ≤ 80 → PieceEnds 32 bs name → found ≡ Err e → bad ≡ line_of bs
  wrong_word short ends e =
      no_number bs name short ends (here.numbers ∙ ap (before_all ns) (subst (NextIs bs place) e is) ∙ before-wrong ns)

-- ---- names

same_refl : (xs : List ℕ) → same xs xs ≡ true
same_refl [] = refl
same_refl (x ∷ xs) = rw (eq-eqb x x refl, same_refl xs)

same_true : (xs ys : List ℕ) → same xs ys ≡ true → xs ≡ ys
same_true [] [] e = refl
same_true [] (y ∷ ys) e = let z : ◌≡◌ {A = Bool} false true = e in cc
same_true (x ∷ xs) [] e = let z : ◌≡◌ {A = Bool} false true = e in cc
same_true (x ∷ xs) (y ∷ ys) e = by-head (eqb x y) refl e (same_true xs ys)
  where
    by-head : (t : Bool) → eqb x y ≡ t → t && same xs ys ≡ true → (same xs ys ≡ true → xs ≡ ys) → x ∷ xs ≡ y ∷ ys
    by-head true h both tails-of = let tails : xs ≡ ys = tails-of both in let heads : x ≡ y = eqb-true x y h in cc
    by-head false h both tails-of = let z : ◌≡◌ {A = Bool} false true = both in cc

-- a test that holds of equal bytes alone is `same`
pub same-is : (xs ys : List ℕ) (r : Bool) → (r ≡ true → xs ≡ ys) → (xs ≡ ys → r ≡ true) → r ≡ same xs ys
same-is xs ys true f g = sym (rw (f refl) (same_refl ys))
same-is xs ys false f g = by_cases (same xs ys) refl
  where
    by_cases : (t : Bool) → same xs ys ≡ t → false ≡ same xs ys
    by_cases true e = g (same_true xs ys e) ∙ sym e
    by_cases false e = sym e
