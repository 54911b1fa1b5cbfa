-- However an input is cut into chunks, its lines are the same, and a buffer holds as many bytes of each as it has room for.
use mathlib.Core.Bool.{Bool, true, false, cond}
use mathlib.Core.List.{List, [], ◌∷◌, ◌++◌, append-nil}
use mathlib.Core.Path.{◌≡◌, refl, sym, ap, ◌∙◌}
use Prim.Native.Nat.{ℕ, zero, suc, ◌+◌, ◌-◌, ◌<◌, ◌≤◌, min}
use native.Mathlib.Nat.{suc-add}
use native.Mathlib.Omega.{arith}
use borrow.Author.Tests.{lt-ltb, leb-true, leb-false}
use lib.Dec.{eqb, leb, ltb}
use lib.ListN.{length, take, drop, length-append}
use lib.Seq.{sets, sets-eq, take_all, take_at, take-append-add, append_snoc, length-take-le}
use Rattle.lines.specs.Gather.{first, line_here, line_ends, Reading, front, ended_of, open_of, last_line, lines_of, fed_byte, fed, lines_read}
use Rattle.lines.specs.Pieces.{onto, cut}
use Rattle.texts.specs.Put.{place_after}
use Rattle.lines.proofs.Gathering.{cut-some}
use Rattle.texts.proofs.Putting.{sets-fit}

-- ---- an input in chunks

pub chunks : (xs ys : List ℕ) (r : Reading) → fed r (xs ++ ys) ≡ fed (fed r xs) ys
chunks [] ys r = refl
chunks (x ∷ xs) ys r = chunks xs ys (fed_byte r x)

same-reading : {d d' : List (List ℕ)} {h h' : List ℕ} → d ≡ d' → h ≡ h' → ◌≡◌ {A = Reading} (record { done = d; held = h }) (record { done = d'; held = h' })
same-reading {d} {d'} {h} {h'} p q = ap (λ (x : List (List ℕ)). record { done = x; held = h }) p ∙ ap (λ (x : List ℕ). record { done = d'; held = x }) q

-- what is read, over the pieces of the bytes
abbrev read_by : Reading → List (List ℕ) → Reading
read_by r ps = record { done = r.done ++ ended_of (front r.held ps); held = open_of (front r.held ps) }

past_end : (r : Reading) (p : List ℕ) (ps : List (List ℕ)) → 0 < length ps
    → read_by (record { done = r.done ++ ((r.held ++ p) ∷ []); held = [] }) ps ≡ read_by r (p ∷ ps)
past_end r p [] h = absurd (omega arith)
past_end r p (q ∷ ps) h = same-reading (append_snoc r.done (r.held ++ p) (ended_of (q ∷ ps))) refl

within : (r : Reading) (b : ℕ) (ps : List (List ℕ)) → 0 < length ps → read_by (record { done = r.done; held = r.held ++ (b ∷ []) }) ps ≡ read_by r (onto b ps)
within r b [] h = absurd (omega arith)
within r b (p ∷ ps) h = ap (λ (x : List ℕ). record { done = r.done ++ ended_of (x ∷ ps); held = open_of (x ∷ ps) }) (append_snoc r.held b p)

fed-is : (bs : List ℕ) (r : Reading) → fed r bs ≡ read_by r (cut 10 bs)
fed-is [] r = same-reading (sym (append-nil r.done)) (sym (append-nil r.held))
fed-is (b ∷ bs) r = by_cases (eqb b 10) (λ r'. fed-is bs r')
  where
    by_cases : (t : Bool) → ((r' : Reading) → fed r' bs ≡ read_by r' (cut 10 bs))
        → fed (cond t (record { done = r.done ++ (r.held ∷ []); held = [] }) (record { done = r.done; held = r.held ++ (b ∷ []) })) bs
        ≡ read_by r (cond t ([] ∷ cut 10 bs) (onto b (cut 10 bs)))
    by_cases true ih =
        ap (λ (h : List ℕ). fed (record { done = r.done ++ (h ∷ []); held = [] }) bs) (sym (append-nil r.held))
        ∙ ih (record { done = r.done ++ ((r.held ++ []) ∷ []); held = [] })
        ∙ past_end r [] (cut 10 bs) (cut-some 10 bs)
    by_cases false ih = ih (record { done = r.done; held = r.held ++ (b ∷ []) }) ∙ within r b (cut 10 bs) (cut-some 10 bs)

-- the lines so far stay in front of those to come
pub fed-from : (bs : List ℕ) (d : List (List ℕ)) (h : List ℕ)
    → fed (record { done = d; held = h }) bs ≡ record { done = d ++ (fed (record { done = []; held = h }) bs).done; held = (fed (record { done = []; held = h }) bs).held }
fed-from bs d h =
    fed-is bs (record { done = d; held = h })
    ∙ ap (λ (r : Reading). record { done = d ++ r.done; held = r.held }) (sym (fed-is bs (record { done = []; held = h })))

front-none : (ps : List (List ℕ)) → 0 < length ps → front [] ps ≡ ps
front-none [] h = absurd (omega arith)
front-none (p ∷ ps) h = refl

-- reading byte by byte gives the lines
pub lines-fed : (input : List ℕ) → lines_read (fed (record { done = []; held = [] }) input) ≡ lines_of input
lines-fed input =
    ap lines_read (fed-is input (record { done = []; held = [] }))
    ∙ ap (λ (ps : List (List ℕ)). ended_of ps ++ last_line (open_of ps)) (front-none (cut 10 input) (cut-some 10 input))

-- ---- one turn of `gather`

-- the pieces of bytes, by what is before and after the first line feed
abbrev Here : List ℕ → List (List ℕ) → Type 0
Here bs ps = ps ≡ first ps ∷ cond (ltb 1 (length ps)) (cut 10 (drop (length (first ps) + 1) bs)) []

byte_more : (b : ℕ) (bs : List ℕ) (ps : List (List ℕ)) → 0 < length ps → Here bs ps → Here (b ∷ bs) (onto b ps)
byte_more b bs [] h e = absurd (omega arith)
byte_more b bs (p ∷ ps) h e =
    let tail : ps ≡ cond (ltb 1 (suc (length ps))) (cut 10 (drop (length p + 1) bs)) [] = cc in
    rw (suc-add (length p) 1) (ap (λ (qs : List (List ℕ)). (b ∷ p) ∷ qs) tail)

here-is : (bs : List ℕ) → Here bs (cut 10 bs)
here-is [] = refl
here-is (b ∷ bs) = by_cases (eqb b 10) (here-is bs)
  where
    by_cases : (t : Bool) → Here bs (cut 10 bs) → Here (b ∷ bs) (cond t ([] ∷ cut 10 bs) (onto b (cut 10 bs)))
    by_cases true ih = rw (lt-ltb 1 (suc (length (cut 10 bs))) (omega (arith, cut-some 10 bs)))
    by_cases false ih = byte_more b bs (cut 10 bs) (cut-some 10 bs) ih

-- what is read is the line that `gather` takes, and then the rest; or all of it, where no line ends
pub gather-fed : (bs : List ℕ) (r : Reading)
    → fed r bs
    ≡ cond (line_ends bs)
    (fed (record { done = r.done ++ ((r.held ++ line_here bs) ∷ []); held = [] }) (drop (length (line_here bs) + 1) bs))
    (record { done = r.done; held = r.held ++ line_here bs })
gather-fed bs r = fed-is bs r ∙ ap (read_by r) (here-is bs) ∙ by_cases (line_ends bs)
  where
    rest : List ℕ
    rest = drop (length (line_here bs) + 1) bs

    after : Reading
    after = record { done = r.done ++ ((r.held ++ line_here bs) ∷ []); held = [] }

    by_cases : (t : Bool) → read_by r (line_here bs ∷ cond t (cut 10 rest) []) ≡ cond t (fed after rest) (record { done = r.done; held = r.held ++ line_here bs })
    by_cases true = sym (fed-is rest after ∙ past_end r (line_here bs) (cut 10 rest) (cut-some 10 rest))
    by_cases false = same-reading (append-nil r.done) refl

-- where no line ends, all is taken
onto-all : (b : ℕ) (bs : List ℕ) (ps : List (List ℕ)) → 0 < length ps → ltb 1 (length (onto b ps)) ≡ false → (ltb 1 (length ps) ≡ false → first ps ≡ bs)
    → first (onto b ps) ≡ b ∷ bs
onto-all b bs [] h e rest = absurd (omega arith)
onto-all b bs (p ∷ ps) h e rest = ap (λ (l : List ℕ). b ∷ l) (rest e)

pub line-all : (bs : List ℕ) → line_ends bs ≡ false → line_here bs ≡ bs
line-all [] e = refl
line-all (b ∷ bs) e = by_cases (eqb b 10) e (line-all bs)
  where
    by_cases : (t : Bool) → ltb 1 (length (cond t ([] ∷ cut 10 bs) (onto b (cut 10 bs)))) ≡ false → (line_ends bs ≡ false → line_here bs ≡ bs)
        → first (cond t ([] ∷ cut 10 bs) (onto b (cut 10 bs))) ≡ b ∷ bs
    by_cases true e' rest =
        let never : ◌≡◌ {A = Bool} true false = sym (lt-ltb 1 (suc (length (cut 10 bs))) (omega (arith, cut-some 10 bs))) ∙ e' in
        cc
    by_cases false e' rest = onto-all b bs (cut 10 bs) (cut-some 10 bs) e' rest

-- ---- a buffer of 81 bytes

take-front : (k : ℕ) (line x : List ℕ) → take k (take k line ++ x) ≡ take k (line ++ x)
take-front zero line x = refl
take-front (suc k) [] x = refl
take-front (suc k) (b ∷ line) x = ap (λ (l : List ℕ). b ∷ l) (take-front k line x)

-- as many bytes as there is room for
take-room : (x : List ℕ) (room : ℕ) → take room x ≡ take (min (length x) room) x
take-room x room = by_cases (leb (length x) room) refl
  where
    by_cases : (t : Bool) → leb (length x) room ≡ t → take room x ≡ take (min (length x) room) x
    by_cases true e =
        let short : length x ≤ room = leb-true (length x) room e in
        take_all room x short ∙ sym (take_all (min (length x) room) x (omega arith))
    by_cases false e =
        let long : room < length x = leb-false (length x) room e in
        let same : room ≡ min (length x) room = omega arith in
        ap (λ (k : ℕ). take k x) same

put-behind : (d x : List ℕ) (len : ℕ) → len ≤ length d → take (place_after (length d) len (length x)) (sets d len x) ≡ take (length d) (take len d ++ x)
put-behind d x len h =
    let n = min (length x) (length d - len) in
    let whole : length (take n x) ≡ n = length-take-le n x (omega arith) in
    let place : place_after (length d) len (length x) ≡ len + n = omega arith in
    let size : length (take len d) ≡ len = length-take-le len d h in
    let room : length d ≡ length (take len d) + (length d - len) = omega (arith, size) in
    ap (λ (l : List ℕ). take (place_after (length d) len (length x)) l)
    (sym (sets-fit x d len h) ∙ sets-eq (take n x) d len (omega (arith, whole)))
    ∙ ap (λ (k : ℕ). take k (take len d ++ take n x ++ drop (len + length (take n x)) d)) place
    ∙ take_at (take len d ++ take n x) (drop (len + length (take n x)) d) (len + n) (length-append (take len d) (take n x) ∙ ap (λ (k : ℕ). k + length (take n x)) size ∙ ap (λ (k : ℕ). len + k) whole)
    ∙ ap (λ (l : List ℕ). take len d ++ l) (sym (take-room x (length d - len)))
    ∙ sym (take-append-add (take len d) x (length d - len))
    ∙ ap (λ (k : ℕ). take k (take len d ++ x)) (sym room)

-- where the buffer holds the first bytes of a line, as many as it has room for, it does so after more of the line was put behind them
pub held_kept : (d line x : List ℕ) (len : ℕ) → len ≤ length d → take len d ≡ take (length d) line
    → take (place_after (length d) len (length x)) (sets d len x) ≡ take (length d) (line ++ x)
held_kept d line x len h e = put-behind d x len h ∙ ap (λ (l : List ℕ). take (length d) (l ++ x)) e ∙ take-front (length d) line x
