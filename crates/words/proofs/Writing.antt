-- A run of words written in place: loops told by what is still to be written, and a run in a gap that a moved tail leaves. Assumes nothing.
use mathlib.Core.Path.{◌≡◌, sym, ap, ◌∙◌}
use mathlib.Core.List.{List, [], ◌∷◌, ◌++◌, append_assoc}
use Prim.Native.Nat.{ℕ, suc, ◌+◌, ◌-◌, ◌≤◌, ◌<◌}
use native.Mathlib.Numerals.{add-one}
use native.Mathlib.Omega.{arith}
use lib.ListN.{length, take, drop, set, length-set, length-append, take-append-drop}
use lib.Seq.{length-take-le, take-append-le, take-take, drop_at, drop-cons, drop-set-lt, take-set-le, take-suc-set, get_or-set_same}
use Rattle.words.specs.Words.{pad}
use Rattle.words.proofs.Pad.{pad-append}

-- ---- upward: `filled t p ws n` is t with the n words ws from p on

abbrev pub filled : List ℕ → ℕ → List ℕ → ℕ → List ℕ
filled t p ws n = take p t ++ (ws ++ drop (p + n) t)

pub fill-turn : (t ws : List ℕ) (p n w : ℕ) → p < length t → filled t p (w ∷ ws) (suc n) ≡ filled (set t p w) (p + 1) ws n
fill-turn t ws p n w h =
    let e : p + 1 + n ≡ p + suc n = omega arith in
    let l : p < p + suc n = omega arith in
    rw (e, drop-set-lt (p + suc n) t p w l, add-one, take-suc-set t p w h, append_assoc)

pub fill_done : (t : List ℕ) (p n : ℕ) → n ≡ 0 → filled t p [] n ≡ t
fill_done t p n e =
    let s : p + n ≡ p = omega arith in
    rw s (take-append-drop p t)

-- ---- from both ends of the window [lo, hi): r is to stand there

pub low_turn : (t r : List ℕ) (lo hi w : ℕ) → lo < hi → hi ≤ length t
    → take lo t ++ ((w ∷ r) ++ drop hi t) ≡ take (lo + 1) (set t lo w) ++ (r ++ drop hi (set t lo w))
low_turn t r lo hi w h l =
    let g : lo < length t = omega arith in
    rw (drop-set-lt hi t lo w h, add-one, take-suc-set t lo w g, append_assoc)

pub high-turn : (t r : List ℕ) (lo hi w : ℕ) → lo < hi → hi ≤ length t
    → take lo t ++ ((r ++ (w ∷ [])) ++ drop hi t) ≡ take lo (set t (hi - 1) w) ++ (r ++ drop (hi - 1) (set t (hi - 1) w))
high-turn t r lo hi w h l =
    let s : suc (hi - 1) ≡ hi = omega arith in
    let g : hi - 1 < length t = omega arith in
    let a : drop (hi - 1) (set t (hi - 1) w) ≡ w ∷ drop hi t =
    drop-cons (set t (hi - 1) w) (hi - 1) 0 (rw (length-set t (hi - 1) w) g) ∙ rw (get_or-set_same t (hi - 1) w 0 g, s, drop-set-lt hi t (hi - 1) w (omega arith)) in
    rw (a, take-set-le lo t (hi - 1) w (omega arith), append_assoc r)

pub window-done : (t : List ℕ) (lo hi : ℕ) → lo ≡ hi → take lo t ++ ([] ++ drop hi t) ≡ t
window-done t lo hi e = rw e (take-append-drop hi t)

-- ---- in a gap that a moved tail leaves

-- a tail moved to p, then a run written from i up to p
pub run-written : (ws moved run new : List ℕ) (i p from : ℕ) → p ≡ i + length new → p ≤ length ws
    → moved ≡ take p ws ++ pad (length ws - p) (drop from ws) → run ≡ take i moved ++ (new ++ drop p moved)
    → run ≡ pad (length ws) (take i ws ++ (new ++ drop from ws))
run-written ws moved run new i p from e h q r =
    let lp : length (take p ws) ≡ p = length-take-le p ws h in
    let li : length (take i ws) ≡ i = length-take-le i ws (omega arith) in
    let a : take i moved ≡ take i ws = rw q (take-append-le i (take p ws) _ (omega arith) ∙ take-take i p ws (omega arith)) in
    let b : drop p moved ≡ pad (length ws - p) (drop from ws) = rw q (drop_at (take p ws) _ p lp) in
    let n : length (take i ws ++ new) ≡ p = simp length-append (omega arith) in
    let s : length ws ≡ length (take i ws ++ new) + (length ws - p) = omega arith in
    r ∙ rw (a, b, ← append_assoc) (sym (pad-append (take i ws ++ new) (drop from ws) (length ws - p)))
    ∙ ap (λ (k : ℕ). pad k ((take i ws ++ new) ++ drop from ws)) (sym s)
    ∙ ap (λ (x : List ℕ). pad (length ws) x) (append_assoc (take i ws) new (drop from ws))
