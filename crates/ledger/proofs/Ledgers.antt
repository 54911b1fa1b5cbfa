-- A ledger in order and its granted blocks: each determines the other, and the words of a run of records replaced. Assumes nothing.
use mathlib.Core.Path.{◌≡◌, sym, ap, ◌∙◌}
use mathlib.Core.Bool.{true, false}
use mathlib.Core.List.{List, ◌++◌, map, map-append}
use Prim.Native.Nat.{ℕ, ◌+◌, ◌-◌, ◌≤◌, ◌<◌}
use native.Mathlib.Omega.{arith}
use lib.ListN.{length, take, drop, get_or, replicate, take-append-drop, length-drop, length-map, get_or-map}
use lib.Seq.{length-take-le, take_at, drop_at, get_or-take}
use Rattle.words.specs.Words.{pad}
use Rattle.words.proofs.Pad.{length-pad, pad-fits, pad-replaced}
use Rattle.words.proofs.Parts.{map-take, map-drop}
use Rattle.words.proofs.Writing.{run-written}
use Rattle.words.proofs.Zeros.{zeros-are, zeros-made}
use Rattle.std.specs.Prelude.{Some, None}
use Rattle.ledger.specs.Ledger.{Grant, address, address_of, grant_of, word_of, same, grants, ledger_words}
use Rattle.ledger.specs.Kept.{Kept, below, search}
use Rattle.ledger.proofs.Grants.{Records, Fitting, records-of, words_of, grants-of, words-made}
use Rattle.ledger.proofs.Searching.{grant_at, ascends, below-le, below-is, search_no, search-here}

-- ---- what a ledger in order says

module _ (order count : ℕ) (t : List ℕ) (kept : Kept order count t) where
  pub length-grants : length (grants count t) ≡ count
  length-grants = length-map (take count t) grant_of ∙ length-take-le count t kept.room

  pub grant-at : (i : ℕ) → i < count → grant_at i (grants count t) ≡ grant_of (get_or t i 0)
  grant-at i h = get_or-map grant_of (take count t) i 0 ∙ ap grant_of (get_or-take count t i 0 h)

  pub kept-records : Records order 0 (grants count t)
  kept-records = records-of order 0 (take count t) kept.fine kept.ascending

  -- addresses ascend, so the records below an address are counted by halves
  pub addresses-ascend : (i j : ℕ) → i ≤ j → j < count → address_of (get_or t i 0) ≤ address_of (get_or t j 0)
  addresses-ascend i j h l =
      omega (arith, ascends kept-records i j h (omega (arith, length-grants)), ap address (grant-at i (omega arith)), ap address (grant-at j l))

  pub place_is : (a n : ℕ) → n ≤ count → ((i : ℕ) → i < n → address_of (get_or t i 0) < a) → (n < count → a ≤ address_of (get_or t n 0))
      → below a (grants count t) ≡ n
  place_is a n h f g =
      below-is a n (grants count t) (omega (arith, length-grants)) (λ i l. omega (arith, f i l, ap address (grant-at i (omega arith))))
      (λ l. let c : n < count = omega (arith, length-grants) in omega (arith, g c, ap address (grant-at n c)))

  pub place-le : (a : ℕ) → below a (grants count t) ≤ count
  place-le a = omega (arith, below-le a (grants count t), length-grants)

  -- what stands at the place of an address tells whether a record is there
  module _ (k n a i : ℕ) (place : i ≡ below a (grants count t)) where
    here : i < count → same k n a (grant_at (below a (grants count t)) (grants count t)) ≡ same k n a (grant_of (get_or t i 0))
    here h = ap (λ (x : ℕ). same k n a (grant_at x (grants count t))) (sym place) ∙ ap (same k n a) (grant-at i h)

    pub found : i < count → same k n a (grant_of (get_or t i 0)) ≡ true → search (same k n a) (grants count t) ≡ Some i
    found h e = search-here k n a (grants count t) (omega (arith, length-grants)) (here h ∙ e) ∙ ap Some (sym place)

    pub not_found : (i < count → same k n a (grant_of (get_or t i 0)) ≡ false) → search (same k n a) (grants count t) ≡ None
    not_found e = search_no k n a kept-records (λ h. let l : i < count = omega (arith, length-grants) in here l ∙ e l)

  -- what move_tail asks
  pub tail-zeros : drop count t ≡ replicate (length t - count) 0
  tail-zeros = zeros-are (drop count t) kept.zeros ∙ ap (λ (n : ℕ). replicate n 0) (length-drop count t)

  words_are : map word_of (grants count t) ≡ take count t
  words_are = words_of order (take count t) kept.fine

  pub words-grants : ledger_words (length t) (grants count t) ≡ t
  words-grants =
      let n : length (take count t) ≡ count = length-take-le count t kept.room in
      let r : count ≤ length t = kept.room in
      rw (words_are, pad-fits (length t) (take count t) (omega arith), n, ← tail-zeros) (take-append-drop count t)

  -- the records [i, j) replaced: the tail moved, and the words of the new ones written
  pub replaced : (new : List Grant) (i j : ℕ) (moved run : List ℕ) → i ≤ j → j ≤ count → i + length new ≤ length t
      → moved ≡ take (i + length new) t ++ pad (length t - (i + length new)) (drop j t)
      → run ≡ take i moved ++ (map word_of new ++ drop (i + length new) moved)
      → run ≡ ledger_words (length t) (take i (grants count t) ++ (new ++ drop j (grants count t)))
  replaced new i j moved run h l g q r =
      let ws : List ℕ = map word_of (grants count t) in
      let m : length (map word_of new) ≡ length new = length-map new word_of in
      let w : length ws ≡ count = length-map (grants count t) word_of ∙ length-grants in
      let c : count ≤ length t = kept.room in
      let e : t ≡ pad (length t) ws = sym words-grants in
      run-written t moved run (map word_of new) i (i + length new) j (omega arith) g q r
      ∙ ap (λ (x : List ℕ). pad (length t) (take i x ++ (map word_of new ++ drop j x))) e
      ∙ pad-replaced (length t) i j ws (map word_of new) h (omega arith) (omega arith)
      ∙ rw (map-append word_of (take i (grants count t)) (new ++ drop j (grants count t)), map-append word_of new (drop j (grants count t)), map-take word_of i (grants count t), map-drop word_of j (grants count t))

-- ---- what the words of granted blocks say

module _ (n : ℕ) (gs : List Grant) (room : length gs ≤ n) where
  count-words : length (map word_of gs) ≡ length gs
  count-words = length-map gs word_of

  split : ledger_words n gs ≡ map word_of gs ++ replicate (n - length gs) 0
  split = pad-fits n (map word_of gs) (omega (arith, count-words)) ∙ ap (λ (k : ℕ). map word_of gs ++ replicate (n - k) 0) count-words

  front : take (length gs) (ledger_words n gs) ≡ map word_of gs
  front = rw split (take_at (map word_of gs) _ (length gs) count-words)

  pub grants-words : Fitting gs → grants (length gs) (ledger_words n gs) ≡ gs
  grants-words f = ap (map grant_of) front ∙ grants-of f

  pub words-kept : {order : ℕ} → n ≤ 65535 → Records order 0 gs → Kept order (length gs) (ledger_words n gs)
  words-kept h r =
      let m = words-made r in
      let l : length (ledger_words n gs) ≡ n = length-pad n (map word_of gs) in
      record {
        room = omega arith;
        short = omega arith;
        fine = rw front m.fine;
        ascending = rw front m.ascending;
        zeros = rw (split, drop_at (map word_of gs) (replicate (n - length gs) 0) (length gs) count-words) (zeros-made (n - length gs));
      }
