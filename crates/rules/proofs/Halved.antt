-- What a grant leaves. Assumes nothing.
use mathlib.Core.Path.{◌≡◌, refl, sym, ap, subst, ◌∙◌}
use mathlib.Core.Logic.{◌⊎◌, ◌↔◌, inl, inr, ⊎_elim}
use mathlib.Core.Bool.{Bool, true, false, true≢false}
use mathlib.Core.List.Memᴰ
use mathlib.Core.List.{List, [], ◌∷◌, ◌++◌, append_assoc}
use Prim.Native.Nat.{ℕ, zero, suc, ◌+◌, ◌^◌, ◌≤◌, ◌<◌, min}
use native.Mathlib.Omega.{arith}
use native.Mathlib.Nat.{eq-or-lt_of_le, le_refl, min_comm}
use native.Mathlib.Decide.{dec_lt}
use lib.Pow.{pow_pos}
use lib.Dec.{leb, ltb}
use lib.ListN.{take, drop}
use Rattle.blocks.specs.Laws.{Buddies, upper, lower}
use Rattle.rules.specs.Aligned.{Aligned, Covers, Holds, Meets}
use Rattle.rules.specs.Largest.{Joined}
use Rattle.rules.specs.Rules.{Block, blk, granted, class, start, Sound, next, towards, block_at, halved}
use Rattle.rules.specs.Managed.{◌∈◌, Free, Granted, Is, Managed, Offers, Leaves}
use Rattle.rules.proofs.Aligned.{nested, holds-class, holds-meets, held-covers, lower-half, upper-half, buddies-comm, pair-aligned, pair-covers}
use Rattle.rules.proofs.Largest.{joined-more}
use Rattle.rules.proofs.Lists.{Stands, stands, split-here}
use Rattle.rules.proofs.Halving.{halve-low, halve-high, halve-done}
use Rattle.rules.proofs.Members.{is_block, same_block, marks-differ, Fits, member-low, below-member}
use Rattle.rules.proofs.Putting.{managed-by, holder, managed-more, covers-same}

-- ---- the blocks that a block of class j at t is halved into

-- the run of class c is granted; the others are free, of lower classes than j, and no two of them are buddies
record Halves (j t c run : ℕ) (ws : List Block) : Type 0 where
  within : (g : Bool) (i u : ℕ) → blk g i u ∈ ws → Holds j t i u
  covered : (x : ℕ) → Covers j t x → Managed ws x
  granted : (i u : ℕ) → Granted ws i u ↔ Is c run i u
  smaller : (i u : ℕ) → Free ws i u → i < j
  joined : (top : ℕ) → Joined top (Free ws)

only-run : (c run : ℕ) → Halves c run c run (blk true c run ∷ [])
only-run c run = record {
  within = λ g i u m. let w = is_block (Memᴰ.eq_of_singleton m) in rw (w.class, w.start) (omega arith);
  covered = λ x d. managed-by (Memᴰ.head refl) d;
  granted = λ i u. (λ m. is_block (Memᴰ.eq_of_singleton m), λ w. Memᴰ.head (same_block w));
  smaller = λ i u m. absurd (marks-differ (sym (Memᴰ.eq_of_singleton m)));
  joined = λ top. record { never = λ l p x y. marks-differ (sym (Memᴰ.eq_of_singleton x)) };
}

pair-holds : {k s b i u : ℕ} → Buddies k s b → Holds k s i u → Holds (suc k) (min s b) i u
pair-holds (upper a e) h = omega arith
pair-holds (lower a e) h = omega arith

-- one half at t is halved further, into vs; the other half, at o, is freed
one-half : {i t o c run : ℕ} {vs ws : List Block} → Buddies i t o → ((y : Block) → y ∈ ws ↔ ((y ≡ blk false i o) ⊎ (y ∈ vs))) → Halves i t c run vs
    → Halves (suc i) (min t o) c run ws
one-half {i} {t} {o} {c} {run} {vs} {ws} p has w = record {
  within = λ g j u m. inside ((has (blk g j u)).0 m);
  covered = λ x d. ⊎_elim (λ l. managed-more (λ y m. (has y).1 (inr m)) (w.covered x l)) (managed-by ((has (blk false i o)).1 (inl refl))) ((pair-covers p).0 d);
  granted = λ j u.
      (λ m. ⊎_elim (λ e. absurd (marks-differ e)) (w.granted j u).0 ((has (blk true j u)).0 m), λ e. (has (blk true j u)).1 (inr ((w.granted j u).1 e)));
  smaller = λ j u m. ⊎_elim (λ e. omega (arith, (is_block e).class)) (λ n. omega (arith, w.smaller j u n)) ((has (blk false j u)).0 m);
  joined = λ top.
      joined-more i o (λ j u m. ⊎_elim (λ e. inl (is_block e)) inr ((has (blk false j u)).0 m)) (λ b l q m. omega (arith, w.smaller i b m)) (w.joined top);
}
  where
    other : Holds (suc i) (min t o) i o
    other = let h : Holds i o i o = omega arith in rw (min_comm t o) (pair-holds (buddies-comm p) h)

    inside : {g : Bool} {j u : ℕ} → (blk g j u ≡ blk false i o) ⊎ (blk g j u ∈ vs) → Holds (suc i) (min t o) j u
    inside (inl e) = let v = is_block e in rw (v.class, v.start) other
    inside {g} {j} {u} (inr m) = pair-holds p (w.within g j u m)

at-end : (b : Block) (vs : List Block) (y : Block) → y ∈ (vs ++ (b ∷ [])) ↔ ((y ≡ b) ⊎ (y ∈ vs))
at-end b vs y = (
  λ m. ⊎_elim inr (λ n. inl (Memᴰ.eq_of_singleton n)) (Memᴰ.append_cases vs m),
  ⊎_elim (λ e. Memᴰ.append_right vs (Memᴰ.head e)) (λ m. Memᴰ.append_left (b ∷ []) m),
)

at_head : (b : Block) (vs : List Block) (y : Block) → y ∈ (b ∷ vs) ↔ ((y ≡ b) ⊎ (y ∈ vs))
at_head b vs y = (Memᴰ.cases_cons, ⊎_elim Memᴰ.head Memᴰ.tail)

halving : (j t c run : ℕ) → Aligned j t → Aligned c run → Holds j t c run → Halves j t c run (towards j c run t)
halving zero t c run a b h =
    let e : c ≡ 0 = omega (arith, holds-class h) in
    let q : t ≡ run = omega (arith, ap (λ (x : ℕ). 2 ^ x) e) in
    rw (q, ← e, halve-done c run run) (only-run c run)
halving (suc i) t c run a b h =
    go (eq-or-lt_of_le (holds-class h)) (dec_lt run (t + 2 ^ i)) (halving i t c run (lower-half a) b) (halving i (t + 2 ^ i) c run (upper-half a) b)
  where
    go : (c ≡ suc i) ⊎ (c < suc i) → Dec (run < t + 2 ^ i) → (Holds i t c run → Halves i t c run (towards i c run t))
        → (Holds i (t + 2 ^ i) c run → Halves i (t + 2 ^ i) c run (towards i c run (t + 2 ^ i))) → Halves (suc i) t c run (towards (suc i) c run t)
    go (inl e) d x y =
        let q : t ≡ run = omega (arith, ap (λ (x : ℕ). 2 ^ x) e) in
        rw (q, ← e, halve-done c run run) (only-run c run)
    go (inr l) (yes d) x y =
        let k : c ≤ i = omega arith in
        let m : min t (t + 2 ^ i) ≡ t = omega arith in
        let w : Holds i t c run = nested (lower-half a) b k (omega (arith, pow_pos c)) in
        rw (halve-low i c run t k d) (subst (λ (z : ℕ). Halves (suc i) z c run (towards i c run t ++ (blk false i (t + 2 ^ i) ∷ []))) m
        (one-half (upper a.multiple refl) (at-end (blk false i (t + 2 ^ i)) (towards i c run t)) (x w)))
    go (inr l) (no d) x y =
        let k : c ≤ i = omega arith in
        let g : t + 2 ^ i ≤ run = omega arith in
        let m : min (t + 2 ^ i) t ≡ t = omega arith in
        rw (halve-high i c run t k g) (subst (λ (z : ℕ). Halves (suc i) z c run (blk false i t ∷ towards i c run (t + 2 ^ i))) m
        (one-half (lower a.multiple refl) (at_head (blk false i t) (towards i c run (t + 2 ^ i))) (y (omega arith))))

-- they stand in order, from t on, before what starts at or after the end of the whole
in_order : (j c run t : ℕ) {top f : ℕ} (ys : List Block) → f ≤ t → Fits top j t → Sound top (t + 2 ^ j) ys → Sound top f (towards j c run t ++ ys)
unfolding towards
in_order zero c run t ys l w r = next l w.small w.aligned w.within r
in_order (suc i) c run t {top} {f} ys l w r =
    go (leb c i) refl (ltb run (t + 2 ^ i)) refl (in_order i c run t (blk false i (t + 2 ^ i) ∷ ys) l lower-fits)
    (in_order i c run (t + 2 ^ i) ys (le_refl (t + 2 ^ i)) upper_fits)
  where
    lower-fits : Fits top i t
    lower-fits = record { small = omega (arith, w.small); aligned = lower-half w.aligned; within = omega (arith, w.within) }

    upper_fits : Fits top i (t + 2 ^ i)
    upper_fits = record { small = omega (arith, w.small); aligned = upper-half w.aligned; within = omega (arith, w.within) }

    rest : Sound top (t + 2 ^ i + 2 ^ i) ys
    rest = let e : t + 2 ^ suc i ≡ t + 2 ^ i + 2 ^ i = omega arith in rw e at r

    go : (a : Bool) → leb c i ≡ a → (b : Bool) → ltb run (t + 2 ^ i) ≡ b
        → (Sound top (t + 2 ^ i) (blk false i (t + 2 ^ i) ∷ ys) → Sound top f (towards i c run t ++ (blk false i (t + 2 ^ i) ∷ ys)))
        → (Sound top (t + 2 ^ i + 2 ^ i) ys → Sound top (t + 2 ^ i) (towards i c run (t + 2 ^ i) ++ ys)) → Sound top f (towards (suc i) c run t ++ ys)
    go true e true d x y =
        rw (e, d, towards, append_assoc)
        (x (next (le_refl (t + 2 ^ i)) upper_fits.small upper_fits.aligned upper_fits.within rest))
    go true e false d x y = rw (e, d, towards) (next l lower-fits.small lower-fits.aligned lower-fits.within (y rest))
    go false e b d x y = rw (e, towards) (next l w.small w.aligned w.within r)

-- ---- in the list

-- the buddy of a block lies in each aligned block of a higher class that the block lies in
buddy-held : {j t k s b : ℕ} → Aligned j t → k < j → Holds j t k s → Buddies k s b → Holds j t k b
buddy-held {j} {t} {k} {s} {b} a l h p = last p (nested a (pair-aligned p) l (met p))
  where
    met : Buddies k s b → Meets j t (suc k) (min s b)
    met (upper x e) = omega (arith, pow_pos k)
    met (lower x e) = omega (arith, pow_pos k)

    last : Buddies k s b → Holds j t (suc k) (min s b) → Holds j t k b
    last (upper x e) w = omega arith
    last (lower x e) w = omega arith

-- a free block of class j at t is replaced by its halves ws; the rest of the list stays, and has no frame of it
module _ {top : ℕ} {c run j t : ℕ} {bs after ws : List Block} (rest : List Block) (aligned : Aligned j t) (w : Halves j t c run ws)
    (was : (y : Block) → y ∈ bs ↔ ((y ≡ blk false j t) ⊎ (y ∈ rest))) (now : (y : Block) → y ∈ after ↔ ((y ∈ ws) ⊎ (y ∈ rest)))
    (apart : (g : Bool) (i u : ℕ) → blk g i u ∈ rest → Meets j t i u → ⊥) where
  halves-leave : Sound top 0 after → Leaves top (Managed bs) (λ k s. Is c run k s ⊎ Granted bs k s) (Joined top (Free bs)) after
  halves-leave r = record {
    sound = r;
    frames = λ x. (λ m. whole x m ((now (holder m)).0 m.member), λ m. halves x m ((was (holder m)).0 m.member));
    granted = λ k s. (
      λ m. ⊎_elim (λ n. inl ((w.granted k s).0 n)) (λ n. inr ((was (blk true k s)).1 (inr n))) ((now (blk true k s)).0 m),
      ⊎_elim (λ e. (now (blk true k s)).1 (inl ((w.granted k s).1 e))) (λ m. kept k s ((was (blk true k s)).0 m)),
    );
    joined = λ n. record { never = λ {k} {s} {b} l p x y. alone n k s b l p ((now (blk false k s)).0 x) ((now (blk false k b)).0 y) };
  }
    where
      whole : (x : ℕ) (m : Managed after x) → (holder m ∈ ws) ⊎ (holder m ∈ rest) → Managed bs x
      whole x m (inl n) = managed-by ((was (blk false j t)).1 (inl refl)) (held-covers (w.within m.granted m.class m.start n) m.covers)
      whole x m (inr n) = managed-by ((was (holder m)).1 (inr n)) m.covers

      halves : (x : ℕ) (m : Managed bs x) → (holder m ≡ blk false j t) ⊎ (holder m ∈ rest) → Managed after x
      halves x m (inl e) = managed-more (λ y n. (now y).1 (inl n)) (w.covered x (covers-same e m.covers))
      halves x m (inr n) = managed-by ((now (holder m)).1 (inr n)) m.covers

      kept : (k s : ℕ) → (blk true k s ≡ blk false j t) ⊎ (blk true k s ∈ rest) → Granted after k s
      kept k s (inl e) = absurd (marks-differ e)
      kept k s (inr m) = (now (blk true k s)).1 (inr m)

      -- a half has its buddy in the whole, and so not in the rest
      inside : (k s b : ℕ) → Buddies k s b → Free ws k s → Free rest k b → ⊥
      inside k s b p x y = apart false k b y (holds-meets (buddy-held aligned (w.smaller k s x) (w.within false k s x) p))

      alone : Joined top (Free bs) → (k s b : ℕ) → k < top → Buddies k s b → Free ws k s ⊎ Free rest k s → Free ws k b ⊎ Free rest k b → ⊥
      alone n k s b l p (inl x) (inl y) = (w.joined top).never l p x y
      alone n k s b l p (inl x) (inr y) = inside k s b p x y
      alone n k s b l p (inr x) (inl y) = inside k b s (buddies-comm p) y x
      alone n k s b l p (inr x) (inr y) = n.never l p ((was (blk false k s)).1 (inr x)) ((was (blk false k b)).1 (inr y))

-- ---- at its place

in-middle : (xs ws ys : List Block) (y : Block) → y ∈ (xs ++ (ws ++ ys)) ↔ ((y ∈ ws) ⊎ (y ∈ (xs ++ ys)))
in-middle xs ws ys y = (λ m. ⊎_elim (λ n. inr (Memᴰ.append_left ys n)) (λ n. to (Memᴰ.append_cases ws n)) (Memᴰ.append_cases xs m), from)
  where
    to : (y ∈ ws) ⊎ (y ∈ ys) → (y ∈ ws) ⊎ (y ∈ (xs ++ ys))
    to (inl m) = inl m
    to (inr m) = inr (Memᴰ.append_right xs m)

    from : (y ∈ ws) ⊎ (y ∈ (xs ++ ys)) → y ∈ (xs ++ (ws ++ ys))
    from (inl m) = Memᴰ.append_right xs (Memᴰ.append_left ys m)
    from (inr m) = ⊎_elim (λ n. Memᴰ.append_left (ws ++ ys) n) (λ n. Memᴰ.append_right xs (Memᴰ.append_right ws n)) (Memᴰ.append_cases xs m)

replaced : {top f : ℕ} (xs : List Block) {zs ws : List Block} → ((e : ℕ) → Sound top e zs → Sound top e ws) → Sound top f (xs ++ zs) → Sound top f (xs ++ ws)
replaced {f} [] g r = g f r
replaced {f = f} (_ ∷ xs) g (next {k = k} {s = s} l h a e r) = next l h a e (replaced {f = s + 2 ^ k} xs g r)

module _ {top : ℕ} (c run j t : ℕ) (xs ys : List Block) (r : Sound top 0 (xs ++ (blk false j t ∷ ys))) where
  place : Stands top xs (blk false j t) ys
  place = stands xs (blk false j t) ys r

  middle-leaves : Aligned c run → Holds j t c run
      → Leaves top (Managed (xs ++ (blk false j t ∷ ys))) (λ k s. Is c run k s ⊎ Granted (xs ++ (blk false j t ∷ ys)) k s)
      (Joined top (Free (xs ++ (blk false j t ∷ ys)))) (xs ++ (towards j c run t ++ ys))
  middle-leaves a h =
      halves-leave (xs ++ ys) place.aligned (halving j t c run place.aligned a h) was (in-middle xs (towards j c run t) ys) apart (replaced xs (λ f q. fill f q) r)
    where
      was : (y : Block) → y ∈ (xs ++ (blk false j t ∷ ys)) ↔ ((y ≡ blk false j t) ⊎ (y ∈ (xs ++ ys)))
      was y = (
        λ m. ⊎_elim (λ n. inl (Memᴰ.eq_of_singleton n)) inr ((in-middle xs (blk false j t ∷ []) ys y).0 m),
        λ m. (in-middle xs (blk false j t ∷ []) ys y).1 (⊎_elim (λ e. inl (Memᴰ.head e)) inr m),
      )

      apart : (g : Bool) (i u : ℕ) → blk g i u ∈ (xs ++ ys) → Meets j t i u → ⊥
      apart g i u m d =
          ⊎_elim (λ n. omega (arith, below-member place.before n)) (λ n. omega (arith, member-low place.after n)) (Memᴰ.append_cases xs m)

      fill : (f : ℕ) → Sound top f (blk false j t ∷ ys) → Sound top f (towards j c run t ++ ys)
      fill f (next l k b m q) = in_order j c run t ys l (record { small = k; aligned = b; within = m }) q

-- the run is granted, every frame stays managed, and nothing is left to join where nothing was
pub halved-leaves : {top : ℕ} (c run i : ℕ) (bs : List Block) → Sound top 0 bs → Offers c run i bs
    → Leaves top (Managed bs) (λ k s. Is c run k s ⊎ Granted bs k s) (Joined top (Free bs)) (halved c run i bs)
unfolding halved
halved-leaves {top} c run i bs r o = go (block_at i bs) refl o.free o.holds
  where
    xs : List Block
    xs = take i bs

    ys : List Block
    ys = drop (i + 1) bs

    go : (b : Block) → block_at i bs ≡ b → granted b ≡ false → Holds (class b) (start b) c run
        → Leaves top (Managed bs) (λ k s. Is c run k s ⊎ Granted bs k s) (Joined top (Free bs))
        (take i bs ++ (towards (class (block_at i bs)) c run (start (block_at i bs)) ++ drop (i + 1) bs))
    go (blk true j t) e f h = absurd (true≢false f)
    go (blk false j t) e f h =
        let q : bs ≡ xs ++ (blk false j t ∷ ys) = split-here i bs o.here ∙ ap (λ (b : Block). xs ++ (b ∷ ys)) e in
        rw e
        (subst
        (λ (l : List Block). Leaves top (Managed l) (λ k s. Is c run k s ⊎ Granted l k s) (Joined top (Free l)) (xs ++ (towards j c run t ++ ys)))
        (sym q) (middle-leaves c run j t xs ys (subst (Sound top 0) q r) o.aligned h))
