-- One free block put into a list, or one block taken out of it: what that does to frames, grants, and what is left to join. Assumes nothing.
use mathlib.Core.Path.{◌≡◌, refl, sym, ◌∙◌}
use mathlib.Core.Logic.Iff
use mathlib.Core.Logic.{◌⊎◌, ◌↔◌, inl, inr, ⊎_elim}
use mathlib.Core.Bool.{Bool, true, false, not, ◌&&◌, true≢false}
use mathlib.Core.List.Memᴰ
use mathlib.Core.List.{List, []}
use Prim.Native.Nat.{ℕ}
use native.Mathlib.Omega.{arith}
use lib.Dec.{eqb}
use borrow.Author.Tests.{eqb-true, eq-eqb}
use Rattle.rules.specs.Aligned.{Covers}
use Rattle.rules.specs.Largest.{Joined}
use Rattle.rules.specs.Rules.{Block, blk, Sound, none, some, without, insert, is_free, is_granted}
use Rattle.rules.specs.Managed.{◌∈◌, Free, Granted, Managed, Kept, Leaves}
use Rattle.rules.proofs.Aligned.{meets_at, meets-frame}
use Rattle.rules.proofs.Largest.{Alone, joined-more}
use Rattle.rules.proofs.Lists.{both}
use Rattle.rules.proofs.Members.{is_block, same_block, marks-differ, Fits, members-apart, some-passes, some-member, in_insert, insert-has, insert-sound, in_without, without-has, without-sound}

-- ---- frames

pub managed-by : {bs : List Block} {g : Bool} {k s x : ℕ} → blk g k s ∈ bs → Covers k s x → Managed bs x
managed-by {g} {k} {s} m c = record { granted = g; class = k; start = s; member = m; covers = c }

-- the block that has the frame
abbrev pub holder : {bs : List Block} {x : ℕ} → Managed bs x → Block
holder m = blk m.granted m.class m.start

-- what a list with more blocks manages
pub managed-more : {bs cs : List Block} {x : ℕ} → ((b : Block) → b ∈ bs → b ∈ cs) → Managed bs x → Managed cs x
managed-more f m = managed-by (f (holder m) m.member) m.covers

-- a frame that equal blocks cover
pub covers-same : {g h : Bool} {k s j t x : ℕ} → blk h j t ≡ blk g k s → Covers j t x → Covers k s x
covers-same e c = let w = is_block e in rw (sym w.class, sym w.start) c

-- ---- what a change leaves

-- said of the same frames, grants and premise
pub leaves-as : {top : ℕ} {F E : ℕ → Type 0} {G H : ℕ → ℕ → Type 0} {P Q : Type 0} {after : List Block}
    → ((x : ℕ) → F x ↔ E x) → ((k s : ℕ) → G k s ↔ H k s) → (Q → P) → Leaves top F G P after → Leaves top E H Q after
leaves-as f g p w = record {
  sound = w.sound;
  frames = λ x. Iff.trans (w.frames x) (f x);
  granted = λ k s. Iff.trans (w.granted k s) (g k s);
  joined = λ q. w.joined (p q);
}

pub leaves_kept : {top : ℕ} {F : ℕ → Type 0} {G : ℕ → ℕ → Type 0} {P : Type 0} {after : List Block} → Leaves top F G P after → P → Kept top after
leaves_kept w p = record { sound = w.sound; joined = w.joined p }

-- a fresh table: it has nothing to join, and manages no frame
pub kept-none : {top : ℕ} → Kept top []
kept-none = record { sound = none; joined = record { never = λ l p x y. Memᴰ.not-nil x } }

pub none-managed : {x : ℕ} → Managed [] x → ⊥
none-managed m = Memᴰ.not-nil m.member

-- ---- one free block put in

pub put : {top : ℕ} (k s : ℕ) (bs : List Block) → Sound top 0 bs → Fits top k s → ((x : ℕ) → Managed bs x → Covers k s x → ⊥)
    → Leaves top (λ x. Managed bs x ⊎ Covers k s x) (Granted bs) (Joined top (Free bs) × Alone top (Free bs) k s) (insert (blk false k s) bs)
put {top} k s bs r fits clear = record {
  sound = insert-sound false k s r (omega arith) fits (λ h j t m c. let w = meets-frame c in clear w.0 (managed-by m w.1.0) w.1.1);
  frames = λ x. (λ m. old x m (in_insert (blk false k s) bs m.member), ⊎_elim (managed-more kept) (managed-by new));
  granted = λ j t. (λ m. ⊎_elim (λ e. absurd (marks-differ e)) (λ n. n) (in_insert (blk false k s) bs m), kept (blk true j t));
  joined = λ p. joined-more k s (λ j t m. ⊎_elim (λ e. inl (is_block e)) inr (in_insert (blk false k s) bs m)) p.1 p.0;
}
  where
    kept : (b : Block) → b ∈ bs → b ∈ insert (blk false k s) bs
    kept b m = insert-has (blk false k s) bs (inr m)

    new : blk false k s ∈ insert (blk false k s) bs
    new = insert-has (blk false k s) bs (inl refl)

    old : (x : ℕ) (m : Managed (insert (blk false k s) bs) x) → (holder m ≡ blk false k s) ⊎ (holder m ∈ bs) → Managed bs x ⊎ Covers k s x
    old x m (inl e) = inr (covers-same e m.covers)
    old x m (inr n) = inl (managed-by n m.covers)

-- ---- one block taken out, by a test that it alone passes

abbrev pub Knows : (Block → Bool) → Bool → ℕ → ℕ → Type 0
Knows p g k s = (b : Block) → (p b ≡ true) ↔ (b ≡ blk g k s)

knows-block : (p : Block → Bool) (g : Bool) (k s : ℕ) → ((j t : ℕ) → p (blk g j t) ≡ (eqb j k && eqb t s)) → ((j t : ℕ) → p (blk (not g) j t) ≡ false)
    → Knows p g k s
knows-block p g k s own other (blk h j t) = go g h own other
  where
    is : (g : Bool) → p (blk g j t) ≡ (eqb j k && eqb t s) → (p (blk g j t) ≡ true) ↔ (blk g j t ≡ blk g k s)
    is g q = (
      λ e. let w = both (eqb j k) (eqb t s) (sym q ∙ e) in same_block (record { class = eqb-true j k w.0; start = eqb-true t s w.1 }),
      λ e. let w = is_block e in q ∙ rw (eq-eqb j k w.class, eq-eqb t s w.start) refl,
    )

    go : (g h : Bool) → ((j t : ℕ) → p (blk g j t) ≡ (eqb j k && eqb t s)) → ((j t : ℕ) → p (blk (not g) j t) ≡ false)
        → (p (blk h j t) ≡ true) ↔ (blk h j t ≡ blk g k s)
    go true true own other = is true (own j t)
    go false false own other = is false (own j t)
    go true false own other = (λ e. absurd (true≢false (sym e ∙ other j t)), λ e. absurd (marks-differ (sym e)))
    go false true own other = (λ e. absurd (true≢false (sym e ∙ other j t)), λ e. absurd (marks-differ e))

pub knows-free : (k s : ℕ) → Knows (is_free k s) false k s
knows-free k s = knows-block (is_free k s) false k s (λ j t. refl) (λ j t. refl)

pub knows-granted : (k s : ℕ) → Knows (is_granted k s) true k s
knows-granted k s = knows-block (is_granted k s) true k s (λ j t. refl) (λ j t. refl)

-- that some block passes says that the list has it
pub known : {bs : List Block} {g : Bool} {k s : ℕ} (p : Block → Bool) → Knows p g k s → (some p bs ≡ true) ↔ (blk g k s ∈ bs)
known {bs} {g} {k} {s} p knows = (
  λ e. let w = some-passes p bs e in rw ((knows w.block).0 w.passes) at w.member,
  λ m. some-member p m ((knows (blk g k s)).1 refl),
)

-- the list without the block of class k at s, which it had with the mark g
pub record Without (top : ℕ) (bs : List Block) (g : Bool) (k s : ℕ) (cs : List Block) : Type 0 where
  pub sound : Sound top 0 cs
  pub others : (b : Block) → b ∈ cs ↔ ((b ∈ bs) × (b ≡ blk g k s → ⊥))
  pub frames : (x : ℕ) → Managed bs x ↔ (Managed cs x ⊎ Covers k s x)
  pub clear : (x : ℕ) → Managed cs x → Covers k s x → ⊥

pub without-one : {top : ℕ} {bs : List Block} {g : Bool} {k s : ℕ} (p : Block → Bool) → Knows p g k s → Sound top 0 bs → blk g k s ∈ bs
    → Without top bs g k s (without p bs)
without-one {top} {bs} {g} {k} {s} p knows r here = record {
  sound = without-sound p r;
  others = λ b. (λ m. (less b m, other b m), λ w. without-has p w.0 (fails b w.1));
  frames = λ x. (λ m. split x m (p (holder m)) refl, ⊎_elim (managed-more less) (managed-by here));
  clear = λ x m c. other (holder m) m.member (members-apart r (less (holder m) m.member) here (meets_at m.covers c));
}
  where
    less : (b : Block) → b ∈ without p bs → b ∈ bs
    less b m = (in_without p bs m).0

    other : (b : Block) → b ∈ without p bs → b ≡ blk g k s → ⊥
    other b m e = true≢false (sym ((knows b).1 e) ∙ (in_without p bs m).1)

    fails : (b : Block) → (b ≡ blk g k s → ⊥) → p b ≡ false
    fails b n = go (p b) refl
      where
        go : (t : Bool) → p b ≡ t → p b ≡ false
        go true e = absurd (n ((knows b).0 e))
        go false e = e

    split : (x : ℕ) (m : Managed bs x) (t : Bool) → p (holder m) ≡ t → Managed (without p bs) x ⊎ Covers k s x
    split x m true e = inr (covers-same ((knows (holder m)).0 e) m.covers)
    split x m false e = inl (managed-by (without-has p m.member e) m.covers)
