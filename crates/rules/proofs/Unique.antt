-- Frames and grants determine a list of which nothing is left to join: its free blocks are the largest of the spare frames. Assumes nothing.
use mathlib.Core.Path.{◌≡◌}
use mathlib.Core.Logic.{◌↔◌}
use mathlib.Core.Bool.{Bool, true, false}
use mathlib.Core.List.{List}
use Prim.Native.Nat.{ℕ}
use Rattle.rules.specs.Aligned.{Covers}
use Rattle.rules.specs.Largest.{Covered, Largest}
use Rattle.rules.specs.Rules.{Block, blk, Sound}
use Rattle.rules.specs.Managed.{◌∈◌, Free, Granted, Spare, Kept, Same}
use Rattle.rules.proofs.Aligned.{meets_at}
use Rattle.rules.proofs.Largest.{largest}
use Rattle.rules.proofs.Members.{marks-differ, members-apart, tidy, same-members}
use Rattle.rules.proofs.Putting.{managed-by}

-- ---- the spare frames are those of the free blocks

pub spare-is : {top : ℕ} {bs : List Block} (x : ℕ) → Sound top 0 bs → Spare bs x ↔ Covered (Free bs) x
spare-is {top} {bs} x r = (λ l. pick l.managed.granted l.managed.class l.managed.start l.managed.member l.managed.covers l.not_granted, from)
  where
    pick : (g : Bool) (k s : ℕ) → blk g k s ∈ bs → Covers k s x → (Covered (Granted bs) x → ⊥) → Covered (Free bs) x
    pick false k s m c n = record { class = k; start = s; member = m; covers = c }
    pick true k s m c n = absurd (n (record { class = k; start = s; member = m; covers = c }))

    from : Covered (Free bs) x → Spare bs x
    from f = record {
      managed = managed-by f.member f.covers;
      not_granted = λ g. marks-differ (members-apart r g.member f.member (meets_at g.covers f.covers));
    }

-- ---- largest blocks of the same frames

pub largest-same : {top : ℕ} {F G : ℕ → Type 0} {k s : ℕ} → ((x : ℕ) → F x ↔ G x) → Largest top F k s → Largest top G k s
largest-same f w = record {
  small = w.small;
  aligned = w.aligned;
  whole = λ x c. (f x).0 (w.whole x c);
  no_larger = λ j t l a h g all. w.no_larger j t l a h g (λ x c. (f x).1 (all x c));
}

-- "The free blocks are exactly the largest aligned blocks, up to the top size, of frames added and not granted."
pub free-are-largest : {top : ℕ} {bs : List Block} → Kept top bs → (k s : ℕ) → Free bs k s ↔ Largest top (Spare bs) k s
free-are-largest {top} {bs} w k s =
    (λ m. largest-same (λ x. ((spare-is x w.sound).1, (spare-is x w.sound).0)) (those.0 m), λ l. those.1 (largest-same (λ x. spare-is x w.sound) l))
  where
    those : Free bs k s ↔ Largest top (Covered (Free bs)) k s
    those = largest top (Free bs) (tidy w.sound) w.joined k s

-- ---- one list only

pub same-comm : {bs cs : List Block} → Same bs cs → Same cs bs
same-comm e = record { frames = λ x. ((e.frames x).1, (e.frames x).0); granted = λ k s. ((e.granted k s).1, (e.granted k s).0) }

spare-same : {bs cs : List Block} (x : ℕ) → Same bs cs → Spare bs x → Spare cs x
spare-same x e l = record {
  managed = (e.frames x).0 l.managed;
  not_granted = λ g. l.not_granted (record { class = g.class; start = g.start; member = (e.granted g.class g.start).1 g.member; covers = g.covers });
}

same_blocks : {top : ℕ} {bs cs : List Block} → Kept top bs → Kept top cs → Same bs cs → (b : Block) → b ∈ bs → b ∈ cs
same_blocks v w e (blk true k s) m = (e.granted k s).0 m
same_blocks v w e (blk false k s) m =
    (free-are-largest w k s).1 (largest-same (λ x. (spare-same x e, spare-same x (same-comm e))) ((free-are-largest v k s).0 m))

-- the frames and the granted blocks determine the list
pub unique : {top : ℕ} {bs cs : List Block} → Kept top bs → Kept top cs → Same bs cs → bs ≡ cs
unique {bs} {cs} v w e = same-members bs cs v.sound w.sound (λ b. (same_blocks v w e b, same_blocks w v (same-comm e) b))
