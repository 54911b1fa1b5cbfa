-- A grant followed by its release restores every word, and releases end in the same words in every order. Assumes nothing.
use mathlib.Core.Path.{◌≡◌, refl, sym, ap, subst, ◌∙◌}
use mathlib.Core.Logic.Iff
use mathlib.Core.Logic.{⊎_elim}
use mathlib.Core.Bool.{true, false, true≢false}
use mathlib.Core.List.Memᴰ
use mathlib.Core.List.{List, [], ◌∷◌}
use Prim.Native.Nat.{ℕ, suc, ◌-◌, ◌≤◌}
use native.Mathlib.Omega.{arith}
use lib.ListN.{length, get_or}
use Rattle.answers.specs.Judging.{done}
use Rattle.blocks.specs.Blocks.{rounded, rounded_aligned}
use Rattle.rules.specs.Rules.{Block, blk, granted, some, is_granted, released}
use Rattle.rules.specs.Managed.{◌∈◌, Kept, no_more, and_then}
use Rattle.rules.specs.Managed as rules
use Rattle.rules.proofs.Freed.{released-leaves}
use Rattle.rules.proofs.Lengths.{released-length}
use Rattle.rules.proofs.Orders.{all-accepted, any_order}
use Rattle.table.specs.Layout.{state_of, words_of}
use Rattle.frame_core.specs.Deciding.{Decision, wanted}
use Rattle.frame_core.specs.Carried.{Reply, Outcome, carried}
use Rattle.frame_release.specs.Releasing.{releasing}
use Rattle.frame.specs.Outcome.{Call, Add, Alloc, AllocAligned, AllocAt, Dealloc, DeallocAligned, Summary, zeros, decide, outcome}
use Rattle.frame.specs.Told.{replies, last}
use Rattle.frame_laws.specs.Demand3.{alloc, alloc_aligned, Grants, any, alloc_at, Releases, dealloc, dealloc_aligned, ReleaseAll, AllDone}
use Rattle.frame_laws.specs.Demand3 as say
use Rattle.frame_laws.proofs.Tables.{Stands, stands-outcome}
use Rattle.frame_laws.proofs.Effects.{Effect, refuses, adds, grants, gives, sums, effect}
use Rattle.frame_laws.proofs.Steps.{Known, stands_after}
use Rattle.frame_laws.proofs.Reaching.{reached, kept}

-- ---- an accepted release, in words

release-accepted : {c : Call} {k s : ℕ} (order room : ℕ) (bs : List Block) → Releases c k s → some (is_granted k s) bs ≡ true
    → decide c order room bs ≡ done (0 ∷ []) (released (order - 1) k s bs)
unfolding decide releasing
release-accepted order room bs (dealloc s n) e = rw e refl
release-accepted order room bs (dealloc_aligned s n a p) e = rw (p, e) refl

-- what it answers, and the table that it leaves
record Gives (n order : ℕ) (bs : List Block) (ws : List ℕ) (c : Call) : Type 0 where
  words : List ℕ
  is : outcome c ws ≡ record { reply = say.done 0; words = words }
  stands : Stands n order bs words

gives_back : {n order : ℕ} {bs : List Block} {ws : List ℕ} {c : Call} {k s : ℕ} → Stands n order bs ws → Releases c k s → some (is_granted k s) bs ≡ true
    → Gives n order (released (order - 1) k s bs) ws c
gives_back {n} {order} {bs} {ws} {c} {k} {s} t r e =
    record {
      words = words_of (length ws) (record { order = (state_of ws).order; blocks = released (order - 1) k s bs });
      is = stands-outcome t c ∙ ap (carried (zeros c) ws) (release-accepted order (n - 1) bs r e);
      stands = stands_after t (released (order - 1) k s bs) (released-leaves (omega (arith, t.high)) k s bs t.sound e).sound
          (omega (arith, released-length (order - 1) k s bs e, t.fits));
    }

-- ---- 2

-- the class that a grant asks for, one up; 0 for the other calls
abbrev asked : Call → ℕ
asked (Add s e) = 0
asked (Alloc n) = suc (wanted (rounded n))
asked (AllocAligned n a) = suc (wanted (rounded_aligned n a))
asked (AllocAt s n) = suc (wanted (rounded n))
asked (Dealloc s n) = 0
asked (DeallocAligned s n a) = 0
asked Summary = 0

asked-grant : {c : Call} {k : ℕ} → Grants c k → asked c ≡ suc k
asked-grant (any (alloc n)) = refl
asked-grant (any (alloc_aligned n a p)) = refl
asked-grant (alloc_at s n) = refl

asked-release : {c : Call} {k s : ℕ} → Releases c k s → asked c ≡ 0
asked-release (dealloc s n) = refl
asked-release (dealloc_aligned s n a p) = refl

module _ {n order : ℕ} {bs : List Block} {ws : List ℕ} (t : Stands n order bs ws) (whole : Kept (order - 1) bs) {k v : ℕ} {release : Call} (r : Releases release k v) where
  abbrev Restored : Outcome → Type 0
  Restored o = outcome release o.words ≡ record { reply = say.done 0; words = ws }

  -- the blocks after the grant, from which the release leads back
  back : (after : List Block) → Stands n order after (words_of (length ws) (record { order = (state_of ws).order; blocks = after })) → some (is_granted k v) after ≡ true
      → released (order - 1) k v after ≡ bs → outcome release (words_of (length ws) (record { order = (state_of ws).order; blocks = after })) ≡ record { reply = say.done 0; words = ws }
  back after u e q =
      let g = gives_back u r e in
      let w : g.words ≡ ws = g.stands.is ∙ ap (λ (l : List Block). words_of n (record { order = order; blocks = l })) q ∙ sym t.is in
      g.is ∙ ap (λ (l : List ℕ). record { reply = say.done 0; words = l }) w

  undone : {grant : Call} → Grants grant k → (d : Decision) → Effect (order - 1) (n - 1) bs grant d → (carried (zeros grant) ws d).reply ≡ say.done v
      → Restored (carried (zeros grant) ws d)
  undone g d (refuses {r = x} p) e = absurd (omega (arith, ap (λ (y : Reply). y.number) e))
  undone g d (adds l fits) e = absurd (omega (arith, asked-grant g))
  undone g d (grants {k = j} {v = u} {after = after} h l fits leads) e =
      let q : u ≡ v = ap (λ (y : Reply). get_or y.values 0 0) e in
      let m : j ≡ k = omega (arith, asked-grant g, asked-grant h) in
      let b = leads whole in
      back after (stands_after t after l.sound fits) (rw (← m, ← q) b.0) (rw (← m, ← q) b.1)
  undone g d (gives h l fits) e = absurd (omega (arith, asked-grant g, asked-release h))
  undone g d sums e = absurd (omega (arith, asked-grant g))

pub release_restores : say.ReleaseRestores
release_restores order w r apart grant release k v g f e =
    let q = reached r in
    let t = q.stands in
    let o = stands-outcome t grant in
    let d = effect order (length r.lent - 1) q.blocks t.low t.high t.sound (omega (arith, t.fits)) grant in
    rw o (undone t (kept q apart) f g _ d (ap (λ (x : Outcome). x.reply) (sym o) ∙ e))

-- ---- 3

-- the calls release what the list of blocks says, each accepted, and the table that they leave stands
in_words : {n order : ℕ} {cs : List Call} {gs bs after : List Block} {ws : List ℕ} → Stands n order bs ws → ReleaseAll cs gs → rules.Releases (order - 1) gs bs after
    → AllDone (replies cs ws) × Stands n order after (last cs ws)
in_words t say.no_more no_more = (say.no_more, t)
in_words {n} {order} {after = after} {ws = ws} t (say.and_then {c = c} {cs = cs} {k = k} {s = s} r more) (and_then e rest) =
    let g = gives_back t r e in
    let x = in_words g.stands more rest in
    subst (λ (o : Outcome). AllDone (o.reply ∷ replies cs o.words) × Stands n order after (last cs o.words)) (sym g.is) (say.and_then x.0, x.1)

-- what such calls release is a granted block
all-granted : {cs : List Call} {gs : List Block} → ReleaseAll cs gs → (b : Block) → b ∈ gs → granted b ≡ true
all-granted say.no_more b m = absurd (Memᴰ.not-nil m)
all-granted (say.and_then r more) b m = ⊎_elim (λ q. ap granted q) (λ o. all-granted more b o) (Memᴰ.cases_cons m)

pub any-order-of-releases : say.AnyOrder
any-order-of-releases order w r apart some others bs cs x y d f same held =
    let q = reached r in
    let t = q.stands in
    let small : order - 1 ≤ 32 = omega (arith, t.high) in
    let one = all-accepted small bs q.blocks t.sound d (λ b m. (in_table q b (all-granted x b m) (held b m), all-granted x b m)) in
    let other = any_order small (kept q apart) one.1 f (λ b. Iff.symm (same b)) in
    let a = in_words t x one.1 in
    let b = in_words t y other in
    (a.0, a.1.is ∙ sym b.1.is)
  where
    in_table : {n order : ℕ} (q : Known n order w) (b : Block) → granted b ≡ true → b ∈ w.history.grants → b ∈ q.blocks
    in_table q (blk true k s) e m = (q.grants k s).1 m
    in_table q (blk false k s) e m = absurd (true≢false (sym e))
