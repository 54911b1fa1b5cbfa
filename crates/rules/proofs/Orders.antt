-- Releases end in the same list in every order. Assumes nothing.
use mathlib.Core.Path.{◌≡◌, refl, sym, subst}
use mathlib.Core.Logic.Iff
use mathlib.Core.Logic.{◌⊎◌, ◌↔◌, inl, inr, ⊎_elim}
use mathlib.Core.Bool.{true, false, true≢false}
use mathlib.Core.List.Memᴰ
use mathlib.Core.List.{List, [], ◌∷◌}
use Prim.Native.Nat.{ℕ, ◌≤◌}
use Rattle.rules.specs.Largest.{Joined}
use Rattle.rules.specs.Rules.{Block, blk, granted, Sound, is_granted, released}
use Rattle.rules.specs.Managed.{◌∈◌, Free, Granted, Is, Managed, Kept, Leaves, Releases, no_more, and_then, Distinct, and_once}
use Rattle.rules.proofs.Members.{is_block, same_block}
use Rattle.rules.proofs.Putting.{leaves-as, leaves_kept, knows-granted, known}
use Rattle.rules.proofs.Freed.{released-leaves}
use Rattle.rules.proofs.Unique.{unique}

-- the blocks gs are granted in bs
abbrev pub AllGranted : List Block → List Block → Type 0
AllGranted gs bs = (b : Block) → b ∈ gs → (b ∈ bs) × (granted b ≡ true)

module _ {top : ℕ} (order : top ≤ 32) where
  -- what releasing gs leaves: they are no longer granted, and every frame stays managed
  abbrev Released : List Block → List Block → List Block → Type 0
  Released gs bs after = Leaves top (Managed bs) (λ k s. Granted bs k s × (Granted gs k s → ⊥)) (Joined top (Free bs)) after

  pub releases-leave : {gs bs after : List Block} → Sound top 0 bs → Releases top gs bs after → Released gs bs after
  releases-leave r no_more = record { sound = r; frames = λ x. Iff.rfl; granted = λ k s. (λ m. (m, λ n. Memᴰ.not-nil n), λ m. m.0); joined = λ n. n }
  releases-leave {bs} {after} r (and_then {k} {s} {gs} e rest) = go (released-leaves order k s bs r e) (λ q. releases-leave q rest)
    where
      go : Leaves top (Managed bs) (λ j t. Granted bs j t × (Is k s j t → ⊥)) (Joined top (Free bs)) (released top k s bs)
          → (Sound top 0 (released top k s bs) → Released gs (released top k s bs) after) → Released (blk true k s ∷ gs) bs after
      go v ih = leaves-as v.frames (λ j t. (to j t, from j t)) v.joined (ih v.sound)
        where
          to : (j t : ℕ) → Granted (released top k s bs) j t × (Granted gs j t → ⊥) → Granted bs j t × (Granted (blk true k s ∷ gs) j t → ⊥)
          to j t (m, n) = let o = (v.granted j t).0 m in (o.0, λ y. ⊎_elim (λ q. o.1 (is_block q)) n (Memᴰ.cases_cons y))

          from : (j t : ℕ) → Granted bs j t × (Granted (blk true k s ∷ gs) j t → ⊥) → Granted (released top k s bs) j t × (Granted gs j t → ⊥)
          from j t (m, n) = ((v.granted j t).1 (m, λ i. n (Memᴰ.head (same_block i))), λ y. n (Memᴰ.tail y))

  -- ---- which releases are accepted

  -- what is released was granted
  were-granted : {gs bs after : List Block} → Sound top 0 bs → Releases top gs bs after → AllGranted gs bs
  were-granted r no_more b m = absurd (Memᴰ.not-nil m)
  were-granted {bs} r (and_then {k} {s} {gs} e rest) b m = go b (Memᴰ.cases_cons m) (were-granted (released-leaves order k s bs r e).sound rest)
    where
      go : (b : Block) → (b ≡ blk true k s) ⊎ (b ∈ gs) → AllGranted gs (released top k s bs) → (b ∈ bs) × (granted b ≡ true)
      go b (inl q) ih = (subst (λ (x : Block). x ∈ bs) (sym q) ((known (is_granted k s) (knows-granted k s)).0 e), rw q refl)
      go (blk true j t) (inr n) ih = ((((released-leaves order k s bs r e).granted j t).0 (ih (blk true j t) n).0).0, refl)
      go (blk false j t) (inr n) ih = absurd (true≢false (sym (ih (blk false j t) n).1))

  -- granted blocks may be released in any order, each once
  pub all-accepted : (gs bs : List Block) → Sound top 0 bs → Distinct gs → AllGranted gs bs → (after : List Block) × Releases top gs bs after
  all-accepted [] bs r d were = (bs, no_more)
  all-accepted (blk false k s ∷ gs) bs r d were = absurd (true≢false (sym (were (blk false k s) (Memᴰ.head refl)).1))
  all-accepted (blk true k s ∷ gs) bs r (and_once n d) were =
      let e = (known (is_granted k s) (knows-granted k s)).1 (were (blk true k s) (Memᴰ.head refl)).0 in
      let v = released-leaves order k s bs r e in
      let w = all-accepted gs (released top k s bs) v.sound d (λ b m. still v b m (were b (Memᴰ.tail m))) in
      (w.0, and_then e w.1)
    where
      still : Leaves top (Managed bs) (λ j t. Granted bs j t × (Is k s j t → ⊥)) (Joined top (Free bs)) (released top k s bs)
          → (b : Block) → b ∈ gs → (b ∈ bs) × (granted b ≡ true) → (b ∈ released top k s bs) × (granted b ≡ true)
      still v (blk false j t) m w = absurd (true≢false (sym w.1))
      still v (blk true j t) m w = ((v.granted j t).1 (w.0, λ i. n (subst (λ (x : Block). x ∈ gs) (same_block i) m)), refl)

  -- ---- every order

  -- releases of the same blocks, each accepted, end in the same list
  pub same_end : {gs hs bs after last : List Block} → Kept top bs → Releases top gs bs after → Releases top hs bs last
      → ((k s : ℕ) → Granted gs k s ↔ Granted hs k s) → after ≡ last
  same_end {hs} {bs} {after} {last} w one other same = unique (leaves_kept u w.joined) (leaves_kept v w.joined) (record {
    frames = λ x. Iff.trans (u.frames x) (Iff.symm (v.frames x));
    granted = λ k s. Iff.trans (u.granted k s) (Iff.symm (v.granted k s));
  })
    where
      u : Released hs bs after
      u = leaves-as (λ x. Iff.rfl) (λ k s. (λ m. (m.0, λ y. m.1 ((same k s).1 y)), λ m. (m.0, λ y. m.1 ((same k s).0 y)))) (λ n. n) (releases-leave w.sound one)

      v : Released hs bs last
      v = releases-leave w.sound other

  -- "releasing several grants, each once, ends in the same words in every order"
  pub any_order : {gs hs bs after : List Block} → Kept top bs → Releases top gs bs after → Distinct hs → ((b : Block) → b ∈ hs ↔ b ∈ gs)
      → Releases top hs bs after
  any_order {hs} {bs} w one d same =
      let other = all-accepted hs bs w.sound d (λ b m. were-granted w.sound one b ((same b).0 m)) in
      subst (Releases top hs bs) (sym (same_end w one other.1 (λ k s. Iff.symm (same (blk true k s))))) other.1
