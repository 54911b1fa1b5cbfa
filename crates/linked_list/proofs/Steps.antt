-- Popping and one step of a walk, at the numbers as the code has them. Assumes nothing.
use mathlib.Core.Path.{◌≡◌, refl, ap, ◌∙◌}
use mathlib.Core.Bool.{true}
use mathlib.Core.List.{List, [], ◌∷◌}
use Prim.Native.Nat.{ℕ, zero, suc, ◌≤◌}
use native.Mathlib.Nat.{not-suc-le-zero}
use borrow.Author.Tests.{eqb-true}
use Rattle.linked_list.specs.Links.{next, linked, empty, popped, nodes, removed, Left}
use Rattle.std.specs.Prelude.{Some, None}
use Rattle.linked_list.specs.declared.Previous.{Previous}
use Rattle.linked_list.specs.declared.Previous.TheVariants.{Head, Word}

pub pop-nothing : (head : ℕ) (arena : List ℕ) → empty head ≡ true → popped head arena ≡ None
pop-nothing head arena e = rw (eqb-true head 0 e)

pub pop-block : (head : ℕ) (arena : List ℕ) → (head ≡ 0 → ⊥) → popped head arena ≡ Some (record { block = head; head = next arena head })
pop-block zero arena q = absurd (q refl)
pop-block (suc a) arena q = refl

pub nodes-end : (most : ℕ) (arena : List ℕ) → nodes most arena 0 ≡ []
unfolding nodes
nodes-end zero arena = refl
nodes-end (suc most) arena = refl

pub nodes-none : (most : ℕ) (arena : List ℕ) (head : ℕ) → most ≤ 0 → nodes most arena head ≡ []
unfolding nodes
nodes-none zero arena head h = refl
nodes-none (suc most) arena head h = absurd (not-suc-le-zero h)

pub nodes-step : (most left : ℕ) (arena : List ℕ) (head : ℕ) → most ≡ suc left → (head ≡ 0 → ⊥) → nodes most arena head ≡ head ∷ nodes left arena (next arena head)
unfolding nodes
nodes-step most left arena zero e q = absurd (q refl)
nodes-step most left arena (suc a) e q = rw e

-- ---- a removal, told by the case of its place

pub remove-head : (head : ℕ) (arena : List ℕ) (previous : Previous) (node after : ℕ) → previous ≡ Head → after ≡ next arena node → Left (removed head arena previous node) after arena
remove-head head arena previous node after e f = rw e (record { head_is = f; words_are = refl })

pub remove-word : (head : ℕ) (arena words : List ℕ) (previous : Previous) (before node after : ℕ) → previous ≡ Word before → after ≡ next arena node → words ≡ linked arena before after →
    Left (removed head arena previous node) head words
remove-word head arena words previous before node after e f g = rw e (record { head_is = refl; words_are = g ∙ ap (linked arena before) f })
