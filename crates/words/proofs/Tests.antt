-- Tests joined by `&&` or `||`, and what their being true or false says. Assumes nothing.
use mathlib.Core.Path.{◌≡◌, refl, sym, ◌∙◌}
use mathlib.Core.Logic.{◌⊎◌, inl, inr}
use mathlib.Core.Bool.{Bool, true, false, ◌&&◌, ◌||◌, false≢true}

pub no : (b : Bool) → (b ≡ true → ⊥) → b ≡ false
no true h = absurd (h refl)
no false h = refl

pub clash : {b : Bool} → b ≡ true → b ≡ false → ⊥
clash t f = false≢true (sym f ∙ t)

pub both : (a b : Bool) → a && b ≡ true → (a ≡ true) × (b ≡ true)
both true b e = (refl, e)
both false b e = absurd (false≢true e)

pub join : (a b : Bool) → a ≡ true → b ≡ true → a && b ≡ true
join a b p q = rw (p, q)

pub same : (a b : Bool) → (a ≡ true → b ≡ true) → (b ≡ true → a ≡ true) → a ≡ b
same true b f g = sym (f refl)
same false b f g = sym (no b (λ e. absurd (clash (g e) refl)))

pub and-false : (a : Bool) → a && false ≡ false
and-false true = refl
and-false false = refl

-- pairs of tests: the first of each, and the second of each
pub and-swap : (a b c d : Bool) → (a && b) && (c && d) ≡ (a && c) && (b && d)
and-swap true true c d = refl
and-swap true false true d = refl
and-swap true false false d = refl
and-swap false b c d = refl

-- ---- tests joined by `||`

pub either : (a b : Bool) → a || b ≡ true → (a ≡ true) ⊎ (b ≡ true)
either true b e = inl refl
either false b e = inr e

pub or_right : (a b : Bool) → b ≡ true → a || b ≡ true
or_right true b e = refl
or_right false b e = e

pub or_left : (a b : Bool) → a ≡ true → a || b ≡ true
or_left a b e = rw e

pub not-either : (a b : Bool) → a || b ≡ false → (a ≡ false) × (b ≡ false)
not-either true b e = absurd (false≢true (sym e))
not-either false b e = (refl, e)
