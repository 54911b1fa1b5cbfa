-- How many nodes a run of the reader's steps has before the first 0.
use mathlib.Core.List.{List}
use mathlib.Core.Path.{◌≡◌, refl, sym, ap, subst, ◌∙◌}
use Prim.Native.Nat.{ℕ, zero, suc, ◌+◌, ◌-◌, ◌<◌, ◌≤◌}
use native.Mathlib.Omega.{arith}
use lib.ListN.{length}
use Rattle.std.specs.Prelude.{Option, Some, None, IfSome, IsSomeAnd}
use Rattle.std.specs.Option.{MatchOption, option_map}
use Rattle.std.specs.Fn.{iterate}
use Rattle.linked_list.specs.Links.{next, nodes}
use Rattle.heap_runs.proofs.Lending.{count-end, count_none, count-step}

counted : (n m : ℕ) (arena : List ℕ) (h : ℕ → ℕ) → ((x : ℕ) → (x ≡ 0 → ⊥) → h x ≡ next arena x) → (a : ℕ) → m ≤ n
    → ((k : ℕ) → k < m → iterate h k a ≡ 0 → ⊥) → (m < n → iterate h m a ≡ 0) → m ≡ length (nodes n arena a)
counted zero m arena h s a l all end = omega (arith, l, count_none 0 arena a refl)
counted (suc n) zero arena h s a l all end = sym (count-end (suc n) arena a (end (omega arith)))
counted (suc n) (suc m) arena h s a l all end =
    let some : a ≡ 0 → ⊥ = all 0 (omega arith) in
    let rest = counted n m arena h s (h a) (omega arith) (λ k b. all (suc k) (omega arith)) (λ b. end (omega arith)) in
    let e : n ≡ suc n - 1 = omega arith in
    ap suc (rest ∙ (λ i. length (nodes (e i) arena (s a some i)))) ∙ sym (count-step (suc n) arena a (omega arith) some)

item : (Y : ℕ → Type 0) (o : Option ℕ) (v w : ℕ) → option_map (λ y. y) o ≡ Some v → IfSome o (λ y. y ≡ w) → IfSome o Y → Y w
item Y (Some y) v w e q z = subst Y q z
item Y None v w e q z = absurd (let n : ◌≡◌ {A = Option ℕ} None (Some v) = e in cc)

pub endless : {P : ℕ → Type 0} (len : ℕ) (at : ℕ → Option ℕ) → (len ≡ 0 → ⊥) → ((j : ℕ) → len ≡ j + 1 → IsSomeAnd (at j) P) → ((x : ℕ) → P x → ⊥) → ⊥
endless zero at z last never = z refl
endless {P} (suc j) at z last never = by_cases (at j) (last j (omega arith))
  where
    by_cases : (o : Option ℕ) → IsSomeAnd o P → ⊥
    by_cases (Some x) q = never x q
    by_cases None q = q

pub run-counts : (n m : ℕ) (arena : List ℕ) (h : ℕ → ℕ) → ((x : ℕ) → (x ≡ 0 → ⊥) → h x ≡ next arena x) → (a : ℕ) {Y N : ℕ → Type 0} {W : Type 0} (p q : ℕ → Option ℕ)
    → ((x : ℕ) → Y x → x ≡ 0 → ⊥) → ((x : ℕ) → N x → x ≡ 0) → (W → m < n → ⊥) → m ≤ n → (value : ℕ → ℕ)
    → ((k : ℕ) → k < m → option_map (λ y. y) (p k) ≡ Some (value k)) → ((k : ℕ) → IfSome (q k) (λ y. y ≡ iterate h k a)) → ((k : ℕ) → k < m → q k ≡ p k)
    → ((k : ℕ) → IfSome (p k) Y) → MatchOption (q m) W N → m ≡ length (nodes n arena a)
run-counts n m arena h s a {Y} {N} {W} p q some none over l value reads order same all end =
    counted n m arena h s a l
    (λ k b. some (iterate h k a) (item Y (p k) (value k) (iterate h k a) (reads k b) (subst (λ o. IfSome o (λ y. y ≡ iterate h k a)) (same k b) (order k)) (all k)))
    (λ b. by_cases b (q m) (order m) end)
  where
    by_cases : m < n → (o : Option ℕ) → IfSome o (λ y. y ≡ iterate h m a) → MatchOption o W N → iterate h m a ≡ 0
    by_cases b (Some x) e z = sym e ∙ none x z
    by_cases b None e z = absurd (over z b)
