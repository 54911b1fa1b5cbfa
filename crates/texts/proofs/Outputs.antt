-- Text put into an output, piece after piece.
use mathlib.Core.List.{List, ◌++◌}
use mathlib.Core.Path.{◌≡◌, refl, ap, ◌∙◌}
use Prim.Native.Nat.{ℕ}
use native.Mathlib.Omega.{arith}
use lib.ListN.{length}
use lib.Seq.{length-sets}
use Rattle.texts.specs.declared.Output.{Output}
use Rattle.texts.specs.Output.{Puts, Ready, StillReady}
use Rattle.texts.proofs.Putting.{then as put_then}

pub then : {x y : List ℕ} {a b c : Output} → Puts x a b → Puts y b c → Puts (x ++ y) a c
then p q = record { put = put_then p.put q.put; same_buffer = q.same_buffer ∙ p.same_buffer }

pub still_same : {a : Output} → Ready a → StillReady a a
still_same r = record { ready = r; same_length = refl; same_buffer = refl }

pub still_then : {a b c : Output} → StillReady a b → StillReady b c → StillReady a c
still_then p q = record { ready = q.ready; same_length = q.same_length ∙ p.same_length; same_buffer = q.same_buffer ∙ p.same_buffer }

pub still_puts : {x : List ℕ} {a b c : Output} → StillReady a b → Puts x b c → StillReady a c
still_puts {x} {a} {b} {c} s p =
    let long : length c.bytes.now ≡ length b.bytes.now = ap length p.put.bytes ∙ length-sets b.bytes.now b.at x in
    let r = s.ready in
    record {
      ready = record { in_bounds = omega (arith, p.put.place, r.in_bounds); has_room = omega (arith, r.has_room) };
      same_length = long ∙ s.same_length;
      same_buffer = p.same_buffer ∙ s.same_buffer;
    }
