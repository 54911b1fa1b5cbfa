-- The loop over a chunk: how far the reading of its bytes has come, turn after turn; the input's end; and a whole run, chunk after chunk.
use mathlib.Core.Bool.{Bool, true, false, cond}
use mathlib.Core.List.{List, [], ◌∷◌, ◌++◌}
use mathlib.Core.Path.{◌≡◌, refl, sym, ap, subst, ◌∙◌}
use Prim.Native.Nat.{ℕ, ◌+◌, ◌≤◌, ◌<◌}
use native.Mathlib.Nat.{add_assoc}
use native.Mathlib.Omega.{arith}
use lib.ListN.{length, take, drop, drop_of_length-le, length-take, length-drop}
use lib.Seq.{sets, drop-drop, take-append_seam}
use Rattle.std.specs.Prelude.{Result, Ok, Err, OnErr}
use Rattle.lines.specs.Gather.{Reading, fed, line_here, line_ends, gathered, last_line, lines_of}
use Rattle.texts.specs.Put.{place_after}
use Rattle.lines.specs.Running.{after_all, Holds, Took, Ended}
use Rattle.lines.specs.declared.Gathered.{Gathered}
use Rattle.lines.proofs.Feeding.{chunks, fed-from, lines-fed, gather-fed, line-all, held_kept}

-- Up to the place `from` the reading of the chunk behind a line has come to this reading: its lines were run, and its open line is held.
pub record Going {S : Type 0} (step : List ℕ → S → S) (chunk line : List ℕ) (before : S) (from : ℕ) (held : List ℕ) (len : ℕ) (now : S) : Type 0 where
  pub reading : Reading
  pub on : fed (record { done = []; held = line }) chunk ≡ fed reading (drop from chunk)
  pub holds : Holds held len reading.held
  pub ran : now ≡ after_all step reading.done before

after-append : {S : Type 0} (step : List ℕ → S → S) (ks ls : List (List ℕ)) (s : S) → after_all step (ks ++ ls) s ≡ after_all step ls (after_all step ks s)
after-append step [] ls s = refl
after-append step (k ∷ ks) ls s = after-append step ks ls (step k s)

pub begun : {S : Type 0} (step : List ℕ → S → S) (chunk line : List ℕ) (before : S) (held : List ℕ) (len : ℕ) → Holds held len line
    → Going step chunk line before 0 held len before
begun step chunk line before held len h = record { reading = record { done = []; held = line }; on = refl; holds = h; ran = refl }

pub over : {S : Type 0} (step : List ℕ → S → S) (chunk line : List ℕ) (before : S) (from : ℕ) (held : List ℕ) (len : ℕ) (now : S) → length chunk ≤ from
    → Going step chunk line before from held len now
    → Holds held len (fed (record { done = []; held = line }) chunk).held × (now ≡ after_all step (fed (record { done = []; held = line }) chunk).done before)
over step chunk line before from held len now h g =
    let all : fed (record { done = []; held = line }) chunk ≡ g.reading = g.on ∙ ap (fed g.reading) (drop_of_length-le chunk {i = from} h) in
    (g.holds ∙ ap (λ (r : Reading). take 81 r.held) (sym all), g.ran ∙ ap (λ (r : Reading). after_all step r.done before) (sym all))

-- wherever the reading has come to, the lines that were run are the first of the chunk's
pub ran-first : {S : Type 0} (step : List ℕ → S → S) (chunk line : List ℕ) (before : S) (from : ℕ) (held : List ℕ) (len : ℕ) (now : S)
    → Going step chunk line before from held len now → (n : ℕ) × (now ≡ after_all step (take n (fed (record { done = []; held = line }) chunk).done) before)
ran-first step chunk line before from held len now g =
    let rest : List (List ℕ) = (fed (record { done = []; held = g.reading.held }) (drop from chunk)).done in
    let all : (fed (record { done = []; held = line }) chunk).done ≡ g.reading.done ++ rest =
    ap (λ (r : Reading). r.done) (g.on ∙ fed-from (drop from chunk) g.reading.done g.reading.held) in
    let first : take (length g.reading.done) (fed (record { done = []; held = line }) chunk).done ≡ g.reading.done =
    ap (take (length g.reading.done)) all ∙ take-append_seam g.reading.done rest in
    (length g.reading.done, g.ran ∙ ap (λ (ls : List (List ℕ)). after_all step ls before) (sym first))

-- what holds anyway holds where there is an error
pub on-err : {T E P : Type 0} (r : Result T E) → P → OnErr r P
on-err (Ok x) p = tt
on-err (Err e) p = p

-- one turn: what `gather` took of the chunk, and the buffer that it left
module _
    {S : Type 0} (step : List ℕ → S → S) (enough : (l : List ℕ) (s : S) → step (take 81 l) s ≡ step l s)
    (chunk line : List ℕ) (before : S) (from : ℕ) (held : List ℕ) (len : ℕ) (now : S) (long : length held ≡ 81) (within : len ≤ 81)
    (going : Going step chunk line before from held len now)
    (g : Gathered) (held' : List ℕ) (took : g ≡ gathered (drop from chunk) from (length held) len) (left : held' ≡ sets held len (line_here (drop from chunk)))
  where
    -- the buffer holds the line with what was taken
    kept : Holds held' g.len (going.reading.held ++ line_here (drop from chunk))
    kept =
        let before' : take len held ≡ take (length held) going.reading.held = subst (λ (k : ℕ). take len held ≡ take k going.reading.held) (sym long) going.holds in
        let behind = held_kept held going.reading.held (line_here (drop from chunk)) len (omega arith) before' in
        ap (λ (k : ℕ). take k held') (ap (λ (x : Gathered). x.len) took)
        ∙ ap (take (place_after (length held) len (length (line_here (drop from chunk))))) left
        ∙ behind
        ∙ ap (λ (k : ℕ). take k (going.reading.held ++ line_here (drop from chunk))) long

    pub turn-ended : (now' : S) → g.ended ≡ true → now' ≡ step (take g.len held') now
        → Going step chunk line before g.at held' 0 now'
    turn-ended now' e run =
        let ends : line_ends (drop from chunk) ≡ true = ap (λ (x : Gathered). x.ended) (sym took) ∙ e in
        let l : List ℕ = going.reading.held ++ line_here (drop from chunk) in
        let at : g.at ≡ from + (length (line_here (drop from chunk)) + 1) =
        ap (λ (x : Gathered). x.at) took ∙ ap (λ (t : Bool). from + length (line_here (drop from chunk)) + cond t 1 0) ends ∙ add_assoc from (length (line_here (drop from chunk))) 1 in
        record {
          reading = record { done = going.reading.done ++ (l ∷ []); held = [] };
          on =
              going.on ∙ gather-fed (drop from chunk) going.reading
              ∙ ap
              (λ (t : Bool). cond t (fed (record { done = going.reading.done ++ (l ∷ []); held = [] }) (drop (length (line_here (drop from chunk)) + 1) (drop from chunk)))
              (record { done = going.reading.done; held = l }))
              ends
              ∙ ap (fed (record { done = going.reading.done ++ (l ∷ []); held = [] })) (drop-drop (length (line_here (drop from chunk)) + 1) from chunk ∙ ap (λ (k : ℕ). drop k chunk) (sym at));
          holds = refl;
          ran =
              run
              ∙ ap (λ (b : List ℕ). step b now) kept
              ∙ enough l now
              ∙ ap (step l) going.ran
              ∙ sym (after-append step going.reading.done (l ∷ []) before);
        }

    pub turn-open : g.ended ≡ false → Going step chunk line before g.at held' g.len now
    turn-open e =
        let ends : line_ends (drop from chunk) ≡ false = ap (λ (x : Gathered). x.ended) (sym took) ∙ e in
        let l : List ℕ = going.reading.held ++ line_here (drop from chunk) in
        let at : g.at ≡ from + length (line_here (drop from chunk)) + 0 =
        ap (λ (x : Gathered). x.at) took ∙ ap (λ (t : Bool). from + length (line_here (drop from chunk)) + cond t 1 0) ends in
        let all : drop g.at chunk ≡ [] =
        drop_of_length-le chunk {i = g.at} (omega (arith, at, ap length (line-all (drop from chunk) ends), length-drop from chunk)) in
        record {
          reading = record { done = going.reading.done; held = l };
          on =
              going.on ∙ gather-fed (drop from chunk) going.reading
              ∙ ap
              (λ (t : Bool). cond t (fed (record { done = going.reading.done ++ (l ∷ []); held = [] }) (drop (length (line_here (drop from chunk)) + 1) (drop from chunk)))
              (record { done = going.reading.done; held = l }))
              ends
              ∙ ap (fed (record { done = going.reading.done; held = l })) (sym all);
          holds = kept;
          ran = going.ran;
        }

-- ---- the input's end

pub last_none : {S : Type 0} (step : List ℕ → S → S) (held : List ℕ) (s : S) (len : ℕ) → len ≡ 0 → Ended step held len s s
last_none step held s len e [] h = refl
last_none step held s len e (b ∷ line) h = absurd (omega (arith, ap length h, length-take len held))

pub last_some : {S : Type 0} (step : List ℕ → S → S) → ((l : List ℕ) (s : S) → step (take 81 l) s ≡ step l s) → (held : List ℕ) (s s' : S) (len : ℕ) → 0 < len → len ≤ length held
    → s' ≡ step (take len held) s → Ended step held len s s'
last_some step enough held s s' len some within run [] h = absurd (omega (arith, ap length h, length-take len held))
last_some step enough held s s' len some within run (b ∷ line) h = run ∙ ap (λ (l : List ℕ). step l s) h ∙ enough (b ∷ line) s

-- ---- a whole run: the state at the end is that of the lines of the input, one after the other

-- two chunks in a row are as good as one
pub took-both : {S : Type 0} (step : List ℕ → S → S) (xs ys held held' held'' : List ℕ) (s s' s'' : S) (len len' len'' : ℕ) → Took step xs held len s held' len' s'
    → Took step ys held' len' s' held'' len'' s'' → Took step (xs ++ ys) held len s held'' len'' s''
took-both step xs ys held held' held'' s s' s'' len len' len'' p q line h =
    let first : Reading = fed (record { done = []; held = line }) xs in
    let second : Reading = fed (record { done = []; held = first.held }) ys in
    let both : fed (record { done = []; held = line }) (xs ++ ys) ≡ record { done = first.done ++ second.done; held = second.held } =
    chunks xs ys (record { done = []; held = line }) ∙ fed-from ys first.done first.held in
    let a = p line h in
    let b = q first.held a.0 in (
      b.0 ∙ ap (λ (r : Reading). take 81 r.held) (sym both),
      b.1
          ∙ ap (after_all step second.done) a.1
          ∙ sym (after-append step first.done second.done s)
          ∙ ap (λ (r : Reading). after_all step r.done s) (sym both),
    )

-- from nothing held to the input's end
pub took-all : {S : Type 0} (step : List ℕ → S → S) (input held held' : List ℕ) (s s' s'' : S) (len : ℕ) → Took step input held 0 s held' len s' → Ended step held' len s' s''
    → s'' ≡ after_all step (lines_of input) s
took-all step input held held' s s' s'' len p e =
    let r : Reading = fed (record { done = []; held = [] }) input in
    let a = p [] refl in
    e r.held a.0
    ∙ ap (after_all step (last_line r.held)) a.1
    ∙ sym (after-append step r.done (last_line r.held) s)
    ∙ ap (λ (ls : List (List ℕ)). after_all step ls s) (lines-fed input)
