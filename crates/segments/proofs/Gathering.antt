-- The weights that each breaker trips for, noted line by line.
use Prim.Native.Nat.{ℕ, ◌+◌, ◌≤◌, ◌<◌}
use mathlib.Core.Path.{◌≡◌, refl, sym, ap, ◌∙◌}
use mathlib.Core.Bool.{Bool, true, false, true≢false}
use mathlib.Core.List.{List}
use native.Mathlib.Decide.{ℕ_discrete}
use native.Mathlib.Omega.{arith}
use lib.Dec.{eqb}
use lib.ListN.{length, get_or, set}
use borrow.Author.Tests.{eq-eqb, ne_eqb}
use Rattle.model.specs.Lists.{numbers}
use Rattle.model.specs.Network.{Network}
use Rattle.model.specs.Paths.{End, same_end, is_open, line_numbers}
use Rattle.model.specs.Outage.{tripped}
use Rattle.model.specs.Segments.{weight_of, weight_tripped}
use Rattle.graphs.specs.Sum.{on, sum-ext}
use Rattle.savings.specs.Facts.{same_end-eq, same_end-refl}
use Rattle.theory.specs.Reading.{Read}
use Rattle.theory.specs.Ends.{numbers-in, breaker-closed, closed-end}
use Rattle.theory.specs.Radial.{Rules}
use Rattle.theory.specs.Sizes.{read-sized}
use Rattle.theory.specs.Gathering.{Gathered, gathered-more, gathered-small, gathered-whole}
use Rattle.theory.specs.Behind.{kept-sum, side-of}
use Rattle.tree.specs.Linked.{end_code}
use Rattle.outage.proofs.Breakers.{trip-closed}
use Rattle.segments.specs.declared.Weights.{Weights}
use Rattle.segments.specs.Entries.{HoldsWeights}

-- an end of a line
abbrev There : Network → End → Type 0
There N e = (1 ≤ e.line) × (e.line ≤ length N.lines) × (1 ≤ e.side) × (e.side ≤ 2)

closed-there : (N : Network) (e : End) → is_open N e ≡ false → There N e
closed-there N e c = let x = closed-end N e c in let s = side-of N e c in (x.0, x.1, s.0, s.1)

-- closed ends have codes of their own
code_same : (N : Network) (d e : End) → is_open N d ≡ false → is_open N e ≡ false → end_code d ≡ end_code e → d ≡ e
code_same N d e p q h =
    let l : d.line ≡ e.line = omega (arith, closed-there N d p, closed-there N e q, h) in
    let s : d.side ≡ e.side = omega (arith, closed-there N d p, closed-there N e q, h) in
    λ i. record { line = l i; side = s i }

code-test : (N : Network) (d e : End) → is_open N d ≡ false → is_open N e ≡ false → eqb (end_code d) (end_code e) ≡ same_end d e
code-test N d e p q = go (ℕ_discrete (end_code d) (end_code e)) (same_end d e) refl
  where
    go : Dec (end_code d ≡ end_code e) → (b : Bool) → same_end d e ≡ b → eqb (end_code d) (end_code e) ≡ b
    go (yes h) true k = eq-eqb _ _ h
    go (yes h) false k = absurd (true≢false (sym (ap (λ x. same_end x e) (code_same N d e p q h) ∙ same_end-refl e) ∙ k))
    go (no h) true k = absurd (h (ap (λ x. end_code x) (same_end-eq d e k)))
    go (no h) false k = ne_eqb _ _ h

module _ (N : Network) where
  -- the code of the breaker that trips for a line
  abbrev breaker_code : ℕ → ℕ
  breaker_code l = end_code (tripped N l)

  -- the weights of the lines before one are noted by the codes of their breakers
  abbrev pub Noted : List ℕ → ℕ → Type 0
  Noted weights l = Gathered breaker_code (weight_of N) (length N.lines + 1) weights l

  pub code-is : (l c : ℕ) (e : End) → c ≡ end_code e → e ≡ tripped N l → c ≡ end_code (tripped N l)
  code-is l c e p q = p ∙ ap (λ (f : End). end_code f) q

  -- one line more
  pub noted_more : (weights : List ℕ) (l t w : ℕ) → l ≤ length N.lines → t < length weights → t ≡ end_code (tripped N l) → w ≡ weight_of N l → Noted weights l
      → Noted (set weights t (get_or weights t 0 + w)) (l + 1)
  noted_more weights l t w h n p q k = gathered-more breaker_code (weight_of N) (length N.lines + 1) weights l t _ p (ap (λ v. get_or weights t 0 + v) q) n (omega arith) k

  module _ (d : Read N) where
    -- the noted weight of the next line's breaker, with that line
    pub noted-fits : (weights : List ℕ) (l t : ℕ) → l ≤ length N.lines → t ≡ end_code (tripped N l) → Noted weights l → get_or weights t 0 + weight_of N l ≤ 768000000
    noted-fits weights l t h p k =
        omega (
          arith,
          ap (λ j. get_or weights j 0) p,
          gathered-small breaker_code (weight_of N) (length N.lines + 1) weights l (length N.lines) 1000000 refl (read-sized N d).weight (omega arith) k,
          (read-sized N d).line_count,
        )

    -- all lines
    pub noted-all : Rules N → (w : Weights) → Noted w.by_code (length N.lines + 1) → HoldsWeights N w
    unfolding weight_tripped line_numbers
    noted-all r w k e b =
        gathered-whole breaker_code (weight_of N) (length N.lines + 1) w.by_code (length N.lines + 1) (length N.lines) refl (omega arith) k (end_code e)
        ∙ sum-ext (λ l. on (eqb (end_code (tripped N l)) (end_code e)) (weight_of N l)) (λ l. on (same_end (tripped N l) e) (weight_of N l)) (numbers 1 (length N.lines))
        (λ l m.
        let i = numbers-in l 1 (length N.lines) m in
        ap (λ x. on x (weight_of N l)) (code-test N (tripped N l) e (trip-closed N d r l (record { low = i.0; high = omega (arith, i.1) })) (breaker-closed N e b)))
        ∙ sym (kept-sum (weight_of N) (λ l. same_end (tripped N l) e) (numbers 1 (length N.lines)))
