-- Weights gathered place by place, line after line.
use Prim.Native.Nat.{ℕ, ◌+◌, ◌≤◌, ◌<◌}
use mathlib.Core.Path.{◌≡◌, sym, ap, ◌∙◌}
use mathlib.Core.Bool.{Bool}
use mathlib.Core.List.{List, []}
use native.Mathlib.Decide.{ℕ_discrete}
use native.Mathlib.Omega.{arith}
use lib.Dec.{eqb}
use lib.ListN.{length, get_or, set, replicate}
use lib.Seq.{get_or-set_same, get_or-set_other}
use borrow.Author.Tests.{eq-eqb, ne_eqb}
use Rattle.model.specs.Lists.{numbers}
use Rattle.model.specs.Network.{Network}
use Rattle.graphs.specs.Sum.{on, sum_over, sum-ext}
use Rattle.savings.specs.Breakers.{end_at}
use Rattle.savings.specs.Totals.{breakers_with}
use Rattle.theory.specs.Sizes.{numbers-length, read-sized}
use Rattle.theory.specs.Gathering.{sum_from, sum_first, sum-none, sum-all, sum-up-to, on-up-to, always}
use Rattle.theory.specs.Best.{Accepted}
use Rattle.sets.specs.Stops.{first_stop}
use Rattle.sets.specs.Sets.{route, load, lines}
use Rattle.sets.specs.Apart.{place_ends}
use Rattle.sets.specs.Start.{own_at}
use Rattle.starts.specs.Own.{stop_of}
use Rattle.starts.proofs.OnEnds.{on-is}

module _ (N : Network) (a : Accepted N) where
  -- the weights of some of the lines together
  pub weights-few : (test : ℕ → Bool) → sum_over (λ l. on (test l) (load N l)) (lines N) ≤ 768000000
  weights-few test = omega (arith, sum-up-to _ 1000000 (λ l. on-up-to (test l) (load N l) 1000000 ((read-sized N a.read).weight l)) (lines N), numbers-length 1 (length N.lines), (read-sized N a.read).line_count)

-- `own` has at each place the weights of the lines before l that stop there: with those from l on it is the whole
abbrev pub Weighed : Network → ℕ → List ℕ → ℕ → Type 0
Weighed N end own l = (p : ℕ) → 1 ≤ p → get_or own p 0 + sum_from (λ k. on (eqb (stop_of N k) p) (load N k)) l end ≡ sum_from (λ k. on (eqb (stop_of N k) p) (load N k)) 1 end

-- nothing yet
pub weighed-none : (N : Network) (end n : ℕ) → Weighed N end (replicate n 0) 1
weighed-none N end n p i = omega (arith, always {A = ℕ} 0 n p)

module _ (N : Network) (end : ℕ) (own : List ℕ) (l : ℕ) (b : l < end) (g : Weighed N end own l) where
  -- a line that stops at a breaker
  pub weighed-past : stop_of N l ≡ 0 → Weighed N end own (l + 1)
  weighed-past z p i = omega (
    arith,
    g p i,
    sum_first (λ k. on (eqb (stop_of N k) p) (load N k)) l end b,
    ap (λ b. on b (load N l)) (ne_eqb (stop_of N l) p (λ e. omega (arith, z, e))),
  )

  -- a line that stops at a place
  pub weighed_more : (k v : ℕ) → stop_of N l ≡ k → v ≡ get_or own k 0 + load N l → k < length own → Weighed N end (set own k v) (l + 1)
  weighed_more k v e f h p i = go (ℕ_discrete p k)
    where
      share : ℕ → ℕ
      share j = on (eqb (stop_of N j) p) (load N j)

      go : Dec (p ≡ k) → get_or (set own k v) p 0 + sum_from share (l + 1) end ≡ sum_from share 1 end
      go (yes q) = omega (
        arith,
        g p i,
        f,
        ap (λ j. get_or own j 0) q,
        ap (λ j. get_or (set own k v) j 0) q,
        get_or-set_same own k v 0 h,
        sum_first share l end b,
        ap (λ b. on b (load N l)) (eq-eqb (stop_of N l) p (e ∙ sym q)),
      )
      go (no q) = omega (arith, g p i, get_or-set_other own k p v 0 q, sum_first share l end b, ap (λ b. on b (load N l)) (ne_eqb (stop_of N l) p (λ x. q (sym x ∙ e))))

  -- each sum so far is small, and so is that with the next line
  pub weighed-fits : Accepted N → end ≡ length N.lines + 1 → (k : ℕ) → stop_of N l ≡ k → 1 ≤ k → get_or own k 0 + load N l ≤ 768000000
  weighed-fits a n k e i =
      let share : ℕ → ℕ = λ j. on (eqb (stop_of N j) k) (load N j) in
      omega (
        arith,
        g k i,
        sum_first share l end b,
        ap (λ b. on b (load N l)) (eq-eqb (stop_of N l) k e),
        ap (sum_from share 1) n,
        sum-all share (length N.lines),
        weights-few N a (λ j. eqb (stop_of N j) k),
      )

-- all lines
pub weighed-whole : (N : Network) → Accepted N → (end : ℕ) → end ≡ length N.lines + 1 → (own : List ℕ) (l : ℕ) → end ≤ l → Weighed N end own l
    → (p : ℕ) → 1 ≤ p → p ≤ length N.places → get_or own p 0 ≡ own_at N (end_at N p)
weighed-whole N a end n own l b g p i j =
    omega (arith, g p i, sum-none (λ k. on (eqb (stop_of N k) p) (load N k)) l end b)
    ∙ ap (sum_from (λ k. on (eqb (stop_of N k) p) (load N k)) 1) n
    ∙ sum-all (λ k. on (eqb (stop_of N k) p) (load N k)) (length N.lines)
    ∙ sum-ext (λ l. on (eqb (stop_of N l) p) (load N l)) _ (numbers 1 (length N.lines)) (λ l m. ap (λ b. on b (load N l)) (on-is N a p i j (first_stop (breakers_with N []) (place_ends N) (route N l))))
