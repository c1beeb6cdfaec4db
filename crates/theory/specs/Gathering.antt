-- Sums over the numbers from one up to another, without it; and numbers gathered in a buffer, one after the other, each at an index
-- of its own.
-- Assumes nothing.
use Rattle.std.specs.Prelude.{ℕ, zero, suc, ◌+◌, ◌*◌, ◌-◌, ◌≤◌, ◌<◌, ◌≡◌, refl, Bool, true, false, List, [], ◌∷◌, map, eqb, length, get_or, set, replicate}
use Rattle.std.proofs.Common.{sym, ap, ◌∙◌, arith, get_or-set_same, get_or-set_other, eq-eqb, ne_eqb}
use Rattle.std.proofs.Math.Decide.{ℕ_discrete}
use Rattle.model.specs.Lists.{sum, numbers}
use Rattle.graphs.specs.Sum.{on, sum_over}
use Rattle.theory.specs.Sizes.{numbers-length}

-- ── sums ──
pub sum-map-over : {A : Type 0} (f : A → ℕ) (xs : List A) → sum (map f xs) ≡ sum_over f xs
unfolding sum
sum-map-over f [] = refl
sum-map-over f (x ∷ xs) = ap (λ n. f x + n) (sum-map-over f xs)

pub numbers-first : (k end : ℕ) → k < end → numbers k (end - k) ≡ k ∷ numbers (k + 1) (end - (k + 1))
unfolding numbers
numbers-first k end h = ap (numbers k) {x = end - k} {y = suc (end - (k + 1))} (omega arith)

pub numbers-none : (k end : ℕ) → end ≤ k → numbers k (end - k) ≡ []
unfolding numbers
numbers-none k end h = ap (numbers k) {x = end - k} {y = 0} (omega arith)

abbrev pub sum_from : (ℕ → ℕ) → ℕ → ℕ → ℕ
sum_from f k end = sum_over f (numbers k (end - k))

module _ (f : ℕ → ℕ) where
  pub sum_first : (k end : ℕ) → k < end → sum_from f k end ≡ f k + sum_from f (k + 1) end
  sum_first k end h = ap (sum_over f) (numbers-first k end h)

  pub sum-none : (k end : ℕ) → end ≤ k → sum_from f k end ≡ 0
  sum-none k end h = ap (sum_over f) (numbers-none k end h)

  pub sum-all : (n : ℕ) → sum_from f 1 (n + 1) ≡ sum_over f (numbers 1 n)
  sum-all n = ap (λ k. sum_over f (numbers 1 k)) {x = n + 1 - 1} {y = n} (omega arith)

  pub sum-up-to : (most : ℕ) → ((k : ℕ) → f k ≤ most) → (ks : List ℕ) → sum_over f ks ≤ length ks * most
  sum-up-to most h [] = omega arith
  sum-up-to most h (k ∷ ks) = omega (arith, h k, sum-up-to most h ks)

-- what passes a test is no more than all
pub on-up-to : (b : Bool) (x most : ℕ) → x ≤ most → on b x ≤ most
on-up-to true x most h = h
on-up-to false x most h = omega arith

-- ── gathered in a buffer ──
-- a list of one value, also past its end
pub always : {A : Type 0} (x : A) (n k : ℕ) → get_or (replicate n x) k x ≡ x
always x zero k = refl
always x (suc n) zero = refl
always x (suc n) (suc k) = always x n k

-- `own` has at each index p the weights of the lines before l whose index it is: with those from l on it is the whole
abbrev pub Gathered : (ℕ → ℕ) → (ℕ → ℕ) → ℕ → List ℕ → ℕ → Type 0
Gathered index weight end own l = (p : ℕ) → get_or own p 0 + sum_from (λ k. on (eqb (index k) p) (weight k)) l end ≡ sum_from (λ k. on (eqb (index k) p) (weight k)) 1 end

-- nothing yet
pub gathered_none : (index weight : ℕ → ℕ) (end n : ℕ) → Gathered index weight end (replicate n 0) 1
gathered_none index weight end n p = omega (arith, always {A = ℕ} 0 n p)

module _ (index weight : ℕ → ℕ) (end : ℕ) (own : List ℕ) (l : ℕ) where
  -- one line more
  pub gathered-more : (k v : ℕ) → k ≡ index l → v ≡ get_or own k 0 + weight l → k < length own → l < end → Gathered index weight end own l → Gathered index weight end (set own k v) (l + 1)
  gathered-more k v e f h b g p = go (ℕ_discrete p k)
    where
      share : ℕ → ℕ
      share j = on (eqb (index j) p) (weight j)

      go : Dec (p ≡ k) → get_or (set own k v) p 0 + sum_from share (l + 1) end ≡ sum_from share 1 end
      go (yes q) = omega (
        arith,
        g p,
        f,
        ap (λ j. get_or own j 0) q,
        ap (λ j. get_or (set own k v) j 0) q,
        get_or-set_same own k v 0 h,
        sum_first share l end b,
        ap (λ b. on b (weight l)) (eq-eqb (index l) p (sym e ∙ sym q)),
      )
      go (no q) = omega (arith, g p, get_or-set_other own k p v 0 q, sum_first share l end b, ap (λ b. on b (weight l)) (ne_eqb (index l) p (λ x. q (sym x ∙ sym e))))

  -- each sum so far is small, and so is that with the next line
  pub gathered-small : (n most : ℕ) → end ≡ n + 1 → ((k : ℕ) → weight k ≤ most) → l < end → Gathered index weight end own l → get_or own (index l) 0 + weight l ≤ n * most
  gathered-small n most e h b g =
      let share : ℕ → ℕ = λ k. on (eqb (index k) (index l)) (weight k) in
      omega (
        arith,
        g (index l),
        sum_first share l end b,
        ap (λ b. on b (weight l)) (eq-eqb (index l) (index l) refl),
        ap (sum_from share 1) e,
        sum-all share n,
        sum-up-to share most (λ k. on-up-to (eqb (index k) (index l)) (weight k) most (h k)) (numbers 1 n),
        ap (λ m. m * most) (numbers-length 1 n),
      )

  -- all lines
  pub gathered-whole : (n : ℕ) → end ≡ n + 1 → end ≤ l → Gathered index weight end own l → (p : ℕ) → get_or own p 0 ≡ sum_over (λ k. on (eqb (index k) p) (weight k)) (numbers 1 n)
  gathered-whole n e b g p =
      let share : ℕ → ℕ = λ k. on (eqb (index k) p) (weight k) in
      omega (arith, g p, sum-none share l end b) ∙ ap (sum_from share 1) e ∙ sum-all share n
