-- The total and the weights by places: how they change with one more breaker.
use Rattle.std.specs.Prelude.{ℕ, ◌+◌, ◌*◌, ◌≡◌, refl, Bool, true, false, not, ◌&&◌, ◌||◌}
use Rattle.std.proofs.Common.{sym, ap, ◌∙◌, true≢false, arith}
use mathlib.Core.List.{List, [], ◌∷◌, Memᴰ}
use Rattle.model.specs.Lists.{first_or}
use Rattle.model.specs.Paths.{End, same_end}
use Rattle.model.specs.Outage.{no_end}
use Rattle.graphs.specs.Sum.{on, sum_over, sum-ext, sum-zero, sum-add}
use Rattle.savings.specs.Facts.{or_cases, both, same_end-eq}
use Rattle.savings.specs.First.{this}
use Rattle.sets.specs.Ways.{has, with, covers, covers-has, Way, upstream, under, first-with, has-onward, covers-is, covered}

-- a sum that is counted if a test passes, number by number
pub on-sum : (c : Bool) (f : ℕ → ℕ) (ls : List ℕ) → on c (sum_over f ls) ≡ sum_over (λ l. on c (f l)) ls
on-sum true f ls = refl
on-sum false f ls = sym (sum-zero (λ l. 0) ls (λ l m. refl))

pub on-nought : (c : Bool) (n : ℕ) → n + on c 0 ≡ n
on-nought true n = omega arith
on-nought false n = omega arith

module _ (up : End → List End) (B : End → Bool) (q : End) (f : B q ≡ false) where
  -- With a breaker at q, p's trips no longer for the paths for which q's does, where p's tripped for what lies behind q.
  covers-with : (p : End) (n : ℕ) (es : List End) → Way up es → on (covers (with B q) p es) n + on (covers B p (up q)) (on (covers B q es) n) ≡ on (covers B p es) n
  covers-with p n [] w = on-nought (covers B p (up q)) 0
  covers-with p n (e ∷ es) w = go (same_end e p) (same_end e q) (B e) refl refl refl (covers-with p n es w.2)
    where
      go : (s t b : Bool) → same_end e p ≡ s → same_end e q ≡ t → B e ≡ b
          → on (covers (with B q) p es) n + on (covers B p (up q)) (on (covers B q es) n) ≡ on (covers B p es) n
          → on (s || (not (b || t) && covers (with B q) p es)) n + on (covers B p (up q)) (on (t || (not b && covers B q es)) n) ≡ on (s || (not b && covers B p es)) n
      go true t b s h _ ih = none (covers B p (up q)) (t || (not b && covers B q es)) refl refl
        where
          -- were p onward from q, the path would pass p again
          onward : (t || (not b && covers B q es)) ≡ true → has p (up q) ≡ true → has p es ≡ true
          onward k m = or_cases t (not b && covers B q es) (λ x. ap (has p) (w.0 ∙ ap up (same_end-eq e q (h ∙ x))) ∙ m)
              (λ x. has-onward up q p es w.2 (covers-has B q es (both (not b) (covers B q es) x).1) m) k

          none : (c k : Bool) → covers B p (up q) ≡ c → (t || (not b && covers B q es)) ≡ k → n + on c (on k n) ≡ n
          none true true c k = absurd (true≢false (sym (onward k (covers-has B p (up q) c)) ∙ ap (λ x. has x es) (sym (same_end-eq e p s)) ∙ w.1))
          none c false _ _ = on-nought c n
          none false true _ _ = on-nought false n
      go false true true s t b ih = absurd (true≢false (sym b ∙ ap B (same_end-eq e q t) ∙ f))
      go false true false s t _ ih = omega (arith, ap (λ x. on (covers B p x) n) (w.0 ∙ ap up (same_end-eq e q t)))
      go false false true s t _ ih = on-nought (covers B p (up q)) 0
      go false false false s t _ ih = ih

-- lines with their paths to the HV station and their weights
module _ (path : ℕ → List End) (w : ℕ → ℕ) where
  -- the weight of an end: that of all lines for which its breaker would trip
  abbrev pub weight : List ℕ → (End → Bool) → End → ℕ
  weight ls B q = sum_over (λ l. on (covers B q (path l)) (w l)) ls

  -- the total, where `value` gives the customers behind an end
  abbrev pub total_by : (End → ℕ) → List ℕ → (End → Bool) → ℕ
  total_by value ls B = sum_over (λ l. w l * value (first_or no_end B (path l))) ls

  module _ (up : End → List End) (B : End → Bool) (q : End) (n : B no_end ≡ false) (f : B q ≡ false) where
    -- Totals: one more breaker lowers the impact of each line in its weight, from that of the breaker upstream of it to its own.
    pub total-with : (value : End → ℕ) (ls : List ℕ) → ((l : ℕ) → Memᴰ l ls → Way up (path l))
        → total_by value ls (with B q) + weight ls B q * value (upstream up B q) ≡ total_by value ls B + weight ls B q * value q
    total-with value [] ways = omega arith
    total-with value (l ∷ ls) ways = omega (arith, one (covers B q (path l)) refl, total-with value ls (λ k m. ways k (Memᴰ.tail m)))
      where
        one : (c : Bool) → covers B q (path l) ≡ c
            → w l * value (first_or no_end (with B q) (path l)) + on c (w l) * value (upstream up B q) ≡ w l * value (first_or no_end B (path l)) + on c (w l) * value q
        one true c = omega (
          arith,
          ap (λ x. w l * value x) (first-with B q (path l) ∙ ap (λ x. this x q (first_or no_end B (path l))) c),
          ap (λ x. w l * value x) (covered up B q n f (path l) (ways l (Memᴰ.head refl)) c),
        )
        one false c = omega (arith, ap (λ x. w l * value x) (first-with B q (path l) ∙ ap (λ x. this x q (first_or no_end B (path l))) c))

    -- Weights: one more breaker at q takes its weight from that of an end p that q is under.
    pub weight-with : (p : End) → B p ≡ false → Way up (up q) → (ls : List ℕ) → ((l : ℕ) → Memᴰ l ls → Way up (path l))
        → weight ls (with B q) p + on (under up B q p) (weight ls B q) ≡ weight ls B p
    weight-with p g wq ls ways =
        let c : Bool = covers B p (up q) in
        omega (
          arith,
          ap (λ b. on b (weight ls B q)) (sym (covers-is up B p n g (up q) wq)) ∙ on-sum c (λ l. on (covers B q (path l)) (w l)) ls,
          sym (sum-add (λ l. on (covers (with B q) p (path l)) (w l)) (λ l. on c (on (covers B q (path l)) (w l))) ls)
              ∙ sum-ext _ _ ls (λ l m. covers-with up B q f p (w l) (path l) (ways l m)),
        )
