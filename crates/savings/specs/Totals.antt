-- Over all lines: breakers never raise the total, and save no more where more are there. So together they save no more
-- than the sum of what each saves alone.
use Rattle.std.specs.Prelude.{ℕ, zero, suc, ◌+◌, ◌*◌, ◌≤◌, ◌<◌, Bool, true, ◌||◌, ◌≡◌, length}
use Rattle.std.proofs.Common.{mul-le-mul_left, sym, ◌∙◌, arith}
use Rattle.std.proofs.Math.Bool.{or_assoc}
use mathlib.Core.List.{List, [], ◌∷◌, ◌++◌, map, append-nil}
use Rattle.std.proofs.Math.Path.{ap, subst, fun_ext}
use Rattle.std.proofs.Math.Seq.{append_snoc}
use Rattle.model.specs.Lists.{any, first_or, numbered, numbers, sum}
use Rattle.model.specs.Network.{Network, no_line}
use Rattle.model.specs.Paths.{line, End, same_end, is_breaker, line_numbers}
use Rattle.model.specs.Outage.{path_to_hv, no_end, tripped, customers_behind, impact, outage_amount, total}
use Rattle.model.specs.Sets.{with_breakers, set_total, saving}
use Rattle.savings.specs.Facts.{or_left, any_append, any-mono}
use Rattle.savings.specs.Shape.{Same, path_to_hv-same, customers_behind-same}
use Rattle.savings.specs.Breakers.{end_at, Valid, valid-left, valid-right, valid-append, with_breakers-same, with_breakers-breaker}
use Rattle.savings.specs.First.{first-mono, first-saves}
use Rattle.savings.specs.Tree.{Tree, rising-path}

-- where f and f' together are no larger than g and g' at each number, so are their sums
sum-le : (f f' g g' : ℕ → ℕ) (n k : ℕ) → ((l : ℕ) → n ≤ l → l < n + k → f l + f' l ≤ g l + g' l)
    → sum (map f (numbers n k)) + sum (map f' (numbers n k)) ≤ sum (map g (numbers n k)) + sum (map g' (numbers n k))
unfolding sum numbers
sum-le f f' g g' n zero h = omega arith
sum-le f f' g g' n (suc k) h = omega (arith, h n (omega arith) (omega arith), sum-le f f' g g' (n + 1) k (λ l a b. h l (omega arith) (omega arith)))

module _ (N : Network) where
  -- the outage amount of a line and the total, were the breakers the ends that B takes
  abbrev pub amount_with : (End → Bool) → ℕ → ℕ
  amount_with B l = (numbered no_line N.lines l).weight * customers_behind N (first_or no_end B (path_to_hv N (line l)))

  abbrev pub total_with : (End → Bool) → ℕ
  total_with B = sum (map (amount_with B) (numbers 1 (length N.lines)))

  -- the network's breakers and the ends of a set's places
  abbrev pub breakers_with : List ℕ → End → Bool
  breakers_with S e = is_breaker N e || any (λ p. same_end e (end_at N p)) S

  -- the total of a network that differs in its breakers alone, and of a set
  total-is : (M : Network) → Same M N → total M ≡ total_with (λ e. is_breaker M e)
  unfolding total line_numbers outage_amount impact tripped
  total-is M s = λ i. sum (map
      (λ l. s.weight l i * customers_behind-same M N s (first_or no_end (λ e. is_breaker M e) (path_to_hv-same M N s (line l) i)) i)
      (numbers 1 (s.line_count i)))

  pub set_total-is : (S : List ℕ) → Valid N S → set_total N S ≡ total_with (breakers_with S)
  unfolding set_total
  set_total-is S v = total-is (with_breakers N S) (with_breakers-same S N v) ∙ ap total_with (fun_ext (λ e. with_breakers-breaker S N v e))

  pub breakers_with-append : (S T : List ℕ) (e : End) → breakers_with (S ++ T) e ≡ (breakers_with S e || any (λ p. same_end e (end_at N p)) T)
  breakers_with-append S T e = let B : ℕ → Bool = λ p. same_end e (end_at N p) in
      ap (λ b. is_breaker N e || b) (any_append B S T) ∙ sym (or_assoc (is_breaker N e) (any B S) (any B T))

module _ (N : Network) (R : Tree N) where
  -- with a set's breakers, one trips for a fault on each line
  trips-with : (S : List ℕ) (l : ℕ) → 1 ≤ l → l ≤ length N.lines → any (breakers_with N S) (path_to_hv N (line l)) ≡ true
  trips-with S l l1 ln = any-mono (λ e. is_breaker N e) (breakers_with N S) (path_to_hv N (line l)) (λ e. or_left (is_breaker N e) _) (R.trips l l1 ln)

  -- a set's breakers are among those of the set with more
  breakers_with-more : (S T : List ℕ) (e : End) → breakers_with N S e ≡ true → breakers_with N (S ++ T) e ≡ true
  breakers_with-more S T e h = breakers_with-append N S T e ∙ or_left (breakers_with N S e) _ h

  -- breakers never raise the total
  pub set_total-falls : (S T : List ℕ) → Valid N (S ++ T) → set_total N (S ++ T) ≤ set_total N S
  set_total-falls S T v =
      let B : End → Bool = breakers_with N S in
      let C : End → Bool = breakers_with N (S ++ T) in
      let m : total_with N C + total_with N B ≤ total_with N B + total_with N B
      = sum-le (amount_with N C) (amount_with N B) (amount_with N B) (amount_with N B) 1 (length N.lines)
      (λ l a b. omega (
        arith,
        mul-le-mul_left (numbered no_line N.lines l).weight
            (first-mono (λ e. customers_behind N e) no_end B C (path_to_hv N (line l)) (rising-path N R l a (omega arith)) (trips-with S l a (omega arith)) (breakers_with-more S T)),
      )) in
      omega (arith, set_total-is N S (valid-left N S T v), set_total-is N (S ++ T) v)

  -- the breakers T save no more where the breakers W are there too
  pub set_total-saves-less : (S W T : List ℕ) → Valid N (S ++ W ++ T) → set_total N (S ++ W) + set_total N (S ++ T) ≤ set_total N (S ++ W ++ T) + set_total N S
  set_total-saves-less S W T v =
      let P : End → Bool = λ e. any (λ p. same_end e (end_at N p)) T in
      let B : End → Bool = breakers_with N S in
      let C : End → Bool = breakers_with N (S ++ W) in
      let BP : End → Bool = λ e. B e || P e in
      let CP : End → Bool = λ e. C e || P e in
      let m : total_with N C + total_with N BP ≤ total_with N CP + total_with N B
      = sum-le (amount_with N C) (amount_with N BP) (amount_with N CP) (amount_with N B) 1 (length N.lines)
      (λ l a b. omega (
        arith,
        mul-le-mul_left (numbered no_line N.lines l).weight
            (first-saves (λ e. customers_behind N e) no_end B C P (path_to_hv N (line l)) (rising-path N R l a (omega arith)) (trips-with S l a (omega arith)) (breakers_with-more S W)),
      )) in
      let u : Valid N (S ++ W) = valid-left N (S ++ W) T v in
      let w : Valid N S = valid-left N S W u in
      omega (
        arith,
        set_total-is N S w,
        set_total-is N (S ++ W) u,
        set_total-is N (S ++ T) (valid-append N S T w (valid-right N (S ++ W) T v)) ∙ ap (total_with N) (fun_ext (breakers_with-append N S T)),
        set_total-is N (S ++ W ++ T) v ∙ ap (total_with N) (fun_ext (breakers_with-append N (S ++ W) T)),
      )

  -- two sets of breakers together save no more than the one and the other
  pub set_total-saves : (S T : List ℕ) → Valid N (S ++ T) → set_total N S + set_total N T ≤ set_total N (S ++ T) + total N
  unfolding set_total with_breakers
  set_total-saves S T v = set_total-saves-less [] S T v

  -- breakers save no more than the sum of what each saves alone
  pub set_total-bound : (S T : List ℕ) → Valid N (S ++ T) → set_total N S ≤ set_total N (S ++ T) + sum (map (λ p. saving N p) T)
  unfolding sum saving
  set_total-bound S [] v = omega (arith, ap (set_total N) (append-nil S))
  set_total-bound S (q ∷ T) v =
      let e : S ++ (q ∷ []) ++ T ≡ S ++ q ∷ T = append_snoc S q T in
      let u : Valid N (S ++ (q ∷ []) ++ T) = subst (Valid N) (sym e) v in
      omega (arith, set_total-bound (S ++ (q ∷ [])) T u, ap (set_total N) e, set_total-saves S (q ∷ []) (valid-left N (S ++ (q ∷ [])) T u))
