-- The total breaker by breaker is the total line by line, and the weights of the segment table are those of the file.
use Prim.Native.Nat.{ℕ, ◌+◌, ◌*◌, ◌≤◌, ◌<◌}
use Rattle.std.specs.Prelude.{◌≡◌, Bool, true, false, ◌≢◌, length}
use Rattle.std.proofs.Math.Path.{refl, sym, ap, ap₂}
use Rattle.std.proofs.Common.{◌∙◌, ⊎_elim, add-mul, arith}
use mathlib.Core.List.{List, [], ◌∷◌, ◌++◌, append_assoc, map, flat_map, Memᴰ}
use Rattle.std.proofs.Math.Nat.{mul-le-mul}
use Rattle.std.proofs.Math.ListN.{get_or, get_or-append}
use Rattle.std.proofs.Math.Seq.{get_or-append-add}
use Rattle.model.specs.Lists.{sum, keep, numbers}
use Rattle.model.specs.Network.{Network}
use Rattle.model.specs.Paths.{line, End, same_end, end1, end2, line_numbers, is_breaker}
use Rattle.model.specs.Outage.{path_to_hv, no_end, tripped, customers_behind, impact, outage_amount, total}
use Rattle.model.specs.Segments.{breaker_ends, weight_of, weight_tripped, segment_amount, segment, segment_table, column, all_weights, ByBreaker}
use Rattle.graphs.specs.Graph.{NoRepeat}
use Rattle.graphs.specs.Sum.{on, sum_over, sum-ext, sum_one, sum-swap}
use Rattle.savings.specs.Facts.{same_end-eq, same_end-refl}
use Rattle.theory.specs.Reading.{Read}
use Rattle.theory.specs.Radial.{Rules}
use Rattle.theory.specs.Sizes.{Sized, sum-most, keep-length, numbers-length, customers_behind-size}
use Rattle.theory.specs.Ends.{in-keep, in-flat, in-numbers, numbers-in, breaker-closed, closed-end}
use Rattle.theory.specs.Gathering.{sum-map-over}
use Rattle.theory.specs.Behind.{keep-once, ends-once, numbers-once, kept-sum}
use Rattle.theory.specs.Forest.{first_or-found, tree}
use Rattle.theory.specs.Best.{Accepted}

-- a product of a sum over what passes a test
scaled : {A : Type 0} (c : ℕ) (test : A → Bool) (f : A → ℕ) (xs : List A) → sum_over (λ x. on (test x) (f x)) xs * c ≡ sum_over (λ x. on (test x) (f x * c)) xs
scaled c test f [] = omega arith
scaled c test f (x ∷ xs) = go (test x) (scaled c test f xs)
  where
    rest : ℕ
    rest = sum_over (λ x. on (test x) (f x)) xs

    go : (b : Bool) → rest * c ≡ sum_over (λ x. on (test x) (f x * c)) xs → (on b (f x) + rest) * c ≡ on b (f x * c) + sum_over (λ x. on (test x) (f x * c)) xs
    go true ih = add-mul (f x) rest c ∙ ap (λ n. f x * c + n) ih
    go false ih = omega (arith, ih)

-- Lines grouped by an end of each: the sum over the ends, of a number for each times the weights of its lines, is the sum over the
-- lines. Each line's end is listed, and none twice.
module _ {A E : Type 0} (same : E → E → Bool) (same-eq : (c d : E) → same c d ≡ true → c ≡ d) (same_refl : (c : E) → same c c ≡ true)
    (end : A → E) (weight : A → ℕ) (value : E → ℕ) (lines : List A) (ends : List E) (once : NoRepeat ends) (listed : (l : A) → Memᴰ l lines → Memᴰ (end l) ends) where
  one_end : (l : A) (e : E) → e ≢ end l → (b : Bool) → same (end l) e ≡ b → on b (weight l * value e) ≡ 0
  one_end l e n true h = absurd (n (sym (same-eq (end l) e h)))
  one_end l e n false h = refl

  sum-grouped : sum_over (λ e. sum_over (λ l. on (same (end l) e) (weight l)) lines * value e) ends ≡ sum_over (λ l. weight l * value (end l)) lines
  sum-grouped =
      sum-ext (λ e. sum_over (λ l. on (same (end l) e) (weight l)) lines * value e) (λ e. sum_over (λ l. on (same (end l) e) (weight l * value e)) lines) ends
      (λ e _. scaled (value e) (λ l. same (end l) e) weight lines)
      ∙ sum-swap (λ e l. on (same (end l) e) (weight l * value e)) ends lines
      ∙ sum-ext (λ l. sum_over (λ e. on (same (end l) e) (weight l * value e)) ends) (λ l. weight l * value (end l)) lines
      (λ l m. sum_one (λ e. on (same (end l) e) (weight l * value e)) ends (end l) (weight l * value (end l)) once (listed l m)
      (ap (λ b. on b (weight l * value (end l))) (same_refl (end l)))
      (λ e _ n. one_end l e n (same (end l) e) refl))

-- rows of five numbers one behind another, at the start of a buffer: the numbers at one position
module _ {A : Type 0} (row : A → List ℕ) (five : (x : A) → length (row x) ≡ 5) (rest : List ℕ) (position : ℕ) (inside : position < 5) where
  column-from : (buffer : List ℕ) (k : ℕ) (xs : List A) → ((i : ℕ) → get_or buffer (5 * k + i) 0 ≡ get_or (flat_map row xs ++ rest) i 0)
      → map (λ i. get_or buffer (5 * i + position) 0) (numbers k (length xs)) ≡ map (λ x. get_or (row x) position 0) xs
  unfolding flat_map numbers
  column-from buffer k [] h = refl
  column-from buffer k (x ∷ xs) h =
      let behind : List ℕ = flat_map row xs ++ rest in
      let split : (row x ++ flat_map row xs) ++ rest ≡ row x ++ behind = append_assoc (row x) (flat_map row xs) rest in
      ap₂ (λ n (ns : List ℕ). n ∷ ns)
      (h position ∙ ap (λ (t : List ℕ). get_or t position 0) split ∙ get_or-append (row x) behind 0 position (omega (arith, five x)))
      (column-from buffer (k + 1) xs
      (λ i.
      ap (λ (j : ℕ). get_or buffer j 0) {x = 5 * (k + 1) + i} {y = 5 * k + (5 + i)} (omega arith)
      ∙ h (5 + i)
      ∙ ap₂ (λ (t : List ℕ) (j : ℕ). get_or t (j + i) 0) split (sym (five x))
      ∙ get_or-append-add (row x) behind i 0))

  column-rows : (xs : List A) → column position (length xs) (flat_map row xs ++ rest) ≡ map (λ x. get_or (row x) position 0) xs
  unfolding column
  column-rows xs = column-from (flat_map row xs ++ rest) 0 xs (λ i. ap (λ (j : ℕ). get_or (flat_map row xs ++ rest) j 0) {x = 5 * 0 + i} {y = i} (omega arith))

module _ (N : Network) where
  rows-length : (es : List End) → length (flat_map (λ e. segment N e) es) ≡ 5 * length es
  unfolding flat_map segment
  rows-length [] = refl
  rows-length (e ∷ es) = omega (arith, rows-length es)

  -- the numbers of the segment table
  pub table-length : length (segment_table N) ≡ 5 * length (breaker_ends N)
  unfolding segment_table
  table-length = rows-length (breaker_ends N)

-- a breaker trips for each line
pub tripped-breaker : (N : Network) → Read N → Rules N → (l : ℕ) → 1 ≤ l → l ≤ length N.lines → is_breaker N (tripped N l) ≡ true
unfolding tripped
tripped-breaker N d r l i j = (first_or-found no_end (λ e. is_breaker N e) (path_to_hv N (line l)) ((tree N d r).trips l i j)).1

module _ (N : Network) (a : Accepted N) where
  breakers-once : NoRepeat (breaker_ends N)
  unfolding breaker_ends line_numbers
  breakers-once = keep-once (λ e. is_breaker N e) (flat_map (λ l. end1 l ∷ end2 l ∷ []) (numbers 1 (length N.lines))) (ends-once (numbers 1 (length N.lines)) (numbers-once 1 (length N.lines)))

  breaker-listed : (e : End) → is_breaker N e ≡ true → Memᴰ e (breaker_ends N)
  unfolding breaker_ends line_numbers
  breaker-listed e b =
      let x = closed-end N e (breaker-closed N e b) in
      in-keep (λ d. is_breaker N d) e _
      (in-flat (λ l. end1 l ∷ end2 l ∷ []) e.line e (numbers 1 (length N.lines)) (in-numbers e.line 1 (length N.lines) x.0 (omega (arith, x.1)))
      (⊎_elim (λ p. Memᴰ.head p) (λ p. Memᴰ.tail (Memᴰ.head p)) x.2))
      b

  tripped-listed : (l : ℕ) → Memᴰ l (line_numbers N) → Memᴰ (tripped N l) (breaker_ends N)
  unfolding line_numbers
  tripped-listed l m = let i = numbers-in l 1 (length N.lines) m in breaker-listed (tripped N l) (tripped-breaker N a.read a.rules l i.0 (omega (arith, i.1)))

  -- a sum over the breakers, each with the weights that it trips for, is one over the lines
  grouped : (v : End → ℕ) → sum_over (λ e. weight_tripped N e * v e) (breaker_ends N) ≡ sum_over (λ l. weight_of N l * v (tripped N l)) (line_numbers N)
  unfolding weight_tripped
  grouped v =
      sum-ext (λ e. weight_tripped N e * v e) (λ e. sum_over (λ l. on (same_end (tripped N l) e) (weight_of N l)) (line_numbers N) * v e) (breaker_ends N)
      (λ e _. ap (λ n. n * v e) (kept-sum (weight_of N) (λ l. same_end (tripped N l) e) (line_numbers N)))
      ∙ sum-grouped same_end same_end-eq same_end-refl (tripped N) (weight_of N) v (line_numbers N) (breaker_ends N) breakers-once tripped-listed

  -- taken breaker by breaker, the total is what it is line by line
  pub segments-total : sum (map (λ e. segment_amount N e) (breaker_ends N)) ≡ total N
  unfolding segment_amount total outage_amount impact
  segments-total = sum-map-over (λ e. segment_amount N e) (breaker_ends N) ∙ grouped (λ e. customers_behind N e) ∙ sym (sum-map-over (λ l. outage_amount N l) (line_numbers N))

  -- the weights of the table sum to those of all lines
  pub segments-weights : sum (map (λ e. weight_tripped N e) (breaker_ends N)) ≡ all_weights N
  unfolding all_weights
  segments-weights =
      sum-map-over (λ e. weight_tripped N e) (breaker_ends N)
      ∙ sum-ext (λ e. weight_tripped N e) (λ e. weight_tripped N e * 1) (breaker_ends N) (λ e _. omega arith)
      ∙ grouped (λ e. 1)
      ∙ sum-ext (λ l. weight_of N l * 1) (weight_of N) (line_numbers N) (λ l _. omega arith)
      ∙ sym (sum-map-over (weight_of N) (line_numbers N))

  -- both hold of the table at the start of any buffer
  pub by-breaker : (rest : List ℕ) → ByBreaker N (length (breaker_ends N)) (segment_table N ++ rest)
  unfolding segment_table segment
  by-breaker rest = record {
    products = ap sum (column-rows (segment N) (λ e. refl) rest 4 (omega arith) (breaker_ends N)) ∙ segments-total;
    weights = ap sum (column-rows (segment N) (λ e. refl) rest 2 (omega arith) (breaker_ends N)) ∙ segments-weights;
  }

module _ (N : Network) (s : Sized N) where
  pub weight_tripped-size : (e : End) → weight_tripped N e ≤ 768000000
  unfolding weight_tripped line_numbers
  weight_tripped-size e =
      let ls = keep (λ l. same_end (tripped N l) e) (numbers 1 (length N.lines)) in
      omega (arith, sum-most (weight_of N) 1000000 s.weight ls, keep-length (λ l. same_end (tripped N l) e) (numbers 1 (length N.lines)), numbers-length 1 (length N.lines), s.line_count)

  pub segment_amount-size : (e : End) → segment_amount N e ≤ 7864320000000000
  unfolding segment_amount
  segment_amount-size e = mul-le-mul (weight_tripped-size e) (customers_behind-size N s e)
