-- Every report of an accepted file is at most 32,768 bytes long.
use Rattle.std.specs.Prelude.{ℕ, zero, suc, ◌+◌, ◌*◌, ◌/◌, ◌%◌, ◌^◌, ◌≤◌, ◌<◌, ◌≡◌, Bool, not, ltb}
use Rattle.std.proofs.Common.{pow-suc, ap, length-append, ltb-false}
use Rattle.std.proofs.Math.Path.{refl}
use Rattle.std.proofs.Math.Bool.{true, false}
use mathlib.Core.List.{List, [], ◌∷◌, ◌++◌, map, flat_map, Memᴰ}
use native.Mathlib.Omega.{arith}
use Rattle.std.proofs.Math.ListN.{length}
use Rattle.model.specs.Lists.{sum, numbers}
use Rattle.model.specs.Format.{comma, newline}
use Rattle.model.specs.Network.{Network, Place, no_place}
use Rattle.model.specs.Paths.{line_numbers}
use Rattle.model.specs.Outage.{impact, outage_amount, total, figure}
use Rattle.model.specs.Sets.{place_at}
use Rattle.model.specs.Walk.{search}
use Rattle.model.specs.Text.{digits, decimal, printed_line, line_a, line_f, finished_number, line_c, line_b, report_text}
use Rattle.model.specs.Demand.{Answered}
use Rattle.savings.specs.Allowed.{allowed-few}
use Rattle.theory.specs.Reading.{All, PlaceFits}
use Rattle.theory.specs.Sizes.{numbers-length, numbered-has, Sized, read-sized, impact-size, outage_amount-size, total_size, figure-size, set_total-size}
use Rattle.theory.specs.Ends.{numbers-in}
use Rattle.theory.specs.Best.{Accepted, search-answered}

-- a number below 10 ^ suc k has at most suc k digits
digits-length : (more k n : ℕ) → n < 10 ^ suc k → length (digits more n) ≤ suc k
unfolding digits
digits-length zero k n h = omega arith
digits-length (suc more) k n h = go (ltb n 10) refl k h (λ j g. digits-length more j (n / 10) g)
  where
    go : (b : Bool) → ltb n 10 ≡ b → (k : ℕ) → n < 10 ^ suc k → ((j : ℕ) → n / 10 < 10 ^ suc j → length (digits more (n / 10)) ≤ suc j)
        → length {A = ℕ} (elim b as (λ x. List ℕ) [ true ↦ (48 + n) ∷ [] | false ↦ digits more (n / 10) ++ ((48 + n % 10) ∷ []) ]) ≤ suc k
    go true q k h ih = omega arith
    go false q zero h ih = absurd (omega (arith, ltb-false n 10 q))
    go false q (suc j) h ih =
        omega (arith, length-append (digits more (n / 10)) ((48 + n % 10) ∷ []), ih j (omega (arith, pow-suc 10 (suc j))))

pub decimal-length : (k n : ℕ) → n < 10 ^ suc k → length (decimal n) ≤ suc k
unfolding decimal
decimal-length k n h = digits-length n k n h

flat-length : {A : Type 0} (f : A → List ℕ) (most : ℕ) (xs : List A) → ((x : A) → Memᴰ x xs → length (f x) ≤ most) → length (flat_map f xs) ≤ length xs * most
unfolding flat_map
flat-length f most [] h = omega arith
flat-length f most (x ∷ xs) h = omega (arith, length-append (f x) (flat_map f xs), h x (Memᴰ.head refl), flat-length f most xs (λ y m. h y (Memᴰ.tail m)))

-- the widths of some numbers: each has at most as many digits, less one
abbrev Widths : List ℕ → List ℕ → Type 0
Widths [] [] = Unit {0}
Widths [] (k ∷ ks) = ⊥
Widths (n ∷ ns) [] = ⊥
Widths (n ∷ ns) (k ∷ ks) = (n < 10 ^ suc k) × Widths ns ks

numbers-width : (ns ks : List ℕ) → Widths ns ks → length (flat_map (λ n. comma ∷ decimal n) ns) ≤ sum (map (λ k. k + 2) ks)
unfolding flat_map sum
numbers-width [] [] w = omega arith
numbers-width [] (k ∷ ks) w = absurd w
numbers-width (n ∷ ns) [] w = absurd w
numbers-width (n ∷ ns) (k ∷ ks) w =
    omega (arith, length-append (comma ∷ decimal n) (flat_map (λ n. comma ∷ decimal n) ns), decimal-length k n w.0, numbers-width ns ks w.1)

line-width : (letter : ℕ) (ns ks : List ℕ) → Widths ns ks → length (printed_line letter ns) ≤ 2 + sum (map (λ k. k + 2) ks)
unfolding printed_line
line-width letter ns ks w = omega (arith, length-append (flat_map (λ n. comma ∷ decimal n) ns) (newline ∷ []), numbers-width ns ks w)

-- ── the lines of a report ──
module _ (N : Network) (a : Accepted N) where
  sized : Sized N
  sized = read-sized N a.read

  answered : Answered N (not (search N).spent) (search N).members (search N).best (search N).visits
  answered = search-answered N a

  line_a-length : length (line_a N) ≤ 40
  unfolding line_a sum
  line_a-length = line-width 65 (total N ∷ figure N ∷ []) (15 ∷ 19 ∷ []) (omega (arith, total_size N sized), (omega (arith, figure-size N sized), tt))

  pub line_f-length : (l : ℕ) → l ≤ 768 → length (line_f N l) ≤ 30
  unfolding line_f sum
  line_f-length l h = line-width 70 (l ∷ impact N l ∷ outage_amount N l ∷ []) (2 ∷ 7 ∷ 13 ∷ []) (omega arith, (omega (arith, impact-size N sized l), (omega (arith, outage_amount-size N sized l), tt)))

  few : length (search N).members ≤ 16
  few = omega (arith, allowed-few N (search N).members answered.is_allowed.allows, a.read.head.adds.high)

  line_c-length : length (line_c (search N)) ≤ 35
  unfolding line_c sum
  line_c-length =
      line-width 67 (finished_number (search N) ∷ (search N).visits ∷ length (search N).members ∷ (search N).best ∷ []) (0 ∷ 9 ∷ 1 ∷ 15 ∷ []) (
        flag (search N).spent,
        (
          omega (arith, answered.visits_limited, a.read.head.visits.high),
          (
            omega (arith, few),
            (omega (arith, answered.has_total, set_total-size N sized (search N).members), tt),
          ),
        ),
      )
    where
      flag : (b : Bool) → (elim b [ true ↦ 0 | false ↦ 1 ]) < 10 ^ 1
      flag true = omega arith
      flag false = omega arith

  line_b-length : (p : ℕ) → length (line_b N p) ≤ 8
  unfolding line_b place_at sum
  line_b-length p = line-width 66 ((place_at N p).line ∷ (place_at N p).side ∷ []) (2 ∷ 0 ∷ []) (omega (arith, bounds.0), (omega (arith, bounds.1), tt))
    where
      each : (ps : List Place) → All (PlaceFits (length N.lines)) ps → All (λ (q : Place). (q.line ≤ 768) × (q.side ≤ 2)) ps
      each [] f = tt
      each (q ∷ ps) f = ((omega (arith, f.0.line.high, sized.line_count), f.0.side.high), each ps f.1)

      bounds : ((place_at N p).line ≤ 768) × ((place_at N p).side ≤ 2)
      bounds = numbered-has (λ (q : Place). (q.line ≤ 768) × (q.side ≤ 2)) N.places no_place (omega arith, omega arith) (each N.places a.read.places) p

  parts : report_text N ≡ line_a N ++ flat_map (λ l. line_f N l) (line_numbers N) ++ line_c (search N) ++ flat_map (λ p. line_b N p) (search N).members
  unfolding report_text
  parts = refl

  fs-length : length (flat_map (λ l. line_f N l) (line_numbers N)) ≤ 23040
  unfolding line_numbers
  fs-length =
      omega (
        arith,
        flat-length (λ l. line_f N l) 30 (numbers 1 (length N.lines)) (λ l m. line_f-length l (omega (arith, (numbers-in l 1 (length N.lines) m).1, sized.line_count))),
        numbers-length 1 (length N.lines),
        sized.line_count,
      )

  pub report-length : length (report_text N) ≤ 32768
  report-length =
      let F = flat_map (λ l. line_f N l) (line_numbers N) in
      let B = flat_map (λ p. line_b N p) (search N).members in
      omega (
        arith,
        ap length parts,
        length-append (line_a N ++ F ++ line_c (search N)) B,
        length-append (line_a N ++ F) (line_c (search N)),
        length-append (line_a N) F,
        line_a-length,
        fs-length,
        line_c-length,
        flat-length (λ p. line_b N p) 8 (search N).members (λ p m. line_b-length p),
        few,
      )
