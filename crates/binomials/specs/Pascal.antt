-- The rule of the table of binomial coefficients, as a test of the whole table.
use Rattle.std.specs.Prelude.{◌≡◌, Bool, true, ◌&&◌, List, [], ◌∷◌, ℕ, zero, suc, ◌+◌, ◌^◌, eqb, ltb, length, get_or}

-- a test takes each entry of a list with its index, counted from `i`
abbrev pub every : {A : Type 0} → (ℕ → A → Bool) → ℕ → List A → Bool
every test i [] = true
every test i (x ∷ xs) = test i x && every test (suc i) xs

-- the entry in row n, column k
abbrev pub entry : List (List ℕ) → ℕ → ℕ → ℕ
entry t n k = get_or (get_or t n []) k 0

-- Pascal's rule in row n, column k: column 0 is 1; the rest of row 0 is 0; every other entry is the sum of the one above and the one
-- above to the left
abbrev pub pascal : List (List ℕ) → ℕ → ℕ → ℕ → Bool
pascal t n zero x = eqb x 1
pascal t zero (suc k) x = eqb x 0
pascal t (suc n) (suc k) x = eqb x (entry t n (suc k) + entry t n k)

-- row n has 17 entries that follow Pascal's rule; none has more than 49 bits
abbrev pub passes_row : List (List ℕ) → ℕ → List ℕ → Bool
passes_row t n row = eqb (length row) 17 && every (λ k x. pascal t n k x && ltb x (2 ^ 49)) 0 row

-- a table of 65 such rows
pub record Binomials (t : List (List ℕ)) : Type 0 where
  pub long : length t ≡ 65
  pub rows : every (passes_row t) 0 t ≡ true
