-- Lists: what the definitions below share.
use Rattle.std.specs.Prelude.{ℕ, zero, suc, ◌+◌, Bool, true, false, ◌&&◌, ◌||◌, List, [], ◌∷◌, get_or, set}

-- the sum of a list of numbers
unfoldable pub sum : List ℕ → ℕ
sum [] = 0
sum (x ∷ xs) = x + sum xs

-- `count` numbers, the first of them `from`
unfoldable pub numbers : ℕ → ℕ → List ℕ
numbers from zero = []
numbers from (suc count) = from ∷ numbers (from + 1) count

module _ {A : Type 0} where
  -- some element passes the test
  unfoldable pub any : (A → Bool) → List A → Bool
  any test [] = false
  any test (x ∷ xs) = test x || any test xs

  -- every element passes the test
  unfoldable pub all : (A → Bool) → List A → Bool
  all test [] = true
  all test (x ∷ xs) = test x && all test xs

  -- the elements that pass the test
  unfoldable pub keep : (A → Bool) → List A → List A
  keep test [] = []
  keep test (x ∷ xs) = elim (test x) [ true ↦ x ∷ keep test xs | false ↦ keep test xs ]

  -- the first element that passes the test; `other` where there is none
  unfoldable pub first_or : A → (A → Bool) → List A → A
  first_or other test [] = other
  first_or other test (x ∷ xs) = elim (test x) [ true ↦ x | false ↦ first_or other test xs ]

  -- element number k of a list whose first element is number 1; `other` where there is none
  unfoldable pub numbered : A → List A → ℕ → A
  numbered other xs zero = other
  numbered other xs (suc k) = get_or xs k other

  -- the list with `x` as its element number k
  unfoldable pub renumbered : List A → ℕ → A → List A
  renumbered xs zero x = xs
  renumbered xs (suc k) x = set xs k x
