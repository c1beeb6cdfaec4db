-- The defined walk over the later places, by the tests that the table of the bounds decides.
use Prim.Native.Nat.{ℕ, suc, ◌+◌, ◌-◌, ◌≤◌, ◌<◌}
use mathlib.Core.Path.{◌≡◌, refl, sym, ap, ◌∙◌}
use mathlib.Core.Bool.{Bool, true, false}
use mathlib.Core.Logic.{⊎_elim}
use mathlib.Core.List.{List, [], ◌∷◌, ◌++◌, map}
use native.Mathlib.Decide.{dec_lt}
use native.Mathlib.Omega.{arith}
use lib.Dec.{leb}
use lib.ListN.{length}
use borrow.Author.Tests.{le-leb, lt-leb}
use Rattle.model.specs.Lists.{numbers}
use Rattle.model.specs.Network.{Network}
use Rattle.model.specs.Outage.{total}
use Rattle.model.specs.Sets.{allowed, set_total, saving}
use Rattle.model.specs.Walk.{Found, largest, hopeless, extend}
use Rattle.walks.specs.Runs.{extend-spent, extend-hopeless, extend-allowed, extend-barred, on-true, on-false}
use Rattle.bounds.specs.Bounds.{places_from, most_saved}
use Rattle.search.specs.Walking.{extended, tried, Barren, Promising}

module _ (N : Network) (S : List ℕ) where
  -- the defined walk over a list of places
  abbrev walked : ℕ → List ℕ → Found → Found
  walked r later f = extend N.head.visits (λ T. set_total N T) (λ T. allowed N T) (λ p. saving N p) r S later f

  -- no more places to add, or none left
  pub none_more : (r place : ℕ) (f : Found) → r ≡ 0 → extended N r S place f ≡ f
  unfolding extend
  none_more r place f e = ap (λ k. walked k (places_from N place) f) e ∙ go (places_from N place)
    where
      go : (later : List ℕ) → walked 0 later f ≡ f
      go [] = refl
      go (q ∷ later) = refl

  pub none-later : (r place : ℕ) (f : Found) → length N.places < place → extended N r S place f ≡ f
  unfolding numbers extend
  none-later r place f h = ap (λ n. walked r (numbers place n) f) {x = length N.places + 1 - place} {y = 0} (omega arith)

  module _ (r place : ℕ) (h : place ≤ length N.places) (l : r ≡ 0 → ⊥) (f : Found) where
    abbrev bound : ℕ
    bound = most_saved N r place

    -- the place and the later ones
    split : extended N r S place f ≡ walked (suc (r - 1)) (place ∷ places_from N (place + 1)) f
    unfolding numbers
    split = λ i. walked (m i) (numbers place (n i)) f
      where
        m : r ≡ suc (r - 1)
        m = omega arith

        n : length N.places + 1 - place ≡ suc (length N.places + 1 - (place + 1))
        n = omega arith

    hopeless-is : hopeless N.head.visits (λ T. set_total N T) (λ T. allowed N T) (λ p. saving N p) (suc (r - 1)) S (place ∷ places_from N (place + 1)) f ≡ leb (f.best + bound) (set_total N S)
    unfolding hopeless numbers
    hopeless-is = λ i. leb (f.best + largest (sym m i) (map (λ p. saving N p) (numbers place (sym n i)))) (set_total N S)
      where
        m : r ≡ suc (r - 1)
        m = omega arith

        n : length N.places + 1 - place ≡ suc (length N.places + 1 - (place + 1))
        n = omega arith

    stop-spent : f.spent ≡ true → extended N r S place f ≡ f
    stop-spent e = split ∙ extend-spent N.head.visits (λ T. set_total N T) (λ T. allowed N T) (λ p. saving N p) (r - 1) S place (places_from N (place + 1)) f e

    stop-bound : f.best + bound ≤ set_total N S → extended N r S place f ≡ f
    stop-bound e = go f.spent refl
      where
        go : (b : Bool) → f.spent ≡ b → extended N r S place f ≡ f
        go true u = stop-spent u
        go false u =
            split ∙ extend-hopeless N.head.visits (λ T. set_total N T) (λ T. allowed N T) (λ p. saving N p) (r - 1) S place (places_from N (place + 1)) f u
            (hopeless-is ∙ le-leb (f.best + bound) (set_total N S) e)

    -- the place is tried, and the walk goes on with the next
    go_on : f.spent ≡ false → set_total N S < f.best + bound → extended N r S place f ≡ extended N r S (place + 1) (tried N (r - 1) S place f)
    unfolding tried
    go_on u e = split ∙ go (allowed N (S ++ (place ∷ []))) refl ∙ ap (λ k. walked k (places_from N (place + 1)) (tried N (r - 1) S place f)) {x = suc (r - 1)} {y = r} (omega arith)
      where
        hope : hopeless N.head.visits (λ T. set_total N T) (λ T. allowed N T) (λ p. saving N p) (suc (r - 1)) S (place ∷ places_from N (place + 1)) f ≡ false
        hope = hopeless-is ∙ lt-leb (f.best + bound) (set_total N S) e

        go : (b : Bool) → allowed N (S ++ (place ∷ [])) ≡ b → walked (suc (r - 1)) (place ∷ places_from N (place + 1)) f ≡ walked (suc (r - 1)) (places_from N (place + 1)) (tried N (r - 1) S place f)
        go true b =
            extend-allowed N.head.visits (λ T. set_total N T) (λ T. allowed N T) (λ p. saving N p) (r - 1) S place (places_from N (place + 1)) f u hope b
            ∙ ap (walked (suc (r - 1)) (places_from N (place + 1))) (sym (on-true _ _ b))
        go false b =
            extend-barred N.head.visits (λ T. set_total N T) (λ T. allowed N T) (λ p. saving N p) (r - 1) S place (places_from N (place + 1)) f u hope b
            ∙ ap (walked (suc (r - 1)) (places_from N (place + 1))) (sym (on-false _ _ b))

  -- a set that saves so much, where the best saves `most`
  module _ (r place : ℕ) (f : Found) {most : ℕ} (saved : ℕ) (m : most ≤ total N) (b : f.best ≡ total N - most) (s : saved + set_total N S ≡ total N) where
    -- nothing is to be gained
    pub barren : Barren N f.spent most saved place r → extended N r S place f ≡ f
    barren x = go (dec_lt (length N.places) place) (dec_lt 0 r)
      where
        go : Dec (length N.places < place) → Dec (0 < r) → extended N r S place f ≡ f
        go (yes h) _ = none-later r place f h
        go (no h) (no l) = none_more r place f (omega arith)
        go (no h) (yes l) = ⊎_elim (λ e. absurd (omega arith)) (λ y. ⊎_elim (λ e. absurd (h e)) (λ z. ⊎_elim (stop-spent r place (omega arith) (λ e. omega arith) f) (λ e. stop-bound r place (omega arith) (λ z. omega arith) f (omega arith)) z) y) x

    -- the place is tried, and the walk goes on with the next
    pub promising : Promising N f.spent most saved place r → extended N r S place f ≡ extended N r S (place + 1) (tried N (r - 1) S place f)
    promising h = go_on r place h.high h.some f h.unspent (omega (arith, h.hope))
