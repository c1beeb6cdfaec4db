-- Each place's saving.
use Prim.Native.Nat.{ℕ, zero, suc, ◌+◌, ◌-◌, ◌≤◌, ◌<◌}
use mathlib.Core.Path.{◌≡◌, refl, sym, ap, ◌∙◌}
use mathlib.Core.Logic.{inl}
use mathlib.Core.List.{List, [], ◌∷◌, ◌++◌, map}
use native.Mathlib.Omega.{arith}
use lib.ListN.{length, length-map}
use Rattle.std.specs.Prelude.{None}
use Rattle.std.proofs.lemmas.List.{map-append}
use Rattle.model.specs.Lists.{numbers}
use Rattle.model.specs.Network.{Network}
use Rattle.model.specs.Sets.{place_numbers, with_breakers, set_total, saving}
use Rattle.theory.specs.Best.{Accepted}
use Rattle.theory.specs.Sizes.{numbers-length}
use Rattle.relations.specs.declared.Relations.{Relations}
use Rattle.relations.specs.Related.{HoldsRelations}
use Rattle.starts.specs.declared.Outlook.{Outlook}
use Rattle.starts.specs.Outlook.{HoldsOutlook}
use Rattle.prospects.specs.Chosen.{Chosen, Later}
use Rattle.prospects.proofs.Outlooks.{later_of}

-- the empty set
pub chosen_none : (N : Network) (relations : Relations) → Accepted N → HoldsRelations N relations → Chosen N relations [] 0
unfolding with_breakers
chosen_none N relations a r = record { accepted = a; related = r; high = omega arith; members = tt; series = a.series }

saving-is : (N : Network) (p r : ℕ) → r + set_total N (p ∷ []) ≡ set_total N [] → r ≡ saving N p
unfolding saving set_total with_breakers
saving-is N p r e = omega arith

numbers-last : (from count : ℕ) → numbers from (suc count) ≡ numbers from count ++ ((from + count) ∷ [])
unfolding numbers
numbers-last from zero = ap (λ n. n ∷ []) (omega arith)
numbers-last from (suc count) = ap (λ ns. from ∷ ns) (numbers-last (from + 1) count ∙ ap (λ n. numbers (from + 1) count ++ (n ∷ [])) {x = from + 1 + count} {y = from + suc count} (omega arith))

-- the savings of the places before one
abbrev pub Saved : Network → ℕ → List ℕ → Type 0
Saved N place savings = savings ≡ map (λ p. saving N p) (numbers 1 (place - 1))

module _ (N : Network) where
  pub saved_none : Saved N 1 []
  unfolding numbers
  saved_none = refl

  module _ (place : ℕ) (savings : List ℕ) (s : Saved N place savings) (low : 1 ≤ place) where
    pub saved-few : place ≤ length N.places → length N.places ≤ 64 → length savings < 64
    saved-few h f = omega (arith, ap length s, length-map (numbers 1 (place - 1)) (λ p. saving N p), numbers-length 1 (place - 1))

    pub next-later : place ≤ length N.places → (relations : Relations) (outlook : Outlook) → Accepted N → HoldsRelations N relations → HoldsOutlook N [] 1 outlook → Later N relations outlook [] None place
    next-later h relations outlook a r l = later_of (chosen_none N relations a r) (inl (refl, l)) place (omega arith) h

    pub saved_more : (v : ℕ) → v + set_total N (place ∷ []) ≡ set_total N [] → Saved N (place + 1) (savings ++ (v ∷ []))
    saved_more v e =
        let f : ℕ → ℕ = λ p. saving N p in
        (λ i. s i ++ ((saving-is N place v e ∙ ap f {x = place} {y = 1 + (place - 1)} (omega arith)) i ∷ []))
        ∙ sym (map-append f (numbers 1 (place - 1)) ((1 + (place - 1)) ∷ []))
        ∙ ap (map f) (sym (numbers-last 1 (place - 1)))
        ∙ ap (λ n. map f (numbers 1 n)) {x = suc (place - 1)} {y = place + 1 - 1} (omega arith)

  pub saved_all : (place : ℕ) (savings : List ℕ) → Saved N place savings → place ≡ length N.places + 1 → savings ≡ map (λ p. saving N p) (place_numbers N)
  unfolding place_numbers
  saved_all place savings s e = s ∙ ap (λ n. map (λ p. saving N p) (numbers 1 n)) {x = place - 1} {y = length N.places} (omega (arith, e))
