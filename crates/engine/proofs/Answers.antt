-- What a call answers of a file, by whether the file is accepted.
use Rattle.std.specs.Prelude.{◌≡◌, ℕ, ◌≤◌, ◌<◌, ◌⊎◌, Bool, true, false, ◌&&◌, List, length, leb}
use Rattle.std.proofs.Common.{sym, ap, ◌∙◌, inl, inr}
use Rattle.std.proofs.Math.Bool.{and-false}
use borrow.Author.Tests.{le-leb, lt-leb}
use Rattle.model.specs.Answer.{Answer, given, refused, ◌>>=◌, refuse_number}
use Rattle.model.specs.Network.{Network}
use Rattle.model.specs.Outage.{impact, total, figure}
use Rattle.model.specs.Rules.{accepted}
use Rattle.model.specs.Calls.{checked, impact_of, impact_answered, totalled}

-- what Impact answers of an accepted network, by whether the number is a line's
by-test : (N : Network) (l : ℕ) {inside : Bool} → (leb 1 l && leb l (length N.lines)) ≡ inside → impact_of l N ≡ (elim inside as (λ x. Answer ℕ) [ true ↦ given (impact N l) | false ↦ refuse_number ])
unfolding impact_of
by-test N l e = ap (λ inside. elim inside as (λ x. Answer ℕ) [ true ↦ given (impact N l) | false ↦ refuse_number ]) e

impact-inside : (N : Network) (l : ℕ) → 1 ≤ l → l ≤ length N.lines → impact_of l N ≡ given (impact N l)
impact-inside N l a b = by-test N l (λ i. le-leb 1 l a i && le-leb l (length N.lines) b i)

impact-outside : (N : Network) (l : ℕ) → (l < 1) ⊎ (length N.lines < l) → impact_of l N ≡ refused 2 0
impact-outside N l (inl h) = by-test N l (λ i. lt-leb 1 l h i && leb l (length N.lines))
impact-outside N l (inr h) = by-test N l (ap (λ x. leb 1 l && x) (lt-leb l (length N.lines) h) ∙ and-false (leb 1 l))

module _ (file : List ℕ) where
  -- a file that is refused is refused whatever comes next
  pub refused-on : {A : Type 0} {n i : ℕ} (next : Network → Answer A) → refused n i ≡ accepted file → refused n i ≡ (accepted file >>= next)
  refused-on next e = ap (λ a. a >>= next) e

  -- of one that is accepted, what comes next is answered
  pub given-on : {A : Type 0} {N : Network} (next : Network → Answer A) → given N ≡ accepted file → next N ≡ (accepted file >>= next)
  given-on next e = ap (λ a. a >>= next) e

  pub check-refused : {n i : ℕ} → refused n i ≡ accepted file → refused n i ≡ checked file
  unfolding checked
  check-refused e = refused-on (λ N. given tt) e

  pub check-given : {N : Network} → given N ≡ accepted file → given tt ≡ checked file
  unfolding checked
  check-given e = given-on (λ N. given tt) e

  pub impact-refused : {n i : ℕ} (l : ℕ) → refused n i ≡ accepted file → refused n i ≡ impact_answered file l
  unfolding impact_answered
  impact-refused l e = refused-on (impact_of l) e

  pub impact-given : {N : Network} (l n : ℕ) → given N ≡ accepted file → 1 ≤ l → l ≤ length N.lines → n ≡ impact N l → given n ≡ impact_answered file l
  unfolding impact_answered
  impact-given {N} l n e low high i = ap (λ x. given x) i ∙ sym (impact-inside N l low high) ∙ given-on (impact_of l) e

  pub impact-none : {N : Network} (l : ℕ) → given N ≡ accepted file → (l < 1) ⊎ (length N.lines < l) → refused 2 0 ≡ impact_answered file l
  unfolding impact_answered
  impact-none {N} l e o = sym (impact-outside N l o) ∙ given-on (impact_of l) e

  pub total-refused : {n i : ℕ} → refused n i ≡ accepted file → refused n i ≡ totalled file
  unfolding totalled
  total-refused e = refused-on (λ N. given (record { total = total N; figure = figure N })) e

  pub total-given : {N : Network} (t g : ℕ) → given N ≡ accepted file → t ≡ total N → g ≡ figure N → given (record { total = t; figure = g }) ≡ totalled file
  unfolding totalled
  total-given t g e p q = (λ i. given (record { total = p i; figure = q i })) ∙ given-on (λ N. given (record { total = total N; figure = figure N })) e
