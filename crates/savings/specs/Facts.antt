-- Tests, lists and ends: what the theorems share.
use Rattle.std.specs.Prelude.{Bool, true, false, ◌&&◌, ◌||◌, List, [], ◌∷◌, ◌++◌, ◌≡◌, refl, eqb}
use Rattle.std.proofs.lemmas.Bool.{false≢true}
use Rattle.std.proofs.Math.Bool.{or-true, or_assoc}
use Rattle.std.proofs.Common.{sym, ap, ◌∙◌, eqb-true, eq-eqb}
use Rattle.model.specs.Lists.{any}
use Rattle.model.specs.Paths.{End, same_end}

-- one of two tests is enough
pub or_left : (a b : Bool) → a ≡ true → (a || b) ≡ true
or_left a b h = ap (λ x. x || b) h

pub or_right : (a b : Bool) → b ≡ true → (a || b) ≡ true
or_right a b h = ap (λ x. a || x) h ∙ or-true a

-- what follows from either test follows
pub or_cases : {P : Type 0} (a b : Bool) → (a ≡ true → P) → (b ≡ true → P) → (a || b) ≡ true → P
or_cases true b f g h = f refl
or_cases false b f g h = g h

-- both tests pass
pub both : (a b : Bool) → (a && b) ≡ true → (a ≡ true) × (b ≡ true)
both true b h = (refl, h)
both false b h = absurd (false≢true h)

-- some element of two lists in a row passes a test where some element of either does
pub any_append : {A : Type 0} (test : A → Bool) (xs ys : List A) → any test (xs ++ ys) ≡ (any test xs || any test ys)
unfolding any
any_append test [] ys = refl
any_append test (x ∷ xs) ys = ap (λ b. test x || b) (any_append test xs ys) ∙ sym (or_assoc (test x) (any test xs) (any test ys))

-- a test that follows from another passes where the other does
pub any-mono : {A : Type 0} (B C : A → Bool) (xs : List A) → ((x : A) → B x ≡ true → C x ≡ true) → any B xs ≡ true → any C xs ≡ true
unfolding any
any-mono B C [] i h = h
any-mono B C (x ∷ xs) i h =
    or_cases (B x) (any B xs) (λ q. or_left (C x) (any C xs) (i x q)) (λ q. or_right (C x) (any C xs) (any-mono B C xs i q)) h

-- the test of ends is equality
pub same_end-eq : (d e : End) → same_end d e ≡ true → d ≡ e
same_end-eq d e h =
    let b = both (eqb d.line e.line) (eqb d.side e.side) h in
    λ i. record { line = eqb-true d.line e.line b.0 i; side = eqb-true d.side e.side b.1 i }

pub same_end-refl : (e : End) → same_end e e ≡ true
same_end-refl e = λ i. eq-eqb e.line e.line refl i && eq-eqb e.side e.side refl i
