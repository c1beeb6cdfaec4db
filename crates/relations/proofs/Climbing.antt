-- Relations of numbered places, noted by climbing from each place to those above it.
use Rattle.std.specs.Prelude.{Option, None, Some}
use Rattle.std.proofs.lemmas.Option.{none-some}
use Rattle.network.specs.Found.{found}
use Prim.Native.Nat.{ℕ, zero, suc, ◌+◌, ◌*◌, ◌≤◌, ◌<◌}
use mathlib.Core.Path.{◌≡◌, refl, sym, ap, ◌∙◌}
use mathlib.Core.Bool.{Bool, true, false, not, ◌&&◌, ◌||◌, true≢false}
use mathlib.Core.Logic.{◌≢◌}
use mathlib.Core.List.{List}
use native.Mathlib.Decide.{ℕ_discrete, dec_lt}
use native.Mathlib.Omega.{arith}
use lib.Dec.{eqb, ltb}
use lib.ListN.{length, get_or, set, length-set}
use lib.Seq.{get_or-set_same, get_or-set_other}
use borrow.Author.Tests.{eq-eqb, ne_eqb, lt-ltb, le-ltb, eqb-true}
use Rattle.relations.specs.declared.Relation.{Relation}
use Rattle.relations.specs.declared.Relation.TheVariants.{Apart, Behind, Above}
use Rattle.relations.specs.Lists.{relation_at}
use Rattle.relations.specs.Climb.{Among, noted, Noted, Kept}

-- the number that there is, 0 where there is none
abbrev pub number : Option ℕ → ℕ
number None = 0
number (Some a) = a

pub number-is : (a : ℕ) → number (found a) ≡ a
number-is zero = refl
number-is (suc a) = refl

pub some-low : (a : ℕ) → Some a ≡ found a → 1 ≤ a
some-low zero h = absurd (none-some 0 (sym h))
some-low (suc a) h = omega arith

-- q is a, or above a; none is where a is 0
abbrev pub from : (ℕ → ℕ → Bool) → ℕ → ℕ → Bool
from above zero q = false
from above (suc k) q = eqb q (suc k) || above q (suc k)

pub from_is : (above : ℕ → ℕ → Bool) (a q : ℕ) → 1 ≤ a → from above a q ≡ (eqb q a || above q a)
from_is above zero q h = absurd (omega arith)
from_is above (suc a) q h = refl

-- Of n places, `above q p` says that q is above p, and `next p` is the next above p, 0 if there is none.
pub record Climb (n : ℕ) (above : ℕ → ℕ → Bool) (next height : ℕ → ℕ) : Type 0 where
  pub high : (p : ℕ) → Among n p → next p ≤ n
  pub chain : (q p : ℕ) → Among n q → Among n p → above q p ≡ from above (next p) q
  pub falls : (q p : ℕ) → Among n q → Among n p → above q p ≡ true → height q < height p
  pub over : (q a p : ℕ) → Among n q → Among n a → Among n p → above q a ≡ true → above a p ≡ true → above q p ≡ true

two : {A B : Type 0} → Dec A → Dec B → Dec (A × B)
two (yes a) (yes b) = yes (a, b)
two (yes a) (no b) = no (λ x. b x.1)
two (no a) _ = no (λ x. a x.0)

module _ (n : ℕ) (small : n ≤ 64) (p : ℕ) (i : Among n p) where
  -- tests that agree
  noted-same : (s t : ℕ → Bool) (old new : List Relation) → ((q : ℕ) → Among n q → s q ≡ t q) → Noted n s p old new → Noted n t p old new
  noted-same s t old new e h q r a b = h q r a b ∙ (λ j. noted (eqb r p && e q a j) (eqb q p && e r b j) (relation_at old q r))

  noted-none : (old : List Relation) → Noted n (λ q. false) p old old
  noted-none old q r a b = λ j. noted (none (eqb r p) j) (none (eqb q p) j) (relation_at old q r)
    where
      none : (b : Bool) → false ≡ (b && false)
      none true = refl
      none false = refl

  -- one place more
  noted_more : (test : ℕ → Bool) (a : ℕ) → Among n a → a ≢ p → (old new : List Relation) → length new ≡ 4225 → Noted n test p old new
      → Noted n (λ q. eqb q a || test q) p old (set (set new (a * 65 + p) Behind) (p * 65 + a) Above)
  noted_more test a j d old new l h q r b c = go (two (ℕ_discrete q a) (ℕ_discrete r p)) (two (ℕ_discrete q p) (ℕ_discrete r a))
    where
      was : Relation
      was = relation_at old q r

      first : List Relation
      first = set new (a * 65 + p) Behind

      -- where the first test passes, the second does not
      apart : (x y t : Bool) → (x ≡ true → y ≡ false) → (x && t) ≡ (x && (y || t))
      apart true y t e = ap (λ z. z || t) (sym (e refl))
      apart false y t e = refl

      go : Dec ((q ≡ a) × (r ≡ p)) → Dec ((q ≡ p) × (r ≡ a)) → relation_at (set first (p * 65 + a) Above) q r ≡ noted (eqb r p && (eqb q a || test q)) (eqb q p && (eqb r a || test r)) was
      go (yes e) _ =
          get_or-set_other first (p * 65 + a) (q * 65 + r) Above Apart (omega (arith, e.0, e.1))
          ∙ ap (λ k. get_or first k Apart) {x = q * 65 + r} {y = a * 65 + p} (omega (arith, e.0, e.1))
          ∙ get_or-set_same new (a * 65 + p) Behind Apart (omega arith)
          ∙ (λ k. noted (sym (eq-eqb r p e.1) k && (sym (eq-eqb q a e.0) k || test q)) (eqb q p && (eqb r a || test r)) was)
      go (no u) (yes e) =
          ap (λ k. get_or (set first (p * 65 + a) Above) k Apart) {x = q * 65 + r} {y = p * 65 + a} (omega (arith, e.0, e.1))
          ∙ get_or-set_same first (p * 65 + a) Above Apart (let m : length first ≡ 4225 = simp length-set l in omega arith)
          ∙ (λ k. noted (sym (ne_eqb r p (λ z. d (sym e.1 ∙ z))) k && (eqb q a || test q)) (sym (eq-eqb q p e.0) k && (sym (eq-eqb r a e.1) k || test r)) was)
      go (no u) (no v) =
          get_or-set_other first (p * 65 + a) (q * 65 + r) Above Apart (λ z. v (omega (arith, z), omega (arith, z)))
          ∙ get_or-set_other new (a * 65 + p) (q * 65 + r) Behind Apart (λ z. u (omega (arith, z), omega (arith, z)))
          ∙ h q r b c
          ∙ (λ k. noted (apart (eqb r p) (eqb q a) (test q) (λ x. ne_eqb q a (λ y. u (y, eqb-true r p x))) k) (apart (eqb q p) (eqb r a) (test r) (λ x. ne_eqb r a (λ y. v (eqb-true q p x, y))) k) was)

  -- which is not of row 0
  kept_more : (a : ℕ) → Among n a → (old new : List Relation) → Kept old new → Kept old (set (set new (a * 65 + p) Behind) (p * 65 + a) Above)
  kept_more a j old new h r b =
      get_or-set_other (set new (a * 65 + p) Behind) (p * 65 + a) (0 * 65 + r) Above Apart (λ z. omega (arith, z))
      ∙ get_or-set_other new (a * 65 + p) (0 * 65 + r) Behind Apart (λ z. omega (arith, z))
      ∙ h r b

ltb_next : (x p : ℕ) → ltb x (p + 1) ≡ (eqb x p || ltb x p)
ltb_next x p = go (ℕ_discrete x p) (dec_lt x p)
  where
    go : Dec (x ≡ p) → Dec (x < p) → ltb x (p + 1) ≡ (eqb x p || ltb x p)
    go (yes e) _ = lt-ltb x (p + 1) (omega arith) ∙ ap (λ b. b || ltb x p) (sym (eq-eqb x p e))
    go (no e) (yes l) = lt-ltb x (p + 1) (omega arith) ∙ (λ k. sym (ne_eqb x p e) k || sym (lt-ltb x p l) k)
    go (no e) (no l) = le-ltb x (p + 1) (omega arith) ∙ (λ k. sym (ne_eqb x p e) k || sym (le-ltb x p (omega arith)) k)

-- two tests f and g that exclude each other, noted for one number more
more : (f g x y s t : Bool) → (f ≡ true → g ≡ false) → noted (x && f) (y && g) (noted (f && s) (g && t) Apart) ≡ noted (f && (x || s)) (g && (y || t)) Apart
more true true x y s t e = absurd (true≢false (e refl))
more true false true y s t e = refl
more true false false true s t e = refl
more true false false false s t e = refl
more false true true true s t e = refl
more false true true false s t e = refl
more false true false true s t e = refl
more false true false false s t e = refl
more false false true true s t e = refl
more false false true false s t e = refl
more false false false true s t e = refl
more false false false false s t e = refl

-- ── one climb ──
-- what is noted when the climb from p is at a: the places above p, but for a and those above a
abbrev pub passed : (ℕ → ℕ → Bool) → ℕ → ℕ → ℕ → Bool
passed above p a q = above q p && not (from above a q)

pub record Climbed (n : ℕ) (above : ℕ → ℕ → Bool) (p a : ℕ) (old new : List Relation) : Type 0 where
  pub high : a ≤ n
  pub on : 1 ≤ a → above a p ≡ true
  pub noted : Noted n (passed above p a) p old new
  pub kept : Kept old new
  pub long : length new ≡ 4225

-- the relations of the places below k to those above them are noted
abbrev pub Related : ℕ → (ℕ → ℕ → Bool) → ℕ → List Relation → Type 0
Related n above k rel = (q r : ℕ) → Among n q → Among n r → relation_at rel q r ≡ noted (above q r && ltb r k) (above r q && ltb q k) Apart

-- how far the climb has to go
abbrev pub level : (ℕ → ℕ) → ℕ → ℕ
level height zero = 0
level height (suc k) = suc (height (suc k))

module _ (n : ℕ) (above : ℕ → ℕ → Bool) (next height : ℕ → ℕ) (c : Climb n above next height) where
  -- no place is above itself, nor two above each other
  pub not-both : (q p : ℕ) → Among n q → Among n p → above q p ≡ true → above p q ≡ false
  not-both q p i j h = go (above p q) refl
    where
      go : (b : Bool) → above p q ≡ b → b ≡ false
      go true g = absurd (omega (arith, c.falls q p i j h, c.falls p q j i g))
      go false g = refl

  not_own : (p : ℕ) → Among n p → above p p ≡ false
  not_own p i = go (above p p) refl
    where
      go : (b : Bool) → above p p ≡ b → b ≡ false
      go true g = absurd (omega (arith, c.falls p p i i g))
      go false g = refl

  next-above : (p : ℕ) → Among n p → 1 ≤ next p → above (next p) p ≡ true
  next-above p i h =
      c.chain (next p) p (h, c.high p i) i ∙ from_is above (next p) (next p) h ∙ ap (λ b. b || above (next p) (next p)) (eq-eqb (next p) (next p) refl)

  pub level-less : (a : ℕ) → Among n a → level height (next a) < level height a
  level-less a i = go a (next a) refl i (λ h. c.falls (next a) a (h, c.high a i) i (next-above a i h))
    where
      go : (a b : ℕ) → next a ≡ b → Among n a → (1 ≤ next a → height (next a) < height a) → level height b < level height a
      go zero b e i f = absurd (omega (arith, i.0))
      go (suc a) zero e i f = omega arith
      go (suc a) (suc b) e i f = let x = f (omega (arith, e)) in omega (arith, x, ap height e)

  module _ (small : n ≤ 64) (p : ℕ) (i : Among n p) where
    pub climb-start : (old : List Relation) → length old ≡ 4225 → Climbed n above p (next p) old old
    climb-start old l = record {
      high = c.high p i;
      on = next-above p i;
      noted = noted-same n small p i (λ q. false) (passed above p (next p)) old old (λ q j. none (above q p) ∙ ap (λ b. above q p && not b) (c.chain q p j i)) (noted-none n small p i old);
      kept = λ r h. refl;
      long = l;
    }
      where
        none : (b : Bool) → false ≡ (b && not b)
        none true = refl
        none false = refl

    pub climb-next : (a : ℕ) (old new : List Relation) → 1 ≤ a → Climbed n above p a old new → Climbed n above p (next a) old (set (set new (a * 65 + p) Behind) (p * 65 + a) Above)
    climb-next a old new h m = record {
      high = c.high a j;
      on = λ g. c.over (next a) a p (g, c.high a j) j i (next-above a j g) (m.on h);
      noted = noted-same n small p i (λ q. eqb q a || passed above p a q) (passed above p (next a)) old (set (set new (a * 65 + p) Behind) (p * 65 + a) Above) (λ q g. agree q g (ℕ_discrete q a))
          (noted_more n small p i (passed above p a) a j other old new m.long m.noted);
      kept = kept_more n small p i a j old new m.kept;
      long = simp length-set m.long;
    }
      where
        j : Among n a
        j = (h, m.high)

        other : a ≢ p
        other e = true≢false (sym (m.on h) ∙ ap (λ x. above x p) e ∙ not_own p i)

        agree : (q : ℕ) → Among n q → Dec (q ≡ a) → (eqb q a || passed above p a q) ≡ passed above p (next a) q
        agree q g (yes e) =
            ap (λ b. b || passed above p a q) (eq-eqb q a e)
            ∙ (λ k. sym (ap (λ x. above x p) e ∙ m.on h) k && not (sym (sym (c.chain q a g j) ∙ ap (λ x. above x a) e ∙ not_own a j) k))
        agree q g (no e) =
            ap (λ b. b || passed above p a q) (ne_eqb q a e)
            ∙ ap (λ b. above q p && not b) (from_is above a q h ∙ ap (λ b. b || above q a) (ne_eqb q a e) ∙ c.chain q a g j)

    pub climb-end : (old new : List Relation) → Climbed n above p 0 old new → Noted n (λ q. above q p) p old new
    climb-end old new m = noted-same n small p i (passed above p 0) (λ q. above q p) old new (λ q j. all (above q p)) m.noted
      where
        all : (b : Bool) → (b && not false) ≡ b
        all true = refl
        all false = refl

  -- ── all climbs ──
  pub related-start : (rel : List Relation) → ((k : ℕ) → get_or rel k Apart ≡ Apart) → Related n above 1 rel
  related-start rel z q r i j = z (q * 65 + r) ∙ (λ k. noted (none (above q r) r j k) (none (above r q) q i k) Apart)
    where
      none : (b : Bool) (m : ℕ) → Among n m → false ≡ (b && ltb m 1)
      none true m g = sym (le-ltb m 1 g.0)
      none false m g = refl

  pub related-next : (p : ℕ) → Among n p → (old new : List Relation) → Related n above p old → Noted n (λ q. above q p) p old new → Related n above (p + 1) new
  related-next p i old new h m q r a b =
      m q r a b
      ∙ (λ k. noted (at r (above q) k) (at q (above r) k) (h q r a b k))
      ∙ more (above q r) (above r q) (eqb r p) (eqb q p) (ltb r p) (ltb q p) (not-both q r a b)
      ∙ (λ k. noted (above q r && sym (ltb_next r p) k) (above r q && sym (ltb_next q p) k) Apart)
    where
      at : (x : ℕ) (f : ℕ → Bool) → (eqb x p && f p) ≡ (eqb x p && f x)
      at x f = go (eqb x p) refl
        where
          go : (t : Bool) → eqb x p ≡ t → (t && f p) ≡ (t && f x)
          go true e = ap f (sym (eqb-true x p e))
          go false e = refl

  pub related-all : (k : ℕ) → n < k → (rel : List Relation) → Related n above k rel → (q r : ℕ) → Among n q → Among n r → relation_at rel q r ≡ noted (above q r) (above r q) Apart
  related-all k l rel h q r i j = h q r i j ∙ (λ x. noted (all (above q r) r j x) (all (above r q) q i x) Apart)
    where
      all : (b : Bool) (m : ℕ) → Among n m → (b && ltb m k) ≡ b
      all true m g = lt-ltb m k (omega (arith, g.1))
      all false m g = refl
