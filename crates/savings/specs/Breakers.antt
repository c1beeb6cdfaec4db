-- Breakers added at places on closed ends: the shape stays, and the breakers are those that were there and those added.
use Prim.Native.Nat.{ℕ, zero, suc}
use Rattle.std.specs.Prelude.{Bool, ◌&&◌, ◌||◌, List, [], ◌∷◌, ◌++◌, ◌≡◌, length, set}
use Rattle.std.proofs.Math.Bool.{true, false, or-true, or-false, or_assoc}
use Rattle.std.proofs.Common.{true≢false, sym, ap, ◌∙◌, subst, arith, eqb-true, ne_eqb, ltb-true, ltb-false}
use Rattle.std.proofs.Math.Path.{refl}
use Rattle.std.proofs.Math.ListN.{get_or, length-set, get_or-eq_default}
use Rattle.std.proofs.Math.Seq.{get_or-set_same, get_or-set_other}
use Rattle.std.proofs.Math.Dec.{ltb, eqb}
use Rattle.std.proofs.lemmas.Bool.{eqb-false}
use Rattle.model.specs.Lists.{any, numbered, renumbered}
use Rattle.model.specs.Network.{Network, Line, Place, no_line, state_at}
use Rattle.model.specs.Paths.{End, same_end, state, station_at, is_open, is_breaker}
use Rattle.model.specs.Sets.{place_at, line_with_breaker, with_breaker, with_breakers}
use Rattle.savings.specs.Facts.{same_end-eq}
use Rattle.savings.specs.Shape.{Same, same_refl, same-trans, place_at-same}

-- the end that a place is on
abbrev pub end_of : Place → End
end_of p = record { line = p.line; side = p.side }

abbrev pub end_at : Network → ℕ → End
end_at N p = end_of (place_at N p)

-- every place of a set is on an end that is not open
abbrev pub Valid : Network → List ℕ → Type 0
Valid N [] = Unit {0}
Valid N (p ∷ S) = (is_open N (end_at N p) ≡ false) × Valid N S

pub valid-left : (N : Network) (S T : List ℕ) → Valid N (S ++ T) → Valid N S
valid-left N [] T v = tt
valid-left N (p ∷ S) T v = (v.0, valid-left N S T v.1)

pub valid-right : (N : Network) (S T : List ℕ) → Valid N (S ++ T) → Valid N T
valid-right N [] T v = v
valid-right N (p ∷ S) T v = valid-right N S T v.1

pub valid-append : (N : Network) (S T : List ℕ) → Valid N S → Valid N T → Valid N (S ++ T)
valid-append N [] T u v = v
valid-append N (p ∷ S) T u v = (u.0, valid-append N S T u.1 v)

pub valid_same : (M N : Network) → Same M N → (S : List ℕ) → Valid N S → Valid M S
valid_same M N s [] v = tt
valid_same M N s (p ∷ S) v = ((λ i. s.opens (end_of (place_at-same M N s p i)) i) ∙ v.0, valid_same M N s S v.1)

-- the state that a test chooses: a breaker, or what it was
abbrev breaker_if : Bool → ℕ → ℕ
breaker_if b n = elim b [ true ↦ 1 | false ↦ n ]

-- the states of a line with a breaker at a side that is not open
state_at-with : (s t : ℕ) (l : Line) → eqb (state_at l s) 2 ≡ false → state_at (line_with_breaker s l) t ≡ breaker_if (eqb t s) (state_at l t)
unfolding state_at line_with_breaker
state_at-with zero t l h = absurd (true≢false h)
state_at-with (suc zero) zero l h = refl
state_at-with (suc zero) (suc zero) l h = refl
state_at-with (suc zero) (suc (suc zero)) l h = refl
state_at-with (suc zero) (suc (suc (suc n))) l h = ap (λ b. breaker_if b 2) (sym (ne_eqb _ _ (λ (q : suc (suc (suc n)) ≡ 1). omega arith)))
state_at-with (suc (suc zero)) zero l h = refl
state_at-with (suc (suc zero)) (suc zero) l h = refl
state_at-with (suc (suc zero)) (suc (suc zero)) l h = refl
state_at-with (suc (suc zero)) (suc (suc (suc n))) l h = ap (λ b. breaker_if b 2) (sym (ne_eqb _ _ (λ (q : suc (suc (suc n)) ≡ 2). omega arith)))
state_at-with (suc (suc (suc n))) t l h = absurd (true≢false h)

-- every end of a line that is not there is open
pub no_line-open : (s : ℕ) → eqb (state_at no_line s) 2 ≡ true
unfolding state_at
no_line-open zero = refl
no_line-open (suc zero) = refl
no_line-open (suc (suc zero)) = refl
no_line-open (suc (suc (suc n))) = refl

-- the lines with `x` as line number k
module _ (ls : List Line) (x : Line) where
  renumbered-length : (k : ℕ) → length (renumbered ls k x) ≡ length ls
  unfolding renumbered
  renumbered-length zero = refl
  renumbered-length (suc k) = length-set ls k x

  renumbered-other : (k j : ℕ) → (j ≡ k → ⊥) → numbered no_line (renumbered ls k x) j ≡ numbered no_line ls j
  unfolding renumbered numbered
  renumbered-other zero j h = refl
  renumbered-other (suc k) zero h = refl
  renumbered-other (suc k) (suc j) h = get_or-set_other ls k j x no_line (λ q. h (ap suc q))

  renumbered-here : (k s : ℕ) → eqb (state_at (numbered no_line ls k) s) 2 ≡ false → numbered no_line (renumbered ls k x) k ≡ x
  unfolding renumbered numbered
  renumbered-here zero s h = absurd (true≢false (sym (no_line-open s) ∙ h))
  renumbered-here (suc k) s h = go (ltb k (length ls)) refl
    where
      go : (b : Bool) → ltb k (length ls) ≡ b → get_or (set ls k x) k no_line ≡ x
      go true q = get_or-set_same ls k x no_line (ltb-true k (length ls) q)
      go false q = absurd (true≢false (sym (ap (λ l. eqb (state_at l s) 2) (get_or-eq_default ls no_line (ltb-false k (length ls) q)) ∙ no_line-open s) ∙ h))

-- a breaker at a place on an end that is not open
module _ (N : Network) (p : Place) (h : is_open N (end_of p) ≡ false) where
  -- what holds of the line with the breaker, and of a line that stays, holds of each line
  each_line : (P : Bool → Line → Line → Type 0) → P true (line_with_breaker p.side (numbered no_line N.lines p.line)) (numbered no_line N.lines p.line)
      → ((l : Line) → P false l l) → (j : ℕ) → P (eqb j p.line) (numbered no_line (with_breaker N p).lines j) (numbered no_line N.lines j)
  unfolding with_breaker state
  each_line P a b j = go (eqb j p.line) refl
    where
      old : ℕ → Line
      old k = numbered no_line N.lines k

      new : ℕ → Line
      new k = numbered no_line (renumbered N.lines p.line (line_with_breaker p.side (old p.line))) k

      go : (t : Bool) → eqb j p.line ≡ t → P t (new j) (old j)
      go true q = subst (λ k. P true (new k) (old k)) (sym (eqb-true j p.line q))
          (subst (λ l. P true l (old p.line)) (sym (renumbered-here N.lines _ p.line p.side h)) a)
      go false q = subst (λ l. P false l (old j)) (sym (renumbered-other N.lines _ p.line j (eqb-false j p.line q))) (b (old j))

  -- the state of each end
  state-with : (e : End) → state (with_breaker N p) e ≡ breaker_if (same_end e (end_of p)) (state N e)
  unfolding state
  state-with e = each_line (λ b x y. state_at x e.side ≡ breaker_if (b && eqb e.side p.side) (state_at y e.side))
      (state_at-with p.side e.side (numbered no_line N.lines p.line) h) (λ l. refl) e.line

  with_breaker-opens : (e : End) → is_open (with_breaker N p) e ≡ is_open N e
  with_breaker-opens e = ap (λ n. eqb n 2) (state-with e) ∙ go (same_end e (end_of p)) refl
    where
      go : (b : Bool) → same_end e (end_of p) ≡ b → eqb (breaker_if b (state N e)) 2 ≡ is_open N e
      go true q = sym (ap (λ d. is_open N d) (same_end-eq e (end_of p) q) ∙ h)
      go false q = refl

  with_breaker-breaker : (e : End) → is_breaker (with_breaker N p) e ≡ (is_breaker N e || same_end e (end_of p))
  with_breaker-breaker e = ap (λ n. eqb n 1) (state-with e) ∙ go (same_end e (end_of p))
    where
      go : (b : Bool) → eqb (breaker_if b (state N e)) 1 ≡ (is_breaker N e || b)
      go true = sym (or-true (is_breaker N e))
      go false = sym (or-false (is_breaker N e))

  with_breaker-same : Same (with_breaker N p) N
  unfolding station_at with_breaker line_with_breaker
  with_breaker-same = record {
    head = refl;
    stations = refl;
    places = refl;
    line_count = renumbered-length N.lines _ p.line;
    weight = each_line (λ b x y. x.weight ≡ y.weight) refl (λ l. refl);
    opens = with_breaker-opens;
    station_of = λ e i. elim (eqb e.side 1) [
      | true ↦ each_line (λ b x y. x.from ≡ y.from) refl (λ l. refl) e.line i
      | false ↦ each_line (λ b x y. x.to ≡ y.to) refl (λ l. refl) e.line i
    ];
  }

pub with_breakers-same : (S : List ℕ) (N : Network) → Valid N S → Same (with_breakers N S) N
unfolding with_breakers
with_breakers-same [] N v = same_refl N
with_breakers-same (p ∷ S) N v =
    let s : Same (with_breaker N (place_at N p)) N = with_breaker-same N (place_at N p) v.0 in
    same-trans _ _ _ (with_breakers-same S (with_breaker N (place_at N p)) (valid_same _ _ s S v.1)) s

-- a breaker of the network with a set's breakers is one that was there, or at a place of the set
pub with_breakers-breaker : (S : List ℕ) (N : Network) → Valid N S → (e : End) → is_breaker (with_breakers N S) e ≡ (is_breaker N e || any (λ p. same_end e (end_at N p)) S)
unfolding with_breakers any
with_breakers-breaker [] N v e = sym (or-false (is_breaker N e))
with_breakers-breaker (p ∷ S) N v e =
    let s : Same (with_breaker N (place_at N p)) N = with_breaker-same N (place_at N p) v.0 in
    with_breakers-breaker S (with_breaker N (place_at N p)) (valid_same _ _ s S v.1) e
    ∙ (λ i. with_breaker-breaker N (place_at N p) v.0 e i || any (λ q. same_end e (end_of (place_at-same _ _ s q i))) S)
    ∙ or_assoc (is_breaker N e) (same_end e (end_at N p)) (any (λ q. same_end e (end_at N q)) S)

pub with_breakers-append : (S T : List ℕ) (N : Network) → with_breakers N (S ++ T) ≡ with_breakers (with_breakers N S) T
unfolding with_breakers
with_breakers-append [] T N = refl
with_breakers-append (p ∷ S) T N = with_breakers-append S T (with_breaker N (place_at N p))
