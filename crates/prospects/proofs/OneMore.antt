-- One more member of a set: how a later place's upstream breaker, its weight and the breakers in series with it change.
use Prim.Native.Nat.{ℕ, ◌+◌, ◌≤◌, ◌<◌, max}
use mathlib.Core.Path.{◌≡◌, refl, sym, ap, ◌∙◌}
use mathlib.Core.Bool.{Bool, true, false, ◌&&◌, true≢false}
use mathlib.Core.List.{List, [], ◌∷◌, ◌++◌}
use native.Mathlib.Omega.{arith}
use lib.ListN.{length}
use Rattle.model.specs.Network.{Network}
use Rattle.model.specs.Paths.{End, same_end, is_open}
use Rattle.graphs.specs.Sum.{on}
use Rattle.savings.specs.Facts.{same_end-eq, same_end-refl}
use Rattle.savings.specs.First.{this}
use Rattle.savings.specs.Breakers.{end_at, Valid}
use Rattle.savings.specs.Totals.{breakers_with}
use Rattle.theory.specs.Best.{Accepted}
use Rattle.sets.specs.Ways.{has, has-onward}
use Rattle.sets.specs.Onward.{onward, way-onward}
use Rattle.sets.specs.Sets.{upstream_at, weight_at, in_series_at, under_at, set-in-series}
use Rattle.sets.proofs.Sets.{set-upstream, set-weight}
use Rattle.sets.specs.Apart.{ends-apart}
use Rattle.relations.specs.declared.Relation.{Relation}
use Rattle.relations.specs.declared.Relation.TheVariants.{Apart, Behind, Above}
use Rattle.relations.specs.Related.{relation}
use Rattle.starts.proofs.OnEnds.{place_in}
use Rattle.prospects.specs.Chosen.{Before}
use Rattle.prospects.proofs.Upstream.{end-closed, before-valid, before-free, onward-once}

pub before-later : (q r : ℕ) (S : List ℕ) → q ≤ r → Before q S → Before r S
before-later q r [] h b = tt
before-later q r (p ∷ S) h b = ((b.0.0, omega (arith, b.0.1)), before-later q r S h b.1)

-- how a place p stands to another q, where s says that q is on the path onward from p, and t that p is on the one from q
data Stands (k : Relation) (s t : Bool) : Type 0 where
  behind : k ≡ Behind → s ≡ true → t ≡ false → Stands k s t
  above : k ≡ Above → s ≡ false → t ≡ true → Stands k s t
  apart : k ≡ Apart → s ≡ false → t ≡ false → Stands k s t

-- no two of the relations are the same
abbrev pub nth : Relation → ℕ
nth Apart = 0
nth Behind = 1
nth Above = 2

-- one more place after the members of a set
module _ (N : Network) (a : Accepted N) (U : List ℕ) (last : ℕ) (low : 1 ≤ last) (before : Before last U) (p : ℕ) (after : last < p) (high : p ≤ length N.places) where
  abbrev e : End
  e = end_at N last

  abbrev d : End
  d = end_at N p

  valid : Valid N U
  valid = before-valid N a last (omega arith) U before

  e-closed : is_open N e ≡ false
  e-closed = end-closed N a last low (omega arith)

  d-closed : is_open N d ≡ false
  d-closed = end-closed N a p (omega arith) high

  e-free : breakers_with N U e ≡ false
  e-free = before-free N a last low (omega arith) U before

  d-free : breakers_with N U d ≡ false
  d-free = before-free N a p (omega arith) high U (before-later last p U (omega arith) before)

  stands : Stands (relation N last p) (has e (onward N d)) (has d (onward N e))
  unfolding relation
  stands = go (has e (onward N d)) (has d (onward N e)) refl refl
    where
      go : (s t : Bool) → has e (onward N d) ≡ s → has d (onward N e) ≡ t → Stands (elim s as (λ b. Relation) [ true ↦ Behind | false ↦ elim t as (λ b. Relation) [ true ↦ Above | false ↦ Apart ] ]) s t
      go true true h k = absurd (true≢false (sym (has-onward (onward N) e d (onward N d) (way-onward N a.read a.rules d d-closed) h k) ∙ onward-once N a d d-closed))
      go true false h k = behind refl refl refl
      go false true h k = above refl refl refl
      go false false h k = apart refl refl refl

  -- one is under the other where it is behind it and they have the same upstream breaker
  under-yes : (b c : End) → has c (onward N b) ≡ true → upstream_at N U b ≡ upstream_at N U c → under_at N U b c ≡ true
  under-yes b c h k = λ i. h i && (ap (λ n. same_end (upstream_at N U b) n) (sym k) ∙ same_end-refl (upstream_at N U b)) i

  under-no : (b c : End) (t : Bool) → has c (onward N b) ≡ t → (t ≡ true → upstream_at N U b ≡ upstream_at N U c → ⊥) → under_at N U b c ≡ false
  under-no b c t h n = ap (λ s. s && same_end (upstream_at N U b) (upstream_at N U c)) h ∙ go t (same_end (upstream_at N U b) (upstream_at N U c)) refl n
    where
      go : (t s : Bool) → same_end (upstream_at N U b) (upstream_at N U c) ≡ s → (t ≡ true → upstream_at N U b ≡ upstream_at N U c → ⊥) → (t && s) ≡ false
      go true true q n = absurd (n refl (same_end-eq (upstream_at N U b) (upstream_at N U c) q))
      go true false q n = refl
      go false s q n = refl

  upstream-step : upstream_at N (U ++ (last ∷ [])) d ≡ this (under_at N U d e) e (upstream_at N U d)
  upstream-step = set-upstream N a.read a.rules U valid last e-closed e-free d d-closed

  pub upstream-new : relation N last p ≡ Behind → upstream_at N U d ≡ upstream_at N U e → upstream_at N (U ++ (last ∷ [])) d ≡ e
  upstream-new r c = upstream-step ∙ ap (λ b. this b e (upstream_at N U d)) (go stands)
    where
      go : Stands (relation N last p) (has e (onward N d)) (has d (onward N e)) → under_at N U d e ≡ true
      go (behind k s t) = under-yes d e s c
      go (above k s t) = absurd (omega (arith, ap nth r, ap nth k))
      go (apart k s t) = absurd (omega (arith, ap nth r, ap nth k))

  pub upstream-old : (relation N last p ≡ Behind → upstream_at N U d ≡ upstream_at N U e → ⊥) → upstream_at N (U ++ (last ∷ [])) d ≡ upstream_at N U d
  upstream-old n = upstream-step ∙ ap (λ b. this b e (upstream_at N U d)) (go stands)
    where
      go : Stands (relation N last p) (has e (onward N d)) (has d (onward N e)) → under_at N U d e ≡ false
      go (behind k s t) = under-no d e true s (λ _. n k)
      go (above k s t) = under-no d e false s (λ z. absurd (true≢false (sym z)))
      go (apart k s t) = under-no d e false s (λ z. absurd (true≢false (sym z)))

  weight-step : weight_at N (U ++ (last ∷ [])) d + on (under_at N U e d) (weight_at N U e) ≡ weight_at N U d
  weight-step = set-weight N a.read a.rules U valid last e-closed e-free d d-free

  pub weight-less : relation N last p ≡ Above → upstream_at N U d ≡ upstream_at N U e → weight_at N (U ++ (last ∷ [])) d + weight_at N U e ≡ weight_at N U d
  weight-less r c = ap (λ b. weight_at N (U ++ (last ∷ [])) d + on b (weight_at N U e)) (sym (go stands)) ∙ weight-step
    where
      go : Stands (relation N last p) (has e (onward N d)) (has d (onward N e)) → under_at N U e d ≡ true
      go (behind k s t) = absurd (omega (arith, ap nth r, ap nth k))
      go (above k s t) = under-yes e d t (sym c)
      go (apart k s t) = absurd (omega (arith, ap nth r, ap nth k))

  pub weight-same : (relation N last p ≡ Above → upstream_at N U d ≡ upstream_at N U e → ⊥) → weight_at N (U ++ (last ∷ [])) d ≡ weight_at N U d
  weight-same n = omega (arith, weight-step, ap (λ b. on b (weight_at N U e)) (go stands))
    where
      go : Stands (relation N last p) (has e (onward N d)) (has d (onward N e)) → under_at N U e d ≡ false
      go (behind k s t) = under-no e d false t (λ z. absurd (true≢false (sym z)))
      go (above k s t) = under-no e d true t (λ _ c. n k (sym c))
      go (apart k s t) = under-no e d false t (λ z. absurd (true≢false (sym z)))

  -- the most breakers in series, by how the places stand to each other
  abbrev in-series-by : Bool → Bool → ℕ
  in-series-by s t = this s (in_series_at N U d + 1) (this t (max (in_series_at N U d) (in_series_at N U e + 1)) (in_series_at N U d))

  in-series-step : (s t : Bool) → has e (onward N d) ≡ s → has d (onward N e) ≡ t → in_series_at N (U ++ (last ∷ [])) d ≡ in-series-by s t
  in-series-step s t h k =
      set-in-series N a.read a.rules U valid last e-closed e-free d d-closed (λ q. omega (arith, ends-apart N a p last (place_in N p (omega arith) high) (place_in N last low (omega arith)) q))
      ∙ (λ i. in-series-by (h i) (k i))

  pub in-series-behind : relation N last p ≡ Behind → in_series_at N (U ++ (last ∷ [])) d ≡ in_series_at N U d + 1
  in-series-behind r = go stands
    where
      go : Stands (relation N last p) (has e (onward N d)) (has d (onward N e)) → in_series_at N (U ++ (last ∷ [])) d ≡ in_series_at N U d + 1
      go (behind k s t) = in-series-step true false s t
      go (above k s t) = absurd (omega (arith, ap nth r, ap nth k))
      go (apart k s t) = absurd (omega (arith, ap nth r, ap nth k))

  pub in-series-above : relation N last p ≡ Above → in_series_at N (U ++ (last ∷ [])) d ≡ max (in_series_at N U d) (in_series_at N U e + 1)
  in-series-above r = go stands
    where
      go : Stands (relation N last p) (has e (onward N d)) (has d (onward N e)) → in_series_at N (U ++ (last ∷ [])) d ≡ max (in_series_at N U d) (in_series_at N U e + 1)
      go (behind k s t) = absurd (omega (arith, ap nth r, ap nth k))
      go (above k s t) = in-series-step false true s t
      go (apart k s t) = absurd (omega (arith, ap nth r, ap nth k))

  pub in-series-apart : (relation N last p ≡ Behind → ⊥) → (relation N last p ≡ Above → ⊥) → in_series_at N (U ++ (last ∷ [])) d ≡ in_series_at N U d
  in-series-apart m n = go stands
    where
      go : Stands (relation N last p) (has e (onward N d)) (has d (onward N e)) → in_series_at N (U ++ (last ∷ [])) d ≡ in_series_at N U d
      go (behind k s t) = absurd (m k)
      go (above k s t) = absurd (n k)
      go (apart k s t) = in-series-step false false s t
