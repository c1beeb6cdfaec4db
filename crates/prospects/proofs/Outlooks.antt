-- What the outlook says of a place after the last member of the chosen set.
use Prim.Native.Nat.{ℕ, ◌+◌, ◌≤◌, ◌<◌, max}
use mathlib.Core.Path.{◌≡◌, sym, ap, ◌∙◌}
use mathlib.Core.Logic.{inl, inr, ⊎_elim}
use mathlib.Core.Bool.{Bool, true, false, true≢false}
use mathlib.Core.List.{List}
use native.Mathlib.Omega.{arith}
use denote.Enum.Bare.{sameb, same_true, same_false}
use lib.ListN.{length}
use Rattle.std.specs.Prelude.{Option, None, Some}
use Rattle.std.specs.Option.{unwrap_or}
use Rattle.std.proofs.lemmas.Option.{none-some}
use Rattle.model.specs.Network.{Network}
use Rattle.model.specs.Paths.{End, same_end}
use Rattle.model.specs.Outage.{path_to_hv}
use Rattle.graphs.specs.Tree.{count_of}
use Rattle.savings.specs.Facts.{same_end-eq, same_end-refl}
use Rattle.savings.specs.Breakers.{end_at, Valid}
use Rattle.savings.specs.Totals.{breakers_with}
use Rattle.theory.specs.Behind.{vertices}
use Rattle.sets.specs.Ways.{has}
use Rattle.sets.specs.InSeries.{most-less}
use Rattle.sets.specs.Sets.{upstream_at, weight_at, in_series_at, series-set}
use Rattle.relations.specs.declared.Relation.{Relation}
use Rattle.relations.specs.declared.Relation.TheVariants.{Apart, Behind, Above}
use Rattle.relations.specs.contracts.Relation.{the_type}
use Rattle.relations.specs.declared.Relations.{Relations}
use Rattle.relations.specs.Related.{relation, between_in}
use Rattle.starts.specs.declared.Prospect.{Prospect}
use Rattle.starts.specs.declared.Outlook.{Outlook}
use Rattle.starts.specs.Outlook.{Values, prospect_of}
use Rattle.prospects.specs.Chosen.{Chosen, Without, Pending, Later}
use Rattle.prospects.proofs.Upstream.{before-valid}
use Rattle.prospects.proofs.OneMore.{nth, upstream-new, upstream-old, weight-less, weight-same, in-series-behind, in-series-above, in-series-apart}

module _ {N : Network} {relations : Relations} {S : List ℕ} {last : ℕ} (x : Chosen N relations S last) where
  pub chosen-valid : Valid N S
  chosen-valid = before-valid N x.accepted (last + 1) (omega (arith, x.high)) S x.members

  -- no more than `series` breakers are in series with any end
  in-series-few : (e : End) → in_series_at N S e ≤ 8
  in-series-few e = omega (
    arith,
    x.accepted.read.head.series.high,
    most-less (λ v. has e (path_to_hv N v)) (λ v. count_of (breakers_with N S) (path_to_hv N v)) (N.head.series + 1) (omega arith) (vertices N)
        (λ v m h. omega (arith, (series-set N x.accepted.read x.accepted.rules S chosen-valid).0 x.series v m)),
  )

  -- a later place
  pub later_of : {outlook : Outlook} {pending : Option ℕ} → Pending N outlook S last pending → (p : ℕ) → last < p → p ≤ length N.places → Later N relations outlook S pending p
  later_of l p a b = record {
    last = last;
    chosen = x;
    low = a;
    high = b;
    values = ⊎_elim (λ s. inl (s.0, s.1 p (omega arith) b)) (λ s. inr (s.0, s.1, s.2 last (omega arith) x.high, s.2 p (omega arith) b)) l;
  }

some-same : {a b : ℕ} → Some a ≡ Some b → a ≡ b
some-same e = ap (λ o. unwrap_or o 0) e

some-none : {a : ℕ} → Some a ≡ None → ⊥
some-none {a} e = none-some a (sym e)

module _ {N : Network} {relations : Relations} {outlook : Outlook} {S : List ℕ} {pending : Option ℕ} {p : ℕ} (y : Later N relations outlook S pending p) where
  abbrev x : Chosen N relations S y.last
  x = y.chosen

  abbrev last : ℕ
  last = y.last

  abbrev d : End
  d = end_at N p

  -- the last member is not in the outlook yet
  module _ {q : ℕ} (z : pending ≡ Some q) where
    lastly : (q ≡ last) × (w : Without S last) × Values N w.rest last outlook × Values N w.rest p outlook
    lastly = ⊎_elim (λ s. absurd (some-none (sym z ∙ s.0))) (λ s. (some-same (sym z ∙ s.0), s.1, s.2, s.3)) y.values

    abbrev w : Without S last
    w = lastly.1

    abbrev v : Values N w.rest last outlook
    v = lastly.2

    abbrev u : Values N w.rest p outlook
    u = lastly.3

    related-is : between_in relations q p ≡ relation N last p
    related-is = ap (λ r. between_in relations r p) lastly.0 ∙ x.related.each last p w.low x.high (omega (arith, y.low)) y.high

    -- the place and the last member have the same upstream breaker
    abbrev Alike : Type 0
    Alike = (prospect_of outlook p).upstream ≡ (prospect_of outlook q).upstream

    alike : Alike → upstream_at N w.rest d ≡ upstream_at N w.rest (end_at N last)
    alike c = sym u.upstream ∙ c ∙ ap (λ r. (prospect_of outlook r).upstream) lastly.0 ∙ v.upstream

    alike-back : upstream_at N w.rest d ≡ upstream_at N w.rest (end_at N last) → Alike
    alike-back c = u.upstream ∙ c ∙ sym v.upstream ∙ ap (λ r. (prospect_of outlook r).upstream) (sym lastly.0)

    -- and the place stands so to the last member
    abbrev Meets : Relation → Type 0
    Meets k = (between_in relations q p ≡ k) × Alike

    -- the test of the upstream breakers, and what it says together with that of how the two places stand
    abbrev alike_in : Bool
    alike_in = same_end (prospect_of outlook p).upstream (prospect_of outlook q).upstream

    pub meets : {r k : Relation} → r ≡ between_in relations q p → true ≡ sameb the_type r k → true ≡ alike_in → Meets k
    meets {r} {k} e s a = (sym e ∙ same_true the_type tt r k (sym s), same_end-eq (prospect_of outlook p).upstream (prospect_of outlook q).upstream (sym a))

    pub not-so : {r k : Relation} → r ≡ between_in relations q p → false ≡ sameb the_type r k → Meets k → ⊥
    not-so {r} {k} e s m = same_false the_type r k (sym s) (e ∙ m.0)

    pub not-alike : {k : Relation} → false ≡ alike_in → Meets k → ⊥
    not-alike a m = true≢false (sym (ap (λ e. same_end e (prospect_of outlook q).upstream) m.1 ∙ same_end-refl (prospect_of outlook q).upstream) ∙ sym a)

    -- the upstream breaker
    pub upstream-kept : (Meets Behind → ⊥) → (prospect_of outlook p).upstream ≡ upstream_at N S d
    upstream-kept n =
        u.upstream
        ∙ sym (upstream-old N x.accepted w.rest last w.low w.before p y.low y.high (λ r c. n (related-is ∙ r, alike-back c)))
        ∙ ap (λ T. upstream_at N T d) (sym w.is)

    pub upstream-taken : Meets Behind → end_at N q ≡ upstream_at N S d
    upstream-taken m =
        ap (end_at N) lastly.0
        ∙ sym (upstream-new N x.accepted w.rest last w.low w.before p y.low y.high (sym related-is ∙ m.0) (alike m.1))
        ∙ ap (λ T. upstream_at N T d) (sym w.is)

    -- the weight
    pub weight-kept : (Meets Above → ⊥) → (prospect_of outlook p).weight ≡ weight_at N S d
    weight-kept n =
        u.weight
        ∙ sym (weight-same N x.accepted w.rest last w.low w.before p y.low y.high (λ r c. n (related-is ∙ r, alike-back c)))
        ∙ ap (λ T. weight_at N T d) (sym w.is)

    pub weight-taken : {own less : Prospect} → own ≡ prospect_of outlook p → less ≡ prospect_of outlook q → Meets Above → weight_at N S d + less.weight ≡ own.weight
    weight-taken f g m =
        (λ i. weight_at N (w.is i) d + (ap (λ (v : Prospect). v.weight) g ∙ ap (λ r. (prospect_of outlook r).weight) lastly.0 ∙ v.weight) i)
        ∙ weight-less N x.accepted w.rest last w.low w.before p y.low y.high (sym related-is ∙ m.0) (alike m.1)
        ∙ sym (ap (λ (v : Prospect). v.weight) f ∙ u.weight)

    -- the breakers in series
    pub few : in_series_at N S d ≤ 8
    few = in-series-few x d

    pub in-series-kept : between_in relations q p ≡ Apart → (prospect_of outlook p).in_series ≡ in_series_at N S d
    in-series-kept r =
        let k = sym related-is ∙ r in
        u.in-series
        ∙ sym (in-series-apart N x.accepted w.rest last w.low w.before p y.low y.high (λ s. omega (arith, ap nth k, ap nth s)) (λ s. omega (arith, ap nth k, ap nth s)))
        ∙ ap (λ T. in_series_at N T d) (sym w.is)

    pub raised : between_in relations q p ≡ Behind → (prospect_of outlook p).in_series + 1 ≡ in_series_at N S d
    raised r =
        ap (λ n. n + 1) u.in-series
        ∙ sym (in-series-behind N x.accepted w.rest last w.low w.before p y.low y.high (sym related-is ∙ r))
        ∙ ap (λ T. in_series_at N T d) (sym w.is)

    pub highest : between_in relations q p ≡ Above → max (prospect_of outlook p).in_series ((prospect_of outlook q).in_series + 1) ≡ in_series_at N S d
    highest r =
        (λ i. max (u.in-series i) ((ap (λ r. (prospect_of outlook r).in_series) lastly.0 ∙ v.in-series) i + 1))
        ∙ sym (in-series-above N x.accepted w.rest last w.low w.before p y.low y.high (sym related-is ∙ r))
        ∙ ap (λ T. in_series_at N T d) (sym w.is)

    -- a place apart from the last member has the prospect that it had
    pub values-kept : between_in relations q p ≡ Apart → Values N S p outlook
    values-kept a = record {
      upstream = upstream-kept (λ m. absurd (omega (arith, ap nth a, ap nth m.0)));
      weight = weight-kept (λ m. absurd (omega (arith, ap nth a, ap nth m.0)));
      in-series = in-series-kept a;
    }
