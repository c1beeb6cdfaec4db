-- The outlook of a set without its last member becomes the set's own, place by place of those that the member is related to.
use Prim.Native.Nat.{ℕ, ◌+◌, ◌≤◌, ◌<◌}
use mathlib.Core.Path.{◌≡◌, refl, sym, ap, ◌∙◌, subst}
use mathlib.Core.Logic.{inr, ⊎_elim}
use mathlib.Core.List.{List}
use native.Mathlib.Nat.{eq-or-lt_of_le}
use native.Mathlib.Omega.{arith}
use lib.ListN.{length, get_or}
use Rattle.std.specs.Prelude.{Some}
use Rattle.model.specs.Network.{Network}
use Rattle.savings.specs.Breakers.{end_at}
use Rattle.sets.specs.Sets.{upstream_at, weight_at, in_series_at}
use Rattle.relations.specs.declared.Relation.{Relation}
use Rattle.relations.specs.declared.Relation.TheVariants.{Apart, Behind, Above}
use Rattle.relations.specs.declared.Relations.{Relations}
use Rattle.relations.specs.Lists.{Row, Listed}
use Rattle.relations.specs.Related.{between_in, later_in}
use Rattle.starts.specs.declared.Prospect.{Prospect}
use Rattle.starts.specs.declared.Outlook.{Outlook}
use Rattle.starts.specs.Outlook.{Values, HoldsOutlook, prospect_of}
use Rattle.prospects.specs.declared.Prospects.{Prospects}
use Rattle.prospects.specs.Changes.{SameBefore, Same, Changed}
use Rattle.prospects.specs.Chosen.{Later, Entering}
use Rattle.prospects.proofs.OneMore.{nth}
use Rattle.prospects.proofs.Outlooks.{later_of, values-kept}
use Rattle.prospects.proofs.Undoing.{Put, Keeping, changed-more}

-- a place whose prospect is the same has the same values
values_same : {N : Network} {S : List ℕ} {old new : Outlook} {p : ℕ} → Same old new p → Values N S p old → Values N S p new
values_same s v = record {
  upstream = ap (λ (x : Prospect). x.upstream) s ∙ v.upstream;
  weight = ap (λ (x : Prospect). x.weight) s ∙ v.weight;
  in-series = ap (λ (x : Prospect). x.in_series) s ∙ v.in-series;
}

-- a row of a file's places, in the room for 64
pub row-wide : {ps : List ℕ} {q end : ℕ} → end ≤ 65 → Row ps q end → Row ps q 65
row-wide h r = record { few = omega (arith, r.few); later = λ i a. ((r.later i a).0, omega (arith, (r.later i a).1)); rising = r.rising }

-- whether two places are apart
apart-or : (r : Relation) → Dec (r ≡ Apart)
apart-or Apart = yes refl
apart-or Behind = no (λ e. omega (arith, ap nth e))
apart-or Above = no (λ e. omega (arith, ap nth e))

-- the places listed before index i are written
pub record Written (N : Network) (ps S : List ℕ) (row : ℕ) (outlook₀ : Outlook) (rows₀ : List Prospect) (i : ℕ) (outlook : Outlook) (rows : List Prospect) : Type 0 where
  pub changed : Changed ps row 0 i outlook₀ outlook rows
  pub values : (j : ℕ) → j < i → Values N S (get_or ps j 0) outlook
  pub below : SameBefore row rows₀ rows

module _ {N : Network} {relations : Relations} {S : List ℕ} {row last : ℕ} {old : Prospects} (x : Entering N relations S row last old) where
  abbrev ps : List ℕ
  ps = later_in relations last

  places-few : length N.places ≤ 64
  places-few = x.chosen.accepted.read.place_count

  own : Listed relations.between last (length N.places + 1) ps
  own = x.later.each last x.without.low x.chosen.high

  pub row-of : Row ps last 65
  row-of = row-wide (omega (arith, places-few)) own.row

  module _ {i : ℕ} {outlook : Outlook} {rows : List Prospect} (w : Written N ps S row old.outlook old.kept i outlook rows) where
    module _ (h : i < length ps) where
      abbrev place : ℕ
      place = get_or ps i 0

      pub place-few : place ≤ 64
      place-few = omega (arith, row-of.later i h)

      -- the place and the last member are as they were
      pub later-place : Later N relations outlook S (Some last) place
      later-place =
          let l = own.row.later i h in
          record {
            last = last;
            chosen = x.chosen;
            low = l.0;
            high = omega (arith, l.1);
            values = inr (
              refl,
              x.without,
              values_same (w.changed.same last (omega (arith, x.chosen.high, places-few)) (λ j a b e. omega (arith, own.row.later j (omega arith)))) (x.holds last (omega arith) x.chosen.high),
              values_same (w.changed.same place place-few (λ j a b e. omega (arith, own.row.rising j i b h))) (x.holds place (omega (arith, l.0)) (omega (arith, l.1))),
            );
          }

      pub written-more : {v : Prospect} {outlook' : Outlook} {rows' : List Prospect}
          → v.upstream ≡ upstream_at N S (end_at N place) → v.weight ≡ weight_at N S (end_at N place) → v.in_series ≡ in_series_at N S (end_at N place)
          → Keeping row place (prospect_of outlook place) rows rows' → Put place v outlook outlook' → Written N ps S row old.outlook old.kept (i + 1) outlook' rows'
      written-more eu ew em k p = record {
        changed = changed-more row-of h w.changed k p;
        values = λ j b. ⊎_elim
            (λ e. rw e (record {
              upstream = ap (λ (v : Prospect). v.upstream) p.own ∙ eu;
              weight = ap (λ (v : Prospect). v.weight) p.own ∙ ew;
              in-series = ap (λ (v : Prospect). v.in_series) p.own ∙ em;
            }))
            (λ l. values_same (p.others (get_or ps j 0) (omega (arith, row-of.later j (omega (arith, h)))) (λ e. omega (arith, own.row.rising j i l h))) (w.values j l))
            (eq-or-lt_of_le {n = j} {m = i} (omega arith));
        below = λ q l. k.below q l ∙ w.below q l;
      }

      -- the place by another name
      pub written-at : (v : Prospect) (outlook' : Outlook) (rows' : List Prospect) (q : ℕ) → q ≡ place
          → v.upstream ≡ upstream_at N S (end_at N q) → v.weight ≡ weight_at N S (end_at N q) → v.in_series ≡ in_series_at N S (end_at N q)
          → Keeping row q (prospect_of outlook q) rows rows' → Put q v outlook outlook' → Written N ps S row old.outlook old.kept (i + 1) outlook' rows'
      written-at v outlook' rows' q e = subst
          (λ q. v.upstream ≡ upstream_at N S (end_at N q) → v.weight ≡ weight_at N S (end_at N q) → v.in_series ≡ in_series_at N S (end_at N q)
          → Keeping row q (prospect_of outlook q) rows rows' → Put q v outlook outlook' → Written N ps S row old.outlook old.kept (i + 1) outlook' rows')
          (sym e) written-more

    -- all of them are, and the others are apart from the last member
    pub owned : i ≡ length ps → HoldsOutlook N S (last + 1) outlook
    owned h = λ p a b. at p a b (apart-or (between_in relations last p))
      where
        at : (p : ℕ) → last + 1 ≤ p → p ≤ length N.places → Dec (between_in relations last p ≡ Apart) → Values N S p outlook
        at p a b (yes z) = values_same (w.changed.same p (omega (arith, places-few)) (λ j c d e. own.only j (omega (arith, h)) (ap (between_in relations last) e ∙ z)))
            (values-kept (later_of x.chosen (inr (refl, x.without, x.holds)) p (omega arith) b) refl z)
        at p a b (no n) = let k = own.all p (omega arith) (omega arith) n in subst (λ r. Values N S r outlook) k.is (w.values k.at (omega (arith, k.high, h)))

    pub changed_all : i ≡ length ps → Changed ps row 0 (length ps) old.outlook outlook rows
    changed_all h = subst (λ n. Changed ps row 0 n old.outlook outlook rows) h w.changed
