-- The start of the walk.
use Prim.Native.Nat.{ℕ, ◌+◌, ◌-◌}
use mathlib.Core.Path.{◌≡◌, refl, sym, ap, ◌∙◌, subst}
use mathlib.Core.Logic.{inl}
use mathlib.Core.List.{List, []}
use native.Mathlib.Omega.{arith}
use lib.ListN.{length}
use Rattle.std.specs.Prelude.{None}
use Rattle.arrayvec.specs.ArrayVec.{ArrayVec}
use Rattle.model.specs.Lists.{sum, numbers}
use Rattle.model.specs.Network.{Network}
use Rattle.model.specs.Outage.{total}
use Rattle.model.specs.Sets.{place_numbers, with_breakers, allowed, set_total, saving}
use Rattle.model.specs.Walk.{start, extend, walk, search}
use Rattle.starts.specs.Outlook.{HoldsOutlook}
use Rattle.prospects.specs.declared.Prospects.{Prospects}
use Rattle.prospects.proofs.Saving.{chosen_none}
use Rattle.search.specs.Walking.{found_in, Begun, visited, extended, Counted, Extending, Starting, Visits}
use Rattle.search.specs.declared.Progress.{Progress}
use Rattle.search.specs.declared.Current.{Current}
use Rattle.search.specs.declared.Course.{Course}
use Rattle.search.specs.declared.Walk.{Walk}

-- before the first visit
abbrev pub at_start : Current
at_start = record { last = None; saved = record { 0 = 0 }; cost = 0; hours = 0 }

module _ {w : Walk} {old : Course} (x : Starting w old) where
  abbrev N : Network
  N = w.tables.net.now

  pub saved-none : {S : List ℕ} → S ≡ [] → 0 + set_total N S ≡ total N
  unfolding set_total with_breakers
  saved-none e = rw e (omega arith)

  pub counted_none : {p : Progress} → Begun p → Counted N p
  counted_none b = record {
    saved = omega (arith, b.saved);
    count = omega (arith, ap length b.best);
    visits = omega (arith, b.visits);
    limit = x.tables.accepted.read.head.visits.high;
  }

  module _ {begun v : Course} (m : begun.members.items ≡ []) (p : begun.prospects ≡ old.prospects) (b : Begun begun.progress) (vs : Visits N begun v) where
    members-none : v.members.items ≡ []
    members-none = ap (λ (l : ArrayVec ℕ). l.items) vs.members ∙ m

    holds : HoldsOutlook N [] 1 v.prospects.outlook
    holds = subst (λ (o : Prospects). HoldsOutlook N [] 1 o.outlook) (sym (vs.prospects ∙ p)) x.holds

    module _ (adds : ℕ) (e : N.head.adds ≡ adds) where
      pub extending-none : Extending w v at_start 1 adds
      unfolding sum
      extending-none = record {
        tables = x.tables;
        later = x.later;
        table = x.table;
        standing = rw members-none (record {
          chosen = chosen_none N w.tables.relations.now x.tables.accepted x.tables.related;
          is-pending = inl (refl, holds);
          saved = saved-none refl;
          cost = refl;
          hours = refl;
          affordable = omega arith;
          timely = omega arith;
        });
        counted = vs.counted;
        low = omega arith;
        high = omega arith;
        few = omega (arith, e, ap length members-none);
      }

      -- what is found from there is what the search finds
      pub search_is : extended N adds v.members.items 1 (found_in N v.progress) ≡ search N
      unfolding search walk start place_numbers
      search_is =
          let n : length N.places + 1 - 1 ≡ length N.places = omega arith in
          let whole : total N - begun.progress.saved.0 ≡ set_total N [] = omega (arith, saved-none refl, b.saved) in
          (λ i. extended N (sym e i) (members-none i) 1 (vs.found i))
          ∙ (λ i. extend N.head.visits (λ T. set_total N T) (λ T. allowed N T) (λ p. saving N p) N.head.adds [] (numbers 1 (n i))
          (visited N (m i) (record { members = b.best i; best = whole i; visits = b.visits i; spent = b.spent i })))
