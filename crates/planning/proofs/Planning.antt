-- The plan of a network: the best set of its walk, with that set's total.
use Prim.Native.Nat.{ℕ}
use mathlib.Core.Path.{◌≡◌, sym, ap, ◌∙◌, subst}
use mathlib.Core.List.{Sublistᴰ}
use Rattle.model.specs.Network.{Network}
use Rattle.model.specs.Sets.{place_numbers, set_total}
use Rattle.model.specs.Walk.{Found, search}
use Rattle.theory.specs.Best.{Accepted, search-answered}
use Rattle.search.specs.Walking.{found_in}
use Rattle.search.specs.declared.Progress.{Progress}

module _ (N : Network) (a : Accepted N) (p : Progress) (e : found_in N p ≡ search N) where
  -- the best set's members are places
  pub best-places : Sublistᴰ p.best.items (place_numbers N)
  best-places = subst (λ (f : Found). Sublistᴰ f.members (place_numbers N)) (sym e) (search-answered N a).is_allowed.places

  pub plan-is : {t : ℕ} → t ≡ set_total N p.best.items → ◌≡◌ {A = Found} (record { members = p.best.items; best = t; visits = p.visits; spent = p.spent }) (search N)
  plan-is h =
      let total = h ∙ ap (λ (f : Found). set_total N f.members) e ∙ (search-answered N a).has_total in
      λ i. record { members = (e i).members; best = total i; visits = (e i).visits; spent = (e i).spent }
