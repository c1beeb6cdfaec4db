-- The walk answers what `Answers` says, for totals, savings and allowed sets as `Asks` wants them.
use Rattle.std.specs.Prelude.{◌≡◌, Bool, true, false, ◌⊎◌, ℕ, ◌+◌, ◌≤◌, length}
use Rattle.std.proofs.Math.Path.{refl}
use Rattle.std.proofs.Common.{sym, true≢false, inl, inr, ⊎_elim, zero-le, arith}
use mathlib.Core.List.Sublistᴰ
use mathlib.Core.List.{List, [], ◌∷◌}
use Rattle.model.specs.Lists.{keep}
use Rattle.model.specs.Sets.{sets_up_to}
use Rattle.model.specs.Walk.{Found, visit, start, walk}
use Rattle.model.specs.Demand.{Before, extended}
use Rattle.walks.specs.Sets.{sets-are}
use Rattle.walks.specs.Order.{Rising}
use Rattle.walks.specs.Claims.{Asks, Fine, Answers}
use Rattle.walks.specs.Runs.{Run, step}
use Rattle.walks.specs.Visits.{Sound, run_sound, Tally, run-tally, Leads, run-leads}
use Rattle.walks.proofs.Order.{sets-ordered}
use Rattle.walks.proofs.Runs.{extend-runs}

-- no set is before the empty set
none_first : (T : List ℕ) → (T ≡ []) ⊎ Before [] T
none_first [] = inl refl
none_first (p ∷ T) = inr extended

module _ (limit : ℕ) (total_of : List ℕ → ℕ) (is_allowed : List ℕ → Bool) (saving_of : ℕ → ℕ) (adds : ℕ) (places : List ℕ)
    (rising : Rising places) (asks : Asks total_of is_allowed saving_of adds places) where
  -- what the walk has found at its end
  abbrev ended : Found
  ended = walk limit total_of is_allowed saving_of adds places

  runs : Run limit total_of is_allowed saving_of (start limit total_of is_allowed saving_of) (sets_up_to adds places) ended
  unfolding walk start sets_up_to
  runs =
      step asks.none refl
      (extend-runs limit total_of is_allowed saving_of adds places asks adds [] places (λ U w. w)
      (visit limit total_of is_allowed saving_of [] (start limit total_of is_allowed saving_of)))

  sound : Sound limit total_of is_allowed saving_of (Fine is_allowed places) ended
  unfolding start
  sound =
      run_sound limit total_of is_allowed saving_of (Fine is_allowed places) runs
      (λ S m a. (((sets-are adds places S).0 m).0, a)) ((Sublistᴰ.nil-sublist places, asks.none), refl)

  tally : Tally limit total_of is_allowed saving_of (0 + length (keep is_allowed (sets_up_to adds places))) ended
  unfolding start
  tally =
      run-tally limit total_of is_allowed saving_of runs 0
      (record { listed = zero-le; limited = zero-le; spent_at = λ s. absurd (true≢false (sym s)) })

  -- not spent, the best total is smaller than that of an allowed set, or the same and the best set comes no later
  lead : ended.spent ≡ false → (T : List ℕ) → Fine is_allowed places T → Leads limit total_of is_allowed saving_of ended T
  unfolding start
  lead u T x =
      run-leads limit total_of is_allowed saving_of runs u (sets-ordered adds places rising) (λ U m. none_first U)
      T ((sets-are adds places T).1 (x.0, asks.few T x.1)) x.1

  lowest : ended.spent ≡ false → (T : List ℕ) → Fine is_allowed places T → ended.best ≤ total_of T
  lowest u T x = ⊎_elim (λ h. omega arith) (λ y. omega arith) (lead u T x)

  -- with the limit at least the number of allowed sets the walk is not spent
  finish : length (keep is_allowed (sets_up_to adds places)) ≤ limit → (b : Bool) → ended.spent ≡ b → b ≡ false
  finish h true e = absurd (omega (arith, (tally.spent_at e).1))
  finish h false e = refl

  pub walk-answers : Answers limit total_of is_allowed adds places ended
  walk-answers = record {
    allows = sound.0;
    exact = sound.1;
    counted = omega (arith, tally.listed);
    limited = tally.limited;
    finishes = λ h. finish h ended.spent refl;
    spent_at_limit = λ s. (tally.spent_at s).0;
    least = λ u T x. (
      (λ e U y. omega (arith, lowest u U y)),
      (λ h. omega (arith, lowest u T x, h ended.members sound.0, sound.1)),
    );
    first_of_least = λ u T x e. ⊎_elim (λ h. absurd (omega arith)) (λ y. y.1) (lead u T x);
  }
