-- Demand 3 of the defined search, for every accepted file.
use Rattle.std.specs.Prelude.{ℕ, zero, suc, ◌≤◌, ◌<◌, ◌≡◌, refl, false, length, get_or, take, eqb}
use Rattle.std.proofs.Math.Path.{ap}
use Rattle.std.proofs.Common.{subst, arith, length-take-le, get_or-take}
use Rattle.std.proofs.Math.Bool.{not}
use mathlib.Core.List.{List, Sublistᴰ, Memᴰ}
use Rattle.std.proofs.lemmas.Bool.{not-true, not-false}
use Rattle.model.specs.Answer.{given}
use Rattle.model.specs.Network.{Network, no_place, network_of}
use Rattle.model.specs.Paths.{state, is_open}
use Rattle.model.specs.Rules.{series_broken, radial, accepted}
use Rattle.model.specs.Sets.{place_numbers, place_at, allowed, set_total, saving, allowed_sets, allowed_count}
use Rattle.model.specs.Walk.{Found, walk, search}
use Rattle.model.specs.Demand.{AllowedSet, Answered}
use Rattle.savings.specs.Breakers.{end_at, Valid}
use Rattle.savings.specs.Totals.{set_total-bound}
use Rattle.savings.specs.Allowed.{allowed-prefix, allowed-few, allowed-none}
use Rattle.walks.specs.Order.{numbers-rising}
use Rattle.walks.specs.Claims.{Asks, Fine, Answers}
use Rattle.walks.proofs.Answer.{walk-answers}
use Rattle.theory.specs.Reading.{All, OnPlain, InOrder, Read, in-turn, network-read}
use Rattle.theory.specs.Ends.{numbers-in}
use Rattle.theory.specs.Radial.{Rules, radial-rules, numbered-in}
use Rattle.theory.specs.Forest.{tree}

-- what acceptance of a file's bytes gives
pub record Accepted (N : Network) : Type 0 where
  pub read : Read N
  pub plain : All (OnPlain N.lines) N.places
  pub order : InOrder no_place N.places
  pub rules : Rules N
  pub series : series_broken N ≡ false

pub accepted-is : (file : List ℕ) (N : Network) → accepted file ≡ given N → Accepted N
unfolding accepted
accepted-is file N h =
    in-turn (network_of file) (λ M. radial M) N h (λ M e k.
    let r = radial-rules M N k in
    subst Accepted r.2 (record { read = (network-read file M e).0; plain = (network-read file M e).1; order = (network-read file M e).2; rules = r.0; series = r.1 }))

-- every place of a set is on an end that is not open, where every place of the list is that the set is drawn from
valid-part : (N : Network) {S places : List ℕ} → Sublistᴰ S places → ((p : ℕ) → Memᴰ p places → is_open N (end_at N p) ≡ false) → Valid N S
valid-part N Sublistᴰ.slnil h = tt
valid-part N (Sublistᴰ.cons s) h = valid-part N s (λ p m. h p (Memᴰ.tail m))
valid-part N (Sublistᴰ.cons-cons {a = p} e s) h = (h p (Memᴰ.head e), valid-part N s (λ q m. h q (Memᴰ.tail m)))

-- what every element of a list has, every element of a part of it has
part-has : (P : ℕ → Type 0) {S xs : List ℕ} → Sublistᴰ S xs → ((p : ℕ) → Memᴰ p xs → P p) → (i : ℕ) → i < length S → P (get_or S i 0)
part-has P Sublistᴰ.slnil h i k = absurd (omega arith)
part-has P (Sublistᴰ.cons s) h i k = part-has P s (λ p m. h p (Memᴰ.tail m)) i k
part-has P (Sublistᴰ.cons-cons {a = p} e s) h zero k = h p (Memᴰ.head e)
part-has P (Sublistᴰ.cons-cons e s) h (suc i) k = part-has P s (λ p m. h p (Memᴰ.tail m)) i (omega arith)

-- the members of a set, the first numbers of a list, are places
pub member-place : (N : Network) (xs : List ℕ) (count : ℕ) → count ≤ length xs → Sublistᴰ (take count xs) (place_numbers N) → (i : ℕ) → i < count → (1 ≤ get_or xs i 0) × (get_or xs i 0 ≤ length N.places)
unfolding place_numbers
member-place N xs count l s i h =
    subst (λ p. (1 ≤ p) × (p ≤ length N.places)) (get_or-take count xs i 0 h)
    (part-has (λ p. (1 ≤ p) × (p ≤ length N.places)) s (λ p m. let r = numbers-in p 1 (length N.places) m in (r.0, omega (arith, r.1))) i (omega (arith, length-take-le count xs l)))

pub fine : {N : Network} {S : List ℕ} → AllowedSet N S → Fine (λ S. allowed N S) (place_numbers N) S
fine x = (x.places, x.allows)

pub allowed-set : {N : Network} {S : List ℕ} → Fine (λ S. allowed N S) (place_numbers N) S → AllowedSet N S
allowed-set x = record { places = x.0; allows = x.1 }

-- the walk of a file's search with a limit of its own
unfoldable pub walk_within : Network → ℕ → Found
unfolding walk set_total allowed saving place_numbers
walk_within N limit = walk limit (λ S. set_total N S) (λ S. allowed N S) (λ p. saving N p) N.head.adds (place_numbers N)

module _ (N : Network) (a : Accepted N) where
  -- a place is on a plain end
  pub place-plain : (p : ℕ) → Memᴰ p (place_numbers N) → state N (end_at N p) ≡ 0
  unfolding place_numbers place_at state
  place-plain p m =
      let i = numbers-in p 1 (length N.places) m in
      numbered-in (OnPlain N.lines) N.places no_place a.plain p i.0 (omega (arith, i.1))

  pub place-closed : (p : ℕ) → Memᴰ p (place_numbers N) → is_open N (end_at N p) ≡ false
  place-closed p m = ap (λ n. eqb n 2) (place-plain p m)

  pub set-valid : {S : List ℕ} → Sublistᴰ S (place_numbers N) → Valid N S
  set-valid s = valid-part N s place-closed

  asks : Asks (λ S. set_total N S) (λ S. allowed N S) (λ p. saving N p) N.head.adds (place_numbers N)
  asks = record {
    none = allowed-none N a.series;
    few = allowed-few N;
    part = λ S T s h. allowed-prefix N S T (set-valid s) h;
    saves = λ S T s h. set_total-bound N (tree N a.read a.rules) S T (set-valid s);
  }

  -- what the walk answers, with any limit
  pub within-answers : (limit : ℕ) → Answers limit (λ S. set_total N S) (λ S. allowed N S) N.head.adds (place_numbers N) (walk_within N limit)
  unfolding walk_within place_numbers
  within-answers limit = walk-answers limit (λ S. set_total N S) (λ S. allowed N S) (λ p. saving N p) N.head.adds (place_numbers N) (numbers-rising 1 (length N.places)) asks

  answers : Answers N.head.visits (λ S. set_total N S) (λ S. allowed N S) N.head.adds (place_numbers N) (search N)
  unfolding search walk_within
  answers = within-answers N.head.visits

  -- demand 3 of the defined search
  pub search-answered : Answered N (not (search N).spent) (search N).members (search N).best (search N).visits
  unfolding allowed_count allowed_sets
  search-answered = record {
    is_allowed = allowed-set answers.allows;
    has_total = answers.exact;
    walk_best = refl;
    walk_visits = refl;
    visits_allowed = answers.counted;
    visits_limited = answers.limited;
    walk_finished = refl;
    finishes = λ h. ap not (answers.finishes h);
    spent_at_limit = λ h. answers.spent_at_limit (not-false (search N).spent h);
    least = λ f T x.
        let l = answers.least (not-true (search N).spent f) T (fine x) in
        (λ e U y. l.0 e U (fine y), λ h. l.1 (λ U y. h U (allowed-set y)));
    first_of_least = λ f T x e. answers.first_of_least (not-true (search N).spent f) T (fine x) e;
  }
