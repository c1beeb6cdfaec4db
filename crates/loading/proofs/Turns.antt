-- The rules in turn: which refusal is given, by the first line or station that breaks a rule (0 where none does).
use Prim.Native.Nat.{ℕ, zero, suc, ◌+◌, ◌≤◌}
use mathlib.Core.Path.{◌≡◌, refl, sym, ap, ◌∙◌}
use mathlib.Core.Bool.{Bool, true, false, not}
use native.Mathlib.Omega.{arith}
use lib.ListN.{length}
use borrow.Author.Tests.{not-false}
use Rattle.model.specs.Lists.{first_or, numbers}
use Rattle.model.specs.Answer.{Answer, given, refused, refusal_number, refusal_record, refuse_open_line, refuse_plain_at_hv, refuse_return, refuse_joined, refuse_unsupplied, refuse_series}
use Rattle.model.specs.Network.{Network}
use Rattle.model.specs.Paths.{station_numbers, line_numbers}
use Rattle.model.specs.Rules.{both_open, unprotected, some_path_returns, some_joined, is_supplied, series_broken, unless, unless_some, station_record, line_record, radial}
use Rattle.theory.specs.Reading.{Read}
use Rattle.theory.specs.Radial.{Rules}
use Rattle.end_rules.specs.First.{first-zero}
use Rattle.std.specs.Prelude.{Some, None, Result, Ok, Err, OnOk}
use Rattle.model.specs.declared.Refusal.{Refusal}
use Rattle.model.specs.declared.Refusal.TheVariants.{OpenLine, PlainAtHv, Ring, Joined, Unsupplied}
use Rattle.network.specs.Found.{found, none-found, some-found}
use Rattle.loading.specs.Loading.{forest, before, radial-is}

module _ (test : ℕ → Bool) (refuse : ℕ → Answer Network) (next : Answer Network) where
  -- what stands behind the first number, by its test
  pick : {A : Type 0} → Bool → A → A → A
  pick b x y = elim b [ true ↦ x | false ↦ y ]

  some-from : (from count k : ℕ) → 1 ≤ from → first_or 0 test (numbers from count) ≡ suc k → unless_some test (numbers from count) refuse next ≡ refuse (suc k)
  unfolding first_or numbers unless_some pick
  some-from from zero k l e = absurd (omega arith)
  some-from from (suc count) k l e = go (test from) e (λ d. some-from (from + 1) count k (omega arith) d)
    where
      go : (b : Bool) → pick b from (first_or 0 test (numbers (from + 1) count)) ≡ suc k
          → (first_or 0 test (numbers (from + 1) count) ≡ suc k → unless_some test (numbers (from + 1) count) refuse next ≡ refuse (suc k))
          → pick b (refuse from) (unless_some test (numbers (from + 1) count) refuse next) ≡ refuse (suc k)
      go true d ih = ap refuse d
      go false d ih = ih d

  none_from : (from count : ℕ) → 1 ≤ from → first_or 0 test (numbers from count) ≡ 0 → unless_some test (numbers from count) refuse next ≡ next
  unfolding first_or numbers unless_some pick
  none_from from zero l e = refl
  none_from from (suc count) l e = go (test from) e (λ d. none_from (from + 1) count (omega arith) d)
    where
      go : (b : Bool) → pick b from (first_or 0 test (numbers (from + 1) count)) ≡ 0
          → (first_or 0 test (numbers (from + 1) count) ≡ 0 → unless_some test (numbers (from + 1) count) refuse next ≡ next)
          → pick b (refuse from) (unless_some test (numbers (from + 1) count) refuse next) ≡ next
      go true d ih = absurd (omega arith)
      go false d ih = ih d

  pub first-refused : (n k : ℕ) → first_or 0 test (numbers 1 n) ≡ k → 1 ≤ k → unless_some test (numbers 1 n) refuse next ≡ refuse k
  first-refused n zero e l = absurd (omega arith)
  first-refused n (suc k) e l = some-from 1 n k (omega arith) e

  pub none-refused : (n : ℕ) → first_or 0 test (numbers 1 n) ≡ 0 → unless_some test (numbers 1 n) refuse next ≡ next
  none-refused n e = none_from 1 n (omega arith) e

unless-true : {b : Bool} (refuse next : Answer Network) → b ≡ true → unless b refuse next ≡ refuse
unfolding unless
unless-true refuse next e = ap (λ b. unless b refuse next) e

unless-false : {b : Bool} (refuse next : Answer Network) → b ≡ false → unless b refuse next ≡ next
unfolding unless
unless-false refuse next e = ap (λ b. unless b refuse next) e

-- the first number that a test takes is one of the numbers
first-most : (test : ℕ → Bool) (from count : ℕ) → first_or 0 test (numbers from count) ≤ from + count
unfolding first_or numbers
first-most test from zero = omega arith
first-most test from (suc count) = go (test from) (first-most test (from + 1) count)
  where
    go : (b : Bool) → first_or 0 test (numbers (from + 1) count) ≤ from + 1 + count → (elim b [ true ↦ from | false ↦ first_or 0 test (numbers (from + 1) count) ]) ≤ from + suc count
    go true h = omega arith
    go false h = omega arith

module _ (N : Network) where
  -- the first line, and the first station, that breaks a rule; 0 where none does
  abbrev open_line : ℕ
  open_line = first_or 0 (both_open N) (line_numbers N)

  abbrev plain_line : ℕ
  plain_line = first_or 0 (unprotected N) (line_numbers N)

  abbrev pub unsupplied_station : ℕ
  unsupplied_station = first_or 0 (λ s. not (is_supplied N s)) (station_numbers N)

  open_line-most : open_line ≤ 1 + length N.lines
  unfolding line_numbers
  open_line-most = first-most (both_open N) 1 (length N.lines)

  plain_line-most : plain_line ≤ 1 + length N.lines
  unfolding line_numbers
  plain_line-most = first-most (unprotected N) 1 (length N.lines)

  unsupplied_station-most : unsupplied_station ≤ 1 + length N.stations
  unfolding station_numbers
  unsupplied_station-most = first-most (λ s. not (is_supplied N s)) 1 (length N.stations)

  -- in a file that is read they are small
  module _ (d : Read N) where
    pub open-small : {l : ℕ} → Some l ≡ found open_line → l ≤ 769
    open-small e = omega (arith, some-found open_line _ (sym e), open_line-most, d.line_count, d.head.lines.high)

    pub plain-small : {l : ℕ} → Some l ≡ found plain_line → l ≤ 769
    plain-small e = omega (arith, some-found plain_line _ (sym e), plain_line-most, d.line_count, d.head.lines.high)

    pub unsupplied-small : {s : ℕ} → Some s ≡ found unsupplied_station → s ≤ 513
    unsupplied-small e = omega (arith, some-found unsupplied_station _ (sym e), unsupplied_station-most, d.station_count, d.head.stations.high)

  module _ (next : Answer Network) where
    pub refused-4 : 1 ≤ open_line → refused 4 (1 + length N.stations + open_line) ≡ forest N next
    unfolding forest line_numbers
    refused-4 h = sym (first-refused (λ l. both_open N l) (λ l. refuse_open_line (line_record N l)) _ (length N.lines) open_line refl h)

    module _ (z4 : open_line ≡ 0) where
      past-4 : forest N next ≡ unless_some (λ l. unprotected N l) (line_numbers N) (λ l. refuse_plain_at_hv (line_record N l)) (unless (some_path_returns N) refuse_return
          (unless (some_joined N) refuse_joined (unless_some (λ s. not (is_supplied N s)) (station_numbers N) (λ s. refuse_unsupplied (station_record s)) next)))
      unfolding forest line_numbers
      past-4 = none-refused (λ l. both_open N l) (λ l. refuse_open_line (line_record N l)) _ (length N.lines) z4

      pub refused-5 : 1 ≤ plain_line → refused 5 (1 + length N.stations + plain_line) ≡ forest N next
      unfolding line_numbers
      refused-5 h = sym (past-4 ∙ first-refused (λ l. unprotected N l) (λ l. refuse_plain_at_hv (line_record N l)) _ (length N.lines) plain_line refl h)

      module _ (z5 : plain_line ≡ 0) where
        past-5 : forest N next ≡ unless (some_path_returns N) refuse_return (unless (some_joined N) refuse_joined
            (unless_some (λ s. not (is_supplied N s)) (station_numbers N) (λ s. refuse_unsupplied (station_record s)) next))
        unfolding line_numbers
        past-5 = past-4 ∙ none-refused (λ l. unprotected N l) (λ l. refuse_plain_at_hv (line_record N l)) _ (length N.lines) z5

        pub refused-6 : some_path_returns N ≡ true → refused 6 0 ≡ forest N next
        refused-6 e = sym (past-5 ∙ unless-true _ _ e)

        module _ (z6 : some_path_returns N ≡ false) where
          past-6 : forest N next ≡ unless (some_joined N) refuse_joined (unless_some (λ s. not (is_supplied N s)) (station_numbers N) (λ s. refuse_unsupplied (station_record s)) next)
          past-6 = past-5 ∙ unless-false _ _ z6

          pub refused-7 : some_joined N ≡ true → refused 7 0 ≡ forest N next
          refused-7 e = sym (past-6 ∙ unless-true _ _ e)

          module _ (z7 : some_joined N ≡ false) where
            past-7 : forest N next ≡ unless_some (λ s. not (is_supplied N s)) (station_numbers N) (λ s. refuse_unsupplied (station_record s)) next
            past-7 = past-6 ∙ unless-false _ _ z7

            pub refused-8 : 1 ≤ unsupplied_station → refused 8 (1 + unsupplied_station) ≡ forest N next
            unfolding station_numbers
            refused-8 h = sym (past-7 ∙ first-refused (λ s. not (is_supplied N s)) (λ s. refuse_unsupplied (station_record s)) next (length N.stations) unsupplied_station refl h)

            pub none-broken : unsupplied_station ≡ 0 → next ≡ forest N next
            unfolding station_numbers
            none-broken z8 = sym (past-7 ∙ none-refused (λ s. not (is_supplied N s)) (λ s. refuse_unsupplied (station_record s)) next (length N.stations) z8)

  pub rules-hold : open_line ≡ 0 → plain_line ≡ 0 → some_path_returns N ≡ false → some_joined N ≡ false → unsupplied_station ≡ 0 → Rules N
  unfolding line_numbers station_numbers
  rules-hold z4 z5 z6 z7 z8 = record {
    connected = λ l a b. first-zero (both_open N) (length N.lines) z4 l a b;
    protected = λ l a b. first-zero (unprotected N) (length N.lines) z5 l a b;
    unreturned = z6;
    unjoined = z7;
    supplied = λ s a b. not-false (is_supplied N s) (first-zero (λ s. not (is_supplied N s)) (length N.stations) z8 s a b);
  }

-- what an answer of the rules 4 to 8 is to say: it stands before any other, and all rules hold where nothing is refused
abbrev pub Says : Network → Result (Unit {0}) Refusal → Type 0
Says N r = ((next : Answer Network) → before r next ≡ forest N next) × OnOk r (Rules N)

module _ (N : Network) where
  pub says-4 : {k place : ℕ} → Some k ≡ found (open_line N) → place ≡ line_record N k → Says N (Err (OpenLine place))
  says-4 o r =
      let f = some-found (open_line N) _ (sym o) in (
        (λ next. (λ i. refused 4 (r i)) ∙ (λ i. refused 4 (line_record N (sym f.0 i))) ∙ refused-4 N next (omega (arith, f))),
        tt,
      )

  module _ (o : None ≡ found (open_line N)) where
    z4 : open_line N ≡ 0
    z4 = none-found (open_line N) (sym o)

    pub says-5 : {k place : ℕ} → Some k ≡ found (plain_line N) → place ≡ line_record N k → Says N (Err (PlainAtHv place))
    says-5 p r =
        let f = some-found (plain_line N) _ (sym p) in (
          (λ next. (λ i. refused 5 (r i)) ∙ (λ i. refused 5 (line_record N (sym f.0 i))) ∙ refused-5 N next z4 (omega (arith, f))),
          tt,
        )

    module _ (p : None ≡ found (plain_line N)) where
      z5 : plain_line N ≡ 0
      z5 = none-found (plain_line N) (sym p)

      pub says-6 : some_path_returns N ≡ true → Says N (Err Ring)
      says-6 e = ((λ next. refused-6 N next z4 z5 e), tt)

      module _ (z6 : some_path_returns N ≡ false) where
        pub says-7 : some_joined N ≡ true → Says N (Err Joined)
        says-7 e = ((λ next. refused-7 N next z4 z5 z6 e), tt)

        module _ (z7 : some_joined N ≡ false) where
          pub says-8 : {k place : ℕ} → Some k ≡ found (unsupplied_station N) → place ≡ station_record k → Says N (Err (Unsupplied place))
          says-8 u r =
              let f = some-found (unsupplied_station N) _ (sym u) in (
                (λ next. (λ i. refused 8 (r i)) ∙ (λ i. refused 8 (station_record (sym f.0 i))) ∙ refused-8 N next z4 z5 z6 z7 (omega (arith, f))),
                tt,
              )

          pub says-ok : None ≡ found (unsupplied_station N) → Says N (Ok tt)
          says-ok u =
              let z8 = none-found (unsupplied_station N) (sym u) in
              ((λ next. none-broken N next z4 z5 z6 z7 z8), rules-hold N z4 z5 z6 z7 z8)

-- the answer of all rules, by that of the rules 4 to 8 and the series rule
module _ (N : Network) where
  -- the series rule, the last
  abbrev last : Answer Network
  last = unless (series_broken N) refuse_series (given N)

  pub rules-refused : (r : Refusal) → ((next : Answer Network) → before (Err r) next ≡ forest N next) → refused (refusal_number r) (refusal_record r) ≡ radial N
  rules-refused r s = s last ∙ sym (radial-is N)

  module _ (s : (next : Answer Network) → before (Ok tt) next ≡ forest N next) where
    last-rule : last ≡ radial N
    last-rule = s last ∙ sym (radial-is N)

    pub series-refused : series_broken N ≡ true → refuse_series ≡ radial N
    series-refused t = sym (unless-true refuse_series _ t) ∙ last-rule

    pub series-held : series_broken N ≡ false → given N ≡ radial N
    series-held f = sym (unless-false refuse_series _ f) ∙ last-rule
