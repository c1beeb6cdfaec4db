-- What the loop over the lines keeps: the labels of the stations tell what the lines before one connect.
use Rattle.std.specs.Prelude.{ℕ, ◌+◌, ◌-◌, ◌≤◌, ◌<◌, ◌≡◌, refl, Bool, true, false, not, ◌&&◌, ◌≢◌, ◌⊎◌, List, length, get_or}
use Rattle.std.proofs.Common.{sym, ap, ◌∙◌, subst, inl, inr, arith}
use Rattle.std.proofs.lemmas.Bool.{not-true, not-false}
use Rattle.model.specs.Lists.{first_or}
use Rattle.model.specs.Network.{Network}
use Rattle.model.specs.Paths.{end1, end2, is_open, station_at, line_numbers}
use Rattle.model.specs.Rules.{both_open, some_path_returns}
use Rattle.graphs.specs.Labels.{relabel}
use Rattle.savings.specs.Facts.{both}
use Rattle.theory.specs.Reading.{Read}
use Rattle.theory.specs.Labels.{label_of, Labelled, labelled-start, labelled-skip, labelled-return, labelled-join, labelled-end}
use Rattle.end_rules.specs.First.{first-zero}
use Rattle.radial.specs.Stations.{few-stations}

pub record Running (N : Network) (line : ℕ) (labels : List ℕ) : Type 0 where
  pub low : 1 ≤ line
  pub inside : line ≤ length N.lines + 1
  pub long : length labels ≡ 512
  pub labelled : Labelled N (line - 1) labels

module _ {N : Network} (d : Read N) where
  pub running-start : (labels : List ℕ) → length labels ≡ 512 → ((k : ℕ) → k < 512 → get_or labels k 0 ≡ k + 1) → Running N 1 labels
  running-start labels e h = record {
    low = omega arith;
    inside = omega arith;
    long = e;
    labelled = labelled-start N d labels (λ s m n. omega (arith, h (s - 1) (omega (arith, few-stations d))));
  }

  -- a line follows
  module _ (rule4 : first_or 0 (both_open N) (line_numbers N) ≡ 0) {l : ℕ} {labels : List ℕ} (r : Running N l labels) (h : l ≤ length N.lines) where
    -- its number is one more than the number of lines before it
    same : l - 1 + 1 ≡ l
    same = omega (arith, r.low)

    some-closed : both_open N (l - 1 + 1) ≡ false
    unfolding line_numbers
    some-closed = first-zero (both_open N) (length N.lines) rule4 (l - 1 + 1) (omega arith) (omega (arith, same))

    next : {labels' : List ℕ} → length labels' ≡ 512 → Labelled N (l - 1 + 1) labels' → Running N (l + 1) labels'
    next {labels'} e k = record { low = omega arith; inside = omega arith; long = e; labelled = subst (λ n. Labelled N n labels') (omega (arith, same)) k }

    pub running-skip : (not (is_open N (end1 l)) && not (is_open N (end2 l))) ≡ false → Running N (l + 1) labels
    running-skip q = next r.long (labelled-skip N d (l - 1) labels (omega (arith, same)) some-closed r.labelled (open-end (is_open N (end1 (l - 1 + 1))) (is_open N (end2 (l - 1 + 1))) (rw same q)))
      where
        open-end : (x y : Bool) → (not x && not y) ≡ false → (x ≡ true) ⊎ (y ≡ true)
        open-end true y e = inl refl
        open-end false y e = inr (not-false y e)

    module _ (q : (not (is_open N (end1 l)) && not (is_open N (end2 l))) ≡ true) where
      closed1 : is_open N (end1 (l - 1 + 1)) ≡ false
      closed1 = rw same (not-true (is_open N (end1 l)) (both (not (is_open N (end1 l))) (not (is_open N (end2 l))) q).0)

      closed2 : is_open N (end2 (l - 1 + 1)) ≡ false
      closed2 = rw same (not-true (is_open N (end2 l)) (both (not (is_open N (end1 l))) (not (is_open N (end2 l))) q).1)

      -- the stations of its ends
      module _ {s t : ℕ} (e1 : s ≡ station_at N (end1 l)) (e2 : t ≡ station_at N (end2 l)) where
        label1 : label_of labels (station_at N (end1 (l - 1 + 1))) ≡ label_of labels s
        label1 = ap (λ n. label_of labels (station_at N (end1 n))) same ∙ ap (label_of labels) (sym e1)

        label2 : label_of labels (station_at N (end2 (l - 1 + 1))) ≡ label_of labels t
        label2 = ap (λ n. label_of labels (station_at N (end2 n))) same ∙ ap (label_of labels) (sym e2)

        pub running-return : label_of labels s ≡ label_of labels t → true ≡ some_path_returns N
        running-return e = sym (labelled-return N d (l - 1) labels (omega (arith, same)) some-closed r.labelled closed1 closed2 (label1 ∙ e ∙ sym label2))

        pub running-join : {labels' : List ℕ} → label_of labels s ≢ label_of labels t → length labels' ≡ 512
            → ((k : ℕ) → k < 512 → get_or labels' k 0 ≡ relabel (label_of labels s) (label_of labels t) (get_or labels k 0)) → Running N (l + 1) labels'
        running-join {labels'} e long g = next long
            (labelled-join N d (l - 1) labels (omega (arith, same)) some-closed r.labelled closed1 closed2 labels' (λ p. e (sym label1 ∙ p ∙ label2))
            (λ u m n. g (u - 1) (omega (arith, few-stations d)) ∙ (λ i. relabel (sym label1 i) (sym label2 i) (label_of labels u))))

  pub running-end : {l : ℕ} {labels : List ℕ} → length N.lines < l → Running N l labels → (false ≡ some_path_returns N) × Labelled N (length N.lines) labels
  running-end {l} {labels} h r = (sym (labelled-end N d labels whole), whole)
    where
      whole : Labelled N (length N.lines) labels
      whole = subst (λ n. Labelled N n labels) (omega (arith, r.inside)) r.labelled
