-- Records of one kind, in turn.
use mathlib.Core.Path.{◌≡◌, refl, sym, ap, ap₂, ◌∙◌}
use mathlib.Core.List.{List, [], ◌∷◌, ◌++◌, map, append_assoc, append-nil}
use Prim.Native.Nat.{ℕ, suc, ◌+◌}
use Rattle.model.specs.declared.Head.{Head}
use Rattle.model.specs.Answer.{Answer, given, refused, ◌>>=◌}
use Rattle.model.specs.Format.{Record}
use Rattle.model.specs.Network.{Network, Station, Kind, kind_s, kind_l, station_of, line_of, read_record, read_records}
use Rattle.network.specs.Changed.{with_lines, with_one_more_station, with_one_more_line}
use Rattle.records.specs.Records.{next_record}
use Rattle.reader.specs.Reading.{more_stations, more_lines}

-- one step after the other
pub in-turn : {A B C : Type 0} (a : Answer A) (f : A → Answer B) (g : B → Answer C) → ((a >>= f) >>= g) ≡ (a >>= λ x. f x >>= g)
in-turn (given x) f g = refl
in-turn (refused number place) f g = refl

-- A part of a network, which records of a kind say: `put` puts what some of them say behind what there is of it, and `add` what one says.
pub record Part : Type 0 where
  pub kind : Kind
  pub put : Network → List (List ℕ) → Network
  pub add : Network → List ℕ → Network
  pub put-none : (N : Network) → put N [] ≡ N
  pub put-first : (N : Network) (v : List ℕ) (vs : List (List ℕ)) → put N (v ∷ vs) ≡ put (add N v) vs

-- the network with so much more of a part, in a file with the head `h`, and the records behind it
unfoldable pub turns : Part → Head → Network → (i count : ℕ) → List Record → Answer (Network × List Record)
unfolding read_records
turns t h N i n rs = read_records h.stations h.lines i t.kind n rs >>= λ p. given (t.put N p.0, p.1)

module _ (t : Part) (h : Head) (N : Network) (i : ℕ) (rs : List Record) (left : ℕ) where
  pub turned : left ≡ 0 → turns t h N i left rs ≡ given (N, rs)
  unfolding turns read_records
  turned e = ap (λ (n : ℕ). turns t h N i n rs) e ∙ ap (λ (M : Network). given (M, rs)) (t.put-none N)

  module _ (n : ℕ) (e : left ≡ suc n) where
    behind : List ℕ × List Record → Answer (Network × List Record)
    behind q = read_records h.stations h.lines (i + 1) t.kind n q.1 >>= λ p. given (t.put N (q.0 ∷ p.0), p.1)

    first_of : (rs : List Record) → turns t h N i (suc n) rs ≡ (next_record h.stations h.lines i t.kind rs >>= behind)
    unfolding turns read_records next_record behind
    first_of [] = refl
    first_of (r ∷ rs) =
        in-turn {B = List (List ℕ) × List Record} (read_record h.stations h.lines i t.kind r) (λ vs. read_records h.stations h.lines (i + 1) t.kind n rs >>= λ p. given (vs ∷ p.0, p.1)) (λ p. given (t.put N p.0, p.1))
        ∙ ap (λ (f : List ℕ → Answer (Network × List Record)). read_record h.stations h.lines i t.kind r >>= f)
        (λ j vs. in-turn {B = List (List ℕ) × List Record} (read_records h.stations h.lines (i + 1) t.kind n rs) (λ p. given (vs ∷ p.0, p.1)) (λ p. given (t.put N p.0, p.1)) j)
        ∙ sym (in-turn {B = List ℕ × List Record} (read_record h.stations h.lines i t.kind r) (λ vs. given (vs, rs)) behind)

    with-next : (a : Answer (List ℕ × List Record)) → a ≡ next_record h.stations h.lines i t.kind rs → turns t h N i left rs ≡ (a >>= behind)
    with-next a f = ap (λ (m : ℕ). turns t h N i m rs) e ∙ first_of rs ∙ ap (λ (b : Answer (List ℕ × List Record)). b >>= behind) (sym f)

    pub stopped : (number place : ℕ) → refused number place ≡ next_record h.stations h.lines i t.kind rs → turns t h N i left rs ≡ refused number place
    stopped number place f = with-next (refused number place) f

    pub turn : (vs : List ℕ) (rest : List Record) → given (vs, rest) ≡ next_record h.stations h.lines i t.kind rs → (M : Network) → M ≡ t.add N vs → (j : ℕ) → j ≡ i + 1
        → turns t h N i left rs ≡ turns t h M j n rest
    unfolding turns behind
    turn vs rest f M m j k =
        with-next (given (vs, rest)) f
        ∙ go (read_records h.stations h.lines (i + 1) t.kind n rest)
        ∙ sym (ap₂ (λ (M : Network) (j : ℕ). turns t h M j n rest) m k)
      where
        go : (a : Answer (List (List ℕ) × List Record))
            → ◌≡◌ {A = Answer (Network × List Record)} (◌>>=◌ {B = Network × List Record} a (λ p. given (t.put N (vs ∷ p.0), p.1))) (◌>>=◌ {B = Network × List Record} a (λ p. given (t.put (t.add N vs) p.0, p.1)))
        go (given p) = ap (λ (M : Network). given (M, p.1)) (t.put-first N vs p.0)
        go (refused number place) = refl

-- the stations, and the lines
unfoldable pub stations_part : Part
unfolding with_one_more_station
stations_part =
    let with : Network → List Station → Network = λ N ss. record { head = N.head; stations = ss; lines = N.lines; places = N.places } in record {
      kind = kind_s;
      put = λ N vs. with N (N.stations ++ map station_of vs);
      add = λ N v. with_one_more_station N (station_of v);
      put-none = λ N. ap (with N) (append-nil N.stations);
      put-first = λ N v vs. ap (with N) (sym (append_assoc N.stations (station_of v ∷ []) (map station_of vs)));
    }

unfoldable pub lines_part : Part
unfolding with_lines with_one_more_line
lines_part = record {
  kind = kind_l;
  put = λ N vs. with_lines N (N.lines ++ map line_of vs);
  add = λ N v. with_one_more_line N (line_of v);
  put-none = λ N. ap (with_lines N) (append-nil N.lines);
  put-first = λ N v vs. ap (with_lines N) (sym (append_assoc N.lines (line_of v ∷ []) (map line_of vs)));
}

-- as many as the head says
module _ (N : Network) (i : ℕ) (rs : List Record) (h : Head) (e : h ≡ N.head) (left : ℕ) where
  pub stations-turn : left ≡ h.stations → turns stations_part h N i left rs ≡ more_stations N i N.head.stations rs
  unfolding turns more_stations stations_part
  stations-turn f = ap (λ (n : ℕ). turns stations_part h N i n rs) f ∙ ap (λ (g : Head). turns stations_part g N i g.stations rs) e

  pub lines-turn : left ≡ h.lines → turns lines_part h N i left rs ≡ more_lines N i N.head.lines rs
  unfolding turns more_lines lines_part with_lines
  lines-turn f = ap (λ (n : ℕ). turns lines_part h N i n rs) f ∙ ap (λ (g : Head). turns lines_part g N i g.lines rs) e
