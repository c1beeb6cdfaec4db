-- The loop over the later places.
use Prim.Native.Nat.{ℕ, ◌+◌, ◌-◌, ◌≤◌}
use mathlib.Core.Path.{◌≡◌, refl, sym, ap, ◌∙◌, subst}
use mathlib.Core.Bool.{true}
use mathlib.Core.Logic.{◌⊎◌, inl, inr, ⊎_elim}
use mathlib.Core.List.{List, [], ◌∷◌, ◌++◌}
use native.Mathlib.Omega.{arith}
use lib.ListN.{length, length-append, take, get_or}
use Rattle.arrayvec.specs.ArrayVec.{ArrayVec}
use lib.Seq.{take-append_seam}
use Rattle.std.specs.Prelude.{Option, None, Some}
use Rattle.std.proofs.lemmas.Option.{none-some}
use Rattle.model.specs.Network.{Network}
use Rattle.model.specs.Outage.{total}
use Rattle.model.specs.Sets.{with_breakers, allowed}
use Rattle.model.specs.Walk.{Found}
use Rattle.walks.specs.Runs.{on-true}
use Rattle.theory.specs.Series.{series-rule, allowed-means}
use Rattle.relations.specs.declared.Relations.{Relations}
use Rattle.relations.specs.Lists.{Row}
use Rattle.relations.specs.Related.{later_in, row_count}
use Rattle.starts.specs.Outlook.{HoldsOutlook, no_prospect}
use Rattle.prospects.specs.declared.Prospects.{Prospects}
use Rattle.prospects.specs.Changes.{SameBefore, Changed}
use Rattle.prospects.specs.Chosen.{Before, Chosen, Without, Pending, Entering, Entered}
use Rattle.prospects.proofs.OneMore.{before-later}
use Rattle.prospects.proofs.Undoing.{changed-kept}
use Rattle.prospects.proofs.Entering.{row-wide}
use Rattle.search.specs.Walking.{found_in, visited, extended, tried, number, rest, Counted, Standing, Trying, Next, Barren, Promising, Seeking, Sought, Extending, Left, Visits, OwnNow}
use Rattle.search.specs.Walking as walking
use Rattle.search.proofs.Bounding.{barren, promising}
use Rattle.search.specs.declared.Progress.{Progress}
use Rattle.search.specs.declared.Current.{Current}
use Rattle.search.specs.declared.Course.{Course}
use Rattle.search.specs.declared.Walk.{Walk}

-- The prospects as the walk came with them, where `pending` is the last member, or with the set's own outlook, which can be undone.
pub record Own (N : Network) (relations : Relations) (S : List ℕ) (last : Option ℕ) (old now : Prospects) : Type 0 where
  pub member : ℕ
  pub is-last : last ≡ Some member
  pub few : length S ≤ 15
  pub holds : HoldsOutlook N S (member + 1) now.outlook
  pub changed : Changed (later_in relations member) (length S) 0 (length (later_in relations member)) old.outlook now.outlook now.kept

abbrev pub State : Network → Relations → List ℕ → Option ℕ → Prospects → Option ℕ → Prospects → Type 0
State N relations S last old pending now = ((pending ≡ last) × (now.outlook ≡ old.outlook)) ⊎ ((pending ≡ None) × Own N relations S last old now)

-- The next place, from which on the walk finds what it finds with all of them. With none, it has found that.
pub record Coming (N : Network) (S : List ℕ) (saved from left : ℕ) (f₀ : Found) (p : Progress) (next : ℕ) : Type 0 where
  pub low : from ≤ next
  pub promising : Promising N p.spent p.saved.0 saved next left
  pub allowed : allowed N (S ++ (next ∷ [])) ≡ true
  pub same : extended N left S next (found_in N p) ≡ extended N left S from f₀

abbrev pub Ahead : Network → List ℕ → ℕ → ℕ → ℕ → Found → Progress → Option ℕ → Type 0
Ahead N S saved from left f₀ p None = found_in N p ≡ extended N left S from f₀
Ahead N S saved from left f₀ p (Some next) = Coming N S saved from left f₀ p next

-- what the loop keeps of a course that began at another: its set has these members
pub record Keeps (w : Walk) (at : Current) (old : Course) (S : List ℕ) (pending : Option ℕ) (course : Course) : Type 0 where
  pub counted : Counted w.tables.net.now course.progress
  pub members : course.members.items ≡ S
  pub kept : SameBefore (length old.members.items) old.prospects.kept course.prospects.kept
  pub state : State w.tables.net.now w.tables.relations.now old.members.items at.last old.prospects pending course.prospects

-- the walk has come to a place
pub record Going (w : Walk) (at : Current) (from left : ℕ) (old : Course) (pending next : Option ℕ) (course : Course) : Type 0 where
  pub keeps : Keeps w at old old.members.items pending course
  pub ahead : Ahead w.tables.net.now old.members.items at.saved.0 from left (found_in w.tables.net.now old.progress) course.progress next

none-member : {last : ℕ} {o : Option ℕ} → o ≡ Some last → o ≡ None → ⊥
none-member {last} e f = none-some last (sym f ∙ e)

-- the members of a set with one more place
before_more : (q : ℕ) (S : List ℕ) → Before q S → 1 ≤ q → Before (q + 1) (S ++ (q ∷ []))
before_more q [] b l = ((l, omega arith), tt)
before_more q (p ∷ S) b l = ((b.0.0, omega (arith, b.0.1)), before_more q S b.1 l)

-- the set without its last member
rest-is : (S : List ℕ) (q : ℕ) → take (length (S ++ (q ∷ [])) - 1) (S ++ (q ∷ [])) ≡ S
rest-is S q = ap (λ n. take n (S ++ (q ∷ []))) {x = length (S ++ (q ∷ [])) - 1} {y = length S} (omega (arith, length-append S (q ∷ []))) ∙ take-append_seam S (q ∷ [])

module _ {w : Walk} {at : Current} {from left : ℕ} {old : Course} (x : Extending w old at from left) where
  abbrev N : Network
  N = w.tables.net.now

  abbrev R : Relations
  R = w.tables.relations.now

  abbrev S : List ℕ
  S = old.members.items

  abbrev f₀ : Found
  f₀ = found_in N old.progress

  chosen : Chosen N R S (number at.last)
  chosen = x.standing.chosen

  pub places-few : length N.places ≤ 64
  places-few = chosen.accepted.read.place_count

  pub few : left ≤ 16
  few = omega (arith, x.few, chosen.accepted.read.head.adds.high)

  pub saves : at.saved.0 ≤ total N
  saves = omega (arith, x.standing.saved)

  -- the last member
  module _ {last : ℕ} (e : at.last ≡ Some last) where
    last-is : number at.last ≡ last
    last-is = ap number e

    -- the set was read from the outlook without it
    without : (v : Without S last) × HoldsOutlook N v.rest last old.prospects.outlook
    without = ⊎_elim (λ s. absurd (none-member e s.0)) (λ s. subst (λ k. (v : Without S k) × HoldsOutlook N v.rest k old.prospects.outlook) last-is (s.1, s.2)) x.standing.is-pending

    low : 1 ≤ last
    low = without.0.low

    row-of : Row (later_in R last) last 65
    row-of = row-wide (omega (arith, places-few)) (x.later.each last low (omega (arith, last-is, chosen.high))).row

    row-there : last ≤ row_count R
    row-there = omega (arith, last-is, chosen.high, x.later.rows)

  -- what leaving the set asks for
  pub leaving : {pending : Option ℕ} {course : Course} → Keeps w at old S pending course → walking.Leaving w.tables at.last pending course
  leaving k last e f = ⊎_elim (λ s. absurd (none-member (s.0 ∙ e) f)) (λ s. (omega (arith, ap length k.members, s.1.few), low e, row-there e, λ i h. omega (arith, (row-of e).later i h))) k.state

  -- a state of the prospects
  module _ {pending : Option ℕ} {now : Prospects} (s : State N R S at.last old.prospects pending now) where
    is-pending : Pending N now.outlook S (number at.last) pending
    is-pending = ⊎_elim
        (λ s. rw (s.1, s.0) x.standing.is-pending)
        (λ s. inl (s.0, subst (λ k. HoldsOutlook N S (k + 1) now.outlook) (sym (ap number s.1.is-last)) s.1.holds))
        s

    standing : Standing N R now.outlook S at pending
    standing = record {
      chosen = chosen;
      is-pending = is-pending;
      saved = x.standing.saved;
      cost = x.standing.cost;
      hours = x.standing.hours;
      affordable = x.standing.affordable;
      timely = x.standing.timely;
    }

    -- it stays while the rows after the set's own change
    state-after : {now' : Prospects} → now'.outlook ≡ now.outlook → SameBefore (length S + 1) now.kept now'.kept → State N R S at.last old.prospects pending now'
    state-after {now'} f u = ⊎_elim
        (λ s. inl (s.0, f ∙ s.1))
        (λ s. inr (
          s.0,
          record {
            member = s.1.member;
            is-last = s.1.is-last;
            few = s.1.few;
            holds = rw f s.1.holds;
            changed = rw f (changed-kept (row-of s.1.is-last) (omega arith) u s.1.changed);
          },
        ))
        s

    -- the set is entered, where one member is pending
    module _ (room : length S ≤ 15) where
      entering : (last : ℕ) → pending ≡ Some last → Entering N R S (length S) last now
      entering last e = ⊎_elim
          (λ s.
          let l = sym s.0 ∙ e in
          let v = without l in
          record {
            chosen = subst (Chosen N R S) (last-is l) chosen;
            later = x.later;
            without = v.0;
            holds = rw s.1 v.1;
            few = room;
          })
          (λ s. absurd (none-member e s.0))
          s

      -- and has its own outlook
      abbrev Owned : Prospects → Type 0
      Owned now' = HoldsOutlook N S (number at.last + 1) now'.outlook × State N R S at.last old.prospects None now' × SameBefore (length S) now.kept now'.kept

      owned-some : {now' : Prospects} (last : ℕ) → pending ≡ Some last → Entered N R S (length S) last now now' → Owned now'
      owned-some {now'} last e n = ⊎_elim
          (λ s.
          let l = sym s.0 ∙ e in (
            subst (λ k. HoldsOutlook N S (k + 1) now'.outlook) (sym (last-is l)) n.own,
            inr (refl, record { member = last; is-last = l; few = room; holds = n.own; changed = rw (sym s.1) n.changed }),
            n.below,
          ))
          (λ s. absurd (none-member e s.0))
          s

      owned-none : {now' : Prospects} → pending ≡ None → now' ≡ now → Owned now'
      owned-none e q = rw q (
        ⊎_elim (λ t. t.1) (λ t. absurd (none-member t.0 e)) is-pending,
        subst (λ o. State N R S at.last old.prospects o now) e s,
        λ k l. refl,
      )

      owned : {now' : Prospects} → (pending ≡ None → now' ≡ now) → ((last : ℕ) → pending ≡ Some last → Entered N R S (length S) last now now') → Owned now'
      owned {now'} a b = go pending refl
        where
          go : (o : Option ℕ) → pending ≡ o → Owned now'
          go None e = owned-none e (a e)
          go (Some last) e = owned-some last e (b last e)

  -- the place after which no other is tried yet
  coming : (p : Progress) {next : Option ℕ} {place : ℕ} → Ahead N S at.saved.0 from left f₀ p next → next ≡ Some place → Coming N S at.saved.0 from left f₀ p place
  coming p a e = subst (Ahead N S at.saved.0 from left f₀ p) e a

  pub done : (p : Progress) {next : Option ℕ} → Ahead N S at.saved.0 from left f₀ p next → next ≡ None → found_in N p ≡ extended N left S from f₀
  done p a e = subst (Ahead N S at.saved.0 from left f₀ p) e a

  ahead-after : (p : Progress) (next : Option ℕ) (place : ℕ) → from ≤ place → extended N left S place (found_in N p) ≡ extended N left S from f₀ → Sought N S at.saved.0 place left p next → Ahead N S at.saved.0 from left f₀ p next
  ahead-after p None place l e s = s (found_in N p) refl refl ∙ e
  ahead-after p (Some next) place l e s = record { low = omega (arith, l, s.low); promising = s.promising; allowed = s.allowed; same = s.same (found_in N p) refl refl ∙ e }

  -- the set with the place, visited and extended or not
  pub record Halfway (place : ℕ) (pending : Option ℕ) (course : Course) : Type 0 where
    pub keeps : Keeps w at old (S ++ (place ∷ [])) pending course
    pub same : extended N left S (place + 1) (found_in N course.progress) ≡ extended N left S from f₀

  module _ {pending next : Option ℕ} {course : Course} (g : Going w at from left old pending next course) {place : ℕ} (e : next ≡ Some place) where
    abbrev come : Coming N S at.saved.0 from left f₀ course.progress place
    come = coming course.progress g.ahead e

    -- the place is tried
    pub trying : Trying N R course.prospects.outlook course.members.items at pending place
    trying = rw g.keeps.members (record { standing = standing g.keeps.state; low = omega (arith, x.low, come.low); high = come.promising.high; few = omega (arith, x.few, come.promising.some) })

    pub some : 1 ≤ left
    some = omega (arith, come.promising.some)

    room : length S ≤ 15
    room = omega (arith, x.few, some, chosen.accepted.read.head.adds.high)

    abbrev T : List ℕ
    T = S ++ (place ∷ [])

    tried-is : extended N left S (place + 1) (tried N (left - 1) S place (found_in N course.progress)) ≡ extended N left S from f₀
    tried-is = sym (promising N S left place (found_in N course.progress) at.saved.0 g.keeps.counted.saved refl x.standing.saved come.promising) ∙ come.same

    -- the set with the place is visited
    module _ {more : Current} (n : Next N course.members.items at place more) {pushed v : Course}
        (i : pushed.members.items ≡ course.members.items ++ (place ∷ [])) (q : pushed.prospects ≡ course.prospects) (r : pushed.progress ≡ course.progress) (vs : Visits N pushed v) where
      next-place : Next N S at place more
      next-place = subst (λ U. Next N U at place more) g.keeps.members n

      pushed-is : pushed.members.items ≡ T
      pushed-is = i ∙ ap (λ U. U ++ (place ∷ [])) g.keeps.members

      T-is : v.members.items ≡ T
      T-is = ap (λ (m : ArrayVec ℕ). m.items) vs.members ∙ pushed-is

      prospects-are : v.prospects ≡ course.prospects
      prospects-are = vs.prospects ∙ q

      found-is : found_in N v.progress ≡ visited N T (found_in N course.progress)
      found-is = vs.found ∙ (λ k. visited N (pushed-is k) (found_in N (r k)))

      tried-allowed : extended N (left - 1) T (place + 1) (found_in N v.progress) ≡ tried N (left - 1) S place (found_in N course.progress)
      unfolding tried
      tried-allowed = ap (extended N (left - 1) T (place + 1)) found-is ∙ sym (on-true _ _ come.allowed)

      keeps-v : Keeps w at old T pending v
      keeps-v = record {
        counted = vs.counted;
        members = T-is;
        kept = λ k l. ap (λ (p : Prospects). get_or p.kept k no_prospect) prospects-are ∙ g.keeps.kept k l;
        state = subst (State N R S at.last old.prospects pending) (sym prospects-are) g.keeps.state;
      }

      -- and not extended
      pub not-deeper : Barren N v.progress.spent v.progress.saved.0 more.saved.0 (place + 1) (left - 1) → Halfway place pending v
      not-deeper b = record {
        keeps = keeps-v;
        same = ap (extended N left S (place + 1)) (sym (barren N T (left - 1) (place + 1) (found_in N v.progress) more.saved.0 vs.counted.saved refl next-place.saved b) ∙ tried-allowed) ∙ tried-is;
      }

      rest-v : rest v.members.items ≡ S
      rest-v = ap rest T-is ∙ rest-is S place

      -- it gets its own outlook, if it has none
      pub entering-v : walking.Entering w.tables v pending
      entering-v = record {
        some = omega (arith, ap length T-is, length-append S (place ∷ []));
        entering = λ last l. subst (λ U. Entering N R U (length U) last v.prospects) (sym rest-v) (subst (Entering N R S (length S) last) (sym prospects-are) (entering g.keeps.state room last l));
      }

      -- it has it
      module _ {en : Course} (o : OwnNow w.tables pending v en) where
        own : Owned g.keeps.state room en.prospects
        own = owned g.keeps.state room
            (λ l. o.same l ∙ prospects-are)
            (λ last l. subst (λ p. Entered N R S (length S) last p en.prospects) prospects-are (subst (λ U. Entered N R U (length U) last v.prospects en.prospects) rest-v (o.entered last l)))

        en-is : en.members.items ≡ T
        en-is = ap (λ (m : ArrayVec ℕ). m.items) o.members ∙ T-is

        before : Before place S
        before = before-later (number at.last + 1) place S (omega (arith, x.low, come.low)) chosen.members

        low-place : 1 ≤ place
        low-place = omega (arith, x.low, come.low)

        chosen-more : Chosen N R T place
        chosen-more = record {
          accepted = chosen.accepted;
          related = chosen.related;
          high = come.promising.high;
          members = before_more place S before low-place;
          series = (series-rule (with_breakers N T)).1 ((allowed-means N T).0 come.allowed).series;
        }

        standing-more : Standing N R en.prospects.outlook T more more.last
        standing-more = record {
          chosen = subst (λ l. Chosen N R T (number l)) (sym n.last) chosen-more;
          is-pending = subst (λ l. Pending N en.prospects.outlook T (number l) l) (sym n.last)
              (inr (refl, record { rest = S; low = low-place; is = refl; before = before }, λ p a b. own.0 p (omega (arith, x.low, come.low)) b));
          saved = next-place.saved;
          cost = next-place.cost;
          hours = next-place.hours;
          affordable = omega (arith, next-place.cost, ((allowed-means N T).0 come.allowed).money);
          timely = omega (arith, next-place.hours, ((allowed-means N T).0 come.allowed).hours);
        }

        -- the set with the place is extended
        pub extending : Extending w en more (place + 1) (left - 1)
        extending = record {
          tables = x.tables;
          later = x.later;
          table = x.table;
          standing = subst (λ U. Standing N R en.prospects.outlook U more more.last) (sym en-is) standing-more;
          counted = subst (Counted N) (sym o.progress) vs.counted;
          low = omega (arith, ap number n.last);
          high = omega (arith, come.promising.high);
          few = omega (arith, ap length en-is, length-append S (place ∷ []), x.few, some);
        }

        pub deeper : {ex : Course} → Left N (extended N (left - 1) en.members.items (place + 1) (found_in N en.progress)) en ex → Halfway place None ex
        deeper {ex} l =
            let kept : SameBefore (length S + 1) en.prospects.kept ex.prospects.kept = subst (λ m. SameBefore m en.prospects.kept ex.prospects.kept) (ap length en-is ∙ length-append S (place ∷ [])) l.kept in
            record {
              keeps = record {
                counted = l.counted;
                members = l.members ∙ en-is;
                kept = λ k m. kept k (omega arith) ∙ own.2 k m ∙ g.keeps.kept k m;
                state = state-after own.1 l.outlook kept;
              };
              same =
                  ap (extended N left S (place + 1)) (l.found ∙ (λ k. extended N (left - 1) (en-is k) (place + 1) (found_in N (o.progress k))) ∙ tried-allowed)
                  ∙ tried-is;
            }

    -- the place is taken out again
    module _ {pending' : Option ℕ} {course' : Course} (h : Halfway place pending' course') {popped : List ℕ} (r : popped ≡ rest course'.members.items) where
      popped-is : popped ≡ S
      popped-is = r ∙ ap rest h.keeps.members ∙ rest-is S place

      -- the next place is sought
      pub seeking : Seeking N R w.bounds.now course'.prospects.outlook popped at pending' (place + 1) left course'.progress
      seeking = subst (λ U. Seeking N R w.bounds.now course'.prospects.outlook U at pending' (place + 1) left course'.progress) (sym popped-is) (record {
        standing = standing h.keeps.state;
        table = x.table;
        counted = h.keeps.counted;
        low = omega (arith, x.low, come.low);
        high = omega (arith, come.promising.high);
        few = x.few;
      })

      -- and the walk has come to it
      pub going-on : {next' : Option ℕ} (on : Course) → on.members.items ≡ popped → on.prospects ≡ course'.prospects → on.progress ≡ course'.progress
          → Sought N popped at.saved.0 (place + 1) left course'.progress next' → Going w at from left old pending' next' on
      going-on {next'} on m p q s = record {
        keeps = record {
          counted = subst (Counted N) (sym q) h.keeps.counted;
          members = m ∙ popped-is;
          kept = subst (λ o. SameBefore (length S) old.prospects.kept o.kept) (sym p) h.keeps.kept;
          state = subst (State N R S at.last old.prospects pending') (sym p) h.keeps.state;
        };
        ahead = subst (λ o. Ahead N S at.saved.0 from left f₀ o next') (sym q)
            (ahead-after course'.progress next' (place + 1) (omega (arith, come.low)) h.same (subst (λ U. Sought N U at.saved.0 (place + 1) left course'.progress next') popped-is s));
      }
