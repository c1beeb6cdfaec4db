-- What Search answers and leaves in the lent buffer.
use Rattle.std.specs.Prelude.{◌≡◌, ℕ, ◌≤◌, ◌<◌, not, List, ◌++◌, length, take, drop, Result, Ok, Err}
use Rattle.std.proofs.Common.{refl, sym, ap, ◌∙◌, subst}
use Rattle.std.proofs.lemmas.List.{take_at}
use Rattle.model.specs.Answer.{Answer, given, refused, refusal_number, refusal_record, ◌>>=◌, says}
use Rattle.model.specs.Network.{Network}
use Rattle.model.specs.Rules.{accepted}
use Rattle.model.specs.Walk.{Found, search}
use Rattle.model.specs.Calls.{written, outcome_of, searched, search_answered, search_leaves}
use Rattle.model.specs.Demand.{Answered, Answers, Demand3}
use Rattle.model.specs.declared.Outcome.{Outcome}
use Rattle.model.specs.declared.Refusal.{Refusal}
use Rattle.model.specs.declared.Refusal.TheVariants.{ShortBuffer}
use Rattle.planning.specs.declared.Plan.{Plan}
use Rattle.planning.specs.Planned.{plan_found}
use Rattle.theory.specs.Best.{accepted-is, search-answered}
use Rattle.engine.proofs.Lending.{lent-short, lent-enough}
use Rattle.engine.proofs.Answers.{refused-on, given-on}

-- what the search of a file finds
abbrev file_found : List ℕ → Answer Found
file_found file = accepted file >>= λ N. given (search N)

module _ (file buffer : List ℕ) where
  -- the three claims of an answer and the buffer that it leaves
  pub record Claims (a : Result Outcome Refusal) (after : List ℕ) : Type 0 where
    pub result_value : says a ≡ search_answered file buffer
    pub members_after : after ≡ search_leaves file buffer
    pub demand3 : Demand3 file a after

  outcome : Answer Found → Answer Outcome
  outcome x = x >>= λ f. given (outcome_of f)

  leaves : Answer Found → List ℕ
  leaves x = written (x >>= λ f. given f.members) buffer

  from-refused : (r : Refusal) → refused (refusal_number r) (refusal_record r) ≡ searched file buffer → Claims (Err r) buffer
  unfolding search_answered search_leaves written Demand3 Answers outcome leaves
  from-refused r e = record { result_value = ap outcome e; members_after = ap leaves e; demand3 = λ N h. tt }

  pub short-refused : length buffer < 16 → Claims (Err ShortBuffer) buffer
  unfolding searched
  short-refused h = from-refused ShortBuffer (sym (lent-short 16 buffer (file_found file) h))

  module _ (h : 16 ≤ length buffer) where
    searched-is : file_found file ≡ searched file buffer
    unfolding searched
    searched-is = sym (lent-enough 16 buffer (file_found file) h)

    pub file-refused : (r : Refusal) → refused (refusal_number r) (refusal_record r) ≡ accepted file → Claims (Err r) buffer
    file-refused r e = from-refused r (refused-on file (λ N. given (search N)) e ∙ searched-is)

    -- the members are written over the start of the buffer
    module _ (N : Network) (a : given N ≡ accepted file) (p : Plan) (found : plan_found p ≡ search N)
        (after : List ℕ) (put : after ≡ p.members.items ++ drop (length p.members.items) buffer) where
      abbrev S : List ℕ
      S = p.members.items

      e : given (plan_found p) ≡ file_found file
      e = ap (λ f. given f) found ∙ given-on file (λ M. given (search M)) a

      kept : take (length S) after ≡ S
      kept = ap (take (length S)) put ∙ take_at S (drop (length S) buffer) (length S) refl

      same : (M : Network) → accepted file ≡ given M → search M ≡ plan_found p
      same M b = sym (ap found_or (e ∙ ap (λ x. x >>= λ M. given (search M)) b))
        where
          found_or : Answer Found → Found
          found_or (given f) = f
          found_or (refused n i) = plan_found p

      pub file-answered : Claims (Ok (outcome_of (plan_found p))) after
      unfolding search_answered search_leaves written Demand3 Answers outcome leaves
      file-answered = record {
        result_value = ap outcome (e ∙ searched-is);
        members_after = put ∙ ap leaves (e ∙ searched-is);
        demand3 = λ M b.
            subst (λ T. Answered M (not p.spent) T p.total.0 p.visits) (sym kept)
            (subst (λ (f : Found). Answered M (not f.spent) f.members f.best f.visits) (same M b) (search-answered M (accepted-is file M b)));
      }
