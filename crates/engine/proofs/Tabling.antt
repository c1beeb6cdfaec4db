-- What Segments answers and leaves in the lent buffer.
use Prim.Native.Nat.{ℕ, ◌≤◌, ◌<◌}
use mathlib.Core.Path.{◌≡◌, sym, ap, ◌∙◌, subst}
use mathlib.Core.List.{List, ◌++◌}
use lib.ListN.{length, drop}
use Rattle.model.specs.Answer.{Answer, given, refused, refusal_number, refusal_record, ◌>>=◌, says}
use Rattle.model.specs.Network.{Network}
use Rattle.model.specs.Segments.{breaker_ends, segment_table, ByBreaker, Groups, BreakerByBreaker}
use Rattle.model.specs.Rules.{accepted}
use Rattle.model.specs.Calls.{written, segmented, segments_answered, segments_leaves}
use Rattle.std.specs.Prelude.{Result, Ok, Err}
use Rattle.model.specs.declared.Refusal.{Refusal}
use Rattle.model.specs.declared.Refusal.TheVariants.{ShortBuffer}
use Rattle.theory.specs.Segments.{by-breaker}
use Rattle.theory.specs.Best.{accepted-is}
use Rattle.engine.proofs.Lending.{lent-short, lent-enough}

module _ (file buffer : List ℕ) where
  -- the three claims of an answer and the buffer that it leaves
  pub record Claims (a : Result ℕ Refusal) (after : List ℕ) : Type 0 where
    pub result_value : says a ≡ segments_answered file buffer
    pub table_after : after ≡ segments_leaves file buffer
    pub breaker_by_breaker : BreakerByBreaker file a after

  -- how many entries there are, and the buffer with them
  counted : Answer Network → Answer ℕ
  counted x = x >>= λ N. given (length (breaker_ends N))

  leaves : Answer Network → List ℕ
  leaves x = written (x >>= λ N. given (segment_table N)) buffer

  network_or : Network → Answer Network → Network
  network_or M (given N) = N
  network_or M (refused n i) = M

  from-refused : (r : Refusal) → refused (refusal_number r) (refusal_record r) ≡ segmented file buffer → Claims (Err r) buffer
  unfolding segments_answered segments_leaves written BreakerByBreaker Groups counted leaves
  from-refused r e = record { result_value = ap counted e; table_after = ap leaves e; breaker_by_breaker = λ N h. tt }

  pub short-refused : length buffer < 7680 → Claims (Err ShortBuffer) buffer
  unfolding segmented
  short-refused h = from-refused ShortBuffer (sym (lent-short 7680 buffer (accepted file) h))

  module _ (h : 7680 ≤ length buffer) where
    segmented-is : accepted file ≡ segmented file buffer
    unfolding segmented
    segmented-is = sym (lent-enough 7680 buffer (accepted file) h)

    pub file-refused : (r : Refusal) → refused (refusal_number r) (refusal_record r) ≡ accepted file → Claims (Err r) buffer
    file-refused r e = from-refused r (e ∙ segmented-is)

    pub file-tabled : (N : Network) → given N ≡ accepted file → (n : ℕ) (after : List ℕ) → n ≡ length (breaker_ends N)
        → after ≡ segment_table N ++ drop (length (segment_table N)) buffer → Claims (Ok n) after
    unfolding segments_answered segments_leaves written BreakerByBreaker Groups counted leaves network_or
    file-tabled N a n after p q =
        let t : given N ≡ segmented file buffer = a ∙ segmented-is in record {
          result_value = ap (λ x. given x) p ∙ ap counted t;
          table_after = q ∙ ap leaves t;
          breaker_by_breaker = λ M k.
              subst (λ L. ByBreaker L n after) (ap (network_or N) (a ∙ k))
              (subst (λ m. ByBreaker N m after) (sym p) (subst (ByBreaker N (length (breaker_ends N))) (sym q) (by-breaker N (accepted-is file N (sym a)) _)));
        }
