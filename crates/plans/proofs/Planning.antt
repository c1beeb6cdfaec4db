-- What the plan of a file answers and leaves.
use Rattle.std.specs.Prelude.{◌≡◌, ℕ, List, length, take, drop, Ok, Err}
use Rattle.std.proofs.Common.{sym, ap, ◌∙◌, arith, length-append}
use Rattle.std.proofs.lemmas.List.{take_at}
use Rattle.model.specs.Answer.{given, refused, refusal_number, refusal_record, ◌>>=◌}
use Rattle.model.specs.Network.{Network}
use Rattle.model.specs.Rules.{accepted}
use Rattle.model.specs.declared.Refusal.{Refusal}
use Rattle.text.specs.Over.{Written}
use Rattle.plans.specs.Left.{Left}

-- a text over the start of a buffer is what its length takes of it
pub written-left : (text old new : List ℕ) (n : ℕ) → Written text old new n → Left (given text) (Ok n) new
written-left text old new n w =
    let rest : List ℕ = drop (length text) old in
    (ap (λ x. given x) (ap (take n) w.1 ∙ take_at text rest n (sym w.0)), omega (arith, w.0, ap length w.1, length-append text rest))

-- the text of a file's network, or the file's refusal
module _ (file : List ℕ) (text : Network → List ℕ) where
  pub refused-left : (r : Refusal) (out : List ℕ) → refused (refusal_number r) (refusal_record r) ≡ accepted file → Left (accepted file >>= λ N. given (text N)) (Err r) out
  refused-left r out e = (ap (λ a. a >>= λ N. given (text N)) e, tt)

  pub file-left : (N : Network) → given N ≡ accepted file → (n : ℕ) (old new : List ℕ) → Written (text N) old new n → Left (accepted file >>= λ N. given (text N)) (Ok n) new
  file-left N e n old new w =
      let p = written-left (text N) old new n w in
      (p.0 ∙ ap (λ a. a >>= λ N. given (text N)) e, p.1)
