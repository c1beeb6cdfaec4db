-- The parts of a report, one behind another.
use Rattle.std.specs.Prelude.{◌≡◌, ℕ, ◌≤◌, ◌++◌, List, length}
use Rattle.std.proofs.Common.{sym, ap, ◌∙◌, subst, arith, append_assoc}
use lib.Seq.{take_all}
use mathlib.Core.List.{Sublistᴰ}
use Rattle.model.specs.Network.{Network}
use Rattle.model.specs.Sets.{place_numbers}
use Rattle.model.specs.Walk.{Found, search}
use Rattle.model.specs.Text.{line_a, line_c, report_text}
use Rattle.model.specs.Commands.{plan_text}
use Rattle.theory.specs.Sizes.{read-sized, set_total-size}
use Rattle.theory.specs.Best.{member-place, search-answered}
use Rattle.planning.specs.declared.Plan.{Plan}
use Rattle.report.specs.Parts.{fault_lines, outcome_line, member_lines}
use Rattle.report.specs.Ready.{ArePlaces, Planned}

module _ (N : Network) (p : Plan) (a : Planned N p) where
  -- the total that the search answers is one that a file can have
  pub best-size : p.total.0 ≤ 7864320000000000
  best-size =
      let r = search-answered N a.accepted in
      omega (arith, ap (λ (f : Found). f.best) a.found, r.has_total, set_total-size N (read-sized N a.accepted.read) (search N).members)

  abbrev S : List ℕ
  S = p.members.items

  -- the members of the search are places
  pub are-places : ArePlaces N S
  are-places i h =
      let all = sym (take_all (length S) S (omega arith)) in
      let r = member-place N S (length S) (omega arith)
      (subst (λ T. Sublistᴰ T (place_numbers N)) (sym (ap (λ (f : Found). f.members) a.found) ∙ all) (search-answered N a.accepted).is_allowed.places) i h in
      record { low = r.0; high = r.1 }

  pub plan-is : outcome_line p.spent p.visits (length S) p.total.0 ++ member_lines N S ≡ plan_text N
  unfolding plan_text line_c
  plan-is = ap (λ (f : Found). line_c f ++ member_lines N f.members) a.found

-- the report ends in what the search found
pub report-is : (N : Network) → (line_a N ++ fault_lines N) ++ plan_text N ≡ report_text N
unfolding report_text plan_text
report-is N = sym (append_assoc (line_a N ++ fault_lines N) (line_c (search N)) (member_lines N (search N).members))
