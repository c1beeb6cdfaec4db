use Rattle.commands.proofs.Answering.{at-command}
use Rattle.commands.proofs.ask.Goals as goal

pub returns-in-Report : goal.returns-in-Report
returns-in-Report c = at-command _ _ _ _ _ c.in-Report.is c.ask_report.ensures

pub returns-in-Check : goal.returns-in-Check
returns-in-Check c = at-command _ _ _ _ _ c.in-Check.is c.ask_check.ensures

pub returns-in-Impact : goal.returns-in-Impact
returns-in-Impact c = at-command _ _ _ _ _ c.in-Impact.is c.ask_impact.ensures

pub returns-in-Total : goal.returns-in-Total
returns-in-Total c = at-command _ _ _ _ _ c.in-Total.is c.ask_total.ensures

pub returns-in-Search : goal.returns-in-Search
returns-in-Search c = at-command _ _ _ _ _ c.in-Search.is c.plan.ensures

pub returns-in-Segments : goal.returns-in-Segments
returns-in-Segments c = at-command _ _ _ _ _ c.in-Segments.is c.ask_segments.ensures

pub returns-in-Ceiling : goal.returns-in-Ceiling
returns-in-Ceiling c = at-command _ _ _ _ _ c.in-Ceiling.is (c.ask_ceiling.ensures _)
