use Rattle.std.specs.Prelude.{eqb}
use Rattle.std.proofs.Common.{ap, ◌∙◌, sym}
use Rattle.model.specs.Network.{Station}
use Rattle.model.specs.Paths.{is_hv}
use Rattle.network.specs.View.{role_number}
use Rattle.network.proofs.Network.is_hv.Goals as goal

pub returns-in-Hv : goal.returns-in-Hv
unfolding is_hv
returns-in-Hv c = sym (ap (λ r. eqb (role_number r) 1) c.in-Hv.is) ∙ ap (λ (s : Station). eqb s.role 1) c.station.ensures

pub returns-in-Mv : goal.returns-in-Mv
unfolding is_hv
returns-in-Mv c = sym (ap (λ r. eqb (role_number r) 1) c.in-Mv.is) ∙ ap (λ (s : Station). eqb s.role 1) c.station.ensures
