use Rattle.std.proofs.Common.{◌∙◌, ap, sym, subst, Vec, Global}
use Rattle.std.specs.Prelude.{Box}
use Rattle.host_state.specs.HostStands.{Begins}
use Rattle.host_state.specs.declared.host.Host.{Host}
use Rattle.round_parts.specs.Arrivals.{Boxed}
use Rattle.round_lookahead.proofs.world.opening.open_host.Goals as goal

pub returns : goal.returns
returns c = record {
  id = c.new-4.ensures.id;
  host = subst (λ (b : Box Host Global). Begins c.args.row b.value) (sym c.new-4.ensures.host) (subst (Begins c.args.row) (sym c.in_ok-host.ensures.ok) c.in_ok-new.ensures);
  parcels = ap (λ (v : Vec Boxed Global). v.items) c.new-4.ensures.parcels ∙ c.new-3.ensures.items;
}
