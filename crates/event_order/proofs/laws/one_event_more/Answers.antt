use Rattle.event_order.specs.EventsLaws.{with_event_IsPermutation}
use Rattle.event_order.proofs.laws.one_event_more.Goals as goal

pub returns : goal.returns
returns c = with_event_IsPermutation
