use Rattle.std.proofs.Common.{◌≡◌, false}
use Rattle.world_order.specs.EventOrder.{is_before}
use Rattle.world_order.proofs.Least.{take_least_least, take_least_IsPermutation}
use Rattle.world_order.proofs.Members.{All_from_Each}
use Rattle.world_order.proofs.laws.least_event.Goals as goal

pub returns-clause-least : goal.returns-clause-least
returns-clause-least c events rest event is = All_from_Each (λ other. is_before other event ≡ false) events (take_least_least events (event, rest) is)

pub returns-clause-kept : goal.returns-clause-kept
returns-clause-kept c events rest event is = take_least_IsPermutation events (event, rest) is
