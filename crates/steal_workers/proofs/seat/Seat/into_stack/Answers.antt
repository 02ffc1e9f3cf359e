use Rattle.steal_workers.proofs.StackLemmas.{stack_of_seat, numbers_of_seat, dealt_of_seat}
use Rattle.steal_workers.proofs.seat.Seat.into_stack.Goals as goal

pub returns-clause-stack : goal.returns-clause-stack
returns-clause-stack g c = stack_of_seat c.self.inside _ c.self.invariant c.self.view_is

pub returns-clause-numbers : goal.returns-clause-numbers
returns-clause-numbers g c = numbers_of_seat c.self.inside _ c.self.invariant c.self.view_is

pub returns-clause-dealt : goal.returns-clause-dealt
returns-clause-dealt g c = dealt_of_seat c.self.inside _ c.self.invariant c.self.view_is
