use Rattle.rv32_machine.proofs.TableLaws.{effect_reservation}
use Rattle.rv32_machine.proofs.laws.reservations.Goals as goal

pub returns : goal.returns
returns c = effect_reservation
