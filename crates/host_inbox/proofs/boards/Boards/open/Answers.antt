use Rattle.std.proofs.Common.{◌∙◌}
use Rattle.host_inbox.proofs.SeatSteps.{opens}
use Rattle.host_inbox.proofs.boards.Boards.open.Goals as goal

pub vacant-requires : goal.vacant-requires
vacant-requires g c =
    opens (record { hosts = c.args.hosts; seats = c.args.seats }) c.as_slice.result.now c.requires.seats.1 (c.as_slice.ensures.value ∙ c.in_ok-words.ensures)
