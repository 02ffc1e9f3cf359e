use Rattle.std.proofs.Common.{◌∙◌, arith}
use Rattle.host_inbox.proofs.FillSteps.{fills_of}
use Rattle.host_inbox.proofs.steps.fill.Goals as goal

pub fetch_add-requires : goal.fetch_add-requires
fetch_add-requires g c =
    let seat = c.lay.new.seat in
    let places = c.args.places.now in
    let to = c.args.to in (
      c.lay.ensures.table ∙ c.requires.table,
      (let words = c.requires.words in let host = c.requires.to.0 in omega arith),
      fills_of places.key places.table_id.slots seat.id c.args.hosts to.host to.number c.args.seat.now.me.0 seat.me c.args.parcel c.requires.hosts c.requires.to.0 c.requires.to.1 c.requires.pending c.lay.ensures.laid,
    )
