use Rattle.host_inbox.proofs.ClaimSteps.{claims_of}
use Rattle.host_inbox.proofs.steps.claim_number.Goals as goal

pub fetch_add-requires : goal.fetch_add-requires
fetch_add-requires g c =
    let seat = c.args.seat.now in
    let places = c.args.places.now in (
      c.requires.table,
      c.requires.word,
      claims_of places.key places.table_id.slots seat.id c.args.host seat.me c.requires.host c.requires.empty c.requires.few,
    )
