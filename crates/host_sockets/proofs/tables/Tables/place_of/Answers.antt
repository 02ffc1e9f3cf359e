use Rattle.std.proofs.Common.{position, sym, ap, ◌∙◌}
use Rattle.std.specs.HashMap.{get}
use Rattle.host_sockets.specs.declared.slots.Sought.{Sought}
use Rattle.host_sockets.specs.inside.Ends.{same_ends}
use Rattle.host_sockets.specs.inside.Lookup.{is_sought}
use Rattle.host_sockets.proofs.EndsFound.{among_one, among_none}
use Rattle.host_sockets.proofs.tables.Tables.place_of.Goals as goal

pub returns-in-Some-clause-place : goal.returns-in-Some-clause-place
returns-in-Some-clause-place c = λ sockets h.
    c.first_among.ensures.place sockets h
    (among_one (get same_ends c.args.self.now.places) c.args.self.now.ears.items c.args.last c.args.socks.now c.in-Record.own c.in-Record.other c.in-Some.place.now c.requires (sym c.in-Some.ensures.value))
    ∙ ap (λ (x : Sought). position (is_sought x) sockets) (sym c.in-Record.is)

pub returns-in-None-clause-place : goal.returns-in-None-clause-place
returns-in-None-clause-place c = λ sockets h.
    c.first_among-in-None.ensures.place sockets h
    (among_none (get same_ends c.args.self.now.places) c.args.self.now.ears.items c.args.last c.args.socks.now c.in-Record.own c.in-Record.other c.requires (sym c.in-None.ensures.value))
    ∙ ap (λ (x : Sought). position (is_sought x) sockets) (sym c.in-Record.is)
