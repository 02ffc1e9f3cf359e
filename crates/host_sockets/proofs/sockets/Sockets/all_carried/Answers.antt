use Rattle.std.proofs.Common.{◌++◌, map, sym, ap, ◌∙◌}
use Rattle.std.specs.List.{flat_map}
use Rattle.std.proofs.lemmas.List.{map-append}
use Rattle.sock_tcp.specs.connection.Carried.{carried_of}
use Rattle.host_sockets.specs.Records.{records_at}
use Rattle.host_sockets.proofs.sockets.Sockets.all_carried.Goals as goal

pub returns : goal.returns
returns c = λ t h.
    c.in_ok-extend_from_slice.ensures.items
    ∙ (ap (λ xs. xs ++ c.as_slice.result.now) (c.in_ok-all.ensures t h)
    ∙ (ap (λ xs. map carried_of (flat_map records_at t.tcp) ++ xs) (c.as_slice.ensures.value ∙ h.gone)
    ∙ sym (map-append carried_of (flat_map records_at t.tcp) t.gone)))
