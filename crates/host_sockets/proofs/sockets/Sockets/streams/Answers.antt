use Rattle.std.proofs.Common.{◌≡◌, [], ap, ◌∙◌}
use Rattle.std.specs.List.{fold}
use Rattle.std.proofs.lemmas.Result.{IfOk-weaker}
use Rattle.host_sockets.specs.Streams.{with_carried, streams_of}
use Rattle.host_sockets.specs.inside.Told.{all_told}
use Rattle.host_sockets.proofs.sockets.Sockets.streams.Goals as goal

pub returns : goal.returns
unfolding streams_of
returns c =
    IfOk-weaker c.listed.result (λ streams. streams.items ≡ all_told c.in_ok-pairs.pairs.entries) _
    (λ streams is t h. is ∙ (c.in_ok-pairs.ensures ∙ ap (fold with_carried []) (c.as_slice.ensures.value ∙ c.in_ok-all.ensures t h))) c.listed.ensures
