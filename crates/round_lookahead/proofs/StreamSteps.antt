-- What the hosts of a world keep of their connections.
use Rattle.std.proofs.Common.{◌≡◌, ℕ, ◌+◌, ◌<◌, ◌≤◌, ◌^◌, List, [], ◌∷◌, ◌++◌, length, map, take, get_or, slice_get, Some, sym, ap, ◌∙◌, arith}
use Rattle.std.proofs.lemmas.List.{length-map, map-append, take_all, take_more}
use Rattle.std.proofs.lemmas.Option.{get_or_from_slice_get, slice_get-get_or}
use Rattle.sim_base.specs.declared.host.HostId.{HostId}
use Rattle.host_state.specs.HostRecord.{HostRecord}
use Rattle.host_state.specs.HostStands.{Stands}
use Rattle.host_state.specs.WorldStreams.{kept_by}
use Rattle.host_sockets.specs.Streams.{streams_of}
use Rattle.host_sockets.specs.declared.streams.HostStream.{HostStream}
use Rattle.sim_base.specs.declared.address.Ip.{Ip}
use Rattle.stream_pairs.specs.Directions.{Kept, kept_in}
use Rattle.stream_pairs.specs.declared.kept.KeptStreams.{KeptStreams}
use Rattle.world_order.proofs.Homes.{get_below}
use Rattle.round_lookahead.specs.WorldStands.{HostWorld, WorldStands}
use Rattle.round_lookahead.specs.declared.workers.host_task.HostTask.{HostTask}
use Rattle.round_lookahead.specs.declared.world.world_state.World.{World}

-- what one host keeps
pub kept_is : (id : HostId) (address : Ip) (streams : List HostStream) (h : HostRecord) → id.index ≡ h.link.number → address ≡ h.row.address → streams ≡ streams_of h.parts.sockets
    → (let k : Kept = record { host = id; address = address; streams = streams } in k) ≡ kept_by h
kept_is id address streams h number there kept = λ i. record { host = record { index = number i }; address = there i; streams = kept i }

module _ (c : World) (w : HostWorld) (at : WorldStands c w) where
  -- the host at a place
  host_there : (i : ℕ) (t : HostTask) → i < length c.tasks.items → t ≡ get_or c.tasks.items i t → (h : HostRecord) × (slice_get w.hosts i ≡ Some h) × Stands t.host.value h × (t.id.index ≡ h.link.number)
  host_there i t below is =
      let (h, there) = get_below w.hosts i (let same = at.count in omega arith) in
      let here : slice_get c.tasks.items i ≡ Some t = slice_get-get_or c.tasks.items i t below ∙ ap (λ (x : HostTask). Some x) (sym is) in
      let stands = at.hosts i t h here there in
      (h, there, stands.stands, stands.id ∙ sym (at.between.hosts i h there).number)

  -- one more
  pub kept_more : (i : ℕ) (t : HostTask) (old new : List KeptStreams) (k : KeptStreams) → i < length c.tasks.items → t ≡ get_or c.tasks.items i t → new ≡ old ++ k ∷ []
      → ((h : HostRecord) → Stands t.host.value h → t.id.index ≡ h.link.number → kept_in k ≡ kept_by h) → map kept_in old ≡ map kept_by (take i w.hosts)
      → map kept_in new ≡ map kept_by (take (i + 1) w.hosts)
  kept_more i t old new k below is put tells so_far =
      let (h, there, stands, number) = host_there i t below is in
      let within : i < length w.hosts = (let same = at.count in omega arith) in
      let next : take (i + 1) w.hosts ≡ take i w.hosts ++ h ∷ [] =
      take_more w.hosts i h within ∙ ap (λ (x : HostRecord). take i w.hosts ++ x ∷ []) (get_or_from_slice_get w.hosts i h h there) in
      ap (map kept_in) put ∙ map-append kept_in old (k ∷ []) ∙ ap (λ (l : List Kept). l ++ kept_in k ∷ []) so_far
      ∙ ap (λ (x : Kept). map kept_by (take i w.hosts) ++ x ∷ []) (tells h stands number)
      ∙ sym (ap (map kept_by) next ∙ map-append kept_by (take i w.hosts) (h ∷ []))

  -- and all
  pub kept_all : (i : ℕ) (kept : List KeptStreams) → length c.tasks.items ≤ i → map kept_in kept ≡ map kept_by (take i w.hosts) → map kept_in kept ≡ map kept_by w.hosts
  kept_all i kept past so_far = so_far ∙ ap (map kept_by) (take_all i w.hosts (let same = at.count in omega arith))

  pub few_kept : (kept : List KeptStreams) → map kept_in kept ≡ map kept_by w.hosts → length kept ≤ 2 ^ 32
  few_kept kept is =
      let long : length kept ≡ length w.hosts = sym (length-map kept kept_in) ∙ ap length is ∙ length-map w.hosts kept_by in
      let count = at.between.count in
      let few = at.rounds.few in
      omega arith
